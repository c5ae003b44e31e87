-- Each kind of step keeps the rule of a counter.
use Rattle.std.proofs.Common.{ℕ, ◌≡◌, ◌+◌, ◌-◌, ◌*◌, ◌%◌, ◌^◌, ◌<◌, ◌≤◌, cond, nat_lt, List, [], ◌∷◌, ◌++◌, get_or, slice_index, slice_set, refl, ap, sym, subst, ◌∙◌, arith}
use Rattle.std.proofs.lemmas.Grind.{common_steps}
use Rattle.std.proofs.lemmas.List.{get_or-set_same, length-set}
use Rattle.std.proofs.lemmas.Nat.{mod-mul-add}
use Rattle.std.proofs.lemmas.Bool.Decides.{nat_tests}
use Rattle.std.specs.List.{All}
use lib.ListN.{get_elem?}
use mathlib.Core.Option.{some}
use Rattle.dw_pool.specs.declared.drawing.Hand.{Hand}
use Rattle.dw_pool.specs.Numbers.{times, one_below}
use Rattle.dw_pool.specs.Drawn.{hand, drew, both, total, past, Fair, Given}
use Rattle.dw_pool.proofs.Lists.{times-append, past-append, one_below-more, times-element, below-counted}
use Rattle.dw_pool.proofs.Hands.{total-set, total-push, total_least, other_set, each_set, each_push, past_most, alone}

mod_small : (n m : ℕ) → n < m → n % m ≡ n
mod_small n m h = let e : n ≡ 0 * m + n = omega arith in ap (λ k. k % m) e ∙ mod-mul-add 0 m n h

-- a number past the jobs leaves room for one more
room_more : (n jobs before after old new : ℕ) → n ≤ jobs + before → after + old ≡ before + new → new ≡ old + (cond (nat_lt n jobs) 0 1 + 0) → n + 1 ≤ jobs + after
room_more n jobs before after old new room set is = grind (arith, nat_tests, common_steps)

past_one : (jobs n : ℕ) → cond (nat_lt n jobs) 0 1 ≤ 1
past_one jobs n = grind (arith, common_steps)

-- a hand with a part to spare may draw
fair_drew : (jobs n : ℕ) (v : Hand) → past jobs v.drawn < v.parts → Fair jobs (drew v n)
fair_drew jobs n v part = record {
  past_most = omega (arith, past-append jobs v.drawn (n ∷ []), past_one jobs n);
  idle_empty = λ none. absurd (omega arith);
}

fair_both : (jobs : ℕ) (v w : Hand) → Fair jobs v → Fair jobs w → Fair jobs (both v w)
fair_both jobs v w fair_v fair_w = record {
  past_most = omega (arith, past-append jobs v.drawn w.drawn, fair_v.past_most, fair_w.past_most);
  idle_empty = λ none. rw (fair_v.idle_empty (omega arith), fair_w.idle_empty (omega arith));
}

-- the word stays small
pub small : (jobs passes : ℕ) (words : List ℕ) (hands : List Hand) → Given jobs passes words hands → slice_index words 0 ≤ jobs + passes
small jobs passes words hands given = let most = past_most jobs hands given.fair in let parts = given.parts in let room = given.room in omega arith

pub claims : (jobs passes : ℕ) (words : List ℕ) (hands : List Hand) (id : ℕ) (v : Hand) → jobs < 2 ^ 32 → passes < 2 ^ 32 → past jobs v.drawn < v.parts → Given jobs passes words hands → get_elem? hands id ≡ some v
    → Given jobs passes (slice_set words 0 ((slice_index words 0 + 1) % 2 ^ 64)) (slice_set hands id (drew v (slice_index words 0)))
claims jobs passes words hands id v few_jobs few_passes part given at =
    let n : ℕ = slice_index words 0 in
    let w : Hand = drew v n in
    let low = small jobs passes words hands given in
    let next : (n + 1) % 2 ^ 64 ≡ n + 1 = mod_small (n + 1) (2 ^ 64) (omega arith) in
    let found : slice_index (slice_set words 0 ((n + 1) % 2 ^ 64)) 0 ≡ n + 1 = get_or-set_same words 0 _ 0 (omega (arith, given.one)) ∙ next in
    record {
      one = length-set words 0 _ ∙ given.one;
      parts = omega (arith, given.parts, total-set (λ u. u.parts) hands id v w at);
      once = λ x.
          let changed = total-set (λ u. times x u.drawn) hands id v w at in
          let before = given.once x in
          let after : total (λ u. times x u.drawn) (slice_set hands id w) ≡ one_below (n + 1) x = omega (arith, changed, before, times-append x v.drawn (n ∷ []), one_below-more n x) in
          after ∙ ap (λ k. one_below k x) (sym found);
      room = subst (λ k. k ≤ jobs + total (λ u. past jobs u.drawn) (slice_set hands id w)) (sym found)
          (room_more n jobs _ _ _ _ given.room (total-set (λ u. past jobs u.drawn) hands id v w at) (past-append jobs v.drawn (n ∷ [])));
      fair = each_set (Fair jobs) hands id w (fair_drew jobs n v part) given.fair;
    }

-- the number found is above all that the hand has drawn
pub above : (jobs passes : ℕ) (words : List ℕ) (hands : List Hand) (id : ℕ) (v : Hand) → Given jobs passes words hands → get_elem? hands id ≡ some v → All (λ n. n < slice_index words 0) v.drawn
above jobs passes words hands id v given at k d within =
    let n : ℕ = get_or v.drawn k d in
    below-counted (slice_index words 0) n (times n v.drawn) (times-element v.drawn k d within)
    (let most = total_least (λ u. times n u.drawn) hands id v at in let all = given.once n in omega arith)

pub splits : (jobs passes : ℕ) (words : List ℕ) (hands : List Hand) (id : ℕ) (v : Hand) → 0 < v.parts → v.drawn ≡ [] → Given jobs passes words hands → get_elem? hands id ≡ some v
    → Given jobs passes words (slice_set hands id (hand (v.parts - 1) v.drawn) ++ hand 1 [] ∷ [])
splits jobs passes words hands id v part fresh given at =
    let a : Hand = hand (v.parts - 1) v.drawn in
    let b : Hand = hand 1 [] in
    let set : List Hand = slice_set hands id a in
    record {
      one = given.one;
      parts = omega (arith, given.parts, total-set (λ u. u.parts) hands id v a at, total-push (λ u. u.parts) set b);
      once = λ x. omega (arith, given.once x, total-set (λ u. times x u.drawn) hands id v a at, total-push (λ u. times x u.drawn) set b);
      room = omega (arith, given.room, total-set (λ u. past jobs u.drawn) hands id v a at, total-push (λ u. past jobs u.drawn) set b);
      fair = each_push (Fair jobs) set b record { past_most = omega arith; idle_empty = λ _. refl }
          (each_set (Fair jobs) hands id a record { past_most = omega (arith, ap (past jobs) fresh); idle_empty = λ _. fresh } given.fair);
    }

pub joins : (jobs passes : ℕ) (words : List ℕ) (hands : List Hand) (id : ℕ) (v : Hand) (other : ℕ) (w : Hand) → Given jobs passes words hands → get_elem? hands id ≡ some v
    → ((other ≡ id → ⊥)) → get_elem? (slice_set hands id (both v w)) other ≡ some w
    → Given jobs passes words (slice_set (slice_set hands id (both v w)) other (hand 0 []))
joins jobs passes words hands id v other w given at apart at_other =
    let a : Hand = both v w in
    let b : Hand = hand 0 [] in
    let set : List Hand = slice_set hands id a in
    let fair_v = given.fair id v at in
    let fair_w = given.fair other w (other_set hands id other a w apart at_other) in
    record {
      one = given.one;
      parts = omega (arith, given.parts, total-set (λ u. u.parts) hands id v a at, total-set (λ u. u.parts) set other w b at_other);
      once = λ x. omega (arith, given.once x, total-set (λ u. times x u.drawn) hands id v a at, total-set (λ u. times x u.drawn) set other w b at_other, times-append x v.drawn w.drawn);
      room = omega (arith, given.room, total-set (λ u. past jobs u.drawn) hands id v a at, total-set (λ u. past jobs u.drawn) set other w b at_other, past-append jobs v.drawn w.drawn);
      fair = each_set (Fair jobs) set other b record { past_most = omega arith; idle_empty = λ _. refl }
          (each_set (Fair jobs) hands id a (fair_both jobs v w fair_v fair_w) given.fair);
    }

-- who has every part has drawn each number below the word, once, and no other
pub whole : (jobs passes : ℕ) (words : List ℕ) (hands : List Hand) (id : ℕ) (v : Hand) → v.parts ≡ passes → Given jobs passes words hands → get_elem? hands id ≡ some v → (n : ℕ) → times n v.drawn ≡ one_below (slice_index words 0) n
whole jobs passes words hands id v every given at n =
    sym (alone (λ u. times n u.drawn) (λ u none. ap (times n) none) jobs hands id v at given.fair (given.parts ∙ sym every)) ∙ given.once n
