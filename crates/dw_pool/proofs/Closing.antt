-- What the passes of a closed counter have claimed together.
use Rattle.std.proofs.Common.{ℕ, ◌≡◌, ◌+◌, ◌<◌, ◌≤◌, inl, inr, List, [], ◌∷◌, length, map, refl, ap, sym, subst, ◌∙◌, arith}
use Rattle.std.specs.Prelude.{Option, Some, None, IsSome, IfSome, option_to_list}
use Rattle.std.specs.List.{All, flat_map}
use Rattle.std.proofs.lemmas.Grind.{common_steps}
use Rattle.std.proofs.lemmas.Bool.{cases_lt}
use Rattle.std.proofs.lemmas.Bool.Decides.{nat_tests}
use Rattle.std.proofs.lemmas.List.Elements.{All-head, All-tail}
use Rattle.std.proofs.lemmas.List.Folds.{flat_map-map}
use Rattle.dw_pool.specs.Numbers.{times, one_below, EachOnce, Climbs}
use Rattle.dw_pool.specs.Counter.{Counter, Holding, claimed_by, drawn_by, held, IsSound}
use Rattle.atomic_table.specs.declared.shared.Seat.{Seat}
use Rattle.dw_pool.specs.declared.drawing.Hand.{Hand}
use Rattle.dw_pool.specs.declared.claims.Claimed.{Claimed}
use Rattle.dw_pool.proofs.Lists.{times-append, climbs_room, below-counted, one_below-less, one_below-past}

-- a pass of so many jobs that was told None
record Told (jobs : ℕ) (p : Holding) : Type 0 where
  climbs : Climbs 0 jobs p.numbers
  kept : ℕ
  kept_is : p.kept ≡ Some kept
  kept_past : jobs ≤ kept

times-climbs : (low jobs n : ℕ) (xs : List ℕ) → Climbs low jobs xs → jobs ≤ n → times n xs ≡ 0
times-climbs low jobs n [] h past = refl
times-climbs low jobs n (x ∷ xs) h past =
    let room = climbs_room (x + 1) jobs xs h.1 in
    let rest = times-climbs (x + 1) jobs n xs h.1 past in
    grind (arith, nat_tests, common_steps)

kept_times : (n k : ℕ) (kept : Option ℕ) → kept ≡ Some k → n < k → times n (option_to_list kept) ≡ 0
kept_times n k kept is less = rw is (grind (arith, nat_tests, common_steps))

kept_once : (k : ℕ) (kept : Option ℕ) → kept ≡ Some k → times k (option_to_list kept) ≡ 1
kept_once k kept is = rw is (grind (arith, nat_tests, common_steps))

-- below the jobs, what was drawn is what was claimed
drawn-below : (jobs n : ℕ) (passes : List Holding) → n < jobs → All (Told jobs) passes → times n (flat_map drawn_by passes) ≡ times n (flat_map (λ p. p.numbers) passes)
drawn-below jobs n [] less told = refl
drawn-below jobs n (p ∷ ps) less told =
    let first = All-head (Told jobs) p ps told in
    let rest = drawn-below jobs n ps less (All-tail (Told jobs) p ps told) in
    let none = kept_times n first.kept p.kept first.kept_is (omega (arith, first.kept_past)) in
    omega (arith, times-append n (drawn_by p) (flat_map drawn_by ps), times-append n p.numbers (option_to_list p.kept), times-append n p.numbers (flat_map (λ q. q.numbers) ps))

-- no number past the jobs was claimed
claimed-past : (jobs n : ℕ) (passes : List Holding) → jobs ≤ n → All (Told jobs) passes → times n (flat_map (λ p. p.numbers) passes) ≡ 0
claimed-past jobs n [] past told = refl
claimed-past jobs n (p ∷ ps) past told =
    let none = times-climbs 0 jobs n p.numbers (All-head (Told jobs) p ps told).climbs past in
    let rest = claimed-past jobs n ps past (All-tail (Told jobs) p ps told) in
    omega (arith, times-append n p.numbers (flat_map (λ q. q.numbers) ps))

-- the word came past the jobs
came_past : (jobs word : ℕ) (passes : List Holding) → 0 < length passes → All (Told jobs) passes → ((n : ℕ) → times n (flat_map drawn_by passes) ≡ one_below word n) → jobs < word
came_past jobs word [] some_pass told all = absurd (omega arith)
came_past jobs word (p ∷ ps) some_pass told all =
    let first = All-head (Told jobs) p ps told in
    let k : ℕ = first.kept in
    let once = kept_once k p.kept first.kept_is in
    let reached = below-counted word k (times k (flat_map drawn_by (p ∷ ps)))
    (omega (arith, times-append k (drawn_by p) (flat_map drawn_by ps), times-append k p.numbers (option_to_list p.kept)))
    (omega (arith, all k)) in
    omega (arith, first.kept_past)

each_once : (jobs word : ℕ) (passes : List Holding) → 0 < length passes → All (Told jobs) passes → ((n : ℕ) → times n (flat_map drawn_by passes) ≡ one_below word n) → EachOnce jobs (flat_map (λ p. p.numbers) passes)
each_once jobs word passes some_pass told all n =
    elim (cases_lt n jobs) [
      | inl less ↦
          sym (drawn-below jobs n passes less told) ∙ all n ∙ one_below-less word n (let past = came_past jobs word passes some_pass told all in omega arith) ∙ sym (one_below-less jobs n less)
      | inr past ↦ claimed-past jobs n passes past told ∙ sym (one_below-past jobs n past)
    ]

told_kept : (jobs : ℕ) (kept : Option ℕ) → IsSome kept → IfSome kept (λ n. jobs ≤ n) → (k : ℕ) × (kept ≡ Some k) × (jobs ≤ k)
told_kept jobs None is past = absurd (cc)
told_kept jobs (Some k) is past = (k, refl, past)

told_by : (c : Counter) (p : Holding) → p.counter ≡ c → IsSound p → IsSome p.kept → Told c.jobs p
told_by c p mine sound is =
    let jobs : p.counter.jobs ≡ c.jobs = ap (λ k. k.jobs) mine in
    let kept = told_kept p.counter.jobs p.kept is sound.kept_past in
    record {
      climbs = subst (λ j. Climbs 0 j p.numbers) jobs sound.climbs;
      kept = kept.0;
      kept_is = kept.1;
      kept_past = omega (arith, kept.2);
    }

-- what the seat of all passes has drawn
pub held_drawn : (whole : Option (Seat ℕ Hand)) (seat : Seat ℕ Hand) (h : Hand) → whole ≡ Some seat → held whole ≡ h → seat.me.0.drawn ≡ h.drawn
held_drawn whole seat h is has = ap (λ v. v.drawn) (sym (ap held is) ∙ has)

-- the lists of a counter's passes, each of which was told None, hold each number below its jobs once
pub closes : (c : Counter) (word : ℕ) (passes : List Holding) (lists : List Claimed) → lists ≡ map claimed_by passes → 0 < length passes → All (λ p. p.counter ≡ c) passes → All IsSound passes → All (λ p. IsSome p.kept) passes
    → ((n : ℕ) → times n (flat_map drawn_by passes) ≡ one_below word n) → EachOnce c.jobs (flat_map (λ l. l.numbers) lists)
closes c word passes lists is some_pass mine sound told all =
    rw (is, flat_map-map) (each_once c.jobs word passes some_pass (λ k d within. told_by c _ (mine k d within) (sound k d within) (told k d within)) all)
