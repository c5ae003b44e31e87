-- How the outputs of a wave are put in order, and why none is missing.
use Rattle.std.proofs.Common.{ℕ, suc, ◌≡◌, ◌+◌, ◌<◌, ◌⊎◌, inl, inr, cond, nat_eq, List, [], ◌∷◌, ◌++◌, length, map, slice_set, slice_index_or, replicate, refl, ap, sym, subst, ◌∙◌, arith}
use Rattle.std.specs.Prelude.{Option, Some, None, IsSome}
use Rattle.std.specs.Option.{IsSomeAnd}
use Rattle.std.specs.List.{All, AllZip, HoldsAt, flat_map}
use Rattle.std.proofs.lemmas.Grind.{common_steps, flat_map-append}
use Rattle.std.proofs.lemmas.Bool.{cases_eq}
use Rattle.std.proofs.lemmas.Bool.Decides.{nat_tests}
use Rattle.std.proofs.lemmas.List.{append-nil, map-append, length-map, length-set, length-replicate, get_or-set_same, get_or-set_other}
use Rattle.std.proofs.lemmas.List.Folds.{flat_map-map}
use Rattle.std.proofs.lemmas.List.Elements.{All-push, All-append, All-head, All-tail, All-map, All-same}
use Rattle.dw_pool.specs.declared.wave.Worker.{Worker}
use Rattle.dw_pool.specs.Numbers.{times, EachOnce}
use Rattle.dw_pool.specs.Counter.{Counter, Holding, claimed_by}
use Rattle.dw_pool.specs.Waves.{Works, HasWorked, IsGiven, placed}
use Rattle.dw_pool.specs.declared.claims.Claimed.{Claimed}
use Rattle.dw_pool.proofs.Lists.{one_below-less}

pub placed-append : {O : Type 0} (slots : List (Option O)) (ps qs : List (ℕ × O)) → placed slots (ps ++ qs) ≡ placed (placed slots ps) qs
placed-append slots [] qs = refl
placed-append slots (p ∷ ps) qs = placed-append (slice_set slots p.0 (Some p.1)) ps qs

pub placed_push : {O : Type 0} (slots : List (Option O)) (ps : List (ℕ × O)) (p : ℕ × O) → placed slots (ps ++ p ∷ []) ≡ slice_set (placed slots ps) p.0 (Some p.1)
placed_push slots ps p = placed-append slots ps (p ∷ [])

pub all_works_push : {J O : Type 0} (gives : J → O → Type 0) (jobs : List J) (counter : Counter) (team : List (Worker O)) (w : Worker O) → All (Works gives jobs counter) team → Works gives jobs counter w → All (Works gives jobs counter) (team ++ w ∷ [])
all_works_push gives jobs counter team w all one = All-push (Works gives jobs counter) team w all one

-- the pairs of one more worker
pub placed_worker : {O : Type 0} (slots : List (Option O)) (team : List (Worker O)) (w : Worker O) → placed slots (flat_map (λ u. u.pairs.items) (team ++ w ∷ [])) ≡ placed (placed slots (flat_map (λ u. u.pairs.items) team)) w.pairs.items
placed_worker slots team w =
    ap (placed slots) (flat_map-append (λ u. u.pairs.items) team (w ∷ [])) ∙ placed-append slots (flat_map (λ u. u.pairs.items) team) (w.pairs.items ++ [])
    ∙ ap (placed (placed slots (flat_map (λ u. u.pairs.items) team))) (append-nil w.pairs.items)

-- the numbers of all pairs are what the passes claimed
pub numbers-pairs : {J O : Type 0} (gives : J → O → Type 0) (jobs : List J) (counter : Counter) (team : List (Worker O)) → All (HasWorked gives jobs counter) team
    → map (λ p. p.0) (flat_map (λ w. w.pairs.items) team) ≡ flat_map (λ w. w.pass.numbers) team
numbers-pairs gives jobs counter [] worked = refl
numbers-pairs gives jobs counter (w ∷ ws) worked =
    map-append (λ p. p.0) w.pairs.items (flat_map (λ u. u.pairs.items) ws)
    ∙ ap (λ ns. ns ++ map (λ p. p.0) (flat_map (λ u. u.pairs.items) ws)) (All-head (HasWorked gives jobs counter) w ws worked).works.numbers
    ∙ ap (λ ns. w.pass.numbers ++ ns) (numbers-pairs gives jobs counter ws (All-tail (HasWorked gives jobs counter) w ws worked))

-- each pair has an output that its job gives
pub all_given : {J O : Type 0} (gives : J → O → Type 0) (jobs : List J) (counter : Counter) (team : List (Worker O)) → All (HasWorked gives jobs counter) team
    → All (IsGiven gives jobs) (flat_map (λ w. w.pairs.items) team)
all_given gives jobs counter [] worked = λ k d within. absurd (omega arith)
all_given gives jobs counter (w ∷ ws) worked =
    All-append (IsGiven gives jobs) w.pairs.items (flat_map (λ u. u.pairs.items) ws) (All-head (HasWorked gives jobs counter) w ws worked).works.given
    (all_given gives jobs counter ws (All-tail (HasWorked gives jobs counter) w ws worked))

other_counted : (i n counted : ℕ) → (i ≡ n → ⊥) → 0 < cond (nat_eq n i) 1 0 + counted → 0 < counted
other_counted i n counted apart some_counted = grind (arith, nat_tests, common_steps)

-- a place that has a fitting output keeps one, and a place whose number stands in a pair gets one
pub placed_fits : {O : Type 0} (P : ℕ → O → Type 0) (ps : List (ℕ × O)) (slots : List (Option O)) (i : ℕ) (d : Option O) → i < length slots → All (λ p. P p.0 p.1) ps
    → (IsSomeAnd (slice_index_or slots i d) (P i) ⊎ (0 < times i (map (λ p. p.0) ps))) → IsSomeAnd (slice_index_or (placed slots ps) i d) (P i)
placed_fits P [] slots i d within all (inl has) = has
placed_fits P [] slots i d within all (inr counted) = absurd (omega arith)
placed_fits P (p ∷ ps) slots i d within all has =
    let after : List _ = slice_set slots p.0 (Some p.1) in
    placed_fits P ps after i d (omega (arith, length-set slots p.0 (Some p.1))) (All-tail (λ q. P q.0 q.1) p ps all)
    (elim (cases_eq i p.0) [
      | inl same ↦ let here : p.0 < length slots = omega arith in inl (rw same (rw get_or-set_same (All-head (λ q. P q.0 q.1) p ps all)))
      | inr apart ↦
          elim has [
            | inl kept ↦ inl (rw get_or-set_other kept)
            | inr counted ↦ inr (other_counted i p.0 (times i (map (λ q. q.0) ps)) apart counted)
          ]
    ])

some_of : {O : Type 0} (o : Option O) (P : O → Type 0) → IsSomeAnd o P → IsSome o
some_of None P has = absurd has
some_of (Some x) P has = refl

-- the numbers that the passes of a team claimed
claimed_numbers : {O : Type 0} (team : List (Worker O)) (lists : List Claimed) → lists ≡ map claimed_by (map (λ w. w.pass) team) → flat_map (λ l. l.numbers) lists ≡ flat_map (λ w. w.pass.numbers) team
claimed_numbers team lists is = ap (flat_map (λ l. l.numbers)) is ∙ flat_map-map (λ l. l.numbers) claimed_by (map (λ w. w.pass) team) ∙ flat_map-map (λ p. p.numbers) (λ w. w.pass) team

-- the counter of a wave of so many jobs was closed, and each output is at the place of its number
pub record IsClosed {J O : Type 0} (gives : J → O → Type 0) (jobs : List J) (counter : Counter) (team : List (Worker O)) (lists : List Claimed) (slots : List (Option O)) : Type 0 where
  pub count : counter.jobs ≡ length jobs
  pub worked : All (HasWorked gives jobs counter) team
  pub lists_are : lists ≡ map claimed_by (map (λ w. w.pass) team)
  pub once : EachOnce counter.jobs (flat_map (λ l. l.numbers) lists)
  pub slots_are : slots ≡ placed (replicate (length jobs) None) (flat_map (λ w. w.pairs.items) team)
  pub places : length slots ≡ length jobs

module _ {J O : Type 0} (gives : J → O → Type 0) (jobs : List J) (counter : Counter) (team : List (Worker O)) (lists : List Claimed) (slots : List (Option O)) (closed : IsClosed gives jobs counter team lists slots) where
  -- each job's number stands in a pair
  counted : (i : ℕ) → i < length jobs → 0 < times i (map (λ p. p.0) (flat_map (λ w. w.pairs.items) team))
  counted i within =
      let once = closed.once i in
      let one = one_below-less counter.jobs i (omega (arith, closed.count)) in
      let same = ap (times i) (claimed_numbers team lists closed.lists_are ∙ sym (numbers-pairs gives jobs counter team closed.worked)) in
      omega arith

  -- each place has an output that its job gives
  fits : (i : ℕ) (d : Option O) → i < length jobs → IsSomeAnd (slice_index_or slots i d) (λ o. HoldsAt (λ job. gives job o) jobs i)
  fits i d within =
      subst (λ ss. IsSomeAnd (slice_index_or ss i d) (λ o. HoldsAt (λ job. gives job o) jobs i)) (sym closed.slots_are)
      (placed_fits (λ n o. HoldsAt (λ job. gives job o) jobs n) (flat_map (λ w. w.pairs.items) team) (replicate (length jobs) None) i d
      (omega (arith, length-replicate {A = Option O} (length jobs) None))
      (λ k e in'. (all_given gives jobs counter team closed.worked k e in').1)
      (inr (counted i within)))

  pub none_missing : All IsSome slots
  none_missing i d within = some_of (slice_index_or slots i d) _ (fits i d (omega (arith, closed.places)))

all_zip : {J O : Type 0} (gives : J → O → Type 0) (jobs : List J) (outs : List O) → length outs ≡ length jobs
    → ((i : ℕ) (d : Option O) → i < length jobs → IsSomeAnd (slice_index_or (map Some outs) i d) (λ o. HoldsAt (λ job. gives job o) jobs i)) → AllZip gives jobs outs
all_zip gives [] [] same each = tt
all_zip gives [] (o ∷ os) same each = absurd (omega arith)
all_zip gives (j ∷ js) [] same each = absurd (omega arith)
all_zip gives (j ∷ js) (o ∷ os) same each = (each 0 None (omega arith) j, all_zip gives js os (omega arith) (λ i d within. each (suc i) d (omega arith)))

-- the outputs in order are what the jobs give
pub gives_in_order : {J O : Type 0} (gives : J → O → Type 0) (jobs : List J) (counter : Counter) (team : List (Worker O)) (lists : List Claimed) (slots : List (Option O)) (outs : List O)
    → IsClosed gives jobs counter team lists slots → map Some outs ≡ slots → AllZip gives jobs outs
gives_in_order gives jobs counter team lists slots outs closed is =
    all_zip gives jobs outs (omega (arith, length-map outs Some, ap length is, closed.places))
    (λ i d within. subst (λ ss. IsSomeAnd (slice_index_or ss i d) (λ o. HoldsAt (λ job. gives job o) jobs i)) (sym is) (fits gives jobs counter team lists slots closed i d within))

-- what a wave knows of the passes that it hands back
pub passes_mine : {J O : Type 0} (gives : J → O → Type 0) (jobs : List J) (counter : Counter) (team : List (Worker O)) (passes : List Holding) → All (HasWorked gives jobs counter) team → passes ≡ map (λ w. w.pass) team → All (λ p. p.counter ≡ counter) passes
passes_mine gives jobs counter team passes worked are =
    All-same (λ p. p.counter ≡ counter) passes _ are (All-map (λ p. p.counter ≡ counter) (λ w. w.pass) team (λ k d within. (worked k d within).works.mine))

pub passes_told : {J O : Type 0} (gives : J → O → Type 0) (jobs : List J) (counter : Counter) (team : List (Worker O)) (passes : List Holding) → All (HasWorked gives jobs counter) team → passes ≡ map (λ w. w.pass) team → All (λ p. IsSome p.kept) passes
passes_told gives jobs counter team passes worked are =
    All-same (λ p. IsSome p.kept) passes _ are (All-map (λ p. IsSome p.kept) (λ w. w.pass) team (λ k d within. (worked k d within).told))
