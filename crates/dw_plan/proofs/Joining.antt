-- On sets of shards that are joined.
use Rattle.std.proofs.Common.{◌≡◌, ℕ, Bool, true, false, cond, List, [], ◌∷◌, ◌++◌, drop, length, refl, sym, ap, ◌∙◌, append_assoc, arith}
use Rattle.std.specs.Prelude.{filter, Option, Some, None, option_to_list}
use Rattle.std.specs.Ordering.{nat_cmp, match_ordering}
use Rattle.std.specs.Cmp.Lexicographic.{slice_cmp}
use Rattle.std.specs.Set.{sorted_merge}
use Rattle.std.specs.declared.cmp.Ordering.TheVariants.{Less, Equal, Greater}
use Rattle.dw_plan.specs.Joins.{first_order}

abbrev merge : List (List ℕ) → List (List ℕ) → List (List ℕ)
merge = sorted_merge (slice_cmp nat_cmp) true

alone : (xs : List (List ℕ)) → merge xs [] ≡ xs
alone [] = refl
alone (x ∷ xs) = refl

-- what is popped off a list
pub popped : (xs us : List (List ℕ)) (r : Option (List ℕ)) → xs ≡ option_to_list r ++ us → us ≡ drop 1 xs → (x : List ℕ) (rest : List (List ℕ)) → xs ≡ x ∷ rest → (r ≡ Some x) × (us ≡ rest)
popped xs us None e d x rest h =
    let u : us ≡ rest = d ∙ ap (drop 1) h in
    let n : length (x ∷ rest) ≡ length rest = ap length (sym h ∙ e ∙ u) in
    absurd (omega (arith, n))
popped xs us (Some y) e d x rest h =
    let both : x ∷ rest ≡ y ∷ us = sym h ∙ e in
    let first : y ≡ x = cc in
    (ap (λ z. Some z) first, cc)

abbrev Popped : List (List ℕ) → List (List ℕ) → Option (List ℕ) → Type 0
Popped xs us r = (xs ≡ option_to_list r ++ us) × (us ≡ drop 1 xs)

abbrev Steps : List (List ℕ) → List (List ℕ) → List (List ℕ) → List (List ℕ) → Option (List ℕ) → Type 0
Steps xs ys us vs r = merge xs ys ≡ option_to_list r ++ merge us vs

made : (xs ys us vs : List (List ℕ)) (r : Option (List ℕ)) (x : List ℕ) (rest more : List (List ℕ)) → (r ≡ Some x) × (us ≡ rest) → vs ≡ more → merge xs ys ≡ x ∷ merge rest more → Steps xs ys us vs r
made xs ys us vs r x rest more p q h = h ∙ (λ i. option_to_list (sym p.0 i) ++ merge (sym p.1 i) (sym q i))

pub left_first : (xs ys us : List (List ℕ)) (r : Option (List ℕ)) → first_order xs ys ≡ Less → Popped xs us r → Steps xs ys us ys r
left_first [] ys us r o p = cc
left_first (x ∷ xs) [] us r o p = made (x ∷ xs) [] us [] r x xs [] (popped (x ∷ xs) us r p.0 p.1 x xs refl) refl (ap (λ zs. x ∷ zs) (sym (alone xs)))
left_first (x ∷ xs) (y ∷ ys) us r o p =
    made (x ∷ xs) (y ∷ ys) us (y ∷ ys) r x xs (y ∷ ys) (popped (x ∷ xs) us r p.0 p.1 x xs refl) refl
    (ap (λ k. match_ordering k (x ∷ merge xs (y ∷ ys)) (x ∷ merge xs ys) (y ∷ merge (x ∷ xs) ys)) o)

pub both_first : (xs ys us vs : List (List ℕ)) (r q : Option (List ℕ)) → first_order xs ys ≡ Equal → Popped xs us r → Popped ys vs q → Steps xs ys us vs r
both_first [] ys us vs r q o p k = cc
both_first (x ∷ xs) [] us vs r q o p k = cc
both_first (x ∷ xs) (y ∷ ys) us vs r q o p k =
    made (x ∷ xs) (y ∷ ys) us vs r x xs ys (popped (x ∷ xs) us r p.0 p.1 x xs refl) (popped (y ∷ ys) vs q k.0 k.1 y ys refl).1
    (ap (λ n. match_ordering n (x ∷ merge xs (y ∷ ys)) (x ∷ merge xs ys) (y ∷ merge (x ∷ xs) ys)) o)

made_right : (xs ys vs : List (List ℕ)) (r : Option (List ℕ)) (y : List ℕ) (more : List (List ℕ)) → (r ≡ Some y) × (vs ≡ more) → merge xs ys ≡ y ∷ merge xs more → Steps xs ys xs vs r
made_right xs ys vs r y more p h = h ∙ (λ i. option_to_list (sym p.0 i) ++ merge xs (sym p.1 i))

pub right_first : (xs ys vs : List (List ℕ)) (r : Option (List ℕ)) → first_order xs ys ≡ Greater → Popped ys vs r → Steps xs ys xs vs r
right_first [] ys vs r o p = p.0
right_first (x ∷ xs) [] vs r o p = cc
right_first (x ∷ xs) (y ∷ ys) vs r o p =
    made_right (x ∷ xs) (y ∷ ys) vs r y ys (popped (y ∷ ys) vs r p.0 p.1 y ys refl)
    (ap (λ n. match_ordering n (x ∷ merge xs (y ∷ ys)) (x ∷ merge xs ys) (y ∷ merge (x ∷ xs) ys)) o)

-- ---- items that pass

pub kept : (f : List ℕ → Bool) (all xs rest : List (List ℕ)) (x : List ℕ) (c : Bool) → xs ≡ x ∷ rest → f x ≡ c → (all ++ filter f xs) ≡ (all ++ cond c (x ∷ []) []) ++ filter f rest
kept f all xs rest x true e h =
    ap (λ zs. all ++ filter f zs) e ∙ ap (λ b. all ++ cond b (x ∷ filter f rest) (filter f rest)) h ∙ sym (append_assoc all (x ∷ []) (filter f rest))
kept f all xs rest x false e h =
    ap (λ zs. all ++ filter f zs) e ∙ ap (λ b. all ++ cond b (x ∷ filter f rest) (filter f rest)) h ∙ sym (append_assoc all [] (filter f rest))

-- nothing is popped off an empty list alone
pub emptied : (xs us : List (List ℕ)) → xs ≡ us → us ≡ drop 1 xs → xs ≡ []
emptied [] us e d = refl
emptied (x ∷ xs) us e d = let n : length (x ∷ xs) ≡ length xs = ap length (e ∙ d) in absurd (omega (arith, n))
