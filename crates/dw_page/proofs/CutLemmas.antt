-- Events in the order of their shards, cut by shards, are the same events.
use Rattle.std.proofs.Common.{◌≡◌, ◌++◌, ◌∷◌, ◌||◌, [], ℕ, List, Bool, true, false, cond, refl, ap, sym, subst, ◌∙◌}
use Rattle.std.specs.List.{filter, flat_map, AllByRecursion}
use Rattle.std.specs.List.Sorted.{IsStrictlySortedBy}
use Rattle.std.specs.Ordering.{nat_cmp, ordering_then, ordering_reverse}
use Rattle.std.specs.Cmp.{tied_itself}
use Rattle.std.specs.Cmp.Lexicographic.{slice_cmp, nat_list_cmp_total}
use Rattle.std.specs.declared.cmp.Ordering.{Ordering}
use Rattle.std.specs.declared.cmp.Ordering.TheVariants.{Less, Equal, Greater}
use Rattle.std.proofs.lemmas.Map.Keys.{sorted_head, sorted_tail}
use Rattle.dw_key.specs.DocKeys.{doc_key_cmp}
use Rattle.dw_event.specs.declared.reports.Shown.{Shown}
use Rattle.dw_event.specs.Places.{place_cmp}
use Rattle.dw_event.specs.Texts.{is_same}
use Rattle.dw_plan.specs.Joins.{has}
use Rattle.dw_plan.proofs.Named.{same_is, same_itself}
use Rattle.dw_scan.proofs.ShardOrder.{AreUp, place}

abbrev cmp : List ℕ → List ℕ → Ordering
cmp = slice_cmp nat_cmp

-- the events of a shard
abbrev pub of_shard : List Shown → List ℕ → List Shown
of_shard xs k = filter (λ s. is_same s.shard k) xs

abbrev IsBefore : Shown → Shown → Type 0
IsBefore s r = place_cmp (place s) (place r) ≡ Less

other : (x : Shown) (xs : List Shown) (k : List ℕ) → (x.shard ≡ k → ⊥) → of_shard (x ∷ xs) k ≡ of_shard xs k
other x xs k n = at (is_same x.shard k) refl
  where
    at : (b : Bool) → is_same x.shard k ≡ b → cond b (x ∷ of_shard xs k) (of_shard xs k) ≡ of_shard xs k
    at true e = absurd (n (same_is x.shard k e))
    at false e = refl

same : (x : Shown) (xs : List Shown) (k : List ℕ) → x.shard ≡ k → of_shard (x ∷ xs) k ≡ x ∷ of_shard xs k
same x xs k e = ap (λ b. cond b (x ∷ of_shard xs k) (of_shard xs k)) (same_itself x.shard k e)

apart : (a b : List ℕ) → cmp a b ≡ Less → a ≡ b → ⊥
apart a b l e = let q : cmp a b ≡ Equal = ap (cmp a) (sym e) ∙ tied_itself nat_list_cmp_total a in clash (sym q ∙ l)
  where
    clash : Equal ≡ Less → ⊥
    clash e = cc

-- an event after one past a shard is not of the shard
not_before : (k : List ℕ) (s r : Shown) → cmp k s.shard ≡ Less → IsBefore s r → r.shard ≡ k → ⊥
not_before k s r l p e =
    let past : cmp s.shard r.shard ≡ Greater = ap (cmp s.shard) e ∙ nat_list_cmp_total.antisymm s.shard k ∙ ap ordering_reverse l in
    clash (sym (ap (λ o. ordering_then o (doc_key_cmp s.key r.key)) past) ∙ p)
  where
    clash : Greater ≡ Less → ⊥
    clash e = cc

none_before : (k : List ℕ) (s : Shown) (xs : List Shown) → cmp k s.shard ≡ Less → AllByRecursion (IsBefore s) xs → of_shard xs k ≡ []
none_before k s [] l a = refl
none_before k s (x ∷ xs) l a = other x xs k (not_before k s x l a.0) ∙ none_before k s xs l a.1

skipped : (ks : List (List ℕ)) (x : Shown) (xs : List Shown) → AllByRecursion (λ j. cmp x.shard j ≡ Less) ks → flat_map (of_shard (x ∷ xs)) ks ≡ flat_map (of_shard xs) ks
skipped [] x xs a = refl
skipped (k ∷ ks) x xs a =
    ap (λ ys. ys ++ flat_map (of_shard (x ∷ xs)) ks) (other x xs k (apart x.shard k a.0))
    ∙ ap (λ ys. of_shard xs k ++ ys) (skipped ks x xs a.1)

pub all_has : (P : List ℕ → Type 0) (ks : List (List ℕ)) (s : List ℕ) → AllByRecursion P ks → has ks s ≡ true → P s
all_has P [] s a h = cc
all_has P (k ∷ ks) s a h = at (is_same s k) refl h (all_has P ks s a.1)
  where
    at : (b : Bool) → is_same s k ≡ b → (b || has ks s) ≡ true → (has ks s ≡ true → P s) → P s
    at true e g later = subst P (sym (same_is s k e)) a.0
    at false e g later = later g

put : (ks : List (List ℕ)) (x : Shown) (xs : List Shown) → IsStrictlySortedBy cmp ks → has ks x.shard ≡ true → AllByRecursion (IsBefore x) xs → flat_map (of_shard (x ∷ xs)) ks ≡ x ∷ flat_map (of_shard xs) ks
put [] x xs up h a = cc
put (k ∷ ks) x xs up h a = at (is_same x.shard k) refl h (λ later. put ks x xs (sorted_tail cmp k ks up) later a)
  where
    head : AllByRecursion (λ j. cmp k j ≡ Less) ks
    head = sorted_head cmp k ks up

    at : (b : Bool) → is_same x.shard k ≡ b → (b || has ks x.shard) ≡ true
        → (has ks x.shard ≡ true → flat_map (of_shard (x ∷ xs)) ks ≡ x ∷ flat_map (of_shard xs) ks)
        → flat_map (of_shard (x ∷ xs)) (k ∷ ks) ≡ x ∷ flat_map (of_shard xs) (k ∷ ks)
    at true e g later =
        let is : x.shard ≡ k = same_is x.shard k e in
        let P : List ℕ → Type 0 = λ z. AllByRecursion (λ j. cmp z j ≡ Less) ks in
        ap (λ ys. ys ++ flat_map (of_shard (x ∷ xs)) ks) (same x xs k is)
        ∙ ap (λ ys. x ∷ (of_shard xs k ++ ys)) (skipped ks x xs (subst P (sym is) head))
    at false e g later =
        let less : cmp k x.shard ≡ Less = all_has (λ j. cmp k j ≡ Less) ks x.shard head g in
        let none : of_shard xs k ≡ [] = none_before k x xs less a in
        let here : of_shard (x ∷ xs) k ≡ [] = other x xs k (λ i. apart k x.shard less (sym i)) ∙ none in
        ap (λ ys. ys ++ flat_map (of_shard (x ∷ xs)) ks) here
        ∙ later g
        ∙ ap (λ ys. x ∷ (ys ++ flat_map (of_shard xs) ks)) (sym none)

no_events : (ks : List (List ℕ)) → flat_map (of_shard []) ks ≡ []
no_events [] = refl
no_events (k ∷ ks) = no_events ks

-- shards in order, in which all events stand
pub cut_by_shards : (ks : List (List ℕ)) (xs : List Shown) → IsStrictlySortedBy cmp ks → AreUp xs → AllByRecursion (λ (s : Shown). has ks s.shard ≡ true) xs → flat_map (of_shard xs) ks ≡ xs
cut_by_shards ks [] up a h = no_events ks
cut_by_shards ks (x ∷ xs) up a h = put ks x xs up h.0 a.0 ∙ ap (λ ys. x ∷ ys) (cut_by_shards ks xs up a.1 h.1)
