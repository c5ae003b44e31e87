-- What is left of an ascending list of keys from a bound on.
use Rattle.std.proofs.Common.{◌≡◌, Bool, true, false, cond, ◌&&◌, ◌||◌, List, [], ◌∷◌, refl, ap, sym, subst, ◌∙◌}
use Rattle.std.specs.Prelude.{IsTrue}
use Rattle.std.specs.Ordering.{is_eq, ordering_reverse}
use Rattle.std.specs.List.{AllByRecursion}
use Rattle.std.specs.declared.cmp.Ordering.{Ordering}
use Rattle.std.specs.declared.cmp.Ordering.TheVariants.{Less, Equal, Greater}
use Rattle.std.proofs.lemmas.Cmp.{tied_itself}
use Rattle.dw_key.specs.DocKeys.{doc_key_cmp}
use Rattle.dw_key.specs.declared.doc_key.DocKey.{DocKey}
use Rattle.dw_nest.specs.declared.bound.Bound.{Bound}
use Rattle.dw_nest.specs.declared.bound.Bound.TheVariants.{Start, After}
use Rattle.dw_nest.specs.Bounds.{Ascends, has, is_before, meets, rest}
use Rattle.dw_nest.proofs.Order.{total, exact, less, placed, Placed, earlier, same, later, not_after, not_after_itself, upward}
use Rattle.dw_nest.proofs.Lists.{none_before}

and_false : (a : Bool) → a && false ≡ false
and_false true = refl
and_false false = refl

or_last : (a b : Bool) → a || b ≡ false → b ≡ false
or_last true b h = absurd (cc)
or_last false b h = h

pub has_first : (x : DocKey) (xs : List DocKey) → has (x ∷ xs) x ≡ true
has_first x xs = ap (λ o. is_eq o || has xs x) (tied_itself total x)

-- a key is among those that meet a bound exactly where it meets the bound and is in the list
pub has_rest : (bound : Bound) (all : List DocKey) (key : DocKey) → has (rest all bound) key ≡ meets bound key && has all key
has_rest bound [] key = sym (and_false (meets bound key))
has_rest bound (x ∷ xs) key = at (meets bound x) refl (doc_key_cmp key x) refl (has_rest bound xs key)
  where
    other : (b : Bool) → is_eq (doc_key_cmp key x) ≡ false → has (rest xs bound) key ≡ meets bound key && has xs key
        → has (cond b (x ∷ rest xs bound) (rest xs bound)) key ≡ meets bound key && (is_eq (doc_key_cmp key x) || has xs key)
    other true n h = ap (λ t. t || has (rest xs bound) key) n ∙ h ∙ ap (λ t. meets bound key && (t || has xs key)) (sym n)
    other false n h = h ∙ ap (λ t. meets bound key && (t || has xs key)) (sym n)

    at : (b : Bool) → meets bound x ≡ b → (o : Ordering) → doc_key_cmp key x ≡ o → has (rest xs bound) key ≡ meets bound key && has xs key
        → has (cond b (x ∷ rest xs bound) (rest xs bound)) key ≡ meets bound key && (is_eq (doc_key_cmp key x) || has xs key)
    at b m Less c h = other b (ap is_eq c) h
    at b m Greater c h = other b (ap is_eq c) h
    at true m Equal c h =
        let met : meets bound key ≡ true = ap (meets bound) (exact key x c) ∙ m in
        ap (λ o. is_eq o || has (rest xs bound) key) c ∙ ap (λ t. t && true) (sym met) ∙ ap (λ o. meets bound key && (is_eq o || has xs key)) (sym c)
    at false m Equal c h =
        let missed : meets bound key ≡ false = ap (meets bound) (exact key x c) ∙ m in
        h ∙ ap (λ t. t && has xs key) missed ∙ ap (λ t. t && (is_eq (doc_key_cmp key x) || has xs key)) (sym missed)

all_met : (bound : Bound) (xs : List DocKey) → AllByRecursion (λ k. IsTrue (meets bound k)) xs → rest xs bound ≡ xs
all_met bound [] h = refl
all_met bound (x ∷ xs) h = ap (λ b. cond b (x ∷ rest xs bound) (rest xs bound)) h.0 ∙ ap (λ ys. x ∷ ys) (all_met bound xs h.1)

all_upward : (bound : Bound) (x : DocKey) → meets bound x ≡ true → (xs : List DocKey) → AllByRecursion (λ k. IsTrue (is_before x k)) xs → AllByRecursion (λ k. IsTrue (meets bound k)) xs
all_upward bound x m [] h = tt
all_upward bound x m (y ∷ ys) h = (upward bound x y m h.0, all_upward bound x m ys h.1)

-- no key that meets the bound is in the list
pub rest_none : (bound : Bound) (all : List DocKey) → ((other : DocKey) → meets bound other ≡ true → has all other ≡ false) → rest all bound ≡ []
rest_none bound [] none = refl
rest_none bound (x ∷ xs) none = at (meets bound x) refl (rest_none bound xs (λ other m. or_last (is_eq (doc_key_cmp other x)) (has xs other) (none other m)))
  where
    at : (b : Bool) → meets bound x ≡ b → rest xs bound ≡ [] → cond b (x ∷ rest xs bound) (rest xs bound) ≡ []
    at true m h = let f : true ≡ false = sym (has_first x xs) ∙ none x m in absurd (cc)
    at false m h = h

-- the first of the keys that meet a bound, and the keys after it
pub rest_first : (bound : Bound) (key : DocKey) (all : List DocKey) → Ascends all → meets bound key ≡ true → has all key ≡ true
    → ((other : DocKey) → meets bound other ≡ true → is_before other key ≡ true → has all other ≡ false) → rest all bound ≡ key ∷ rest all (After key)
rest_first bound key [] up m h none = absurd (cc)
rest_first bound key (x ∷ xs) up m h none =
    at (placed x key) (λ l. rest_first bound key xs up.1 m l (λ other n b. or_last (is_eq (doc_key_cmp other x)) (has xs other) (none other n b)))
  where
    missed : (b : Bool) → meets bound x ≡ b → is_before x key ≡ true → meets bound x ≡ false
    missed true n l = let f : true ≡ false = sym (has_first x xs) ∙ none x n l in absurd (cc)
    missed false n l = n

    at : Placed x key → (has xs key ≡ true → rest xs bound ≡ key ∷ rest xs (After key)) → rest (x ∷ xs) bound ≡ key ∷ rest (x ∷ xs) (After key)
    at (earlier l) on =
        let behind : doc_key_cmp key x ≡ Greater = total.antisymm key x ∙ ap ordering_reverse (less x key l) in
        ap (λ b. cond b (x ∷ rest xs bound) (rest xs bound)) (missed (meets bound x) refl l)
        ∙ on (sym (ap (λ o. is_eq o || has xs key) behind) ∙ h)
        ∙ ap (λ b. key ∷ cond b (x ∷ rest xs (After key)) (rest xs (After key))) (sym (not_after key x l))
    at (same e) on =
        let met : meets bound x ≡ true = ap (meets bound) e ∙ m in
        subst (λ k. rest (x ∷ xs) bound ≡ k ∷ rest (x ∷ xs) (After k)) e
        (ap (λ b. cond b (x ∷ rest xs bound) (rest xs bound)) met
        ∙ ap (λ ys. x ∷ ys) (all_met bound xs (all_upward bound x met xs up.0) ∙ sym (all_met (After x) xs up.0))
        ∙ ap (λ b. x ∷ cond b (x ∷ rest xs (After x)) (rest xs (After x))) (sym (not_after_itself x)))
    at (later l) on = let f : true ≡ false = sym h ∙ none_before Start (x ∷ xs) key x up refl refl l in absurd (cc)
