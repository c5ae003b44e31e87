-- What the first key of a rest says of the whole list.
use Rattle.std.proofs.Common.{◌≡◌, Bool, true, false, cond, ◌||◌, refl, sym, ap, ◌∙◌, subst, List, [], ◌∷◌}
use Rattle.std.specs.Prelude.{Some, slice_get}
use Rattle.std.specs.declared.cmp.Ordering.{Ordering}
use Rattle.std.specs.declared.cmp.Ordering.TheVariants.{Less, Equal, Greater}
use Rattle.std.specs.Ordering.{is_eq}
use Rattle.std.specs.List.{AllByRecursion}
use Rattle.std.proofs.lemmas.Cmp.{tied_itself}
use Rattle.dw_key.specs.DocKeys.{doc_key_cmp}
use Rattle.dw_key.specs.declared.doc_key.DocKey.{DocKey}
use Rattle.dw_nest.specs.declared.bound.Bound.{Bound}
use Rattle.dw_nest.specs.Bounds.{is_before, meets, rest, has, Ascends}
use Rattle.dw_nest.specs.declared.bound.Bound.TheVariants.{From}
use Rattle.dw_nest.specs.declared.truth.Truth.TheVariants.{No, Yes}
use Rattle.dw_nest.specs.Kleene.{in_list}
use Rattle.dw_nest.proofs.Order.{total, exact, less, before_trans, from_itself, placed, earlier, same, later, met_from}

or_true : (a : Bool) → a || true ≡ true
or_true true = refl
or_true false = refl

eq_of : (o : Ordering) → is_eq o ≡ true → o ≡ Equal
eq_of Less h = absurd (cc)
eq_of Equal h = refl
eq_of Greater h = absurd (cc)

-- the first key of a rest is in the list
pub first_in : (bound : Bound) (all : List DocKey) (key : DocKey) → slice_get (rest all bound) 0 ≡ Some key → has all key ≡ true
first_in bound [] key h = absurd (cc)
first_in bound (x ∷ xs) key h = go (meets bound x) h (λ k. first_in bound xs key k)
  where
    go : (b : Bool) → slice_get (cond b (x ∷ rest xs bound) (rest xs bound)) 0 ≡ Some key → (slice_get (rest xs bound) 0 ≡ Some key → has xs key ≡ true) → is_eq (doc_key_cmp key x) || has xs key ≡ true
    go true h more = let e : x ≡ key = cc in ap (λ o. is_eq o || has xs key) (subst (λ y. doc_key_cmp key y ≡ Equal) (sym e) (tied_itself total key))
    go false h more = ap (λ b. is_eq (doc_key_cmp key x) || b) (more h) ∙ or_true (is_eq (doc_key_cmp key x))

-- two keys that tie meet the same bounds, so a key that meets one does not tie with a key that misses it
apart : (bound : Bound) (key x : DocKey) → meets bound key ≡ true → meets bound x ≡ false → is_eq (doc_key_cmp key x) ≡ false
apart bound key x m n = go (doc_key_cmp key x) refl
  where
    go : (o : Ordering) → doc_key_cmp key x ≡ o → is_eq o ≡ false
    go Less e = refl
    go Greater e = refl
    go Equal e = absurd (let p = ap (meets bound) (exact key x e) in cc)

both_false : (a b : Bool) → a ≡ false → b ≡ false → a || b ≡ false
both_false a b e f = ap (λ c. c || b) e ∙ f

-- where the rest is empty, no key that meets the bound is in the list
pub none_in : (bound : Bound) (all : List DocKey) (key : DocKey) → rest all bound ≡ [] → meets bound key ≡ true → has all key ≡ false
none_in bound [] key h m = refl
none_in bound (x ∷ xs) key h m = go (meets bound x) refl h (λ k. none_in bound xs key k m)
  where
    go : (b : Bool) → meets bound x ≡ b → cond b (x ∷ rest xs bound) (rest xs bound) ≡ [] → (rest xs bound ≡ [] → has xs key ≡ false) → is_eq (doc_key_cmp key x) || has xs key ≡ false
    go true e h more = absurd (cc)
    go false e h more = both_false _ _ (apart bound key x m e) (more h)

-- a key before the first of an ascending list is not among the others
before_all : (key x : DocKey) (xs : List DocKey) → is_before key x ≡ true → AllByRecursion (λ y. is_before x y ≡ true) xs → has xs key ≡ false
before_all key x [] h all = refl
before_all key x (y ∷ ys) h all = both_false _ _ (ap is_eq (less key y (before_trans key x y h all.0))) (before_all key x ys h all.1)

-- a key before the first of an ascending list's rest, which meets the bound, is not in the list
pub none_before : (bound : Bound) (all : List DocKey) (key first : DocKey) → Ascends all → slice_get (rest all bound) 0 ≡ Some first → meets bound key ≡ true → is_before key first ≡ true → has all key ≡ false
none_before bound [] key first up h m b = refl
none_before bound (x ∷ xs) key first up h m b = go (meets bound x) refl h (λ k. none_before bound xs key first up.1 k m b)
  where
    go : (t : Bool) → meets bound x ≡ t → slice_get (cond t (x ∷ rest xs bound) (rest xs bound)) 0 ≡ Some first → (slice_get (rest xs bound) 0 ≡ Some first → has xs key ≡ false) → is_eq (doc_key_cmp key x) || has xs key ≡ false
    go true e h more =
        let same : x ≡ first = cc in
        let early : is_before key x ≡ true = subst (λ y. is_before key y ≡ true) (sym same) b in
        both_false _ _ (ap is_eq (less key x early)) (before_all key x xs early up.0)
    go false e h more = both_false _ _ (apart bound key x m e) (more h)

-- the first key of a rest meets the bound
pub first_meets : (bound : Bound) (all : List DocKey) (key : DocKey) → slice_get (rest all bound) 0 ≡ Some key → meets bound key ≡ true
first_meets bound [] key h = absurd (cc)
first_meets bound (x ∷ xs) key h = go (meets bound x) refl h (λ k. first_meets bound xs key k)
  where
    go : (t : Bool) → meets bound x ≡ t → slice_get (cond t (x ∷ rest xs bound) (rest xs bound)) 0 ≡ Some key → (slice_get (rest xs bound) 0 ≡ Some key → meets bound key ≡ true) → meets bound key ≡ true
    go true e h more = let same : x ≡ key = cc in subst (λ y. meets bound y ≡ true) same e
    go false e h more = more h

-- what the top after a search for a key says of that key
pub at_key : (all : List DocKey) (bound : Bound) (key top : DocKey) → bound ≡ From key → slice_get (rest all bound) 0 ≡ Some top → doc_key_cmp key top ≡ Equal → Yes ≡ in_list all key
at_key all bound key top at h e = ap (λ b. cond b Yes No) (sym (first_in bound all key (h ∙ ap Some (sym (exact key top e)))))

pub off_key : (all : List DocKey) (bound : Bound) (key top : DocKey) → bound ≡ From key → Ascends all → slice_get (rest all bound) 0 ≡ Some top → (doc_key_cmp key top ≡ Equal → ⊥) → No ≡ in_list all key
off_key all bound key top at up h other =
    let met : meets (From key) top ≡ true = subst (λ b. meets b top ≡ true) at (first_meets bound all top h) in
    let early : is_before key top ≡ true = elim (placed key top) [ earlier k ↦ k | same e ↦ absurd (other (subst (λ y. doc_key_cmp key y ≡ Equal) e (tied_itself total key))) | later k ↦ absurd (met_from key top met k) ] in
    let here : meets bound key ≡ true = subst (λ b. meets b key ≡ true) (sym at) (from_itself key) in
    ap (λ b. cond b Yes No) (sym (none_before bound all key top up h here early))

pub past_key : (all : List DocKey) (bound : Bound) (key : DocKey) → bound ≡ From key → rest all bound ≡ [] → No ≡ in_list all key
past_key all bound key at h =
    let here : meets bound key ≡ true = subst (λ b. meets b key ≡ true) (sym at) (from_itself key) in
    ap (λ b. cond b Yes No) (sym (none_in bound all key h here))
