-- The first of some ascending keys by their documents.
use Rattle.std.proofs.Common.{◌≡◌, ℕ, List, [], ◌∷◌, refl, sym, ap, subst, ◌∙◌, Bool, true, false, cond, ◌&&◌, ◌||◌}
use Rattle.std.specs.Prelude.{slice_get, Option, Some, None}
use Rattle.std.specs.List.{AllByRecursion}
use Rattle.std.specs.Ordering.{is_eq, is_lt}
use Rattle.std.specs.Cmp.{tied_itself}
use Rattle.std.specs.declared.cmp.Ordering.{Ordering}
use Rattle.std.specs.declared.cmp.Ordering.TheVariants.{Less, Equal, Greater}
use Rattle.dw_key.specs.declared.doc_key.DocKey.{DocKey}
use Rattle.dw_key.specs.DocKeys.{doc_key_cmp}
use Rattle.dw_key.proofs.DocKeyLaws.{doc_keys_total, doc_keys_exact}
use Rattle.dw_nest.specs.declared.bound.Bound.{Bound}
use Rattle.dw_nest.specs.Bounds.{Ascends as DocsAscend, meets, rest, has, is_before}
use Rattle.dw_tablet.specs.Values.{Value, is_of_doc, some_says}
use Rattle.dw_tablet.proofs.Order.{clash}

equal : (o : Ordering) → is_eq o ≡ true → o ≡ Equal
equal Less h = cc
equal Equal h = refl
equal Greater h = cc

pub same_doc : (a b : DocKey) → is_eq (doc_key_cmp a b) ≡ true → a ≡ b
same_doc a b h = doc_keys_exact a b (equal (doc_key_cmp a b) h)

pub itself : (a : DocKey) → is_eq (doc_key_cmp a a) ≡ true
itself a = ap is_eq (tied_itself doc_keys_total a)

pub not_before_itself : (a : DocKey) → is_before a a ≡ false
not_before_itself a = ap is_lt (tied_itself doc_keys_total a)

-- what is among the later ones comes after
later_has : (k d : DocKey) (ks : List DocKey) → AllByRecursion (λ j. is_before k j ≡ true) ks → has ks d ≡ true → is_before k d ≡ true
later_has k d [] h e = cc
later_has k d (j ∷ ks) h e = at (λ f. later_has k d ks h.1 f) (is_eq (doc_key_cmp d j)) refl e
  where
    at : (has ks d ≡ true → is_before k d ≡ true) → (b : Bool) → is_eq (doc_key_cmp d j) ≡ b → (b || has ks d) ≡ true → is_before k d ≡ true
    at later true g f = subst (λ x. is_before k x ≡ true) (sym (same_doc d j g)) h.0
    at later false g f = later f

or_right : (a b : Bool) → b ≡ true → (a || b) ≡ true
or_right true b i = refl
or_right false b i = i

-- a document that no other one which meets the bound comes before is the first of those that meet it
pub least_first : (all : List DocKey) (bound : Bound) (d : DocKey) → DocsAscend all → has all d ≡ true → meets bound d ≡ true
    → ((x : DocKey) → has all x ≡ true → meets bound x ≡ true → is_before x d ≡ false) → slice_get (rest all bound) 0 ≡ Some d
least_first [] bound d up h m least = cc
least_first (k ∷ ks) bound d up h m least =
    at (λ f. least_first ks bound d up.1 f m (λ x i. least x (or_right (is_eq (doc_key_cmp x k)) (has ks x) i))) (meets bound k) refl (is_eq (doc_key_cmp d k)) refl h
  where
    here : has (k ∷ ks) k ≡ true
    here = ap (λ b. b || has ks k) (itself k)

    at : (has ks d ≡ true → slice_get (rest ks bound) 0 ≡ Some d) → (c : Bool) → meets bound k ≡ c → (b : Bool) → is_eq (doc_key_cmp d k) ≡ b → (b || has ks d) ≡ true
        → slice_get (cond c (k ∷ rest ks bound) (rest ks bound)) 0 ≡ Some d
    at later true g true e f = ap Some (sym (same_doc d k e))
    at later true g false e f = absurd (clash (later_has k d ks up.0 f) (least k here g))
    at later false g true e f = absurd (clash (subst (λ x. meets bound x ≡ true) (same_doc d k e) m) g)
    at later false g false e f = later f

-- where none of them meets the bound, none is left
pub none_meets : (all : List DocKey) (bound : Bound) → ((x : DocKey) → has all x ≡ true → meets bound x ≡ false) → rest all bound ≡ []
none_meets [] bound none = refl
none_meets (k ∷ ks) bound none = ap (λ b. cond b (k ∷ rest ks bound) (rest ks bound)) (none k (ap (λ b. b || has ks k) (itself k))) ∙ none_meets ks bound (λ x h. none x (or_right (is_eq (doc_key_cmp x k)) (has ks x) h))

-- a document of which one of some keys says a value
pub record SaidBy (P : List ℕ → Type 0) (f : List ℕ → Option Value) (keys : List (List ℕ)) (d : DocKey) : Type 0 where
  pub key : List ℕ
  pub value : List ℕ
  pub is : f key ≡ Some (value, d)
  pub holds : P key

pub said_by : (P : List ℕ → Type 0) (f : List ℕ → Option Value) (keys : List (List ℕ)) (d : DocKey) → AllByRecursion P keys → some_says f keys d ≡ true → SaidBy P f keys d
said_by P f [] d h e = cc
said_by P f (k ∷ ks) d h e = at (λ i. said_by P f ks d h.1 i) (f k) refl e
  where
    later : SaidBy P f ks d → SaidBy P f (k ∷ ks) d
    later s = record { key = s.key; value = s.value; is = s.is; holds = s.holds }

    at : (some_says f ks d ≡ true → SaidBy P f ks d) → (o : Option Value) → f k ≡ o → (is_of_doc d o || some_says f ks d) ≡ true → SaidBy P f (k ∷ ks) d
    at by None g i = later (by i)
    at by (Some v) g i = which (is_eq (doc_key_cmp d v.1)) refl i
      where
        which : (b : Bool) → is_eq (doc_key_cmp d v.1) ≡ b → (b || some_says f ks d) ≡ true → SaidBy P f (k ∷ ks) d
        which true j l = record { key = k; value = v.0; is = g ∙ ap (λ x. Some (v.0, x)) (sym (same_doc d v.1 j)); holds = h.0 }
        which false j l = later (by l)
