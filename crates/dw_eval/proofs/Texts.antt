-- A text that stands in another.
use Rattle.std.proofs.Common.{◌≡◌, ◌↔◌, ℕ, Bool, true, false, ◌||◌, List, [], ◌∷◌, length, drop, refl, ap, ◌∙◌, arith}
use Rattle.std.specs.Prelude.{nat_eq}
use Rattle.std.specs.List.{starts_with}
use Rattle.std.specs.Cmp.{both_ways}
use Rattle.std.specs.Str.Iter.{HasSubslice}
use Rattle.std.proofs.lemmas.Bool.Decides.{Decides-eqb}
use Rattle.std.proofs.lemmas.Slice.Eq.{starts_is}
use Rattle.dw_eval.specs.Leaves.{holds}

or_true : (r : Bool) → (r || true) ≡ true
or_true true = refl
or_true false = refl

pub holds_found : (form text : List ℕ) → holds form text ≡ true → HasSubslice form text
holds_found [] text e = ([], drop (length text) [], (starts_is Decides-eqb [] text _ refl).0 e)
holds_found (b ∷ bs) text e = at (starts_with nat_eq (b ∷ bs) text) refl (holds_found bs text) e
  where
    at : (r : Bool) → starts_with nat_eq (b ∷ bs) text ≡ r → (holds bs text ≡ true → HasSubslice bs text) → (r || holds bs text) ≡ true → HasSubslice (b ∷ bs) text
    at true s later h = ([], drop (length text) (b ∷ bs), (starts_is Decides-eqb (b ∷ bs) text _ refl).0 s)
    at false s later h = let k = later h in (b ∷ k.0, k.1, ap (λ l. b ∷ l) k.2)

pub found_holds : (form text : List ℕ) → HasSubslice form text → holds form text ≡ true
found_holds [] text ([], b, e) = (starts_is Decides-eqb [] text _ refl).1 b e
found_holds [] text (x ∷ a, b, e) = absurd (omega (arith, ap length e))
found_holds (c ∷ cs) text ([], b, e) = ap (λ r. r || holds cs text) ((starts_is Decides-eqb (c ∷ cs) text _ refl).1 b e)
found_holds (c ∷ cs) text (x ∷ a, b, e) = ap (λ r. starts_with nat_eq (c ∷ cs) text || r) (found_holds cs text (a, b, ap (drop 1) e)) ∙ or_true (starts_with nat_eq (c ∷ cs) text)

-- a test that finds the text just where it stands is the definition
pub is_holds : (r : Bool) (form text : List ℕ) → (r ≡ true) ↔ HasSubslice form text → r ≡ holds form text
is_holds r form text h = both_ways r (holds form text) (λ t. found_holds form text (h.0 t)) (λ t. h.1 (holds_found form text t))
