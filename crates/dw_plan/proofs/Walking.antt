-- On walking over the children of an And or Or.
use Rattle.std.proofs.Common.{◌≡◌, ℕ, suc, ◌+◌, ◌<◌, ◌≤◌, Bool, true, false, not, List, [], ◌∷◌, length, drop, get_or, map, refl, sym, ap, ◌∙◌, drop-cons, add-one}
use Rattle.std.proofs.lemmas.List.{drop_all}
use Rattle.dw_eval.specs.declared.nquery.NQuery.{NQuery}
use denote.Hole.Carrier.{roll}
use mathlib.Core.Bool.{beq}
use Rattle.dw_eval.specs.declared.nquery.NQuery.TheVariants as nquery
use Rattle.dw_eval.specs.declared.nquery.NQuery.TheOpen as layer
use Rattle.dw_eval.specs.declared.nquery.NQuery.TheViews.{roll-NQuery}
use Rattle.dw_eval.specs.declared.nquery.NQuery.TheFolds.{fold-roll-NQuery}
use Rattle.dw_plan.specs.Anchored.{Place, anchored_step, anchored_at, and_at, or_at}

and_step : (c : Place → Bool) (cs : List (Place → Bool)) (place : Place) → c place ≡ not place → and_at (c ∷ cs) place ≡ and_at cs place
and_step c cs true e = rw e refl
and_step c cs false e = rw e refl

and_stop : (c : Place → Bool) (cs : List (Place → Bool)) (place : Place) → c place ≡ place → and_at (c ∷ cs) place ≡ place
and_stop c cs true e = rw e refl
and_stop c cs false e = rw e refl

or_step : (c : Place → Bool) (cs : List (Place → Bool)) (place : Place) → c place ≡ place → or_at (c ∷ cs) place ≡ or_at cs place
or_step c cs true e = rw e refl
or_step c cs false e = rw e refl

or_stop : (c : Place → Bool) (cs : List (Place → Bool)) (place : Place) → c place ≡ not place → or_at (c ∷ cs) place ≡ not place
or_stop c cs true e = rw e refl
or_stop c cs false e = rw e refl

and_none : (place : Place) → and_at [] place ≡ not place
and_none true = refl
and_none false = refl

or_none : (place : Place) → or_at [] place ≡ place
or_none true = refl
or_none false = refl

-- the children from a place on
abbrev pub from : ℕ → List NQuery → List (Place → Bool)
from i qs = map anchored_at (drop i qs)

cut : (qs : List NQuery) (i : ℕ) (q : NQuery) → i < length qs → q ≡ get_or qs i q → from i qs ≡ anchored_at q ∷ from (i + 1) qs
cut qs i q h is = rw add-one (ap (map anchored_at) (drop-cons qs i q h ∙ ap (λ p. p ∷ drop (suc i) qs) (sym is)))

pub and_goes_on : (qs : List NQuery) (i : ℕ) (q : NQuery) (place : Place) → i < length qs → q ≡ get_or qs i q → anchored_at q place ≡ not place → and_at (from i qs) place ≡ and_at (from (i + 1) qs) place
and_goes_on qs i q place h is e = ap (λ cs. and_at cs place) (cut qs i q h is) ∙ and_step (anchored_at q) (from (i + 1) qs) place e

pub and_ends : (qs : List NQuery) (i : ℕ) (q : NQuery) (place : Place) → i < length qs → q ≡ get_or qs i q → anchored_at q place ≡ place → and_at (from i qs) place ≡ place
and_ends qs i q place h is e = ap (λ cs. and_at cs place) (cut qs i q h is) ∙ and_stop (anchored_at q) (from (i + 1) qs) place e

pub or_goes_on : (qs : List NQuery) (i : ℕ) (q : NQuery) (place : Place) → i < length qs → q ≡ get_or qs i q → anchored_at q place ≡ place → or_at (from i qs) place ≡ or_at (from (i + 1) qs) place
or_goes_on qs i q place h is e = ap (λ cs. or_at cs place) (cut qs i q h is) ∙ or_step (anchored_at q) (from (i + 1) qs) place e

pub or_ends : (qs : List NQuery) (i : ℕ) (q : NQuery) (place : Place) → i < length qs → q ≡ get_or qs i q → anchored_at q place ≡ not place → or_at (from i qs) place ≡ not place
or_ends qs i q place h is e = ap (λ cs. or_at cs place) (cut qs i q h is) ∙ or_stop (anchored_at q) (from (i + 1) qs) place e

pub and_over : (qs : List NQuery) (i : ℕ) (place : Place) → length qs ≤ i → and_at (from i qs) place ≡ not place
and_over qs i place h = ap (λ rest. and_at (map anchored_at rest) place) (drop_all i qs h) ∙ and_none place

pub or_over : (qs : List NQuery) (i : ℕ) (place : Place) → length qs ≤ i → or_at (from i qs) place ≡ place
or_over qs i place h = ap (λ rest. or_at (map anchored_at rest) place) (drop_all i qs h) ∙ or_none place

pub and_of : (qs : List NQuery) (place : Place) → and_at (map anchored_at qs) place ≡ anchored_at (nquery.And qs) place
unfolding roll-NQuery roll
and_of qs place = sym (ap (λ f. f place) (fold-roll-NQuery (Place → Bool) anchored_step (layer.And qs)))

pub or_of : (qs : List NQuery) (place : Place) → or_at (map anchored_at qs) place ≡ anchored_at (nquery.Or qs) place
unfolding roll-NQuery roll
or_of qs place = sym (ap (λ f. f place) (fold-roll-NQuery (Place → Bool) anchored_step (layer.Or qs)))

pub differs : (a b : Bool) → not (beq a b) ≡ true → a ≡ not b
differs true true h = cc
differs true false h = refl
differs false true h = refl
differs false false h = cc
