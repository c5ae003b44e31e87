-- The places that an iterator over one value may lack.
use Rattle.std.proofs.Common.{◌≡◌, ℕ, true, false, not, ◌&&◌, ◌||◌, List, [], ◌∷◌, ◌++◌, refl, sym, ap, subst, ◌∙◌}
use Rattle.std.specs.Prelude.{Option, Some, None, IfSome}
use Rattle.std.proofs.lemmas.Bool.{and_from, not_from_false}
use Rattle.dw_key.specs.KeyCode.{escaped}
use Rattle.dw_nest.specs.declared.bound.Bound.{Bound}
use Rattle.dw_nest.specs.declared.bound.Bound.TheVariants.{Start, From, After}
use Rattle.dw_derive.specs.Entries.{doc_text}
use Rattle.dw_tablet.specs.declared.span.Span.{Span}
use Rattle.dw_tablet.specs.Held.{Held}
use Rattle.dw_tablet.specs.Places.{below, covers, in_span, IsGap}
use Rattle.dw_tablet.specs.Positions.{value_start, value_end, bound_place}
use Rattle.dw_tablet.proofs.Order.{upto, not_itself}
use Rattle.dw_tablet.proofs.EqualPlaces.{not_below_front}
use Rattle.dw_iter.specs.Made.{ends_of, lies_within, made_of, LacksPlace}

-- what lies within the ends is covered
pub within_ends : (spans : List Span) (place : List ℕ) → lies_within (ends_of spans) place ≡ covers spans place
within_ends [] place = refl
within_ends (s ∷ ss) place = ap (λ b. in_span s place || b) (within_ends ss place)

bound_from : (shard field value : List ℕ) (bound : Bound) → below (bound_place shard field value bound) (value_start shard field value) ≡ false
bound_from shard field value Start = not_itself (value_start shard field value)
bound_from shard field value (From doc) = not_below_front (value_start shard field value) (escaped (doc_text doc) ++ 0 ∷ 0 ∷ [])
bound_from shard field value (After doc) = not_below_front (value_start shard field value) (escaped (doc_text doc) ++ 0 ∷ 1 ∷ [])

-- the first place that is not covered, from a bound on, is one that it lacks
pub gap_lacked : (t : Held) (field value : List ℕ) (bound : Bound) (p e place : List ℕ) → p ≡ bound_place t.shard field value bound → e ≡ value_end t.shard field value
    → IsGap t.spans p place × (below place e ≡ true) → LacksPlace (made_of t field value) place
gap_lacked t field value bound p e place from end gap =
    let start = value_start t.shard field value in
    let low : below place start ≡ false = upto start p place (ap (λ x. below x start) from ∙ bound_from t.shard field value bound) gap.0.after in (
      and_from (not (below place start)) (below place (value_end t.shard field value)) (not_from_false (below place start) low) (ap (λ x. below place x) (sym end) ∙ gap.1),
      within_ends t.spans place ∙ gap.0.missing,
    )

pub some_lacked : (t : Held) (field value : List ℕ) (bound : Bound) (p e : List ℕ) (spans : List Span) (o : Option (List ℕ)) → spans ≡ t.spans → p ≡ bound_place t.shard field value bound → e ≡ value_end t.shard field value
    → IfSome o (λ q. IsGap spans p q × (below q e ≡ true)) → IfSome o (λ q. LacksPlace (made_of t field value) q)
some_lacked t field value bound p e spans None same from end h = tt
some_lacked t field value bound p e spans (Some q) same from end h = gap_lacked t field value bound p e q from end (subst (λ ss. IsGap ss p q × (below q e ≡ true)) same h)
