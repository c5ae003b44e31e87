-- What holds of all bound queries.
use Rattle.std.specs.Prelude.{◌≡◌, ◌↔◌, ℕ, Bool, true, false, ◌&&◌, List, chars, map, Option, Some, None}
use Rattle.std.specs.List.{list_all, list_any}
use Rattle.std.specs.Str.Iter.{HasSubslice}
use Rattle.dw_norm.specs.Normal.{norm}
use Rattle.dw_dict.specs.Dictionary.{Dictionary, rule_of}
use Rattle.dw_event.specs.Texts.{is_same}
use Rattle.dw_event.specs.declared.views.Pair.{Pair}
use Rattle.dw_eval.specs.declared.nview.Formed.{Formed}
use Rattle.dw_eval.specs.declared.nquery.NQuery.{NQuery}
use Rattle.dw_eval.specs.declared.nquery.NQuery.TheVariants as nquery
use Rattle.dw_eval.specs.declared.nquery.NQuery.TheOpen.{NQuery-F, Equal, Below, Above, Between, Starts, Ends, Holds, Not, And, Or}
use Rattle.dw_eval.specs.declared.nquery.NQuery.TheFolds.{fold-NQuery}
use Rattle.dw_jexl.specs.declared.query.Query.{Query}
use Rattle.dw_jexl.specs.Canonical.{canonical}
use Rattle.dw_jexl.specs.QueryLaws.{KeepsLimits}
use Rattle.dw_jexl.specs.Spelling.{Spells}
use Rattle.dw_eval.specs.Bound.{bound}
use Rattle.dw_eval.specs.Named.{named_pairs}
use Rattle.dw_eval.specs.Values.{normal_view}
use Rattle.dw_eval.specs.Leaves.{holds, some_value}
use Rattle.dw_eval.specs.Sat.{sat}
use Rattle.dw_eval.specs.Kleene.{kleene, truth_of}

-- the normal form passes the test, where there is one
abbrev pub passes : (List ℕ → Bool) → Option (List ℕ) → Bool
passes test None = false
passes test (Some form) = test form

-- some value of a field in a view's normal forms passes a test exactly where some pair of the field has a value whose normal form passes it
abbrev pub FormsAreOfValues : Type 0
FormsAreOfValues = (dict : Dictionary) (view : List Pair) (field : List ℕ) (test : List ℕ → Bool) →
    some_value (normal_view dict view) field test ≡ list_any (λ p. is_same p.field field && passes test (norm (rule_of dict p.field).kind p.raw)) view

-- the Not of an And is the Or of the Nots, and the Not of an Or the And of them
abbrev pub DeMorgan : Type 0
DeMorgan = (view : List Formed) (children : List NQuery) →
    (sat view (nquery.Not (nquery.And children)) ≡ sat view (nquery.Or (map nquery.Not children)))
    × (sat view (nquery.Not (nquery.Or children)) ≡ sat view (nquery.And (map nquery.Not children)))

abbrev pub indexed_step : NQuery-F Bool → Bool
indexed_step (Equal field rule value) = rule.indexed
indexed_step (Below field rule value edge) = rule.indexed
indexed_step (Above field rule value edge) = rule.indexed
indexed_step (Between field rule low low_edge high high_edge) = rule.indexed
indexed_step (Starts field rule text) = rule.indexed
indexed_step (Ends field rule text) = rule.indexed
indexed_step (Holds field rule text) = rule.indexed
indexed_step (Not child) = child
indexed_step (And children) = list_all (λ b. b) children
indexed_step (Or children) = list_all (λ b. b) children

-- the field of each leaf is indexed
abbrev pub is_indexed : NQuery → Bool
is_indexed = fold-NQuery Bool indexed_step

-- where each leaf is indexed, the indexes know whether the values satisfy the query
abbrev pub IndexesKnow : Type 0
IndexesKnow = (view : List Formed) (q : NQuery) → is_indexed q ≡ true → kleene view q ≡ truth_of (sat view q)

-- a form holds a text exactly where it is the text with bytes before and behind it, or none
abbrev pub HoldsIsStanding : Type 0
HoldsIsStanding = (form text : List ℕ) → (holds form text ≡ true) ↔ HasSubslice form text

-- the fields that a query does not name do not change whether values satisfy it
abbrev pub NamedFieldsDecide : Type 0
NamedFieldsDecide = (dict : Dictionary) (view : List Pair) (q : NQuery) → sat (normal_view dict (named_pairs q view)) q ≡ sat (normal_view dict view) q

-- what a canonical text is read as is bound as the query that it is the text of, so that they have the same answers
abbrev pub ReadingsAreBoundAlike : Type 0
ReadingsAreBoundAlike = (dict : Dictionary) (source text : List ℕ) (q r : Query) → Spells source q → chars text ≡ canonical q → KeepsLimits text → Spells text r → bound dict r ≡ bound dict q
