-- Queries bound by a dictionary.
use Rattle.std.specs.Prelude.{ℕ, Bool, true, false, ◌&&◌, ◌||◌, not, List, [], ◌∷◌, Option, Some, None, option_map, if◌then◌else◌, encode_utf8_all}
use Rattle.dw_norm.specs.Normal.{norm}
use Rattle.dw_norm.specs.declared.kind.Kind.{Kind}
use Rattle.dw_norm.specs.declared.kind.Kind.TheVariants.{Text, Noop, Number, Date, Ipv4}
use Rattle.dw_dict.specs.Dictionary.{Dictionary, rule_of}
use Rattle.dw_dict.specs.declared.rule.FieldRule.{FieldRule}
use Rattle.dw_event.specs.Names.{lacks_zero}
use Rattle.dw_jexl.specs.declared.query.Op.{Op}
use Rattle.dw_jexl.specs.declared.query.Op.TheVariants.{Eq, Ne, Lt, Le, Gt, Ge}
use Rattle.dw_jexl.specs.declared.query.Query.{Query}
use Rattle.dw_jexl.specs.declared.query.Query.TheOpen.{Query-F, Cmp, Pattern, Bounded, Not, And, Or}
use Rattle.dw_jexl.specs.declared.query.Query.TheFolds.{fold-Query}
use Rattle.dw_eval.specs.declared.nquery.NQuery.{NQuery}
use Rattle.dw_eval.specs.declared.nquery.NQuery.TheVariants as nquery

-- the normal form of a literal, which no byte 0 stands in
abbrev pub literal_form : Kind → List ℕ → Option (List ℕ)
literal_form kind literal = if lacks_zero literal then norm kind literal else None

-- whether a wildcard may stand in a pattern on a field of this kind
abbrev pub takes_wildcards : Kind → Bool
takes_wildcards Text = true
takes_wildcards Noop = true
takes_wildcards Number = false
takes_wildcards Date = false
takes_wildcards Ipv4 = false

-- the normal form of a pattern's text
abbrev pub pattern_form : Kind → Bool → List ℕ → Option (List ℕ)
pattern_form kind wild text = if wild && not (takes_wildcards kind) then None else literal_form kind text

abbrev pub negated_if : Bool → NQuery → NQuery
negated_if true q = nquery.Not q
negated_if false q = q

-- a field compared with a normal form
abbrev pub comparison : List ℕ → FieldRule → Op → List ℕ → NQuery
comparison field rule Eq value = nquery.Equal field rule value
comparison field rule Ne value = nquery.Not (nquery.Equal field rule value)
comparison field rule Lt value = nquery.Below field rule value false
comparison field rule Le value = nquery.Below field rule value true
comparison field rule Gt value = nquery.Above field rule value false
comparison field rule Ge value = nquery.Above field rule value true

-- a wildcard before the text asks how a form ends, one behind it how it starts, and none is an equality
abbrev pub pattern_leaf : List ℕ → FieldRule → Bool → Bool → List ℕ → NQuery
pattern_leaf field rule false false text = nquery.Equal field rule text
pattern_leaf field rule false true text = nquery.Starts field rule text
pattern_leaf field rule true false text = nquery.Ends field rule text
pattern_leaf field rule true true text = nquery.Holds field rule text

-- a field between two ends that both have a normal form
abbrev pub between : List ℕ → FieldRule → Option (List ℕ) → Bool → Option (List ℕ) → Bool → Option NQuery
between field rule (Some low) low_edge (Some high) high_edge = Some (nquery.Between field rule low low_edge high high_edge)
between field rule (Some low) low_edge None high_edge = None
between field rule None low_edge high high_edge = None

abbrev pub bound_comparison : Dictionary → List ℕ → Op → List ℕ → Option NQuery
bound_comparison dict field op literal = option_map (comparison field (rule_of dict field) op) (literal_form (rule_of dict field).kind literal)

abbrev pub bound_pattern : Dictionary → List ℕ → Bool → Bool → Bool → List ℕ → Option NQuery
bound_pattern dict field negated lead trail text =
    option_map (λ form. negated_if negated (pattern_leaf field (rule_of dict field) lead trail form)) (pattern_form (rule_of dict field).kind (lead || trail) text)

-- an end that is not open meets the leaf
abbrev pub bound_range : Dictionary → List ℕ → List ℕ → Bool → List ℕ → Bool → Option NQuery
bound_range dict field low low_open high high_open =
    between field (rule_of dict field) (literal_form (rule_of dict field).kind low) (not low_open) (literal_form (rule_of dict field).kind high) (not high_open)

abbrev pub with_first : Option NQuery → Option (List NQuery) → Option (List NQuery)
with_first None rest = None
with_first (Some q) rest = option_map (λ qs. q ∷ qs) rest

-- the values of all, or none where one has none
abbrev pub all_bound : List (Option NQuery) → Option (List NQuery)
all_bound [] = Some []
all_bound (o ∷ os) = with_first o (all_bound os)

-- fields, literals and texts of patterns stand for their UTF-8
abbrev pub bound_step : Dictionary → Query-F (Option NQuery) → Option NQuery
bound_step dict (Cmp field op literal) = bound_comparison dict (encode_utf8_all field) op (encode_utf8_all literal)
bound_step dict (Pattern field negated lead trail text) = bound_pattern dict (encode_utf8_all field) negated lead trail (encode_utf8_all text)
bound_step dict (Bounded field low low_open high high_open) = bound_range dict (encode_utf8_all field) (encode_utf8_all low) low_open (encode_utf8_all high) high_open
bound_step dict (Not child) = option_map nquery.Not child
bound_step dict (And children) = option_map nquery.And (all_bound children)
bound_step dict (Or children) = option_map nquery.Or (all_bound children)

-- the query with the rule of each leaf's field and with normal forms, or none where a literal is refused
abbrev pub bound : Dictionary → Query → Option NQuery
bound dict = fold-Query (Option NQuery) (bound_step dict)
