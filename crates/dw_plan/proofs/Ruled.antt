-- A query that is bound by a dictionary has its rules.
use Rattle.std.proofs.Common.{◌≡◌, ℕ, ◌==◌, Bool, true, false, not, ◌&&◌, ◌||◌, List, [], ◌∷◌, map, Option, Some, None, refl, sym, subst, ◌∙◌}
use denote.Hole.Carrier.{roll}
use Rattle.std.specs.Prelude.{option_map, encode_utf8_all}
use Rattle.std.specs.List.{list_all}
use Rattle.std.proofs.lemmas.Bool.{and_from}
use Rattle.dw_norm.specs.declared.kind.Kind.{Kind}
use Rattle.dw_norm.specs.declared.kind.Kind.TheVariants as kind
use Rattle.dw_dict.specs.Rules.{kind_number, widens}
use Rattle.dw_dict.specs.Dictionary.{Dictionary, rule_of}
use Rattle.dw_dict.specs.declared.rule.FieldRule.{FieldRule}
use Rattle.dw_jexl.specs.declared.query.Op.{Op}
use Rattle.dw_jexl.specs.declared.query.Op.TheVariants as op
use Rattle.dw_jexl.specs.declared.query.Query.{Query, map-Query}
use Rattle.dw_jexl.specs.declared.query.Query.TheOpen.{Query-F}
use Rattle.dw_jexl.specs.declared.query.Query.TheOpen as asked
use Rattle.dw_jexl.specs.declared.query.Query.TheViews.{roll-Query}
use Rattle.dw_jexl.specs.declared.query.Query.TheFolds.{fold-roll-Query, ind-Query}
use Rattle.dw_eval.specs.Bound.{bound, bound_step, all_bound, with_first, literal_form, pattern_form, comparison, pattern_leaf, negated_if, between}
use Rattle.dw_eval.specs.declared.nquery.NQuery.{NQuery, map-NQuery}
use Rattle.dw_eval.specs.declared.nquery.NQuery.TheOpen.{NQuery-F}
use Rattle.dw_eval.specs.declared.nquery.NQuery.TheOpen as layer
use Rattle.dw_eval.specs.declared.nquery.NQuery.TheVariants as nquery
use Rattle.dw_eval.specs.declared.nquery.NQuery.TheViews.{roll-NQuery}
use Rattle.dw_eval.specs.declared.nquery.NQuery.TheFolds.{fold-roll-NQuery}
use Rattle.dw_plan.specs.PlanLaws.{is_ruled, is_ruled_as, ruled_step, BoundAreRuled}

same_kind : (k : Kind) → (kind_number k == kind_number k) ≡ true
same_kind kind.Text = refl
same_kind kind.Noop = refl
same_kind kind.Number = refl
same_kind kind.Date = refl
same_kind kind.Ipv4 = refl

as_it_was : (b : Bool) → (b || not b) ≡ true
as_it_was true = refl
as_it_was false = refl

widens_itself : (rule : FieldRule) → (widens rule rule && widens rule rule) ≡ true
widens_itself rule = and_from (widens rule rule) (widens rule rule) once once
  where
    once : widens rule rule ≡ true
    once =
        and_from ((kind_number rule.kind == kind_number rule.kind) && (rule.indexed || not rule.indexed)) (rule.reversed || not rule.reversed)
        (and_from (kind_number rule.kind == kind_number rule.kind) (rule.indexed || not rule.indexed) (same_kind rule.kind) (as_it_was rule.indexed)) (as_it_was rule.reversed)

own_rule : (dict : Dictionary) (field : List ℕ) → is_ruled_as dict field (rule_of dict field) ≡ true
own_rule dict field = widens_itself (rule_of dict field)

module _ (dict : Dictionary) where
  -- whatever this is bound to has the dictionary's rules
  abbrev Binds : Option NQuery → Type 0
  Binds o = (q : NQuery) → o ≡ Some q → is_ruled dict q ≡ true

  abbrev IsBound : Query → Type 0
  IsBound query = Binds (bound dict query)

  ruled_layer : (y : NQuery-F NQuery) → is_ruled dict (roll-NQuery y) ≡ ruled_step dict (map-NQuery NQuery Bool (is_ruled dict) y)
  ruled_layer y = fold-roll-NQuery Bool (ruled_step dict) y

  given : (r : NQuery) → is_ruled dict r ≡ true → Binds (Some r)
  given r ruled q e = cc

  nothing : Binds None
  nothing q e = cc

  binds_map : {A : Type 0} (f : A → NQuery) → ((a : A) → is_ruled dict (f a) ≡ true) → (o : Option A) → Binds (option_map f o)
  binds_map f all None = nothing
  binds_map f all (Some a) = given (f a) (all a)

  equal_ruled : (field value : List ℕ) → is_ruled dict (nquery.Equal field (rule_of dict field) value) ≡ true
  unfolding roll-NQuery roll
  equal_ruled field value = ruled_layer (layer.Equal field (rule_of dict field) value) ∙ own_rule dict field

  below_ruled : (field value : List ℕ) (edge : Bool) → is_ruled dict (nquery.Below field (rule_of dict field) value edge) ≡ true
  unfolding roll-NQuery roll
  below_ruled field value edge = ruled_layer (layer.Below field (rule_of dict field) value edge) ∙ own_rule dict field

  above_ruled : (field value : List ℕ) (edge : Bool) → is_ruled dict (nquery.Above field (rule_of dict field) value edge) ≡ true
  unfolding roll-NQuery roll
  above_ruled field value edge = ruled_layer (layer.Above field (rule_of dict field) value edge) ∙ own_rule dict field

  between_ruled : (field low : List ℕ) (low_edge : Bool) (high : List ℕ) (high_edge : Bool) → is_ruled dict (nquery.Between field (rule_of dict field) low low_edge high high_edge) ≡ true
  unfolding roll-NQuery roll
  between_ruled field low low_edge high high_edge = ruled_layer (layer.Between field (rule_of dict field) low low_edge high high_edge) ∙ own_rule dict field

  starts_ruled : (field text : List ℕ) → is_ruled dict (nquery.Starts field (rule_of dict field) text) ≡ true
  unfolding roll-NQuery roll
  starts_ruled field text = ruled_layer (layer.Starts field (rule_of dict field) text) ∙ own_rule dict field

  ends_ruled : (field text : List ℕ) → is_ruled dict (nquery.Ends field (rule_of dict field) text) ≡ true
  unfolding roll-NQuery roll
  ends_ruled field text = ruled_layer (layer.Ends field (rule_of dict field) text) ∙ own_rule dict field

  holds_ruled : (field text : List ℕ) → is_ruled dict (nquery.Holds field (rule_of dict field) text) ≡ true
  unfolding roll-NQuery roll
  holds_ruled field text = ruled_layer (layer.Holds field (rule_of dict field) text) ∙ own_rule dict field

  not_ruled : (child : NQuery) → is_ruled dict child ≡ true → is_ruled dict (nquery.Not child) ≡ true
  unfolding roll-NQuery roll
  not_ruled child ruled = ruled_layer (layer.Not child) ∙ ruled

  and_ruled : (children : List NQuery) → list_all (λ b. b) (map (is_ruled dict) children) ≡ true → is_ruled dict (nquery.And children) ≡ true
  unfolding roll-NQuery roll
  and_ruled children ruled = ruled_layer (layer.And children) ∙ ruled

  or_ruled : (children : List NQuery) → list_all (λ b. b) (map (is_ruled dict) children) ≡ true → is_ruled dict (nquery.Or children) ≡ true
  unfolding roll-NQuery roll
  or_ruled children ruled = ruled_layer (layer.Or children) ∙ ruled

  compared : (field value : List ℕ) (o : Op) → is_ruled dict (comparison field (rule_of dict field) o value) ≡ true
  compared field value op.Eq = equal_ruled field value
  compared field value op.Ne = not_ruled (nquery.Equal field (rule_of dict field) value) (equal_ruled field value)
  compared field value op.Lt = below_ruled field value false
  compared field value op.Le = below_ruled field value true
  compared field value op.Gt = above_ruled field value false
  compared field value op.Ge = above_ruled field value true

  matched : (field : List ℕ) (lead trail : Bool) (text : List ℕ) → is_ruled dict (pattern_leaf field (rule_of dict field) lead trail text) ≡ true
  matched field false false text = equal_ruled field text
  matched field false true text = starts_ruled field text
  matched field true false text = ends_ruled field text
  matched field true true text = holds_ruled field text

  turned : (negated : Bool) (q : NQuery) → is_ruled dict q ≡ true → is_ruled dict (negated_if negated q) ≡ true
  turned true q ruled = not_ruled q ruled
  turned false q ruled = ruled

  ends_given : (field : List ℕ) (low : Option (List ℕ)) (low_edge : Bool) (high : Option (List ℕ)) (high_edge : Bool) → Binds (between field (rule_of dict field) low low_edge high high_edge)
  ends_given field (Some low) low_edge (Some high) high_edge = given (nquery.Between field (rule_of dict field) low low_edge high high_edge) (between_ruled field low low_edge high high_edge)
  ends_given field (Some low) low_edge None high_edge = nothing
  ends_given field None low_edge high high_edge = nothing

  abbrev Child : Type 0
  Child = (query : Query) × IsBound query

  abbrev those : List Child → List Query
  those cs = map (λ c. c.0) cs

  abbrev AllBound : Option (List NQuery) → Type 0
  AllBound o = (qs : List NQuery) → o ≡ Some qs → list_all (λ b. b) (map (is_ruled dict) qs) ≡ true

  whole : (given : List NQuery) → list_all (λ b. b) (map (is_ruled dict) given) ≡ true → AllBound (Some given)
  whole given ruled qs e = cc

  joined : (o : Option NQuery) → Binds o → (rest : Option (List NQuery)) → AllBound rest → AllBound (with_first o rest)
  joined None h rest all qs e = cc
  joined (Some q) h None all qs e = cc
  joined (Some q) h (Some rest) all qs e =
      whole (q ∷ rest) (and_from (is_ruled dict q) (list_all (λ b. b) (map (is_ruled dict) rest)) (h q refl) (all rest refl)) qs e

  children_bound : (cs : List Child) → AllBound (all_bound (map (bound dict) (those cs)))
  children_bound [] = whole [] refl
  children_bound (c ∷ cs) = joined (bound dict c.0) c.1 (all_bound (map (bound dict) (those cs))) (children_bound cs)

  gathered : (f : List NQuery → NQuery) → ((qs : List NQuery) → list_all (λ b. b) (map (is_ruled dict) qs) ≡ true → is_ruled dict (f qs) ≡ true) → (o : Option (List NQuery)) → AllBound o → Binds (option_map f o)
  gathered f ruled None all = nothing
  gathered f ruled (Some qs) all = given (f qs) (ruled qs (all qs refl))

  opposed : (o : Option NQuery) → Binds o → Binds (option_map nquery.Not o)
  opposed None h = nothing
  opposed (Some q) h = given (nquery.Not q) (not_ruled q (h q refl))

  step_binds : (y : Query-F Child) → Binds (bound_step dict (map-Query Query (Option NQuery) (bound dict) (map-Query Child Query (λ c. c.0) y)))
  step_binds (asked.Cmp field o literal) =
      binds_map (comparison (encode_utf8_all field) (rule_of dict (encode_utf8_all field)) o) (λ v. compared (encode_utf8_all field) v o) (literal_form (rule_of dict (encode_utf8_all field)).kind (encode_utf8_all literal))
  step_binds (asked.Pattern field negated lead trail text) =
      binds_map (λ form. negated_if negated (pattern_leaf (encode_utf8_all field) (rule_of dict (encode_utf8_all field)) lead trail form))
      (λ form. turned negated (pattern_leaf (encode_utf8_all field) (rule_of dict (encode_utf8_all field)) lead trail form) (matched (encode_utf8_all field) lead trail form))
      (pattern_form (rule_of dict (encode_utf8_all field)).kind (lead || trail) (encode_utf8_all text))
  step_binds (asked.Bounded field low low_open high high_open) =
      ends_given (encode_utf8_all field) (literal_form (rule_of dict (encode_utf8_all field)).kind (encode_utf8_all low)) (not low_open) (literal_form (rule_of dict (encode_utf8_all field)).kind (encode_utf8_all high)) (not high_open)
  step_binds (asked.Not c) = opposed (bound dict c.0) c.1
  step_binds (asked.And cs) = gathered nquery.And and_ruled (all_bound (map (bound dict) (those cs))) (children_bound cs)
  step_binds (asked.Or cs) = gathered nquery.Or or_ruled (all_bound (map (bound dict) (those cs))) (children_bound cs)

  layer_binds : (y : Query-F Child) → IsBound (roll-Query (map-Query Child Query (λ c. c.0) y))
  layer_binds y = subst Binds (sym (fold-roll-Query (Option NQuery) (bound_step dict) (map-Query Child Query (λ c. c.0) y))) (step_binds y)

  pub all_ruled : (query : Query) → IsBound query
  all_ruled = ind-Query IsBound (λ x y is. subst (λ z. IsBound (roll-Query z)) is (layer_binds y))

pub bound_are_ruled : BoundAreRuled
bound_are_ruled dict query q e = all_ruled dict query q e
