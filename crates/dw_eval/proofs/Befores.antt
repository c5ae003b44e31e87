-- On binding children one after another.
use Rattle.std.proofs.Common.{◌≡◌, ℕ, ◌≤◌, ◌++◌, List, length, drop, map, sym, ap, ◌∙◌, append-nil}
use denote.Hole.Carrier.{roll}
use Rattle.std.proofs.lemmas.List.{drop_all}
use Rattle.std.specs.Prelude.{Option, Some, None, option_map, encode_utf8_all}
use Rattle.dw_dict.specs.Dictionary.{Dictionary}
use Rattle.dw_jexl.specs.declared.query.Op.{Op}
use Rattle.dw_jexl.specs.declared.query.Query.{Query}
use Rattle.dw_jexl.specs.declared.query.Query.TheVariants as query
use Rattle.dw_jexl.specs.declared.query.Query.TheOpen as layer
use Rattle.dw_jexl.specs.declared.query.Query.TheViews.{roll-Query}
use Rattle.dw_jexl.specs.declared.query.Query.TheFolds.{fold-roll-Query}
use Rattle.dw_eval.specs.declared.nquery.NQuery.{NQuery}
use Rattle.dw_eval.specs.declared.nquery.NQuery.TheVariants as nquery
use Rattle.dw_eval.specs.Bound.{bound, bound_step, bound_comparison, all_bound}

-- what is bound so far before the rest
abbrev pub before : List NQuery → Option (List NQuery) → Option (List NQuery)
before out None = None
before out (Some rest) = Some (out ++ rest)

pub comparison_bound : (dict : Dictionary) (field : List ℕ) (op : Op) (literal : List ℕ) → bound dict (query.Cmp field op literal) ≡ bound_comparison dict (encode_utf8_all field) op (encode_utf8_all literal)
unfolding roll-Query roll
comparison_bound dict field op literal = fold-roll-Query (Option NQuery) (bound_step dict) (layer.Cmp field op literal)

and_bound : (dict : Dictionary) (children : List Query) → bound dict (query.And children) ≡ option_map nquery.And (all_bound (map (bound dict) children))
unfolding roll-Query roll
and_bound dict children = fold-roll-Query (Option NQuery) (bound_step dict) (layer.And children)

or_bound : (dict : Dictionary) (children : List Query) → bound dict (query.Or children) ≡ option_map nquery.Or (all_bound (map (bound dict) children))
unfolding roll-Query roll
or_bound dict children = fold-roll-Query (Option NQuery) (bound_step dict) (layer.Or children)

module _ (dict : Dictionary) (children : List Query) (out : List NQuery) (n : ℕ) (end : length children ≤ n)
    (so_far : before out (all_bound (map (bound dict) (drop n children))) ≡ all_bound (map (bound dict) children)) where
  all_done : Some out ≡ all_bound (map (bound dict) children)
  all_done = ap Some (sym (append-nil out)) ∙ ap (λ qs. before out (all_bound (map (bound dict) qs))) (sym (drop_all n children end)) ∙ so_far

  pub and_done : Some (nquery.And out) ≡ bound dict (query.And children)
  and_done = ap (option_map nquery.And) all_done ∙ sym (and_bound dict children)

  pub or_done : Some (nquery.Or out) ≡ bound dict (query.Or children)
  or_done = ap (option_map nquery.Or) all_done ∙ sym (or_bound dict children)
