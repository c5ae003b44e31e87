use Rattle.std.proofs.Common.{◌≡◌, Some, ap, sym, subst, ◌∙◌}
use Rattle.std.specs.Option.{option_map}
use Rattle.std.specs.FinMap.{insert, len}
use Rattle.dw_dict.specs.Dictionary.{Dictionary, rule_of}
use Rattle.dw_dict.specs.Rules.{Widens}
use Rattle.dw_outside.specs.Tables.{over}
use Rattle.dw_derive.specs.Indexing.{added_tables}
use Rattle.dw_derive.specs.Meta.{field_slot, rule_bytes}
use Rattle.dw_derive.specs.Tables.{tables}
use Rattle.dw_ingest.proofs.reindexing.reindex.Goals as goal

pub returns-clause-ok : goal.returns-clause-ok
returns-clause-ok g c w is dict told =
    let field = c.args.field.now in
    let rule = c.args.rule in
    let P : Dictionary → Type 0 = λ d. Widens rule (rule_of d field) in
    let wide : Widens rule (rule_of w.dict field) = subst P (sym dict) c.requires in
    let batch : c.in_ok-batch.batch ≡ added_tables w field rule = c.in_ok-batch.ensures.added w is.events dict c.requires told in
    record {
      tables = c.in_ok-count.ensures.ok
          ∙ ap (option_map (λ t. insert (over c.in_ok-batch.batch t) (field_slot field) (rule_bytes rule))) (c.in_ok-batch.ensures.same ∙ told)
          ∙ ap Some (ap (λ b. insert (over b (tables w)) (field_slot field) (rule_bytes rule)) batch ∙ c.indexes_are_added.ensures w field rule is.events wide);
      count = c.in_ok-count.ensures.count ∙ ap len batch ∙ c.added_are_new.ensures w field rule is.events wide;
      world = c.wider_rules_keep_worlds.ensures w field rule wide is;
    }
