use Rattle.std.proofs.Common.{IsTrue, ap, ◌∙◌, sym, subst, List, ℕ, Some}
use Rattle.dw_base.specs.FieldNames.{is_folded_name}
use Rattle.dw_dict.specs.Rules.{Widens}
use Rattle.dw_dict.specs.Dictionary.{rule_of}
use Rattle.dw_derive.specs.Tables.{tables}
use Rattle.dw_derive.specs.Lawful.{IsWorld}
use Rattle.dw_derive.specs.MetaTables.{with_rule}
use Rattle.dw_ingest.specs.Reindexed.{with_rule_read}
use Rattle.dw_desk.proofs.storing.store_wider_rule.Goals as goal

pub reindex-requires : goal.reindex-requires
reindex-requires g c = subst (λ (f : List ℕ). Widens c.args.rule (rule_of c.args.dict.now f)) (sym c.as_str.ensures.same) c.requires

pub returns-in-Ok-clause-ok : goal.returns-in-Ok-clause-ok
returns-in-Ok-clause-ok g c = λ w world dict told.
    (c.in-Ok.ensures.ok w world dict told).tables ∙ ap (λ f. Some (tables (with_rule w f c.args.rule))) c.as_str.ensures.same

pub returns-in-Ok-clause-lawful : goal.returns-in-Ok-clause-lawful
returns-in-Ok-clause-lawful g c = λ w world dict told.
    subst (λ (f : List ℕ). IsTrue (is_folded_name f) → IsWorld (with_rule w f c.args.rule)) c.as_str.ensures.same (c.in-Ok.ensures.ok w world dict told).world

pub returns-in-Ok-clause-read : goal.returns-in-Ok-clause-read
returns-in-Ok-clause-read g c =
    c.in-Ok.ensures.read ∙ ap (λ f. with_rule_read (rule_of c.args.dict.now f) c.args.rule (g.K.Keeper.reads c.args.keeper.now)) c.as_str.ensures.same
