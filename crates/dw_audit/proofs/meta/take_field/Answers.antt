use Rattle.std.proofs.Common.{ap, sym, ◌∙◌}
use Rattle.dw_derive.specs.MetaReaders.{field_reading}
use Rattle.dw_audit.specs.Meta.{sum_of}
use Rattle.dw_audit.proofs.Passing.{on_ok}
use Rattle.dw_audit.proofs.Spelled.{field_kept}
use Rattle.dw_audit.proofs.meta.take_field.Goals as goal

pub returns-in_ok-define-in-Some : goal.returns-in_ok-define-in-Some
returns-in_ok-define-in-Some c =
    on_ok c.keep.result
    (λ h. field_kept c.rules_have_one_spelling.ensures (sum_of c.args.meta.now) c.args.cell.now.key c.args.cell.now.content c.args.key.now (c.in-Some.field.now, c.in-Some.rule) c.define.new.self c.keep.new.cells
    c.requires (ap (field_reading c.args.key.now) (sym c.as_slice.ensures) ∙ c.in-Some.ensures) c.in_ok-define-in-Some.ensures.ok h)
    c.keep.ensures
