use Rattle.std.proofs.Common.{◌≡◌, true, false, sym, refl, ◌∙◌, append-nil}
use Rattle.std.specs.Cmp.Lexicographic.{texts_ties}
use Rattle.dw_event.specs.Texts.{is_same}
use Rattle.dw_wire.proofs.WritingLists.{then, wrote}
use Rattle.dw_wire.proofs.writing.open_field.Goals as goal

pub returns-then-eq : goal.returns-then-eq
returns-then-eq c =
    let same : is_same c.in-Some.current.now c.args.field.now ≡ true = sym (texts_ties c.in-Some.current.now c.args.field.now) ∙ sym c.eq.ensures ∙ c.if-eq.true in
    rw (c.in-Some.is, same) (record { tokens = sym (append-nil c.args.out.now.tokens); before = refl })

pub returns : goal.returns
returns c =
    let other : is_same c.in-Some.current.now c.args.field.now ≡ false = sym (texts_ties c.in-Some.current.now c.args.field.now) ∙ sym c.eq.ensures ∙ c.if-eq.false in
    rw (c.in-Some.is, other) (then (wrote c.in_ok-end_array.ensures) c.in_ok-begin_field.ensures)
