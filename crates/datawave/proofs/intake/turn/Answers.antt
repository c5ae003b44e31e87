use Rattle.std.proofs.Common.{◌≡◌, ◌∙◌, ap, sym, subst, ℕ, List, length, take, arith}
use Rattle.std.specs.Io.KnownBytes.{prepend_known}
use Rattle.datawave.specs.declared.status.Status.{Status}
use Rattle.datawave.specs.Outside.{seen}
use Rattle.datawave.specs.Session.{Runs}
use Rattle.datawave.specs.Working.{Held}
use Rattle.datawave.proofs.Running.{progress_piece, ends_read_fault, ends_too_much, ends_piece_broken, whole_piece}
use Rattle.datawave.proofs.intake.turn.Goals as goal

pub returns-then-total-talk-clause-ends : goal.returns-then-total-talk-clause-ends
returns-then-total-talk-clause-ends g c reading w start before is p =
    let talk = c.args.talk.now in
    let n : ℕ = c.in-Ok.count in
    let piece : List ℕ = take n c.take_at_most.new.buffer in
    let last = c.piece_size-most.ensures.last (omega (arith, c.in-Ok.ensures.most)) in
    ends_too_much g.U.UidMaker.digest reading (Held reading talk.work) w start (g.S.Source.left c.args.input.now) (g.S.Source.left c.take_at_most.new.input) before (seen (g.K.Keeper.told c.args.keeper.now) (g.K.Keeper.faults c.args.keeper.now) (g.O.Sink.taken c.args.output.now)) talk.desk talk.total n piece p
    c.in-Ok.ensures.bytes (whole_piece n c.take_at_most.new.buffer (omega (arith, c.in-Ok.ensures.most))) (last.0 ∙ sym is) (omega (arith, last.1, c.in-Ok.ensures.most))

pub returns-in-Ok-take-clause-between : goal.returns-in-Ok-take-clause-between
returns-in-Ok-take-clause-between g c reading w start before is p =
    let talk = c.args.talk.now in
    let n : ℕ = c.in-Ok.count in
    progress_piece g.U.UidMaker.digest reading (Held reading talk.work) (Held reading c.take.new.self) w start (g.S.Source.left c.args.input.now) (g.S.Source.left c.take_at_most.new.input) before (seen (g.K.Keeper.told c.args.keeper.now) (g.K.Keeper.faults c.args.keeper.now) (g.O.Sink.taken c.args.output.now)) (seen (g.K.Keeper.told c.take.new.keeper) (g.K.Keeper.faults c.take.new.keeper) (g.O.Sink.taken c.take.new.output))
    talk.desk c.take.new.desk talk.total n c.front_of-piece.result.now p
    (subst (λ (xs : List ℕ). g.S.Source.left c.args.input.now ≡ prepend_known xs (g.S.Source.left c.take_at_most.new.input)) (sym c.front_of-piece.ensures) c.in-Ok.ensures.bytes)
    (ap length c.front_of-piece.ensures ∙ whole_piece n c.take_at_most.new.buffer (omega (arith, c.in-Ok.ensures.most)))
    (c.in-Ok-take.ensures.put reading w before p.taken p.held p.puts)

pub returns-in-Err-take-clause-ends : goal.returns-in-Err-take-clause-ends
returns-in-Err-take-clause-ends g c reading w start before is p =
    let talk = c.args.talk.now in
    let n : ℕ = c.in-Ok.count in
    subst (λ (s : Status). Runs g.U.UidMaker.digest reading s w start (g.S.Source.left c.take_at_most.new.input) before (seen (g.K.Keeper.told c.take.new.keeper) (g.K.Keeper.faults c.take.new.keeper) (g.O.Sink.taken c.take.new.output))) (sym c.end_of.ensures)
    (ends_piece_broken g.U.UidMaker.digest reading (Held reading talk.work) c.in-Err-take.broken w start (g.S.Source.left c.args.input.now) (g.S.Source.left c.take_at_most.new.input) before (seen (g.K.Keeper.told c.args.keeper.now) (g.K.Keeper.faults c.args.keeper.now) (g.O.Sink.taken c.args.output.now)) (seen (g.K.Keeper.told c.take.new.keeper) (g.K.Keeper.faults c.take.new.keeper) (g.O.Sink.taken c.take.new.output))
    talk.desk c.take.new.desk talk.total n c.front_of-piece.result.now p
    (subst (λ (xs : List ℕ). g.S.Source.left c.args.input.now ≡ prepend_known xs (g.S.Source.left c.take_at_most.new.input)) (sym c.front_of-piece.ensures) c.in-Ok.ensures.bytes)
    (ap length c.front_of-piece.ensures ∙ whole_piece n c.take_at_most.new.buffer (omega (arith, c.in-Ok.ensures.most))) (omega (arith, is))
    (c.in-Err-take.ensures.lacks reading w before p.taken p.held p.puts))

pub returns-in-Err-clause-ends : goal.returns-in-Err-clause-ends
returns-in-Err-clause-ends g c reading w start before is p =
    let talk = c.args.talk.now in
    ends_read_fault g.U.UidMaker.digest reading (Held reading talk.work) w start (g.S.Source.left c.args.input.now) (g.S.Source.left c.take_at_most.new.input) before (seen (g.K.Keeper.told c.args.keeper.now) (g.K.Keeper.faults c.args.keeper.now) (g.O.Sink.taken c.args.output.now)) talk.desk talk.total p
    c.in-Err.ensures.bytes (omega (arith, is, talk.within))

pub returns-then-count-eq0-clause-same : goal.returns-then-count-eq0-clause-same
returns-then-count-eq0-clause-same g c = c.finish.ensures.same
