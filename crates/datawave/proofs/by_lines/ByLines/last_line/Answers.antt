use Rattle.std.proofs.Common.{◌≡◌, true, subst, [], Some, List, ℕ}
use Rattle.datawave.specs.Lines.{lines, whole_lines, rest_after}
use Rattle.datawave.specs.Outside.{seen}
use Rattle.datawave.specs.Exchange.{RequestsPut, RequestsLack}
use Rattle.datawave.proofs.Pieces.{last_none, last_some}
use Rattle.datawave.proofs.Results.{on_ok_then, on_err_then}
use Rattle.datawave.proofs.by_lines.ByLines.last_line.Goals as goal

pub returns-then-is_empty-clause-put : goal.returns-then-is_empty-clause-put
returns-then-is_empty-clause-put g c w before front keeps holds puts =
    let none : whole_lines front ≡ lines front = last_none front c.args.self.now.line keeps (c.is_empty.ensures.0 c.if-is_empty.true) in (
      subst (λ (ls : List (List ℕ)). g.T.LineWork.holds c.args.self.now.work ls) none holds,
      subst (λ (ls : List (List ℕ)). RequestsPut g.U.UidMaker.digest w before (g.T.LineWork.whole ls) c.args.desk.now (seen (g.K.Keeper.told c.args.keeper.now) (g.K.Keeper.faults c.args.keeper.now) (g.O.Sink.taken c.args.output.now))) none puts,
    )

pub returns-clause-put : goal.returns-clause-put
returns-clause-put g c =
    on_ok_then c.take_line.result (λ put w before front keeps holds puts.
    let some : c.args.self.now.line ≡ Some [] → ⊥ = λ e. let full : c.is_empty.result ≡ true = c.is_empty.ensures.1 e in cc in
    let last = last_some front c.args.self.now.line keeps some in
    let r = put w before (whole_lines front) (rest_after [] front) keeps holds puts in (
      subst (λ (ls : List (List ℕ)). g.T.LineWork.holds c.take_line.new.self.work ls) last r.0,
      subst (λ (ls : List (List ℕ)). RequestsPut g.U.UidMaker.digest w before (g.T.LineWork.whole ls) c.take_line.new.desk (seen (g.K.Keeper.told c.take_line.new.keeper) (g.K.Keeper.faults c.take_line.new.keeper) (g.O.Sink.taken c.take_line.new.output))) last r.1,
    )) c.take_line.ensures.put

pub returns-clause-lacks : goal.returns-clause-lacks
returns-clause-lacks g c =
    on_err_then c.take_line.result (λ lacks w before front keeps holds puts.
    let some : c.args.self.now.line ≡ Some [] → ⊥ = λ e. let full : c.is_empty.result ≡ true = c.is_empty.ensures.1 e in cc in
    subst (λ (ls : List (List ℕ)). RequestsLack g.U.UidMaker.digest w before (g.T.LineWork.whole ls) c.take_line.new.desk (seen (g.K.Keeper.told c.take_line.new.keeper) (g.K.Keeper.faults c.take_line.new.keeper) (g.O.Sink.taken c.take_line.new.output)))
    (last_some front c.args.self.now.line keeps some)
    (lacks w before (whole_lines front) (rest_after [] front) keeps holds puts)) c.take_line.ensures.lacks
