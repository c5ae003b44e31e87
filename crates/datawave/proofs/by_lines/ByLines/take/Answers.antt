use Rattle.std.proofs.Common.{◌++◌, ◌∙◌, ap, sym, le_refl, le_trans}
use Rattle.datawave.specs.Outside.{seen}
use Rattle.datawave.specs.Lines.{kept}
use Rattle.datawave.proofs.Pieces.{walk_start, walk_line, walk_broken, walk_stopped, walk_end}
use Rattle.datawave.proofs.Results.{on_err_always}
use Rattle.datawave.proofs.by_lines.ByLines.take.Goals as goal

pub loop-text-init : goal.loop-text-init
loop-text-init g c = record { counted = le_refl _; walk = λ w before front h puts. walk_start _ front c.args.piece.now c.args.self.now.line h.0 (h.1, puts) }

pub loop-text-preserved : goal.loop-text-preserved
loop-text-preserved g c = record {
  counted = le_trans c.loop-text.invariant.counted c.take_line.ensures.counted;
  walk = λ w before front h puts.
      let x = c.loop-text.invariant.walk w before front h puts in
      walk_line _ _ front c.args.piece.now c.loop-text.self.line c.clear.new.self c.loop-text.rest.now c.in-Some.text.now c.in-Some.more.now x (c.in-Some.ensures.found x.here) (c.in-Some.ensures.left x.here)
      (c.in_ok-take_line.ensures.put w before x.done (x.here ++ c.in-Some.text.now) (c.in_ok-add.ensures.ok x.here x.keeps) x.takes.0 x.takes.1) c.clear.ensures;
}

pub returns-in_err-take_line-clause-lacks : goal.returns-in_err-take_line-clause-lacks
returns-in_err-take_line-clause-lacks g c =
    on_err_always c.from_residual-in_err-take_line.result (λ w before front h puts.
    let x = c.loop-text.invariant.walk w before front h puts in
    walk_broken g.T.LineWork.whole g.met.T.LineWork.grows g.U.UidMaker.digest w before (seen (g.K.Keeper.told c.take_line.new.keeper) (g.K.Keeper.faults c.take_line.new.keeper) (g.O.Sink.taken c.take_line.new.output)) c.take_line.new.desk _ front c.args.piece.now c.loop-text.self.line c.loop-text.rest.now c.in-Some.text.now c.in-Some.more.now x (c.in-Some.ensures.found x.here)
    (c.in_err-take_line.ensures.lacks w before x.done (x.here ++ c.in-Some.text.now) (c.in_ok-add.ensures.ok x.here x.keeps) x.takes.0 x.takes.1))

pub returns-in_err-add-clause-lacks : goal.returns-in_err-add-clause-lacks
returns-in_err-add-clause-lacks g c =
    on_err_always c.from_residual.result (λ w before front h puts.
    let x = c.loop-text.invariant.walk w before front h puts in
    walk_stopped g.T.LineWork.whole g.met.T.LineWork.grows g.U.UidMaker.digest w before (seen (g.K.Keeper.told c.loop-text.keeper) (g.K.Keeper.faults c.loop-text.keeper) (g.O.Sink.taken c.loop-text.output)) c.loop-text.desk _ front c.args.piece.now c.loop-text.self.line c.loop-text.rest.now x x.takes.1)

pub returns-in_err-add-2-clause-lacks : goal.returns-in_err-add-2-clause-lacks
returns-in_err-add-2-clause-lacks g c =
    on_err_always c.from_residual-in_err-add-2.result (λ w before front h puts.
    let x = c.loop-text.invariant.walk w before front h puts in
    walk_stopped g.T.LineWork.whole g.met.T.LineWork.grows g.U.UidMaker.digest w before (seen (g.K.Keeper.told c.loop-text.keeper) (g.K.Keeper.faults c.loop-text.keeper) (g.O.Sink.taken c.loop-text.output)) c.loop-text.desk _ front c.args.piece.now c.loop-text.self.line c.loop-text.rest.now x x.takes.1)

pub returns-clause-put : goal.returns-clause-put
returns-clause-put g c w before front h puts =
    let x = c.loop-text.invariant.walk w before front h puts in
    let t = walk_end _ front c.args.piece.now c.loop-text.self.line c.loop-text.rest.now x (c.in_default.ensures.none x.here) in
    ((c.in_ok-add-2.ensures.ok x.here x.keeps ∙ ap kept (sym (c.in_default.ensures.all x.here)) ∙ ap kept (sym x.ends), t.0), t.1)
