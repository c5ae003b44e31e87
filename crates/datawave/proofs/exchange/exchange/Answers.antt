use Rattle.std.proofs.Common.{[], ◌∙◌, sym, subst, List, ℕ}
use Rattle.datawave.specs.Exchange.{RequestAnswered}
use Rattle.datawave.proofs.Sessions.{known_nothing}
use Rattle.datawave.proofs.exchange.exchange.Goals as goal

pub returns-in-Err-clause-lacks : goal.returns-in-Err-clause-lacks
returns-in-Err-clause-lacks g c w asked stands e formed =
    let answered = c.in-Err.ensures.err w asked stands e formed in
    record { part = []; missing = answered.0; answered = answered.1; output = known_nothing (g.O.Sink.taken c.args.output.now) }

pub returns-clause-lacks : goal.returns-clause-lacks
returns-clause-lacks g c w asked stands e formed =
    let put = c.in-Err-put_all.ensures.part in
    let P : List ℕ → Type 0 = λ text. RequestAnswered g.U.UidMaker.digest w c.args.desk.now (g.K.Keeper.faults c.args.keeper.now) asked text c.answer.new.desk (g.K.Keeper.told c.answer.new.keeper) (g.K.Keeper.faults c.answer.new.keeper) in
    record {
      part = put.part;
      missing = put.missing;
      answered = subst P (sym c.as_slice.ensures ∙ put.whole) (c.in-Ok.ensures.text w asked stands e formed);
      output = put.output;
    }
