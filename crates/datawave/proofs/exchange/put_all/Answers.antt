use Rattle.std.proofs.Common.{le_trans, subst, sym, List, ℕ}
use Rattle.datawave.proofs.Sessions.{Putting, putting_more}
use Rattle.datawave.proofs.exchange.put_all.Goals as goal

pub loop-rest-preserved : goal.loop-rest-preserved
loop-rest-preserved g c = record {
  counted = le_trans c.loop-rest.invariant.counted c.put.ensures.counted;
  putting = subst (λ (rest : List ℕ). Putting (g.O.Sink.taken c.args.output.now) c.args.text.now rest (g.O.Sink.taken c.put.new.self)) (sym c.after-rest.ensures)
      (putting_more (g.O.Sink.taken c.args.output.now) (g.O.Sink.taken c.loop-rest.output) (g.O.Sink.taken c.put.new.self) c.args.text.now c.loop-rest.rest.now c.in_ok-count.count
      c.loop-rest.invariant.putting c.in_ok-count.ensures.bytes);
}
