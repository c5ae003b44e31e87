use Rattle.std.proofs.Common.{◌≡◌, IsTrue, drop}
use Rattle.sqlite.specs.State.{HasCleanDisk, KeepsCommit, Survives}
use Rattle.sqlite.specs.Held.{Held, state}
use Rattle.dw_sqlite.specs.Ran.{RanAll}
use Rattle.dw_sqlite.proofs.writing.set_all.Given as goal

abbrev pub invariant-loop-put : goal.invariant-loop-put
invariant-loop-put g l =
    let first = l.fn.tx.conn.now in
    let last = l.tx.conn.now in
    let old = state g.S.Store first in
    let now = state g.S.Store last in
    record {
      same_reference : l.tx.conn.ghost_name ≡ l.fn.tx.conn.ghost_name;
      kept : HasCleanDisk now → KeepsCommit old now;
      survives : Survives old now (λ _. ⊥);
      inside : HasCleanDisk now → IsTrue first.in_transaction → IsTrue last.in_transaction;
      ran : HasCleanDisk now → IsTrue first.in_transaction → (k : Held _) → RanAll g.S.Store l.set.text (drop l.put-index l.puts) last k → RanAll g.S.Store l.set.text l.puts first k;
    }
