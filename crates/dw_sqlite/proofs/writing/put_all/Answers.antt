use Rattle.std.proofs.Common.{◌≡◌, IsTrue, refl, arith, rules, true}
use Rattle.sqlite.specs.State.{HasCleanDisk, KeepsCommit}
use Rattle.sqlite.specs.Held.{state}
use Rattle.dw_sqlite.proofs.Undone.{not_committed}
use Rattle.dw_sqlite.proofs.Running.{committed_all}
use Rattle.dw_sqlite.proofs.writing.put_all.Goals as goal

pub returns : goal.returns
returns g c =
    let old = c.args.conn.now in
    let start = record old { in_transaction = true } in
    let tx = c.transaction-tx.result.conn.now in
    let mid = c.set_all.new.tx.conn.now in
    let end = c.commit.new.self.0 in
    let begun = c.transaction-tx.ensures.begun in
    let same : end ≡ c.conn-2-1.given.0 = search rules in
    let within : IsTrue tx.in_transaction = rw begun refl in
    record {
      all = λ clean.
          let late : HasCleanDisk (state g.S.Store end) = search rules in
          let was : HasCleanDisk (state g.S.Store mid) = omega (arith, c.commit.ensures.survives.clean) in
          rw (← same) (committed_all g.S.Store c.args.set.now.text c.args.puts.now old tx mid end c.commit.result begun (c.in_ok-set_all.ensures.ran was within) (c.commit.ensures.ok late));
      neither = λ clean is_open.
          let late : HasCleanDisk (state g.S.Store end) = search rules in
          let was : HasCleanDisk (state g.S.Store mid) = omega (arith, c.commit.ensures.survives.clean) in
          let kept : KeepsCommit (state g.S.Store start) (state g.S.Store mid) = rw begun at c.in_ok-set_all.ensures.kept was in
          let inside : IsTrue mid.in_transaction = c.in_ok-set_all.ensures.inside was within in
          let settled = c.is_autocommit.ensures.settled c.if-not-is_autocommit.false in
          let opened : IsTrue (state g.S.Store end).is_open = search rules in
          rw (← same) (not_committed (state g.S.Store old) (state g.S.Store start) (state g.S.Store mid) (state g.S.Store end) c.commit.result refl settled kept inside (c.commit.ensures.err late) opened);
    }
