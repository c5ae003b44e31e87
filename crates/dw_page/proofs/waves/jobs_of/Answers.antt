use Rattle.std.proofs.Common.{refl}
use Rattle.dw_page.proofs.WaveLemmas.{open_more, closed_more}
use Rattle.dw_page.proofs.waves.jobs_of.Goals as goal
use Rattle.dw_page.proofs.waves.jobs_of.Goals.{in-Some+in_ok-push, in_default}

pub loop-slot-preserved : goal.loop-slot-preserved
loop-slot-preserved c =
    let ask = c.args.ask.now in
    let slots = c.args.slots.now in
    let i = c.loop-slot.slot-index in
    let slot = c.slot-item.result in
    let jobs = c.loop-slot.jobs.items in
    elim c.match-slot.branch [
      | in-Some+in_ok-push w ↦
          rw (w.jobs-is, w.in_ok-push.ensures.items)
          (open_more ask slots i slot jobs _ c.loop-slot-test.true c.slot-item.is c.loop-slot.invariant
          record { tablet_is = w.in-Some.is; resume_is = refl; ask_is = refl })
      | in_default w ↦
          rw w.jobs-is (closed_more ask slots i slot jobs c.loop-slot-test.true c.slot-item.is c.loop-slot.invariant w.in_default.is)
    ]
