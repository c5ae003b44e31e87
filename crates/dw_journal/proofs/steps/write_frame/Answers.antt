use Rattle.std.proofs.Common.{◌∙◌, ◌+◌, arith}
use Rattle.dw_outside.specs.Disks.{wrote, synced}
use Rattle.dw_journal.specs.Fixed.{IsFixed}
use Rattle.dw_journal.proofs.Moments.{torn_runs, step_runs, same_runs, then_runs}
use Rattle.dw_journal.proofs.Fixed.{write_fixed, sync_fixed}
use Rattle.dw_journal.proofs.Lengths.{is_told_same, is_told_after, is_told_torn, told_now, told_same, told_torn, told_wrote, told_synced, told_end}
use Rattle.dw_journal.proofs.steps.write_frame.Goals as goal

pub write_at-requires : goal.write_at-requires
write_at-requires g c = told_now (c.args.gate + 1) (g.D.Disk.model c.args.disk.now) (omega (arith, c.requires.there))

pub returns-in_err-write_at-clause-moments : goal.returns-in_err-write_at-clause-moments
returns-in_err-write_at-clause-moments g c front within now =
    (torn_runs (IsFixed front) _ _ _ _ (λ torn s short is. write_fixed front _ _ torn s within is) now c.in_err-write_at.ensures.torn).since

pub returns-in_err-sync-clause-moments : goal.returns-in_err-sync-clause-moments
returns-in_err-sync-clause-moments g c front within now =
    let P = IsFixed front in
    let wrote_runs = step_runs P (wrote (c.args.gate + 1) c.args.frame.now) _ _ (λ s is. write_fixed front _ _ _ s within is) now c.in_ok-write_at.ensures.written in
    let kept = same_runs P _ _ wrote_runs.now c.in_err-sync.ensures.unsynced in
    (then_runs P _ _ _ wrote_runs kept).since

pub returns-clause-moments : goal.returns-clause-moments
returns-clause-moments g c front within now =
    let P = IsFixed front in
    let wrote_runs = step_runs P (wrote (c.args.gate + 1) c.args.frame.now) _ _ (λ s is. write_fixed front _ _ _ s within is) now c.in_ok-write_at.ensures.written in
    let ended = step_runs P synced _ _ (λ s is. sync_fixed front s is) wrote_runs.now c.in_ok-sync.ensures.synced in
    (then_runs P _ _ _ wrote_runs ended).since

pub returns-in_err-write_at-clause-longer : goal.returns-in_err-write_at-clause-longer
returns-in_err-write_at-clause-longer g c = told_torn _ _ _ _ c.in_err-write_at.ensures.torn

pub returns-in_err-sync-clause-longer : goal.returns-in_err-sync-clause-longer
returns-in_err-sync-clause-longer g c = omega (arith, told_wrote (c.args.gate + 1) c.args.frame.now _ _ c.in_ok-write_at.ensures.written, told_same _ _ c.in_err-sync.ensures.unsynced)

pub returns-clause-longer : goal.returns-clause-longer
returns-clause-longer g c = omega (arith, told_wrote (c.args.gate + 1) c.args.frame.now _ _ c.in_ok-write_at.ensures.written, told_synced _ _ c.in_ok-sync.ensures.synced)

pub returns-clause-end : goal.returns-clause-end
returns-clause-end g c = omega (arith, told_end (c.args.gate + 1) c.args.frame.now _ _ c.in_ok-write_at.ensures.written (omega (arith, c.requires.there)) c.in_ok-write_at.ensures.bound, told_synced _ _ c.in_ok-sync.ensures.synced)

pub returns-in_err-write_at-clause-told : goal.returns-in_err-write_at-clause-told
returns-in_err-write_at-clause-told g c = is_told_torn _ _ _ _ c.in_err-write_at.ensures.torn

pub returns-in_err-sync-clause-told : goal.returns-in_err-sync-clause-told
returns-in_err-sync-clause-told g c = is_told_same _ _ c.in_err-sync.ensures.unsynced ∙ is_told_after (wrote (c.args.gate + 1) c.args.frame.now) _ _ c.in_ok-write_at.ensures.written

pub returns-clause-told : goal.returns-clause-told
returns-clause-told g c = is_told_after synced _ _ c.in_ok-sync.ensures.synced ∙ is_told_after (wrote (c.args.gate + 1) c.args.frame.now) _ _ c.in_ok-write_at.ensures.written
