use Rattle.std.proofs.Common.{◌≡◌, ◌<◌, ◌≤◌, ◌^◌, ℕ, length, Option, sym, ◌∙◌, ap, subst, arith}
use Rattle.dw_outside.specs.Tables.{Tables}
use Rattle.dw_outside.specs.Disks.{DiskModel, Now, after, synced}
use Rattle.dw_journal.specs.Opening.{IsOpened}
use Rattle.dw_journal.proofs.Lengths.{told_size, told_synced, told_same}
use Rattle.dw_journal.proofs.Moments.{now_more}
use Rattle.dw_journal.proofs.Results.{if_ok_more}
use Rattle.dw_journal.proofs.Opening.{synced_no_more, torn_start, unsynced_start, whole_start, opened_start, opened_read}
use Rattle.dw_journal.proofs.open.open_disk.Goals as goal

pub returns-then-size-ge2-clause-opened : goal.returns-then-size-ge2-clause-opened
returns-then-size-ge2-clause-opened g c =
    let old = g.D.Disk.model c.args.disk.now in
    let mid = g.D.Disk.model c.sync.new.self in
    let is : mid ≡ after synced old = c.in_ok-sync.ensures.synced ∙ ap (after synced) c.in_ok-size.ensures.same in
    if_ok_more c.read_frames.result _ _
    (λ r read. subst (λ (n : Option DiskModel). Now (λ s. IsOpened s.seen r.0 r.1 n) old) (sym c.read_frames.ensures.same) (opened_read old mid r.0 r.1 is read)) c.read_frames.ensures.read

pub returns-then-size-ge2-clause-placed : goal.returns-then-size-ge2-clause-placed
returns-then-size-ge2-clause-placed g c =
    let old = g.D.Disk.model c.args.disk.now in
    let mid = g.D.Disk.model c.sync.new.self in
    let is : mid ≡ after synced old = c.in_ok-sync.ensures.synced ∙ ap (after synced) c.in_ok-size.ensures.same in
    let fits : c.in_ok-size.size < 2 ^ 64 = omega arith in
    let long = told_size old c.in_ok-size.size c.in_ok-size.ensures.length fits in
    if_ok_more c.read_frames.result _ _ (λ r within. record {
      small = omega (arith, within, fits);
      there = omega (arith, within, long, told_synced old mid is, told_same mid _ c.read_frames.ensures.same);
    }) c.read_frames.ensures.gate

pub returns-then-size-ge2-clause-moments : goal.returns-then-size-ge2-clause-moments
returns-then-size-ge2-clause-moments g c =
    synced_no_more _ _ (g.met.D.Disk.stands c.args.disk.now) (c.read_frames.ensures.same ∙ c.in_ok-sync.ensures.synced ∙ ap (after synced) c.in_ok-size.ensures.same)

pub returns-in_err-write_at-clause-moments : goal.returns-in_err-write_at-clause-moments
returns-in_err-write_at-clause-moments g c =
    let old = g.D.Disk.model c.args.disk.now in
    let small : Now (λ s. length s.seen < 2) old = now_more _ _ old (λ s is. omega (arith, is, c.if-size-ge2.false)) c.in_ok-size.ensures.length in
    torn_start old _ _ (g.met.D.Disk.stands c.args.disk.now) small (c.in_ok-sync.ensures.synced ∙ ap (after synced) c.in_ok-size.ensures.same) c.in_err-write_at.ensures.torn

pub returns-in_err-sync-2-clause-moments : goal.returns-in_err-sync-2-clause-moments
returns-in_err-sync-2-clause-moments g c =
    let old = g.D.Disk.model c.args.disk.now in
    let small : Now (λ s. length s.seen < 2) old = now_more _ _ old (λ s is. omega (arith, is, c.if-size-ge2.false)) c.in_ok-size.ensures.length in
    unsynced_start old _ _ _ (g.met.D.Disk.stands c.args.disk.now) small (c.in_ok-sync.ensures.synced ∙ ap (after synced) c.in_ok-size.ensures.same) c.in_ok-write_at.ensures.written c.in_err-sync-2.ensures.unsynced

pub returns-clause-opened : goal.returns-clause-opened
returns-clause-opened g c =
    let old = g.D.Disk.model c.args.disk.now in
    let small : Now (λ s. length s.seen < 2) old = now_more _ _ old (λ s is. omega (arith, is, c.if-size-ge2.false)) c.in_ok-size.ensures.length in
    subst (λ (t : Tables). Now (λ s. IsOpened s.seen t 0 (g.D.Disk.model c.sync-2.new.self)) old) (sym c.new.ensures)
    (opened_start old _ _ _ small (c.in_ok-sync.ensures.synced ∙ ap (after synced) c.in_ok-size.ensures.same) c.in_ok-write_at.ensures.written c.in_ok-sync-2.ensures.synced)

pub returns-clause-moments : goal.returns-clause-moments
returns-clause-moments g c =
    let old = g.D.Disk.model c.args.disk.now in
    let small : Now (λ s. length s.seen < 2) old = now_more _ _ old (λ s is. omega (arith, is, c.if-size-ge2.false)) c.in_ok-size.ensures.length in
    whole_start old _ _ _ (g.met.D.Disk.stands c.args.disk.now) small (c.in_ok-sync.ensures.synced ∙ ap (after synced) c.in_ok-size.ensures.same) c.in_ok-write_at.ensures.written c.in_ok-sync-2.ensures.synced
