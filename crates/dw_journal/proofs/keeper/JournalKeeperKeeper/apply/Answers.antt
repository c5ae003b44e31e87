use Rattle.std.proofs.Common.{◌≡◌, ◌⊎◌, ◌≤◌, [], ◌∷◌, ◌++◌, List, ℕ, sym, ◌∙◌, ap, subst, arith}
use Rattle.std.specs.Prelude.{is_some}
use Rattle.dw_outside.specs.declared.cell.Put.{Put}
use Rattle.dw_outside.specs.Tables.{Tables, HasFourTables, applied}
use Rattle.dw_outside.specs.Disks.{Since}
use Rattle.dw_outside.proofs.FourTables.{applied_fits}
use Rattle.dw_journal.specs.Frames.{frame_of, frames_of, Holds, IsBatch}
use Rattle.dw_journal.specs.Journal.{Journal, IsJournal, Could, LeavesOnly, frame_in}
use Rattle.dw_journal.proofs.Told.{told_as_before, told_mapped, all_each, now_told}
use Rattle.dw_journal.proofs.Keeping.{journal_added, journal_refused, journal_moments}
use Rattle.dw_journal.proofs.keeper.JournalKeeperKeeper.apply.Goals as goal

pub returns-in-Ok-clause-ok : goal.returns-in-Ok-clause-ok
returns-in-Ok-clause-ok g c =
    let is = c.self.view_is in
    told_mapped (applied c.args.puts.now) (g.D.Disk.model c.args.self.now.disk) (g.D.Disk.model c.append.new.disk) c.args.self.now.tables c.apply_undoable.new.self
    (c.append.ensures.told ∙ ap (λ (j : Journal _). is_some (g.D.Disk.model j.disk)) is) (c.in_ok-undo.ensures.ok ∙ ap (λ (j : Journal _). applied c.args.puts.now j.tables) is)

pub returns-in-Ok-clause-reads : goal.returns-in-Ok-clause-reads
returns-in-Ok-clause-reads g c =
    let is = c.self.view_is in
    told_as_before (g.D.Disk.model c.args.self.now.disk) (g.D.Disk.model c.append.new.disk) c.self.inside.reads.items c.args.self.now.reads
    (c.append.ensures.told ∙ ap (λ (j : Journal _). is_some (g.D.Disk.model j.disk)) is) (ap (λ (j : Journal _). j.reads) is)

pub returns-clause-reads : goal.returns-clause-reads
returns-clause-reads g c =
    let is = c.self.view_is in
    told_as_before (g.D.Disk.model c.args.self.now.disk) (g.D.Disk.model c.append.new.disk) c.self.inside.reads.items c.args.self.now.reads
    (c.append.ensures.told ∙ ap (λ (j : Journal _). is_some (g.D.Disk.model j.disk)) is) (ap (λ (j : Journal _). j.reads) is)

pub returns-clause-err : goal.returns-clause-err
returns-clause-err g c =
    let is = c.self.view_is in
    told_as_before (g.D.Disk.model c.args.self.now.disk) (g.D.Disk.model c.append.new.disk) c.take_back.new.self c.args.self.now.tables
    (c.append.ensures.told ∙ ap (λ (j : Journal _). is_some (g.D.Disk.model j.disk)) is) (c.take_back.ensures ∙ c.in_ok-undo.ensures.back ∙ ap (λ (j : Journal _). j.tables) is)

pub returns-in-Ok-clause-added : goal.returns-in-Ok-clause-added
returns-in-Ok-clause-added g c batches doubt now =
    let puts = c.args.puts.now in
    let was = subst (λ (j : Journal _). IsJournal (g.D.Disk.model j.disk) batches doubt j) (sym c.self.view_is) now in
    let this : IsBatch puts = record { tables = all_each (λ (p : Put). p.table ≤ 3) puts c.requires; small = omega (arith, c.in_ok-frame.ensures.small) } in
    let frame : c.deref.result.now ≡ frame_of puts ++ 0 ∷ [] = c.deref.ensures.value ∙ c.in_ok-frame.ensures.bytes in
    journal_added (g.D.Disk.model c.self.inside.disk) _ _ batches doubt puts this was (g.D.Disk.model c.append.new.disk) c.in_ok-undo.ensures.ok (c.in-Ok.ensures.added (frames_of batches) (frame_in doubt) (frame_of puts) frame was.stands)

pub returns-clause-refused : goal.returns-clause-refused
returns-clause-refused g c batches doubt now =
    let puts = c.args.puts.now in
    let was = subst (λ (j : Journal _). IsJournal (g.D.Disk.model j.disk) batches doubt j) (sym c.self.view_is) now in
    let this : IsBatch puts = record { tables = all_each (λ (p : Put). p.table ≤ 3) puts c.requires; small = omega (arith, c.in_ok-frame.ensures.small) } in
    let frame : c.deref.result.now ≡ frame_of puts ++ 0 ∷ [] = c.deref.ensures.value ∙ c.in_ok-frame.ensures.bytes in
    journal_refused (g.D.Disk.model c.self.inside.disk) _ _ batches doubt puts this was (g.D.Disk.model c.append.new.disk) (c.take_back.ensures ∙ c.in_ok-undo.ensures.back) (c.in-Err.ensures.refused (frames_of batches) (frame_in doubt) (frame_of puts) frame was.stands)

pub returns-in-Ok-clause-moments : goal.returns-in-Ok-clause-moments
returns-in-Ok-clause-moments g c batches doubt now =
    let puts = c.args.puts.now in
    let new = g.D.Disk.model c.append.new.disk in
    let was = subst (λ (j : Journal _). IsJournal (g.D.Disk.model j.disk) batches doubt j) (sym c.self.view_is) now in
    let this : IsBatch puts = record { tables = all_each (λ (p : Put). p.table ≤ 3) puts c.requires; small = omega (arith, c.in_ok-frame.ensures.small) } in
    let frame : c.deref.result.now ≡ frame_of puts ++ 0 ∷ [] = c.deref.ensures.value ∙ c.in_ok-frame.ensures.bytes in
    subst (λ (j : Journal _). Since (LeavesOnly (λ (l : List ℕ). Could batches doubt l ⊎ Holds (batches ++ puts ∷ []) l)) (g.D.Disk.model j.disk) new) c.self.view_is
    (journal_moments (g.D.Disk.model c.self.inside.disk) _ c.args.self.now batches doubt puts this was new (c.append.ensures.moments (frames_of batches) (frame_in doubt) (frame_of puts) frame was.stands))

pub returns-clause-moments : goal.returns-clause-moments
returns-clause-moments g c batches doubt now =
    let puts = c.args.puts.now in
    let new = g.D.Disk.model c.append.new.disk in
    let was = subst (λ (j : Journal _). IsJournal (g.D.Disk.model j.disk) batches doubt j) (sym c.self.view_is) now in
    let this : IsBatch puts = record { tables = all_each (λ (p : Put). p.table ≤ 3) puts c.requires; small = omega (arith, c.in_ok-frame.ensures.small) } in
    let frame : c.deref.result.now ≡ frame_of puts ++ 0 ∷ [] = c.deref.ensures.value ∙ c.in_ok-frame.ensures.bytes in
    subst (λ (j : Journal _). Since (LeavesOnly (λ (l : List ℕ). Could batches doubt l ⊎ Holds (batches ++ puts ∷ []) l)) (g.D.Disk.model j.disk) new) c.self.view_is
    (journal_moments (g.D.Disk.model c.self.inside.disk) _ c.args.self.now batches doubt puts this was new (c.append.ensures.moments (frames_of batches) (frame_in doubt) (frame_of puts) frame was.stands))

pub invariant_of-self-in-Ok : goal.invariant_of-self-in-Ok
invariant_of-self-in-Ok g c =
    let P : Tables → Type 0 = HasFourTables in (
      record { small = c.append.ensures.small; there = c.append.ensures.there },
      now_told (P c.self.inside.store) (P c.apply_undoable.new.self) (g.D.Disk.model c.self.inside.disk) (g.D.Disk.model c.append.new.disk) c.append.ensures.told
          (λ four. subst P (sym c.in_ok-undo.ensures.ok) (applied_fits c.args.puts.now c.self.inside.store four c.requires)) c.self.invariant.1,
    )
