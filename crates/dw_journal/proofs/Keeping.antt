-- A keeper over a journal, from what stands at its gate.
use Rattle.std.proofs.Common.{◌≡◌, ◌⊎◌, inl, inr, ℕ, List, [], ◌∷◌, ◌++◌, Option, Some, None, sym, ◌∙◌, ap, subst}
use Rattle.dw_outside.specs.declared.cell.Put.{Put}
use Rattle.dw_outside.specs.Tables.{Tables, applied}
use Rattle.dw_outside.specs.Disks.{DiskModel, Each, Since}
use Rattle.dw_journal.specs.Frames.{HoldsFrames, Holds, IsBatch, IsBadAt, StandsFor, frame_of, frames_of, tables_of}
use Rattle.dw_journal.specs.Fixed.{CouldHold, GateStands}
use Rattle.dw_journal.specs.Journal.{Journal, IsJournal, DoubtIsBatch, Could, LeavesOnly, frame_in}
use Rattle.dw_journal.proofs.Moments.{since_more}
use Rattle.dw_journal.proofs.Gates.{Around}
use Rattle.dw_journal.proofs.Batches.{frames_more, tables_more}
use Rattle.dw_journal.proofs.Bodies.{each_push}

holds_more : (batches : List (List Put)) (puts : List Put) (c : List ℕ) → Each IsBatch batches → IsBatch puts → HoldsFrames (frames_of batches ++ frame_of puts ∷ []) c → Holds (batches ++ puts ∷ []) c
holds_more batches puts c lawful this holds = record { lawful = each_push IsBatch batches puts lawful this; frames = subst (λ (l : List (List ℕ)). HoldsFrames l c) (sym (frames_more batches puts)) holds }

pub could_hold : (batches : List (List Put)) (doubt : Option (List Put)) (c : List ℕ) → Each IsBatch batches → DoubtIsBatch doubt → CouldHold (frames_of batches) (frame_in doubt) c → Could batches doubt c
could_hold batches None c lawful doubtful holds = record { lawful = lawful; frames = holds }
could_hold batches (Some puts) c lawful doubtful (inl holds) = inl (record { lawful = lawful; frames = holds })
could_hold batches (Some puts) c lawful doubtful (inr holds) = inr (holds_more batches puts c lawful doubtful holds)

module _ {D : Type 0} (old : Option DiskModel) (before after : Journal D) (batches : List (List Put)) (doubt : Option (List Put)) (puts : List Put) (this : IsBatch puts) (was : IsJournal old batches doubt before) where
  pub journal_added : (new : Option DiskModel) → after.tables ≡ applied puts before.tables → GateStands new (frames_of batches ++ frame_of puts ∷ []) None after.gate after.in_doubt → IsJournal new (batches ++ puts ∷ []) None after
  journal_added new is stands = record {
    lawful = each_push IsBatch batches puts was.lawful this;
    doubtful = tt;
    tables = is ∙ ap (applied puts) was.tables ∙ sym (tables_more batches puts);
    stands = subst (λ (l : List (List ℕ)). GateStands new l None after.gate after.in_doubt) (sym (frames_more batches puts)) stands;
  }

  pub journal_refused : (new : Option DiskModel) → after.tables ≡ before.tables
      → GateStands new (frames_of batches) (frame_in doubt) after.gate after.in_doubt ⊎ (GateStands new (frames_of batches) None after.gate after.in_doubt ⊎ GateStands new (frames_of batches) (Some (frame_of puts)) after.gate after.in_doubt)
      → IsJournal new batches doubt after ⊎ (IsJournal new batches None after ⊎ IsJournal new batches (Some puts) after)
  journal_refused new is (inl stands) = inl (record { lawful = was.lawful; doubtful = was.doubtful; tables = is ∙ was.tables; stands = stands })
  journal_refused new is (inr (inl stands)) = inr (inl (record { lawful = was.lawful; doubtful = tt; tables = is ∙ was.tables; stands = stands }))
  journal_refused new is (inr (inr stands)) = inr (inr (record { lawful = was.lawful; doubtful = this; tables = is ∙ was.tables; stands = stands }))

  pub journal_moments : (new : Option DiskModel) → Since (Around (frames_of batches) (frame_in doubt) (frame_of puts)) old new → Since (LeavesOnly (λ (c : List ℕ). Could batches doubt c ⊎ Holds (batches ++ puts ∷ []) c)) old new
  journal_moments new since =
      since_more (Around (frames_of batches) (frame_in doubt) (frame_of puts)) (LeavesOnly (λ (c : List ℕ). Could batches doubt c ⊎ Holds (batches ++ puts ∷ []) c)) old new
      (λ s leaves. λ c left. elim (leaves c left) [ inl could ↦ inl (could_hold batches doubt c was.lawful was.doubtful could) | inr more ↦ inr (holds_more batches puts c was.lawful this more) ]) since
