-- What a stop leaves while a journal is opened.
use Rattle.std.proofs.Common.{◌≡◌, inl, inr, ⊎_elim, ℕ, ◌<◌, ◌≤◌, List, [], ◌∷◌, ◌++◌, length, take, Option, Some, None, refl, sym, ◌∙◌, ap, subst, arith, append_assoc}
use Rattle.std.proofs.lemmas.List.{take_at}
use Rattle.std.proofs.lemmas.Grind.{same_number_lists}
use Rattle.std.specs.FinMap as map
use Rattle.dw_outside.specs.Tables.{Tables, HasFourTables, applied}
use Rattle.dw_outside.specs.Disks.{DiskState, DiskModel, MayLeave, Each, Now, Since, after, overlay, wrote, wrote_to, synced, settled, IsTorn}
use Rattle.dw_outside.specs.DiskStands.{size}
use Rattle.dw_outside.specs.declared.cell.Put.{Put}
use Rattle.dw_outside.proofs.FourTables.{applied_all, empty_fits}
use Rattle.dw_journal.specs.Frames.{open_frames, frames_of, tables_from, IsBatch}
use Rattle.dw_journal.specs.Fixed.{IsAtRest}
use Rattle.dw_journal.specs.Reading.{IsRead}
use Rattle.dw_journal.specs.Journal.{LeavesNoMore}
use Rattle.dw_journal.specs.Opening.{IsOpened, SinceNoMore}
use Rattle.dw_journal.proofs.Moments.{since_both, since_more, step_runs, torn_runs, same_runs, then_runs, Runs}
use Rattle.dw_journal.proofs.Gates.{since_same}

-- what a stop leaves once all is on the disk
only_settled : (bytes c : List ℕ) → MayLeave (settled bytes) c → c ≡ bytes
only_settled bytes c left = same_number_lists c bytes size_is (λ k lt. ⊎_elim (λ loose. absurd loose) (λ same. same) (left.same k (omega (arith, lt, size_is))))
  where
    size_is : length c ≡ length bytes
    size_is = omega (arith, left.no_shorter, left.no_longer)

settled_no_more : (s : DiskState) → MayLeave s s.seen → LeavesNoMore s (synced s)
settled_no_more s stands c left = (s.seen, stands, inl (only_settled s.seen c left))

pub same_no_more : (old new : Option DiskModel) → new ≡ old → SinceNoMore old new
same_no_more None new is = is
same_no_more (Some m) new is = subst (λ (n : Option DiskModel). Since (LeavesNoMore m.now) (Some m) n) (sym is) (since_same (LeavesNoMore m.now) (Some m))

pub synced_no_more : (old new : Option DiskModel) → Now (λ s. MayLeave s s.seen) old → new ≡ after synced old → SinceNoMore old new
synced_no_more None new stands is = is
synced_no_more (Some m) new stands is =
    subst (λ (n : Option DiskModel). Since (LeavesNoMore m.now) (Some m) n) (sym is) (synced m.now ∷ [], (settled_no_more m.now stands, tt), refl)

-- a file too short for a frame, whatever a stop leaves
pub record IsShort (s : DiskState) : Type 0 where
  pub seen : length s.seen < 2
  pub reach : s.reach < 2

short_synced : (s : DiskState) → IsShort s → IsShort (synced s)
short_synced s short = record { seen = short.seen; reach = short.seen }

short_wrote : (bytes : List ℕ) (s : DiskState) → length bytes ≤ 1 → IsShort s → IsShort (wrote_to 0 bytes 1 s)
short_wrote bytes s few short = record { seen = omega (arith, short.seen, few, (size 0 bytes s.seen).1); reach = omega (arith, short.reach) }

short_no_more : (old s : DiskState) → MayLeave old old.seen → length old.seen < 2 → IsShort s → LeavesNoMore old s
short_no_more old s stands small short c left = (old.seen, stands, inr (omega (arith, left.no_longer, short.reach), small))

-- a file that is begun anew, from the first sync on
module _ (m : DiskModel) (stands : MayLeave m.now m.now.seen) (small : length m.now.seen < 2) where
  begin : IsShort (synced m.now)
  begin = record { seen = small; reach = small }

  first : Since (LeavesNoMore m.now) (Some m) (after synced (Some m))
  first = (synced m.now ∷ [], (settled_no_more m.now stands, tt), refl)

  pub more_no_more : (mid new : Option DiskModel) → mid ≡ after synced (Some m) → Runs IsShort mid new → Since (LeavesNoMore m.now) (Some m) new
  more_no_more mid new is runs =
      since_both (LeavesNoMore m.now) (Some m) mid new (subst (λ (n : Option DiskModel). Since (LeavesNoMore m.now) (Some m) n) (sym is) first)
      (since_more IsShort (LeavesNoMore m.now) mid new (λ s short. short_no_more m.now s stands small short) runs.since)

  pub begun : (mid : Option DiskModel) → mid ≡ after synced (Some m) → Now IsShort mid
  begun mid is = subst (λ (n : Option DiskModel). Now IsShort n) (sym is) begin

none_kept : (mid new : Option DiskModel) → mid ≡ None → Runs (λ s. IsShort s) mid new → new ≡ None
none_kept mid new is runs = subst (λ (n : Option DiskModel). Since IsShort n new) is runs.since

-- the file is too short, and the write of the first gate fails
pub torn_start : (old mid new : Option DiskModel) → Now (λ s. MayLeave s s.seen) old → Now (λ s. length s.seen < 2) old → mid ≡ after synced old → IsTorn 0 1 mid new → SinceNoMore old new
torn_start None mid new stands small is torn = none_kept mid new is (torn_runs IsShort 0 1 mid new (λ bytes s few short. short_wrote bytes s few short) (subst (λ (n : Option DiskModel). Now IsShort n) (sym is) tt) torn)
torn_start (Some m) mid new stands small is torn =
    more_no_more m stands small mid new is (torn_runs IsShort 0 1 mid new (λ bytes s few short. short_wrote bytes s few short) (begun m stands small mid is) torn)

wrote_run : (mid next : Option DiskModel) → Now IsShort mid → next ≡ after (wrote 0 (0 ∷ [])) mid → Runs IsShort mid next
wrote_run mid next short is = step_runs IsShort (wrote 0 (0 ∷ [])) mid next (λ s old. short_wrote (0 ∷ []) s (omega arith) old) short is

-- or the sync after it fails
pub unsynced_start : (old mid next new : Option DiskModel) → Now (λ s. MayLeave s s.seen) old → Now (λ s. length s.seen < 2) old → mid ≡ after synced old → next ≡ after (wrote 0 (0 ∷ [])) mid → new ≡ next → SinceNoMore old new
unsynced_start None mid next new stands small is wrote_is same = same ∙ wrote_is ∙ ap (after (wrote 0 (0 ∷ []))) is
unsynced_start (Some m) mid next new stands small is wrote_is same =
    let run = wrote_run mid next (begun m stands small mid is) wrote_is in
    more_no_more m stands small mid new is (then_runs IsShort mid next new run (same_runs IsShort next new run.now same))

-- or both are done
pub whole_start : (old mid next new : Option DiskModel) → Now (λ s. MayLeave s s.seen) old → Now (λ s. length s.seen < 2) old → mid ≡ after synced old → next ≡ after (wrote 0 (0 ∷ [])) mid → new ≡ after synced next → SinceNoMore old new
whole_start None mid next new stands small is wrote_is synced_is = synced_is ∙ ap (after synced) (wrote_is ∙ ap (after (wrote 0 (0 ∷ []))) is)
whole_start (Some m) mid next new stands small is wrote_is synced_is =
    let run = wrote_run mid next (begun m stands small mid is) wrote_is in
    more_no_more m stands small mid new is (then_runs IsShort mid next new run (step_runs IsShort synced next new (λ s short. short_synced s short) run.now synced_is))

gate_first : (seen : List ℕ) → take 1 (overlay 0 (0 ∷ []) seen) ≡ 0 ∷ []
gate_first [] = refl
gate_first (x ∷ seen) = refl

-- a file begun anew stands for no batch
pub opened_start : (old mid next new : Option DiskModel) → Now (λ s. length s.seen < 2) old → mid ≡ after synced old → next ≡ after (wrote 0 (0 ∷ [])) mid → new ≡ after synced next → Now (λ s. IsOpened s.seen map.empty 0 new) old
opened_start None mid next new small is wrote_is synced_is = tt
opened_start (Some m) mid next new small is wrote_is synced_is =
    let whole = synced_is ∙ ap (after synced) (wrote_is ∙ ap (after (wrote 0 (0 ∷ []))) is) in
    let first_gate = gate_first m.now.seen in
    record {
      batches = [];
      lawful = tt;
      reads = inl (small, refl);
      tables = refl;
      stands = record {
        place = refl;
        doubtful = refl;
        disk = subst (λ (n : Option DiskModel). Now (IsAtRest []) n) (sym whole) (record { gate = 0; closed = λ same. absurd (omega (arith, same)); fixed = record { seen = first_gate; kept = first_gate; loose = tt } });
      };
    }

-- a file that was read stands on the disk
pub opened_read : (old mid : Option DiskModel) (found : Tables) (place : ℕ) → mid ≡ after synced old → Now (λ s. IsRead s.seen found place) mid → Now (λ s. IsOpened s.seen found place mid) old
opened_read None mid found place is read = tt
opened_read (Some m) mid found place is read =
    let file = m.now.seen in
    let there : IsRead file found place = subst (λ (n : Option DiskModel). Now (λ s. IsRead s.seen found place) n) is read in
    let frames = there.holds.frames in
    let front = open_frames (frames_of there.batches) ++ frames.gate ∷ [] in
    let starts : take (length front) file ≡ front =
    ap (take (length front)) (frames.split ∙ sym (append_assoc (open_frames (frames_of there.batches)) (frames.gate ∷ []) frames.rest)) ∙ take_at front frames.rest (length front) refl in
    record {
      batches = there.batches;
      lawful = there.holds.lawful;
      reads = inr there.holds;
      tables = there.tables;
      stands = record {
        place = there.gate;
        doubtful = refl;
        disk = subst (λ (n : Option DiskModel). Now (IsAtRest (frames_of there.batches)) n) (sym is) (record { gate = frames.gate; closed = frames.closed; fixed = record { seen = starts; kept = starts; loose = tt } });
      };
    }

-- ---- batches leave four tables

four_from : (t : Tables) (batches : List (List Put)) → HasFourTables t → Each IsBatch batches → HasFourTables (tables_from t batches)
four_from t [] four lawful = four
four_from t (puts ∷ batches) four lawful = four_from (applied puts t) batches (applied_all puts t four lawful.0.tables) lawful.1

pub opened_four : (old new : Option DiskModel) (found : Tables) (place : ℕ) → Now (λ s. IsOpened s.seen found place new) old → SinceNoMore old new → Now (λ _. HasFourTables found) new
opened_four None new found place opened since = subst (Now (λ _. HasFourTables found)) (sym since) tt
opened_four (Some m) None found place opened since = tt
opened_four (Some m) (Some n) found place opened since = subst HasFourTables (sym opened.tables) (four_from map.empty opened.batches empty_fits opened.lawful)
