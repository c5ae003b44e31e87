-- Open slots, their jobs and their outputs go place by place.
use Rattle.std.proofs.Common.{ℕ, ◌≡◌, ◌<◌, ◌≤◌, ◌++◌, ◌+◌, Bool, true, false, List, [], ◌∷◌, length, take, filter, ap, slice_index_or, cond, arith}
use Rattle.std.specs.Prelude.{None, is_some, Result, IfOk}
use Rattle.std.specs.declared.alloc.AllocError.{AllocError}
use Rattle.std.specs.List.{AllZip}
use Rattle.std.proofs.lemmas.List.{append-nil}
use Rattle.std.proofs.lemmas.List.Elements.{filter_more}
use Rattle.std.proofs.lemmas.Slice.Zip.{all_zipped_more}
use Rattle.dw_scan.specs.declared.ask.Ask.{Ask}
use Rattle.dw_scan.specs.declared.ask.Batch.{Batch}
use Rattle.dw_page.specs.declared.slot.Slot.{Slot}
use Rattle.dw_page.specs.declared.job.ScanJob.{ScanJob}
use Rattle.dw_page.specs.Placed.{is_open, Scanned, IsScanOf}
use Rattle.dw_page.specs.Waves.{IsJobOf}

-- one more slot that is open has a job
pub open_more : (ask : Ask) (slots : List Slot) (i : ℕ) (slot : Slot) (jobs : List ScanJob) (job : ScanJob)
    → i < length slots → slot ≡ slice_index_or slots i slot
    → AllZip (IsJobOf ask) (filter is_open (take i slots)) jobs → IsJobOf ask slot job
    → AllZip (IsJobOf ask) (filter is_open (take (i + 1) slots)) (jobs ++ job ∷ [])
open_more ask slots i slot jobs job lt at before is =
    let opens : is_open slot ≡ true = ap is_some is.tablet_is in
    rw (filter_more is_open slots i slot lt, ← at, opens) (all_zipped_more (IsJobOf ask) _ jobs slot job before is)

-- one more slot that has ended has none
pub closed_more : (ask : Ask) (slots : List Slot) (i : ℕ) (slot : Slot) (jobs : List ScanJob)
    → i < length slots → slot ≡ slice_index_or slots i slot
    → AllZip (IsJobOf ask) (filter is_open (take i slots)) jobs → slot.tablet ≡ None
    → AllZip (IsJobOf ask) (filter is_open (take (i + 1) slots)) jobs
closed_more ask slots i slot jobs lt at before none =
    let closed : is_open slot ≡ false = ap is_some none in
    rw (filter_more is_open slots i slot lt, ← at, closed, append-nil) before

-- what the jobs give is a search of each slot
pub batches : (ask : Ask) (slots : List Slot) (jobs : List ScanJob) (outs : List (Result Batch AllocError))
    → AllZip (IsJobOf ask) slots jobs → AllZip (λ job out. IfOk out (λ b. Scanned job.ask.now job.tablet.now job.resume.now b)) jobs outs
    → AllZip (IsScanOf ask) slots outs
batches ask [] [] [] z g = tt
batches ask [] [] (o ∷ os) z g = absurd g
batches ask [] (j ∷ js) outs z g = absurd z
batches ask (s ∷ ss) [] outs z g = absurd z
batches ask (s ∷ ss) (j ∷ js) [] z g = absurd g
batches ask (s ∷ ss) (j ∷ js) (o ∷ os) z g =
    let is = z.0 in
    (rw (is.tablet_is, ← is.resume_is, ← is.ask_is) g.0, batches ask ss js os z.1 g.1)

-- a filter keeps no more than there is
pub filter_short : {A : Type 0} (p : A → Bool) (xs : List A) → length (filter p xs) ≤ length xs
filter_short p [] = omega arith
filter_short p (x ∷ xs) =
    let rest = filter_short p xs in
    elim (p x) as (λ b. length (cond b (x ∷ filter p xs) (filter p xs)) ≤ length (x ∷ xs)) [ true ↦ omega arith | false ↦ omega arith ]
