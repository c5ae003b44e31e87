-- What an opening finds, and what a stop during it leaves.
use Rattle.std.specs.Prelude.{◌≡◌, ℕ, List, Option, Some, None, false}
use Rattle.dw_outside.specs.declared.cell.Put.{Put}
use Rattle.dw_outside.specs.Tables.{Tables}
use Rattle.dw_outside.specs.Disks.{DiskModel, Since, Each}
use Rattle.dw_journal.specs.Frames.{StandsFor, IsBatch, frames_of, tables_of}
use Rattle.dw_journal.specs.Fixed.{GateStands}
use Rattle.dw_journal.specs.Journal.{LeavesNoMore}

-- the file stands for batches that leave these tables, and they stand on the disk before a closed gate at this place
pub record IsOpened (file : List ℕ) (found : Tables) (place : ℕ) (model : Option DiskModel) : Type 0 where
  pub batches : List (List Put)
  pub lawful : Each IsBatch batches
  pub reads : StandsFor batches file
  pub tables : found ≡ tables_of batches
  pub stands : GateStands model (frames_of batches) None place false

-- each moment after the old one leaves no more than that one
abbrev pub SinceNoMore : Option DiskModel → Option DiskModel → Type 0
SinceNoMore None new = new ≡ None
SinceNoMore (Some m) new = Since (LeavesNoMore m.now) (Some m) new
