-- Which job stands for which slot.
use Rattle.std.specs.Prelude.{◌≡◌, Some}
use Rattle.dw_scan.specs.declared.ask.Ask.{Ask}
use Rattle.dw_page.specs.declared.slot.Slot.{Slot}
use Rattle.dw_page.specs.declared.job.ScanJob.{ScanJob}

-- the job searches this slot
pub record IsJobOf (ask : Ask) (slot : Slot) (job : ScanJob) : Type 0 where
  pub tablet_is : slot.tablet ≡ Some job.tablet.now
  pub resume_is : job.resume.now ≡ slot.resume
  pub ask_is : job.ask.now ≡ ask
