-- The number of each status, and which status a broken exchange or a keeper's error ends with.
use Rattle.std.specs.Prelude.{ℕ}
use Rattle.dw_outside.specs.declared.keeper_error.KeeperError.{KeeperError}
use Rattle.dw_outside.specs.declared.keeper_error.KeeperError.TheVariants.{Failed, OutOfMemory as KeeperWants}
use Rattle.datawave.specs.declared.exchange.Broken.{Broken}
use Rattle.datawave.specs.declared.exchange.Broken.TheVariants as broken
use Rattle.datawave.specs.declared.status.Status.{Status}
use Rattle.datawave.specs.declared.status.Status.TheVariants.{Done, BadWords, ReadFault, WriteFault, StoreFault, OutOfMemory, TooMuch}

-- with which the process exits
abbrev pub exit_code : Status → ℕ
exit_code Done = 0
exit_code BadWords = 2
exit_code ReadFault = 3
exit_code WriteFault = 4
exit_code StoreFault = 5
exit_code OutOfMemory = 7
exit_code TooMuch = 8

abbrev pub status_of : Broken → Status
status_of broken.WriteFault = WriteFault
status_of broken.OutOfMemory = OutOfMemory

-- where the keeper failed before anything was taken
abbrev pub status_at_start : KeeperError → Status
status_at_start Failed = StoreFault
status_at_start KeeperWants = OutOfMemory
