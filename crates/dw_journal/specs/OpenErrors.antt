use Rattle.std.specs.Prelude.{◌≡◌}
use Rattle.dw_outside.specs.declared.keeper_error.KeeperError.{KeeperError}
use Rattle.dw_outside.specs.declared.keeper_error.KeeperError.TheVariants as keeper
use Rattle.dw_journal.specs.declared.open_error.OpenError.{OpenError}
use Rattle.dw_journal.specs.declared.open_error.OpenError.TheVariants.{Failed, OutOfMemory}

-- the refusal of an opening for that of a read
abbrev pub IsOpenErrorOf : KeeperError → OpenError → Type 0
IsOpenErrorOf keeper.Failed e = e ≡ Failed
IsOpenErrorOf keeper.OutOfMemory e = e ≡ OutOfMemory
