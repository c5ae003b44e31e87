-- Why a batch was not taken, or a rule not stored.
use Rattle.dw_outside.specs.declared.keeper_error.KeeperError.{KeeperError}
use Rattle.dw_outside.specs.declared.keeper_error.KeeperError.TheVariants.{Failed, OutOfMemory as KeeperWants}
use Rattle.dw_ingest.specs.declared.ingesting.IngestError.{IngestError}
use Rattle.dw_ingest.specs.declared.ingesting.IngestError.TheVariants.{StoreFault, OutOfMemory}
use Rattle.dw_ingest.specs.declared.reindexing.ReindexError.{ReindexError}
use Rattle.dw_ingest.specs.declared.reindexing.ReindexError.TheVariants.{StoreFault as RuleFault, OutOfMemory as RuleWants}

-- a keeper that failed is a fault of the store
abbrev pub ingest_error : KeeperError → IngestError
ingest_error Failed = StoreFault
ingest_error KeeperWants = OutOfMemory

abbrev pub reindex_error : KeeperError → ReindexError
reindex_error Failed = RuleFault
reindex_error KeeperWants = RuleWants
