-- Requests that are read one at a time.
use Rattle.std.specs.Prelude.{◌≡◌, List, [], ◌∷◌, ◌++◌, Option, Some, None, Result, IfOk}
use Rattle.dw_event.specs.declared.records.Record.{Record}
use Rattle.dw_event.specs.declared.reports.BadRecord.{BadRecord}
use Rattle.dw_ingest.specs.Going.{AreWellFormed}
use Rattle.dw_groups.specs.Groups.{last_items}
use Rattle.dw_desk.specs.Desk.{IsFormed}
use Rattle.dw_desk.specs.Session.{Asked}

-- the request that follows these, where there was memory to read it, or none
abbrev pub Asks : {E : Type 0} → Option (Result Asked E) → List Asked → List Asked → Type 0
Asks None before after = after ≡ before
Asks (Some read) before after = (asked : Asked) × IfOk read (λ r. r ≡ asked) × IsFormed asked × (after ≡ before ++ asked ∷ [])

-- what is held of the last group of these records
pub record Gathered (recs group : List (Result Record BadRecord)) : Type 0 where
  pub held : group ≡ last_items recs
  pub formed : AreWellFormed group
