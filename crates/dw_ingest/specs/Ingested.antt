-- A batch that was taken.
use Rattle.std.specs.Prelude.{◌≡◌, ◌⊎◌, ℕ, ◌-◌, ◌^◌, List, Option, Some, Result}
use Rattle.std.specs.Option.{option_map}
use Rattle.dw_event.specs.declared.records.Record.{Record}
use Rattle.dw_event.specs.declared.reports.BadRecord.{BadRecord}
use Rattle.dw_event.specs.declared.reports.Report.{Report}
use Rattle.dw_event.specs.Take.{Taken, taken, last_after, report_of}
use Rattle.dw_outside.specs.Faults.{one_more}
use Rattle.dw_outside.specs.Tables.{Tables}
use Rattle.dw_derive.specs.World.{World}
use Rattle.dw_derive.specs.Tables.{tables}
use Rattle.dw_derive.specs.Lawful.{IsWorld}

-- the largest number of a batch
abbrev pub last_number : ℕ
last_number = 2 ^ 63 - 1

-- the world with what has become of some records
abbrev pub after_taken : World → Taken → World
after_taken w t = record { events = t.events; dict = w.dict; grants = w.grants; last = last_after w.last t; old = w.old }

-- the report is that of the records, and the tables are those of the world with them, which keeps the rules of a world
pub record Ingested (digest : List ℕ → List ℕ) (w : World) (records : List (Result Record BadRecord)) (r : Report) (told : Option Tables) : Type 0 where
  pub report : r ≡ report_of w.last (taken digest w.events w.last records)
  pub tables : told ≡ Some (tables (after_taken w (taken digest w.events w.last records)))
  pub world : IsWorld (after_taken w (taken digest w.events w.last records))

-- the keeper was asked to apply puts once, or not at all
abbrev pub Asks : Option ℕ → Option ℕ → Type 0
Asks before after = (after ≡ before) ⊎ (after ≡ option_map one_more before)
