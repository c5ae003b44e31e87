-- A batch that is being made, and what has become of its records so far.
use Rattle.std.specs.Prelude.{◌≡◌, IfOk, List, Result}
use Rattle.std.specs.Option.{option_or}
use Rattle.std.specs.BTreeMap.{get}
use Rattle.std.specs.List.{AllByRecursion}
use Rattle.dw_event.specs.declared.records.Record.{Record}
use Rattle.dw_event.specs.declared.records.Place.{Place}
use Rattle.dw_event.specs.declared.reports.BadRecord.{BadRecord}
use Rattle.dw_event.specs.Places.{place_cmp}
use Rattle.dw_event.specs.Records.{IsWellFormed}
use Rattle.dw_event.specs.Take.{Event, Taken, held_at}
use Rattle.dw_outside.specs.Tables.{Tables, over}
use Rattle.dw_derive.specs.World.{World}
use Rattle.dw_derive.specs.Tables.{tables}
use Rattle.dw_derive.specs.Lawful.{HasEvents}
use Rattle.dw_ingest.specs.declared.pending.Pending.{Pending}

-- the world with other events
abbrev pub with_events : World → List Event → World
with_events w events = record { events = events; dict = w.dict; grants = w.grants; last = w.last; old = w.old }

-- each record that was read is well formed
abbrev pub AreWellFormed : List (Result Record BadRecord) → Type 0
AreWellFormed records = AllByRecursion (λ r. IfOk r IsWellFormed) records

-- the batch, over the tables of the world, makes those of the world with the events so far
pub record Going (w : World) (so_far : Taken) (t : Tables) (p : Pending) : Type 0 where
  pub at : p.tally.at ≡ so_far.at
  pub added : p.tally.added ≡ so_far.new
  pub repeat : p.tally.repeat ≡ so_far.repeat
  pub bad : p.tally.bad ≡ so_far.bad
  pub held : (q : Place) → held_at so_far.events q ≡ option_or (get place_cmp p.news q) (held_at w.events q)
  pub tables : over p.batch t ≡ tables (with_events w so_far.events)
  pub events : HasEvents (with_events w so_far.events)
