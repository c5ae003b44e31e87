use Rattle.std.proofs.Common.{◌≡◌, ◌<◌, ◌≤◌, ℕ, [], List, Some}
use Rattle.csv.specs.Reading.{Reached, Ready, default_config, source_of, strip_bom}
use Rattle.csv.specs.declared.parser.State.TheVariants as st
use Rattle.csv.specs.declared.reader.Trim.TheVariants as trim
use Rattle.dw_derive.specs.World.{World}
use Rattle.dw_groups.specs.Batches.{rows_records}
use Rattle.datawave.specs.Groups.{full_ingests}
use Rattle.datawave.specs.Outside.{Outside, seen}
use Rattle.datawave.specs.Exchange.{RequestsPut, Tabled}
use Rattle.datawave.proofs.record_table.take_table.Given as goal

abbrev pub invariant-loop-row : goal.invariant-loop-row
invariant-loop-row g l = (l.row-iterator.rdr.trim ≡ trim.None) × Ready l.row-iterator.rdr × (0 < l.row-iterator.left) × (l.row-iterator.rdr.config ≡ default_config)
    × (y : List ℕ) × (source_of (λ s. Some s.now) l.row-iterator.rdr ≡ Some y)
    × (rows : List (List (List ℕ))) × Reached default_config st.StartRecord (strip_bom l.fn.text) rows l.row-iterator.rdr.state y
    × (g.O.Sink.faults l.fn.output ≤ g.O.Sink.faults l.output)
    × ((w : World) (before : Outside) → RequestsPut g.U.UidMaker.digest w before [] l.fn.desk (seen (g.K.Keeper.told l.fn.keeper) (g.K.Keeper.faults l.fn.keeper) (g.O.Sink.taken l.fn.output))
    → Tabled rows l.table.header l.table.group × RequestsPut g.U.UidMaker.digest w before (full_ingests (rows_records rows)) l.desk (seen (g.K.Keeper.told l.keeper) (g.K.Keeper.faults l.keeper) (g.O.Sink.taken l.output)))
