-- The records of a batch are few, and those that are read are well formed.
use Rattle.std.proofs.Common.{◌≡◌, ℕ, suc, List, [], ◌∷◌, length, map, nat_le, refl, arith, ap, ◌∙◌, Result, IfOk}
use Rattle.std.specs.List.{AllByRecursion}
use Rattle.serde_json.specs.Data.{Items, no_items, item}
use Rattle.dw_event.specs.Records.{IsWellFormed}
use Rattle.dw_event.specs.declared.records.Record.{Record}
use Rattle.dw_event.specs.declared.reports.BadRecord.{BadRecord}
use Rattle.dw_rows.specs.CsvRecords.{csv_record}
use Rattle.dw_rows.proofs.Kept.{json_kept, csv_kept}
use Rattle.dw_rows.proofs.KeptSteps.{Gives, just, guarded_some}
use Rattle.dw_groups.specs.Batches.{items_count, records_of, batch_of, rows_batch}
use Rattle.dw_groups.specs.Batches.{IsBatch}

-- each record that was read is well formed
abbrev AllRight : List (Result Record BadRecord) → Type 0
AllRight recs = AllByRecursion (λ rec. IfOk rec IsWellFormed) recs

as_many : (ds : Items) → length (records_of ds) ≡ items_count ds
as_many no_items = refl
as_many (item d ds) = omega (arith, as_many ds)

all_right : (ds : Items) → AllRight (records_of ds)
all_right no_items = tt
all_right (item d ds) = (json_kept d, all_right ds)

pub batch_known : (ds : Items) → Gives (batch_of ds) IsBatch
batch_known ds =
    guarded_some (nat_le (items_count ds) 10000) (records_of ds) (λ few. record { few = ap (λ n. nat_le n 10000) (as_many ds) ∙ few; each = all_right ds })

rows_right : (header : List (List ℕ)) (rows : List (List (List ℕ))) → AllRight (map (csv_record header) rows)
rows_right header [] = tt
rows_right header (row ∷ rows) = (csv_kept header row, rows_right header rows)

rows_as_many : (header : List (List ℕ)) (rows : List (List (List ℕ))) → length (map (csv_record header) rows) ≡ length rows
rows_as_many header [] = refl
rows_as_many header (row ∷ rows) = ap suc (rows_as_many header rows)

pub rows_known : (rows : List (List (List ℕ))) → Gives (rows_batch rows) IsBatch
rows_known [] = just [] (record { few = refl; each = tt })
rows_known (header ∷ rows) =
    guarded_some (nat_le (length rows) 10000) (map (csv_record header) rows) (λ few. record {
      few = ap (λ n. nat_le n 10000) (rows_as_many header rows) ∙ few;
      each = rows_right header rows;
    })
