-- The records of a batch, one after another.
use Rattle.std.proofs.Common.{◌≡◌, ℕ, suc, ◌+◌, ◌<◌, List, [], ◌∷◌, ◌++◌, length, map, drop, get_or, drop-cons, arith, refl, sym, ◌∙◌, ap, add-one, append_assoc, None, Result}
use Rattle.std.proofs.lemmas.Bool.{lt-leb}
use Rattle.serde_json.specs.View.{view, items_view}
use Rattle.serde_json.specs.declared.value.Value.{Value}
use Rattle.csv.specs.Records.{Row, fields_of}
use Rattle.dw_event.specs.declared.records.Record.{Record}
use Rattle.dw_event.specs.declared.reports.BadRecord.{BadRecord}
use Rattle.dw_rows.specs.JsonRecords.{json_record}
use Rattle.dw_rows.specs.CsvRecords.{csv_record}
use Rattle.dw_groups.specs.Batches.{records_of, rows_batch}

one_more : (found : List (Result Record BadRecord)) (rec here : Result Record BadRecord) (rest : List (Result Record BadRecord)) → rec ≡ here
    → found ++ (here ∷ rest) ≡ (found ++ rec ∷ []) ++ rest
one_more found rec here rest e = ap (λ r. found ++ (r ∷ rest)) (sym e) ∙ sym (append_assoc found (rec ∷ []) rest)

pub batch_step : (found : List (Result Record BadRecord)) (rec : Result Record BadRecord) (vs : List Value) (i : ℕ) (v : Value)
    → i < length vs → v ≡ get_or vs i v → rec ≡ json_record (view v)
    → found ++ records_of (items_view (drop i vs)) ≡ (found ++ rec ∷ []) ++ records_of (items_view (drop (i + 1) vs))
batch_step found rec vs i v h is e =
    rw (drop-cons vs i v, ← is, add-one) (one_more found rec (json_record (view v)) (records_of (items_view (drop (suc i) vs))) e)

pub rows_step : (header : List (List ℕ)) (found : List (Result Record BadRecord)) (rec : Result Record BadRecord) (rows : List Row) (i : ℕ) (row : Row)
    → i < length rows → row ≡ get_or rows i row → rec ≡ csv_record header (fields_of row)
    → found ++ map (csv_record header) (map fields_of (drop i rows)) ≡ (found ++ rec ∷ []) ++ map (csv_record header) (map fields_of (drop (i + 1) rows))
rows_step header found rec rows i row h is e =
    rw (drop-cons rows i row, ← is, add-one) (one_more found rec (csv_record header (fields_of row)) (map (csv_record header) (map fields_of (drop (suc i) rows))) e)

-- more rows than a header and the most records are too many
pub too_many : (rows : List (List (List ℕ))) → 10001 < length rows → rows_batch rows ≡ None
too_many [] h = absurd (omega arith)
too_many (header ∷ rows) h = rw (lt-leb (length rows) 10000 (omega arith)) refl
