-- What reading a record answers.
use Rattle.std.specs.Prelude.{◌≡◌, Result, Ok, Err, ⊤}
use Rattle.dw_event.specs.declared.records.Record.{Record}
use Rattle.dw_event.specs.declared.reports.BadRecord.{BadRecord}
use Rattle.dw_rows.specs.declared.error.RecordError.{RecordError}
use Rattle.dw_rows.specs.declared.error.RecordError.TheVariants.{Bad, OutOfMemory}

-- the record, or the rule that is broken, unless memory runs out
abbrev pub Answers : Result Record RecordError → Result Record BadRecord → Type 0
Answers (Ok rec) verdict = verdict ≡ Ok rec
Answers (Err (Bad rule)) verdict = verdict ≡ Err rule
Answers (Err OutOfMemory) verdict = ⊤
