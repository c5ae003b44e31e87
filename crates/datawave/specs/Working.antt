-- What is held of the bytes of an input.
use Rattle.std.specs.Prelude.{◌≡◌, ℕ, List, []}
use Rattle.datawave.specs.declared.work.Work.{Work}
use Rattle.datawave.specs.declared.work.Work.TheVariants.{Requests, Records, Table}
use Rattle.datawave.specs.Asking.{Gathered}
use Rattle.datawave.specs.Groups.{line_records}
use Rattle.datawave.specs.Lines.{kept, rest_after, whole_lines}
use Rattle.datawave.specs.Readings.{max_input, max_table, record_lines, record_table, request_lines}
use Rattle.datawave.specs.Session.{Reading}

-- the bytes are read so, and what is held is as it should be once these came
abbrev pub Held : Reading → Work → List ℕ → Type 0
Held reading (Requests l) bytes = (reading ≡ request_lines) × (l.line ≡ kept (rest_after [] bytes))
Held reading (Records l) bytes = (reading ≡ record_lines) × (l.line ≡ kept (rest_after [] bytes)) × Gathered (line_records (whole_lines bytes)) l.work.group
Held reading (Table t) bytes = (reading ≡ record_table) × (t.text.items ≡ bytes)

-- the most bytes that are taken
abbrev pub most_of : Work → ℕ
most_of (Requests l) = max_input
most_of (Records l) = max_input
most_of (Table t) = max_table

-- nothing came yet
pub record IsFresh (reading : Reading) (work : Work) : Type 0 where
  pub held : Held reading work []
  pub begins : reading.whole [] ≡ []
  pub most : reading.most ≡ most_of work
