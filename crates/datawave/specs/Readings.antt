-- What the input of each command asks for.
use Rattle.std.specs.Prelude.{ℕ, ◌^◌, List, [], map}
use Rattle.dw_wire.specs.ReadLine.{read_line}
use Rattle.dw_desk.specs.Session.{Asked}
use Rattle.datawave.specs.declared.command.Form.TheVariants.{Json, Csv}
use Rattle.datawave.specs.declared.command.Command.{Command}
use Rattle.datawave.specs.declared.command.Command.TheVariants.{Exec, Ingest}
use Rattle.datawave.specs.Lines.{lines, whole_lines}
use Rattle.datawave.specs.Groups.{full_ingests, line_records, json_groups, csv_groups}
use Rattle.datawave.specs.Session.{Reading}

-- the most bytes of input that a run takes which answers as it reads
abbrev pub max_input : ℕ
max_input = 2 ^ 40

-- the most bytes of a text of CSV
abbrev pub max_table : ℕ
max_table = 67108864

-- what lines ask for
abbrev pub requests : List (List ℕ) → List Asked
requests ls = map read_line ls

-- each line is a request
abbrev pub request_lines : Reading
request_lines = record { whole = λ bytes. requests (whole_lines bytes); all = λ bytes. requests (lines bytes); most = max_input }

-- each line is a record, and each group of records one request
abbrev pub record_lines : Reading
record_lines = record { whole = λ bytes. full_ingests (line_records (whole_lines bytes)); all = json_groups; most = max_input }

-- the same of the rows of a table, which is read to its end first
abbrev pub record_table : Reading
record_table = record { whole = λ bytes. []; all = csv_groups; most = max_table }

abbrev pub reading_of : Command → Reading
reading_of Exec = request_lines
reading_of (Ingest Json) = record_lines
reading_of (Ingest Csv) = record_table
