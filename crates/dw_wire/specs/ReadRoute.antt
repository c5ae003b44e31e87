-- What request a message by HTTP is, once its route is known, or why it is none.
use Rattle.std.specs.Prelude.{ℕ, nat_le, List, [], ◌∷◌, length, Option, Result, Err, codes, if◌then◌else◌}
use Rattle.serde_json.specs.Data.{Data}
use Rattle.dw_rows.specs.Values.{has_only}
use Rattle.dw_base.specs.Numerals.{numeral_up_to}
use Rattle.dw_groups.specs.Batches.{rows_of, rows_batch}
use Rattle.dw_wire.specs.declared.limits.TheConstants.{MAX_NUMBER, MAX_PAGE}
use Rattle.dw_wire.specs.declared.request.Request.{Request}
use Rattle.dw_wire.specs.declared.request.Why.{Why}
use Rattle.dw_wire.specs.declared.request.Why.TheVariants as why
use Rattle.dw_wire.specs.declared.route.Route.{Route}
use Rattle.dw_wire.specs.declared.route.Route.TheVariants as route
use Rattle.dw_wire.specs.ReadLine.{max_line, needed, in_text, define_members, define_in, grant_members, grant_in, ingest_with, records_in, create_members, create_in, page_with, close_with}

-- ---- what the body says, and no other members

abbrev pub define_body : Data → Result Request Why
define_body d = if has_only define_members d then define_in d else Err why.Shape

abbrev pub grant_body : Data → Result Request Why
grant_body d = if has_only grant_members d then grant_in d else Err why.Shape

abbrev pub records_body : Data → Result Request Why
records_body d = if has_only (codes "records" ∷ []) d then records_in d else Err why.Shape

-- the create of the caller of the message, where there is one
abbrev pub create_body : Option (List ℕ) → Data → Result Request Why
create_body caller d = if has_only create_members d then needed why.Shape caller (λ who. create_in who d) else Err why.Shape

-- a text of CSV, cell by cell, UTF-8 or not
abbrev pub table_body : List ℕ → Result Request Why
table_body body = if nat_le (length body) max_line then ingest_with (rows_batch (rows_of body)) else Err why.Line

-- ---- what the path says; the body counts for nothing

abbrev pub page_path : Option (List ℕ) → List ℕ → List ℕ → Result Request Why
page_path caller number page = needed why.Shape caller (λ who. page_with who (numeral_up_to MAX_NUMBER number) (numeral_up_to MAX_PAGE page))

abbrev pub close_path : Option (List ℕ) → List ℕ → Result Request Why
close_path caller number = needed why.Shape caller (λ who. close_with who (numeral_up_to MAX_NUMBER number))

-- the request of a route, a caller, the numbers in the path and a body, or the first reason that holds why it is none
unfoldable pub read_route : Route → Option (List ℕ) → List ℕ → List ℕ → List ℕ → Result Request Why
read_route route.Field caller number page body = in_text body define_body
read_route route.Grant caller number page body = in_text body grant_body
read_route route.IngestJson caller number page body = in_text body records_body
read_route route.IngestCsv caller number page body = table_body body
read_route route.Query caller number page body = in_text body (create_body caller)
read_route route.Page caller number page body = page_path caller number page
read_route route.Close caller number page body = close_path caller number
