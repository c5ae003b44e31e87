-- The request of a message by HTTP, where it is one, is well formed.
use Rattle.std.proofs.Common.{ℕ, List, [], ◌∷◌, length, nat_le, codes, Option, Err, IfOk}
use Rattle.serde_json.specs.Data.{Data}
use Rattle.dw_base.specs.Numerals.{numeral_up_to}
use Rattle.dw_rows.specs.Values.{has_only}
use Rattle.dw_groups.specs.Batches.{rows_of, rows_batch}
use Rattle.dw_groups.proofs.KeptBatches.{rows_known}
use Rattle.dw_wire.specs.declared.request.Why.TheVariants as why
use Rattle.dw_wire.specs.declared.route.Route.{Route}
use Rattle.dw_wire.specs.declared.route.Route.TheVariants as route
use Rattle.dw_wire.specs.ReadLine.{define_members, grant_members, create_members, create_in, page_with, close_with}
use Rattle.dw_wire.specs.ReadRoute.{define_body, grant_body, records_body, create_body, table_body, read_route}
use Rattle.dw_wire.specs.WellFormed.{IsWellFormed}
use Rattle.dw_wire.proofs.KeptRequests.{Kept, refused, either, with_form, text_kept, define_right, grant_right, records_right, batch_right, create_in_right, page_right, close_right}

create_known : (caller : Option (List ℕ)) (d : Data) → Kept (create_body caller d)
create_known caller d =
    either (has_only create_members d) _ (Err why.Shape) (with_form caller (λ who. create_in who d) (λ who. create_in_right who d)) (refused why.Shape)

table_known : (body : List ℕ) → Kept (table_body body)
table_known body =
    either (nat_le (length body) 4194304) _ (Err why.Line) (batch_right (rows_batch (rows_of body)) (rows_known (rows_of body))) (refused why.Line)

route_known : (r : Route) (caller : Option (List ℕ)) (number page body : List ℕ) → Kept (read_route r caller number page body)
unfolding read_route
route_known route.Field caller number page body =
    text_kept body define_body (λ d. either (has_only define_members d) _ (Err why.Shape) (define_right d) (refused why.Shape))
route_known route.Grant caller number page body =
    text_kept body grant_body (λ d. either (has_only grant_members d) _ (Err why.Shape) (grant_right d) (refused why.Shape))
route_known route.IngestJson caller number page body =
    text_kept body records_body (λ d. either (has_only (codes "records" ∷ []) d) _ (Err why.Shape) (records_right d) (refused why.Shape))
route_known route.IngestCsv caller number page body = table_known body
route_known route.Query caller number page body = text_kept body (create_body caller) (create_known caller)
route_known route.Page caller number page body =
    with_form caller (λ who. page_with who (numeral_up_to 9223372036854775807 number) (numeral_up_to 4294967295 page))
    (λ who. page_right who (numeral_up_to 9223372036854775807 number) (numeral_up_to 4294967295 page))
route_known route.Close caller number page body =
    with_form caller (λ who. close_with who (numeral_up_to 9223372036854775807 number)) (λ who. close_right who (numeral_up_to 9223372036854775807 number))

pub route_kept : (r : Route) (caller : Option (List ℕ)) (number page body : List ℕ) → IfOk (read_route r caller number page body) IsWellFormed
route_kept r caller number page body = (route_known r caller number page body).holds
