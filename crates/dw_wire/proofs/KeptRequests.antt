-- The request that a line is, where it is one, is well formed.
use Rattle.std.proofs.Common.{◌≡◌, ℕ, ◌&&◌, List, [], ◌∷◌, length, nat_le, codes, Bool, true, false, cond, refl, Option, Some, None, IfSome, Result, Ok, Err, IfOk}
use Rattle.std.specs.Str.{bytes_eq}
use Rattle.std.proofs.lemmas.Bool.{and_from}
use Rattle.serde_json.specs.Data.{Data, Items}
use Rattle.dw_jexl.specs.declared.error.QueryRule.{QueryRule}
use Rattle.dw_jexl.specs.declared.query.Query.{Query}
use Rattle.dw_event.specs.declared.records.Record.{Record}
use Rattle.dw_event.specs.declared.reports.BadRecord.{BadRecord}
use Rattle.dw_rows.specs.Values.{text_at, has_only}
use Rattle.dw_rows.specs.Entries.{field_of}
use Rattle.dw_rows.proofs.KeptSteps.{Gives, any_known}
use Rattle.dw_wire.specs.declared.request.Request.{Request}
use Rattle.dw_wire.specs.declared.request.Request.TheVariants.{Define, Grant, Ingest, Create, Page, Close}
use Rattle.dw_wire.specs.declared.request.Why.{Why}
use Rattle.dw_wire.specs.declared.request.Why.TheVariants as why
use Rattle.dw_wire.specs.QueryTexts.{query_of}
use Rattle.dw_base.specs.Callers.{is_caller}
use Rattle.dw_wire.specs.ReadLine.{bool_at, array_at, texts_at, asked_texts, whole_at, counted_to, needed, needed_query, caller_of, auths_of, asked_auths, asked_types, rule_of, days_of, size_at, define_with, define_members, define_in, define_of, grant_with, grant_members, grant_in, grant_of, ingest_with, records_in, ingest_of, create_as, create_with, create_members, create_in, create_of, page_with, page_of, close_with, close_of, request_named, request_of, read_from, in_text, read_line}
use Rattle.dw_groups.specs.Batches.{json_of, batch_of, rows_of, rows_batch, IsBatch}
use Rattle.dw_wire.specs.WellFormed.{IsAuthSet, IsSpelt, are_days, are_types, is_counted_to, is_query_number, IsWellFormed}
use Rattle.dw_wire.proofs.KeptTexts.{field_known, caller_known, number_known, query_known, days_known, types_known, auths_kept, asked_known}
use Rattle.dw_groups.proofs.KeptBatches.{batch_known, rows_known}

-- what is read is well formed, where it is a request
pub record Kept (r : Result Request Why) : Type 0 where
  pub holds : IfOk r IsWellFormed

pub refused : (reason : Why) → Kept (Err reason)
refused reason = record { holds = tt }

read_as : (request : Request) → IsWellFormed request → Kept (Ok request)
read_as request h = record { holds = h }

-- a part of which something is known
with_part : {A : Type 0} {P : A → Type 0} (reason : Why) (o : Option A) (rest : A → Result Request Why) → Gives o P → ((a : A) → P a → Kept (rest a)) → Kept (needed reason o rest)
with_part reason None rest h k = refused reason
with_part reason (Some a) rest h k = k a h.holds

-- a part of the form that it must have
pub with_form : {A : Type 0} (o : Option A) (rest : A → Result Request Why) → ((a : A) → Kept (rest a)) → Kept (needed why.Shape o rest)
with_form None rest k = refused why.Shape
with_form (Some a) rest k = k a

with_query : (r : Result Query QueryRule) (rest : Query → Result Request Why) → ((q : Query) → r ≡ Ok q → Kept (rest q)) → Kept (needed_query r rest)
with_query (Err rule) rest k = refused (why.Query rule)
with_query (Ok q) rest k = k q refl

pub either : (b : Bool) (x y : Result Request Why) → Kept x → Kept y → Kept (cond b x y)
either true x y h k = h
either false x y h k = k

define_parts : (name kind : List ℕ) (indexed reversed : Bool) → Kept (define_with name kind indexed reversed)
define_parts name kind indexed reversed =
    with_part why.Field (field_of name) _ (field_known name) (λ field h.
    with_part why.Kind (rule_of kind indexed reversed) _ (any_known (rule_of kind indexed reversed)) (λ rule _. read_as (Define field rule) h))

pub define_right : (d : Data) → Kept (define_in d)
define_right d =
    with_form (text_at (codes "field") d) _ (λ name. with_form (text_at (codes "kind") d) _ (λ kind.
    with_form (bool_at (codes "indexed") d) _ (λ indexed. with_form (bool_at (codes "reversed") d) _ (λ reversed. define_parts name kind indexed reversed))))

define_kept : (d : Data) → Kept (define_of d)
define_kept d = either (has_only (codes "op" ∷ define_members) d) _ (Err why.Shape) (define_right d) (refused why.Shape)

grant_parts : (caller : List ℕ) (names : Items) → Kept (grant_with caller names)
grant_parts caller names =
    with_part why.Caller (caller_of caller) _ (caller_known caller) (λ who w.
    with_part why.Auths (auths_of names) _ (auths_kept names) (λ auths a. read_as (Grant who auths) (w, a)))

pub grant_right : (d : Data) → Kept (grant_in d)
grant_right d = with_form (text_at (codes "caller") d) _ (λ caller. with_form (texts_at (codes "auths") d) _ (λ names. grant_parts caller names))

grant_kept : (d : Data) → Kept (grant_of d)
grant_kept d = either (has_only (codes "op" ∷ grant_members) d) _ (Err why.Shape) (grant_right d) (refused why.Shape)

pub batch_right : (batch : Option (List (Result Record BadRecord))) → Gives batch IsBatch → Kept (ingest_with batch)
batch_right batch h = with_part why.Records batch _ h (λ recs b. read_as (Ingest recs) b)

pub records_right : (d : Data) → Kept (records_in d)
records_right d = with_form (array_at (codes "records") d) _ (λ ds. batch_right (batch_of ds) (batch_known ds))

ingest_kept : (d : Data) → Kept (ingest_of d)
ingest_kept d =
    either (has_only (codes "op" ∷ codes "records" ∷ []) d) _ _ (records_right d)
    (either (has_only (codes "op" ∷ codes "csv" ∷ []) d) _ (Err why.Shape)
    (with_form (text_at (codes "csv") d) _ (λ text. batch_right (rows_batch (rows_of text)) (rows_known (rows_of text))))
    (refused why.Shape))

query_right : (caller : List ℕ) (auths : Option (List (List ℕ))) (query : Query) (first last : List ℕ) (types : Option Items) (size : Option ℕ)
    → is_caller caller ≡ true → IfSome auths IsAuthSet → IsSpelt query → Kept (create_as caller auths query first last types size)
query_right caller auths query first last types size c a q =
    with_part why.Days (days_of first last) _ (days_known first last) (λ days t.
    with_part why.Types (asked_types types) _ (types_known types) (λ wanted y.
    with_part why.Size (counted_to 1000 size) _ (number_known 1000 size) (λ most s. read_as (Create caller query days wanted most auths) (
      and_from (is_caller caller && are_days days && are_types wanted) (is_counted_to 1000 most)
          (and_from (is_caller caller && are_days days) (are_types wanted) (and_from (is_caller caller) (are_days days) c t) y) s,
      q,
      a,
    ))))

create_right : (caller : List ℕ) (names : Option Items) (text first last : List ℕ) (types : Option Items) (size : Option ℕ) → Kept (create_with caller names text first last types size)
create_right caller names text first last types size =
    with_part why.Caller (caller_of caller) _ (caller_known caller) (λ who c.
    with_part why.Auths (asked_auths names) _ (asked_known names) (λ auths a.
    with_query (query_of text) _ (λ query e. query_right who auths query first last types size c a (query_known text query e))))

pub create_in_right : (caller : List ℕ) (d : Data) → Kept (create_in caller d)
create_in_right caller d =
    with_form (text_at (codes "query") d) _ (λ text.
    with_form (text_at (codes "from") d) _ (λ first. with_form (text_at (codes "to") d) _ (λ last.
    with_form (asked_texts (codes "auths") d) _ (λ names. with_form (asked_texts (codes "types") d) _ (λ types.
    with_form (size_at d) _ (λ size. create_right caller names text first last types size))))))

create_kept : (d : Data) → Kept (create_of d)
create_kept d =
    either (has_only (codes "op" ∷ codes "caller" ∷ create_members) d) _ (Err why.Shape)
    (with_form (text_at (codes "caller") d) _ (λ caller. create_in_right caller d))
    (refused why.Shape)

pub page_right : (caller : List ℕ) (number page : Option ℕ) → Kept (page_with caller number page)
page_right caller number page =
    with_part why.Caller (caller_of caller) _ (caller_known caller) (λ who c.
    with_part why.Number (counted_to 9223372036854775807 number) _ (number_known 9223372036854775807 number) (λ n m.
    with_part why.Page (counted_to 4294967295 page) _ (number_known 4294967295 page) (λ k p. read_as (Page who n k)
    (and_from (is_caller who && is_query_number n) (is_counted_to 4294967295 k) (and_from (is_caller who) (is_query_number n) c m) p))))

page_kept : (d : Data) → Kept (page_of d)
page_kept d =
    either (has_only (codes "op" ∷ codes "caller" ∷ codes "number" ∷ codes "page" ∷ []) d) _ (Err why.Shape)
    (with_form (text_at (codes "caller") d) _ (λ caller. with_form (whole_at (codes "number") d) _ (λ number.
    with_form (whole_at (codes "page") d) _ (λ page. page_right caller number page))))
    (refused why.Shape)

pub close_right : (caller : List ℕ) (number : Option ℕ) → Kept (close_with caller number)
close_right caller number =
    with_part why.Caller (caller_of caller) _ (caller_known caller) (λ who c.
    with_part why.Number (counted_to 9223372036854775807 number) _ (number_known 9223372036854775807 number) (λ n m. read_as (Close who n)
    (and_from (is_caller who) (is_query_number n) c m)))

close_kept : (d : Data) → Kept (close_of d)
close_kept d =
    either (has_only (codes "op" ∷ codes "caller" ∷ codes "number" ∷ []) d) _ (Err why.Shape)
    (with_form (text_at (codes "caller") d) _ (λ caller. with_form (whole_at (codes "number") d) _ (λ number. close_right caller number)))
    (refused why.Shape)

named_kept : (op : List ℕ) (d : Data) → Kept (request_named op d)
named_kept op d =
    either (bytes_eq op (codes "define")) _ _ (define_kept d)
    (either (bytes_eq op (codes "grant")) _ _ (grant_kept d)
    (either (bytes_eq op (codes "ingest")) _ _ (ingest_kept d)
    (either (bytes_eq op (codes "create")) _ _ (create_kept d)
    (either (bytes_eq op (codes "page")) _ _ (page_kept d)
    (either (bytes_eq op (codes "close")) _ (Err why.Shape) (close_kept d) (refused why.Shape))))))

request_kept : (d : Data) → Kept (request_of d)
request_kept d = with_form (text_at (codes "op") d) _ (λ op. named_kept op d)

-- what follows from a text of JSON
pub text_kept : (text : List ℕ) (rest : Data → Result Request Why) → ((d : Data) → Kept (rest d)) → Kept (in_text text rest)
text_kept text rest k = at (nat_le (length text) 4194304) (json_of text)
  where
    at : (b : Bool) (o : Option Data) → Kept (read_from (cond b (needed why.Json o Ok) (Err why.Line)) rest)
    at true None = refused why.Json
    at true (Some d) = k d
    at false o = refused why.Line

pub line_kept : (line : List ℕ) → IfOk (read_line line) IsWellFormed
unfolding read_line
line_kept line = (text_kept line request_of request_kept).holds
