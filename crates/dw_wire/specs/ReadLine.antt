-- What request a line is, or why it is none.
use Rattle.std.specs.Prelude.{ℕ, ◌&&◌, Bool, true, nat_le, List, [], ◌∷◌, length, Option, Some, None, Result, Ok, Err, option_map, option_and_then, is_some, codes, if◌then◌else◌}
use Rattle.std.specs.Str.{bytes_eq}
use Rattle.std.specs.Ordering.{nat_cmp, is_le}
use Rattle.std.specs.Cmp.Lexicographic.{slice_cmp}
use Rattle.serde_json.specs.Data.{Num, unsigned, negative, float, Data, Items, no_items, item}
use Rattle.serde_json.specs.Find.{get, as_bool, as_str, as_number, as_array}
use Rattle.dw_base.specs.Days.{day_digits}
use Rattle.dw_key.specs.TypeName.{is_type_name}
use Rattle.dw_vis.specs.Names.{with_name}
use Rattle.dw_event.specs.declared.records.Record.{Record}
use Rattle.dw_event.specs.declared.days.Days.{Days}
use Rattle.dw_event.specs.declared.types.Types.{Types}
use Rattle.dw_event.specs.declared.types.Types.TheVariants.{All, Only}
use Rattle.dw_event.specs.declared.reports.BadRecord.{BadRecord}
use Rattle.dw_norm.specs.declared.kind.Kind.{Kind}
use Rattle.dw_norm.specs.declared.kind.Kind.TheVariants.{Text, Noop, Number, Date, Ipv4}
use Rattle.dw_dict.specs.Rules.{field_rule}
use Rattle.dw_dict.specs.declared.rule.FieldRule.{FieldRule}
use Rattle.dw_jexl.specs.declared.error.QueryRule.{QueryRule}
use Rattle.dw_jexl.specs.declared.query.Query.{Query}
use Rattle.dw_rows.specs.Values.{guarded, text_at, has_only}
use Rattle.dw_rows.specs.Entries.{field_of}
use Rattle.dw_groups.specs.Batches.{json_of, items_count, batch_of, rows_of, rows_batch}
use Rattle.dw_base.specs.Callers.{is_caller, is_auth}
use Rattle.dw_base.specs.declared.limits.TheConstants.{MAX_NAMES}
use Rattle.dw_wire.specs.declared.limits.TheConstants.{MAX_LINE, MAX_TYPES, MAX_SIZE, MAX_NUMBER, MAX_PAGE}
use Rattle.dw_wire.specs.declared.request.Request.{Request}
use Rattle.dw_wire.specs.declared.request.Request.TheVariants.{Define, Grant, Ingest, Create, Page, Close}
use Rattle.dw_wire.specs.declared.request.Why.{Why}
use Rattle.dw_wire.specs.declared.request.Why.TheVariants as why
use Rattle.dw_wire.specs.QueryTexts.{query_of}

-- the most bytes that a line may have
abbrev pub max_line : ℕ
max_line = MAX_LINE

-- ---- values and members

-- a member that is a truth value
abbrev pub bool_at : List ℕ → Data → Option Bool
bool_at name d = option_and_then as_bool (get name d)

-- a member that is a list
abbrev pub array_at : List ℕ → Data → Option Items
array_at name d = option_and_then as_array (get name d)

-- each item is a text
abbrev pub are_texts : Items → Bool
are_texts no_items = true
are_texts (item d ds) = is_some (as_str d) && are_texts ds

-- a member that is a list of texts
abbrev pub texts_at : List ℕ → Data → Option Items
texts_at name d = option_and_then (λ ds. guarded (are_texts ds) (Some ds)) (array_at name d)

-- such a member, or None within where it is missing
abbrev pub asked_texts : List ℕ → Data → Option (Option Items)
asked_texts name d = if is_some (get name d) then option_map Some (texts_at name d) else Some None

-- a whole number of 64 bits, or None within where it is below zero
abbrev pub whole_of : Num → Option (Option ℕ)
whole_of (unsigned n) = Some (Some n)
whole_of (negative z) = Some None
whole_of (float x) = None

-- a member that is such a number
abbrev pub whole_at : List ℕ → Data → Option (Option ℕ)
whole_at name d = option_and_then whole_of (option_and_then as_number (get name d))

-- such a number, where it is from 1 to the most
abbrev pub counted_to : ℕ → Option ℕ → Option ℕ
counted_to most None = None
counted_to most (Some n) = guarded (nat_le 1 n && nat_le n most) (Some n)

-- ---- what must be there

-- what follows from a part that must be there, or why there is none
abbrev pub needed : {A B : Type 0} → Why → Option A → (A → Result B Why) → Result B Why
needed reason None rest = Err reason
needed reason (Some a) rest = rest a

-- what follows from a query, or the rule that its text breaks
abbrev pub needed_query : {B : Type 0} → Result Query QueryRule → (Query → Result B Why) → Result B Why
needed_query (Err rule) rest = Err (why.Query rule)
needed_query (Ok query) rest = rest query

-- ---- callers, names and types

-- the caller that a text names
abbrev pub caller_of : List ℕ → Option (List ℕ)
caller_of caller = guarded (is_caller caller) (Some caller)

-- the names with those of a list of texts
abbrev pub with_auths : List (List ℕ) → Items → Option (List (List ℕ))
with_auths names no_items = Some names
with_auths names (item d ds) =
    option_and_then (λ name. guarded (is_auth name) (with_auths (with_name name names) ds)) (as_str d)

-- the set of the names of a list, at most 256 as they are written
abbrev pub auths_of : Items → Option (List (List ℕ))
auths_of ds = guarded (nat_le (items_count ds) MAX_NAMES) (with_auths [] ds)

-- the names that are asked for, where some are
abbrev pub asked_auths : Option Items → Option (Option (List (List ℕ)))
asked_auths None = Some None
asked_auths (Some ds) = option_map Some (auths_of ds)

-- the names of types that a list has
abbrev pub type_names : Items → Option (List (List ℕ))
type_names no_items = Some []
type_names (item d ds) =
    option_and_then (λ name. guarded (is_type_name name) (option_map (λ names. name ∷ names) (type_names ds))) (as_str d)

-- the types of a list of 1 to 64 names, as they are written
abbrev pub only_of : Items → Option Types
only_of ds = guarded (nat_le 1 (items_count ds) && nat_le (items_count ds) MAX_TYPES) (option_map Only (type_names ds))

-- the types that are asked for, all where none are named
abbrev pub asked_types : Option Items → Option Types
asked_types None = Some All
asked_types (Some ds) = only_of ds

-- ---- the definition of a field

-- the kind of a name
abbrev pub kind_of : List ℕ → Option Kind
kind_of name =
    if bytes_eq name (codes "TEXT") then Some Text
    else if bytes_eq name (codes "NOOP") then Some Noop
    else if bytes_eq name (codes "NUMBER") then Some Number
    else if bytes_eq name (codes "DATE") then Some Date
    else if bytes_eq name (codes "IPV4") then Some Ipv4
    else None

-- the rule of a kind by its name, where `reversed` stands only with `indexed`
abbrev pub rule_of : List ℕ → Bool → Bool → Option FieldRule
rule_of kind indexed reversed = option_and_then (λ k. field_rule k indexed reversed) (kind_of kind)

-- ---- a query

-- the days of a query, the first not after the last
abbrev pub days_of : List ℕ → List ℕ → Option Days
days_of first last =
    option_and_then (λ from. option_and_then (λ to. guarded (is_le (slice_cmp nat_cmp from to)) (Some (record { first = from; last = to }))) (day_digits last)) (day_digits first)

-- the size of a page that a create says, 10 where it says none
abbrev pub size_at : Data → Option (Option ℕ)
size_at d = if is_some (get (codes "size") d) then whole_at (codes "size") d else Some (Some 10)

-- ---- the requests: first whether the members are those of the request and of their types, and then each rule in turn

abbrev pub define_with : List ℕ → List ℕ → Bool → Bool → Result Request Why
define_with name kind indexed reversed =
    needed why.Field (field_of name) (λ field. needed why.Kind (rule_of kind indexed reversed) (λ rule. Ok (Define field rule)))

abbrev pub define_members : List (List ℕ)
define_members = codes "field" ∷ codes "kind" ∷ codes "indexed" ∷ codes "reversed" ∷ []

abbrev pub define_in : Data → Result Request Why
define_in d =
    needed why.Shape (text_at (codes "field") d) (λ name. needed why.Shape (text_at (codes "kind") d) (λ kind.
    needed why.Shape (bool_at (codes "indexed") d) (λ indexed. needed why.Shape (bool_at (codes "reversed") d) (λ reversed.
    define_with name kind indexed reversed))))

abbrev pub define_of : Data → Result Request Why
define_of d = if has_only (codes "op" ∷ define_members) d then define_in d else Err why.Shape

abbrev pub grant_with : List ℕ → Items → Result Request Why
grant_with caller names =
    needed why.Caller (caller_of caller) (λ who. needed why.Auths (auths_of names) (λ auths. Ok (Grant who auths)))

abbrev pub grant_members : List (List ℕ)
grant_members = codes "caller" ∷ codes "auths" ∷ []

abbrev pub grant_in : Data → Result Request Why
grant_in d =
    needed why.Shape (text_at (codes "caller") d) (λ caller. needed why.Shape (texts_at (codes "auths") d) (λ names. grant_with caller names))

abbrev pub grant_of : Data → Result Request Why
grant_of d = if has_only (codes "op" ∷ grant_members) d then grant_in d else Err why.Shape

-- what was read of a batch, where its records are not too many
abbrev pub ingest_with : Option (List (Result Record BadRecord)) → Result Request Why
ingest_with batch = needed why.Records batch (λ recs. Ok (Ingest recs))

abbrev pub records_in : Data → Result Request Why
records_in d = needed why.Shape (array_at (codes "records") d) (λ ds. ingest_with (batch_of ds))

abbrev pub ingest_of : Data → Result Request Why
ingest_of d =
    if has_only (codes "op" ∷ codes "records" ∷ []) d then records_in d
    else if has_only (codes "op" ∷ codes "csv" ∷ []) d then needed why.Shape (text_at (codes "csv") d) (λ text. ingest_with (rows_batch (rows_of text)))
    else Err why.Shape

-- a create of a caller, names and a query that keep their rules
abbrev pub create_as : List ℕ → Option (List (List ℕ)) → Query → List ℕ → List ℕ → Option Items → Option ℕ → Result Request Why
create_as caller auths query first last types size =
    needed why.Days (days_of first last) (λ days. needed why.Types (asked_types types) (λ wanted. needed why.Size (counted_to MAX_SIZE size) (λ most.
    Ok (Create caller query days wanted most auths))))

abbrev pub create_with : List ℕ → Option Items → List ℕ → List ℕ → List ℕ → Option Items → Option ℕ → Result Request Why
create_with caller names text first last types size =
    needed why.Caller (caller_of caller) (λ who. needed why.Auths (asked_auths names) (λ auths. needed_query (query_of text) (λ query.
    create_as who auths query first last types size)))

-- the members of a create but for its caller
abbrev pub create_members : List (List ℕ)
create_members = codes "query" ∷ codes "from" ∷ codes "to" ∷ codes "types" ∷ codes "size" ∷ codes "auths" ∷ []

-- the create of a caller
abbrev pub create_in : List ℕ → Data → Result Request Why
create_in caller d =
    needed why.Shape (text_at (codes "query") d) (λ text.
    needed why.Shape (text_at (codes "from") d) (λ first. needed why.Shape (text_at (codes "to") d) (λ last.
    needed why.Shape (asked_texts (codes "auths") d) (λ names. needed why.Shape (asked_texts (codes "types") d) (λ types.
    needed why.Shape (size_at d) (λ size. create_with caller names text first last types size))))))

abbrev pub create_of : Data → Result Request Why
create_of d =
    if has_only (codes "op" ∷ codes "caller" ∷ create_members) d
    then needed why.Shape (text_at (codes "caller") d) (λ caller. create_in caller d)
    else Err why.Shape

abbrev pub page_with : List ℕ → Option ℕ → Option ℕ → Result Request Why
page_with caller number page =
    needed why.Caller (caller_of caller) (λ who. needed why.Number (counted_to MAX_NUMBER number) (λ n. needed why.Page (counted_to MAX_PAGE page) (λ k.
    Ok (Page who n k))))

abbrev pub page_of : Data → Result Request Why
page_of d =
    if has_only (codes "op" ∷ codes "caller" ∷ codes "number" ∷ codes "page" ∷ []) d
    then needed why.Shape (text_at (codes "caller") d) (λ caller. needed why.Shape (whole_at (codes "number") d) (λ number.
    needed why.Shape (whole_at (codes "page") d) (λ page. page_with caller number page)))
    else Err why.Shape

abbrev pub close_with : List ℕ → Option ℕ → Result Request Why
close_with caller number =
    needed why.Caller (caller_of caller) (λ who. needed why.Number (counted_to MAX_NUMBER number) (λ n. Ok (Close who n)))

abbrev pub close_of : Data → Result Request Why
close_of d =
    if has_only (codes "op" ∷ codes "caller" ∷ codes "number" ∷ []) d
    then needed why.Shape (text_at (codes "caller") d) (λ caller. needed why.Shape (whole_at (codes "number") d) (λ number. close_with caller number))
    else Err why.Shape

-- the request of this operation
abbrev pub request_named : List ℕ → Data → Result Request Why
request_named op d =
    if bytes_eq op (codes "define") then define_of d
    else if bytes_eq op (codes "grant") then grant_of d
    else if bytes_eq op (codes "ingest") then ingest_of d
    else if bytes_eq op (codes "create") then create_of d
    else if bytes_eq op (codes "page") then page_of d
    else if bytes_eq op (codes "close") then close_of d
    else Err why.Shape

-- the request that a value is: an object whose `op` is the name of an operation
abbrev pub request_of : Data → Result Request Why
request_of d = needed why.Shape (text_at (codes "op") d) (λ op. request_named op d)

-- the value that a text is, as JSON, where it is not too long
abbrev pub value_in : List ℕ → Result Data Why
value_in text = if nat_le (length text) max_line then needed why.Json (json_of text) Ok else Err why.Line

-- what follows from a value that was read
abbrev pub read_from : Result Data Why → (Data → Result Request Why) → Result Request Why
read_from (Err reason) rest = Err reason
read_from (Ok d) rest = rest d

-- what follows from the value that a text is
abbrev pub in_text : List ℕ → (Data → Result Request Why) → Result Request Why
in_text text rest = read_from (value_in text) rest

-- the request that a line is, or the first reason that holds why it is none
unfoldable pub read_line : List ℕ → Result Request Why
read_line line = in_text line request_of
