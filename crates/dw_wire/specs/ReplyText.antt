-- The text of a reply: compact JSON, members in byte order, and a line feed.
use Rattle.std.specs.Prelude.{ℕ, List, [], ◌∷◌, ◌++◌, map, codes, if◌then◌else◌}
use Rattle.serde_json.specs.Data.{Data, boolean, number, unsigned, string, array, object, no_items, item, Members, no_members, member}
use Rattle.serde_json.specs.View.{items_of}
use Rattle.serde_json.specs.Written.{compact_text}
use Rattle.hex.specs.Hex.{encode_lower}
use Rattle.dw_event.specs.declared.views.Pair.{Pair}
use Rattle.dw_wire.specs.declared.request.Why.{Why}
use Rattle.dw_wire.specs.declared.request.Why.TheVariants as why
use Rattle.dw_jexl.specs.declared.error.QueryRule.{QueryRule}
use Rattle.dw_jexl.specs.declared.error.QueryRule.TheVariants as rule
use Rattle.dw_wire.specs.declared.reply.Reply.{Reply}
use Rattle.dw_wire.specs.declared.reply.Reply.TheVariants.{Defined, Granted, Ingested, Created, Paged, Closed, Malformed, NotOwned, NotEmpty, Unanchored, Spent, StoreFault, OutOfMemory}
use Rattle.dw_event.specs.declared.reports.Bad.{Bad}
use Rattle.dw_event.specs.declared.reports.BadReason.{BadReason}
use Rattle.dw_event.specs.declared.reports.BadReason.TheVariants.{Rule, Clash}
use Rattle.dw_event.specs.declared.reports.BadRecord.{BadRecord}
use Rattle.dw_event.specs.declared.reports.BadRecord.TheVariants.{Shape, Dtype, Date, Field, Visibility, Value, TooLarge}
use Rattle.dw_event.specs.declared.reports.Shown.{Shown}
use Rattle.dw_event.specs.Texts.{is_same}

-- a text that is written out
abbrev pub word : List ℕ → Data
word text = string text

-- an object of one refusal
abbrev pub error_data : List ℕ → Data
error_data name = object (member (codes "error") (word name) no_members)

-- an object that says which request was done
abbrev pub done_data : List ℕ → Data
done_data name = object (member (codes "ok") (word name) no_members)

-- one raw value more, before those of the list
abbrev pub before_items : Data → Data → Data
before_items d Data.null = Data.null
before_items d (Data.boolean b) = Data.boolean b
before_items d (Data.number n) = Data.number n
before_items d (Data.string s) = Data.string s
before_items d (Data.array ds) = Data.array (item d ds)
before_items d (Data.object ms) = Data.object ms

-- the fields with a cell more, before the others
abbrev pub before_fields : Pair → Members → Members
before_fields c no_members = member c.field (array (item (word c.raw) no_items)) no_members
before_fields c (member f d ms) =
    if is_same c.field f then member f (before_items (word c.raw) d) ms
    else member c.field (array (item (word c.raw) no_items)) (member f d ms)

-- each field of a view, with its raw values
abbrev pub fields_data : List Pair → Members
fields_data [] = no_members
fields_data (c ∷ cs) = before_fields c (fields_data cs)

-- an event of a page
abbrev pub shown_data : Shown → Data
shown_data s =
    object (member (codes "fields") (object (fields_data s.view)) (member (codes "shard") (word s.shard)
    (member (codes "type") (word s.key.dtype) (member (codes "uid") (word (encode_lower s.key.uid)) no_members))))

-- the name of a rule on records
abbrev pub rule_text : BadRecord → List ℕ
rule_text Shape = codes "shape"
rule_text Dtype = codes "type"
rule_text Date = codes "date"
rule_text Field = codes "field"
rule_text Visibility = codes "visibility"
rule_text Value = codes "value"
rule_text TooLarge = codes "tooLarge"

-- a record that was not taken
abbrev pub bad_data_at : ℕ → BadReason → Data
bad_data_at at (Rule rule) = object (member (codes "at") (number (unsigned at)) (member (codes "why") (word (rule_text rule)) no_members))
bad_data_at at (Clash place) =
    object (member (codes "at") (number (unsigned at)) (member (codes "shard") (word place.shard)
    (member (codes "type") (word place.key.dtype) (member (codes "uid") (word (encode_lower place.key.uid))
    (member (codes "why") (word (codes "clash")) no_members)))))

abbrev pub bad_data : Bad → Data
bad_data b = bad_data_at b.at b.why

-- the name of a rule on queries
abbrev pub query_rule_text : QueryRule → List ℕ
query_rule_text rule.TooLong = codes "tooLong"
query_rule_text rule.TooDeep = codes "tooDeep"
query_rule_text rule.Syntax = codes "syntax"
query_rule_text rule.TooMany = codes "tooMany"
query_rule_text rule.Pattern = codes "pattern"

-- the member that says why
abbrev pub why_member : List ℕ → Members
why_member name = member (codes "why") (word name) no_members

-- the members of a refusal behind the first: a rule, where there is one, and why
abbrev pub why_members : Why → Members
why_members why.Line = why_member (codes "line")
why_members why.Json = why_member (codes "json")
why_members why.Shape = why_member (codes "shape")
why_members why.Caller = why_member (codes "caller")
why_members why.Field = why_member (codes "field")
why_members why.Kind = why_member (codes "kind")
why_members why.Auths = why_member (codes "auths")
why_members why.Records = why_member (codes "records")
why_members (why.Query rule) = member (codes "rule") (word (query_rule_text rule)) (why_member (codes "query"))
why_members why.Days = why_member (codes "days")
why_members why.Types = why_member (codes "types")
why_members why.Size = why_member (codes "size")
why_members why.Number = why_member (codes "number")
why_members why.Page = why_member (codes "page")
why_members why.Literal = why_member (codes "literal")

-- what a reply says
abbrev pub reply_data : Reply → Data
reply_data Defined = done_data (codes "define")
reply_data Granted = done_data (codes "grant")
reply_data (Ingested report) =
    object (member (codes "bad") (array (items_of (map bad_data report.bad))) (member (codes "new") (number (unsigned report.new))
    (member (codes "ok") (word (codes "ingest")) (member (codes "repeat") (number (unsigned report.repeat)) no_members))))
reply_data (Created n) = object (member (codes "number") (number (unsigned n)) (member (codes "ok") (word (codes "create")) no_members))
reply_data (Paged shown more) =
    object (member (codes "events") (array (items_of (map shown_data shown))) (member (codes "more") (boolean more)
    (member (codes "ok") (word (codes "page")) no_members)))
reply_data Closed = done_data (codes "close")
reply_data (Malformed why) = object (member (codes "error") (word (codes "malformed")) (why_members why))
reply_data NotOwned = error_data (codes "notOwned")
reply_data NotEmpty = error_data (codes "notEmpty")
reply_data Unanchored = error_data (codes "unanchored")
reply_data Spent = error_data (codes "spent")
reply_data StoreFault = error_data (codes "storeFault")
reply_data OutOfMemory = error_data (codes "outOfMemory")

-- the text of a reply, with its line feed
unfoldable pub reply_text : Reply → List ℕ
reply_text reply = compact_text (reply_data reply) ++ 10 ∷ []
