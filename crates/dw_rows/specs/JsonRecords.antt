-- Records of JSON.
use Rattle.std.specs.Prelude.{ℕ, List, [], ◌∷◌, ◌++◌, Option, Some, None, option_map, option_and_then, codes, decimal, Result, Err, if◌then◌else◌}
use Rattle.std.specs.Fmt.{signed_decimal}
use Rattle.serde_json.specs.Data.{Num, unsigned, negative, float, Data, Items, no_items, item, Members, no_members, member}
use Rattle.serde_json.specs.Find.{get, as_str}
use Rattle.dw_event.specs.declared.records.Record.{Record}
use Rattle.dw_event.specs.declared.reports.BadRecord.{BadRecord}
use Rattle.dw_event.specs.declared.reports.BadRecord.TheVariants.{Shape}
use Rattle.dw_rows.specs.Values.{guarded, text_at, object_at, has_only}
use Rattle.dw_rows.specs.Entries.{Entry, field_of, vis_of, verdict}

-- the decimal text of a whole number of 64 bits
abbrev pub whole_text : Num → Option (List ℕ)
whole_text (unsigned n) = Some (decimal n)
whole_text (negative z) = Some (signed_decimal z)
whole_text (float x) = None

-- the value that a text, a whole number or a truth value is
abbrev pub scalar_text : Data → Option (List ℕ)
scalar_text Data.null = None
scalar_text (Data.boolean b) = Some (if b then codes "true" else codes "false")
scalar_text (Data.number n) = whole_text n
scalar_text (Data.string s) = Some s
scalar_text (Data.array ds) = None
scalar_text (Data.object ms) = None

-- the visibility that a member `vis` gives, or else this one. None where the member is no text.
abbrev pub vis_member : Option Data → Option (List ℕ) → Option (Option (List ℕ))
vis_member None default = Some default
vis_member (Some d) default = option_map vis_of (as_str d)

-- the entry of a field, a visibility and such a value
abbrev pub scalar_entry : Option (List ℕ) → Option (List ℕ) → Data → Option Entry
scalar_entry field vis d = option_map (λ raw. record { field = field; vis = vis; raw = raw }) (scalar_text d)

-- the entry of an object with such a value as `value` and perhaps a visibility of its own as `vis`
abbrev pub object_entry : Option (List ℕ) → Option (List ℕ) → Data → Option Entry
object_entry field default d =
    guarded (has_only (codes "value" ∷ codes "vis" ∷ []) d)
    (option_and_then (λ vis. option_and_then (scalar_entry field vis) (get (codes "value") d)) (vis_member (get (codes "vis") d) default))

-- the entry of an item: such a value, `null` for none, or such an object
abbrev pub item_entry : Option (List ℕ) → Option (List ℕ) → Data → Option Entry
item_entry field default Data.null = Some (record { field = field; vis = default; raw = [] })
item_entry field default (Data.boolean b) = scalar_entry field default (Data.boolean b)
item_entry field default (Data.number n) = scalar_entry field default (Data.number n)
item_entry field default (Data.string s) = scalar_entry field default (Data.string s)
item_entry field default (Data.array ds) = None
item_entry field default (Data.object ms) = object_entry field default (Data.object ms)

-- the entries of items, in order
abbrev pub item_entries : Option (List ℕ) → Option (List ℕ) → Items → Option (List Entry)
item_entries field default no_items = Some []
item_entries field default (item d ds) =
    option_and_then (λ e. option_map (λ es. e ∷ es) (item_entries field default ds)) (item_entry field default d)

-- the entries of one item, or of a list of them
abbrev pub value_entries : Option (List ℕ) → Option (List ℕ) → Data → Option (List Entry)
value_entries field default Data.null = item_entries field default (item Data.null no_items)
value_entries field default (Data.boolean b) = item_entries field default (item (Data.boolean b) no_items)
value_entries field default (Data.number n) = item_entries field default (item (Data.number n) no_items)
value_entries field default (Data.string s) = item_entries field default (item (Data.string s) no_items)
value_entries field default (Data.array ds) = item_entries field default ds
value_entries field default (Data.object ms) = item_entries field default (item (Data.object ms) no_items)

-- the entries of a field: one of its name and the record's visibility, with no value, and those of its items
abbrev pub named_entries : List ℕ → Option (List ℕ) → Data → Option (List Entry)
named_entries name default d =
    option_map (λ es. record { field = field_of name; vis = default; raw = [] } ∷ es) (value_entries (field_of name) default d)

-- the entries of fields, in order
abbrev pub field_entries : Option (List ℕ) → Members → Option (List Entry)
field_entries default no_members = Some []
field_entries default (member name d ms) =
    option_and_then (λ es. option_map (λ more. es ++ more) (field_entries default ms)) (named_entries name default d)

-- the verdict on a type, a date and the entries of the fields, where these are of their form
abbrev pub fields_verdict : List ℕ → List ℕ → Option (List Entry) → Result Record BadRecord
fields_verdict dtype date None = Err Shape
fields_verdict dtype date (Some es) = verdict (record { dtype = dtype; date = date; entries = es })

-- the same on the members that a record must have, and on the visibility that its values have else
abbrev pub parts_verdict : Option (List ℕ) → Option (List ℕ) → Option (Option (List ℕ)) → Option Members → Result Record BadRecord
parts_verdict None date default fields = Err Shape
parts_verdict (Some dtype) None default fields = Err Shape
parts_verdict (Some dtype) (Some date) None fields = Err Shape
parts_verdict (Some dtype) (Some date) (Some default) None = Err Shape
parts_verdict (Some dtype) (Some date) (Some default) (Some fields) = fields_verdict dtype date (field_entries default fields)

-- the record that a value of JSON is, or the first rule that it breaks: an object with the texts `type` and `date`, an
-- object `fields`, and perhaps a text `vis`, the empty one where it is missing
unfoldable pub json_record : Data → Result Record BadRecord
json_record d =
    if has_only (codes "type" ∷ codes "date" ∷ codes "fields" ∷ codes "vis" ∷ []) d
    then parts_verdict (text_at (codes "type") d) (text_at (codes "date") d) (vis_member (get (codes "vis") d) (Some [])) (object_at (codes "fields") d)
    else Err Shape
