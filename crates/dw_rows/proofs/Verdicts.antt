-- What was gathered of entries gives the verdict on them.
use Rattle.std.proofs.Common.{◌≡◌, ℕ, Bool, true, false, not, ◌&&◌, ◌||◌, nat_le, if◌then◌else◌, List, [], ◌∷◌, length, refl, ap, ◌∙◌, Option, Some, None, option_map, unwrap_or, Ok, Err}
use Rattle.std.specs.List.{list_any, list_all}
use Rattle.dw_base.specs.Ascending.{set_of}
use Rattle.dw_event.specs.Cells.{cell_cmp}
use Rattle.dw_event.specs.Records.{canon}
use Rattle.dw_event.specs.declared.cells.EventCell.{EventCell}
use Rattle.dw_event.specs.declared.records.Record.{Record}
use Rattle.dw_event.specs.declared.reports.BadRecord.TheVariants.{Shape, TooLarge}
use Rattle.dw_rows.specs.Values.{guarded}
use Rattle.dw_rows.specs.Entries.{Entry, day_of, has_value, has_field, has_vis, has_short_value, cells_at, cells_of, is_small, verdict}
use Rattle.dw_rows.specs.JsonRecords.{fields_verdict}
use Rattle.dw_rows.specs.Sets.{with_all_few}
use Rattle.dw_rows.specs.Gathering.{none_gathered, with_entry, with_entries, sized, judged}
use Rattle.dw_rows.specs.declared.gathered.Gathered.{Gathered}
use Rattle.dw_rows.proofs.SetLemmas.{all_few, all_few_append}

or_last : (b : Bool) → (b || false) ≡ b
or_last true = refl
or_last false = refl

or_grouped : (a b c : Bool) → ((a || b) || c) ≡ (a || (b || c))
or_grouped true b c = refl
or_grouped false b c = refl

and_last : (b : Bool) → (b && true) ≡ b
and_last true = refl
and_last false = refl

and_grouped : (a b c : Bool) → ((a && b) && c) ≡ (a && (b && c))
and_grouped true b c = refl
and_grouped false b c = refl

-- what is known after entries, all at once
abbrev joined : Gathered → List Entry → Gathered
joined g es = record {
  cells = with_all_few g.cells (cells_of es);
  some_value = g.some_value || list_any has_value es;
  fields_kept = g.fields_kept && list_all has_field es;
  visibilities_kept = g.visibilities_kept && list_all has_vis es;
  values_kept = g.values_kept && list_all has_short_value es;
}

joined_with : (g : Gathered) (es : List Entry) → with_entries g es ≡ joined g es
joined_with g [] = rw (or_last g.some_value, and_last g.fields_kept, and_last g.visibilities_kept, and_last g.values_kept) refl
joined_with g (e ∷ es) =
    joined_with (with_entry g e) es
    ∙ rw (
      or_grouped g.some_value (has_value e) (list_any has_value es),
      and_grouped g.fields_kept (has_field e) (list_all has_field es),
      and_grouped g.visibilities_kept (has_vis e) (list_all has_vis es),
      and_grouped g.values_kept (has_short_value e) (list_all has_short_value es),
      all_few_append g.cells (cells_at e) (cells_of es),
    ) refl

size_at : (few small : Bool) (rec : Record) → (if few then (if small then Ok rec else Err TooLarge) else Err TooLarge) ≡ (if not (few && small) then Err TooLarge else Ok rec)
size_at true true rec = refl
size_at true false rec = refl
size_at false small rec = refl

sized_at : (b : Bool) (dtype date : List ℕ) (cells : List EventCell)
    → sized dtype date (guarded b (Some cells)) ≡ (if b then sized dtype date (Some cells) else Err TooLarge)
sized_at true dtype date cells = refl
sized_at false dtype date cells = refl

sized_is : (dtype date : List ℕ) (cs : List EventCell) → let rec : Record = record { dtype = dtype; date = date; cells = set_of cell_cmp cs } in
    sized dtype date (with_all_few (Some []) cs) ≡ (if not (is_small rec) then Err TooLarge else Ok rec)
sized_is dtype date cs =
    let set : List EventCell = set_of cell_cmp cs in
    let rec : Record = record { dtype = dtype; date = date; cells = set } in
    ap (sized dtype date) (all_few [] cs)
    ∙ sized_at (nat_le (length set) 4096) dtype date set
    ∙ size_at (nat_le (length set) 4096) (nat_le (length (canon rec)) 65536) rec

-- the verdict on a type, a date and entries
pub judged_is : (dtype date : List ℕ) (es : List Entry) → judged dtype date (with_entries none_gathered es) ≡ verdict (record { dtype = dtype; date = date; entries = es })
judged_is dtype date es = ap (judged dtype date) (joined_with none_gathered es) ∙ rw (sized_is dtype (unwrap_or (day_of date) []) (cells_of es)) refl

-- the same of the entries of fields, where these are of their form
pub fields_judged : (dtype date : List ℕ) (entries : Option (List Entry)) (g : Gathered) → Some g ≡ option_map (with_entries none_gathered) entries
    → judged dtype date g ≡ fields_verdict dtype date entries
fields_judged dtype date None g h = cc
fields_judged dtype date (Some es) g h = let is : g ≡ with_entries none_gathered es = cc in rw is (judged_is dtype date es)

pub no_fields : (dtype date : List ℕ) (entries : Option (List Entry)) → None ≡ option_map (with_entries none_gathered) entries → fields_verdict dtype date entries ≡ Err Shape
no_fields dtype date None h = refl
no_fields dtype date (Some es) h = cc
