-- On the events that tables stand for: they are lawful, and ascend.
use Rattle.std.proofs.Common.{◌≡◌, ◌≤◌, ◌<◌, ◌^◌, ◌&&◌, ℕ, Bool, true, nat_le, nat_lt, List, [], ◌∷◌, map, length, take, refl, sym, ap, subst, ◌∙◌, arith}
use Rattle.std.specs.Prelude.{filter}
use Rattle.std.specs.List.{list_any, list_all, AllByRecursion}
use Rattle.std.specs.List.Sorted.{IsStrictlySortedBy}
use Rattle.std.specs.Map.{keys_of}
use Rattle.std.specs.Ordering.{is_eq}
use Rattle.std.specs.FinMap.{keys}
use Rattle.std.proofs.lemmas.Cmp.{tied_itself}
use Rattle.std.proofs.lemmas.Bool.Decides.{nat_tests}
use Rattle.dw_base.specs.Ascending.{set_of}
use Rattle.dw_base.specs.Days.{names_day}
use Rattle.dw_base.specs.declared.limits.TheConstants.{MAX_CELLS, MAX_CANONICAL}
use Rattle.dw_key.specs.TypeName.{is_type_name}
use Rattle.dw_event.specs.declared.cells.EventCell.{EventCell}
use Rattle.dw_event.specs.declared.records.Place.{Place}
use Rattle.dw_event.specs.Cells.{cell_cmp, exact_cells}
use Rattle.dw_event.specs.Places.{place_cmp}
use Rattle.dw_event.specs.Records.{canon, is_cell}
use Rattle.dw_event.specs.Take.{Event}
use Rattle.dw_outside.specs.declared.slot.Slot.{Slot}
use Rattle.dw_outside.specs.Tables.{Tables}
use Rattle.dw_derive.specs.EventsRead.{CellReading, is_of, event_at, events_of}
use Rattle.dw_derive.specs.Lawful.{record_of, IsEvent}
use Rattle.dw_derive.specs.ReaderLaws.{IsDocKey}
use Rattle.dw_derive.proofs.Lists.{any_mapped, any_alike, all_filtered, all_pass}
use Rattle.dw_derive.proofs.Sets.{any_filtered, any_set, set_ascends}
use Rattle.dw_derive.proofs.Orders.{places_total}
use Rattle.dw_derive.proofs.Reading.{exact_places}
use Rattle.dw_derive.proofs.Shards.{left, right}
use Rattle.dw_derive.proofs.WholeDocuments.{cells_total}
use Rattle.dw_ingest.proofs.EntryTables.{all_items}
use Rattle.dw_audit.specs.WorldOf.{is_shard, is_batch, is_kept, readings_in, slot_counts, stored_events}
use Rattle.dw_audit.proofs.Passing.{all_found, all_by_tests, all_map, all_filter, ascend_filtered, some_there, or_left, or_right, and_true, both}
use Rattle.dw_audit.proofs.ShardNames.{shard_is, shard_day}
use Rattle.dw_audit.proofs.Countings.{Counts, counted_is}

module _ (rs : List CellReading) (count : AllByRecursion Counts rs) where
  -- the place of some reading, which names a document
  record IsPlaced (p : Place) : Type 0 where
    pub doc : IsDocKey p.key
    pub some : list_any (is_of p) rs ≡ true

  each_placed : (xs : List CellReading) → ((p : Place) → list_any (is_of p) xs ≡ true → list_any (is_of p) rs ≡ true) → AllByRecursion Counts xs → AllByRecursion IsPlaced (map (λ r. r.place) xs)
  each_placed [] f c = tt
  each_placed (x ∷ xs) f c = (
    record { doc = c.0.doc; some = f x.place (or_left (is_of x.place x) (list_any (is_of x.place) xs) (ap is_eq (tied_itself places_total x.place))) },
    each_placed xs (λ p h. f p (or_right (is_of p x) (list_any (is_of p) xs) h)) c.1,
  )

  placed : AllByRecursion IsPlaced (set_of place_cmp (map (λ (r : CellReading). r.place) rs))
  placed = all_items place_cmp IsPlaced [] (map (λ r. r.place) rs) tt (each_placed rs (λ p h. h) count)

  module _ (p : Place) (at : IsPlaced p) (kept : is_kept (event_at rs p) ≡ true) where
    abbrev mine : List EventCell
    mine = map (λ r. r.cell) (filter (is_of p) rs)

    abbrev cells : List EventCell
    cells = set_of cell_cmp mine

    cells_keep : list_all is_cell cells ≡ true
    cells_keep = all_by_tests is_cell cells (all_items cell_cmp (λ c. is_cell c ≡ true) [] mine tt
        (all_map Counts (λ c. is_cell c ≡ true) (λ r. r.cell) (λ r h. h.cell) (filter (is_of p) rs) (all_filtered Counts (is_of p) rs count)))

    some_cell : nat_le 1 (length cells) ≡ true
    some_cell = some_there (λ _. true) cells (
        any_set cell_cmp exact_cells cells_total (λ _. true) mine
        ∙ any_mapped (λ _. true) (λ r. r.cell) (filter (is_of p) rs)
        ∙ any_filtered (λ _. true) (is_of p) rs
        ∙ any_alike _ _ (λ r. and_true (is_of p r)) rs
        ∙ at.some)

    abbrev e : Event
    e = event_at rs p

    abbrev numbered : Bool
    numbered = is_batch e.1.batch

    abbrev few : Bool
    few = nat_le (length cells) MAX_CELLS

    abbrev short : Bool
    short = nat_le (length (canon (record_of e))) MAX_CANONICAL

    abbrev sharded : Bool
    sharded = is_shard p.shard

    front : (numbered && few && short) ≡ true
    front = left (numbered && few && short) sharded kept

    shard : sharded ≡ true
    shard = right (numbered && few && short) sharded kept

    batch_low : (n : ℕ) → is_batch n ≡ true → 1 ≤ n
    batch_low n h = let low : nat_le 1 n ≡ true = left (nat_le 1 n) (nat_lt n (2 ^ 63)) h in grind (arith, nat_tests)

    batch_high : (n : ℕ) → is_batch n ≡ true → n < 2 ^ 64
    batch_high n h = let high : nat_lt n (2 ^ 63) ≡ true = right (nat_le 1 n) (nat_lt n (2 ^ 63)) h in grind (arith, nat_tests)

    is_lawful : IsEvent e
    is_lawful =
        let two : (numbered && few) ≡ true = left (numbered && few) short front in
        let number = left numbered few two in
        let dtype : is_type_name p.key.dtype ≡ true = at.doc.dtype in
        let name = shard_is p.shard shard in
        record {
          number = name.0;
          shard = name.1;
          rules = record {
            rules = both _ short (both _ (list_all is_cell cells) (both _ few (both _ (nat_le 1 (length cells)) (both (is_type_name p.key.dtype) (names_day (take 8 p.shard)) dtype (shard_day p.shard shard)) some_cell) (right numbered few two)) cells_keep) (right (numbered && few) short front);
            ordered = set_ascends cell_cmp exact_cells cells_total mine;
          };
          uid = at.doc.uid;
          first = batch_low e.1.batch number;
          most = batch_high e.1.batch number;
        }

  pub kept_are_lawful : AllByRecursion IsEvent (filter is_kept (events_of rs))
  kept_are_lawful =
      all_pass (λ d. is_kept d ≡ true → IsEvent d) IsEvent is_kept (λ d h k. h k) (events_of rs)
      (all_map IsPlaced (λ d. is_kept d ≡ true → IsEvent d) (event_at rs) (λ p at kept. is_lawful p at kept) (set_of place_cmp (map (λ r. r.place) rs)) placed)

keys_back : (f : Place → Event) → ((p : Place) → (f p).0 ≡ p) → (ps : List Place) → keys_of (map f ps) ≡ ps
keys_back f h [] = refl
keys_back f h (p ∷ ps) = λ i. h p i ∷ keys_back f h ps i

pub readings_count : (slots : List Slot) → AllByRecursion Counts (readings_in slots)
readings_count slots = all_found Counts slot_counts counted_is slots

pub stored_lawful : (t : Tables) → AllByRecursion IsEvent (stored_events t)
stored_lawful t = kept_are_lawful (readings_in (keys t)) (readings_count (keys t))

pub events_ascend : (rs : List CellReading) → IsStrictlySortedBy place_cmp (keys_of (events_of rs))
events_ascend rs =
    let same = keys_back (event_at rs) (λ p. refl) (set_of place_cmp (map (λ r. r.place) rs)) in
    subst (IsStrictlySortedBy place_cmp) (sym same) (set_ascends place_cmp exact_places places_total (map (λ r. r.place) rs))

pub stored_ascend : (t : Tables) → IsStrictlySortedBy place_cmp (keys_of (stored_events t))
stored_ascend t = ascend_filtered place_cmp is_kept (events_of (readings_in (keys t))) (events_ascend (readings_in (keys t)))

pub stored_kept : (t : Tables) → AllByRecursion (λ e. is_kept e ≡ true) (stored_events t)
stored_kept t = all_filter is_kept (events_of (readings_in (keys t)))
