-- The documents of a leaf in the shard of a world are the events that are seen there.
use Rattle.std.proofs.Common.{◌≡◌, ◌↔◌, ℕ, ◌==◌, Bool, true, false, ◌&&◌, ◌||◌, ◌⊎◌, inl, inr, List, [], ◌∷◌, map, filter, refl, sym, ap, ◌∙◌}
use Rattle.std.specs.Prelude.{nat_le}
use Rattle.std.specs.List.{list_any, AllByRecursion}
use Rattle.std.specs.FinMap as finmap
use Rattle.std.specs.Ordering.{is_eq}
use Rattle.std.specs.Cmp.{both_ways}
use Rattle.dw_base.proofs.Members.{StandsIn, stands_from, from_stands, members_of_set}
use Rattle.dw_key.specs.declared.doc_key.DocKey.{DocKey}
use Rattle.dw_key.specs.DocKeys.{doc_key_cmp}
use Rattle.dw_vis.specs.Sight.{sees}
use Rattle.dw_norm.specs.Normal.{norm}
use Rattle.dw_dict.specs.Dictionary.{Dictionary, rule_of}
use Rattle.dw_event.specs.declared.cells.EventCell.{EventCell}
use Rattle.dw_event.specs.declared.views.Pair.{Pair}
use Rattle.dw_event.specs.declared.reports.Shown.{Shown}
use Rattle.dw_event.specs.declared.types.Types.{Types}
use Rattle.dw_event.specs.Seen.{shown_of, is_seen, seen}
use Rattle.dw_event.specs.Take.{Event}
use Rattle.dw_event.specs.Texts.{is_same}
use Rattle.dw_event.specs.Views.{pair_cmp, exact_pairs, pair_of, seen_pairs, view_of}
use Rattle.dw_event.specs.Wanted.{is_type_wanted}
use Rattle.std.specs.Cmp.{IsTotalOrder, on_total, then_total}
use Rattle.std.specs.Cmp.Lexicographic.{nat_list_cmp_total}
use Rattle.dw_outside.specs.declared.slot.Slot.{Slot}
use Rattle.dw_outside.specs.Tables.{is_in_span}
use Rattle.dw_derive.specs.World.{World}
use Rattle.dw_derive.specs.Tables.{tables}
use Rattle.dw_derive.specs.Entries.{slots_of}
use Rattle.dw_derive.specs.Lawful.{IsEvent, HasEvents}
use Rattle.dw_derive.proofs.Lists.{any_mapped, any_alike}
use Rattle.dw_derive.proofs.Sets.{any_filtered}
use Rattle.dw_derive.proofs.Stepping.{any_cell}
use Rattle.dw_eval.specs.Laws.{passes}
use Rattle.dw_eval.specs.Leaves.{some_value}
use Rattle.dw_eval.specs.Values.{normal_view}
use Rattle.dw_eval.proofs.Forms.{forms_of_values}
use Rattle.dw_nest.specs.Bounds.{has}
use Rattle.dw_tablet.specs.Places.{shard_start, shard_end}
use Rattle.dw_tablet.specs.Values.{is_of_doc, some_says}
use Rattle.dw_iter.specs.LeafLists.{leaf_value}
use Rattle.dw_scan.specs.Candidates.{leaf_keys}
use Rattle.dw_scan.specs.Worlds.{content_of, shard_seen, IsIndexedAlike, LeavesFindTheSeen}
use Rattle.dw_scan.proofs.Found.{kept_ascend}
use Rattle.dw_scan.proofs.ShardOrder.{seen_ascend}
use Rattle.dw_scan.proofs.FieldCells.{says, meets_leaf, counts, event_counts}

-- ---- what some item of a set passes

any_stands : {A : Type 0} (p : A → Bool) (xs : List A) → list_any p xs ≡ true → (x : A) × StandsIn xs x × (p x ≡ true)
any_stands p [] h = cc
any_stands p (y ∷ ys) h = at (p y) refl h (λ g. any_stands p ys g)
  where
    at : (b : Bool) → p y ≡ b → (b || list_any p ys) ≡ true → (list_any p ys ≡ true → (x : _) × StandsIn ys x × (p x ≡ true)) → (x : _) × StandsIn (y ∷ ys) x × (p x ≡ true)
    at true e g later = (y, inl refl, e)
    at false e g later = let l = later g in (l.0, inr l.1, l.2)

stands_any : {A : Type 0} (p : A → Bool) (xs : List A) (x : A) → StandsIn xs x → p x ≡ true → list_any p xs ≡ true
stands_any p [] x h k = absurd h
stands_any p (y ∷ ys) x (inl e) k = ap (λ b. b || list_any p ys) (ap p e ∙ k)
stands_any p (y ∷ ys) x (inr h) k = or_right (p y) (stands_any p ys x h k)
  where
    or_right : (a : Bool) → list_any p ys ≡ true → (a || list_any p ys) ≡ true
    or_right true g = refl
    or_right false g = g

pairs_total : IsTotalOrder pair_cmp
pairs_total = then_total (on_total (λ p. p.field) nat_list_cmp_total) (on_total (λ p. p.raw) nat_list_cmp_total)

any_view : (p : Pair → Bool) (names : List (List ℕ)) (cells : List EventCell) → list_any p (view_of names cells) ≡ list_any p (seen_pairs names cells)
any_view p names cells =
    both_ways (list_any p (view_of names cells)) (list_any p (seen_pairs names cells))
    (λ h. let x = any_stands p (view_of names cells) h in
    stands_any p (seen_pairs names cells) x.0 (stands_from (seen_pairs names cells) x.0 ((members_of_set pairs_total exact_pairs (seen_pairs names cells) x.0).0 (from_stands (view_of names cells) x.0 x.1))) x.2)
    (λ h. let x = any_stands p (seen_pairs names cells) h in
    stands_any p (view_of names cells) x.0 (stands_from (view_of names cells) x.0 ((members_of_set pairs_total exact_pairs (seen_pairs names cells) x.0).1 (from_stands (seen_pairs names cells) x.0 x.1))) x.2)

module _ (names : List (List ℕ)) (snapshot : ℕ) (dict : Dictionary) (types : Types) (field : List ℕ) (test : List ℕ → Bool) where
  -- some value that is seen of an event meets a leaf where some cell of its does
  view_meets : (cells : List EventCell) → some_value (normal_view dict (view_of names cells)) field test
      ≡ list_any (λ c. sees c.vis names && (is_same c.field field && passes test (norm (rule_of dict c.field).kind c.raw))) cells
  view_meets cells =
      let p : Pair → Bool = λ q. is_same q.field field && passes test (norm (rule_of dict q.field).kind q.raw) in
      forms_of_values dict (view_of names cells) field test
      ∙ any_view p names cells
      ∙ any_mapped p pair_of (filter (λ c. sees c.vis names) cells)
      ∙ any_filtered (λ c. p (pair_of c)) (λ c. sees c.vis names) cells

  -- nothing is seen of an event of which no value is
  unseen : (view : List Pair) → is_seen view ≡ false → some_value (normal_view dict view) field test ≡ false
  unseen [] h = refl
  unseen (p ∷ ps) h = cc

and_false : (a : Bool) → (a && false) ≡ false
and_false true = refl
and_false false = refl

-- the tests in the order in which what is seen is made
ordered : (b v h w m d : Bool) → (v ≡ false → m ≡ false) → (b && (v && (h && ((w && m) && d)))) ≡ (b && (h && (d && (w && m))))
ordered b true h w m d hid = ap (λ x. b && (h && x)) (swapped (w && m) d)
  where
    swapped : (x y : Bool) → (x && y) ≡ (y && x)
    swapped true true = refl
    swapped true false = refl
    swapped false true = refl
    swapped false false = refl
ordered b false h w m d hid =
    and_false b
    ∙ sym (ap (λ x. b && (h && (d && (w && x)))) (hid refl) ∙ ap (λ x. b && (h && (d && x))) (and_false w) ∙ ap (λ x. b && (h && x)) (and_false d) ∙ ap (λ x. b && x) (and_false h) ∙ and_false b)

module _ (w : World) (shard : List ℕ) (names : List (List ℕ)) (snapshot : ℕ) (dict : Dictionary) (types : Types) (field : List ℕ) (test : List ℕ → Bool) (lawful : HasEvents w) (alike : IsIndexedAlike w dict snapshot field) where
  abbrev wanted : Shown → Bool
  wanted s = is_type_wanted types s.key.dtype && some_value (normal_view dict s.view) field test

  -- an event is seen, with a value that meets the leaf
  abbrev seen_event : DocKey → Event → Bool
  seen_event doc e = nat_le e.1.batch snapshot && (is_seen (view_of names e.1.cells) && (is_same e.0.shard shard && (wanted (shown_of names e) && is_eq (doc_key_cmp doc e.0.key))))

  of_seen : (doc : DocKey) → has (leaf_keys dict types (shard_seen w shard names snapshot) field test) doc ≡ list_any (seen_event doc) w.events
  of_seen doc =
      let early : Event → Bool = λ e. nat_le e.1.batch snapshot in
      any_mapped (λ k. is_eq (doc_key_cmp doc k)) (λ (s : Shown). s.key) (filter wanted (shard_seen w shard names snapshot))
      ∙ any_filtered (λ (s : Shown). is_eq (doc_key_cmp doc s.key)) wanted (shard_seen w shard names snapshot)
      ∙ any_filtered (λ (s : Shown). wanted s && is_eq (doc_key_cmp doc s.key)) (λ (s : Shown). is_same s.shard shard) (seen names w.events snapshot)
      ∙ any_filtered (λ (s : Shown). is_same s.shard shard && (wanted s && is_eq (doc_key_cmp doc s.key))) (λ (s : Shown). is_seen s.view) (map (shown_of names) (filter early w.events))
      ∙ any_mapped (λ (s : Shown). is_seen s.view && (is_same s.shard shard && (wanted s && is_eq (doc_key_cmp doc s.key)))) (shown_of names) (filter early w.events)
      ∙ any_filtered (λ e. is_seen (view_of names e.1.cells) && (is_same e.0.shard shard && (wanted (shown_of names e) && is_eq (doc_key_cmp doc e.0.key)))) early w.events

  of_event : (doc : DocKey) (e : Event) → seen_event doc e ≡ counts shard names snapshot types field test doc w.dict dict alike e (list_any (meets_leaf shard names snapshot types field test doc w.dict dict alike) e.1.cells)
  of_event doc e =
      let view = view_of names e.1.cells in
      let met = some_value (normal_view dict view) field test in
      ordered (nat_le e.1.batch snapshot) (is_seen view) (is_same e.0.shard shard) (is_type_wanted types e.0.key.dtype) met (is_eq (doc_key_cmp doc e.0.key)) (unseen names snapshot dict types field test view)
      ∙ ap (λ m. nat_le e.1.batch snapshot && (is_same e.0.shard shard && (is_eq (doc_key_cmp doc e.0.key) && (is_type_wanted types e.0.key.dtype && m)))) (view_meets names snapshot dict types field test e.1.cells)

  any_alike_all : (f g : Event → Bool) → ((e : Event) → IsEvent e → f e ≡ g e) → (es : List Event) → AllByRecursion IsEvent es → list_any f es ≡ list_any g es
  any_alike_all f g h [] all = refl
  any_alike_all f g h (e ∷ es) all = ap (λ b. b || list_any f es) (h e all.0) ∙ ap (λ b. g e || b) (any_alike_all f g h es all.1)

  of_cells : (doc : DocKey) → some_says (leaf_value field test names snapshot types) (content_of w shard) doc ≡ list_any (λ e. list_any (says shard names snapshot types field test doc w.dict dict alike) (slots_of w.dict e)) w.events
  of_cells doc =
      let f = leaf_value field test names snapshot types in
      let inside : Slot × List ℕ → Bool = λ c. (c.0.table == 0) && is_in_span (shard_start shard) (shard_end shard) c.0.key in
      any_mapped (λ key. is_of_doc doc (f key)) (λ (c : List ℕ × List ℕ). c.0) _
      ∙ any_mapped (λ (c : List ℕ × List ℕ). is_of_doc doc (f c.0)) (λ (c : Slot × List ℕ). (c.0.key, c.1)) (filter inside (finmap.entries (tables w)))
      ∙ any_filtered (λ (c : Slot × List ℕ). is_of_doc doc (f c.0.key)) inside (finmap.entries (tables w))
      ∙ any_alike _ _ (λ (c : Slot × List ℕ). joined (c.0.table == 0) (is_in_span (shard_start shard) (shard_end shard) c.0.key) (is_of_doc doc (f c.0.key))) (finmap.entries (tables w))
      ∙ sym (any_mapped (says shard names snapshot types field test doc w.dict dict alike) (λ (c : Slot × List ℕ). c.0) (finmap.entries (tables w)))
      ∙ any_cell w (says shard names snapshot types field test doc w.dict dict alike) (λ s t. ap (λ n. (n == 0) && (is_in_span (shard_start shard) (shard_end shard) s.key && is_of_doc doc (f s.key))) t)
    where
      joined : (a b c : Bool) → ((a && b) && c) ≡ (a && (b && c))
      joined true b c = refl
      joined false b c = refl

  exact : (doc : DocKey) → has (leaf_keys dict types (shard_seen w shard names snapshot) field test) doc ≡ some_says (leaf_value field test names snapshot types) (content_of w shard) doc
  exact doc =
      of_seen doc
      ∙ any_alike_all _ _ (λ e h. of_event doc e ∙ sym (event_counts shard names snapshot types field test doc w.dict dict alike e h)) w.events lawful.lawful
      ∙ sym (of_cells doc)

pub leaves_find_the_seen : LeavesFindTheSeen
leaves_find_the_seen w shard names snapshot dict types field test lawful alike = record {
  ascends = kept_ascend (λ s. is_type_wanted types s.key.dtype && some_value (normal_view dict s.view) field test) (shard_seen w shard names snapshot) (seen_ascend w shard names snapshot lawful);
  has = exact w shard names snapshot dict types field test lawful alike;
}
