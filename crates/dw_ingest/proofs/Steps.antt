-- On one record more.
use Rattle.std.proofs.Common.{◌≡◌, ◌+◌, ◌<◌, ◌≤◌, ◌++◌, ◌||◌, ◌&&◌, ◌==◌, ◌^◌, ◌∷◌, [], ℕ, Bool, true, false, nat_le, cond, List, length, take, Option, Some, None, Ok, Err, refl, sym, ap, subst, ◌∙◌, arith, decimal}
use Rattle.std.specs.Option.{option_or, option_map_or}
use Rattle.std.specs.List.{list_any, list_all, AllByRecursion}
use Rattle.std.specs.List.Sorted.{IsStrictlySortedBy}
use Rattle.std.specs.Map.{lookup, keys_of}
use Rattle.std.specs.Cmp.{IsTotalOrder}
use Rattle.std.specs.BTreeMap.{is_at, insert_entry, get}
use Rattle.std.specs.Ordering.{is_eq, match_ordering, ordering_reverse}
use Rattle.std.specs.declared.cmp.Ordering.{Ordering}
use Rattle.std.specs.declared.cmp.Ordering.TheVariants.{Less, Equal, Greater}
use Rattle.std.proofs.lemmas.Bool.Decides.{nat_tests}
use Rattle.std.proofs.lemmas.Map.{NonePasses, none_passes_from_lookup}
use Rattle.std.proofs.lemmas.Map.Lookups.{CmpEqualImpliesEq}
use Rattle.std.proofs.lemmas.Nat.{mod_below}
use Rattle.std.proofs.Math.Seq.{take-append_seam}
use Rattle.std.specs.Char.{is_ascii_digit}
use Rattle.dw_event.specs.Numbers.{big_endian}
use Rattle.dw_event.specs.Records.{canon}
use Rattle.std.specs.FinMap.{empty}
use Rattle.dw_outside.proofs.Batches.{batches}
use Rattle.dw_outside.proofs.CellMaps.{tied}
use Rattle.dw_derive.proofs.Reading.{exact_places}
use Rattle.dw_base.specs.Days.{names_day}
use Rattle.dw_key.specs.TypeName.{is_type_name}
use Rattle.dw_event.specs.declared.cells.EventCell.{EventCell}
use Rattle.dw_event.specs.declared.records.Record.{Record}
use Rattle.dw_event.specs.declared.records.Place.{Place}
use Rattle.dw_event.specs.declared.records.Held.{Held}
use Rattle.dw_event.specs.declared.reports.BadReason.{BadReason}
use Rattle.dw_event.specs.declared.reports.BadReason.TheVariants.{Clash, Rule}
use Rattle.dw_event.specs.declared.reports.BadRecord.{BadRecord}
use Rattle.dw_event.specs.Cells.{cells_eq}
use Rattle.dw_event.specs.Places.{place_of, place_cmp, shard_number}
use Rattle.dw_event.specs.Records.{IsWellFormed}
use Rattle.dw_event.specs.Take.{Event, Taken, held_at, none_taken, with_held, with_record}
use Rattle.dw_outside.specs.Tables.{Tables, over}
use Rattle.dw_derive.specs.UidLists.{IsUid}
use Rattle.dw_derive.specs.Entries.{slots_of}
use Rattle.dw_derive.specs.Documents.{document_of, DocumentsAreRead}
use Rattle.dw_derive.specs.World.{World}
use Rattle.dw_derive.specs.Tables.{gives, tables}
use Rattle.dw_derive.specs.Lawful.{record_of, IsEvent, HasEvents, IsFree, with_event}
use Rattle.dw_derive.specs.Laws.{stepped, EventsAreSteps}
use Rattle.dw_derive.proofs.Lists.{any_inserted}
use Rattle.dw_derive.proofs.Orders.{places_total}
use Rattle.dw_derive.proofs.Shards.{left, KeepsRules, rules_of}
use Rattle.dw_ingest.specs.declared.standing.Standing.{Standing}
use Rattle.dw_ingest.specs.declared.standing.Standing.TheVariants.{Free, Same, Other}
use Rattle.dw_ingest.specs.declared.pending.Pending.{Pending}
use Rattle.dw_ingest.specs.declared.tally.Tally.{Tally}
use Rattle.dw_ingest.specs.Standing.{standing_of, standing_beside, standing_in}
use Rattle.dw_ingest.specs.Going.{with_events, Going}

-- ---- how a record stands to the events so far

-- nothing is held, the same cells are, or others
abbrev pub standing_held : Option Held → List EventCell → Standing
standing_held None cells = Free
standing_held (Some held) cells = standing_of held.cells cells

some_cells : (es : List Event) (p : Place) (h : Held) → AllByRecursion IsEvent es → lookup (is_at (place_cmp p)) es ≡ Some h → nat_le 1 (length h.cells) ≡ true
some_cells [] p h all e = cc
some_cells (d ∷ es) p h all e = at (is_eq (place_cmp p d.0)) e (some_cells es p h all.1)
  where
    at : (b : Bool) → cond b (Some d.1) (lookup (is_at (place_cmp p)) es) ≡ Some h → (lookup (is_at (place_cmp p)) es ≡ Some h → nat_le 1 (length h.cells) ≡ true) → nat_le 1 (length h.cells) ≡ true
    at true q r = let same : d.1 ≡ h = cc in let rules : KeepsRules (record_of d) = rules_of (record_of d) all.0.rules.rules in ap (λ (x : Held). nat_le 1 (length x.cells)) (sym same) ∙ rules.some
    at false q r = r q

stored_stands : (o : Option Held) (d cells : List EventCell) → ((h : Held) → o ≡ Some h → nat_le 1 (length h.cells) ≡ true) → d ≡ option_map_or (λ h. h.cells) o [] → standing_beside d cells ≡ standing_held o cells
stored_stands None d cells some is = ap (λ x. standing_beside x cells) is
stored_stands (Some h) d cells some is = ap (λ x. standing_beside x cells) is ∙ at h.cells (some h refl)
  where
    at : (cs : List EventCell) → nat_le 1 (length cs) ≡ true → standing_beside cs cells ≡ standing_of cs cells
    at [] e = cc
    at (c ∷ cs) e = refl

either_stands : (n o : Option Held) (d cells : List EventCell) → standing_beside d cells ≡ standing_held o cells → standing_in n d cells ≡ standing_held (option_or n o) cells
either_stands None o d cells e = e
either_stands (Some h) o d cells e = refl

-- what was read says how the record stands
pub stands : DocumentsAreRead → (w : World) (so_far : Taken) (t : Tables) (p : Pending) (rec : Record) (place : Place) (s : Standing) → HasEvents w → Going w so_far t p → t ≡ tables w
    → is_type_name place.key.dtype ≡ true → IsUid place.key.uid → s ≡ standing_in (get place_cmp p.news place) (document_of t place) rec.cells → s ≡ standing_held (held_at so_far.events place) rec.cells
stands read w so_far t p rec place s has going is dtype uid e =
    e
    ∙ either_stands (get place_cmp p.news place) (held_at w.events place) (document_of t place) rec.cells
    (stored_stands (held_at w.events place) (document_of t place) rec.cells (λ h k. some_cells w.events place h has.lawful k) (ap (λ m. document_of m place) is ∙ read w place has dtype uid))
    ∙ ap (λ o. standing_held o rec.cells) (sym (going.held place))

-- ---- one entry more

module _ {K X : Type 0} (R : K → K → Ordering) (exact : CmpEqualImpliesEq R) where
  lookup_inserted : (es : List (K × X)) (k : K) (v : X) (q : K) → NonePasses (is_at (R k)) es → lookup (is_at (R q)) (insert_entry R es k v) ≡ cond (is_eq (R q k)) (Some v) (lookup (is_at (R q)) es)
  lookup_inserted [] k v q h = refl
  lookup_inserted (e ∷ es) k v q h = at (R k e.0) h.0 (lookup_inserted es k v q h.1)
    where
      swap : (a b : Bool) → is_eq (R q k) ≡ a → is_eq (R q e.0) ≡ b → cond b (Some e.1) (cond a (Some v) (lookup (is_at (R q)) es)) ≡ cond a (Some v) (cond b (Some e.1) (lookup (is_at (R q)) es))
      swap true true i j = let same : q ≡ k = exact q k (tied (R q k) i) in cc (h.0, ap (λ x. is_eq (R x e.0)) same, j)
      swap true false i j = refl
      swap false b i j = refl

      at : (o : Ordering) → is_eq o ≡ false → lookup (is_at (R q)) (insert_entry R es k v) ≡ cond (is_eq (R q k)) (Some v) (lookup (is_at (R q)) es)
          → lookup (is_at (R q)) (match_ordering o ((k, v) ∷ e ∷ es) ((e.0, v) ∷ es) (e ∷ insert_entry R es k v)) ≡ cond (is_eq (R q k)) (Some v) (cond (is_eq (R q e.0)) (Some e.1) (lookup (is_at (R q)) es))
      at Less f r = refl
      at Equal f r = cc
      at Greater f r = ap (cond (is_eq (R q e.0)) (Some e.1)) r ∙ swap (is_eq (R q k)) (is_eq (R q e.0)) refl refl

module _ {K X : Type 0} (R : K → K → Ordering) (o : IsTotalOrder R) where
  all_inserted : (P : K → Type 0) (es : List (K × X)) (k : K) (v : X) → P k → AllByRecursion P (keys_of es) → AllByRecursion P (keys_of (insert_entry R es k v))
  all_inserted P [] k v p h = (p, tt)
  all_inserted P (e ∷ es) k v p h = at (R k e.0) (all_inserted P es k v p h.1)
    where
      at : (r : Ordering) → AllByRecursion P (keys_of (insert_entry R es k v)) → AllByRecursion P (keys_of (match_ordering r ((k, v) ∷ e ∷ es) ((e.0, v) ∷ es) (e ∷ insert_entry R es k v)))
      at Less r = (p, h)
      at Equal r = h
      at Greater r = (h.0, r)

  above : (x y : K) (es : List (K × X)) → R x y ≡ Less → AllByRecursion (λ z. R y z ≡ Less) (keys_of es) → AllByRecursion (λ z. R x z ≡ Less) (keys_of es)
  above x y [] l h = tt
  above x y (e ∷ es) l h = (o.trans x y e.0 l h.0, above x y es l h.1)

  ascends_more : (es : List (K × X)) (k : K) (v : X) → IsStrictlySortedBy R (keys_of es) → IsStrictlySortedBy R (keys_of (insert_entry R es k v))
  unfolding IsStrictlySortedBy
  ascends_more [] k v s = (tt, tt)
  ascends_more (e ∷ es) k v s = at (R k e.0) refl (ascends_more es k v s.1)
    where
      at : (r : Ordering) → R k e.0 ≡ r → IsStrictlySortedBy R (keys_of (insert_entry R es k v)) → IsStrictlySortedBy R (keys_of (match_ordering r ((k, v) ∷ e ∷ es) ((e.0, v) ∷ es) (e ∷ insert_entry R es k v)))
      at Less l r = ((l, above k e.0 es l s.0), s)
      at Equal l r = s
      at Greater l r = (all_inserted (λ y. R e.0 y ≡ Less) es k v (o.antisymm e.0 k ∙ ap ordering_reverse l) s.0, r)

lawful_more : (es : List Event) (e : Event) → IsEvent e → NonePasses (is_at (place_cmp e.0)) es → AllByRecursion IsEvent es → AllByRecursion IsEvent (insert_entry place_cmp es e.0 e.1)
lawful_more [] e i n h = (i, tt)
lawful_more (d ∷ es) e i n h = at (place_cmp e.0 d.0) n.0 (lawful_more es e i n.1 h.1)
  where
    at : (r : Ordering) → is_eq r ≡ false → AllByRecursion IsEvent (insert_entry place_cmp es e.0 e.1) → AllByRecursion IsEvent (match_ordering r (e ∷ d ∷ es) ((d.0, e.1) ∷ es) (d ∷ insert_entry place_cmp es e.0 e.1))
    at Less f r = (i, h)
    at Equal f r = cc
    at Greater f r = (h.0, r)

or_right : (a b : Bool) → b ≡ true → (a || b) ≡ true
or_right true b h = refl
or_right false b h = h

-- the world stays lawful
has_more : (w : World) (e : Event) → HasEvents w → IsEvent e → IsFree w e → HasEvents (with_event w e)
has_more w e has event free = record {
  ascend = ascends_more place_cmp places_total w.events e.0 e.1 has.ascend;
  lawful = lawful_more w.events e event (none_passes_from_lookup (is_at (place_cmp e.0)) w.events free) has.lawful;
  old = λ s o. any_inserted place_cmp (gives (slots_of w.dict) s) w.events e.0 e.1 (none_passes_from_lookup (is_at (place_cmp e.0)) w.events free)
      ∙ or_right (gives (slots_of w.dict) s e) (list_any (gives (slots_of w.dict) s) w.events) (has.old s o);
}

-- ---- the event of a record

eight : (date : List ℕ) → names_day date ≡ true → length date ≡ 8
eight date h = let e : (length date == 8) ≡ true = left (length date == 8) (list_all is_ascii_digit date) (left ((length date == 8) && list_all is_ascii_digit date) _ h) in grind (arith, nat_tests, e)

pub event_is : (digest : List ℕ → List ℕ) (rec : Record) (place : Place) (number : ℕ) → place ≡ place_of digest rec → IsWellFormed rec → IsUid place.key.uid → 1 ≤ number → number < 2 ^ 64 → IsEvent (place, record { cells = rec.cells; batch = number })
event_is digest rec place number is well uid one most =
    let rules : KeepsRules rec = rules_of rec well.rules in
    let n = shard_number (digest (canon rec)) in
    let shard : place.shard ≡ rec.date ++ 95 ∷ decimal n = ap (λ (p : Place). p.shard) is in
    let long : length rec.date ≡ 8 = eight rec.date rules.date in
    let front : take 8 (rec.date ++ 95 ∷ decimal n) ≡ rec.date = ap (λ k. take k (rec.date ++ 95 ∷ decimal n)) (sym long) ∙ take-append_seam rec.date (95 ∷ decimal n) in
    let day : take 8 place.shard ≡ rec.date = ap (take 8) shard ∙ front in
    let same : record_of (place, record { cells = rec.cells; batch = number }) ≡ rec = λ i. record { dtype = (is i).key.dtype; date = day i; cells = rec.cells } in
    record {
      number = n;
      shard = record { below = mod_below (big_endian (take 8 (digest (canon rec)))) 16 (omega arith); spelled = shard ∙ ap (λ d. d ++ 95 ∷ decimal n) (sym day) };
      rules = subst IsWellFormed (sym same) well;
      uid = uid;
      first = one;
      most = most;
    }

-- ---- what a record comes to

not_free : {A : Type 0} (b : Bool) → Free ≡ cond b Same Other → A
not_free true e = cc
not_free false e = cc

free_is : (o : Option Held) (cells : List EventCell) → Free ≡ standing_held o cells → o ≡ None
free_is None cells e = refl
free_is (Some held) cells e = not_free (cells_eq held.cells cells) e

abbrev as_new : ℕ → Place → Record → Taken → Taken
as_new number place rec t = record { events = insert_entry place_cmp t.events place (record { cells = rec.cells; batch = number }); at = t.at + 1; new = t.new + 1; repeat = t.repeat; bad = t.bad }

abbrev pub as_repeat : Taken → Taken
as_repeat t = record { events = t.events; at = t.at + 1; new = t.new; repeat = t.repeat + 1; bad = t.bad }

abbrev pub as_bad : BadReason → Taken → Taken
as_bad why t = record { events = t.events; at = t.at + 1; new = t.new; repeat = t.repeat; bad = t.bad ++ record { at = t.at; why = why } ∷ [] }

pick_same : (b : Bool) (x y : Taken) → Same ≡ cond b Same Other → cond b x y ≡ x
pick_same true x y e = refl
pick_same false x y e = cc

pick_other : (b : Bool) (x y : Taken) → Other ≡ cond b Same Other → cond b x y ≡ y
pick_other true x y e = cc
pick_other false x y e = refl

pub same_is : (number : ℕ) (place : Place) (rec : Record) (t : Taken) (h : Option Held) → Same ≡ standing_held h rec.cells → as_repeat t ≡ with_held number place rec t h
same_is number place rec t None e = cc
same_is number place rec t (Some held) e = sym (pick_same (cells_eq held.cells rec.cells) _ _ e)

pub other_is : (number : ℕ) (place : Place) (rec : Record) (t : Taken) (h : Option Held) → Other ≡ standing_held h rec.cells → as_bad (Clash place) t ≡ with_held number place rec t h
other_is number place rec t None e = cc
other_is number place rec t (Some held) e = sym (pick_other (cells_eq held.cells rec.cells) _ _ e)

-- what a record comes to at its place
pub at_place : (digest : List ℕ → List ℕ) (number : ℕ) (t : Taken) (rec : Record) (place : Place) → place ≡ place_of digest rec → with_held number place rec t (held_at t.events place) ≡ with_record digest number t (Ok rec)
unfolding with_record
at_place digest number t rec place p = ap (λ q. with_held number q rec t (held_at t.events q)) p

pub rule_is : (digest : List ℕ → List ℕ) (number : ℕ) (t : Taken) (rule : BadRecord) → as_bad (Rule rule) t ≡ with_record digest number t (Err rule)
unfolding with_record
rule_is digest number t rule = refl

-- the tally goes on, and nothing else
pub counted : (w : World) (t : Tables) (so_far next : Taken) (p q : Pending) → Going w so_far t p → q.batch ≡ p.batch → q.news ≡ p.news → next.events ≡ so_far.events
    → q.tally.at ≡ next.at → q.tally.added ≡ next.new → q.tally.repeat ≡ next.repeat → q.tally.bad ≡ next.bad → Going w next t q
counted w t so_far next p q going batch news events at added repeat bad = record {
  at = at;
  added = added;
  repeat = repeat;
  bad = bad;
  held = λ x. ap (λ es. held_at es x) events ∙ going.held x ∙ ap (λ m. option_or (get place_cmp m x) (held_at w.events x)) (sym news);
  tables = ap (λ m. over m t) batch ∙ going.tables ∙ ap (λ es. tables (with_events w es)) (sym events);
  events = (let P : List Event → Type 0 = λ es. HasEvents (with_events w es) in subst P (sym events) going.events);
}

-- a new event
pub going_new : EventsAreSteps → (digest : List ℕ → List ℕ) (w : World) (so_far : Taken) (t : Tables) (p q : Pending) (rec : Record) (place : Place) (number : ℕ)
    → Going w so_far t p → IsEvent (place, record { cells = rec.cells; batch = number }) → place ≡ place_of digest rec → Free ≡ standing_held (held_at so_far.events place) rec.cells
    → over q.batch t ≡ stepped w.dict (place, record { cells = rec.cells; batch = number }) (over p.batch t)
    → q.news.entries ≡ insert_entry place_cmp p.news.entries place (record { cells = rec.cells; batch = number })
    → q.tally ≡ record p.tally { at = p.tally.at + 1; added = p.tally.added + 1 }
    → Going w (with_record digest number so_far (Ok rec)) t q
going_new steps digest w so_far t p q rec place number going event is standing batch news tally =
    let held : Held = record { cells = rec.cells; batch = number } in
    let now : World = with_events w so_far.events in
    let free : held_at so_far.events place ≡ None = free_is (held_at so_far.events place) rec.cells standing in
    let unread : option_or (get place_cmp p.news place) (held_at w.events place) ≡ None = sym (going.held place) ∙ free in
    let unkept : get place_cmp p.news place ≡ None = first_none (get place_cmp p.news place) (held_at w.events place) unread in
    let next : Taken = as_new number place rec so_far in
    let same : next ≡ with_record digest number so_far (Ok rec) = ap (with_held number place rec so_far) (sym free) ∙ at_place digest number so_far rec place is in
    let P : Taken → Type 0 = λ s. Going w s t q in
    subst P same (record {
      at = ap (λ (x : Tally). x.at) tally ∙ ap (λ n. n + 1) going.at;
      added = ap (λ (x : Tally). x.added) tally ∙ ap (λ n. n + 1) going.added;
      repeat = ap (λ (x : Tally). x.repeat) tally ∙ going.repeat;
      bad = ap (λ (x : Tally). x.bad) tally ∙ going.bad;
      held = λ x.
          lookup_inserted place_cmp exact_places so_far.events place held x (none_passes_from_lookup (is_at (place_cmp place)) so_far.events free)
          ∙ ap (cond (is_eq (place_cmp x place)) (Some held)) (going.held x)
          ∙ or_cond (is_eq (place_cmp x place)) held (get place_cmp p.news x) (held_at w.events x)
          ∙ ap (λ o. option_or o (held_at w.events x)) (sym (ap (lookup (is_at (place_cmp x))) news ∙ lookup_inserted place_cmp exact_places p.news.entries place held x (none_passes_from_lookup (is_at (place_cmp place)) p.news.entries unkept)));
      tables = batch ∙ ap (stepped w.dict (place, held)) going.tables ∙ steps now (place, held) going.events event free;
      events = has_more now (place, held) going.events event free;
    })
  where
    first_none : (a b : Option Held) → option_or a b ≡ None → a ≡ None
    first_none None b e = refl
    first_none (Some x) b e = cc

    or_cond : (b : Bool) (h : Held) (a o : Option Held) → cond b (Some h) (option_or a o) ≡ option_or (cond b (Some h) a) o
    or_cond true h a o = refl
    or_cond false h a o = refl

-- before the first record
pub going_first : (w : World) (t : Tables) (p : Pending) → HasEvents w → t ≡ tables w → p.batch ≡ empty → p.news.entries ≡ [] → p.tally ≡ record { at = 0; added = 0; repeat = 0; bad = [] } → Going w (none_taken w.events) t p
going_first w t p has is batch news tally = record {
  at = ap (λ (x : Tally). x.at) tally;
  added = ap (λ (x : Tally). x.added) tally;
  repeat = ap (λ (x : Tally). x.repeat) tally;
  bad = ap (λ (x : Tally). x.bad) tally;
  held = λ q. sym (ap (λ es. option_or (lookup (is_at (place_cmp q)) es) (held_at w.events q)) news);
  tables = ap (λ m. over m t) batch ∙ batches.none t ∙ is;
  events = has;
}
