-- What is seen of a world's events in one shard.
use Rattle.std.proofs.Common.{◌≡◌, ◌&&◌, ℕ, Bool, true, false, not, nat_le, cond, List, [], ◌∷◌, map, refl, sym, ap, subst, ◌∙◌}
use Rattle.std.specs.Prelude.{Some}
use Rattle.std.specs.List.{filter, AllByRecursion}
use Rattle.std.specs.List.Sorted.{IsStrictlySortedBy}
use Rattle.std.specs.Map.{lookup}
use Rattle.std.specs.Map as placed
use Rattle.std.specs.BTreeMap.{is_at}
use Rattle.std.specs.Ordering.{nat_cmp, is_eq, ordering_reverse}
use Rattle.std.specs.Cmp.Lexicographic.{slice_cmp}
use Rattle.std.specs.declared.cmp.Ordering.TheVariants.{Less}
use Rattle.std.proofs.lemmas.Cmp.{tied_itself}
use Rattle.std.proofs.lemmas.Map.Keys.{sorted_head, sorted_tail}
use Rattle.std.proofs.lemmas.Map.Lookups.{exact_bytes}
use Rattle.std.proofs.lemmas.Bool.{and_parts}
use Rattle.dw_key.specs.declared.doc_key.DocKey.{DocKey}
use Rattle.dw_event.specs.Places.{place_cmp}
use Rattle.dw_event.specs.Seen.{shown_of, is_seen, seen}
use Rattle.dw_event.specs.Take.{Event, held_at}
use Rattle.dw_event.specs.Texts.{is_same}
use Rattle.dw_event.specs.Views.{view_of}
use Rattle.dw_event.specs.Wanted.{is_type_wanted}
use Rattle.dw_event.specs.declared.records.Place.{Place}
use Rattle.dw_event.specs.declared.reports.Shown.{Shown}
use Rattle.dw_nest.specs.declared.bound.Bound.{Bound}
use Rattle.dw_nest.specs.Bounds.{meets, rest}
use Rattle.dw_outside.specs.declared.cell.Cell.{Cell}
use Rattle.dw_outside.specs.Tables.{cell_pair, span_of}
use Rattle.dw_outside.proofs.CellMaps.{tied}
use Rattle.dw_outside.proofs.SpanCells.{span_ascends, span_within}
use Rattle.dw_eval.specs.Kleene.{kleene}
use Rattle.dw_eval.specs.Sat.{sat}
use Rattle.dw_eval.specs.Values.{normal_view}
use Rattle.dw_plan.specs.Hit.{is_no}
use Rattle.dw_derive.specs.World.{World}
use Rattle.dw_derive.specs.Tables.{tables}
use Rattle.dw_derive.specs.Lawful.{IsEvent, HasEvents}
use Rattle.dw_derive.proofs.Lists.{all_filtered, filter_alike}
use Rattle.dw_derive.proofs.Orders.{places_total}
use Rattle.dw_tablet.specs.Places.{shard_start, shard_end, between, Ascends as KeysAscend, AreFrom, AreBefore}
use Rattle.dw_tablet.specs.Documents.{document_start, document_end, view_in}
use Rattle.dw_tablet.proofs.Keys.{ascend, are_from, are_before}
use Rattle.dw_scan.specs.declared.ask.Ask.{Ask}
use Rattle.dw_scan.specs.Answers.{beyond, is_met, shown_at}
use Rattle.dw_scan.specs.Candidates.{keys_of, is_candidate}
use Rattle.dw_scan.specs.Worlds.{content_of, view_held, shard_seen}
use Rattle.dw_scan.specs.WorldAnswers.{WorldsAreContents, AnswersAreSeen}
use Rattle.dw_scan.proofs.Allowed.{answers_are_candidates}
use Rattle.dw_scan.proofs.Sharded.{doc_of_event}
use Rattle.dw_scan.proofs.WorldViews.{documents_are_views}

pub same_text : (a b : List ℕ) → is_same a b ≡ true → a ≡ b
same_text a b h = exact_bytes a b (tied (slice_cmp nat_cmp a b) h)

all_places : (P : Place → Type 0) (es : List Event) → AllByRecursion P (placed.keys_of es) → AllByRecursion (λ (e : Event). P e.0) es
all_places P [] h = tt
all_places P (e ∷ es) h = (h.0, all_places P es h.1)

-- ---- one event after another

module _ (shard : List ℕ) (names : List (List ℕ)) (snapshot : ℕ) where
  -- what is seen of some events there
  abbrev pub some_seen : List Event → List Shown
  some_seen es = filter (λ s. is_same s.shard shard) (seen names es snapshot)

  -- the event is seen there
  abbrev pub shows : Event → Bool
  shows e = nat_le e.1.batch snapshot && (is_seen (view_of names e.1.cells) && is_same e.0.shard shard)

  batched : (e : Event) (xs : List Event) (b : Bool)
      → filter (λ s. is_seen s.view) (map (shown_of names) (cond b (e ∷ xs) xs))
      ≡ cond b (cond (is_seen (view_of names e.1.cells)) (shown_of names e ∷ filter (λ s. is_seen s.view) (map (shown_of names) xs)) (filter (λ s. is_seen s.view) (map (shown_of names) xs))) (filter (λ s. is_seen s.view) (map (shown_of names) xs))
  batched e xs true = refl
  batched e xs false = refl

  sharded : (e : Event) (ys : List Shown) (a b : Bool)
      → filter (λ s. is_same s.shard shard) (cond a (cond b (shown_of names e ∷ ys) ys) ys)
      ≡ cond (a && (b && is_same e.0.shard shard)) (shown_of names e ∷ filter (λ s. is_same s.shard shard) ys) (filter (λ s. is_same s.shard shard) ys)
  sharded e ys true true = refl
  sharded e ys true false = refl
  sharded e ys false b = refl

  pub step : (e : Event) (es : List Event) → some_seen (e ∷ es) ≡ cond (shows e) (shown_of names e ∷ some_seen es) (some_seen es)
  step e es =
      ap (filter (λ s. is_same s.shard shard)) (batched e (filter (λ d. nat_le d.1.batch snapshot) es) (nat_le e.1.batch snapshot))
      ∙ sharded e (seen names es snapshot) (nat_le e.1.batch snapshot) (is_seen (view_of names e.1.cells))

  -- what holds of events that are seen holds of what is seen of them
  each_seen : (Q : Event → Type 0) (P : Shown → Type 0) → ((e : Event) → Q e → shows e ≡ true → P (shown_of names e)) → (es : List Event) → AllByRecursion Q es → AllByRecursion P (some_seen es)
  each_seen Q P f [] h = tt
  each_seen Q P f (e ∷ es) h = subst (AllByRecursion P) (sym (step e es)) (at (shows e) refl (each_seen Q P f es h.1))
    where
      at : (b : Bool) → shows e ≡ b → AllByRecursion P (some_seen es) → AllByRecursion P (cond b (shown_of names e ∷ some_seen es) (some_seen es))
      at true s later = (f e h.0 s, later)
      at false s later = later

  shard_of : (e : Event) → shows e ≡ true → e.0.shard ≡ shard
  shard_of e h = same_text e.0.shard shard (and_parts (is_seen (view_of names e.1.cells)) (is_same e.0.shard shard) (and_parts (nat_le e.1.batch snapshot) _ h).1).1

-- ---- each event is held at its place

both_of : {A : Type 0} (P Q R : A → Type 0) → ((x : A) → P x → Q x → R x) → (xs : List A) → AllByRecursion P xs → AllByRecursion Q xs → AllByRecursion R xs
both_of P Q R f [] h k = tt
both_of P Q R f (x ∷ xs) h k = (f x h.0 k.0, both_of P Q R f xs h.1 k.1)

abbrev IsHeldIn : List Event → Event → Type 0
IsHeldIn es e = lookup (is_at (place_cmp e.0)) es ≡ Some e.1

held_in : (es : List Event) → IsStrictlySortedBy place_cmp (placed.keys_of es) → AllByRecursion (IsHeldIn es) es
held_in [] s = tt
held_in (e ∷ es) s = (
  ap (λ o. cond (is_eq o) (Some e.1) (lookup (is_at (place_cmp e.0)) es)) (tied_itself places_total e.0),
  both_of (λ d. place_cmp e.0 d.0 ≡ Less) (IsHeldIn es) (IsHeldIn (e ∷ es))
      (λ d l h. ap (λ o. cond (is_eq o) (Some e.1) (lookup (is_at (place_cmp d.0)) es)) (places_total.antisymm d.0 e.0 ∙ ap ordering_reverse l) ∙ h)
      es (all_places (λ y. place_cmp e.0 y ≡ Less) es (sorted_head place_cmp e.0 (placed.keys_of es) s)) (held_in es (sorted_tail place_cmp e.0 (placed.keys_of es) s)),
)

-- ---- documents of what is seen

module _ (ask : Ask) (w : World) (shard : List ℕ) (has : HasEvents w) where
  abbrev all_seen : List Shown
  all_seen = shard_seen w shard ask.auths ask.snapshot

  abbrev document : DocKey → Shown
  document key = shown_at ask shard (content_of w shard) key

  one_document : (e : Event) → IsEvent e → IsHeldIn w.events e → shows shard ask.auths ask.snapshot e ≡ true → document e.0.key ≡ shown_of ask.auths e
  one_document e i held s =
      let row : shard ≡ e.0.shard = sym (shard_of shard ask.auths ask.snapshot e s) in
      let here : Place = record { shard = shard; key = e.0.key } in
      let place : here ≡ e.0 = λ j. record { shard = row j; key = e.0.key } in
      let view : view_in ask.auths ask.snapshot e.0.key (between (document_start shard e.0.key) (document_end shard e.0.key) (content_of w shard)) ≡ view_of ask.auths e.1.cells =
      documents_are_views w shard e.0.key ask.auths ask.snapshot has (doc_of_event e i)
      ∙ ap (view_held ask.auths ask.snapshot) (ap (held_at w.events) place ∙ held)
      ∙ ap (λ b. cond b (view_of ask.auths e.1.cells) []) (and_parts (nat_le e.1.batch ask.snapshot) _ s).0 in
      λ j. record { shard = row j; key = e.0.key; view = view j }

  documents : AllByRecursion (λ (s : Shown). document s.key ≡ s) all_seen
  documents = each_seen shard ask.auths ask.snapshot (λ e. IsEvent e × IsHeldIn w.events e) (λ s. document s.key ≡ s) (λ e h s. one_document e h.0 h.1 s) w.events
      (both_of IsEvent (IsHeldIn w.events) (λ e. IsEvent e × IsHeldIn w.events e) (λ e i h. (i, h)) w.events has.lawful (held_in w.events has.ascend))

  map_back : (xs : List Shown) → AllByRecursion (λ (s : Shown). document s.key ≡ s) xs → map document (keys_of xs) ≡ xs
  map_back [] h = refl
  map_back (x ∷ xs) h = (λ i. h.0 i ∷ map document (keys_of xs)) ∙ ap (λ ys. x ∷ ys) (map_back xs h.1)

-- ---- answers

rest_keys : (bound : Bound) (xs : List Shown) → rest (keys_of xs) bound ≡ keys_of (filter (λ s. meets bound s.key) xs)
rest_keys bound [] = refl
rest_keys bound (x ∷ xs) = at (meets bound x.key) (rest_keys bound xs)
  where
    at : (b : Bool) → rest (keys_of xs) bound ≡ keys_of (filter (λ s. meets bound s.key) xs)
        → cond b (x.key ∷ rest (keys_of xs) bound) (rest (keys_of xs) bound) ≡ keys_of (cond b (x ∷ filter (λ s. meets bound s.key) xs) (filter (λ s. meets bound s.key) xs))
    at true h = ap (λ ks. x.key ∷ ks) h
    at false h = h

filter_both : {A : Type 0} (p q : A → Bool) (xs : List A) → filter p (filter q xs) ≡ filter (λ x. q x && p x) xs
filter_both p q [] = refl
filter_both p q (x ∷ xs) = at (q x) (filter_both p q xs)
  where
    at : (b : Bool) → filter p (filter q xs) ≡ filter (λ y. q y && p y) xs
        → filter p (cond b (x ∷ filter q xs) (filter q xs)) ≡ cond (b && p x) (x ∷ filter (λ y. q y && p y) xs) (filter (λ y. q y && p y) xs)
    at true h = ap (λ ys. cond (p x) (x ∷ ys) ys) h
    at false h = h

joined_tests : (w n m t : Bool) → ((w && t) ≡ true → (w && n) ≡ true) → ((w && n) && (m && t)) ≡ (m && (w && t))
joined_tests false n true t h = refl
joined_tests false n false t h = refl
joined_tests true n m true h = ap (λ b. b && (m && true)) (h refl)
joined_tests true true true false h = refl
joined_tests true true false false h = refl
joined_tests true false true false h = refl
joined_tests true false false false h = refl

pub they_answer : AnswersAreSeen
they_answer ask w shard after has =
    let bound : Bound = beyond after in
    let xs : List Shown = shard_seen w shard ask.auths ask.snapshot in
    let candidate : Shown → Bool = is_candidate ask.dict ask.types ask.query in
    let met : Shown → Bool = is_met ask in
    ap (λ ks. filter met (map (document ask w shard has) ks)) (rest_keys bound (filter candidate xs))
    ∙ ap (filter met)
    (map_back ask w shard has (filter (λ s. meets bound s.key) (filter candidate xs))
    (all_filtered (λ (s : Shown). document ask w shard has s.key ≡ s) (λ s. meets bound s.key) (filter candidate xs)
    (all_filtered (λ (s : Shown). document ask w shard has s.key ≡ s) candidate xs (documents ask w shard has))))
    ∙ filter_both met (λ s. meets bound s.key) (filter candidate xs)
    ∙ filter_both (λ s. meets bound s.key && met s) candidate xs
    ∙ filter_alike _ _
    (λ s. joined_tests (is_type_wanted ask.types s.key.dtype) (not (is_no (kleene (normal_view ask.dict s.view) ask.query))) (meets bound s.key) (sat (normal_view ask.dict s.view) ask.query)
    (answers_are_candidates ask.dict ask.types ask.query s)) xs

-- ---- contents

abbrev cell_of : List ℕ × List ℕ → Cell
cell_of p = record { key = p.0; content = p.1 }

pairs_back : (xs : List (List ℕ × List ℕ)) → map cell_pair (map cell_of xs) ≡ xs
pairs_back [] = refl
pairs_back (x ∷ xs) = ap (λ ys. x ∷ ys) (pairs_back xs)

keys_back : (xs : List (List ℕ × List ℕ)) → map (λ (c : Cell). c.key) (map cell_of xs) ≡ map (λ (x : List ℕ × List ℕ). x.0) xs
keys_back [] = refl
keys_back (x ∷ xs) = ap (λ ks. x.0 ∷ ks) (keys_back xs)

pub worlds_are_contents : WorldsAreContents
worlds_are_contents w shard =
    let span : List (List ℕ × List ℕ) = span_of 0 (shard_start shard) (shard_end shard) (tables w) in
    let up = span_ascends 0 (shard_start shard) (shard_end shard) 0 (tables w) (map cell_of span) (pairs_back span) in
    let within = span_within 0 (shard_start shard) (shard_end shard) 0 (tables w) (map cell_of span) (pairs_back span) in
    record {
      ascends = subst KeysAscend (keys_back span) (ascend (map (λ (c : Cell). c.key) (map cell_of span)) up);
      from = subst (AreFrom (shard_start shard)) (keys_back span) (are_from shard (shard_start shard) (map cell_of span) within);
      before = subst (AreBefore (shard_end shard)) (keys_back span) (are_before shard (shard_start shard) (map cell_of span) within);
    }
