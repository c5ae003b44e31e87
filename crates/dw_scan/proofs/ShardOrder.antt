-- The events of one shard stand in the order of their keys.
use Rattle.std.proofs.Common.{◌≡◌, ℕ, Bool, true, false, cond, List, [], ◌∷◌, map, filter, refl, sym, ap, ◌∙◌}
use Rattle.std.specs.Prelude.{IsTrue, nat_le}
use Rattle.std.specs.List.{AllByRecursion}
use Rattle.std.specs.List.Sorted.{IsStrictlySortedBy}
use Rattle.std.specs.Map.{keys_of as places_of}
use Rattle.std.specs.Ordering.{nat_cmp, is_lt, ordering_then}
use Rattle.std.specs.Cmp.{tied_itself}
use Rattle.std.specs.Cmp.Lexicographic.{slice_cmp, nat_list_cmp_total}
use Rattle.std.specs.declared.cmp.Ordering.TheVariants.{Less}
use Rattle.std.proofs.lemmas.Map.Keys.{sorted_head, sorted_tail}
use Rattle.dw_key.specs.DocKeys.{doc_key_cmp}
use Rattle.dw_event.specs.declared.records.Place.{Place}
use Rattle.dw_event.specs.declared.reports.Shown.{Shown}
use Rattle.dw_event.specs.Places.{place_cmp}
use Rattle.dw_event.specs.Seen.{shown_of, is_seen, seen}
use Rattle.dw_event.specs.Take.{Event}
use Rattle.dw_event.specs.Texts.{is_same}
use Rattle.dw_derive.specs.World.{World}
use Rattle.dw_derive.specs.Lawful.{HasEvents}
use Rattle.dw_nest.specs.Bounds.{Ascends, is_before}
use Rattle.dw_plan.proofs.Named.{same_is}
use Rattle.dw_scan.specs.Candidates.{keys_of}
use Rattle.dw_scan.specs.Worlds.{SeenAscend, shard_seen}

-- the place of an event as it is shown
abbrev pub place : Shown → Place
place s = record { shard = s.shard; key = s.key }

-- places ascend
abbrev pub AreUp : List Shown → Type 0
AreUp [] = Unit {0}
AreUp (s ∷ ss) = AllByRecursion (λ r. place_cmp (place s) (place r) ≡ Less) ss × AreUp ss

all_kept : (P : Shown → Type 0) (p : Shown → Bool) (ss : List Shown) → AllByRecursion P ss → AllByRecursion P (filter p ss)
all_kept P p [] h = tt
all_kept P p (s ∷ ss) h = at (p s) (all_kept P p ss h.1)
  where
    at : (b : Bool) → AllByRecursion P (filter p ss) → AllByRecursion P (cond b (s ∷ filter p ss) (filter p ss))
    at true k = (h.0, k)
    at false k = k

pub up_kept : (p : Shown → Bool) (ss : List Shown) → AreUp ss → AreUp (filter p ss)
up_kept p [] h = tt
up_kept p (s ∷ ss) h = at (p s) (up_kept p ss h.1)
  where
    at : (b : Bool) → AreUp (filter p ss) → AreUp (cond b (s ∷ filter p ss) (filter p ss))
    at true k = (all_kept (λ r. place_cmp (place s) (place r) ≡ Less) p ss h.0, k)
    at false k = k

module _ (names : List (List ℕ)) (snapshot : ℕ) where
  abbrev shown : List Event → List Shown
  shown events = map (shown_of names) (filter (λ e. nat_le e.1.batch snapshot) events)

  later_shown : (p : Place) (events : List Event) → AllByRecursion (λ q. place_cmp p q ≡ Less) (places_of events) → AllByRecursion (λ r. place_cmp p (place r) ≡ Less) (shown events)
  later_shown p [] h = tt
  later_shown p (e ∷ es) h = at (nat_le e.1.batch snapshot) (later_shown p es h.1)
    where
      at : (b : Bool) → AllByRecursion (λ r. place_cmp p (place r) ≡ Less) (shown es) → AllByRecursion (λ r. place_cmp p (place r) ≡ Less) (map (shown_of names) (cond b (e ∷ filter (λ d. nat_le d.1.batch snapshot) es) (filter (λ d. nat_le d.1.batch snapshot) es)))
      at true k = (h.0, k)
      at false k = k

  up_shown : (events : List Event) → IsStrictlySortedBy place_cmp (places_of events) → AreUp (shown events)
  up_shown [] h = tt
  up_shown (e ∷ es) h = at (nat_le e.1.batch snapshot) (up_shown es (sorted_tail place_cmp e.0 (places_of es) h)) (later_shown e.0 es (sorted_head place_cmp e.0 (places_of es) h))
    where
      at : (b : Bool) → AreUp (shown es) → AllByRecursion (λ r. place_cmp e.0 (place r) ≡ Less) (shown es) → AreUp (map (shown_of names) (cond b (e ∷ filter (λ d. nat_le d.1.batch snapshot) es) (filter (λ d. nat_le d.1.batch snapshot) es)))
      at true k l = (l, k)
      at false k l = k

-- ---- of one shard

module _ (shard : List ℕ) where
  abbrev Here : Shown → Type 0
  Here s = s.shard ≡ shard

  here_kept : (ss : List Shown) → AllByRecursion Here (filter (λ s. is_same s.shard shard) ss)
  here_kept [] = tt
  here_kept (s ∷ ss) = at (is_same s.shard shard) refl (here_kept ss)
    where
      at : (b : Bool) → is_same s.shard shard ≡ b → AllByRecursion Here (filter (λ r. is_same r.shard shard) ss) → AllByRecursion Here (cond b (s ∷ filter (λ r. is_same r.shard shard) ss) (filter (λ r. is_same r.shard shard) ss))
      at true e k = (same_is s.shard shard e, k)
      at false e k = k

  before_keys : (s : Shown) (ss : List Shown) → Here s → AllByRecursion Here ss → AllByRecursion (λ r. place_cmp (place s) (place r) ≡ Less) ss → AllByRecursion (λ k. IsTrue (is_before s.key k)) (keys_of ss)
  before_keys s [] h g l = tt
  before_keys s (r ∷ rs) h g l =
      let tied = ap (slice_cmp nat_cmp s.shard) (g.0 ∙ sym h) ∙ tied_itself nat_list_cmp_total s.shard in
      let less : doc_key_cmp s.key r.key ≡ Less = sym (ap (λ o. ordering_then o (doc_key_cmp s.key r.key)) tied) ∙ l.0 in
      (ap is_lt less, before_keys s rs h g.1 l.1)

  keys_ascend : (ss : List Shown) → AreUp ss → AllByRecursion Here ss → Ascends (keys_of ss)
  keys_ascend [] up h = tt
  keys_ascend (s ∷ ss) up h = (before_keys s ss h.0 h.1 up.0, keys_ascend ss up.1 h.1)

-- all events are seen in the order of their places
pub seen_up : (w : World) (names : List (List ℕ)) (snapshot : ℕ) → HasEvents w → AreUp (seen names w.events snapshot)
seen_up w names snapshot h = up_kept (λ s. is_seen s.view) (shown names snapshot w.events) (up_shown names snapshot w.events h.ascend)

pub seen_ascend : SeenAscend
seen_ascend w shard names snapshot h =
    keys_ascend shard (shard_seen w shard names snapshot) (up_kept (λ s. is_same s.shard shard) (seen names w.events snapshot) (seen_up w names snapshot h)) (here_kept shard (seen names w.events snapshot))
