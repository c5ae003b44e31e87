-- Where pages end, and where they begin.
use Rattle.std.specs.Prelude.{◌≡◌, ◌≤◌, ◌<◌, ◌+◌, ◌-◌, ◌*◌, ◌==◌, ℕ, Bool, true, false, not, List, length, take, filter, map as list_map, Option, Some, None, IfSome, if◌then◌else◌}
use Rattle.std.specs.List.{slice_get}
use Rattle.std.specs.Ordering.{nat_cmp, is_le, is_lt}
use Rattle.std.specs.Cmp.Lexicographic.{slice_cmp}
use Rattle.dw_key.specs.declared.doc_key.DocKey.{DocKey}
use Rattle.dw_event.specs.declared.reports.Shown.{Shown}
use Rattle.dw_event.specs.Places.{place_cmp}
use Rattle.dw_event.specs.Texts.{is_same}
use Rattle.dw_scan.specs.declared.ask.Resume.{Resume}
use Rattle.dw_page.specs.declared.mark.Mark.{Mark}
use Rattle.dw_page.specs.declared.mark.MarkPlace.{MarkPlace}
use Rattle.dw_page.specs.declared.mark.MarkPlace.TheVariants.{At, End}

-- the event stands at the place or before it, in the order of shard, type and uid
abbrev pub is_upto : List ℕ → DocKey → Shown → Bool
is_upto shard key s = is_le (place_cmp (record { shard = s.shard; key = s.key }) (record { shard = shard; key = key }))

-- the first so many events end here: they are those at the place or before it, and an event stands after them; or there are no more
abbrev pub EndsAt : MarkPlace → ℕ → List Shown → Type 0
EndsAt (At shard key) count events = (filter (is_upto shard key) events ≡ take count events) × (count < length events)
EndsAt End count events = length events ≤ count

-- a mark is true of an answer by pages of this size
abbrev pub IsMark : List Shown → ℕ → Mark → Type 0
IsMark events size m = EndsAt m.place (m.page * size) events

-- so is a mark that may be none
abbrev pub IsMarked : List Shown → ℕ → Option Mark → Type 0
IsMarked events size mark = IfSome mark (λ m. IsMark events size m)

-- where the page before ended, if the mark is for that page
abbrev pub place_before : Option Mark → ℕ → Option MarkPlace
place_before None page = None
place_before (Some m) page = if m.page + 1 == page then Some m.place else None

-- where a page ended: with more behind it, at the last event that it shows
abbrev pub last_place : Option Shown → MarkPlace
last_place None = End
last_place (Some s) = At s.shard s.key

abbrev pub place_after : Bool → List Shown → MarkPlace
place_after more shown = if more then last_place (slice_get shown (length shown - 1)) else End

-- the answer ended with the page before
abbrev pub is_end : Option MarkPlace → Bool
is_end None = false
is_end (Some (At shard key)) = false
is_end (Some End) = true

-- how many events a walk passes over: those of the pages before, or none where it goes on from a place
abbrev pub skip_to : Option MarkPlace → ℕ → ℕ → ℕ
skip_to None page size = (page - 1) * size
skip_to (Some place) page size = 0

-- the event is past the place where the page before ended
abbrev pub is_past : Option MarkPlace → Shown → Bool
is_past None s = true
is_past (Some (At shard key)) s = not (is_upto shard key s)
is_past (Some End) s = false

-- a shard is walked: it does not stand before the place's
abbrev pub is_walked : Option MarkPlace → List ℕ → Bool
is_walked None shard = true
is_walked (Some (At first key)) shard = not (is_lt (slice_cmp nat_cmp shard first))
is_walked (Some End) shard = false

-- after which key: that of the place in its own shard, and from the first on in any other
abbrev pub after_in : Option MarkPlace → List ℕ → Option DocKey
after_in None shard = None
after_in (Some (At first key)) shard = if is_same shard first then Some key else None
after_in (Some End) shard = None

-- the shards that are walked, in order
abbrev pub walked : Option MarkPlace → List (List ℕ) → List (List ℕ)
walked start shards = filter (is_walked start) shards

abbrev pub resume_in : Option MarkPlace → List ℕ → Resume
resume_in start shard = record { shard = shard; after = after_in start shard }

-- and where each is walked from
abbrev pub lined : Option MarkPlace → List (List ℕ) → List Resume
lined start shards = list_map (resume_in start) (walked start shards)
