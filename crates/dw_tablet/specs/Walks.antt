-- What a cursor has still to show.
use Rattle.std.specs.Prelude.{◌≡◌, ℕ, Bool, true, false, not, cond, List, [], ◌∷◌, Option, None, filter_map}
use Rattle.std.specs.Option.{option_map}
use Rattle.dw_key.specs.declared.doc_key.DocKey.{DocKey}
use Rattle.dw_tablet.specs.declared.cursor.Cursor.{Cursor}
use Rattle.dw_tablet.specs.declared.cursor.CursorTop.{CursorTop}
use Rattle.dw_tablet.specs.declared.cursor.CursorTop.TheVariants.{Cell, End, Missing}
use Rattle.dw_tablet.specs.Places.{between}
use Rattle.dw_tablet.specs.Positions.{cursor_place, cursor_end}
use Rattle.dw_tablet.specs.Cursors.{gap_before, known_keys}
use Rattle.dw_tablet.specs.Values.{Value, shown_by}

-- where it stands
abbrev pub place_at : Cursor → List ℕ
place_at c = cursor_place c.tablet.now.shard c.asked.field.now (option_map (λ v. v.now) c.value) c.bound (option_map (λ k. k.now) c.past)

-- and where its walk ends
abbrev pub end_at : Cursor → List ℕ
end_at c = cursor_end c.tablet.now.shard c.asked.field.now (option_map (λ v. v.now) c.asked.only)

-- of a content of the shard: the values from there on and before the end, in their order
abbrev pub left : Cursor → List (List ℕ) → List Value
left c content = filter_map (shown_by c.asked) (between (place_at c) (end_at c) content)

-- the values that are known there, up to the first place that is not covered
abbrev pub known : Cursor → List Value
known c = filter_map (shown_by c.asked) (known_keys c.tablet.now (place_at c) (end_at c))

-- a fact of the cell at the top, if there is one
abbrev pub IfCell : CursorTop → (List ℕ → DocKey → Type 0) → Type 0
IfCell (Cell value doc) fact = fact value.now doc
IfCell End fact = Unit {0}
IfCell Missing fact = Unit {0}

-- there is one
abbrev pub IsCell : CursorTop → Type 0
IsCell (Cell value doc) = Unit {0}
IsCell End = ⊥
IsCell Missing = ⊥

-- no key is among some
abbrev pub is_empty : List (List ℕ) → Bool
is_empty [] = true
is_empty (k ∷ ks) = false

-- a value is known there
abbrev pub shows : Cursor → Bool
shows c = not (is_empty c.keys.now)

-- the first place that is not covered, at or after its own, where no value is known before that
abbrev pub gap_shown : Cursor → Option (List ℕ)
gap_shown c = cond (shows c) None (gap_before c.tablet.now (place_at c) (end_at c))
