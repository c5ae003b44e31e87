-- What an iterator over a cursor shows.
use Rattle.std.specs.Prelude.{◌≡◌, ℕ, cond, List, slice_get, Option, Some, None}
use Rattle.dw_key.specs.declared.doc_key.DocKey.{DocKey}
use Rattle.dw_nest.specs.declared.bound.Top.{Top}
use Rattle.dw_nest.specs.declared.bound.Top.TheVariants.{Key, End, Missing}
use Rattle.dw_tablet.specs.declared.cursor.Cursor.{Cursor}
use Rattle.dw_tablet.specs.Values.{Value}
use Rattle.dw_tablet.specs.Walks.{known, shows, gap_shown}

-- the document of a value
abbrev pub doc_top : Option Value → Top
doc_top (Some v) = Key v.1
doc_top None = End

-- a place that is missing
abbrev pub gap_top : Option (List ℕ) → Top
gap_top (Some place) = Missing
gap_top None = End

-- the document of the first value that is known, or whether a place is missing
abbrev pub top_of : Cursor → Top
top_of c = cond (shows c) (doc_top (slice_get (known c) 0)) (gap_top (gap_shown c))

-- the first key of a set that is left
abbrev pub set_top : Option DocKey → Top
set_top (Some key) = Key key
set_top None = End
