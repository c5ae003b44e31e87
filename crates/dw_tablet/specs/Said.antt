-- What the key of a cell of table 0 says to a reader.
use Rattle.std.specs.Prelude.{ℕ, List, Option, Some, None, if◌then◌else◌}
use Rattle.std.specs.Option.{option_and_then, option_map_or}
use Rattle.dw_key.specs.declared.key.Key.{Key}
use Rattle.dw_vis.specs.Test.{is_vis}
use Rattle.dw_derive.specs.Readers.{EventReading, IndexReading, event_reading, index_reading}
use Rattle.dw_derive.specs.Decoded.{key_from}
use Rattle.dw_tablet.specs.declared.said.Said.{Said}
use Rattle.dw_tablet.specs.declared.said.Said.TheVariants.{OfEvent, OfIndex, Nothing}

-- a cell of an event
abbrev pub event_said : Key → EventReading → Said
event_said k r = OfEvent (record { doc = r.doc; cell = record { field = r.field; raw = r.raw; vis = k.vis }; batch = k.stamp })

-- a cell of the field index
abbrev pub index_said : Key → IndexReading → Said
index_said k r = OfIndex (record { doc = r.doc; field = r.field; value = r.value; vis = k.vis; batch = k.stamp })

-- which of the two a key is of
abbrev pub key_said : Key → Said
key_said k = option_map_or (event_said k) (event_reading k) (option_map_or (index_said k) (index_reading k) Nothing)

-- what bytes say: nothing where they are the code of no key, where the key is of no such form, or where its
-- visibility is none
abbrev pub visible_said : Key → Said
visible_said k = if is_vis k.vis then key_said k else Nothing

unfoldable pub said_of : List ℕ → Said
said_of bytes = option_map_or visible_said (key_from bytes) Nothing
