-- What the fields that are lent from a key say.
use Rattle.dw_derive.specs.declared.readers.EventFields.{EventFields}
use Rattle.dw_derive.specs.declared.readers.IndexFields.{IndexFields}
use Rattle.dw_derive.specs.declared.readers.GlobalFields.{GlobalFields}
use Rattle.dw_derive.specs.Readers.{EventReading, IndexReading, GlobalReading}

-- the reading of an event's cell
abbrev pub event_said : EventFields → EventReading
event_said f = record { shard = f.shard.now; doc = f.doc; field = f.field.now; raw = f.raw.now }

-- the reading of a cell of the field index
abbrev pub index_said : IndexFields → IndexReading
index_said f = record { shard = f.shard.now; field = f.field.now; value = f.value.now; doc = f.doc }

-- the reading of a cell of a global index
abbrev pub global_said : GlobalFields → GlobalReading
global_said f = record { value = f.value.now; field = f.field.now; shard = f.shard.now; dtype = f.dtype }
