-- What the key of an event's cell says, as the code has it.
use Rattle.dw_derive.specs.declared.gathering.Said.{Said}
use Rattle.dw_derive.specs.EventsRead.{CellReading}

abbrev pub said_reading : Said → CellReading
said_reading s = record { place = s.place; cell = s.cell; batch = s.batch }
