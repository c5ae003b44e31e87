use Rattle.dw_wire.proofs.writing.put_reply.Goals as goal

pub returns-in-NotOwned : goal.returns-in-NotOwned
returns-in-NotOwned c = rw c.in-NotOwned.is c.put_error.ensures

pub returns-in-OutOfMemory : goal.returns-in-OutOfMemory
returns-in-OutOfMemory c = rw c.in-OutOfMemory.is c.put_error-in-OutOfMemory.ensures

pub returns-in-NotEmpty : goal.returns-in-NotEmpty
returns-in-NotEmpty c = rw c.in-NotEmpty.is c.put_error-in-NotEmpty.ensures

pub returns-in-StoreFault : goal.returns-in-StoreFault
returns-in-StoreFault c = rw c.in-StoreFault.is c.put_error-in-StoreFault.ensures
