use Rattle.std.specs.BTreeMap.{get}
use Rattle.dw_event.specs.Places.{place_cmp}
use Rattle.dw_derive.specs.Said.{said_reading}
use Rattle.dw_derive.proofs.GatherLemmas.{gathered}
use Rattle.dw_derive.proofs.gathering.gather.Goals as goal

pub returns-clause-held : goal.returns-clause-held
returns-clause-held c =
    gathered (get place_cmp c.args.events.now) (get place_cmp c.remove-before.new.self) (get place_cmp c.insert.new.self) (said_reading c.args.said) c.remove-before.result c.in_ok-held.held
    c.remove-before.ensures.value c.remove-before.ensures.updates.0 c.in_ok-insert.ensures.updates.0 c.in_ok-held.ensures
