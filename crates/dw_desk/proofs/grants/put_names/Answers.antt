use Rattle.std.proofs.Common.{ap, ◌∙◌, List, ℕ}
use Rattle.std.specs.FinMap as map
use Rattle.dw_desk.specs.Stands.{grants_of}
use Rattle.dw_desk.proofs.Granting.{one_granted}
use Rattle.dw_desk.proofs.grants.put_names.Goals as goal

pub returns-clause-granted : goal.returns-clause-granted
returns-clause-granted c =
    one_granted c.args.grants.now c.insert.new.self c.in_ok-caller.caller c.args.names c.in_ok-before.ensures.updates.0
    ∙ ap (λ (k : List ℕ). map.insert (grants_of c.args.grants.now) k c.args.names) c.in_ok-caller.ensures
