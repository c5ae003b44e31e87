use Rattle.std.proofs.Common.{rules}
use Rattle.dw_tablet.specs.Positions.{place_of}
use Rattle.dw_tablet.proofs.Known.{nothing_known}
use Rattle.dw_tablet.proofs.tablet.Tablet.ahead.Goals as goal

pub returns-in_default-clause-keys : goal.returns-in_default-clause-keys
returns-in_default-clause-keys c = nothing_known c.args.self.now (place_of c.args.from.now) (place_of c.args.end.now) (search rules) c.requires
