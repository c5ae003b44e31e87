use Rattle.std.proofs.Common.{◌∙◌, rules}
use Rattle.dw_tablet.specs.Values.{shown_by}
use Rattle.dw_tablet.proofs.Firsts.{first_says, none_stands}
use Rattle.dw_tablet.proofs.Searching.{rest_of}
use Rattle.dw_tablet.proofs.cursor.from_first.Goals as goal

pub returns-in-Some : goal.returns-in-Some
returns-in-Some c =
    rest_of c.in-Some.at c.args.keys.now ∙ first_says (shown_by c.args.asked.now) c.args.keys.now c.in-Some.at (search rules)

pub returns-in-None : goal.returns-in-None
returns-in-None c = none_stands (shown_by c.args.asked.now) c.args.keys.now (search rules)
