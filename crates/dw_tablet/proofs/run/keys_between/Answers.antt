use Rattle.std.proofs.Common.{sym, ap, ◌∙◌, subst, take, drop, rules}
use Rattle.dw_tablet.specs.Places.{below, Ascends, onward}
use Rattle.dw_tablet.specs.Positions.{place_of}
use Rattle.dw_tablet.proofs.Cut.{filter_up}
use Rattle.dw_tablet.proofs.Searching.{in_both, rest_of}
use Rattle.dw_tablet.proofs.run.keys_between.Goals as goal

pub count_below-low-requires : goal.count_below-low-requires
count_below-low-requires c =
    subst Ascends (sym c.count_below-high.ensures.front) (filter_up (λ k. below k (place_of c.args.upto.now)) c.args.keys.now c.requires)

pub returns : goal.returns
returns c =
    let front = take c.count_below-high.result c.args.keys.now in
    rest_of c.count_below-low.result front
    ∙ (c.count_below-low.ensures.back
    ∙ (ap (onward (place_of c.args.from.now)) c.count_below-high.ensures.front
    ∙ in_both (place_of c.args.from.now) (place_of c.args.upto.now) c.args.keys.now))
