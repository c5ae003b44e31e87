use Rattle.std.proofs.Common.{◌≡◌, sym, List, true, Some, map}
use Rattle.std.specs.Prelude.{slice_get, Contains}
use Rattle.dw_key.specs.declared.doc_key.DocKey.{DocKey}
use Rattle.dw_nest.specs.Bounds.{meets, rest}
use Rattle.dw_nest.specs.Leaves.{Spot, stands_partly}
use Rattle.dw_nest.proofs.Finds.{at_spot, spot_first, spot_none, spot_in}
use Rattle.dw_scan.proofs.partly_known_keys.PartlyKnownKeysDocIter.top.Goals as goal

pub returns-in-Some-clause-key : goal.returns-in-Some-clause-key
returns-in-Some-clause-key c = at_spot c.in-Some.spot c.top_of.result (λ k. (all : List DocKey) → stands_partly c.args.self.now.spots.now all → slice_get (rest all c.args.self.now.bound) 0 ≡ Some k) c.top_of.ensures
    (λ known all s. spot_first c.args.self.now.bound c.args.self.now.spots.now all c.in-Some.spot s.0 (sym c.in-Some.ensures) known)

pub returns-in-Some-clause-known : goal.returns-in-Some-clause-known
returns-in-Some-clause-known c = at_spot c.in-Some.spot c.top_of.result (λ k. Contains (map (λ (s : Spot). s.0) c.args.self.now.spots.now) k) c.top_of.ensures
    (λ known. (spot_in c.args.self.now.bound c.args.self.now.spots.now c.in-Some.spot (sym c.in-Some.ensures)).0)

pub returns-in-Some-clause-met : goal.returns-in-Some-clause-met
returns-in-Some-clause-met c = at_spot c.in-Some.spot c.top_of.result (λ k. meets c.args.self.now.bound k ≡ true) c.top_of.ensures
    (λ known. (spot_in c.args.self.now.bound c.args.self.now.spots.now c.in-Some.spot (sym c.in-Some.ensures)).1)

pub returns-in-None-clause-end : goal.returns-in-None-clause-end
returns-in-None-clause-end c = λ _ all s. spot_none c.args.self.now.bound c.args.self.now.spots.now all s.0 (sym c.in-None.ensures)
