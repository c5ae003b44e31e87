use Rattle.std.proofs.Common.{◌≡◌, rules, sym, ap, ◌∙◌, subst, true, map as list_map}
use Rattle.dw_tablet.specs.Places.{below, covers, with_span, with_run, run_end, run_span, shard_end}
use Rattle.dw_tablet.proofs.Keys.{ascend, are_from, are_before}
use Rattle.dw_tablet.proofs.Spans.{covers_with}
use Rattle.dw_tablet.proofs.Kept.{loaded, run_long, tablet_by, agrees_after}
use Rattle.dw_tablet.proofs.tablet.Tablet.load.Goals as goal

pub put_run-requires-clause-long : goal.put_run-requires-clause-long
put_run-requires-clause-long c =
    let shard = c.args.self.now.shard in
    let from = c.args.from.now in
    let run = list_map (λ x. x.key) c.args.cells.items in
    let is : c.as_slice-3.result.now ≡ run_end (shard_end shard) c.args.limit run = search rules in
    subst (λ p. below from p ≡ true) (sym is)
    (run_long from (shard_end shard) c.args.limit run c.requires.place (ascend run c.requires.ascends) (are_from shard from c.args.cells.items c.requires.bounds))

pub returns-clause-spans : goal.returns-clause-spans
returns-clause-spans c = search rules

pub returns-clause-keys : goal.returns-clause-keys
returns-clause-keys c = search rules

pub returns-clause-covers : goal.returns-clause-covers
returns-clause-covers c =
    let t = c.args.self.now in
    let s = run_span c.args.from.now (shard_end t.shard) c.args.limit (list_map (λ x. x.key) c.args.cells.items) in
    λ p. ap (λ ss. covers ss p) (returns-clause-spans c) ∙ covers_with t.spans s p

pub invariant_of-self-2 : goal.invariant_of-self-2
invariant_of-self-2 c =
    let t = c.args.self.now in
    let i = c.self.inside in
    let from = c.args.from.now in
    let run = list_map (λ x. x.key) c.args.cells.items in
    let end_is : i.end ≡ shard_end t.shard = search rules in (
      c.self.invariant.0,
      c.self.invariant.1,
      tablet_by i.end (shard_end t.shard) c.in_ok-spans.spans.items (with_span t.spans (run_span from (shard_end t.shard) c.args.limit run)) c.put_run.new.keys.items (with_run from (run_end (shard_end t.shard) c.args.limit run) run t.keys)
          end_is (returns-clause-spans c) (returns-clause-keys c)
          (loaded from (shard_end t.shard) c.args.limit run t.spans t.keys
          (tablet_by (shard_end t.shard) i.end t.spans i.spans.items t.keys i.keys.items (sym end_is) (sym (ap (λ v. v.spans) c.self.view_is)) (sym (ap (λ v. v.keys) c.self.view_is)) c.self.invariant.2)
          c.requires.place (ascend run c.requires.ascends) (are_from t.shard from c.args.cells.items c.requires.bounds) (are_before t.shard from c.args.cells.items c.requires.bounds)),
    )

pub returns-clause-agrees : goal.returns-clause-agrees
returns-clause-agrees c =
    let t = c.args.self.now in
    let from = c.args.from.now in
    let run = list_map (λ x. x.key) c.args.cells.items in
    λ content g is.
    agrees_after t _ from c.args.limit run (search rules) (returns-clause-spans c) (returns-clause-keys c)
    c.requires.place (ascend run c.requires.ascends) (are_from t.shard from c.args.cells.items c.requires.bounds) content g is
