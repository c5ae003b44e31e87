use Rattle.std.proofs.Common.{length, map, ap, ◌∙◌}
use Rattle.std.specs.Prelude.{None}
use Rattle.std.specs.List.{flat_map}
use Rattle.std.proofs.lemmas.List.{length-replicate}
use Rattle.dw_pool.specs.Waves.{placed}
use Rattle.dw_pool.specs.Counter.{claimed_by}
use Rattle.dw_pool.proofs.Waves.{IsClosed, none_missing, gives_in_order, passes_mine, passes_told}
use Rattle.dw_pool.proofs.wave.in_order.Goals as goal
use Rattle.dw_pool.proofs.wave.in_order.Goals.{After-close_into-lists}
use Rattle.dw_pool.proofs.wave.in_order.Given.{Over}

pub close_into-lists-requires-clause-mine : goal.close_into-lists-requires-clause-mine
close_into-lists-requires-clause-mine g c = passes_mine g.J.Job.gives c.args.jobs.now c.args.claims c.args.team.items c.collect.new.passes.items c.requires.worked c.collect.ensures.passes

pub close_into-lists-requires-clause-told : goal.close_into-lists-requires-clause-told
close_into-lists-requires-clause-told g c = passes_told g.J.Job.gives c.args.jobs.now c.args.claims c.args.team.items c.collect.new.passes.items c.requires.worked c.collect.ensures.passes

closed : (g : Over) (c : After-close_into-lists g) → IsClosed g.J.Job.gives c.args.jobs.now c.args.claims c.args.team.items c.close_into-lists.result.items c.collect.new.slots.items
closed g c = record {
  count = c.requires.jobs;
  worked = c.requires.worked;
  lists_are = c.close_into-lists.ensures.lists ∙ ap (map claimed_by) c.collect.ensures.passes;
  once = c.close_into-lists.ensures.once;
  slots_are = c.collect.ensures.slots ∙ ap (λ slots. placed slots (flat_map (λ w. w.pairs.items) c.args.team.items)) c.requires.room.slots;
  places = c.collect.ensures.count ∙ ap length c.requires.room.slots ∙ length-replicate (length c.args.jobs.now) None;
}

pub filled-requires-clause-some : goal.filled-requires-clause-some
filled-requires-clause-some g c = none_missing g.J.Job.gives c.args.jobs.now c.args.claims c.args.team.items c.close_into-lists.result.items c.collect.new.slots.items (closed g (goal.at.filled-requires-clause-some g c).After-close_into-lists)

pub returns : goal.returns
returns g c =
    gives_in_order g.J.Job.gives c.args.jobs.now c.args.claims c.args.team.items c.close_into-lists.result.items c.collect.new.slots.items c.filled.result.items (closed g (goal.at.returns g c).After-close_into-lists) c.filled.ensures
