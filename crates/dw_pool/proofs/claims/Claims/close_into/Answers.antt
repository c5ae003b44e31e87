use Rattle.std.proofs.Common.{arith, ap, sym, ◌∙◌}
use Rattle.dw_pool.specs.Numbers.{times}
use Rattle.dw_pool.proofs.Closing.{closes, held_drawn}
use Rattle.dw_pool.proofs.claims.Claims.close_into.Goals as goal

pub returns-clause-once : goal.returns-clause-once
returns-clause-once c =
    let gathered = c.gather-whole.ensures in
    closes c.args.self c.settle.result c.args.passes.items c.gather-whole.new.lists.items gathered.lists (omega (arith, c.self.invariant.5, ap (λ k. k.passes) c.self.view_is, c.requires.all, c.args.passes.ok.0)) c.requires.mine gathered.sound c.requires.told
    (λ n. sym (ap (times n) (held_drawn c.gather-whole.result c.unwrap.result _ c.unwrap.ensures gathered.whole)) ∙ c.settle.ensures n)
