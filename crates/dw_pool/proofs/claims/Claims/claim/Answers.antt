use Rattle.std.proofs.Common.{◌<◌, ap, sym, subst, ◌∙◌, arith}
use Rattle.dw_pool.specs.Numbers.{Climbs}
use Rattle.dw_pool.proofs.Passes.{none_kept, drawn_so_far, may_draw, drawn_room, drawn_claimed, climbs_claimed, same_jobs}
use Rattle.dw_pool.proofs.claims.Claims.claim.Goals as goal

pub draw-number-requires-clause-part : goal.draw-number-requires-clause-part
draw-number-requires-clause-part c =
    let p = c.pass.inside in
    let none = none_kept p.kept (sym c.if-is_some.ensures) in
    let same = same_jobs _ _ _ _ c.pass.view_is c.requires.mine c.self.view_is in
    let key = ap (λ d. d.jobs) c.self.invariant.2 in
    rw (key, ← same) (may_draw p.deal.jobs p.seat.me p.numbers.items (drawn_so_far p.seat.me p.numbers.items p.kept c.pass.invariant.0 none) c.pass.invariant.1)

pub push_reserved-requires : goal.push_reserved-requires
push_reserved-requires c =
    let p = c.pass.inside in
    let none = none_kept p.kept (sym c.if-is_some.ensures) in
    let same = same_jobs _ _ _ _ c.pass.view_is c.requires.mine c.self.view_is in
    let room = drawn_room p.deal.jobs c.draw-number.result _ p.seat.me p.numbers.items (drawn_so_far p.seat.me p.numbers.items p.kept c.pass.invariant.0 none) c.pass.invariant.1 c.draw-number.ensures.above (omega (arith, c.if-number-from.true, c.from.ensures, same)) c.pass.invariant.3 in
    omega (arith, p.numbers.ok.0)

pub invariant_of-pass : goal.invariant_of-pass
invariant_of-pass c =
    let p = c.pass.inside in
    let none = none_kept p.kept (sym c.if-is_some.ensures) in
    let same = same_jobs _ _ _ _ c.pass.view_is c.requires.mine c.self.view_is in
    let so_far = drawn_so_far p.seat.me p.numbers.items p.kept c.pass.invariant.0 none in
    let below : c.draw-number.result < p.deal.jobs = omega (arith, c.if-number-from.true, c.from.ensures, same) in (
      rw c.push_reserved.ensures.items (drawn_claimed c.draw-number.result p.seat.me c.draw-number.new.seat.me p.numbers.items p.kept so_far none c.draw-number.ensures.drawn),
      climbs_claimed p.deal.jobs c.draw-number.result p.seat.me p.numbers.items _ so_far c.pass.invariant.1 c.draw-number.ensures.above below c.push_reserved.ensures.items,
      c.pass.invariant.2,
      rw c.push_reserved.ensures.capacity c.pass.invariant.3,
      c.pass.invariant.4,
    )

pub returns-then-number-from-clause-climbs : goal.returns-then-number-from-clause-climbs
returns-then-number-from-clause-climbs c =
    let p = c.pass.inside in
    let none = none_kept p.kept (sym c.if-is_some.ensures) in
    let same = same_jobs _ _ _ _ c.pass.view_is c.requires.mine c.self.view_is in
    let so_far = drawn_so_far p.seat.me p.numbers.items p.kept c.pass.invariant.0 none in
    let below : c.draw-number.result < p.deal.jobs = omega (arith, c.if-number-from.true, c.from.ensures, same) in
    subst (λ jobs. Climbs 0 jobs c.push_reserved.new.self.items) (same ∙ ap (λ k. k.jobs) c.self.view_is)
    (climbs_claimed p.deal.jobs c.draw-number.result p.seat.me p.numbers.items _ so_far c.pass.invariant.1 c.draw-number.ensures.above below c.push_reserved.ensures.items)
