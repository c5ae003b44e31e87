use Rattle.std.proofs.Common.{◌≡◌, ◌-◌, [], replicate}
use Rattle.dw_pool.specs.Drawn.{hand}
use Rattle.dw_pool.specs.Counter.{fresh}
use Rattle.dw_pool.proofs.claims.Claims.deal_out.Given as goal

abbrev pub invariant-loop-pass : goal.invariant-loop-pass
invariant-loop-pass l =
    (l.whole.table_id ≡ l.self.id)
    × (l.whole.me ≡ (hand (l.self.passes - l._pass) [], []))
    × (l.dealt.items ≡ replicate l._pass (fresh l.self))
    × (l.passes ≡ l.self.passes)
