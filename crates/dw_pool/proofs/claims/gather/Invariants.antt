use Rattle.std.proofs.Common.{◌≡◌, ◌≤◌, [], length, map, vec_capacity}
use Rattle.std.specs.Prelude.{IfSome}
use Rattle.std.specs.List.{All, flat_map}
use Rattle.dw_pool.specs.Drawn.{hand}
use Rattle.dw_pool.specs.Counter.{claimed_by, drawn_by, held, IsSound}
use Rattle.dw_pool.proofs.claims.gather.Given as goal

abbrev pub invariant-loop-pass : goal.invariant-loop-pass
invariant-loop-pass l =
    (goal.iterator-loop-pass).can_next l.pass-iterator
    × (goal.iterator-loop-pass).is_finite l.pass-iterator
    × (l.lists.items ≡ map claimed_by l.yielded)
    × (length l.fn.passes.items ≤ vec_capacity l.lists)
    × IfSome l.whole (λ w. w.table_id ≡ l.word.table_id)
    × IfSome l.whole (λ w. w.me.1 ≡ [])
    × (held l.whole ≡ hand (length l.yielded) (flat_map drawn_by l.yielded))
    × All IsSound l.yielded
