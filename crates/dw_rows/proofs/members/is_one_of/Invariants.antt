use Rattle.std.proofs.Common.{◌≡◌, map, drop}
use Rattle.std.specs.List.{list_any}
use Rattle.std.specs.Str.{bytes_eq}
use Rattle.dw_rows.proofs.members.is_one_of.Given as goal

abbrev pub invariant-loop-one : goal.invariant-loop-one
invariant-loop-one l =
    list_any (λ n. bytes_eq n l.name) (map (λ n. n.now) l.names) ≡ list_any (λ n. bytes_eq n l.name) (map (λ n. n.now) (drop l.one-index l.names))
