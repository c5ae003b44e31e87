use Rattle.std.proofs.Common.{◌≡◌, ◌==◌, false, drop, map}
use Rattle.std.specs.List.{list_all}
use Rattle.std.specs.Option.{option_map_or}
use Rattle.dw_http.specs.Lengths.{number_of}
use Rattle.dw_http.proofs.lengths.all_write.Given as goal

abbrev pub invariant-loop-value : goal.invariant-loop-value
invariant-loop-value l =
    list_all (λ v. option_map_or (λ n. n == l.length) (number_of v) false) (map (λ v. v.now) (drop l.value-index l.values)) ≡ list_all (λ v. option_map_or (λ n. n == l.length) (number_of v) false) (map (λ v. v.now) l.values)
