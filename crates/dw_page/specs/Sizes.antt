-- How many documents each open shard may read, wave by wave.
use Rattle.std.specs.Prelude.{ℕ, ◌-◌, ◌&&◌, Bool, List, length, min, nat_le, slice_index_or}
use Rattle.std.specs.List.{list_all}

-- there is one, and each is at least 1
abbrev pub are_sizes : List ℕ → Bool
are_sizes sizes = nat_le 1 (length sizes) && list_all (λ n. nat_le 1 n) sizes

-- that of a wave, counted from 0, or the last one
abbrev pub size_at : List ℕ → ℕ → ℕ
size_at sizes wave = slice_index_or sizes (min wave (length sizes - 1)) 0
