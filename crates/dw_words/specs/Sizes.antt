-- How many documents each open shard may read, wave by wave.
use Rattle.std.specs.Prelude.{ℕ, ◌&&◌, Bool, List, length, nat_le}
use Rattle.std.specs.List.{list_all}

-- a size is 1 to 1000000
abbrev pub is_size : ℕ → Bool
is_size n = nat_le 1 n && nat_le n 1000000

-- there are 1 to 16
abbrev pub are_sizes : List ℕ → Bool
are_sizes sizes = nat_le 1 (length sizes) && (nat_le (length sizes) 16 && list_all is_size sizes)

-- there is one, and each is at least 1
abbrev pub are_some : List ℕ → Bool
are_some sizes = nat_le 1 (length sizes) && list_all (λ n. nat_le 1 n) sizes
