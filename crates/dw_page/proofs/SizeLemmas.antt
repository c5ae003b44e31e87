-- Each number of documents is at least 1.
use Rattle.std.proofs.Common.{ℕ, zero, suc, ◌≡◌, ◌<◌, ◌≤◌, true, nat_le, List, [], ◌∷◌, length, slice_index_or, arith}
use Rattle.std.specs.List.{list_all}
use Rattle.std.proofs.lemmas.Bool.{and_parts, leb-true}
use Rattle.dw_page.specs.Sizes.{are_sizes}

all_at : (ns : List ℕ) (i d : ℕ) → list_all (λ n. nat_le 1 n) ns ≡ true → i < length ns → 1 ≤ slice_index_or ns i d
all_at [] i d h l = absurd (omega arith)
all_at (n ∷ ns) zero d h l = leb-true 1 n (and_parts (nat_le 1 n) (list_all (λ m. nat_le 1 m) ns) h).0
all_at (n ∷ ns) (suc i) d h l = all_at ns i d (and_parts (nat_le 1 n) (list_all (λ m. nat_le 1 m) ns) h).1 (omega arith)

pub size_some : (sizes ns : List ℕ) (i : ℕ) → are_sizes sizes ≡ true → ns ≡ sizes → i < length ns → 1 ≤ slice_index_or ns i 0
size_some sizes ns i h e l = rw e (all_at sizes i 0 (and_parts (nat_le 1 (length sizes)) (list_all (λ n. nat_le 1 n) sizes) h).1 (rw e at l))
