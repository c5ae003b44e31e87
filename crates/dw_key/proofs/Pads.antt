-- A list that is padded with zeros gives the list back.
use Rattle.std.proofs.Common.{ℕ, ◌≡◌, List, length, take, drop, sym, ap}
use Rattle.std.proofs.Math.Seq.{take-append_seam}
use lib.ListN.{replicate}
use Rattle.dw_key.specs.TypeName.{padded}

pub front : (xs : List ℕ) → take (length xs) (padded xs) ≡ xs
front xs = take-append_seam xs (drop (length xs) (replicate 64 0))

pub again : (xs : List ℕ) → padded xs ≡ padded (take (length xs) (padded xs))
again xs = ap padded (sym (front xs))

pub long : (xs : List ℕ) → length xs ≡ length (take (length xs) (padded xs))
long xs = ap length (sym (front xs))
