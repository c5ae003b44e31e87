-- Bytes known before and after they are put.
use Rattle.std.proofs.Common.{ℕ, ◌≡◌, ◌+◌, ◌++◌, List, [], take, drop, ap, sym, refl, ◌∙◌, append_assoc, append-nil}
use Rattle.std.specs.Prelude.{Option, Some, None}
use Rattle.std.proofs.Math.Seq.{take-add}
use Rattle.std.specs.Io.KnownBytes.{append_known}

-- a beginning taken, and then a piece of the rest
pub append_next : (known : Option (List ℕ)) (at n : ℕ) (xs : List ℕ) → append_known (append_known known (take at xs)) (take n (drop at xs)) ≡ append_known known (take (at + n) xs)
append_next None at n xs = refl
append_next (Some ys) at n xs = ap Some (append_assoc ys (take at xs) (take n (drop at xs)) ∙ ap (λ zs. ys ++ zs) (sym (take-add at n xs)))

pub append_nothing : (known : Option (List ℕ)) → append_known known [] ≡ known
append_nothing None = refl
append_nothing (Some ys) = ap Some (append-nil ys)
