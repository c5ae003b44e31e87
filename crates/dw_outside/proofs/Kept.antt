-- What a reader has left and a writer holds, over tries that moved nothing.
use Rattle.std.proofs.Common.{◌≡◌, ℕ, List, ◌++◌, length, take, refl, ap, sym, ◌∙◌}
use Rattle.std.specs.Prelude.{Option, Some, None, ◌<◌}
use Rattle.std.specs.Io.KnownBytes.{Appends, Keeps, Consumes, IsAtEnd}

pub kept_itself : (a : Option (List ℕ)) → Keeps a a
kept_itself None = tt
kept_itself (Some xs) = refl

pub kept_on : (a b c : Option (List ℕ)) → Keeps a b → Keeps b c → Keeps a c
kept_on None b c h k = tt
kept_on (Some xs) None c h k = absurd h
kept_on (Some xs) (Some ys) None h k = absurd k
kept_on (Some xs) (Some ys) (Some zs) h k = k ∙ h

consumed : (a b c : Option (List ℕ)) (xs : List ℕ) → Keeps a b → Consumes b c xs → Consumes a c xs
consumed None b c xs h k = tt
consumed (Some us) None c xs h k = absurd h
consumed (Some us) (Some vs) None xs h k = absurd k
consumed (Some us) (Some vs) (Some ws) xs h k = sym h ∙ k

pub kept_read : (a b c : Option (List ℕ)) (n : ℕ) (buf : List ℕ) → Keeps a b → Consumes b c (take n buf) × (n ≡ 0 → 0 < length buf → IsAtEnd c) → Consumes a c (take n buf) × (n ≡ 0 → 0 < length buf → IsAtEnd c)
kept_read a b c n buf h k = (consumed a b c (take n buf) h k.0, k.1)

pub kept_written : (a b c : Option (List ℕ)) (xs : List ℕ) → Keeps a b → Appends b c xs → Appends a c xs
kept_written None b c xs h k = tt
kept_written (Some us) None c xs h k = absurd h
kept_written (Some us) (Some vs) None xs h k = absurd k
kept_written (Some us) (Some vs) (Some ws) xs h k = k ∙ ap (λ zs. zs ++ xs) h
