-- The bytes of a key.
use Rattle.std.specs.Prelude.{◌≡◌, ℕ, zero, suc, ◌-◌, ◌<◌, ◌^◌, List, [], ◌∷◌, ◌++◌}
use Rattle.std.specs.List.{AllByRecursion}
use Rattle.std.specs.Int.{w64, to_be_bytes}
use Rattle.dw_key.specs.declared.key.Key.{Key}

-- each byte 0 is written as the bytes 0 and 255, and any other byte stands for itself
abbrev pub escaped : List ℕ → List ℕ
escaped [] = []
escaped (zero ∷ bytes) = 0 ∷ 255 ∷ escaped bytes
escaped (suc b ∷ bytes) = suc b ∷ escaped bytes

-- the bytes 0 and 0 end a part
abbrev pub part_code : List ℕ → List ℕ
part_code part = escaped part ++ 0 ∷ 0 ∷ []

-- the distance of the stamp from the largest one in 8 bytes, the highest first, so that a larger stamp comes first
abbrev pub stamp_code : ℕ → List ℕ
stamp_code stamp = to_be_bytes w64 (2 ^ 64 - 1 - stamp)

-- some parts, each ended
abbrev pub parts_code : List (List ℕ) → List ℕ
parts_code [] = []
parts_code (part ∷ parts) = part_code part ++ parts_code parts

-- some parts, and then a stamp
abbrev pub code_of : List (List ℕ) → ℕ → List ℕ
code_of [] stamp = stamp_code stamp
code_of (part ∷ parts) stamp = part_code part ++ code_of parts stamp

-- row, family, qualifier and visibility
abbrev pub parts_of : Key → List (List ℕ)
parts_of k = k.row ∷ k.family ∷ k.qualifier ∷ k.vis ∷ []

-- the parts, and then the stamp
abbrev pub code : Key → List ℕ
code k = code_of (parts_of k) k.stamp

-- numbers that fit a byte
abbrev pub AreBytes : List ℕ → Type 0
AreBytes = AllByRecursion (λ b. b < 256)

-- parts of bytes, and a stamp of 64 bits: what each key of a program has
pub record IsKey (k : Key) : Type 0 where
  pub row : AreBytes k.row
  pub family : AreBytes k.family
  pub qualifier : AreBytes k.qualifier
  pub vis : AreBytes k.vis
  pub stamp : k.stamp < 2 ^ 64

-- these bytes are the code of a key
abbrev pub IsCode : List ℕ → Type 0
IsCode bytes = (k : Key) × IsKey k × (bytes ≡ code k)
