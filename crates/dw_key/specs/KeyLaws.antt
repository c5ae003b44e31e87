-- What the codes of keys have in common.
use Rattle.std.specs.Prelude.{◌≡◌, ◌↔◌, ℕ, ◌<◌, ◌^◌, List, [], ◌∷◌, ◌++◌, length}
use Rattle.std.specs.Ordering.{nat_cmp, ordering_then}
use Rattle.std.specs.Cmp.Lexicographic.{slice_cmp}
use Rattle.dw_key.specs.declared.key.Key.{Key}
use Rattle.dw_key.specs.KeyCode.{escaped, part_code, parts_code, parts_of, code}
use Rattle.dw_key.specs.KeyOrder.{key_order}

-- codes compare as lists of unsigned bytes as their keys do
abbrev pub CodesAreOrdered : Type 0
CodesAreOrdered = (a b : Key) → a.stamp < 2 ^ 64 → b.stamp < 2 ^ 64 → slice_cmp nat_cmp (code a) (code b) ≡ key_order a b

-- no code is the beginning of another: what begins with a code and is one has nothing behind it, and it is the code of the same key
abbrev pub NoCodeBeginsAnother : Type 0
NoCodeBeginsAnother = (a b : Key) (more : List ℕ) → a.stamp < 2 ^ 64 → b.stamp < 2 ^ 64 → code b ≡ code a ++ more → (more ≡ []) × (a ≡ b)

-- a code is the code of one key
abbrev pub CodesTellKeys : Type 0
CodesTellKeys = (a b : Key) → a.stamp < 2 ^ 64 → b.stamp < 2 ^ 64 → code a ≡ code b → a ≡ b

-- parts compare before what stands behind them
abbrev pub PartsKeepOrder : Type 0
PartsKeepOrder = (p q x y : List ℕ) → slice_cmp nat_cmp (part_code p ++ x) (part_code q ++ y) ≡ ordering_then (slice_cmp nat_cmp p q) (slice_cmp nat_cmp x y)

-- what begins with the codes of two parts begins with one
abbrev pub NoPartBeginsAnother : Type 0
NoPartBeginsAnother = (p q x y : List ℕ) → part_code p ++ x ≡ part_code q ++ y → (p ≡ q) × (x ≡ y)

-- the first parts are these, and the next one begins with the text
abbrev pub BeginWith : List (List ℕ) → List ℕ → List (List ℕ) → Type 0
BeginWith [] text [] = ⊥
BeginWith [] text (q ∷ qs) = (more : List ℕ) × (q ≡ text ++ more)
BeginWith (p ∷ ps) text [] = ⊥
BeginWith (p ∷ ps) text (q ∷ qs) = (q ≡ p) × BeginWith ps text qs

-- a code begins with the codes of parts and the beginning of another exactly where the parts of its key do
abbrev pub PrefixesAreParts : Type 0
PrefixesAreParts = (k : Key) (ps : List (List ℕ)) (text : List ℕ) → length ps < 4 →
    ((rest : List ℕ) × (code k ≡ parts_code ps ++ (escaped text ++ rest))) ↔ BeginWith ps text (parts_of k)
