-- The key that bytes are the code of, as a function.
use Rattle.std.specs.Prelude.{◌≡◌, ◌↔◌, ℕ, zero, suc, ◌-◌, ◌^◌, ◌<◌, ◌==◌, ◌&&◌, Bool, false, List, [], ◌∷◌, length, Option, Some, None, if◌then◌else◌}
use Rattle.std.specs.Option.{option_map, option_and_then, option_map_or}
use Rattle.std.specs.Int.{w64, from_be_bytes}
use Rattle.dw_key.specs.declared.key.Key.{Key}
use Rattle.dw_key.specs.KeyCode.{code, AreBytes}
use Rattle.dw_outside.specs.declared.slot.Slot.{Slot}

abbrev pub with_front : ℕ → List ℕ × List ℕ → List ℕ × List ℕ
with_front b parts = (b ∷ parts.0, parts.1)

-- the part in front, and what follows its end
abbrev pub part_from : List ℕ → Option (List ℕ × List ℕ)
part_from [] = None
part_from (zero ∷ []) = None
part_from (zero ∷ zero ∷ bytes) = Some ([], bytes)
part_from (zero ∷ suc b ∷ bytes) = if suc b == 255 then option_map (with_front 0) (part_from bytes) else None
part_from (suc b ∷ bytes) = option_map (with_front (suc b)) (part_from bytes)

abbrev pub stamp_from : List ℕ → Option ℕ
stamp_from bytes = if length bytes == 8 then Some (2 ^ 64 - 1 - from_be_bytes w64 bytes) else None

abbrev pub key_from : List ℕ → Option Key
key_from bytes =
    option_and_then (λ row. option_and_then (λ family. option_and_then (λ qualifier. option_and_then (λ vis.
    option_map (λ stamp. record { row = row.0; family = family.0; qualifier = qualifier.0; vis = vis.0; stamp = stamp }) (stamp_from vis.1))
    (part_from qualifier.1)) (part_from family.1)) (part_from row.1)) (part_from bytes)

-- the slot is one of the table, and its key passes
abbrev pub has_key : ℕ → (Key → Bool) → Slot → Bool
has_key table test s = (s.table == table) && option_map_or test (key_from s.key) false

-- bytes are read as a key exactly where they are its code
abbrev pub CodesAreRead : Type 0
CodesAreRead = (bytes : List ℕ) (k : Key) → AreBytes bytes → k.stamp < 2 ^ 64 → (key_from bytes ≡ Some k) ↔ (bytes ≡ code k)
