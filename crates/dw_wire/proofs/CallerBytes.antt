-- Bytes that are no UTF-8 name no caller.
use Rattle.std.proofs.Common.{◌≡◌, ◌<◌, ◌&&◌, ℕ, zero, suc, List, [], ◌∷◌, length, nat_le, Bool, true, false, cond, None, Some, refl, sym, arith}
use Rattle.std.specs.List.{list_all}
use Rattle.std.specs.Str.{IsUtf8, IsAscii}
use Rattle.std.proofs.lemmas.Str.{IsUtf8-from_ascii}
use Rattle.std.proofs.lemmas.Bool.{true≢false}
use Rattle.std.proofs.lemmas.Bool.Decides.{nat_tests}
use Rattle.dw_base.specs.Callers.{is_visible, is_caller}
use Rattle.dw_wire.specs.ReadLine.{caller_of}

visible_ascii : (b : ℕ) → is_visible b ≡ true → b < 128
visible_ascii b e = grind (arith, nat_tests)

and_parts : (a b : Bool) → (a && b) ≡ true → (a ≡ true) × (b ≡ true)
and_parts true b e = (refl, e)
and_parts false b e = absurd (true≢false (sym e))

ascii_more : (b : ℕ) (bs : List ℕ) → b < 128 → IsAscii bs → IsAscii (b ∷ bs)
ascii_more b bs h k zero = h
ascii_more b bs h k (suc i) = k i

all_ascii : (bs : List ℕ) → list_all is_visible bs ≡ true → IsAscii bs
all_ascii [] e = λ i. omega arith
all_ascii (b ∷ bs) e =
    let both = and_parts (is_visible b) (list_all is_visible bs) e in
    ascii_more b bs (visible_ascii b both.0) (all_ascii bs both.1)

none_if : (b : Bool) (name : List ℕ) → is_caller name ≡ b → (IsUtf8 name → ⊥) → cond b (Some name) None ≡ None
none_if true name e other =
    absurd (other (IsUtf8-from_ascii name (all_ascii name (and_parts (nat_le 1 (length name) && nat_le (length name) 128) (list_all is_visible name) e).1)))
none_if false name e other = refl

pub other_bytes : (name : List ℕ) → (IsUtf8 name → ⊥) → caller_of name ≡ None
other_bytes name other = none_if (is_caller name) name refl other
