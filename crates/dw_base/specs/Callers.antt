-- The names of callers, and of what they are authorised to see.
use Rattle.std.specs.Prelude.{ℕ, Bool, ◌&&◌, not, nat_le, ◌==◌, List, length}
use Rattle.std.specs.List.{list_all}
use Rattle.dw_base.specs.declared.limits.TheConstants.{MAX_CALLER, MAX_VISIBILITY}

-- a visible ASCII character
abbrev pub is_visible : ℕ → Bool
is_visible b = nat_le 33 b && nat_le b 126

-- a caller: 1 to 128 such characters
abbrev pub is_caller : List ℕ → Bool
is_caller caller = nat_le 1 (length caller) && nat_le (length caller) MAX_CALLER && list_all is_visible caller

-- the name of an authorisation: 1 to 512 bytes, none of them 0
abbrev pub is_auth : List ℕ → Bool
is_auth name = nat_le 1 (length name) && nat_le (length name) MAX_VISIBILITY && list_all (λ b. not (b == 0)) name
