-- What may stand as a value of a field, and as the visibility of that.
use Rattle.std.specs.Prelude.{ℕ, Bool, ◌&&◌, not, nat_le, ◌==◌, List, length}
use Rattle.std.specs.List.{list_all}
use Rattle.dw_base.specs.declared.limits.TheConstants.{MAX_VALUE}
use Rattle.dw_vis.specs.Test.{is_vis}

-- no byte is 0
abbrev pub lacks_zero : List ℕ → Bool
lacks_zero text = list_all (λ b. not (b == 0)) text

-- 1 to 4,096 bytes, of which none is 0
abbrev pub is_raw_value : List ℕ → Bool
is_raw_value text = nat_le 1 (length text) && nat_le (length text) MAX_VALUE && lacks_zero text

-- a visibility of which no byte is 0
abbrev pub is_visibility : List ℕ → Bool
is_visibility text = is_vis text && lacks_zero text
