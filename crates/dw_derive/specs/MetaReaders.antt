-- What the cells of table 3 say.
use Rattle.std.specs.Prelude.{◌≡◌, ◌↔◌, ℕ, zero, suc, ◌^◌, ◌==◌, ◌<◌, ◌≤◌, ◌&&◌, nat_le, nat_lt, nat_eq, Bool, true, false, IsTrue, List, [], ◌∷◌, length, take, drop, Option, Some, None, if◌then◌else◌}
use Rattle.std.specs.Option.{option_map, option_and_then}
use Rattle.std.specs.Int.{w16, w64, from_be_bytes}
use Rattle.std.specs.List.{AllByRecursion}
use Rattle.std.specs.Str.{is_utf8}
use Rattle.std.specs.Cmp.Lexicographic.{pointwise}
use Rattle.dw_base.specs.Ascending.{IsAscending}
use Rattle.dw_base.specs.Callers.{is_caller, is_auth}
use Rattle.dw_base.specs.FieldNames.{is_folded_name}
use Rattle.dw_base.specs.declared.limits.TheConstants.{MAX_NAMES}
use Rattle.dw_key.specs.declared.key.Key.{Key}
use Rattle.dw_key.specs.KeyCode.{AreBytes}
use Rattle.dw_norm.specs.declared.kind.Kind.{Kind}
use Rattle.dw_norm.specs.declared.kind.Kind.TheVariants.{Text, Noop, Number, Date, Ipv4}
use Rattle.dw_dict.specs.declared.rule.FieldRule.{FieldRule}
use Rattle.dw_dict.specs.Rules.{field_rule}
use Rattle.dw_derive.specs.Meta.{commit_row, commit_bytes, field_row, rule_bytes, grant_row, names_bytes}
use Rattle.dw_derive.specs.Readers.{only_if}
use Rattle.dw_derive.specs.UidLists.{uid_cmp, ascend}

-- a row of the table, and nothing but a family beside it
abbrev pub is_in_row : List ℕ → Key → Bool
is_in_row row k = pointwise nat_eq k.row row && (length k.qualifier == 0) && (length k.vis == 0) && (k.stamp == 0)

-- ---- the number of the last batch

-- a number from 1 to 2^63 - 1 in 8 bytes
abbrev pub number_from : List ℕ → Option ℕ
number_from content = only_if ((length content == 8) && nat_le 1 (from_be_bytes w64 content) && nat_lt (from_be_bytes w64 content) (2 ^ 63)) (from_be_bytes w64 content)

-- the number that the cell of the last batch says
abbrev pub commit_reading : Key → List ℕ → Option ℕ
commit_reading k content = if is_in_row commit_row k && (length k.family == 0) then number_from content else None

-- ---- the rule of a field

-- the kind of a number
abbrev pub kind_from : ℕ → Option Kind
kind_from zero = Some Text
kind_from (suc zero) = Some Noop
kind_from (suc (suc zero)) = Some Number
kind_from (suc (suc (suc zero))) = Some Date
kind_from (suc (suc (suc (suc zero)))) = Some Ipv4
kind_from (suc (suc (suc (suc (suc n))))) = None

-- what 1 and 0 say
abbrev pub bit_from : ℕ → Option Bool
bit_from zero = Some false
bit_from (suc zero) = Some true
bit_from (suc (suc n)) = None

-- the rule of three bytes, where there is one
abbrev pub rule_of_bytes : ℕ → ℕ → ℕ → Option FieldRule
rule_of_bytes kind indexed reversed =
    option_and_then (λ k. option_and_then (λ i. option_and_then (field_rule k i) (bit_from reversed)) (bit_from indexed)) (kind_from kind)

-- the rule that a content of three bytes says
abbrev pub rule_from : List ℕ → Option FieldRule
rule_from [] = None
rule_from (kind ∷ []) = None
rule_from (kind ∷ indexed ∷ []) = None
rule_from (kind ∷ indexed ∷ reversed ∷ []) = rule_of_bytes kind indexed reversed
rule_from (kind ∷ indexed ∷ reversed ∷ more ∷ bytes) = None

-- the field and the rule that the cell of a field says, whose name keeps its limits
abbrev pub field_reading : Key → List ℕ → Option (List ℕ × FieldRule)
field_reading k content = if is_in_row field_row k && is_folded_name k.family then option_map (λ rule. (k.family, rule)) (rule_from content) else None

-- ---- what a caller was granted

-- a name of so many bytes in front, where it keeps its limits, and what follows it
abbrev pub name_of_size : ℕ → List ℕ → Option (List ℕ × List ℕ)
name_of_size n bytes = only_if (nat_le n (length bytes) && is_utf8 (take n bytes) && is_auth (take n bytes)) (take n bytes, drop n bytes)

-- the name in front behind its length in 2 bytes, and what follows it
abbrev pub name_in : List ℕ → Option (List ℕ × List ℕ)
name_in [] = None
name_in (high ∷ []) = None
name_in (high ∷ low ∷ bytes) = name_of_size (from_be_bytes w16 (high ∷ low ∷ [])) bytes

-- so many names at most, and nothing behind the last
unfoldable pub names_in : ℕ → List ℕ → Option (List (List ℕ))
names_in most [] = Some []
names_in zero (b ∷ bytes) = None
names_in (suc most) (b ∷ bytes) = option_and_then (λ p. option_map (λ names. p.0 ∷ names) (names_in most p.1)) (name_in (b ∷ bytes))

-- the names that a content says: at most 256, ascending, each once
abbrev pub names_from : List ℕ → Option (List (List ℕ))
names_from content = option_and_then (λ names. only_if (ascend names) names) (names_in MAX_NAMES content)

-- the caller and the names that the cell of a grant says
abbrev pub grant_reading : Key → List ℕ → Option (List ℕ × List (List ℕ))
grant_reading k content = if is_in_row grant_row k && is_caller k.family then option_map (λ names. (k.family, names)) (names_from content) else None

-- ---- laws

-- names that a caller may have: at most 256, each a text that keeps its limits, ascending
pub record AreGranted (names : List (List ℕ)) : Type 0 where
  pub few : length names ≤ MAX_NAMES
  pub each : AllByRecursion (λ name. IsTrue (is_utf8 name && is_auth name)) names
  pub ascending : IsAscending uid_cmp names

-- a content says a rule exactly where it is that rule's
abbrev pub RulesHaveOneSpelling : Type 0
RulesHaveOneSpelling = (rule : FieldRule) (bytes : List ℕ) → (rule_from bytes ≡ Some rule) ↔ (bytes ≡ rule_bytes rule)

-- names exactly where it is theirs, and they may be granted
abbrev pub GrantsHaveOneSpelling : Type 0
GrantsHaveOneSpelling = (names : List (List ℕ)) (bytes : List ℕ) → AreBytes bytes → (names_from bytes ≡ Some names) ↔ (AreGranted names × (bytes ≡ names_bytes names))

-- and a number exactly where it is that number's, from 1 to 2^63 - 1
abbrev pub NumbersHaveOneSpelling : Type 0
NumbersHaveOneSpelling = (n : ℕ) (bytes : List ℕ) → AreBytes bytes → (number_from bytes ≡ Some n) ↔ ((1 ≤ n) × (n < 2 ^ 63) × (bytes ≡ commit_bytes n))
