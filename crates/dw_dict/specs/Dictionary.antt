-- The dictionary as a map from the names of fields to their rules.
use mathlib.Core.Path.{sym, ap}
use Rattle.std.specs.Prelude.{◌≡◌, ℕ, zero, suc, Bool, false, List, map as list_map, refl, String, string_bytes, unwrap_or}
use Rattle.std.specs.Ordering.{nat_cmp}
use Rattle.std.specs.Cmp.Lexicographic.{slice_cmp}
use Rattle.std.specs.FinMap as map
use Rattle.std.specs.Coded.{Coded, code_by, coded×, coded_ℕ, coded_bool, coded_list}
use Rattle.std.specs.declared.alloc.Global.{Global}
use Rattle.dw_norm.specs.declared.kind.Kind.{Kind}
use Rattle.dw_norm.specs.declared.kind.Kind.TheVariants.{Text, Noop, Number, Date, Ipv4}
use Rattle.dw_dict.specs.declared.rule.FieldRule.{FieldRule}
use Rattle.dw_dict.specs.Rules.{kind_number, field_rule, rule_found}

-- from the names of the fields that were defined to their rules
abbrev pub Dictionary : Type 0
Dictionary = map.FinMap (slice_cmp nat_cmp) FieldRule

-- the rule of a field that was not defined
abbrev pub undefined : FieldRule
undefined = record { kind = Text; indexed = false; reversed = false; ruled = λ h. h }

-- the rule of a field
abbrev pub rule_of : Dictionary → List ℕ → FieldRule
rule_of dict field = unwrap_or (map.get dict field) undefined

-- the dictionary of some entries, by the bytes of the names
abbrev pub of_entries : List (String Global × FieldRule) → Dictionary
of_entries entries = map.from_entries (list_map (λ e. (string_bytes e.0, e.1)) entries)

-- ---- how a dictionary is stored in a proof

abbrev pub kind_at : ℕ → Kind
kind_at zero = Text
kind_at (suc zero) = Noop
kind_at (suc (suc zero)) = Number
kind_at (suc (suc (suc zero))) = Date
kind_at (suc (suc (suc (suc n)))) = Ipv4

pub kind_again : (kind : Kind) → kind_at (kind_number kind) ≡ kind
kind_again Text = refl
kind_again Noop = refl
kind_again Number = refl
kind_again Date = refl
kind_again Ipv4 = refl

abbrev pub kind_code : Coded Kind
kind_code = code_by ℕ coded_ℕ kind_number kind_at kind_again

abbrev pub rule_at : Kind × (Bool × Bool) → FieldRule
rule_at p = unwrap_or (field_rule p.0 p.1.0 p.1.1) undefined

pub rule_again : (r : FieldRule) → rule_at (r.kind, (r.indexed, r.reversed)) ≡ r
rule_again r = ap (λ o. unwrap_or o undefined) (sym (rule_found r.kind r.indexed r.reversed r.ruled))

abbrev pub rule_code : Coded FieldRule
rule_code = code_by (Kind × (Bool × Bool)) (coded× kind_code (coded× coded_bool coded_bool)) (λ r. (r.kind, (r.indexed, r.reversed))) rule_at rule_again

abbrev pub dictionary_code : Coded Dictionary
dictionary_code = map.code (coded_list coded_ℕ) rule_code
