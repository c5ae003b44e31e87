-- The rules that there are, and which rules a field may have after another.
use mathlib.Core.Bool.{Bool-set}
use mathlib.Core.Path.{sym}
use Rattle.std.proofs.lemmas.Bool.{true≢false}
use Rattle.std.specs.Prelude.{◌≡◌, ℕ, ◌==◌, Bool, ◌&&◌, ◌||◌, not, IsTrue, true, false, Option, Some, None, refl}
use Rattle.dw_norm.specs.declared.kind.Kind.{Kind}
use Rattle.dw_norm.specs.declared.kind.Kind.TheVariants.{Text, Noop, Number, Date, Ipv4}
use Rattle.dw_dict.specs.declared.rule.FieldRule.{FieldRule}

-- the rule of a kind and two truth values, or none where values would be indexed back to front alone
abbrev pub field_rule : Kind → Bool → Bool → Option FieldRule
field_rule kind true reversed = Some (record { kind = kind; indexed = true; reversed = reversed; ruled = λ _. refl })
field_rule kind false true = None
field_rule kind false false = Some (record { kind = kind; indexed = false; reversed = false; ruled = λ h. h })

-- the kinds are equal, `indexed` stands where it stood, and `reversed` where it stood
abbrev pub Widens : FieldRule → FieldRule → Type 0
Widens next old = (next.kind ≡ old.kind) × (IsTrue old.indexed → IsTrue next.indexed) × (IsTrue old.reversed → IsTrue next.reversed)

abbrev pub kind_number : Kind → ℕ
kind_number Text = 0
kind_number Noop = 1
kind_number Number = 2
kind_number Date = 3
kind_number Ipv4 = 4

-- the same as a test
abbrev pub widens : FieldRule → FieldRule → Bool
widens next old =
    (kind_number next.kind == kind_number old.kind) && (next.indexed || not old.indexed) && (next.reversed || not old.reversed)

-- a rule is the one of its parts
pub rule_found : (kind : Kind) (indexed reversed : Bool) (ruled : IsTrue reversed → IsTrue indexed) → Some (record { kind = kind; indexed = indexed; reversed = reversed; ruled = ruled }) ≡ field_rule kind indexed reversed
rule_found kind true reversed ruled = λ i. Some (record { kind = kind; indexed = true; reversed = reversed; ruled = λ h. Bool-set true true (ruled h) refl i })
rule_found kind false true ruled = absurd (true≢false (sym (ruled refl)))
rule_found kind false false ruled = λ i. Some (record { kind = kind; indexed = false; reversed = false; ruled = λ h. Bool-set false true (ruled h) h i })
