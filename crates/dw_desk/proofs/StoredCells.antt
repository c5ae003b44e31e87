-- On the cells of rules and grants, as they are stored.
use Rattle.std.proofs.Common.{◌≡◌, ◌≢◌, ◌≤◌, ◌==◌, ◌||◌, [], ◌∷◌, ℕ, Bool, true, false, List, Option, refl, sym, ap, ◌∙◌, subst}
use Rattle.std.specs.Prelude.{All}
use Rattle.std.specs.Option.{option_map}
use Rattle.std.specs.FinMap as map
use Rattle.std.proofs.lemmas.Bool.{eqb-true}
use Rattle.std.proofs.lemmas.List.Elements.{All-from_recursion}
use Rattle.dw_dict.specs.declared.rule.FieldRule.{FieldRule}
use Rattle.dw_dict.specs.Rules.{Widens, widens}
use Rattle.dw_outside.specs.declared.cell.Put.{Put}
use Rattle.dw_outside.specs.declared.slot.Slot.{Slot}
use Rattle.dw_outside.specs.Tables.{Tables, applied}
use Rattle.dw_derive.specs.Meta.{put_at}
use Rattle.dw_desk.proofs.Standing.{widens_true}

-- a put is of one of the four tables
pub one_fits : (puts : List Put) (p : Put) → puts ≡ p ∷ [] → p.table ≤ 3 → All (λ (q : Put). q.table ≤ 3) puts
one_fits puts p is few = subst (λ (ps : List Put). All (λ (q : Put). q.table ≤ 3) ps) (sym is) (All-from_recursion (λ (q : Put). q.table ≤ 3) (p ∷ []) (few, tt))

-- one put sets one slot
pub one_applied : (puts : List Put) (p : Put) (s : Slot) (content : List ℕ) (o : Option Tables) → puts ≡ p ∷ [] → p ≡ put_at s content
    → option_map (applied puts) o ≡ option_map (λ t. map.insert t s content) o
one_applied puts p s content o is at = ap (λ ps. option_map (applied ps) o) (is ∙ ap (λ q. q ∷ []) at)

-- a rule that may be set once batches were taken is a wider one
pub wide_where : (last : ℕ) (rule old : FieldRule) → ((last == 0) || widens rule old) ≡ true → last ≢ 0 → Widens rule old
wide_where last rule old e some = at (last == 0) refl e
  where
    at : (b : Bool) → (last == 0) ≡ b → (b || widens rule old) ≡ true → Widens rule old
    at true is h = absurd (some (eqb-true last 0 is))
    at false is h = widens_true rule old h
