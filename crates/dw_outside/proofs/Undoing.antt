-- On the log of puts that are to be taken back.
use Rattle.std.proofs.Common.{ℕ, ◌≡◌, List, [], ◌∷◌, ◌++◌, ap, refl, sym, subst, ◌∙◌, cond}
use Rattle.std.specs.Prelude.{Some, IsSome, reverse}
use Rattle.std.proofs.lemmas.List.{reverse-append}
use Rattle.std.specs.Cmp.{eq_by_cmp_equiv}
use Rattle.std.specs.FinMap.{get, insert, get-insert}
use Rattle.dw_outside.specs.declared.slot.Slot.{Slot}
use Rattle.dw_outside.specs.declared.store.Before.{Before}
use Rattle.dw_outside.specs.Tables.{Tables}
use Rattle.dw_outside.specs.Undo.{restored, undone, CanUndo}
use Rattle.dw_outside.proofs.CellMaps.{slots_total, restored_put}

-- a written slot has something
there : (m : Tables) (k : Slot) (v : List ℕ) → IsSome (get (insert m k v) k)
there m k v = subst IsSome (sym (get-insert slots_total m k v k ∙ ap (λ b. cond b (Some v) (get m k)) ((eq_by_cmp_equiv slots_total).refl k))) refl

pub can_write : (log more : List Before) (b : Before) (m : Tables) (k : Slot) (v : List ℕ) → more ≡ log ++ b ∷ [] → b.slot ≡ k → b.content ≡ get m b.slot → CanUndo (reverse log) m → CanUndo (reverse more) (insert m k v)
can_write log more b m k v is p e can =
    subst (λ q. CanUndo (reverse more) (insert m q v)) p
    (subst (λ bs. CanUndo bs (insert m b.slot v)) (sym (ap reverse is ∙ reverse-append log (b ∷ [])))
    (λ _. there m b.slot v, subst (CanUndo (reverse log)) (sym (ap (restored (insert m b.slot v) b.slot) e ∙ restored_put m b.slot v)) can))

pub back_write : (log more : List Before) (b : Before) (m : Tables) (k : Slot) (v : List ℕ) → more ≡ log ++ b ∷ [] → b.slot ≡ k → b.content ≡ get m b.slot → undone (reverse more) (insert m k v) ≡ undone (reverse log) m
back_write log more b m k v is p e =
    ap (λ q. undone (reverse more) (insert m q v)) (sym p)
    ∙ ap (λ bs. undone bs (insert m b.slot v)) (ap reverse is ∙ reverse-append log (b ∷ []))
    ∙ ap (undone (reverse log)) (ap (restored (insert m b.slot v) b.slot) e ∙ restored_put m b.slot v)

-- the newest is taken off
pub can_pop : (log rest : List Before) (b : Before) (m : Tables) → log ≡ rest ++ b ∷ [] → CanUndo (reverse log) m → CanUndo (b ∷ reverse rest) m
can_pop log rest b m is can = subst (λ bs. CanUndo bs m) (ap reverse is ∙ reverse-append rest (b ∷ [])) can

pub back_pop : (log rest : List Before) (b : Before) (m : Tables) → log ≡ rest ++ b ∷ [] → undone (reverse rest) (restored m b.slot b.content) ≡ undone (reverse log) m
back_pop log rest b m is = ap (λ bs. undone bs m) (sym (ap reverse is ∙ reverse-append rest (b ∷ [])))
