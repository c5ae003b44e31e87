-- On what is read through a batch.
use Rattle.std.proofs.Common.{◌≡◌, List, ℕ, ap, sym, ◌∙◌}
use Rattle.std.specs.Prelude.{Option, Some, None}
use Rattle.std.specs.Option.{option_or}
use Rattle.std.specs.FinMap.{get}
use Rattle.dw_outside.specs.declared.slot.Slot.{Slot}
use Rattle.dw_outside.specs.Tables.{Tables, over}
use Rattle.dw_outside.proofs.Batches.{get_over}

pub over_some : (p m : Tables) (s : Slot) (l : List ℕ) → Some l ≡ get p s → Some l ≡ get (over p m) s
over_some p m s l h = ap (λ o. option_or o (get m s)) h ∙ sym (get_over p m s)

pub over_none : (p m : Tables) (s : Slot) (o : Option (List ℕ)) → None ≡ get p s → o ≡ get m s → o ≡ get (over p m) s
over_none p m s o h k = k ∙ ap (λ q. option_or q (get m s)) h ∙ sym (get_over p m s)
