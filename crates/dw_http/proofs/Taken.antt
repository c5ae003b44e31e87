-- What one call of the link adds to the bytes held.
use Rattle.std.proofs.Common.{◌≡◌, ◌≤◌, ◌-◌, ◌∙◌, ℕ, List, [], ◌++◌, length, refl, sym, ap, subst, append-nil, arith}
use Rattle.std.specs.Prelude.{Option, Some, None}
use Rattle.std.specs.Io.KnownBytes.{prepend_known}
use Rattle.dw_outside.specs.Links.{Meaning}
use Rattle.dw_http.specs.Held.{Held, StoppedBy, Gathered}
use Rattle.dw_http.specs.declared.intake.Stop.{Stop}

module _ (before after : Meaning) (counted : before.reading.faults ≤ after.reading.faults) (writing : after.writing ≡ before.writing) (old new : Held) where
  -- no byte was kept
  pub halted : (stop : Stop) (lost : List ℕ) → new ≡ record old { stop = Some stop } → before.reading.bytes ≡ prepend_known lost after.reading.bytes → StoppedBy (Some stop) old.budget lost before after → Gathered before old new after
  halted stop lost is reading stopped = record {
    piece = [];
    lost = lost;
    bytes = ap (λ (h : Held). h.bytes) is ∙ sym (append-nil old.bytes);
    budget = omega (arith, ap (λ (h : Held). h.budget) is);
    reading = reading;
    counted = counted;
    writing = writing;
    stopped = subst (λ (h : Held). StoppedBy h.stop h.budget lost before after) (sym is) stopped;
  }

  -- a piece was kept
  pub kept : (piece : List ℕ) → length piece ≤ old.budget → old.stop ≡ None → new ≡ record old { bytes = old.bytes ++ piece; budget = old.budget - length piece } → before.reading.bytes ≡ prepend_known piece after.reading.bytes → Gathered before old new after
  kept piece few going is reading = record {
    piece = piece;
    lost = [];
    bytes = ap (λ (h : Held). h.bytes) is;
    budget = omega (arith, ap (λ (h : Held). h.budget) is);
    reading = reading ∙ ap (λ xs. prepend_known xs after.reading.bytes) (sym (append-nil piece));
    counted = counted;
    writing = writing;
    stopped = subst (λ (s : Option Stop). StoppedBy s new.budget [] before after) (sym (ap (λ (h : Held). h.stop) is ∙ going)) refl;
  }
