-- On what a transaction leaves.
use Rattle.std.proofs.Common.{◌≡◌, ◌∙◌, Result, Ok, Err, refl, sym, inl, inr, arith}
use Rattle.std.specs.Prelude.{IsTrue, IfErr, OnErr}
use Rattle.sqlite.specs.State.{State, HasCleanDisk, KeepsCommit, Survives}
use Rattle.sqlite.specs.declared.error.Error.{Error}
use Rattle.sqlite.specs.Steps.{FailsToCommit}
use Rattle.sqlite.proofs.StateLemmas.{survives_then}

pub kept_itself : (s : State) → KeepsCommit s s
kept_itself s = record { was_open = λ o. o; committed = λ _. refl }

pub kept_then : (a b c : State) → KeepsCommit a b → KeepsCommit b c → KeepsCommit a c
kept_then a b c h k = record { was_open = λ o. h.was_open (k.was_open o); committed = λ o. k.committed o ∙ h.committed (k.was_open o) }

pub survives_itself : (s : State) → Survives s s (λ _. ⊥)
survives_itself s = record { clean = omega arith; shield = λ h. h; counts = omega arith; limit = refl; closes = λ _ was. inl was; crash = λ _ _ may. inl may }

pub survives_next : (a b c : State) → Survives a b (λ _. ⊥) → Survives b c (λ _. ⊥) → Survives a c (λ _. ⊥)
survives_next a b c h k = survives_then a b c (λ _. ⊥) (λ _. ⊥) (λ _. ⊥) (λ _ db none. none) (λ _ db none. none) h k

pub kept_next : (a b c : State) → (HasCleanDisk b → KeepsCommit a b) → (HasCleanDisk c → KeepsCommit b c) → Survives b c (λ _. ⊥) → HasCleanDisk c → KeepsCommit a c
kept_next a b c h k s clean = kept_then a b c (h (omega (arith, s.clean))) (k clean)

pub inside_next : (A B C : Type 0) (b c : State) → (HasCleanDisk b → A → B) → (HasCleanDisk c → B → C) → Survives b c (λ _. ⊥) → HasCleanDisk c → A → C
inside_next A B C b c f g s clean a = g clean (f (omega (arith, s.clean)) a)

-- after a commit that failed the database shows what it did before the transaction
pub not_committed : {A : Type 0} (old begun mid end : State) (r : Result A Error)
    → (begun.committed ≡ old.committed) → (IsTrue begun.is_open → old.now ≡ old.committed)
    → KeepsCommit begun mid → IsTrue mid.in_transaction → IfErr r (FailsToCommit mid end) → IsTrue end.is_open
    → OnErr r ((end.now ≡ old.now) × (end.committed ≡ old.committed))
not_committed old begun mid end (Ok x) same settled kept inside fails is_open = tt
not_committed old begun mid end (Err e) same settled kept inside (inl failed) is_open =
    let back = failed.3 in
    let was = back.was_open is_open in
    let mine = kept.committed was ∙ same in
    ((back.undone is_open).0 ∙ (mine ∙ sym (settled (kept.was_open was))), (back.undone is_open).1 ∙ mine)
not_committed old begun mid end (Err e) same settled kept inside (inr ended) is_open = absurd (let a = ended.1 in cc)
