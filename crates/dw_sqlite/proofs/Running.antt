-- On a statement that runs for puts.
use Rattle.std.proofs.Common.{◌≡◌, ◌+◌, ◌<◌, ◌∙◌, ℕ, List, [], ◌∷◌, length, drop, get_or, Result, Ok, Err, true, false, ap, sym, subst, add-one}
use Rattle.std.specs.Prelude.{IsTrue, OnOk}
use Rattle.std.proofs.Math.Seq.{drop-cons}
use Rattle.dw_outside.specs.declared.cell.Put.{Put}
use Rattle.sqlite.specs.Store.{Ghosts}
use Rattle.sqlite.specs.declared.error.Error.{Error}
use Rattle.sqlite.specs.State.{KeepsCounts, Shows}
use Rattle.sqlite.specs.Held.{Held, state}
use Rattle.dw_sqlite.specs.Ran.{Makes, Ran, RanAll}

-- once for the next put, and then for the rest
pub ran_next : {S : Type 0} (g : Ghosts S) (text : List ℕ) (ps : List Put) (i : ℕ) (p : Put) (h mid k : Held S)
    → i < length ps → p ≡ get_or ps i p → Ran g text p h mid → RanAll g text (drop (i + 1) ps) mid k → RanAll g text (drop i ps) h k
ran_next g text ps i p h mid k within is ran rest =
    let step : p ∷ drop (i + 1) ps ≡ drop i ps =
    ap (λ q. q ∷ drop (i + 1) ps) is ∙ (ap (λ n. get_or ps i p ∷ drop n ps) (add-one i) ∙ sym (drop-cons ps i p within)) in
    subst (λ qs. RanAll g text qs h k) step (mid, ran, rest)

-- a commit that went well left what the runs made
pub committed_all : {A S : Type 0} (g : Ghosts S) (text : List ℕ) (ps : List Put) (old tx mid end : Held S) (r : Result A Error)
    → tx ≡ record old { in_transaction = true } → RanAll g text ps tx mid
    → OnOk r (IsTrue (state g mid).in_transaction × Shows (state g mid) (state g end) (state g mid).now (state g mid).now false × KeepsCounts (state g mid) (state g end) × ((state g end).marks ≡ []))
    → OnOk r (Makes g text ps old (state g end).committed)
committed_all g text ps old tx mid end (Ok x) begun ran done = (mid, subst (λ h. RanAll g text ps h mid) begun ran, done.1.committed_is)
committed_all g text ps old tx mid end (Err e) begun ran done = tt
