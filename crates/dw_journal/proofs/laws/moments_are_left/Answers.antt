use Rattle.std.specs.Prelude.{◌⊎◌, ◌++◌, [], ◌∷◌, List, ℕ}
use Rattle.dw_journal.specs.Frames.{Holds}
use Rattle.dw_journal.specs.Journal.{Could, LeavesOnly}
use Rattle.dw_journal.proofs.Stops.{left_since}
use Rattle.dw_journal.proofs.laws.moments_are_left.Goals as goal

pub returns : goal.returns
returns c batches doubt puts old new file since left =
    let Q = λ (l : List ℕ). Could batches doubt l ⊎ Holds (batches ++ puts ∷ []) l in
    left_since (LeavesOnly Q) Q old new file (λ s leaves may. leaves file may) since left
