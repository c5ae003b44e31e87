-- What is told where the disk tells its model.
use Rattle.std.proofs.Common.{◌≡◌, suc, List, [], ◌∷◌, Option, Some, None, refl, sym, ap, arith}
use Rattle.std.specs.Prelude.{is_some, All}
use Rattle.std.specs.Option.{option_map}
use Rattle.std.proofs.lemmas.Bool.{false≢true}
use Rattle.dw_outside.specs.Disks.{DiskModel, Each, Now}
use Rattle.dw_journal.specs.Journal.{told_by}

pub told_as_before : {X : Type 0} (old new : Option DiskModel) (x y : X) → is_some new ≡ is_some old → x ≡ y → told_by new x ≡ told_by old y
told_as_before None None x y told is = refl
told_as_before None (Some n) x y told is = absurd (false≢true (sym told))
told_as_before (Some m) None x y told is = absurd (false≢true told)
told_as_before (Some m) (Some n) x y told is = ap Some is

pub told_mapped : {X : Type 0} (f : X → X) (old new : Option DiskModel) (x y : X) → is_some new ≡ is_some old → y ≡ f x → told_by new y ≡ option_map f (told_by old x)
told_mapped f None new x y told is = told_as_before None new y y told refl
told_mapped f (Some m) new x y told is = told_as_before (Some m) new y (f x) told is

pub all_each : {X : Type 0} (P : X → Type 0) (xs : List X) → All P xs → Each P xs
all_each P [] all = tt
all_each P (x ∷ xs) all = (all 0 x (omega arith), all_each P xs (λ k d lt. all (suc k) d (omega (arith, lt))))

-- what is told of one moment is told of the next one, where that has it too
pub now_told : (P Q : Type 0) (old new : Option DiskModel) → is_some new ≡ is_some old → (P → Q) → Now (λ _. P) old → Now (λ _. Q) new
now_told P Q None None told more now = tt
now_told P Q None (Some n) told more now = absurd (false≢true (sym told))
now_told P Q (Some m) None told more now = tt
now_told P Q (Some m) (Some n) told more now = more now
