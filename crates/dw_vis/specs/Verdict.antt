-- The first rule that a text breaks, and what parsing answers.
use Rattle.std.specs.Prelude.{◌≡◌, ℕ, ◌<◌, ◌≤◌, true, false, List, length, Result, Ok, Err}
use Rattle.dw_vis.specs.declared.error.VisError.{VisError}
use Rattle.dw_vis.specs.declared.error.VisError.TheVariants.{TooLong, TooDeep, Syntax, Mixed, OutOfMemory}
use Rattle.dw_vis.specs.Trees.{Tree}
use Rattle.dw_vis.specs.Grammar.{VisIn}
use Rattle.dw_vis.specs.Mixing.{MixedIn}
use Rattle.dw_vis.specs.Depth.{is_deep}

-- at most 512 bytes, in which parentheses stand at most 32 deep
pub record IsShallow (text : List ℕ) : Type 0 where
  pub short : length text ≤ 512
  pub shallow : is_deep text ≡ false

-- the text keeps every rule
pub record IsVis (text : List ℕ) : Type 0 where
  pub limits : IsShallow text
  pub tree : Tree
  pub spelt : VisIn text tree

-- this rule is the first that the text breaks
abbrev pub Breaks : VisError → List ℕ → Type 0
Breaks TooLong text = 512 < length text
Breaks TooDeep text = (length text ≤ 512) × (is_deep text ≡ true)
Breaks Syntax text = IsShallow text × (MixedIn text → ⊥)
Breaks Mixed text = IsShallow text × MixedIn text × ((tree : Tree) → VisIn text tree → ⊥)
-- want of memory breaks none
Breaks OutOfMemory text = ⊥

-- What parsing may answer. Want of memory comes alone where every rule is kept.
abbrev pub IsParsed : List ℕ → Result (List ℕ) VisError → Type 0
IsParsed text (Ok vis) = (vis ≡ text) × IsVis text
IsParsed text (Err TooLong) = Breaks TooLong text
IsParsed text (Err TooDeep) = Breaks TooDeep text
IsParsed text (Err Syntax) = Breaks Syntax text
IsParsed text (Err Mixed) = Breaks Mixed text
IsParsed text (Err OutOfMemory) = IsVis text
