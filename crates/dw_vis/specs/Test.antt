-- Whether a text keeps every rule, as a test.
use Rattle.std.specs.Prelude.{◌≡◌, ◌↔◌, ℕ, Bool, true, false, ◌&&◌, not, nat_le, List, [], length, Result, Ok, Err}
use Rattle.std.specs.Str.{is_utf8}
use Rattle.dw_vis.specs.declared.error.VisError.{VisError}
use Rattle.dw_vis.specs.declared.error.VisError.TheVariants.{TooLong, TooDeep, Syntax, Mixed, OutOfMemory}
use Rattle.dw_vis.specs.Depth.{is_deep}
use Rattle.dw_vis.specs.Reading.{Outcome, refused, mixes, reads, read}
use Rattle.dw_vis.specs.Sight.{seen_by}
use Rattle.dw_vis.specs.Verdict.{IsVis}

-- the text stands for something
abbrev pub is_read : Outcome Bool → Bool
is_read refused = false
is_read mixes = false
is_read (reads b) = true

-- the text keeps every rule
unfoldable pub is_vis : List ℕ → Bool
is_vis text = nat_le (length text) 512 && (not (is_deep text) && (is_utf8 text && is_read (read (seen_by []) text)))

-- the test says of each text whether it keeps every rule
abbrev pub VisIsTested : Type 0
VisIsTested = (text : List ℕ) → (is_vis text ≡ true) ↔ IsVis text

-- what the test says of a text, by the answer of parsing it
abbrev pub IsTested : List ℕ → Result (List ℕ) VisError → Type 0
IsTested text (Ok vis) = (vis ≡ text) × (is_vis text ≡ true)
IsTested text (Err TooLong) = is_vis text ≡ false
IsTested text (Err TooDeep) = is_vis text ≡ false
IsTested text (Err Syntax) = is_vis text ≡ false
IsTested text (Err Mixed) = is_vis text ≡ false
IsTested text (Err OutOfMemory) = is_vis text ≡ true
