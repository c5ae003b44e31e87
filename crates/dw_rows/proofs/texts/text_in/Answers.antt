use Rattle.std.proofs.Common.{◌≡◌, Bool, true, false, List, ℕ, Some, None, refl}
use Rattle.std.specs.Str.{is_utf8}
use Rattle.std.proofs.lemmas.Str.{is_utf8-from_IsUtf8, IsUtf8-from_is_utf8}
use Rattle.dw_rows.specs.Values.{guarded}
use Rattle.dw_rows.proofs.texts.text_in.Goals as goal

refused : (b : Bool) (bytes : List ℕ) → (b ≡ true → ⊥) → None ≡ guarded b (Some bytes)
refused true bytes h = absurd (h refl)
refused false bytes h = refl

pub returns-in-Ok : goal.returns-in-Ok
returns-in-Ok c = rw (is_utf8-from_IsUtf8 c.args.bytes.now c.in-Ok.ensures.cases.1, c.in-Ok.ensures.cases.0) refl

pub returns-in-Err : goal.returns-in-Err
returns-in-Err c = refused (is_utf8 c.args.bytes.now) c.args.bytes.now (λ e. c.in-Err.ensures.cases.0 (IsUtf8-from_is_utf8 c.args.bytes.now e))
