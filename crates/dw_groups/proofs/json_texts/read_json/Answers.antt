use Rattle.std.proofs.Common.{◌≡◌, Bool, true, false, Option, None, refl, sym}
use Rattle.std.specs.Str.{is_utf8}
use Rattle.std.proofs.lemmas.Bool.{true≢false}
use Rattle.std.proofs.lemmas.Str.{is_utf8-from_IsUtf8, IsUtf8-from_is_utf8}
use Rattle.serde_json.specs.Data.{Data}
use Rattle.serde_json.specs.Read.{read}
use Rattle.dw_rows.specs.Values.{guarded}
use Rattle.dw_groups.proofs.json_texts.read_json.Goals as goal

none_if : (b : Bool) (r : Option Data) → (b ≡ true → r ≡ None) → guarded b r ≡ None
none_if true r h = h refl
none_if false r h = refl

pub returns-in-Ok : goal.returns-in-Ok
returns-in-Ok c = rw (is_utf8-from_IsUtf8 c.args.text.now c.in-Ok.ensures.ok.0) (sym c.in-Ok.ensures.ok.1)

pub returns-else-is_memory : goal.returns-else-is_memory
returns-else-is_memory c =
    sym (none_if (is_utf8 c.args.text.now) (read c.args.text.now)
    (λ u. c.in-Err.ensures.err (λ m. true≢false (sym (c.if-is_memory.ensures.1 m))) (IsUtf8-from_is_utf8 c.args.text.now u)))
