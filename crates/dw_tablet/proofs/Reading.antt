-- What bytes say, by the key that they are the code of.
use Rattle.std.specs.Prelude.{◌≡◌, ℕ, List, Some, None}
use Rattle.std.specs.Option.{option_map_or}
use Rattle.std.proofs.Common.{ap, sym, ◌∙◌}
use Rattle.dw_vis.specs.Test.{is_vis, VisIsTested}
use Rattle.dw_vis.specs.Verdict.{IsVis}
use Rattle.dw_derive.specs.Readers.{only_if}
use Rattle.dw_key.specs.declared.key.Key.{Key}
use Rattle.dw_derive.specs.Decoded.{key_from}
use Rattle.dw_tablet.specs.declared.said.Said.TheVariants.{Nothing}
use Rattle.dw_tablet.specs.Said.{said_of, visible_said}

pub no_key_says : (bytes : List ℕ) → key_from bytes ≡ None → said_of bytes ≡ Nothing
unfolding said_of
no_key_says bytes h = ap (λ o. option_map_or visible_said o Nothing) h

pub key_says : (bytes : List ℕ) (k : Key) → key_from bytes ≡ Some k → said_of bytes ≡ visible_said k
unfolding said_of
key_says bytes k h = ap (λ o. option_map_or visible_said o Nothing) h

pub a_vis : (text v : List ℕ) → VisIsTested → v ≡ text → IsVis text → Some v ≡ only_if (is_vis text) text
a_vis text v tested e h = ap Some e ∙ sym (ap (λ b. only_if b text) ((tested text).1 h))
