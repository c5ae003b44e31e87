-- Lines, counted.
use Rattle.std.proofs.Common.{◌≡◌, ◌<◌, ◌+◌, ◌-◌, ◌∙◌, ℕ, suc, List, sym, ap, arith}
use Rattle.std.specs.Prelude.{Option, Some, None, option_and_then}
use Rattle.dw_http.specs.Lines.{after_line, after_lines}

-- one line more was passed
pub passed_line : (count i : ℕ) (bytes rest next : List ℕ) → i < count → after_lines (count - i) rest ≡ after_lines count bytes → after_line rest ≡ Some next → after_lines (count - (i + 1)) next ≡ after_lines count bytes
passed_line count i bytes rest next less so_far is =
    let more : count - i ≡ suc (count - (i + 1)) = omega arith in
    sym (ap (λ (o : Option (List ℕ)). option_and_then (after_lines (count - (i + 1))) o) is) ∙ sym (ap (λ (k : ℕ). after_lines k rest) more) ∙ so_far

-- there is no line more
pub no_line : (count i : ℕ) (bytes rest : List ℕ) → i < count → after_lines (count - i) rest ≡ after_lines count bytes → after_line rest ≡ None → None ≡ after_lines count bytes
no_line count i bytes rest less so_far is =
    let more : count - i ≡ suc (count - (i + 1)) = omega arith in
    sym (ap (λ (o : Option (List ℕ)). option_and_then (after_lines (count - (i + 1))) o) is) ∙ sym (ap (λ (k : ℕ). after_lines k rest) more) ∙ so_far
