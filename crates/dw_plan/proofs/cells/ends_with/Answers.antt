use Rattle.std.proofs.Common.{◌≡◌, ◌==◌, ◌-◌, ◌<◌, length, sym, subst, ◌∙◌, arith, true, false, List, ℕ}
use Rattle.std.specs.Cmp.Lexicographic.{bytes_decides}
use Rattle.std.proofs.lemmas.Bool.Decides.{nat_tests}
use Rattle.dw_plan.specs.Joins.{has}
use Rattle.dw_plan.proofs.Named.{contains_has}
use Rattle.dw_plan.proofs.cells.ends_with.Goals as goal

one_less : (n : ℕ) → (n == 0) ≡ false → n - 1 < n
one_less n h = grind (arith, nat_tests)

pub returns : goal.returns
returns c = λ e.
    let same : c.as_bytes.result.now ≡ c.as_bytes-2.result.now = (bytes_decides c.as_bytes.result.now c.as_bytes-2.result.now).0 (sym c.eq.ensures ∙ e) in
    let last : c.index-texts-texts.result ≡ c.args.text.now = sym (c.as_bytes.ensures.value ∙ c.as_str.ensures.same) ∙ (same ∙ c.as_bytes-2.ensures.value) in
    let some : length c.args.texts.now - 1 < length c.args.texts.now = one_less (length c.args.texts.now) (sym c.is_empty.ensures ∙ c.if-is_empty.false) in
    subst (λ (x : List ℕ). has c.args.texts.now x ≡ true) last
    (contains_has c.args.texts.now c.index-texts-texts.result (length c.args.texts.now - 1, some, sym c.index-texts-texts.is))
