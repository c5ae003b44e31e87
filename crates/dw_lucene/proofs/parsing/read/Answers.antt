use Rattle.std.proofs.Common.{◌≡◌, true, false, length, drop, sym, ap, ◌∙◌, subst, arith}
use Rattle.std.proofs.lemmas.Grind.{common_steps}
use Rattle.std.proofs.lemmas.Result.{err_from_is_err_and}
use Rattle.dw_jexl.specs.declared.parsing.TheConstants.{LEVELS}
use Rattle.dw_lucene.specs.Tokens.{AreRead}
use Rattle.dw_lucene.specs.Levels.{is_deep}
use Rattle.dw_lucene.specs.Patterns.{are_right}
use Rattle.dw_jexl.specs.Reading.{Fails}
use Rattle.dw_lucene.specs.Reading.{whole}
use Rattle.dw_lucene.proofs.Verdict.{left_over, all_read, failed, is_spelt}
use Rattle.dw_lucene.proofs.parsing.read.Goals as goal

pub returns-then-at-len : goal.returns-then-at-len
returns-then-at-len c =
    let ts = c.in_ok-tokens.tokens.items in
    let at = c.in_ok-tokens.at in
    let cs = c.deref.ensures.value ∙ c.in_ok-chars.ensures in
    let read = subst (λ xs. AreRead xs ts (drop at xs)) cs c.in_ok-tokens.ensures.value in
    let shallow : is_deep ts ≡ false = ap is_deep (sym c.deref-2.ensures.value) ∙ sym c.in_ok-is_deep.ensures ∙ c.if-branch.false in
    let l = ap length c.in_ok-chars.ensures in
    left_over c.args.text.now ts at (omega arith) read shallow (omega (arith, l, c.len.ensures, c.in_ok-chars.chars.ok.0))

pub returns-in_err-query : goal.returns-in_err-query
returns-in_err-query c =
    let text = c.args.text.now in
    let ts = c.in_ok-tokens.tokens.items in
    let at = c.in_ok-tokens.at in
    let cs = c.deref.ensures.value ∙ c.in_ok-chars.ensures in
    let read = subst (λ xs. AreRead xs ts (drop at xs)) cs c.in_ok-tokens.ensures.value in
    let shallow : is_deep ts ≡ false = ap is_deep (sym c.deref-2.ensures.value) ∙ sym c.in_ok-is_deep.ensures ∙ c.if-branch.false in
    let l = ap length c.in_ok-chars.ensures in
    let ended = all_read text ts at read (omega (arith, l, c.len.ensures, c.in_ok-chars.chars.ok.0)) in
    let p = err_from_is_err_and c.from_residual-in_err-query.result c.from_residual-in_err-query.ensures.1 in
    let f = subst (λ us. Fails c.in_err-query.field-0.0 (whole LEVELS us)) c.deref-3.ensures.value c.in_err-query.ensures in
    rw (p.1, p.2) (failed text ts LEVELS c.in_err-query.field-0.0 (omega arith) (omega arith) ended shallow f)

pub returns-then-leaves-gt-MAX_LEAVES : goal.returns-then-leaves-gt-MAX_LEAVES
returns-then-leaves-gt-MAX_LEAVES c =
    let text = c.args.text.now in
    let ts = c.in_ok-tokens.tokens.items in
    let at = c.in_ok-tokens.at in
    let cs = c.deref.ensures.value ∙ c.in_ok-chars.ensures in
    let read = subst (λ xs. AreRead xs ts (drop at xs)) cs c.in_ok-tokens.ensures.value in
    let shallow : is_deep ts ≡ false = ap is_deep (sym c.deref-2.ensures.value) ∙ sym c.in_ok-is_deep.ensures ∙ c.if-branch.false in
    let l = ap length c.in_ok-chars.ensures in
    let ended = all_read text ts at read (omega (arith, l, c.len.ensures, c.in_ok-chars.chars.ok.0)) in
    let spelt = is_spelt text ts LEVELS c.in_ok-query.query (omega arith) ended shallow (ap (whole LEVELS) (sym c.deref-3.ensures.value) ∙ c.in_ok-query.ensures) in
    (ts, c.in_ok-query.query, spelt, omega (arith, c.leaves.ensures))

pub returns-then-not-are_right : goal.returns-then-not-are_right
returns-then-not-are_right c =
    let text = c.args.text.now in
    let ts = c.in_ok-tokens.tokens.items in
    let at = c.in_ok-tokens.at in
    let cs = c.deref.ensures.value ∙ c.in_ok-chars.ensures in
    let read = subst (λ xs. AreRead xs ts (drop at xs)) cs c.in_ok-tokens.ensures.value in
    let shallow : is_deep ts ≡ false = ap is_deep (sym c.deref-2.ensures.value) ∙ sym c.in_ok-is_deep.ensures ∙ c.if-branch.false in
    let l = ap length c.in_ok-chars.ensures in
    let ended = all_read text ts at read (omega (arith, l, c.len.ensures, c.in_ok-chars.chars.ok.0)) in
    let spelt = is_spelt text ts LEVELS c.in_ok-query.query (omega arith) ended shallow (ap (whole LEVELS) (sym c.deref-3.ensures.value) ∙ c.in_ok-query.ensures) in
    let r : c.are_right.result ≡ false = grind (arith, common_steps, c.if-not-are_right.true) in
    (ts, c.in_ok-query.query, spelt, omega (arith, c.leaves.ensures), ap are_right (sym c.deref-4.ensures.value) ∙ sym c.are_right.ensures ∙ r)

pub returns : goal.returns
returns c =
    let text = c.args.text.now in
    let ts = c.in_ok-tokens.tokens.items in
    let at = c.in_ok-tokens.at in
    let cs = c.deref.ensures.value ∙ c.in_ok-chars.ensures in
    let read = subst (λ xs. AreRead xs ts (drop at xs)) cs c.in_ok-tokens.ensures.value in
    let shallow : is_deep ts ≡ false = ap is_deep (sym c.deref-2.ensures.value) ∙ sym c.in_ok-is_deep.ensures ∙ c.if-branch.false in
    let l = ap length c.in_ok-chars.ensures in
    let ended = all_read text ts at read (omega (arith, l, c.len.ensures, c.in_ok-chars.chars.ok.0)) in
    let spelt = is_spelt text ts LEVELS c.in_ok-query.query (omega arith) ended shallow (ap (whole LEVELS) (sym c.deref-3.ensures.value) ∙ c.in_ok-query.ensures) in
    let r : c.are_right.result ≡ true = grind (arith, common_steps, c.if-not-are_right.false) in
    record { tokens = ts; spelt = spelt; few = omega (arith, c.leaves.ensures); right = ap are_right (sym c.deref-4.ensures.value) ∙ sym c.are_right.ensures ∙ r }
