use Rattle.std.proofs.Common.{◌≡◌, ◌+◌, ◌-◌, true, false, length, take, drop, Some, sym, ap, ◌∙◌, subst, arith}
use Rattle.std.proofs.lemmas.Grind.{common_steps}
use Rattle.std.proofs.lemmas.List.{take_rest}
use Rattle.std.proofs.lemmas.Result.{err_from_is_err_and}
use Rattle.dw_jexl.specs.declared.query.Query.TheVariants as query
use Rattle.dw_lucene.specs.Tokens.{is_open, is_close, is_conjoin, is_disjoin, holds_at}
use Rattle.dw_jexl.specs.Grammar.{joined}
use Rattle.dw_lucene.specs.Reading.{base, unary, conjunction, query_at}
use Rattle.dw_lucene.proofs.Steps.{fails_on, base_clause, base_inner_fails, base_not_closed, base_closed, unary_fails, unary_reads, at_rest, holds_within, Reads, conjunction_fails, conjunction_ends, conjunction_more, no_query, disjunction_fails, disjunction_ends, disjunction_more}
use Rattle.dw_lucene.proofs.reading.+reader.Goals as goal

pub base-returns-then-not-is_open_at-clause-value : goal.base-returns-then-not-is_open_at-clause-value
base-returns-then-not-is_open_at-clause-value t c =
    let o : holds_at is_open c.args.tokens.now 0 ≡ false = grind (arith, common_steps, c.is_open_at.ensures, c.if-not-is_open_at.true) in
    rw (base_clause (query_at c.args.levels) c.args.tokens.now o) c.clause.ensures.value

pub base-returns-in_err-query-clause-value : goal.base-returns-in_err-query-clause-value
base-returns-in_err-query-clause-value t c =
    let ts = c.args.tokens.now in
    let inner = query_at c.args.levels in
    let o : holds_at is_open ts 0 ≡ true = grind (arith, common_steps, c.is_open_at.ensures, c.if-not-is_open_at.false) in
    let p = err_from_is_err_and c.from_residual.result c.from_residual.ensures.1 in
    rw (p.1, p.2) (fails_on c.in_err-query.field-0.0 (inner (take (length ts - 1) (drop 1 ts))) (base inner ts) (λ h. base_inner_fails inner ts o (ap inner (sym (take_rest ts 1)) ∙ h)) c.in_err-query.ensures.value)

pub base-returns-then-not-is_close_at-clause-value : goal.base-returns-then-not-is_close_at-clause-value
base-returns-then-not-is_close_at-clause-value t c =
    let ts = c.args.tokens.now in
    let inner = query_at c.args.levels in
    let o : holds_at is_open ts 0 ≡ true = grind (arith, common_steps, c.is_open_at.ensures, c.if-not-is_open_at.false) in
    let s : holds_at is_close ts (c.in_ok-query.used + 1) ≡ false = grind (arith, common_steps, c.is_close_at.ensures, c.if-not-is_close_at.true) in
    base_not_closed inner ts c.in_ok-query.query c.in_ok-query.used o (at_rest ts 1 c.in_ok-query.used c.in_ok-query.query inner c.in_ok-query.ensures.value) s

pub base-returns-clause-value : goal.base-returns-clause-value
base-returns-clause-value t c =
    let ts = c.args.tokens.now in
    let inner = query_at c.args.levels in
    let o : holds_at is_open ts 0 ≡ true = grind (arith, common_steps, c.is_open_at.ensures, c.if-not-is_open_at.false) in
    let s : holds_at is_close ts (c.in_ok-query.used + 1) ≡ true = grind (arith, common_steps, c.is_close_at.ensures, c.if-not-is_close_at.false) in
    base_closed inner ts c.in_ok-query.query c.in_ok-query.used o (at_rest ts 1 c.in_ok-query.used c.in_ok-query.query inner c.in_ok-query.ensures.value) s

pub base-returns-clause-within : goal.base-returns-clause-within
base-returns-clause-within t c =
    let ts = c.args.tokens.now in
    let s : holds_at is_close ts (c.in_ok-query.used + 1) ≡ true = grind (arith, common_steps, c.is_close_at.ensures, c.if-not-is_close_at.false) in
    let within = holds_within is_close ts (c.in_ok-query.used + 1) s in
    (omega arith, omega (arith, within))

pub conjunction-returns-in_err-child-clause-value : goal.conjunction-returns-in_err-child-clause-value
conjunction-returns-in_err-child-clause-value t c =
    let ts = c.args.tokens.now in
    let inner = query_at c.args.levels in
    let at = c.loop-children.at in
    let p = err_from_is_err_and c.from_residual.result c.from_residual.ensures.1 in
    rw (p.1, p.2) (fails_on c.in_err-child.field-0.0 (unary inner (take (length ts - at) (drop at ts))) (conjunction inner ts) (conjunction_fails inner ts c.loop-children.children.items at c.loop-children.invariant) c.in_err-child.ensures.value)

pub conjunction-returns-then-not-is_conjoin_at-clause-value : goal.conjunction-returns-then-not-is_conjoin_at-clause-value
conjunction-returns-then-not-is_conjoin_at-clause-value t c =
    let ts = c.args.tokens.now in
    let at = c.loop-children.at in
    let used = c.in_ok-child.used in
    let s : holds_at is_conjoin ts (at + used) ≡ false = grind (arith, common_steps, c.is_conjoin_at.ensures, c.if-not-is_conjoin_at.true) in
    conjunction_ends (query_at c.args.levels) ts c.loop-children.children.items at c.loop-children.invariant c.in_ok-child.child used c.in_ok-child.ensures.value c.in_ok-child.ensures.within s
    ∙ ap (λ q. Some (q, drop (at + used) ts)) (ap (joined query.And) (sym c.in_ok-push.ensures.items) ∙ sym c.all_of.ensures)

pub conjunction-loop-children-preserved : goal.conjunction-loop-children-preserved
conjunction-loop-children-preserved t c =
    let ts = c.args.tokens.now in
    let at = c.loop-children.at in
    let used = c.in_ok-child.used in
    let s : holds_at is_conjoin ts (at + used) ≡ true = grind (arith, common_steps, c.is_conjoin_at.ensures, c.if-not-is_conjoin_at.false) in
    subst (λ qs. Reads (unary (query_at c.args.levels)) is_conjoin ts qs (at + used + 1)) (sym c.in_ok-push.ensures.items)
    (conjunction_more (query_at c.args.levels) ts c.loop-children.children.items at c.loop-children.invariant c.in_ok-child.child used c.in_ok-child.ensures.value c.in_ok-child.ensures.within s)

pub disjunction-returns-then-levels-eq0-clause-value : goal.disjunction-returns-then-levels-eq0-clause-value
disjunction-returns-then-levels-eq0-clause-value t c = no_query c.args.levels c.args.tokens.now (omega arith)

pub disjunction-returns-in_err-child-clause-value : goal.disjunction-returns-in_err-child-clause-value
disjunction-returns-in_err-child-clause-value t c =
    let ts = c.args.tokens.now in
    let n = c.args.levels in
    let at = c.loop-children.at in
    let p = err_from_is_err_and c.from_residual.result c.from_residual.ensures.1 in
    rw (p.1, p.2) (fails_on c.in_err-child.field-0.0 (conjunction (query_at (n - 1)) (take (length ts - at) (drop at ts))) (query_at n ts) (disjunction_fails n (omega arith) ts c.loop-children.children.items at c.loop-children.invariant) c.in_err-child.ensures.value)

pub disjunction-returns-then-not-is_disjoin_at-clause-value : goal.disjunction-returns-then-not-is_disjoin_at-clause-value
disjunction-returns-then-not-is_disjoin_at-clause-value t c =
    let ts = c.args.tokens.now in
    let at = c.loop-children.at in
    let used = c.in_ok-child.used in
    let s : holds_at is_disjoin ts (at + used) ≡ false = grind (arith, common_steps, c.is_disjoin_at.ensures, c.if-not-is_disjoin_at.true) in
    disjunction_ends c.args.levels (omega arith) ts c.loop-children.children.items at c.loop-children.invariant c.in_ok-child.child used c.in_ok-child.ensures.value c.in_ok-child.ensures.within s
    ∙ ap (λ q. Some (q, drop (at + used) ts)) (ap (joined query.Or) (sym c.in_ok-push.ensures.items) ∙ sym c.any_of.ensures)

pub disjunction-loop-children-preserved : goal.disjunction-loop-children-preserved
disjunction-loop-children-preserved t c =
    let ts = c.args.tokens.now in
    let at = c.loop-children.at in
    let used = c.in_ok-child.used in
    let s : holds_at is_disjoin ts (at + used) ≡ true = grind (arith, common_steps, c.is_disjoin_at.ensures, c.if-not-is_disjoin_at.false) in
    subst (λ qs. Reads (conjunction (query_at (c.args.levels - 1))) is_disjoin ts qs (at + used + 1)) (sym c.in_ok-push.ensures.items)
    (disjunction_more c.args.levels (omega arith) ts c.loop-children.children.items at c.loop-children.invariant c.in_ok-child.child used c.in_ok-child.ensures.value c.in_ok-child.ensures.within s)

pub unary-returns-in_err-query-clause-value : goal.unary-returns-in_err-query-clause-value
unary-returns-in_err-query-clause-value t c =
    let ts = c.args.tokens.now in
    let inner = query_at c.args.levels in
    let count = c.negations-count.result in
    let p = err_from_is_err_and c.from_residual.result c.from_residual.ensures.1 in
    rw (p.1, p.2) (fails_on c.in_err-query.field-0.0 (base inner (take (length ts - count) (drop count ts))) (unary inner ts) (λ h. unary_fails inner ts count c.negations-count.ensures.value (ap (base inner) (sym (take_rest ts count)) ∙ h)) c.in_err-query.ensures.value)

pub unary-returns-clause-value : goal.unary-returns-clause-value
unary-returns-clause-value t c =
    let ts = c.args.tokens.now in
    let inner = query_at c.args.levels in
    let count = c.negations-count.result in
    let used = c.in_ok-query.used in
    unary_reads inner ts count used c.in_ok-query.query c.negations-count.ensures.value (at_rest ts count used c.in_ok-query.query (base inner) c.in_ok-query.ensures.value)
    ∙ ap (λ q. Some (q, drop (count + used) ts)) (sym c.in_ok-negated.ensures)
