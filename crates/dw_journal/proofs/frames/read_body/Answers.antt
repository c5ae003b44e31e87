use Rattle.std.proofs.Common.{◌≡◌, ℕ, ◌+◌, ◌^◌, ◌<◌, ◌≤◌, List, [], ◌∷◌, ◌++◌, length, length-append, arith, ap, sym, subst}
use Rattle.dw_outside.specs.declared.cell.Put.{Put}
use Rattle.dw_outside.specs.Disks.{Each}
use Rattle.dw_journal.proofs.Bodies.{body_step, each_push, stuck, trailing}
use Rattle.dw_journal.proofs.Results.{not_zero}
use Rattle.dw_journal.proofs.frames.read_body.Goals as goal

pub loop-put-preserved : goal.loop-put-preserved
loop-put-preserved c =
    let parts = c.in-Some-split_put.parts in
    let got = c.loop-put.puts.items in
    let put = c.in_ok-put.field-0 in
    let invariant = c.loop-put.invariant in
    let items : c.push.new.self.items ≡ got ++ put ∷ [] = c.in_ok-push.ensures.items in
    let is : put ≡ record { table = parts.table; key = parts.key.now; content = parts.content.now } = c.in_ok-put.ensures in
    record {
      count = omega (arith, invariant.count, ap length items, length-append got (put ∷ []));
      split = body_step c.in-Some.first.now c.loop-put.rest.now parts.rest.now got c.push.new.self.items (record { table = parts.table; key = parts.key.now; content = parts.content.now }) put invariant.split c.in-Some-split_put.ensures.some is items;
      tables = subst (Each (λ (p : Put). p.table ≤ 3)) (sym items) (each_push (λ (p : Put). p.table ≤ 3) got put invariant.tables (omega (arith, ap (λ (p : Put). p.table) is, c.in-Some-split_put.ensures.table)));
    }

pub returns-then-not-is_empty-clause-none : goal.returns-then-not-is_empty-clause-none
returns-then-not-is_empty-clause-none c same puts lawful is =
    let body = c.args.body.now in
    let count : length c.loop-put.puts.items ≡ c.in-Some.count = omega (arith, c.loop-put.invariant.count) in
    trailing body c.in-Some.first.now c.loop-put.rest.now c.in-Some.count c.loop-put.puts.items c.in-Some.ensures.some c.loop-put.invariant.split (omega arith) (omega arith) count
    (λ none. not_zero (length c.loop-put.rest.now) c.if-not-is_empty.ensures (ap length none)) puts lawful is

pub returns-in_default-split_put-clause-none : goal.returns-in_default-split_put-clause-none
returns-in_default-split_put-clause-none c same puts lawful is =
    let body = c.args.body.now in
    stuck body c.in-Some.first.now c.loop-put.rest.now c.in-Some.count c.loop-put.puts.items c.in-Some.ensures.some c.loop-put.invariant.split (omega arith) (omega arith)
    (omega (arith, c.loop-put.invariant.count)) (c.split_put.ensures.none c.in_default-split_put.is) puts lawful is
