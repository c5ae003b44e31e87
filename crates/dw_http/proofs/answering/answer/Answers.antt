use Rattle.std.proofs.Common.{◌≡◌, ◌+◌, ◌-◌, ◌∙◌, drop, take, refl, ap, arith, inr}
use Rattle.dw_http.specs.Asks.{asker_of}
use Rattle.dw_http.specs.Messages.{Ask}
use Rattle.dw_http.proofs.Asking.{not_found, head_there, takes_ask, parts_are, stands_front_of, on_err}
use Rattle.dw_http.proofs.answering.answer.Goals as goal

pub unreachable-requires : goal.unreachable-requires
unreachable-requires g c =
    head_there c.args.bytes.now c.front_of-front.result.now c.args.head c.args.body c.front_of-front.ensures.front c.requires.head
    (not_found c.find_head.result _ c.in_default.not-Head c.find_head.ensures.none)

pub returns-clause-ok : goal.returns-clause-ok
returns-clause-ok g c =
    let bytes = c.args.bytes.now in
    let found = c.in-Head.ensures.head in
    let at = found.2 in
    let ask : Ask = record { method = c.of.result.now; target = c.of-2.result.now; asker = asker_of c.in_ok-caller.field-0; csv = c.in_ok-csv.field-0; body = take (c.args.head + c.args.body - c.args.head) (drop c.args.head bytes); close = c.in_ok-close.close } in
    let less : c.args.head + c.args.body - c.args.head ≡ c.args.body = omega arith in
    let is = parts_are ask found.0 _ _ (take c.args.body (drop c.args.head bytes)) (c.of.ensures ∙ at.method) (c.of-2.ensures ∙ at.path) at.version at.fields c.in_ok-caller.ensures c.in_ok-csv.ensures (ap (λ n. take n (drop c.args.head bytes)) less) c.in_ok-close.ensures in
    (ask, takes_ask bytes c.args.head c.args.body ask found.0 _ c.requires.head c.requires.whole (stands_front_of bytes c.front_of-front.result.now found.0 _ c.front_of-front.ensures.front found.1) is, c.in_ok-response.ensures.ok, refl)

pub returns-in_err-response-clause-err : goal.returns-in_err-response-clause-err
returns-in_err-response-clause-err g c =
    let bytes = c.args.bytes.now in
    let found = c.in-Head.ensures.head in
    let at = found.2 in
    let ask : Ask = record { method = c.of.result.now; target = c.of-2.result.now; asker = asker_of c.in_ok-caller.field-0; csv = c.in_ok-csv.field-0; body = take (c.args.head + c.args.body - c.args.head) (drop c.args.head bytes); close = c.in_ok-close.close } in
    let less : c.args.head + c.args.body - c.args.head ≡ c.args.body = omega arith in
    let is = parts_are ask found.0 _ _ (take c.args.body (drop c.args.head bytes)) (c.of.ensures ∙ at.method) (c.of-2.ensures ∙ at.path) at.version at.fields c.in_ok-caller.ensures c.in_ok-csv.ensures (ap (λ n. take n (drop c.args.head bytes)) less) c.in_ok-close.ensures in
    on_err c.from_residual-in_err-response.result _ (inr (ask, takes_ask bytes c.args.head c.args.body ask found.0 _ c.requires.head c.requires.whole (stands_front_of bytes c.front_of-front.result.now found.0 _ c.front_of-front.ensures.front found.1) is, c.in_err-response.ensures.err))
