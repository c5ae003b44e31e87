use Rattle.std.proofs.Common.{ℕ, ◌≡◌, ◌+◌, ◌-◌, ◌^◌, ◌<◌, ◌≤◌, ◌++◌, List, take, drop, length, get_or, length-append, length-take, length-drop, arith, ap, refl, rules}
use Rattle.std.proofs.lemmas.Grind.{common_steps}
use Rattle.dw_outside.specs.declared.cell.Put.{Put}
use Rattle.dw_journal.specs.Frames.{text_bytes, body_of, IsBatch}
use Rattle.dw_journal.proofs.Codes.{text_length}
use Rattle.dw_journal.proofs.Results.{some_is}
use Rattle.dw_journal.proofs.Parsing.{after_gate, no_text, no_gate, no_body, is_framed}
use Rattle.dw_journal.proofs.reading.parse.Goals as goal

small_body : (bytes after body more : List ℕ) → length bytes < 2 ^ 64 → after ≡ take (length bytes - 1) (drop 1 bytes) → after ≡ text_bytes body ++ more → length body < 2 ^ 64
small_body bytes after body more short is split =
    omega (arith, short, ap length is, length-take (length bytes - 1) (drop 1 bytes), ap length split, length-append (text_bytes body) more, text_length body)

pub returns-in_default-take_text-clause-next : goal.returns-in_default-take_text-clause-next
returns-in_default-take_text-clause-next c whole sized left shown some enough =
    no_text c.args.rest.now whole _ _ c.args.left (after_gate c.args.rest.now c.in-len1-up.len_at_least) sized shown c.if-gate-ne1.false some enough (c.take_text.ensures.none c.in_default-take_text.is)

pub returns-then-is_empty-clause-next : goal.returns-then-is_empty-clause-next
returns-then-is_empty-clause-next c whole sized left shown some enough =
    let none : length c.in-Some.behind.now ≡ 0 = grind (arith, common_steps) in
    no_gate c.args.rest.now whole _ _ c.args.left (after_gate c.args.rest.now c.in-len1-up.len_at_least) sized shown c.if-gate-ne1.false some enough c.in-Some.body.now c.in-Some.behind.now (small_body c.args.rest.now _ c.in-Some.body.now c.in-Some.behind.now (omega arith) refl c.in-Some.ensures.some) c.in-Some.ensures.some none

pub returns-in-None-clause-next : goal.returns-in-None-clause-next
returns-in-None-clause-next c whole sized left shown some enough =
    no_body c.args.rest.now whole _ _ c.args.left (after_gate c.args.rest.now c.in-len1-up.len_at_least) sized shown c.if-gate-ne1.false some enough c.in-Some.body.now c.in-Some.behind.now (small_body c.args.rest.now _ c.in-Some.body.now c.in-Some.behind.now (omega arith) refl c.in-Some.ensures.some) c.in-Some.ensures.some
    (c.in_ok-read_body.ensures.none c.in-None.is)

pub returns-in-Some-2-clause-next : goal.returns-in-Some-2-clause-next
returns-in-Some-2-clause-next c whole sized left shown some enough =
    let found = some_is c.in_ok-read_body.field-0 c.in-Some-2.puts (λ v. (c.in-Some.body.now ≡ body_of v.items) × IsBatch v.items) c.in-Some-2.is c.in_ok-read_body.ensures.some in (
      is_framed c.args.rest.now whole _ _ c.args.left (after_gate c.args.rest.now c.in-len1-up.len_at_least) sized shown c.if-gate-ne1.false c.in-Some-2.puts.items c.in-Some.body.now c.in-Some.behind.now found.1 found.0 c.in-Some.ensures.some
          (λ none. grind (arith, common_steps)),
      omega (arith, ap length found.0),
    )
