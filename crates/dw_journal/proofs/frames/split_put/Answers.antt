use Rattle.std.proofs.Common.{ℕ, ◌^◌, ◌+◌, ◌-◌, ◌<◌, ◌≡◌, ◌++◌, take, drop, length, sym, ◌∙◌, length-append, length-drop, arith, ap}
use Rattle.std.proofs.lemmas.List.{take_all}
use Rattle.dw_journal.specs.Frames.{text_bytes}
use Rattle.dw_journal.proofs.Codes.{no_content, text_length}
use Rattle.dw_journal.proofs.Results.{some_is}
use Rattle.dw_journal.proofs.frames.split_put.Goals as goal

pub returns-in_err-content-clause-none : goal.returns-in_err-content-clause-none
returns-in_err-content-clause-none c none put more table key content is =
    let bytes = c.args.bytes.now in
    let text = c.in_ok-key.key.now in
    let rest = c.in_ok-key.rest.now in
    let got : drop 1 bytes ≡ text_bytes text ++ rest =
    sym (take_all (length bytes - 1) (drop 1 bytes) (omega (arith, length-drop 1 bytes)))
    ∙ some_is c.take_text.result (c.in_ok-key.key, c.in_ok-key.rest) (λ t. take (length bytes - 1) (drop 1 bytes) ≡ text_bytes t.0.now ++ t.1.now) c.in_ok-key.was c.take_text.ensures.some in
    let small : length text < 2 ^ 64 = omega (arith, ap length got, length-append (text_bytes text) rest, text_length text, length-drop 1 bytes) in
    c.take_text-2.ensures.none c.in_err-content.was put.content more content (no_content bytes text rest put more small key got is)
