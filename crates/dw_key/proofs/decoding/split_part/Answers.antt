use Rattle.std.proofs.Common.{◌≡◌, ◌+◌, [], ◌∷◌, ◌++◌, length, get_or, take, drop, ◌∙◌, subst, arith, ◌<◌}
use Rattle.std.proofs.lemmas.List.{take_all}
use Rattle.std.proofs.Math.ListN.{drop_of_length-le}
use Rattle.dw_key.specs.KeyCode.{AreBytes}
use Rattle.dw_key.specs.KeyFaults.{IsEscaped}
use Rattle.dw_key.proofs.Escapes.{AreBytes-parts}
use Rattle.dw_key.proofs.Places.{AreBytes-from, take-escaped-plain, take-escaped-zero, cut_at, cut_at_two, ends_in_part, ends_at_zero, stops_at_escape}
use Rattle.dw_key.proofs.decoding.split_part.Goals as goal

pub loop-at-preserved-then-bytes-at-ne0 : goal.loop-at-preserved-then-bytes-at-ne0
loop-at-preserved-then-bytes-at-ne0 c =
    let text = c.loop-at.invariant.1 in
    (omega (arith, c.loop-at-test.true), (text.0 ++ get_or c.args.bytes.now c.loop-at.at 0 ∷ [], take-escaped-plain c.args.bytes.now text.0 c.loop-at.at c.loop-at-test.true c.if-bytes-at-ne0.true text.1))

pub returns-then-at-bytes-clause-fault : goal.returns-then-at-bytes-clause-fault
returns-then-at-bytes-clause-fault c = λ n.
    let bytes = c.args.bytes.now in
    let at = c.loop-at.at in
    let fits : AreBytes bytes = AreBytes-from bytes (λ i. omega (arith, c.type_inv.bytes i)) in
    let nothing : drop (at + 1) bytes ≡ [] = drop_of_length-le bytes (omega (arith, c.if-at-bytes.true)) in
    let whole : bytes ≡ take at bytes ++ 0 ∷ [] = cut_at bytes at c.loop-at-test.true ∙ (λ i. take at bytes ++ c.if-bytes-at-ne0.false i ∷ nothing i) in
    ends_at_zero n bytes (take at bytes) (AreBytes-parts (take at bytes) (0 ∷ []) (subst AreBytes whole fits)).0 c.loop-at.invariant.1 whole

pub loop-at-preserved : goal.loop-at-preserved
loop-at-preserved c =
    let text = c.loop-at.invariant.1 in
    let lt : c.loop-at.at + 1 < length c.args.bytes.now = omega (arith, c.loop-at-test.true, c.if-at-bytes.false) in
    (omega (arith, lt), (text.0 ++ 0 ∷ [], take-escaped-zero c.args.bytes.now text.0 c.loop-at.at lt c.if-bytes-at-ne0.false c.if-next.false text.1))

pub returns-then-next-clause-fault : goal.returns-then-next-clause-fault
returns-then-next-clause-fault c = λ n.
    let bytes = c.args.bytes.now in
    let at = c.loop-at.at in
    let fits : AreBytes bytes = AreBytes-from bytes (λ i. omega (arith, c.type_inv.bytes i)) in
    let lt : at + 1 < length bytes = omega (arith, c.loop-at-test.true, c.if-at-bytes.false) in
    let next = get_or bytes (at + 1) 0 in
    let whole : bytes ≡ take at bytes ++ 0 ∷ next ∷ drop (at + 2) bytes = cut_at_two bytes at lt ∙ (λ i. take at bytes ++ c.if-bytes-at-ne0.false i ∷ next ∷ drop (at + 2) bytes) in
    stops_at_escape n bytes (take at bytes) next (drop (at + 2) bytes) (AreBytes-parts (take at bytes) (0 ∷ next ∷ drop (at + 2) bytes) (subst AreBytes whole fits)).0 c.loop-at.invariant.1 c.if-next-eq0.false c.if-next.true whole

pub returns-clause-fault : goal.returns-clause-fault
returns-clause-fault c = λ n.
    let bytes = c.args.bytes.now in
    let fits : AreBytes bytes = AreBytes-from bytes (λ i. omega (arith, c.type_inv.bytes i)) in
    let all : take c.loop-at.at bytes ≡ bytes = take_all c.loop-at.at bytes c.loop-at-test.false in
    ends_in_part n bytes fits (subst IsEscaped all c.loop-at.invariant.1)
