use Rattle.std.proofs.Common.{◌≡◌, ◌≤◌, ◌/◌, true, false, length, take, sym, ap, ◌∙◌, refl, arith}
use Rattle.std.specs.Simd.{first_chunks}
use Rattle.dw_derive.specs.UidLists.{cap, ascend}
use Rattle.dw_derive.proofs.UidListLemmas.{take-first_chunks, is_ascending, out_of_order, with_tail}
use Rattle.dw_derive.proofs.list_bytes.kept_of.Goals as goal

pub returns-then-not-ascends : goal.returns-then-not-ascends
returns-then-not-ascends c =
    let n = c.args.count in
    let bytes = c.args.bytes.now in
    let len = c.as_chunks.ensures.front_len in
    let front : take n c.as_chunks.result.0.now ≡ first_chunks 32 n bytes = ap (take n) c.as_chunks.ensures.front ∙ take-first_chunks 32 n (length bytes / 32) bytes (omega (arith, len)) in
    let unsorted : ascend (first_chunks 32 n bytes) ≡ false = ap ascend (sym front) ∙ sym c.ascends.ensures ∙ c.if-not-ascends.true in
    let within : n ≤ cap c.args.form = omega (arith, c.cap.ensures) in
    rw (out_of_order c.args.form n bytes (omega arith) within (omega (arith, len)) unsorted) refl

pub returns-then-bytes-count : goal.returns-then-bytes-count
returns-then-bytes-count c =
    let n = c.args.count in
    let bytes = c.args.bytes.now in
    let len = c.as_chunks.ensures.front_len in
    let front : take n c.as_chunks.result.0.now ≡ first_chunks 32 n bytes = ap (take n) c.as_chunks.ensures.front ∙ take-first_chunks 32 n (length bytes / 32) bytes (omega (arith, len)) in
    let sorted : ascend (first_chunks 32 n bytes) ≡ true = ap ascend (sym front) ∙ sym c.ascends.ensures ∙ c.if-not-ascends.false in
    let within : n ≤ cap c.args.form = omega (arith, c.cap.ensures) in
    rw (with_tail c.args.form n bytes (omega arith) within (omega (arith, c.if-bytes-count.true)) sorted) refl

pub from_ascending-requires : goal.from_ascending-requires
from_ascending-requires c =
    is_ascending c.in_ok-inner.inner.items
    (ap ascend c.in_ok-inner.ensures.items ∙ sym c.ascends.ensures ∙ c.if-not-ascends.false)
