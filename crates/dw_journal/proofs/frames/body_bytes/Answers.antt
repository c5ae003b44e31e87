use Rattle.std.proofs.Common.{◌++◌, List, ℕ, length, sym, ◌∙◌, ap, arith, append_assoc, take}
use Rattle.dw_journal.specs.Frames.{number, puts_bytes, put_bytes}
use Rattle.dw_journal.proofs.Bodies.{puts_take}
use Rattle.dw_journal.proofs.frames.body_bytes.Goals as goal

pub loop-put-preserved : goal.loop-put-preserved
loop-put-preserved c =
    let puts = c.args.puts.now in
    let before = puts_bytes (take c.loop-put.put-index puts) in
    c.in_ok-add_put.ensures ∙ ap (λ (l : List ℕ). l ++ put_bytes c.put-item.result) c.loop-put.invariant ∙ append_assoc (number (length puts)) before (put_bytes c.put-item.result)
    ∙ ap (λ (l : List ℕ). number (length puts) ++ l) (sym (puts_take puts c.loop-put.put-index c.put-item.result (omega arith) c.put-item.is))
