use Rattle.std.proofs.Common.{◌≡◌, ◌-◌, Some, length, take, drop, ap, sym, ◌∙◌, arith}
use Rattle.std.proofs.lemmas.Grind.{common_steps}
use Rattle.dw_outside.proofs.Given.{given_rest}
use Rattle.dw_outside.proofs.mem_source.MemSourceSource.take.Goals as goal

pub returns-clause-bytes : goal.returns-clause-bytes
returns-clause-bytes c =
    let at = c.self.inside.at in
    let n = c.copy_front-count.result in
    let bytes = c.as_slice.result.now in
    let whole : take (length bytes - at) (drop at bytes) ≡ drop at bytes = grind (arith, common_steps) in
    ap Some (sym (ap (λ s. s.left) c.self.view_is)
    ∙ given_rest c.self.inside.bytes (take n c.copy_front-count.new.buf) at n
    (c.copy_front-count.ensures.front ∙ ap (λ xs. take n xs) (whole ∙ ap (λ xs. drop at xs) c.as_slice.ensures)))
