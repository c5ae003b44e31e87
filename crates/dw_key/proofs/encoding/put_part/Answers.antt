use Rattle.std.proofs.Common.{◌≡◌, ℕ, List, [], ◌∷◌, ◌++◌, get_or, take, ◌+◌, ap, sym, ◌∙◌, append_assoc}
use Rattle.std.proofs.lemmas.List.{take_more}
use Rattle.dw_key.specs.KeyCode.{escaped}
use Rattle.dw_key.proofs.Escapes.{escaped-append, escaped-plain}
use Rattle.dw_key.proofs.encoding.put_part.Goals as goal
use Rattle.dw_key.proofs.encoding.put_part.Goals.{then-byte-eq0+in_ok-extend_from_slice, else-byte-eq0+in_ok-push}

pub loop-byte-preserved : goal.loop-byte-preserved
loop-byte-preserved c =
    let part = c.args.part.now in
    let at = c.loop-byte.byte-index in
    let out = c.args.out.now.items in
    let b = get_or part at 0 in
    let before : List ℕ = out ++ escaped (take at part) in
    let grown : before ++ escaped (b ∷ []) ≡ out ++ escaped (take (at + 1) part) =
    append_assoc out (escaped (take at part)) (escaped (b ∷ [])) ∙ ap (λ (t : List ℕ). out ++ t) (sym (escaped-append (take at part) (b ∷ [])) ∙ ap escaped (sym (take_more part at 0 c.loop-byte-test.true))) in
    elim c.if-byte-eq0.branch [
      | then-byte-eq0+in_ok-extend_from_slice w ↦
          let zero : escaped (b ∷ []) ≡ 0 ∷ 255 ∷ [] = ap (λ x. escaped (x ∷ [])) w.if-byte-eq0.true in
          rw (w.out-is, w.in_ok-extend_from_slice.ensures.items, c.loop-byte.invariant) (ap (λ (t : List ℕ). before ++ t) (sym zero) ∙ grown)
      | else-byte-eq0+in_ok-push w ↦
          rw (w.out-is, w.in_ok-push.ensures.items, c.loop-byte.invariant) (ap (λ (t : List ℕ). before ++ t) (sym (escaped-plain b [] w.if-byte-eq0.false)) ∙ grown)
    ]
