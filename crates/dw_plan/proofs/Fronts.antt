-- On what the keys of a row and a field begin with.
use Rattle.std.proofs.Common.{◌≡◌, ◌-◌, ℕ, List, [], ◌∷◌, ◌++◌, length, take, sym, ap, ◌∙◌, append_assoc, arith, length-append}
use Rattle.std.proofs.lemmas.List.{take_at}
use Rattle.dw_key.specs.KeyCode.{escaped, part_code, stamp_code}
use Rattle.dw_key.proofs.Stamps.{length-stamp_code}
use Rattle.dw_plan.specs.Spans.{day_front}

-- what is left of a code without its last 12 bytes
pub front_cut : (row field day all : List ℕ) (n : ℕ) → all ≡ part_code row ++ (part_code field ++ (part_code day ++ (part_code [] ++ stamp_code 0))) → n ≡ length all - 12 → take n all ≡ day_front row field day
front_cut row field day all n e h =
    let tail = 0 ∷ 0 ∷ (part_code [] ++ stamp_code 0) in
    let front = day_front row field day in
    let whole : all ≡ front ++ tail =
    e ∙ ap (λ z. part_code row ++ (part_code field ++ z)) (append_assoc (escaped day) (0 ∷ 0 ∷ []) (part_code [] ++ stamp_code 0))
    ∙ sym (append_assoc (part_code row) (part_code field ++ escaped day) tail ∙ ap (λ z. part_code row ++ z) (append_assoc (part_code field) (escaped day) tail)) in
    let size : length front ≡ n = omega (arith, h, ap length whole, length-append front tail, length-stamp_code 0) in
    ap (take n) whole ∙ take_at front tail n size
