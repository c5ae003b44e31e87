use Rattle.std.proofs.Common.{◌≡◌, ◌∙◌, ℕ, List, ap, sym}
use Rattle.dw_words.specs.Sizes.{are_sizes}
use Rattle.dw_words.specs.Values.{numbers}
use Rattle.dw_words.proofs.Numbers.{numbers_are_sizes}
use Rattle.dw_words.proofs.values.read_batches.Goals as goal

pub of-requires : goal.of-requires
of-requires c =
    let text : List ℕ = c.batches_text-text.result.now in
    let same : c.from_vec.result ≡ numbers text = c.from_vec.ensures ∙ c.in_ok-sizes.ensures in
    ap are_sizes same ∙ numbers_are_sizes text (sym c.if-not-are_numbers.ensures)
