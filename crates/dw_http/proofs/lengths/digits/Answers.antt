use Rattle.std.proofs.Common.{ℕ, List, subst}
use Rattle.std.specs.Str.Parse.{ParsesUnsigned}
use Rattle.dw_http.proofs.Digits.{digits_parse, is_ok_at}
use Rattle.dw_http.proofs.lengths.digits.Goals as goal

pub unwrap-requires : goal.unwrap-requires
unwrap-requires c =
    is_ok_at c.parse.result _ (digits_parse c.args.value.now c.parse.result (subst (λ (bs : List ℕ). ParsesUnsigned 64 10 bs c.parse.result) c.text_of.ensures c.parse.ensures.value.0) c.requires.digits c.requires.some c.requires.few)
