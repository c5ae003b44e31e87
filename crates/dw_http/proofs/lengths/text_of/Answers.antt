use Rattle.dw_http.proofs.Digits.{digits_text, ok_text}
use Rattle.dw_http.proofs.lengths.text_of.Goals as goal

pub unwrap-requires : goal.unwrap-requires
unwrap-requires c = ok_text _ _ c.args.value.now c.from_utf8.result c.from_utf8.ensures.cases (digits_text c.args.value.now c.requires)
