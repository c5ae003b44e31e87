use Rattle.std.proofs.lemmas.Str.{is_utf8-from_IsUtf8}
use Rattle.dw_desk.proofs.grants.may_name.Goals as goal

pub returns-clause-text : goal.returns-clause-text
returns-clause-text c = is_utf8-from_IsUtf8 c.args.name.now c.as_str.ensures.utf8
