use Rattle.std.proofs.Common.{sym, ◌∙◌}
use Rattle.std.proofs.lemmas.Bool.{eqb-true}
use Rattle.dw_http.specs.Heads.{max_head}
use Rattle.dw_http.proofs.Found.{head_at, refused_at, none_at, none_short}
use Rattle.dw_http.proofs.looking.look_at.Goals as goal

pub returns-then-is_empty : goal.returns-then-is_empty
returns-then-is_empty c = none_short c.args.bytes.now (eqb-true _ _ (sym c.is_empty.ensures ∙ c.if-is_empty.true))

pub returns-in-Ok : goal.returns-in-Ok
returns-in-Ok c = head_at max_head c.args.bytes.now c.front_of-front.result.now c.find_head.new.headers c.in-Head.spans c.in_ok-body-in-Head.field-0 c.in-Ok.body c.front_of-front.ensures.front c.in-Head.ensures.head c.in_ok-body-in-Head.ensures c.in-Ok.is

pub returns-in-Err : goal.returns-in-Err
returns-in-Err c = refused_at max_head c.args.bytes.now c.front_of-front.result.now c.find_head.new.headers c.in-Head.spans c.in_ok-body-in-Head.field-0 c.in-Err.why c.front_of-front.ensures.front c.in-Head.ensures.head c.in_ok-body-in-Head.ensures c.in-Err.is

pub returns-in-NotYet : goal.returns-in-NotYet
returns-in-NotYet c = none_at c.args.bytes.now c.front_of-front.result.now c.front_of-front.ensures.front c.in-NotYet.ensures.none

pub returns-in-TooMany : goal.returns-in-TooMany
returns-in-TooMany c = none_at c.args.bytes.now c.front_of-front.result.now c.front_of-front.ensures.front c.in-TooMany.ensures.none
