use Rattle.std.proofs.Common.{refl, ap, length, arith}
use Rattle.dw_page.proofs.JoinedLemmas.{joined_skip, joined_keep, joined_more}
use Rattle.dw_page.proofs.gather.Gather.take_in.Goals as goal

pub returns-then-self-gt0-clause-joined : goal.returns-then-self-gt0-clause-joined
returns-then-self-gt0-clause-joined c = λ page rest j. joined_skip page rest c.args.event c.args.self.now _ c.if-self.false c.if-self-gt0.true refl refl refl refl j

pub returns-then-as_slice-self-clause-joined : goal.returns-then-as_slice-self-clause-joined
returns-then-as_slice-self-clause-joined c = λ page rest j. joined_keep page rest c.args.event c.args.self.now _ c.if-self.false (omega (arith, ap length c.as_slice.ensures)) (omega (arith, ap length c.as_slice.ensures)) refl refl c.in_ok-put.ensures.ok refl j

pub returns-clause-joined : goal.returns-clause-joined
returns-clause-joined c = λ page rest j. joined_more page rest c.args.event c.args.self.now _ c.if-self.false (omega (arith, ap length c.as_slice.ensures)) (omega (arith, ap length c.as_slice.ensures)) refl refl refl j
