use Rattle.std.proofs.Common.{◌≡◌, sym, subst, inl, inr, refl, arith, Result}
use Rattle.std.specs.Prelude.{IfOk}
use Rattle.std.proofs.lemmas.Result.{IfOk-weaker}
use Rattle.datawave.proofs.Results.{on_err_then}
use Rattle.datawave.proofs.Rising.{rose_none}
use Rattle.std.specs.declared.alloc.AllocError.{AllocError}
use Rattle.dw_desk.specs.Desk.{IsFormed}
use Rattle.dw_desk.specs.Session.{Asked}
use Rattle.datawave.specs.Exchange.{RequestAnswered}
use Rattle.datawave.specs.Texts.{text_of}
use Rattle.datawave.proofs.exchange.answer.Goals as goal

pub returns-in-Ok-clause-text : goal.returns-in-Ok-clause-text
returns-in-Ok-clause-text g c =
    IfOk-weaker c.answer_read.result _ _
    (λ text answered w asked stands read formed.
    let same : c.in-Ok.request ≡ asked = subst (λ (r : Result Asked AllocError). IfOk r (λ x. x ≡ asked)) c.in-Ok.is read in
    subst (λ (a : Asked). RequestAnswered g.U.UidMaker.digest w c.args.desk.now (g.K.Keeper.faults c.args.keeper.now) a (text_of text) c.answer_read.new.desk (g.K.Keeper.told c.answer_read.new.keeper) (g.K.Keeper.faults c.answer_read.new.keeper))
    same (answered w stands (subst (λ (a : Asked). IsFormed a) (sym same) formed)))
    c.answer_read.ensures.text

pub returns-in-Ok-clause-err : goal.returns-in-Ok-clause-err
returns-in-Ok-clause-err g c =
    on_err_then c.answer_read.result
    (λ answered w asked stands read formed.
    let same : c.in-Ok.request ≡ asked = subst (λ (r : Result Asked AllocError). IfOk r (λ x. x ≡ asked)) c.in-Ok.is read in
    let here = answered w stands (subst (λ (a : Asked). IsFormed a) (sym same) formed) in
    (here.0, subst (λ (a : Asked). RequestAnswered g.U.UidMaker.digest w c.args.desk.now (g.K.Keeper.faults c.args.keeper.now) a here.0 c.answer_read.new.desk (g.K.Keeper.told c.answer_read.new.keeper) (g.K.Keeper.faults c.answer_read.new.keeper)) same here.1))
    c.answer_read.ensures.err

pub returns-in-Err-clause-text : goal.returns-in-Err-clause-text
returns-in-Err-clause-text g c = λ w asked stands read formed.
    record {
      next = w;
      faults = 0;
      stands = stands;
      answers = inr (inl (refl, refl, refl));
      rose = rose_none (g.K.Keeper.faults c.args.keeper.now) (g.K.Keeper.faults c.args.keeper.now) (omega arith);
    }
