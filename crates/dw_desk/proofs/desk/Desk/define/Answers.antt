use Rattle.std.proofs.Common.{refl, sym, ap, ◌∙◌, inl, inr, true}
use Rattle.std.specs.FinMap as map
use Rattle.dw_dict.specs.Dictionary.{rule_of}
use Rattle.dw_derive.specs.MetaTables.{with_rule}
use Rattle.dw_desk.specs.Stands.{state_of}
use Rattle.dw_desk.specs.Step.{defined}
use Rattle.dw_desk.proofs.DeskLemmas.{defined_ok, defined_not}
use Rattle.dw_desk.proofs.Doing.{holds_kept, later_same, may_be_defined, define_accepted, refused_meets}
use Rattle.dw_desk.proofs.StoredCells.{wide_where}
use Rattle.dw_desk.proofs.ReadLemmas.{by_last, not_defined, not_empty}
use Rattle.dw_desk.proofs.desk.Desk.define.Goals as goal

pub store_rule-requires : goal.store_rule-requires
store_rule-requires g c = λ some. wide_where c.args.self.now.last c.args.rule (rule_of c.args.self.now.dict c.args.field.now) (sym c.may_define.ensures ∙ c.if-not-may_define.false) some

pub returns-then-not-may_define-clause-does : goal.returns-then-not-may_define-clause-does
returns-then-not-may_define-clause-does g c = λ w holds fits.
    let d = c.args.self.now in
    record {
      next = w;
      holds = holds;
      later = later_same w w refl refl;
      is = inl (defined_not (state_of w d) c.args.field.now c.args.rule (may_be_defined d w c.args.field.now c.args.rule holds.rules ∙ sym c.may_define.ensures ∙ c.if-not-may_define.true));
    }

pub returns-in_default-clause-does : goal.returns-in_default-clause-does
returns-in_default-clause-does g c = λ w holds fits. record { next = w; holds = holds; later = later_same w w refl refl; is = inr (inl (refl, refl, refl)) }

pub returns-in-Ok-store_rule-clause-does : goal.returns-in-Ok-store_rule-clause-does
returns-in-Ok-store_rule-clause-does g c = λ w holds fits.
    let d = c.args.self.now in
    let field = c.args.field.now in
    let rule = c.args.rule in
    let may = may_be_defined d w field rule holds.rules ∙ sym c.may_define.ensures ∙ c.if-not-may_define.false in
    record {
      next = with_rule w field rule;
      holds = record {
        tables = c.in-Ok-store_rule.ensures.ok w holds.lawful (sym holds.rules.dict) (sym holds.rules.last) holds.tables;
        lawful = c.in-Ok-store_rule.ensures.lawful w holds.lawful (sym holds.rules.dict) (sym holds.rules.last) holds.tables fits;
        rules = record { dict = c.in-Ok.ensures ∙ ap (λ m. map.insert m field rule) holds.rules.dict; grants = holds.rules.grants; last = holds.rules.last };
      };
      later = later_same w (with_rule w field rule) refl refl;
      is = inl (defined_ok (state_of w d) _ field rule may refl);
    }

pub returns-in-Err-clause-does : goal.returns-in-Err-clause-does
returns-in-Err-clause-does g c = λ w holds fits.
    let d = c.args.self.now in
    let field = c.args.field.now in
    let rule = c.args.rule in
    let may = may_be_defined d w field rule holds.rules ∙ sym c.may_define.ensures ∙ c.if-not-may_define.false in
    record {
      next = w;
      holds = holds_kept (g.K.Keeper.told c.args.keeper.now) _ d _ w c.in-Err.ensures.err (record { dict = refl; grants = refl; last = refl }) holds;
      later = later_same w w refl refl;
      is = refused_meets c.in-Err.error true _ (defined (state_of w d) field rule) (state_of w d) _ _ refl (define_accepted (state_of w d) field rule may) c.refusal.ensures refl;
    }

pub returns-in-Ok-store_rule-clause-defined : goal.returns-in-Ok-store_rule-clause-defined
returns-in-Ok-store_rule-clause-defined g c = λ is. by_last c.args.self.now.last _ _ _ c.in-Ok-store_rule.ensures.first c.in-Ok-store_rule.ensures.wider

pub returns-in-Err-clause-defined : goal.returns-in-Err-clause-defined
returns-in-Err-clause-defined g c = λ is. not_defined c.in-Err.error (sym c.refusal.ensures ∙ is)

pub returns-in-Err-clause-undefined : goal.returns-in-Err-clause-undefined
returns-in-Err-clause-undefined g c = λ is. not_empty c.in-Err.error (sym c.refusal.ensures ∙ is)
