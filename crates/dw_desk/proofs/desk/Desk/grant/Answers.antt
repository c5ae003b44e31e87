use Rattle.std.proofs.Common.{◌≡◌, ◌<◌, ◌^◌, ◌∙◌, refl, sym, ap, inl, true, subst, List, ℕ, length, Some}
use Rattle.std.specs.Prelude.{All}
use Rattle.std.specs.Option.{option_map}
use Rattle.std.specs.List.{list_all}
use Rattle.std.specs.Str.{is_utf8}
use Rattle.std.specs.FinMap as map
use Rattle.dw_base.specs.Callers.{is_auth}
use Rattle.dw_derive.specs.Meta.{grant_slot, names_bytes}
use Rattle.dw_derive.specs.MetaTables.{with_grant}
use Rattle.dw_desk.specs.Stands.{state_of}
use Rattle.dw_desk.proofs.Doing.{holds_kept, later_same, refused_meets}
use Rattle.dw_desk.proofs.Granting.{short_names, rules_of, granted_names, not_both}
use Rattle.dw_desk.proofs.desk.Desk.grant.Goals as goal

pub store_grant-requires : goal.store_grant-requires
store_grant-requires g c =
    subst (λ (ns : List (List ℕ)). All (λ (name : List ℕ). length name < 2 ^ 16) ns) c.as_slice.ensures.same
    (short_names c.as_slice.result.now (sym c.may_be_granted.ensures.rules ∙ c.if-not-may_be_granted.false))

pub returns-then-not-may_be_granted-clause-does : goal.returns-then-not-may_be_granted-clause-does
returns-then-not-may_be_granted-clause-does g c = λ w holds caller set.
    absurd (not_both _ (rules_of c.args.auths.now set) (ap (list_all is_auth) (sym c.as_slice.ensures.same) ∙ sym c.may_be_granted.ensures.rules ∙ c.if-not-may_be_granted.true))

pub returns-in-Ok-clause-does : goal.returns-in-Ok-clause-does
returns-in-Ok-clause-does g c = λ w holds caller set.
    let texts : list_all is_utf8 c.args.auths.now ≡ true =
    ap (list_all is_utf8) (sym c.as_slice.ensures.same) ∙ c.may_be_granted.ensures.texts c.if-not-may_be_granted.false in
    record {
      next = with_grant w c.args.caller.now c.args.auths.now;
      holds = record {
        tables = c.in-Ok.ensures.told ∙ ap (option_map (λ t. map.insert t (grant_slot c.args.caller.now) (names_bytes c.args.auths.now))) holds.tables
            ∙ ap Some (c.grants_are_cells.ensures w c.args.caller.now c.args.auths.now);
        lawful = c.grants_keep_worlds.ensures w c.args.caller.now c.args.auths.now holds.lawful caller (granted_names c.args.auths.now set texts);
        rules = record {
          dict = holds.rules.dict;
          grants = c.in-Ok.ensures.granted ∙ ap (λ m. map.insert m c.args.caller.now c.args.auths.now) holds.rules.grants;
          last = holds.rules.last;
        };
      };
      later = later_same w (with_grant w c.args.caller.now c.args.auths.now) refl refl;
      is = inl (refl, refl);
    }

pub returns-in-Err-clause-does : goal.returns-in-Err-clause-does
returns-in-Err-clause-does g c = λ w holds caller set.
    record {
      next = w;
      holds = holds_kept (g.K.Keeper.told c.args.keeper.now) _ c.args.self.now _ w c.in-Err.ensures.untold (record { dict = refl; grants = c.in-Err.ensures.kept; last = refl }) holds;
      later = later_same w w refl refl;
      is = refused_meets c.in-Err.error true true _ (state_of w c.args.self.now) _ _ refl refl c.refusal.ensures refl;
    }
