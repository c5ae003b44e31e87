use Rattle.std.proofs.Common.{◌≡◌, ap, sym, subst, ◌∙◌}
use Rattle.std.specs.Prelude.{OnOk}
use Rattle.dw_key.specs.KeyCode.{AreBytes}
use Rattle.dw_audit.specs.declared.meta.Meta.{Meta}
use Rattle.dw_audit.specs.Meta.{sum_of, with_grant}
use Rattle.dw_derive.specs.MetaReaders.{grant_reading}
use Rattle.dw_audit.proofs.Passing.{on_ok, always_ok, none_of, some_of}
use Rattle.dw_audit.proofs.Spelled.{grant_kept}
use Rattle.dw_audit.proofs.meta.take_grant.Goals as goal
use Rattle.dw_audit.proofs.meta.take_grant.Goals.{in-None, in-Some}

pub returns : goal.returns
returns c =
    let m = sum_of c.args.meta.now in
    let reading = grant_reading c.args.key.now c.args.cell.now.content in
    let slice : reading ≡ grant_reading c.args.key.now c.as_slice-2.result.now = ap (grant_reading c.args.key.now) (sym c.as_slice-2.ensures) in
    elim c.match-branch-2.branch [
      | in-None w ↦ always_ok c.match-branch-2.result (ap (λ (x : Meta). sum_of x) w.meta-is ∙ ap (λ o. with_grant o m) (sym (slice ∙ none_of _ _ c.in_ok-grant_names.field-0 w.in-None.is c.in_ok-grant_names.ensures)))
      | in-Some w ↦ subst (λ r. OnOk r (sum_of c.match-branch-2.meta ≡ with_grant reading m)) (sym w.result-is)
          (on_ok w.keep.result
          (λ h. ap (λ (x : Meta). sum_of x) w.meta-is
          ∙ grant_kept c.grants_have_one_spelling.ensures m c.args.cell.now.key c.args.cell.now.content c.args.key.now (w.in-Some.field-0.0.now, w.in-Some.field-0.1) w.keep.new.cells
          c.requires (subst AreBytes c.as_slice.ensures c.are_bytes.ensures) (slice ∙ some_of _ _ c.in_ok-grant_names.field-0 w.in-Some.field-0 w.in-Some.is c.in_ok-grant_names.ensures) h)
          w.keep.ensures)
    ]
