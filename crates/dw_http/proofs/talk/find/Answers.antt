use Rattle.std.proofs.Common.{ap, ◌∙◌}
use Rattle.dw_http.specs.Looks.{LooksAt}
use Rattle.std.proofs.Common.{subst, List, ℕ, length, length-append, arith}
use Rattle.std.specs.Prelude.{IfOk}
use Rattle.dw_http.proofs.Soon.{none_by, goes_then}
use Rattle.dw_http.proofs.talk.find.Goals as goal

pub returns-then-not-matches-clause-looks : goal.returns-then-not-matches-clause-looks
returns-then-not-matches-clause-looks g c = subst (λ (bytes : List ℕ). LooksAt bytes c.in_ok-look.look) c.as_slice-then-is_due.ensures c.in_ok-look.ensures

pub loop-scan-preserved : goal.loop-scan-preserved
loop-scan-preserved g c = record {
  goes = goes_then (g.L.Link.meaning c.args.link.now) c.args.intake.now c.loop-scan.intake (g.L.Link.meaning c.loop-scan.link) c.fill.new.self (g.L.Link.meaning c.fill.new.link) (none_by c.stop.result c.loop-scan.intake.stop c.is_none.result c.stop.ensures c.is_none.ensures c.loop-scan-test.true) c.loop-scan.invariant.goes c.in_ok-fill.ensures.ok;
  writing = c.in_ok-fill.ensures.writing ∙ c.loop-scan.invariant.writing;
  within = omega (arith, c.is_due.ensures.place, ap length c.as_slice.ensures, ap length c.in_ok-fill.ensures.ok.bytes, length-append c.loop-scan.intake.bytes c.in_ok-fill.ensures.ok.piece);
}

pub returns-clause-looks : goal.returns-clause-looks
returns-clause-looks g c = subst (λ (bytes : List ℕ). IfOk c.look_at-2.result (LooksAt bytes)) c.as_slice-2.ensures c.look_at-2.ensures
