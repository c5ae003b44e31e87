use Rattle.std.proofs.Common.{◌+◌, ◌++◌, ◌∷◌, [], ap, sym, refl, subst, ◌∙◌}
use Rattle.dw_event.specs.declared.reports.BadReason.TheVariants.{Rule}
use Rattle.dw_event.specs.Take.{Taken, with_record}
use Rattle.dw_ingest.specs.declared.tally.Tally.{Tally}
use Rattle.dw_ingest.specs.declared.pending.Pending.{Pending}
use Rattle.dw_ingest.specs.Going.{Going}
use Rattle.dw_ingest.proofs.Steps.{as_bad, rule_is, counted}
use Rattle.dw_ingest.proofs.pending.take_record.Goals as goal

pub returns-in_ok-count_bad-in-Err-clause-going : goal.returns-in_ok-count_bad-in-Err-clause-going
returns-in_ok-count_bad-in-Err-clause-going g c w so_far t told is dict has well going =
    let e = c.in_ok-count_bad-in-Err.ensures in
    let why = Rule c.in-Err.rule in
    let q : Pending = record { batch = c.args.pending.now.batch; news = c.args.pending.now.news; tally = c.count_bad.new.self } in
    let next = rule_is g.U.UidMaker.digest c.args.number so_far c.in-Err.rule ∙ ap (with_record g.U.UidMaker.digest c.args.number so_far) (sym c.in-Err.is) in
    let P : Taken → Type 0 = λ x. Going w x t q in
    subst P next (counted w t so_far (as_bad why so_far) c.args.pending.now q going refl refl refl
    (ap (λ (x : Tally). x.at) e ∙ ap (λ n. n + 1) going.at) (ap (λ (x : Tally). x.added) e ∙ going.added) (ap (λ (x : Tally). x.repeat) e ∙ going.repeat)
    (ap (λ (x : Tally). x.bad) e ∙ (λ i. going.bad i ++ record { at = going.at i; why = why } ∷ [])))
