use Rattle.std.proofs.Common.{◌≡◌, ◌+◌, ◌++◌, ◌∷◌, [], ap, sym, refl, subst, ◌∙◌, arith, true}
use Rattle.dw_key.specs.TypeName.{is_type_name}
use Rattle.dw_event.specs.declared.records.Place.{Place}
use Rattle.dw_event.specs.declared.reports.BadReason.TheVariants.{Clash}
use Rattle.dw_event.specs.Take.{Taken, held_at}
use Rattle.dw_outside.specs.Tables.{over}
use Rattle.dw_derive.specs.Laws.{stepped}
use Rattle.dw_ingest.specs.declared.standing.Standing.TheVariants.{Free, Same, Other}
use Rattle.dw_ingest.specs.declared.tally.Tally.{Tally}
use Rattle.dw_ingest.specs.Going.{Going}
use Rattle.dw_ingest.specs.declared.pending.Pending.{Pending}
use Rattle.dw_derive.proofs.Shards.{rules_of}
use Rattle.dw_ingest.proofs.Steps.{standing_held, stands, event_is, going_new, as_repeat, as_bad, same_is, other_is, at_place, counted}
use Rattle.dw_ingest.proofs.pending.take_read.Goals as goal

pub returns-in_ok-add_new-in-Free-clause-going : goal.returns-in_ok-add_new-in-Free-clause-going
returns-in_ok-add_new-in-Free-clause-going g c w so_far t told is dict has well going =
    let place = c.in_ok-place.place in
    let dtype : is_type_name place.key.dtype ≡ true = ap (λ (p : Place). is_type_name p.key.dtype) c.in_ok-place.ensures ∙ (rules_of c.args.rec.now well.rules).dtype in
    let s : Free ≡ standing_held (held_at so_far.events place) c.args.rec.now.cells =
    stands c.documents_are_read.ensures w so_far t c.args.pending.now c.args.rec.now place Free has going is dtype c.uid_is_whole.ensures (sym c.in-Free.is ∙ c.in_ok-compare_at.ensures.stands t told) in
    going_new c.events_are_steps.ensures g.U.UidMaker.digest w so_far t c.args.pending.now c.add_new.new.pending c.args.rec.now place c.args.number going
    (event_is g.U.UidMaker.digest c.args.rec.now place c.args.number c.in_ok-place.ensures well c.uid_is_whole.ensures c.requires.number (let f = c.ranges.number.fits in omega (arith, f)))
    c.in_ok-place.ensures s
    (c.in_ok-add_new-in-Free.ensures.batch t (c.in_ok-compare_at.ensures.same ∙ told)
    ∙ ap (λ d. stepped d (place, record { cells = c.args.rec.now.cells; batch = c.args.number }) (over c.args.pending.now.batch t)) (sym dict))
    c.in_ok-add_new-in-Free.ensures.news c.in_ok-add_new-in-Free.ensures.tally

pub returns-in-Same-clause-going : goal.returns-in-Same-clause-going
returns-in-Same-clause-going g c w so_far t told is dict has well going =
    let place = c.in_ok-place.place in
    let dtype : is_type_name place.key.dtype ≡ true = ap (λ (p : Place). is_type_name p.key.dtype) c.in_ok-place.ensures ∙ (rules_of c.args.rec.now well.rules).dtype in
    let s : Same ≡ standing_held (held_at so_far.events place) c.args.rec.now.cells =
    stands c.documents_are_read.ensures w so_far t c.args.pending.now c.args.rec.now place Same has going is dtype c.uid_is_whole.ensures (sym c.in-Same.is ∙ c.in_ok-compare_at.ensures.stands t told) in
    let next = same_is c.args.number place c.args.rec.now so_far (held_at so_far.events place) s ∙ at_place g.U.UidMaker.digest c.args.number so_far c.args.rec.now place c.in_ok-place.ensures in
    let q : Pending = record { batch = c.args.pending.now.batch; news = c.args.pending.now.news; tally = c.count_repeat.new.self } in
    let e = c.count_repeat.ensures in
    let P : Taken → Type 0 = λ x. Going w x t q in
    subst P next (counted w t so_far (as_repeat so_far) c.args.pending.now q going refl refl refl
    (ap (λ (x : Tally). x.at) e ∙ ap (λ n. n + 1) going.at) (ap (λ (x : Tally). x.added) e ∙ going.added) (ap (λ (x : Tally). x.repeat) e ∙ ap (λ n. n + 1) going.repeat) (ap (λ (x : Tally). x.bad) e ∙ going.bad))

pub returns-in_ok-count_bad-in-Other-clause-going : goal.returns-in_ok-count_bad-in-Other-clause-going
returns-in_ok-count_bad-in-Other-clause-going g c w so_far t told is dict has well going =
    let place = c.in_ok-place.place in
    let dtype : is_type_name place.key.dtype ≡ true = ap (λ (p : Place). is_type_name p.key.dtype) c.in_ok-place.ensures ∙ (rules_of c.args.rec.now well.rules).dtype in
    let s : Other ≡ standing_held (held_at so_far.events place) c.args.rec.now.cells =
    stands c.documents_are_read.ensures w so_far t c.args.pending.now c.args.rec.now place Other has going is dtype c.uid_is_whole.ensures (sym c.in-Other.is ∙ c.in_ok-compare_at.ensures.stands t told) in
    let next = other_is c.args.number place c.args.rec.now so_far (held_at so_far.events place) s ∙ at_place g.U.UidMaker.digest c.args.number so_far c.args.rec.now place c.in_ok-place.ensures in
    let q : Pending = record { batch = c.args.pending.now.batch; news = c.args.pending.now.news; tally = c.count_bad.new.self } in
    let e = c.in_ok-count_bad-in-Other.ensures in
    let P : Taken → Type 0 = λ x. Going w x t q in
    subst P next (counted w t so_far (as_bad (Clash place) so_far) c.args.pending.now q going refl refl refl
    (ap (λ (x : Tally). x.at) e ∙ ap (λ n. n + 1) going.at) (ap (λ (x : Tally). x.added) e ∙ going.added) (ap (λ (x : Tally). x.repeat) e ∙ going.repeat)
    (ap (λ (x : Tally). x.bad) e ∙ (λ i. going.bad i ++ record { at = going.at i; why = Clash place } ∷ [])))
