use Rattle.std.proofs.Common.{ℕ, ◌-◌, ◌*◌, ◌≡◌, ◌+◌, refl, sym, ap, ap₂, ◌∙◌, inl, subst, List, take, drop, length, nat_lt, Bool, Option, true}
use Rattle.std.specs.Option.{option_map}
use Rattle.dw_event.specs.declared.reports.Shown.{Shown}
use Rattle.dw_event.specs.Pages.{page_items, has_more}
use Rattle.dw_eval.specs.Answer.{answer_of}
use Rattle.dw_page.specs.Asked.{IsAsked, hits_in}
use Rattle.dw_page.specs.Marks.{IsMarked, place_before, walked}
use Rattle.dw_page.specs.Reads.{ReadsPage}
use Rattle.dw_page.specs.declared.mark.Mark.{Mark}
use Rattle.dw_wire.specs.declared.reply.Reply.TheVariants.{Paged}
use Rattle.dw_desk.specs.declared.kept_query.KeptQuery.{KeptQuery}
use Rattle.dw_desk.specs.Accounts.{marked, query_kept}
use Rattle.dw_desk.specs.Stands.{kept_of, state_of}
use Rattle.dw_desk.specs.Step.{paged}
use Rattle.dw_desk.specs.Desk.{Meets, is_accepted}
use Rattle.dw_desk.proofs.DeskLemmas.{state_at, state_marked}
use Rattle.dw_desk.proofs.Doing.{asked_here, marked_here, marked_marks, marks_changed, more_is, refused_meets, same_start, sized_here}
use Rattle.dw_desk.specs.Reads.{PageReads}
use Rattle.dw_desk.proofs.ReadLemmas.{counted_from_one, not_paged, same_kept}
use Rattle.dw_desk.proofs.desk.Desk.page.Goals as goal

pub returns-in-Ok-clause-does : goal.returns-in-Ok-clause-does
returns-in-Ok-clause-does g c = λ w stands.
    let d = c.args.self.now in
    let s = state_of w d in
    let k = c.in-Some.query.now in
    let page = c.args.page in
    let turned = c.in-Ok.turned in
    let told = g.K.Keeper.told c.args.keeper.now in
    let all = answer_of (query_kept k) w.events in
    let asked : IsAsked told k.asked.ask k.days k.size w = asked_here told d w c.args.caller.now c.args.number k stands c.in-Some.ensures in
    let before = marked_here told d w c.args.caller.now c.args.number k stands c.in-Some.ensures in
    let marked = subst (λ (m : Option Mark). IsMarked all k.size m) (sym c.as_ref.ensures.value) before.mark in
    let start = same_start page c.max.result k.size c.max.ensures in
    let shown : turned.shown ≡ page_items all k.size page = c.in-Ok.ensures.shown w asked marked ∙ ap (λ n. take k.size (drop n all)) start in
    let more : turned.more ≡ has_more all k.size page = more_is all k.size c.max.result turned.more (c.in-Ok.ensures.more w asked marked) ∙ ap (λ n. nat_lt (n + k.size) (length all)) start in
    let same = state_marked w d.callers c.set_mark.new.callers c.args.caller.now c.args.number turned.mark c.set_mark.ensures in
    let P : Option KeptQuery → Type 0 = λ o. Meets (is_accepted (paged s page (option_map query_kept o))) (is_accepted (paged s page (option_map query_kept o))) (paged s page (option_map query_kept o)) s (Paged turned.shown turned.more) (state_at w c.set_mark.new.callers) in
    subst P (sym c.in-Some.ensures) (inl (ap₂ (λ (xs : List Shown) (b : Bool). Paged xs b) shown more, same))

pub returns-in-Ok-clause-marks : goal.returns-in-Ok-clause-marks
returns-in-Ok-clause-marks g c = λ w stands.
    let d = c.args.self.now in
    let k = c.in-Some.query.now in
    let turned = c.in-Ok.turned in
    let told = g.K.Keeper.told c.args.keeper.now in
    let name = c.args.caller.now in
    let number = c.args.number in
    let all = answer_of (query_kept k) w.events in
    let asked : IsAsked told k.asked.ask k.days k.size w = asked_here told d w name number k stands c.in-Some.ensures in
    let before = marked_here told d w name number k stands c.in-Some.ensures in
    let was = subst (λ (m : Option Mark). IsMarked all k.size m) (sym c.as_ref.ensures.value) before.mark in
    let mark = c.in-Ok.ensures.marked w asked was (sized_here told d w name number k stands c.in-Some.ensures) in
    marks_changed w d.callers c.set_mark.new.callers name (marked number turned.mark) c.set_mark.ensures
    (marked_marks w number turned.mark k (kept_of d.callers name) c.in-Some.ensures (record { snapshot = before.snapshot; mark = mark }) (stands.marks name)) stands.marks

pub returns-in-Err-clause-does : goal.returns-in-Err-clause-does
returns-in-Err-clause-does g c = λ w stands.
    let s = state_of w c.args.self.now in
    let page = c.args.page in
    let P : Option KeptQuery → Type 0 = λ o. Meets (is_accepted (paged s page (option_map query_kept o))) (is_accepted (paged s page (option_map query_kept o))) (paged s page (option_map query_kept o)) s c.refusal.result s in
    subst P (sym c.in-Some.ensures) (refused_meets c.in-Err.error true true _ s s c.refusal.result refl refl c.refusal.ensures refl)

pub returns-in-Ok-clause-paged : goal.returns-in-Ok-clause-paged
returns-in-Ok-clause-paged g c = λ w k shown more stands has some is.
    let d = c.args.self.now in
    let own = c.in-Some.query.now in
    let told = g.K.Keeper.told c.args.keeper.now in
    let reads = g.K.Keeper.reads c.args.keeper.now in
    let now = g.K.Keeper.reads c.turn_page-turned.new.keeper in
    let workers = c.args.settings.now.workers in
    let all = answer_of (query_kept own) w.events in
    let asked : IsAsked told own.asked.ask own.days own.size w = asked_here told d w c.args.caller.now c.args.number own stands c.in-Some.ensures in
    let before = marked_here told d w c.args.caller.now c.args.number own stands c.in-Some.ensures in
    let was = subst (λ (m : Option Mark). IsMarked all own.size m) (sym c.as_ref.ensures.value) before.mark in
    let made = c.in-Ok.ensures.reads w asked was in
    let by_mark = subst (λ (m : Option Mark). ReadsPage reads now (walked (place_before m c.max.result) (hits_in own.asked.ask own.days w)) workers (drop own.size (drop ((c.max.result - 1) * own.size) all))) c.as_ref.ensures.value made in
    let by_page = subst (λ (n : ℕ). PageReads w (own, n) workers reads now) (counted_from_one c.args.page c.max.result some c.max.ensures) by_mark in
    subst (λ (q : KeptQuery). PageReads w (q, c.args.page) workers reads now) (same_kept ((kept_of d.callers c.args.caller.now).queries c.args.number) own k c.in-Some.ensures has) by_page

pub returns-in-Err-clause-paged : goal.returns-in-Err-clause-paged
returns-in-Err-clause-paged g c = λ w k shown more stands has some is. not_paged c.in-Err.error shown more (sym c.refusal.ensures ∙ is)
