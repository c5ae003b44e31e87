use Rattle.std.proofs.Common.{◌≡◌, ◌-◌, ◌*◌, [], List, ℕ, true, false, Some, arith, drop, take, refl, ap, sym, subst, ◌∙◌}
use Rattle.std.specs.Prelude.{Option, IfSome}
use Rattle.std.proofs.Math.Seq.{take-nil}
use Rattle.std.specs.List.Sorted.{IsStrictlySortedBy}
use Rattle.std.specs.Option.{option_copied}
use Rattle.std.specs.Ordering.{nat_cmp}
use Rattle.std.specs.Cmp.Lexicographic.{slice_cmp}
use Rattle.dw_eval.specs.Answer.{answer_of}
use Rattle.dw_page.specs.declared.mark.MarkPlace.{MarkPlace}
use Rattle.dw_page.specs.declared.mark.MarkPlace.TheVariants.{End}
use Rattle.dw_page.specs.Asked.{query_of, hits_in}
use Rattle.dw_page.specs.Marks.{EndsAt, place_before, is_end, walked, lined}
use Rattle.dw_page.specs.Reads.{ReadsPage}
use Rattle.dw_page.specs.Remains.{remains, shards_of}
use Rattle.dw_page.proofs.AnswerLemmas.{asked_told, told_still, over_ends, answer_up, walked_up}
use Rattle.dw_page.proofs.MarkLemmas.{none_pass, start_ends, end_is, none_past, end_true, mark_true}
use Rattle.dw_page.proofs.ReadsLemmas.{shards_lined, reads_page, unread_page}
use Rattle.dw_page.proofs.turn.turn_page.Goals as goal

pub returns-then-is_end-clause-shown : goal.returns-then-is_end-clause-shown
returns-then-is_end-clause-shown g c = λ w is marked.
    let size = c.args.size in
    let whole = answer_of (query_of c.args.ask.now c.args.days.now size) w.events in
    let start = place_before (option_copied c.args.mark) c.args.page in
    let end : start ≡ Some End = end_is start (ap is_end (sym c.place_before-start.ensures) ∙ sym c.is_end.ensures ∙ c.if-is_end.true) in
    c.nothing_left.ensures.shown ∙ sym (take-nil size) ∙ ap (take size) (sym (none_past whole c.args.page size start end (start_ends whole c.args.page size (option_copied c.args.mark) marked)))

pub returns-then-is_end-clause-more : goal.returns-then-is_end-clause-more
returns-then-is_end-clause-more g c = λ w is marked.
    let size = c.args.size in
    let whole = answer_of (query_of c.args.ask.now c.args.days.now size) w.events in
    let start = place_before (option_copied c.args.mark) c.args.page in
    let end : start ≡ Some End = end_is start (ap is_end (sym c.place_before-start.ensures) ∙ sym c.is_end.ensures ∙ c.if-is_end.true) in
    let none = none_past whole c.args.page size start end (start_ends whole c.args.page size (option_copied c.args.mark) marked) in
    rw (c.nothing_left.ensures.more, none) (λ t. absurd (cc), λ l. absurd (omega arith))

pub returns-then-is_end-clause-marked : goal.returns-then-is_end-clause-marked
returns-then-is_end-clause-marked g c = λ w is marked some.
    let size = c.args.size in
    let whole = answer_of (query_of c.args.ask.now c.args.days.now size) w.events in
    let start = place_before (option_copied c.args.mark) c.args.page in
    let end : start ≡ Some End = end_is start (ap is_end (sym c.place_before-start.ensures) ∙ sym c.is_end.ensures ∙ c.if-is_end.true) in
    let none = none_past whole c.args.page size start end (start_ends whole c.args.page size (option_copied c.args.mark) marked) in
    rw (c.nothing_left.ensures.place, c.nothing_left.ensures.page) (end_true whole c.args.page size c.requires.counted none)

pub returns-then-is_end-clause-reads : goal.returns-then-is_end-clause-reads
returns-then-is_end-clause-reads g c = λ w is marked.
    let hits = hits_in c.args.ask.now c.args.days.now w in
    let start = place_before (option_copied c.args.mark) c.args.page in
    let end : start ≡ Some End = end_is start (ap is_end (sym c.place_before-start.ensures) ∙ sym c.is_end.ensures ∙ c.if-is_end.true) in
    let none : walked start hits ≡ [] = ap (λ o. walked o hits) end ∙ none_pass hits in
    let past = drop c.args.size (drop ((c.args.page - 1) * c.args.size) (answer_of (query_of c.args.ask.now c.args.days.now c.args.size) w.events)) in
    let before = g.K.Keeper.reads c.args.keeper.now in
    let P : List (List ℕ) → Type 0 = λ ks. ReadsPage before before ks c.args.settings.now.workers past in
    subst P (sym none) (unread_page before before c.args.settings.now.workers past refl)

pub returns-clause-unread : goal.returns-clause-unread
returns-clause-unread g c = λ e.
    let clash : false ≡ true = sym c.if-is_end.false ∙ c.is_end.ensures ∙ ap is_end (c.place_before-start.ensures ∙ e) in
    absurd (cc)

pub returns-clause-shown : goal.returns-clause-shown
returns-clause-shown g c = λ w is marked.
    let ask = c.args.ask.now in
    let size = c.args.size in
    let whole = answer_of (query_of ask c.args.days.now size) w.events in
    let page = drop ((c.args.page - 1) * size) whole in
    let told = told_still _ _ ask w c.in_ok-walk.ensures.told (asked_told (g.K.Keeper.told c.args.keeper.now) ask c.args.days.now size w is) in
    let P : Option MarkPlace → Type 0 = λ o. IfSome o (λ p. EndsAt p ((c.args.page - 1) * size) whole) in
    let ends = subst P (sym c.place_before-start.ensures) (start_ends whole c.args.page size (option_copied c.args.mark) marked) in
    let good = c.in_ok-walk_on.ensures.good w page told (c.in_ok-walk.ensures.good w is ends) in
    let walk = c.walk_on.new.walk in
    let same : walk.gather.size ≡ size = c.in_ok-walk_on.ensures.size ∙ c.in_ok-walk.ensures.size in
    c.finish-shown.ensures.shown page (remains ask w walk.slots.items walk.waiting.items) good.joined (over_ends ask w walk.slots.items walk.waiting.items walk.gather c.in_ok-walk_on.ensures.end) ∙ ap (λ n. take n page) same

pub returns-clause-more : goal.returns-clause-more
returns-clause-more g c = λ w is marked.
    let ask = c.args.ask.now in
    let size = c.args.size in
    let whole = answer_of (query_of ask c.args.days.now size) w.events in
    let page = drop ((c.args.page - 1) * size) whole in
    let told = told_still _ _ ask w c.in_ok-walk.ensures.told (asked_told (g.K.Keeper.told c.args.keeper.now) ask c.args.days.now size w is) in
    let P : Option MarkPlace → Type 0 = λ o. IfSome o (λ p. EndsAt p ((c.args.page - 1) * size) whole) in
    let ends = subst P (sym c.place_before-start.ensures) (start_ends whole c.args.page size (option_copied c.args.mark) marked) in
    let good = c.in_ok-walk_on.ensures.good w page told (c.in_ok-walk.ensures.good w is ends) in
    let walk = c.walk_on.new.walk in
    let same : walk.gather.size ≡ size = c.in_ok-walk_on.ensures.size ∙ c.in_ok-walk.ensures.size in
    rw same at (c.finish-shown.ensures.more page (remains ask w walk.slots.items walk.waiting.items) good.joined (over_ends ask w walk.slots.items walk.waiting.items walk.gather c.in_ok-walk_on.ensures.end))

pub returns-clause-marked : goal.returns-clause-marked
returns-clause-marked g c = λ w is marked some.
    let ask = c.args.ask.now in
    let size = c.args.size in
    let whole = answer_of (query_of ask c.args.days.now size) w.events in
    let up = answer_up (g.K.Keeper.told c.args.keeper.now) ask c.args.days.now size w is in
    rw (c.in_ok-mark.ensures.place, c.in_ok-mark.ensures.page, c.as_slice.ensures)
    (mark_true whole c.args.page size c.finish-shown.result.0 c.finish-shown.result.1 up c.requires.counted some (returns-clause-shown g c w is marked) (returns-clause-more g c w is marked))

pub returns-clause-reads : goal.returns-clause-reads
returns-clause-reads g c = λ w is marked.
    let ask = c.args.ask.now in
    let days = c.args.days.now in
    let size = c.args.size in
    let whole = answer_of (query_of ask days size) w.events in
    let page = drop ((c.args.page - 1) * size) whole in
    let kept = g.K.Keeper.told c.args.keeper.now in
    let hits = hits_in ask days w in
    let start = place_before (option_copied c.args.mark) c.args.page in
    let walk = c.in_ok-walk.walk in
    let told = told_still _ _ ask w c.in_ok-walk.ensures.told (asked_told kept ask days size w is) in
    let P : Option MarkPlace → Type 0 = λ o. IfSome o (λ p. EndsAt p ((c.args.page - 1) * size) whole) in
    let ends = subst P (sym c.place_before-start.ensures) (start_ends whole c.args.page size (option_copied c.args.mark) marked) in
    let waits : walk.waiting.items ≡ lined start hits = c.in_ok-walk.ensures.waits w is ∙ ap (λ o. lined o hits) c.place_before-start.ensures in
    let shards : shards_of walk.waiting.items ≡ walked start hits = ap shards_of waits ∙ shards_lined start (walked start hits) in
    let Q : List (List ℕ) → Type 0 = λ ks. IsStrictlySortedBy (slice_cmp nat_cmp) ks in
    let up = subst Q (sym shards) (walked_up kept ask days size w start) in
    reads_page _ (g.K.Keeper.reads c.begin.new.keeper) _ walk.waiting.items c.walk_on.new.walk.waiting.items start hits c.args.settings.now.workers (drop size page) c.in_ok-walk.ensures.reads c.in_ok-walk_on.ensures.opens waits
    (λ next later e. c.in_ok-walk_on.ensures.near w page later next told (c.in_ok-walk.ensures.good w is ends) up (ap (λ n. drop n page) c.in_ok-walk.ensures.size ∙ e))
