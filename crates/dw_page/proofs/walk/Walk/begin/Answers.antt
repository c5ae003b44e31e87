use Rattle.std.proofs.Common.{◌-◌, ◌*◌, drop, filter, refl, ap, ◌∙◌}
use Rattle.std.specs.Option.{option_copied}
use Rattle.dw_plan.proofs.Answering.{answers_are_hit}
use Rattle.dw_derive.specs.Tables.{tables}
use Rattle.dw_eval.specs.Answer.{answer_of}
use Rattle.dw_page.specs.Asked.{query_of}
use Rattle.dw_page.specs.Marks.{is_past, lined}
use Rattle.dw_page.proofs.AnswerLemmas.{all_wait, waiting_hits, joined_begin, good_begin}
use Rattle.dw_page.proofs.MarkLemmas.{past_rest}
use Rattle.dw_page.proofs.walk.Walk.begin.Goals as goal

pub returns-clause-good : goal.returns-clause-good
returns-clause-good g c = λ w is ends.
    let ask = c.args.ask.now in
    let days = c.args.days.now in
    let size = c.args.size in
    let start = option_copied c.args.start in
    let whole = answer_of (query_of ask days size) w.events in
    let rest = filter (is_past start) whole in
    let waiting = c.in_ok-waiting.waiting.items in
    let all = waiting_hits ask days w start waiting c.in_ok-hits.hits c.in_ok-waiting.ensures (c.in_ok-hits.ensures.hits (tables w) is.told) rest (all_wait (g.K.Keeper.told c.args.keeper.now) ask days size w answers_are_hit is start) in
    record {
      joined = joined_begin ask w rest (drop ((c.args.page - 1) * size) whole) _ waiting _ c.new.ensures.items all (ap (λ k. drop k rest) c.skip_to.ensures ∙ past_rest start c.args.page size whole ends) c.new-2.ensures refl;
      slots = good_begin ask w _ c.new.ensures.items;
    }

pub returns-clause-waits : goal.returns-clause-waits
returns-clause-waits g c = λ w is. c.in_ok-waiting.ensures ∙ ap (lined (option_copied c.args.start)) (c.in_ok-hits.ensures.hits (tables w) is.told)
