-- What an open query answers.
use Rattle.std.specs.Prelude.{◌&&◌, Bool, List, filter}
use Rattle.dw_event.specs.Seen.{seen}
use Rattle.dw_event.specs.Take.{Event}
use Rattle.dw_event.specs.Wanted.{is_in_range, is_type_wanted}
use Rattle.dw_event.specs.declared.reports.Shown.{Shown}
use Rattle.dw_eval.specs.declared.open_query.OpenQuery.{OpenQuery}
use Rattle.dw_eval.specs.Values.{normal_view}
use Rattle.dw_eval.specs.Sat.{sat}

-- the event is of a day and a type that are asked for, and its visible values satisfy the query
abbrev pub is_answer : OpenQuery → Shown → Bool
is_answer q s = is_in_range q.days s.shard && (is_type_wanted q.types s.key.dtype && sat (normal_view q.dict s.view) q.query)

-- the events that answer, in the order in which they are seen
abbrev pub answer : OpenQuery → List Shown → List Shown
answer q all = filter (is_answer q) all

-- the answer to a query of these events
abbrev pub answer_of : OpenQuery → List Event → List Shown
answer_of q events = answer q (seen q.auths events q.snapshot)
