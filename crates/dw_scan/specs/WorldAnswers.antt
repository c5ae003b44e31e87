-- What a shard of a world answers.
use Rattle.std.specs.Prelude.{◌≡◌, ◌&&◌, ℕ, List, filter, Option}
use Rattle.dw_key.specs.declared.doc_key.DocKey.{DocKey}
use Rattle.dw_event.specs.declared.reports.Shown.{Shown}
use Rattle.dw_nest.specs.Bounds.{meets}
use Rattle.dw_derive.specs.World.{World}
use Rattle.dw_derive.specs.Lawful.{HasEvents}
use Rattle.dw_tablet.specs.Places.{IsContent}
use Rattle.dw_scan.specs.declared.ask.Ask.{Ask}
use Rattle.dw_scan.specs.Answers.{beyond, answer_after}
use Rattle.dw_scan.specs.Candidates.{keys_of, is_candidate, is_answer}
use Rattle.dw_scan.specs.Worlds.{content_of, shard_seen}

-- the keys of the candidates of an ask among what is seen in a shard
abbrev pub candidates_in : Ask → World → List ℕ → List DocKey
candidates_in ask w shard = keys_of (filter (is_candidate ask.dict ask.types ask.query) (shard_seen w shard ask.auths ask.snapshot))

-- those of a wanted type that satisfy the query, and stand after a resume
abbrev pub answer_in : Ask → World → List ℕ → Option DocKey → List Shown
answer_in ask w shard after = filter (λ s. meets (beyond after) s.key && is_answer ask.dict ask.types ask.query s) (shard_seen w shard ask.auths ask.snapshot)

-- the keys of a shard of a world's tables are a content of it
abbrev pub WorldsAreContents : Type 0
WorldsAreContents = (w : World) (shard : List ℕ) → IsContent shard (content_of w shard)

-- the answer of a shard of a world's tables after a resume, where its candidates are those of the ask, is what is seen there that answers the ask
abbrev pub AnswersAreSeen : Type 0
AnswersAreSeen = (ask : Ask) (w : World) (shard : List ℕ) (after : Option DocKey) → HasEvents w →
    answer_after ask shard (content_of w shard) (candidates_in ask w shard) after ≡ answer_in ask w shard after
