-- What a batch of a shard is to a world.
use Rattle.std.specs.Prelude.{◌≡◌, ◌≢◌, ◌⊎◌, ◌<◌, ◌++◌, ℕ, true, false, List, [], length, Option, None, IfSome}
use Rattle.dw_key.specs.declared.doc_key.DocKey.{DocKey}
use Rattle.dw_dict.specs.Dictionary.{rule_of}
use Rattle.dw_derive.specs.World.{World}
use Rattle.dw_derive.specs.Lawful.{HasEvents}
use Rattle.dw_tablet.specs.Held.{Held, Agrees}
use Rattle.dw_scan.specs.declared.ask.Ask.{Ask}
use Rattle.dw_scan.specs.declared.ask.Batch.{Batch}
use Rattle.dw_scan.specs.Answers.{left, IsLater}
use Rattle.dw_scan.specs.Parts.{IsLeafGap}
use Rattle.dw_scan.specs.Scanned.{IsOfNext}
use Rattle.dw_scan.specs.Worlds.{content_of, IsIndexedAlike}
use Rattle.dw_scan.specs.WorldAnswers.{candidates_in, answer_in}

-- the world's tables have the shard that the tablet holds a part of, and each field that the ask has indexed is indexed in the world with the same
-- kind, or no batch is seen
pub record IsOfWorld (tablet : Held) (ask : Ask) (w : World) : Type 0 where
  pub events : HasEvents w
  pub agrees : Agrees tablet (content_of w tablet.shard)
  pub indexed : (field : List ℕ) → (rule_of ask.dict field).indexed ≡ true → IsIndexedAlike w ask.dict ask.snapshot field

-- the batch after a resume
pub record IsBatch (tablet : Held) (ask : Ask) (w : World) (from : Option DocKey) (want : ℕ) (batch : Batch) : Type 0 where
  -- what was found and then the answer after the new resume is the answer after the old one
  pub answer : batch.found ++ answer_in ask w tablet.shard batch.resume.after ≡ answer_in ask w tablet.shard from
  -- the resume stays, or goes on to a later candidate
  pub moved : (batch.resume.after ≡ from) ⊎ IsLater (candidates_in ask w tablet.shard) from batch.resume.after
  -- where it has ended, no candidate is left
  pub ended : batch.ended ≡ true → left (candidates_in ask w tablet.shard) batch.resume.after ≡ []
  -- where it has not and nothing is missing, it has gone on, and a candidate is left
  pub goes_on : batch.ended ≡ false → batch.missing ≡ None → IsLater (candidates_in ask w tablet.shard) from batch.resume.after × (left (candidates_in ask w tablet.shard) batch.resume.after ≢ [])
  -- a place that is missing is not covered, and is one of a leaf on an indexed field, or of the first candidate that is left where more is wanted
  pub gap : IfSome batch.missing (λ place. IsLeafGap tablet ask.query place ⊎ (IsOfNext tablet (candidates_in ask w tablet.shard) batch.resume.after place × (length batch.found < want)))
