-- What a search of a shard promises of its batch.
use Rattle.std.specs.Prelude.{◌≡◌, ◌≢◌, ◌⊎◌, ◌<◌, ◌++◌, ℕ, true, false, List, [], length, Option, Some, None, IfSome, slice_get}
use Rattle.dw_key.specs.declared.doc_key.DocKey.{DocKey}
use Rattle.dw_tablet.specs.Held.{Held}
use Rattle.dw_tablet.specs.Documents.{document_gap}
use Rattle.dw_scan.specs.declared.ask.Ask.{Ask}
use Rattle.dw_scan.specs.declared.ask.Batch.{Batch}
use Rattle.dw_scan.specs.Answers.{left, answer_after, IsLater}

-- the place is the first one of the first candidate after the resume that is not covered
pub record IsOfNext (tablet : Held) (all : List DocKey) (after : Option DocKey) (place : List ℕ) : Type 0 where
  pub key : DocKey
  pub first : slice_get (left all after) 0 ≡ Some key
  pub gap : document_gap tablet key ≡ Some place

-- the batch after a resume, where these are all candidates of the shard and its content is this
pub record Scanned (IsLacked : List ℕ → Type 0) (ask : Ask) (tablet : Held) (content : List (List ℕ)) (all : List DocKey) (from : Option DocKey) (want : ℕ) (batch : Batch) : Type 0 where
  -- what was found and then the answer after the new resume is the answer after the old one
  pub answer : batch.found ++ answer_after ask tablet.shard content all batch.resume.after ≡ answer_after ask tablet.shard content all from
  -- the resume stays, or goes on to a later candidate
  pub moved : (batch.resume.after ≡ from) ⊎ IsLater all from batch.resume.after
  pub ended : batch.ended ≡ true → left all batch.resume.after ≡ []
  -- where it has not ended and nothing is missing, it has gone on, and a candidate is left
  pub goes_on : batch.ended ≡ false → batch.missing ≡ None → IsLater all from batch.resume.after × (left all batch.resume.after ≢ [])
  -- a place is missing to a leaf, or to the first candidate that is left where more is wanted
  pub gap : IfSome batch.missing (λ place. IsLacked place ⊎ (IsOfNext tablet all batch.resume.after place × (length batch.found < want)))
