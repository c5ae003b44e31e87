-- What the search of a shard promises, for the slot of the shard.
use Rattle.std.proofs.Common.{◌≡◌, ℕ, [], ap, sym, ◌∙◌}
use Rattle.std.specs.Prelude.{Result, Ok, Err, IfOk}
use Rattle.dw_derive.specs.World.{World}
use Rattle.dw_tablet.specs.Held.{Held}
use Rattle.dw_scan.specs.declared.ask.Ask.{Ask}
use Rattle.dw_scan.specs.declared.ask.Batch.{Batch}
use Rattle.dw_scan.specs.declared.ask.Resume.{Resume}
use Rattle.dw_scan.specs.Answers.{answers}
use Rattle.dw_scan.specs.Batches.{IsOfWorld, IsBatch}
use Rattle.dw_scan.specs.Worlds.{content_of}
use Rattle.dw_scan.specs.WorldAnswers.{answer_in, AnswersAreSeen}
use Rattle.dw_page.specs.Placed.{Scanned}
use Rattle.dw_page.specs.Remains.{left}

-- two facts of one value
pub both : {T E : Type 0} (r : Result T E) (P Q : T → Type 0) → IfOk r P → IfOk r Q → IfOk r (λ x. P x × Q x)
both (Ok x) P Q p q = (p, q)
both (Err e) P Q p q = tt

pub scanned_of : (ask : Ask) (t : Held) (r : Resume) (want : ℕ) (b : Batch) → AnswersAreSeen → r.shard ≡ t.shard → b.resume.shard ≡ r.shard → ((w : World) → IsOfWorld t ask w → IsBatch t ask w r.after want b) → Scanned ask t r b
unfolding left
scanned_of ask t r want b law e s f = record {
  shard = s;
  rest = λ w of. rw (s, e) (f w of).answer;
  over = λ w of ended.
      let none : answer_in ask w t.shard b.resume.after ≡ [] = sym (law ask w t.shard b.resume.after of.events) ∙ ap (answers ask t.shard (content_of w t.shard)) ((f w of).ended ended) in
      rw (s, e) none;
}
