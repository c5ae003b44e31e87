use Rattle.std.proofs.Common.{◌≡◌, ◌+◌, ◌∷◌, [], List, ℕ, Some, length, ap, sym, subst, ◌∙◌, arith}
use Rattle.std.specs.Prelude.{slice_get}
use Rattle.dw_key.specs.declared.doc_key.DocKey.{DocKey}
use Rattle.dw_nest.specs.declared.place.Place.TheVariants.{Positive}
use Rattle.dw_nest.specs.Shapes.{shape, Stays}
use Rattle.dw_nest.proofs.Kept.{enumerable-alike}
use Rattle.dw_scan.specs.Answers.{left, IsSearched}
use Rattle.dw_scan.proofs.Searches.{shard_stays, next_is, none_left, one_more}
use Rattle.dw_scan.proofs.walking.walk_on.Goals as goal

pub returns-in-End-clause-stopped : goal.returns-in-End-clause-stopped
returns-in-End-clause-stopped g c = λ content all shard.
    none_left g.I.DocIter.stands c.args.tablet.now (shape c.candidates.tree) content all (c.candidates.invariant.still content all shard) c.candidates.after c.beyond.result c.beyond.ensures (c.least.ensures.end c.in-End.is)

pub returns-then-unread-eq0-clause-stopped : goal.returns-then-unread-eq0-clause-stopped
returns-then-unread-eq0-clause-stopped g c = λ content all shard e.
    let next = next_is g.I.DocIter.stands c.args.tablet.now (shape c.candidates.tree) content all (c.candidates.invariant.still content all shard) c.candidates.after c.beyond.result c.beyond.ensures c.in-Key.key c.in-Key.ensures.bound c.in-Key.ensures.candidate c.in-Key.ensures.least in
    let f : c.in-Key.key ∷ left all (Some c.in-Key.key) ≡ [] = sym next ∙ e in cc

pub returns-then-not-branch-clause-searched : goal.returns-then-not-branch-clause-searched
returns-then-not-branch-clause-searched g c = λ content all shard.
    subst (λ xs. IsSearched c.args.ask.now c.args.tablet.now.shard content all c.args.from c.candidates.after xs) (sym (c.in_ok-read-in-Key.ensures.uncovered c.if-not-branch.true).0) (c.candidates.invariant.searched content all shard)

pub returns-then-not-branch-clause-stopped : goal.returns-then-not-branch-clause-stopped
returns-then-not-branch-clause-stopped g c = λ content all shard.
    ap (λ xs. slice_get xs 0)
    (next_is g.I.DocIter.stands c.args.tablet.now (shape c.candidates.tree) content all (c.candidates.invariant.still content all shard) c.candidates.after c.beyond.result c.beyond.ensures c.in-Key.key c.in-Key.ensures.bound c.in-Key.ensures.candidate c.in-Key.ensures.least)

pub returns-then-not-branch-clause-counted : goal.returns-then-not-branch-clause-counted
returns-then-not-branch-clause-counted g c = λ content all shard.
    ap (λ n. n + length (left all c.candidates.after)) (c.in_ok-read-in-Key.ensures.uncovered c.if-not-branch.true).1 ∙ c.candidates.invariant.counted content all shard

pub candidates-preserved : goal.candidates-preserved
candidates-preserved g c =
    let inv = c.candidates.invariant in
    let done = c.in_ok-read-in-Key.ensures in
    let next : (content : List (List ℕ)) (all : List DocKey) → _ → left all c.candidates.after ≡ c.in-Key.key ∷ left all (Some c.in-Key.key) = λ content all shard.
    next_is g.I.DocIter.stands c.args.tablet.now (shape c.candidates.tree) content all (inv.still content all shard) c.candidates.after c.beyond.result c.beyond.ensures c.in-Key.key c.in-Key.ensures.bound c.in-Key.ensures.candidate c.in-Key.ensures.least in
    let long : length c.as_slice.result.now ≡ length c.candidates.found = ap length c.as_slice.ensures in
    record {
      still = λ content all shard. shard_stays g.I.DocIter.stands c.args.tablet.now (shape c.candidates.tree) content all (inv.still content all shard) g.I.DocIter.keys g.I.DocIter.made (shape c.least.new.self) c.least.ensures.stays;
      searched = λ content all shard.
          one_more c.args.ask.now c.args.tablet.now.shard content all c.args.from c.candidates.after c.in-Key.key c.candidates.found c.read.new.found (inv.searched content all shard) (next content all shard)
          (done.found c.if-not-branch.false content (inv.still content all shard).agrees);
      counted = λ content all shard.
          let more : length (left all c.candidates.after) ≡ length (c.in-Key.key ∷ left all (Some c.in-Key.key)) = ap length (next content all shard) in
          omega (arith, more, inv.counted content all shard, done.counted c.if-not-branch.false);
      enumerable = sym (enumerable-alike (Stays g.I.DocIter.stands g.I.DocIter.keys g.I.DocIter.made) (shape c.candidates.tree) (shape c.least.new.self) c.least.ensures.stays Positive) ∙ inv.enumerable;
      made = c.least.ensures.made ∙ inv.made;
      read = omega (arith, inv.read, done.counted c.if-not-branch.false);
      few = omega (arith, inv.few, done.more, long);
    }
