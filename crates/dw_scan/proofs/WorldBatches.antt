-- A search by the tree of a query is one of a world's shard.
use Rattle.std.proofs.Common.{◌≡◌, ◌≢◌, ◌⊎◌, ◌<◌, ◌+◌, ◌++◌, inl, inr, ℕ, Bool, true, false, List, [], length, map, sym, ap, ◌∙◌}
use Rattle.std.specs.Prelude.{Option, Some, None, IfSome}
use Rattle.dw_base.proofs.Members.{stands_from}
use Rattle.dw_key.specs.declared.doc_key.DocKey.{DocKey}
use Rattle.dw_nest.specs.declared.tree.Tree.{Tree}
use Rattle.dw_nest.specs.declared.place.Place.TheVariants.{Positive}
use Rattle.dw_nest.specs.Shapes.{shape, leaves, is_enumerable}
use Rattle.dw_plan.specs.Anchored.{anchored}
use Rattle.dw_plan.specs.PlanLaws.{is_ruled}
use Rattle.dw_derive.specs.World.{World}
use Rattle.dw_tablet.specs.Held.{Held}
use Rattle.dw_tablet.specs.Places.{covers}
use Rattle.dw_iter.specs.declared.leaf.Leaf.{Leaf}
use Rattle.dw_iter.specs.LeafParts.{LeafStands, made_from}
use Rattle.dw_iter.specs.Made.{LacksPlace}
use Rattle.dw_scan.specs.declared.ask.Ask.{Ask}
use Rattle.dw_scan.specs.declared.ask.Batch.{Batch}
use Rattle.dw_scan.specs.Answers.{IsShard}
use Rattle.dw_scan.specs.Batches.{IsOfWorld, IsBatch}
use Rattle.dw_scan.specs.Candidates.{TreesFindCandidates, leaf_keys}
use Rattle.dw_scan.specs.Parts.{IsLeafOf, IsLeafGap, IsTreeOf, parts_of}
use Rattle.dw_scan.specs.Scanned.{Scanned, IsOfNext}
use Rattle.dw_scan.specs.Stops.{SomeLacks}
use Rattle.dw_scan.specs.Trees.{tree_of}
use Rattle.dw_scan.specs.Worlds.{content_of, shard_seen, SeenAscend, LeavesFindTheSeen}
use Rattle.dw_scan.specs.WorldAnswers.{candidates_in, AnswersAreSeen}
use Rattle.dw_scan.proofs.TreeLists.{lists_alike, tree_enumerable, some_lacked}

pub built_enumerable : (tablet : Held) (ask : Ask) (t : Tree Leaf) → is_ruled ask.dict ask.query ≡ true → anchored ask.query ≡ true → IsTreeOf tablet ask t ask.query → is_enumerable Positive (shape t) ≡ true
built_enumerable tablet ask t ruled anchor built = tree_enumerable tablet.shard ask.dict (IsLeafOf tablet ask) ask.query (shape t) ruled anchor built

module _ (tablet : Held) (ask : Ask) (w : World) (of : IsOfWorld tablet ask w) (t : Tree Leaf) (ruled : is_ruled ask.dict ask.query ≡ true) (anchor : anchored ask.query ≡ true) (built : IsTreeOf tablet ask t ask.query)
    (find : TreesFindCandidates) (seen : LeavesFindTheSeen) (ascend : SeenAscend) (answers : AnswersAreSeen) where
  abbrev shard : List ℕ
  shard = tablet.shard

  abbrev all : List DocKey
  all = candidates_in ask w shard

  abbrev keys : List ℕ → (List ℕ → Bool) → List DocKey
  keys = leaf_keys ask.dict ask.types (shard_seen w shard ask.auths ask.snapshot)

  pub is_shard : IsShard LeafStands tablet (shape t) (content_of w shard) all
  is_shard = record {
    lists = tree_of keys ask.query;
    stand = lists_alike shard ask.dict (IsLeafOf tablet ask) LeafStands keys
        (λ x part i f. f.stands (content_of w shard) (keys part.field part.test) of.agrees (seen w shard ask.auths ask.snapshot ask.dict ask.types part.field part.test of.events (of.indexed part.field i))) ask.query (shape t) ruled built;
    candidates = (find ask.dict ask.types (shard_seen w shard ask.auths ask.snapshot) ask.query (ascend w shard ask.auths ask.snapshot of.events) anchor).1;
    agrees = of.agrees;
  }

  lacked : (place : List ℕ) → SomeLacks made_from LacksPlace (shape t) place → IsLeafGap tablet ask.query place
  lacked place h =
      let l = some_lacked (IsLeafOf tablet ask) made_from (λ texts. LacksPlace texts place) place (covers tablet.spans place ≡ false) (λ x part f g. f.lacks place g) (shape t) (parts_of shard ask.query) h.0 built (stands_from (map made_from (leaves (shape t))) h.0 h.1) h.2 in
      record { is = l.0; missing = l.1 }

  pub to_batch : (from : Option DocKey) (want : ℕ) (b : Batch) → Scanned (SomeLacks made_from LacksPlace (shape t)) ask tablet (content_of w shard) all from want b → IsBatch tablet ask w from want b
  to_batch from want b s = record {
    answer = ap (λ l. b.found ++ l) (sym (answers ask w shard b.resume.after of.events)) ∙ s.answer ∙ answers ask w shard from of.events;
    moved = s.moved;
    ended = s.ended;
    goes_on = s.goes_on;
    gap = at b.missing s.gap;
  }
    where
      either : (place : List ℕ) → SomeLacks made_from LacksPlace (shape t) place ⊎ (IsOfNext tablet all b.resume.after place × (length b.found < want)) → IsLeafGap tablet ask.query place ⊎ (IsOfNext tablet all b.resume.after place × (length b.found < want))
      either place (inl h) = inl (lacked place h)
      either place (inr h) = inr h

      at : (o : Option (List ℕ)) → IfSome o (λ place. SomeLacks made_from LacksPlace (shape t) place ⊎ (IsOfNext tablet all b.resume.after place × (length b.found < want)))
          → IfSome o (λ place. IsLeafGap tablet ask.query place ⊎ (IsOfNext tablet all b.resume.after place × (length b.found < want)))
      at None h = tt
      at (Some place) h = either place h
