use Rattle.std.proofs.Common.{◌≡◌, ◌<◌, ◌-◌, ◌++◌, length, set, drop, arith, ap, sym, ◌∙◌}
use Rattle.std.specs.Prelude.{None}
use Rattle.std.proofs.lemmas.Grind.{common_steps}
use Rattle.std.proofs.lemmas.List.{length-drop, length-set}
use Rattle.std.proofs.lemmas.List.Elements.{All-drop}
use Rattle.dw_page.specs.Placed.{SlotGood}
use Rattle.dw_page.specs.Remains.{remains}
use Rattle.dw_page.proofs.NearLemmas.{last_kept, last_given}
use Rattle.dw_page.proofs.RemainsLemmas.{remains_given, remains_kept, agree_given, none_held, joined_same}
use Rattle.dw_page.proofs.walk.Walk.flush.Goals as goal

pub returns-then-is_some-clause-good : goal.returns-then-is_some-clause-good
returns-then-is_some-clause-good c =
    let slots = c.giving.self.slots.items in
    let waiting = c.giving.self.waiting.items in
    let given = c.give-found.new.self in
    let first = c.index_mut.result.now in
    let some : 0 < length slots = grind (arith, common_steps) in
    λ ask w page g.
    let before = c.giving.invariant.good ask w page g in
    record {
      joined = c.in_ok-take_all.ensures.joined page _
          (joined_same page _ _ _ (remains_kept ask w slots waiting given first some c.index_mut.ensures.value c.give-found.ensures.found c.give-found.ensures.resume c.give-found.ensures.tablet ∙ ap (λ xs. xs ++ remains ask w (set slots 0 given) waiting) (sym c.give-found.ensures.given))
          before.joined);
      slots = agree_given ask w slots given first some c.index_mut.ensures.value c.give-found.ensures.found c.give-found.ensures.resume c.give-found.ensures.tablet before.slots;
    }

pub returns-then-is_some-clause-last : goal.returns-then-is_some-clause-last
returns-then-is_some-clause-last c =
    let some : 0 < length c.giving.self.slots.items = grind (arith, common_steps) in
    λ all h. last_kept all c.giving.self.slots.items c.giving.self.waiting.items c.give-found.new.self c.index_mut.result.now some c.index_mut.ensures.value c.give-found.ensures.resume (c.giving.invariant.last all h)

pub giving-preserved : goal.giving-preserved
giving-preserved c =
    let slots = c.giving.self.slots.items in
    let waiting = c.giving.self.waiting.items in
    let given = c.give-found.new.self in
    let first = c.index_mut.result.now in
    let some : 0 < length slots = grind (arith, common_steps) in
    let ended : first.tablet ≡ None = none_held slots given first c.index.result.now _ some c.give-found.ensures.tablet c.index.ensures c.is_some.ensures c.if-is_some.false in
    let left = c.drop_first.ensures.rest in
    let cut : length c.drop_first.new.slots.items ≡ length slots - 1 = ap length left ∙ length-drop 1 (set slots 0 given) ∙ ap (λ n. n - 1) (length-set slots 0 given) in
    record {
      good = λ ask w page g.
          let before = c.giving.invariant.good ask w page g in
          record {
            joined = rw left (c.in_ok-take_all.ensures.joined page _
                (joined_same page _ _ _ (remains_given ask w slots waiting given first some c.index_mut.ensures.value ended ∙ ap (λ xs. xs ++ remains ask w (drop 1 (set slots 0 given)) waiting) (sym c.give-found.ensures.given))
                before.joined));
            slots = rw left (All-drop (SlotGood ask w) 1 (set slots 0 given) (agree_given ask w slots given first some c.index_mut.ensures.value c.give-found.ensures.found c.give-found.ensures.resume c.give-found.ensures.tablet before.slots));
          };
      fewer = omega (arith, c.giving.invariant.fewer, cut);
      last = λ all h. rw left (last_given all slots waiting given some (c.giving.invariant.last all h));
      waiting = c.giving.invariant.waiting;
      size = c.in_ok-take_all.ensures.size ∙ c.giving.invariant.size;
    }
