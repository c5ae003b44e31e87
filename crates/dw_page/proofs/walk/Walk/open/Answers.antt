use Rattle.std.proofs.Common.{refl, ◌∙◌, arith}
use Rattle.std.proofs.lemmas.Grind.{common_steps}
use Rattle.dw_page.proofs.NearLemmas.{open_moved}
use Rattle.dw_page.proofs.OpenLemmas.{tablet_of_world}
use Rattle.dw_page.proofs.ReadsLemmas.{opens_one}
use Rattle.dw_page.proofs.RemainsLemmas.{remains_opened, good_opened, joined_same}
use Rattle.dw_page.proofs.walk.Walk.open.Goals as goal

pub opening-preserved : goal.opening-preserved
opening-preserved g c =
    let inv = c.opening.invariant in
    let slots = c.opening.self.slots.items in
    let waiting = c.opening.self.waiting.items in
    let rest = c.pop_front.new.self.items in
    let tablet = c.in_ok-tablet.tablet in
    let read = c.in_ok-tablet.ensures in
    let pushed = c.in_ok-push_slot.ensures.ok in
    record {
      good = λ ask w page is h.
          let before = inv.good ask w page is h in
          let of_world = tablet_of_world (g.K.Keeper.told c.args.keeper.now) ask w tablet _ is read.shard (read.agrees w (inv.told ∙ is.told)) in
          record {
            joined = rw pushed (joined_same page _ _ _ (remains_opened ask w slots waiting rest _ tablet c.in-Some.ensures.items c.new.ensures refl) before.joined);
            slots = rw pushed (good_opened ask w slots _ tablet c.new.ensures refl of_world before.slots);
          };
      few = grind (arith, common_steps);
      opens = opens_one _ _ _ _ waiting rest _ inv.opens c.in-Some.ensures.items read.read;
      shards = rw pushed (open_moved slots waiting rest _ c.in-Some.ensures.items) ∙ inv.shards;
      gather = inv.gather;
      told = read.told ∙ inv.told;
      later = omega (arith, inv.later, read.later);
    }
