use Rattle.std.proofs.Common.{◌≡◌, ◌∷◌, true, sym, ◌∙◌}
use Rattle.std.specs.Prelude.{is_some}
use Rattle.std.specs.Vec.Iter.{into_iter_items}
use Rattle.dw_page.specs.Placed.{Placed}
use Rattle.dw_page.proofs.PlacedLemmas.{placed_open, scans_left, some_outs, placed_end, placed_rest, placed_agree, placed_shards}
use Rattle.dw_page.proofs.hand.hand_out.Goals as goal

pub loop-slot-preserved-in_ok-push : goal.loop-slot-preserved-in_ok-push
loop-slot-preserved-in_ok-push c =
    let ask = c.args.ask.now in
    let inv = c.loop-slot.invariant in
    let left = into_iter_items c.loop-slot.slot-iterator in
    let rest = into_iter_items c.next.new.self in
    let slot = c.in-Some.slot in
    let outs = c.loop-slot.outs.items in
    let others = c.remove.new.self.items in
    let next : left ≡ slot ∷ rest = c.in-Some.ensures.steps.0 in
    let held : is_some slot.tablet ≡ true = sym c.is_some.ensures ∙ c.if-is_some.true in
    record {
      scans = scans_left ask left rest slot outs others next held c.remove.ensures.items inv.scans;
      placed = rw c.in_ok-push.ensures.items
          (placed_open c.args.slots.items left rest c.loop-slot.news.items c.args.outs.items outs others slot c.in_ok-accept.field-0 c.in_ok-batch.batch
          next held (some_outs ask left rest slot outs next held inv.scans) c.in_ok-batch.ensures.value c.remove.ensures.items c.in_ok-accept.ensures inv.placed);
    }

pub returns : goal.returns
returns c =
    let ask = c.args.ask.now in
    let slots = c.args.slots.items in
    let outs = c.args.outs.items in
    let news = c.loop-slot.news.items in
    let rest = c.loop-slot.slot-iterator.rest in
    let placed : Placed slots outs news = placed_end slots rest.items news outs c.loop-slot.outs.items rest.len c.loop-slot.invariant.placed rest.ok.0 c.in-None.ensures.steps.0 in
    record {
      placed = placed;
      shards = placed_shards ask slots news outs c.requires placed;
      rest = λ w a. placed_rest ask w slots news outs c.requires a placed;
      agree = λ w a. placed_agree ask w slots news outs c.requires a placed;
    }
