use Rattle.std.proofs.Common.{List, ap, ◌≡◌, ◌≤◌, ◌<◌, ◌+◌, drop, length, length-drop, Option, sym, ◌∙◌, subst, arith}
use Rattle.dw_outside.specs.declared.cell.Put.{Put}
use Rattle.dw_outside.specs.Tables.{applied}
use Rattle.dw_outside.specs.Disks.{DiskModel, Now}
use Rattle.dw_journal.specs.Reading.{ShowsFrom}
use Rattle.dw_journal.specs.Next.{IsNext, is_within}
use Rattle.dw_journal.specs.declared.reading.Next.{Next}
use Rattle.dw_journal.specs.declared.reading.Next.TheVariants.{Frame}
use Rattle.dw_journal.proofs.Batches.{frame_read}
use Rattle.dw_journal.proofs.reading.read_frames.Goals as goal

pub loop-place-preserved : goal.loop-place-preserved
loop-place-preserved g c =
    let m = g.D.Disk.model c.args.disk.now in
    let disk = g.D.Disk.model c.loop-place.disk in
    let place = c.loop-place.place in
    let puts = c.in-Frame.puts in
    let taken = c.in-Frame.taken in
    let start = c.next_frame.new.start in
    let items = c.next_frame.new.buf.items in
    let invariant = c.loop-place.invariant in
    let within : is_within (Frame puts taken) (length (drop start items)) = subst (λ (n : Next). is_within n (length (drop start items))) c.in-Frame.is c.in_ok-next_frame.ensures.taken in
    let framed : Now (λ s. IsNext (Frame puts taken) (drop place s.seen)) disk = subst (λ (n : Next). Now (λ s. IsNext n (drop place s.seen)) disk) c.in-Frame.is c.in_ok-next_frame.ensures.next in
    let there : Now (λ s. IsNext (Frame puts taken) (drop place s.seen)) m = subst (λ (n : Option DiskModel). Now (λ s. IsNext (Frame puts taken) (drop place s.seen)) n) invariant.same framed in
    let shown : Now (ShowsFrom place (drop start items)) m = subst (λ (n : Option DiskModel). Now (ShowsFrom place (drop start items)) n) invariant.same c.in_ok-next_frame.ensures.shows in
    let both = frame_read m c.args.size place taken c.saturating_add-place.result start items c.loop-place.store c.apply.new.self puts.items (omega arith) c.requires.size invariant.read there shown (omega (arith, within.1)) (c.in_ok-apply-in-Frame.ensures.ok ∙ ap (λ (ps : List Put). applied ps c.loop-place.store) c.deref.ensures.value) c.saturating_add-place.ensures in
    record {
      within = omega (arith, within.1, length-drop start items);
      same = c.in_ok-next_frame.ensures.same ∙ invariant.same;
      counted = omega (arith, c.in_ok-next_frame.ensures.counted, invariant.counted);
      shows = subst (λ (n : Option DiskModel). Now (ShowsFrom c.saturating_add-place.result (drop (start + taken) items)) n) (sym (c.in_ok-next_frame.ensures.same ∙ invariant.same)) both.1;
      read = both.0;
    }
