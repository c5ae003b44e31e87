use Rattle.dw_tablet.specs.Walks.{place_at, end_at, shows}
use Rattle.dw_tablet.proofs.Shown.{gap_first}
use Rattle.dw_tablet.proofs.cursor.Cursor.gap_is_first.Goals as goal

pub returns : goal.returns
returns c = let s = c.args.self.now in gap_first s.tablet.now (place_at s) (end_at s) (shows s) c.spans-spans.ensures.apart
