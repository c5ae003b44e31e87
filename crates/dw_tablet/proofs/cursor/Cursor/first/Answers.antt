use Rattle.std.proofs.Common.{rules}
use Rattle.dw_tablet.specs.Values.{shown_by}
use Rattle.dw_tablet.specs.Walks.{place_at, end_at}
use Rattle.dw_tablet.specs.Cursors.{known_keys}
use Rattle.dw_tablet.proofs.Firsts.{first_read}
use Rattle.dw_tablet.proofs.cursor.Cursor.first.Goals as goal

pub returns : goal.returns
returns c =
    let s = c.args.self.now in
    first_read c.value_of.result (λ v. (v.0.now, v.1)) (shown_by s.asked) s.keys.now (known_keys s.tablet.now (place_at s) (end_at s)) c.in_ok-key.key.now s.known (search rules) c.value_of.ensures
