use Rattle.std.proofs.Common.{◌≡◌, ◌∷◌, ◌++◌, [], sym, ◌∙◌, drop, rules}
use Rattle.std.specs.Prelude.{filter_map}
use Rattle.std.specs.Option.{option_map}
use Rattle.dw_tablet.specs.Places.{between}
use Rattle.dw_tablet.specs.Values.{shown_by}
use Rattle.dw_tablet.specs.Walks.{place_at, end_at, left}
use Rattle.dw_tablet.specs.Cursors.{from_first, known_keys}
use Rattle.dw_tablet.proofs.Ranges.{passed_in}
use Rattle.dw_tablet.proofs.Shown.{shown_next, shown_before}
use Rattle.dw_tablet.proofs.Firsts.{head_is}
use Rattle.dw_tablet.proofs.cursor.Cursor.next.Goals as goal

pub cursor_at-requires : goal.cursor_at-requires
cursor_at-requires c =
    let s = c.args.self.now in
    let f = shown_by s.asked in
    let key = c.code.result.now in
    let front = head_is s.keys.now key (search rules) in
    let is : from_first f (known_keys s.tablet.now (place_at s) (end_at s)) ≡ key ∷ drop 1 s.keys.now = sym s.known ∙ front in
    passed_in s.tablet.now.shard s.asked.field.now (option_map (λ v. v.now) s.asked.only) key (shown_before s.tablet.now (place_at s) (end_at s) f key (drop 1 s.keys.now) is)

pub returns-in-Some-clause-left : goal.returns-in-Some-clause-left
returns-in-Some-clause-left c =
    let s = c.args.self.now in
    let f = shown_by s.asked in
    let key = c.code.result.now in
    let front = head_is s.keys.now key (search rules) in
    let is : from_first f (known_keys s.tablet.now (place_at s) (end_at s)) ≡ key ∷ drop 1 s.keys.now = sym s.known ∙ front in
    λ content g.
    let same : left c.cursor_at.result content ≡ filter_map (shown_by s.asked) (between (key ++ 0 ∷ []) (end_at s) content) = search rules in
    same ∙ shown_next s.tablet.now content (place_at s) (end_at s) f c.spans-spans.ensures.apart g s.within key (drop 1 s.keys.now) is
