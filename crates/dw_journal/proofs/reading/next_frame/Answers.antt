use Rattle.std.proofs.Common.{◌≡◌, ℕ, ◌+◌, ◌≤◌, List, drop, length, Option, sym, ◌∙◌, ap, subst, arith}
use Rattle.dw_outside.specs.Disks.{DiskModel, Now}
use Rattle.dw_journal.specs.Reading.{ShowsFrom}
use Rattle.dw_journal.specs.Next.{IsNext}
use Rattle.dw_journal.proofs.Parsing.{next_now}
use Rattle.dw_journal.proofs.reading.next_frame.Goals as goal

pub returns-clause-next : goal.returns-clause-next
returns-clause-next g c =
    let m = g.D.Disk.model c.args.disk.now in
    let place = c.args.place in
    let few = c.min-few.result in
    let need = c.max-need.result in
    let first = c.rest_of.result.now in
    let second = c.rest_of-2.result.now in
    let one : first ≡ drop c.fill.new.start c.fill.new.buf.items = c.rest_of.ensures ∙ ap (drop c.fill.new.start) c.deref.ensures.value in
    let two : second ≡ drop c.fill-2.new.start c.fill-2.new.buf.items = c.rest_of-2.ensures ∙ ap (drop c.fill-2.new.start) c.deref-2.ensures.value in
    let shown : Now (ShowsFrom place (drop c.fill-2.new.start c.fill-2.new.buf.items)) m =
    subst (λ (n : Option DiskModel). Now (ShowsFrom place (drop c.fill-2.new.start c.fill-2.new.buf.items)) n) c.in_ok-fill.ensures.same c.in_ok-fill-2.ensures.shows in
    let reached : Now (λ s. place + need ≤ length s.seen → need ≤ length (drop c.fill-2.new.start c.fill-2.new.buf.items)) m =
    subst (λ (n : Option DiskModel). Now (λ s. place + need ≤ length s.seen → need ≤ length (drop c.fill-2.new.start c.fill-2.new.buf.items)) n) c.in_ok-fill.ensures.same c.in_ok-fill-2.ensures.enough in
    next_now m place c.args.left few c.wanted.result need first second (IsNext c.in_ok-parse.field-0) (omega (arith, c.min-few.ensures)) c.requires.some c.requires.left
    (subst (λ (l : List ℕ). Now (ShowsFrom place l) m) (sym one) c.in_ok-fill.ensures.shows)
    (subst (λ (l : List ℕ). Now (λ s. place + few ≤ length s.seen → few ≤ length l) m) (sym one) c.in_ok-fill.ensures.enough)
    c.wanted.ensures.left c.wanted.ensures.wanted (omega (arith, c.max-need.ensures))
    (subst (λ (l : List ℕ). Now (ShowsFrom place l) m) (sym two) shown)
    (subst (λ (l : List ℕ). Now (λ s. place + need ≤ length s.seen → need ≤ length l) m) (sym two) reached)
    c.in_ok-parse.ensures.next
