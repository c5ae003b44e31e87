use Rattle.std.proofs.Common.{◌≡◌, true, false}
use Rattle.std.specs.Prelude.{Some, None}
use Rattle.dw_http.specs.Messages.{bad}
use Rattle.dw_http.specs.Lines.{is_large}
use Rattle.dw_http.specs.declared.intake.Stop.TheVariants.{TooMuch, ReadFault}
use Rattle.dw_http.specs.declared.why.HttpWhy.TheVariants.{Large}
use Rattle.dw_http.proofs.Over.{refused, concludes_so_far, failed, spent}
use Rattle.dw_http.proofs.Ends.{ends_somehow, open_head, large_more, long_of}
use Rattle.dw_http.proofs.talk.end_in_head.Goals as goal

pub returns-in-Some-ReadFault : goal.returns-in-Some-ReadFault
returns-in-Some-ReadFault g c =
    let stop : c.args.intake.now.stop ≡ Some ReadFault = cc in
    let ends = ends_somehow c.args.intake.now.bytes c.requires.none in
    λ before start asks s. failed g.H.Service.answers g.H.Service.stays before start asks c.args.intake.now (g.L.Link.meaning c.args.link.now) c.args.service.now ends.0 stop ends.1 s

pub returns-then-too_large : goal.returns-then-too_large
returns-then-too_large g c =
    let large : is_large c.args.intake.now.bytes ≡ true = cc in
    λ before start asks s. refused g.H.Service.answers g.H.Service.stays before start asks c.args.intake.now (g.L.Link.meaning c.args.link.now) c.args.service.now Large c.refuse.result (g.L.Link.meaning c.refuse.new.link) s (concludes_so_far g.H.Service.answers g.H.Service.stays before start asks c.args.intake.now (g.L.Link.meaning c.args.link.now) c.args.service.now (bad Large) s (λ more. large_more c.args.intake.now.bytes more large c.requires.none)) c.refuse.ensures.refuses

pub returns-in-None : goal.returns-in-None
returns-in-None g c =
    let none : c.args.intake.now.stop ≡ None = cc in
    let large = long_of c.args.intake.now.stop (is_large c.args.intake.now.bytes ≡ true) none c.requires.waited in
    λ before start asks s. refused g.H.Service.answers g.H.Service.stays before start asks c.args.intake.now (g.L.Link.meaning c.args.link.now) c.args.service.now Large c.refuse-in-None.result (g.L.Link.meaning c.refuse-in-None.new.link) s (concludes_so_far g.H.Service.answers g.H.Service.stays before start asks c.args.intake.now (g.L.Link.meaning c.args.link.now) c.args.service.now (bad Large) s (λ more. large_more c.args.intake.now.bytes more large c.requires.none)) c.refuse-in-None.ensures.refuses

pub returns-else-too_large : goal.returns-else-too_large
returns-else-too_large g c =
    let stop : c.args.intake.now.stop ≡ Some TooMuch = cc in
    let small : is_large c.args.intake.now.bytes ≡ false = cc in
    λ before start asks s. spent g.H.Service.answers g.H.Service.stays before start asks c.args.intake.now (g.L.Link.meaning c.args.link.now) c.args.service.now stop (open_head c.args.intake.now.bytes c.requires.none small) s
