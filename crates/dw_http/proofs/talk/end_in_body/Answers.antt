use Rattle.std.proofs.Common.{◌≡◌}
use Rattle.std.specs.Prelude.{Some}
use Rattle.dw_http.specs.Messages.{bad}
use Rattle.dw_http.specs.declared.intake.Stop.TheVariants.{Ended, TooMuch, ReadFault}
use Rattle.dw_http.specs.declared.why.HttpWhy.TheVariants.{Cut}
use Rattle.dw_http.proofs.Over.{refused, concludes_at_end, failed, spent}
use Rattle.dw_http.proofs.Ends.{cut_in_body, open_body}
use Rattle.dw_http.proofs.talk.end_in_body.Goals as goal

pub returns-in-Some-Ended : goal.returns-in-Some-Ended
returns-in-Some-Ended g c =
    let stop : c.args.intake.now.stop ≡ Some Ended = cc in
    let ends = cut_in_body c.args.intake.now.bytes c.args.head c.args.body c.requires.head c.requires.short in
    λ before start asks s. refused g.H.Service.answers g.H.Service.stays before start asks c.args.intake.now (g.L.Link.meaning c.args.link.now) c.args.service.now Cut c.refuse.result (g.L.Link.meaning c.refuse.new.link) s (concludes_at_end g.H.Service.answers g.H.Service.stays before start asks c.args.intake.now (g.L.Link.meaning c.args.link.now) c.args.service.now (bad Cut) s stop ends) c.refuse.ensures.refuses

pub returns-in-Some-ReadFault : goal.returns-in-Some-ReadFault
returns-in-Some-ReadFault g c =
    let stop : c.args.intake.now.stop ≡ Some ReadFault = cc in
    let ends = cut_in_body c.args.intake.now.bytes c.args.head c.args.body c.requires.head c.requires.short in
    λ before start asks s. failed g.H.Service.answers g.H.Service.stays before start asks c.args.intake.now (g.L.Link.meaning c.args.link.now) c.args.service.now (bad Cut) stop ends s

pub returns-in-Some-TooMuch : goal.returns-in-Some-TooMuch
returns-in-Some-TooMuch g c =
    let stop : c.args.intake.now.stop ≡ Some TooMuch = cc in
    λ before start asks s. spent g.H.Service.answers g.H.Service.stays before start asks c.args.intake.now (g.L.Link.meaning c.args.link.now) c.args.service.now stop (open_body c.args.intake.now.bytes c.args.head c.args.body c.requires.head c.requires.short) s
