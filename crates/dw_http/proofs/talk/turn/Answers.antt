use Rattle.dw_http.specs.Messages.{bad}
use Rattle.dw_http.proofs.Over.{refused, concludes_so_far, refused_ends, never_ends, wanted_still}
use Rattle.dw_http.proofs.Soon.{so_far_goes}
use Rattle.dw_http.proofs.Turned.{turns_after, ends_after}
use Rattle.dw_http.specs.declared.why.HttpWhy.TheVariants.{Head}
use Rattle.dw_http.proofs.talk.turn.Goals as goal

pub returns-in-Err : goal.returns-in-Err
returns-in-Err g c = λ before start asks s.
    wanted_still g.H.Service.answers g.H.Service.stays before start asks c.args.intake.now (g.L.Link.meaning c.args.link.now) (g.L.Link.meaning c.find.new.link) c.args.service.now c.in-Err.ensures.writing s

pub returns-in-Ok-Whole : goal.returns-in-Ok-Whole
returns-in-Ok-Whole g c =
    turns_after g.H.Service.answers g.H.Service.stays (g.L.Link.meaning c.args.link.now) c.args.intake.now c.find.new.intake (g.L.Link.meaning c.find.new.link) c.args.service.now c.take_message.result c.take_message.new.intake (g.L.Link.meaning c.take_message.new.link) c.take_message.new.service c.in-Ok-Whole.ensures.goes c.take_message.ensures

pub returns-in-Ok-Refused : goal.returns-in-Ok-Refused
returns-in-Ok-Refused g c = λ before start asks s.
    let s2 = so_far_goes g.H.Service.answers g.H.Service.stays before start asks c.args.intake.now (g.L.Link.meaning c.args.link.now) c.args.service.now c.find.new.intake (g.L.Link.meaning c.find.new.link) c.in-Ok-Refused.ensures.goes s in
    let looks = rw c.in-Ok-Refused.field-0-is at c.in-Ok-Refused.ensures.looks in
    refused g.H.Service.answers g.H.Service.stays before start asks c.find.new.intake (g.L.Link.meaning c.find.new.link) c.args.service.now c.in-Ok-Refused.why c.refuse.result (g.L.Link.meaning c.refuse.new.link) s2 (concludes_so_far g.H.Service.answers g.H.Service.stays before start asks c.find.new.intake (g.L.Link.meaning c.find.new.link) c.args.service.now (bad c.in-Ok-Refused.why) s2 (λ more. refused_ends c.find.new.intake.bytes more looks.0 looks.1 c.in-Ok-Refused.why looks.2 looks.3)) c.refuse.ensures.refuses

pub returns-in-Ok-Never : goal.returns-in-Ok-Never
returns-in-Ok-Never g c = λ before start asks s.
    let s2 = so_far_goes g.H.Service.answers g.H.Service.stays before start asks c.args.intake.now (g.L.Link.meaning c.args.link.now) c.args.service.now c.find.new.intake (g.L.Link.meaning c.find.new.link) c.in-Ok-Never.ensures.goes s in
    let looks = rw c.in-Ok-Never.field-0-is at c.in-Ok-Never.ensures.looks in
    refused g.H.Service.answers g.H.Service.stays before start asks c.find.new.intake (g.L.Link.meaning c.find.new.link) c.args.service.now Head c.refuse-in-Ok-Never.result (g.L.Link.meaning c.refuse-in-Ok-Never.new.link) s2 (concludes_so_far g.H.Service.answers g.H.Service.stays before start asks c.find.new.intake (g.L.Link.meaning c.find.new.link) c.args.service.now (bad Head) s2 (λ more. never_ends c.find.new.intake.bytes more looks.0 looks.1)) c.refuse-in-Ok-Never.ensures.refuses

pub returns-in-Ok-NotYet : goal.returns-in-Ok-NotYet
returns-in-Ok-NotYet g c =
    ends_after g.H.Service.answers g.H.Service.stays (g.L.Link.meaning c.args.link.now) c.args.intake.now c.find.new.intake (g.L.Link.meaning c.find.new.link) c.args.service.now c.end_in_head.result (g.L.Link.meaning c.end_in_head.new.link) c.args.service.now c.in-Ok-NotYet.ensures.goes c.end_in_head.ensures
