use Rattle.dw_http.proofs.Over.{wanted_still}
use Rattle.dw_http.proofs.Turned.{turns_after}
use Rattle.dw_http.proofs.talk.take_message.Goals as goal

pub returns-in-Err : goal.returns-in-Err
returns-in-Err g c = λ before start asks s.
    wanted_still g.H.Service.answers g.H.Service.stays before start asks c.args.intake.now (g.L.Link.meaning c.args.link.now) (g.L.Link.meaning c.gather.new.link) c.args.service.now c.in-Err.ensures.writing s

pub returns-in-Ok : goal.returns-in-Ok
returns-in-Ok g c =
    turns_after g.H.Service.answers g.H.Service.stays (g.L.Link.meaning c.args.link.now) c.args.intake.now c.gather.new.intake (g.L.Link.meaning c.gather.new.link) c.args.service.now c.answer_message.result c.answer_message.new.intake (g.L.Link.meaning c.answer_message.new.link) c.answer_message.new.service c.in-Ok.ensures.goes c.answer_message.ensures
