use Rattle.std.proofs.Common.{◌≡◌, ◌+◌, ◌⊎◌, ℕ, List, [], ◌∷◌, ◌++◌, length, drop, take, sym, ap, subst, ◌∙◌, arith, length-drop}
use Rattle.std.specs.Io.KnownBytes.{append_known}
use Rattle.dw_http.specs.Held.{Held}
use Rattle.dw_http.specs.Messages.{Ask, Takes}
use Rattle.dw_http.specs.Turns.{SoFar}
use Rattle.dw_http.proofs.Over.{wanted_next, wrote_less, done_next}
use Rattle.dw_http.proofs.Soon.{so_far_next}
use Rattle.dw_http.proofs.talk.answer_message.Goals as goal

pub returns-in-Err : goal.returns-in-Err
returns-in-Err g c = λ before start asks s.
    wanted_next g.H.Service.answers g.H.Service.stays before start asks c.args.intake.now (g.L.Link.meaning c.args.link.now) c.args.service.now c.answer.new.service (drop (c.args.head + c.args.body) c.args.intake.now.bytes) s
    (subst (λ (bytes : List ℕ). (c.answer.new.service ≡ c.args.service.now) ⊎ ((ask : Ask) × Takes bytes ask (drop (c.args.head + c.args.body) bytes) × (g.H.Service.stays c.args.service.now c.answer.new.service ⊎ ((text : List ℕ) × g.H.Service.answers c.args.service.now ask text c.answer.new.service)))) c.as_slice-2.ensures c.in-Err.ensures.err)

pub returns-in-Err-send : goal.returns-in-Err-send
returns-in-Err-send g c = λ before start asks s.
    let a = subst (λ (bytes : List ℕ). (ask : Ask) × Takes bytes ask (drop (c.args.head + c.args.body) bytes) × g.H.Service.answers c.args.service.now ask c.in-Ok.answered.response c.answer.new.service × (c.in-Ok.answered.close ≡ ask.close)) c.as_slice-2.ensures c.in-Ok.ensures.ok in
    wrote_less g.H.Service.answers g.H.Service.stays before start asks c.args.intake.now (g.L.Link.meaning c.args.link.now) c.args.service.now (drop (c.args.head + c.args.body) c.args.intake.now.bytes) a.0 c.in-Ok.answered.response c.in-Err-send.ensures.begun.0 (g.L.Link.meaning c.send.new.self) c.answer.new.service s a.1 a.2 c.in-Err-send.ensures.failed
    (c.in-Err-send.ensures.begun.1 ∙ ap (λ (xs : List ℕ). append_known (g.L.Link.meaning c.args.link.now).writing.bytes (take c.in-Err-send.ensures.begun.0 xs)) c.as_slice-in-Ok.ensures)

pub returns-then-answered : goal.returns-then-answered
returns-then-answered g c = λ before start asks s.
    let a = subst (λ (bytes : List ℕ). (ask : Ask) × Takes bytes ask (drop (c.args.head + c.args.body) bytes) × g.H.Service.answers c.args.service.now ask c.in-Ok.answered.response c.answer.new.service × (c.in-Ok.answered.close ≡ ask.close)) c.as_slice-2.ensures c.in-Ok.ensures.ok in
    done_next g.H.Service.answers g.H.Service.stays before start asks c.args.intake.now (g.L.Link.meaning c.args.link.now) c.args.service.now (drop (c.args.head + c.args.body) c.args.intake.now.bytes) a.0 c.in-Ok.answered.response (g.L.Link.meaning c.send.new.self) c.answer.new.service s a.1 (sym a.3 ∙ c.if-answered.true) a.2
    (c.in-Ok-send.ensures.bytes ∙ ap (λ (xs : List ℕ). append_known (g.L.Link.meaning c.args.link.now).writing.bytes xs) c.as_slice-in-Ok.ensures)

pub returns : goal.returns
returns g c = λ before start asks s.
    let a = subst (λ (bytes : List ℕ). (ask : Ask) × Takes bytes ask (drop (c.args.head + c.args.body) bytes) × g.H.Service.answers c.args.service.now ask c.in-Ok.answered.response c.answer.new.service × (c.in-Ok.answered.close ≡ ask.close)) c.as_slice-2.ensures c.in-Ok.ensures.ok in (
      a.0,
      subst (λ (h : Held). SoFar g.H.Service.answers g.H.Service.stays before start (asks ++ a.0 ∷ []) h (g.L.Link.meaning c.send.new.self) c.answer.new.service) (sym c.pass.ensures)
          (so_far_next g.H.Service.answers g.H.Service.stays before start asks c.args.intake.now (g.L.Link.meaning c.args.link.now) c.args.service.now (c.args.head + c.args.body) (g.L.Link.meaning c.send.new.self) c.answer.new.service a.0 c.in-Ok.answered.response s a.1 (sym a.3 ∙ c.if-answered.false) a.2
          (c.in-Ok-send.ensures.bytes ∙ ap (λ (xs : List ℕ). append_known (g.L.Link.meaning c.args.link.now).writing.bytes xs) c.as_slice-in-Ok.ensures) c.in-Ok-send.ensures.counted c.in-Ok-send.ensures.reading),
      omega (arith, ap (λ (h : Held). length h.bytes) c.pass.ensures, ap (λ (h : Held). h.budget) c.pass.ensures, length-drop (c.args.head + c.args.body) c.args.intake.now.bytes, c.requires.head.some, c.if-as_slice-head.false, ap length c.as_slice.ensures),
    )
