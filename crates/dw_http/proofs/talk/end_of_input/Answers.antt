use Rattle.std.proofs.Common.{◌≡◌, true, false, length, ◌==◌}
use Rattle.dw_http.specs.Messages.{bad}
use Rattle.dw_http.specs.Lines.{is_large}
use Rattle.dw_http.specs.declared.why.HttpWhy.TheVariants.{Cut, Large}
use Rattle.dw_http.proofs.Over.{refused, concludes_at_end}
use Rattle.dw_http.proofs.Ends.{ends_by, nonempty}
use Rattle.dw_http.proofs.talk.end_of_input.Goals as goal

pub returns-then-too_large : goal.returns-then-too_large
returns-then-too_large g c =
    let large : is_large c.args.intake.now.bytes ≡ true = cc in
    let some : (length c.args.intake.now.bytes == 0) ≡ false = cc in
    let ends = ends_by c.args.intake.now.bytes true (nonempty c.args.intake.now.bytes some) c.requires.none large in
    λ before start asks s. refused g.H.Service.answers g.H.Service.stays before start asks c.args.intake.now (g.L.Link.meaning c.args.link.now) c.args.service.now Large c.refuse.result (g.L.Link.meaning c.refuse.new.link) s (concludes_at_end g.H.Service.answers g.H.Service.stays before start asks c.args.intake.now (g.L.Link.meaning c.args.link.now) c.args.service.now (bad Large) s c.requires.ended ends) c.refuse.ensures.refuses

pub returns : goal.returns
returns g c =
    let large : is_large c.args.intake.now.bytes ≡ false = cc in
    let some : (length c.args.intake.now.bytes == 0) ≡ false = cc in
    let ends = ends_by c.args.intake.now.bytes false (nonempty c.args.intake.now.bytes some) c.requires.none large in
    λ before start asks s. refused g.H.Service.answers g.H.Service.stays before start asks c.args.intake.now (g.L.Link.meaning c.args.link.now) c.args.service.now Cut c.refuse-2.result (g.L.Link.meaning c.refuse-2.new.link) s (concludes_at_end g.H.Service.answers g.H.Service.stays before start asks c.args.intake.now (g.L.Link.meaning c.args.link.now) c.args.service.now (bad Cut) s c.requires.ended ends) c.refuse-2.ensures.refuses
