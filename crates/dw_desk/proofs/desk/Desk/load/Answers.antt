use Rattle.std.proofs.Common.{◌∙◌}
use Rattle.dw_desk.proofs.DeskLemmas.{nobody_kept, all_nobody, none_marked_yet}
use Rattle.dw_desk.proofs.desk.Desk.load.Goals as goal

pub returns-clause-stands : goal.returns-clause-stands
returns-clause-stands g c = λ w world told.
    let start = c.in_ok-dict.ensures.said w world told in
    let none = c.new.ensures.empty in (
      record {
        holds = record {
          tables = c.in_ok-dict.ensures.same ∙ told;
          lawful = world;
          rules = record { dict = start.dict; grants = start.grants; last = start.last };
        };
        queries = all_nobody w c.new.result none;
        marks = none_marked_yet w c.new.result none;
      },
      nobody_kept w c.new.result none,
    )
