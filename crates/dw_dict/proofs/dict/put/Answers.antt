use Rattle.std.proofs.Common.{string_bytes, ap, ◌∙◌}
use Rattle.std.specs.FinMap as map
use Rattle.dw_dict.specs.Dictionary.{of_entries}
use Rattle.dw_dict.proofs.Entries.{one_set}
use Rattle.dw_dict.proofs.dict.put.Goals.{in-Ok, in-Err}
use Rattle.dw_dict.proofs.dict.put.Goals as goal

pub returns-clause-ok : goal.returns-clause-ok
returns-clause-ok c = elim c.match-insert.branch [
  | in-Ok w ↦ rw w.result-is
      (one_set c.args.rules.now c.insert.new.self (string_bytes c.in_ok-name.name) c.args.rule w.in-Ok.ensures.updates
      ∙ ap (λ k. map.insert (of_entries c.args.rules.now.entries) k c.args.rule) c.in_ok-name.ensures.ok)
  | in-Err w ↦ rw w.result-is tt
]
