use Rattle.std.proofs.Common.{Some, ap, sym, ◌∙◌}
use Rattle.dw_audit.proofs.StoodFor.{world_is}
use Rattle.dw_audit.proofs.Judging.{sound_is}
use Rattle.dw_audit.proofs.auditing.audit.Goals as goal

pub returns-clause-world : goal.returns-clause-world
returns-clause-world g c t told sound = record {
  world = world_is t;
  tables = c.judge.ensures.same ∙ told ∙ ap Some (sym (sound_is t c.in_ok-verdict.verdict (c.in_ok-verdict.ensures.verdict t told) sound));
}
