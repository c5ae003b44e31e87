use Rattle.dw_scan.proofs.WorldSeen as lemmas
use Rattle.dw_scan.proofs.laws.answers_are_seen.Goals as goal

pub returns : goal.returns
returns c = lemmas.they_answer
