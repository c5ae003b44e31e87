use Rattle.dw_scan.proofs.Allowed as lemmas
use Rattle.dw_scan.proofs.laws.answers_are_candidates.Goals as goal

pub returns : goal.returns
returns c = lemmas.answers_are_candidates
