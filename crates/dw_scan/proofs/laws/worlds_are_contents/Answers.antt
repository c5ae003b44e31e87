use Rattle.dw_scan.proofs.WorldSeen as lemmas
use Rattle.dw_scan.proofs.laws.worlds_are_contents.Goals as goal

pub returns : goal.returns
returns c = lemmas.worlds_are_contents
