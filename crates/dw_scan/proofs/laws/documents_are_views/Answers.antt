use Rattle.dw_scan.proofs.WorldViews as lemmas
use Rattle.dw_scan.proofs.laws.documents_are_views.Goals as goal

pub returns : goal.returns
returns c = lemmas.documents_are_views
