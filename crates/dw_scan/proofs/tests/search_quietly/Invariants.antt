use Rattle.dw_scan.proofs.tests.search_quietly.Given as goal

abbrev pub ghosts-search_counted : goal.ghosts-search_counted
ghosts-search_counted g a = record { name = a.blank.name; parts = a.blank.parts }
