use Rattle.kasa_tests.proofs.counted.results.Given as goal

abbrev pub ghosts-counted_results : goal.ghosts-counted_results
ghosts-counted_results a = record { name = a.blank.name; parts = a.blank.parts }
