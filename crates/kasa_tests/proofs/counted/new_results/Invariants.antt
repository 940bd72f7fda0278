use Rattle.kasa_tests.proofs.counted.new_results.Given as goal

abbrev pub ghosts-counted_new_results : goal.ghosts-counted_new_results
ghosts-counted_new_results a = record { name = a.blank.name; parts = a.blank.parts }
