use Rattle.kasa_tests.proofs.counted.least_tables.Given as goal

abbrev pub ghosts-counted_least_tables : goal.ghosts-counted_least_tables
ghosts-counted_least_tables a = record { name = a.blank.name; parts = a.blank.parts }
