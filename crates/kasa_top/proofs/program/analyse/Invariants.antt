use Rattle.kasa_top.proofs.program.analyse.Given as goal

abbrev pub ghosts-solve_plans : goal.ghosts-solve_plans
ghosts-solve_plans g a = record { name = a.blank.name; parts = a.blank.parts }
