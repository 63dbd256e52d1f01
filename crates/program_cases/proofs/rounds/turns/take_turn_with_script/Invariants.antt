use Rattle.program_cases.proofs.rounds.turns.take_turn_with_script.Given as goal

abbrev pub ghosts-run_work : goal.ghosts-run_work
ghosts-run_work g a = record { name = a.blank.name; parts = a.blank.parts }
