use Rattle.value_cases.proofs.held.answer.Given as goal

abbrev pub ghosts-steps_text : goal.ghosts-steps_text
ghosts-steps_text a = record { name = a.blank.name; parts = a.blank.parts }
