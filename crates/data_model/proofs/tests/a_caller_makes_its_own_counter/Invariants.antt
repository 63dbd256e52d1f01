use Rattle.data_model.proofs.tests.a_caller_makes_its_own_counter.Given as goal

abbrev pub ghosts-walk : goal.ghosts-walk
ghosts-walk a = record { name = a.blank.name; parts = a.blank.parts }
