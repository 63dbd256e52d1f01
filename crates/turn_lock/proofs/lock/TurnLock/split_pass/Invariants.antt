use Rattle.turn_lock.proofs.lock.TurnLock.split_pass.Given as goal

abbrev pub ghosts-cut : goal.ghosts-cut
ghosts-cut g a = record { share = a.share }
