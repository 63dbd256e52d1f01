use Rattle.viral_attributes.proofs.Highest.{IsBest}
use Rattle.viral_attributes.proofs.ranks.combine.Given as goal

abbrev pub invariant-loop-i : goal.invariant-loop-i
invariant-loop-i l = IsBest l.ranks l.values l.i l.place l.highest
