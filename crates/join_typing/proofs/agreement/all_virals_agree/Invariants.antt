use Rattle.std.proofs.Common.{◌≡◌, drop}
use Rattle.data_set_trees.specs.Joins.{all_virals_agree}
use Rattle.join_typing.proofs.agreement.all_virals_agree.Given as goal

abbrev pub invariant-loop-i : goal.invariant-loop-i
invariant-loop-i l = all_virals_agree l.structures ≡ all_virals_agree (drop l.i l.structures)
