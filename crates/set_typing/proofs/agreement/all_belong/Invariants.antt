use Rattle.std.proofs.Common.{◌≡◌, drop}
use Rattle.std.specs.List.{list_all}
use Rattle.set_typing.specs.Conditionals.{belongs}
use Rattle.set_typing.proofs.agreement.all_belong.Given as goal

abbrev pub invariant-loop-branch : goal.invariant-loop-branch
invariant-loop-branch l = list_all (belongs l.condition) l.branches ≡ list_all (belongs l.condition) (drop l.branch-index l.branches)
