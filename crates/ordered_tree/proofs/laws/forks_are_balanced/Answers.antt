use Rattle.std.proofs.Common.{◌≡◌, ◌+◌, ◌∷◌, length, arith, length-append}
use Rattle.std.specs.Arc.{arc_value}
use Rattle.ordered_tree.proofs.laws.forks_are_balanced.Goals as goal

pub returns-clause-left : goal.returns-clause-left
returns-clause-left g c fork is =
    let size : fork.size ≡ length fork.left + length fork.right + 1 = omega (arith, is.size, length-append fork.left (arc_value fork.item ∷ fork.right)) in
    (length fork.right, size, is.balanced)

pub returns-clause-right : goal.returns-clause-right
returns-clause-right g c fork is =
    let size : fork.size ≡ length fork.right + length fork.left + 1 = omega (arith, is.size, length-append fork.left (arc_value fork.item ∷ fork.right)) in
    (length fork.left, size, (is.balanced.1, is.balanced.0))
