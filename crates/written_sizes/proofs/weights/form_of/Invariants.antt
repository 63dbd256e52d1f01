use Rattle.std.proofs.Common.{◌≡◌, drop}
use Rattle.written_sizes.specs.Weights.{form_of}
use Rattle.written_sizes.proofs.weights.form_of.Given as goal

abbrev pub invariant-loop-i : goal.invariant-loop-i
invariant-loop-i l = form_of l.operators l.forms l.name ≡ form_of (drop l.i l.operators) (drop l.i l.forms) l.name
