use Rattle.std.proofs.Common.{Bool, [], ◌∷◌, ap, sym, ◌∙◌}
use Rattle.scalar_trees.specs.declared.typing.stop.Fault.TheVariants.{BadConstant}
use Rattle.data_set_trees.specs.clauses.Clauses.{demands}
use Rattle.data_set_trees.specs.declared.times.time.CheckedTime.TheVariants as time
use Rattle.data_set_trees.proofs.times.Given.{gives_structures}
use Rattle.time_typing.proofs.Checked.{shift_is}
use Rattle.time_typing.proofs.operators.shift_typed.Goals as goal

pub returns-clause-ok : goal.returns-clause-ok
returns-clause-ok c =
    let place = c.args.place in
    shift_is c.args.places place c.args.components.now c.in_ok-period.period c.in_ok-demands.field-0
    c.in_ok-period.ensures.ok
    (ap (λ (b : Bool). demands place ((b, BadConstant) ∷ [])) (sym c.is_near.ensures) ∙ c.in_ok-demands.ensures.ok)

pub returns-clause-structure : goal.returns-clause-structure
returns-clause-structure c = λ is. gives_structures c.args.place c.args.components.now (time.Shift c.args.places c.in_ok-period.period) is (returns-clause-ok c)
