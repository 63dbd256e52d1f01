use Rattle.std.proofs.Common.{Bool, [], ◌∷◌, ap, sym, ◌∙◌}
use Rattle.scalar_trees.specs.declared.typing.stop.Fault.TheVariants.{WrongType}
use Rattle.data_set_trees.specs.clauses.Clauses.{demands}
use Rattle.data_set_trees.specs.declared.times.time.CheckedTime.TheVariants as time
use Rattle.data_set_trees.proofs.times.Given.{gives_structures}
use Rattle.time_typing.proofs.Checked.{time_is}
use Rattle.time_typing.proofs.operators.time_typed.Goals as goal

pub returns-clause-ok : goal.returns-clause-ok
returns-clause-ok c =
    let place = c.args.place in
    time_is c.args.function place c.args.components.now c.in_ok-period.period c.in_ok-demands.field-0 c.in_ok-result_fits.field-0
    (ap (λ (b : Bool). demands place ((b, WrongType) ∷ [])) (sym c.takes_kinds-numeric.ensures) ∙ c.in_ok-demands.ensures.ok)
    c.in_ok-period.ensures.ok
    c.in_ok-result_fits.ensures.ok

pub returns-clause-structure : goal.returns-clause-structure
returns-clause-structure c = λ is. gives_structures c.args.place c.args.components.now (time.Of c.args.function c.in_ok-period.period) is (returns-clause-ok c)
