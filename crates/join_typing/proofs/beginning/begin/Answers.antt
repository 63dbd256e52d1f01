use Rattle.std.proofs.Common.{◌≡◌, List, Result, Ok, map, ap, sym, ◌∙◌}
use Rattle.scalar_trees.specs.declared.typing.stop.Fault.TheVariants.{WrongStructure}
use Rattle.scalar_trees.specs.declared.typing.stop.Refusal.{Refusal}
use Rattle.scalar_trees.specs.typing.Steps.{◌>>=◌, or_refused}
use Rattle.operator_typing.proofs.Steps.{stops_same, stops_there, stops_after, fails_there, fails_after, goes_on}
use Rattle.data_set_trees.specs.declared.clauses.frame.Frame.{Frame}
use Rattle.data_set_trees.specs.declared.operand.DataSet.{DataSet}
use Rattle.data_set_trees.specs.Joins as meant
use Rattle.data_set_trees.specs.Sets.{all_data_sets}
use Rattle.join_typing.specs.declared.joining.Joining.{Joining}
use Rattle.join_typing.specs.Joining.{aliased, framed}
use Rattle.join_typing.proofs.beginning.begin.Goals as goal

pub returns-in_err-sets-clause-err : goal.returns-in_err-sets-clause-err
returns-in_err-sets-clause-err c =
    let f = c.args.function in
    let place = c.args.place in
    let found = or_refused (all_data_sets c.args.operands) WrongStructure place in
    let named = λ (ds : List DataSet). or_refused (meant.all_aliased c.args.aliases.now ds) WrongStructure place in
    let last = λ (ds : List DataSet) (os : List meant.Aliased). framed f place os >>= (λ frame. Ok (record { function = f; place = place; sets = ds; frame = frame })) in
    fails_there found (λ ds. named ds >>= last ds) c.from_residual.result c.in_err-sets.field-0.0 c.in_err-sets.ensures.err c.from_residual.ensures.1

pub returns-in_err-operands-clause-err : goal.returns-in_err-operands-clause-err
returns-in_err-operands-clause-err c =
    let f = c.args.function in
    let place = c.args.place in
    let found = or_refused (all_data_sets c.args.operands) WrongStructure place in
    let named = λ (ds : List DataSet). or_refused (meant.all_aliased c.args.aliases.now ds) WrongStructure place in
    let last = λ (ds : List DataSet) (os : List meant.Aliased). framed f place os >>= (λ frame. Ok (record { function = f; place = place; sets = ds; frame = frame })) in
    let sets = c.in_ok-sets.sets in
    let stop = c.in_err-operands.field-0.0 in
    let refuses = stops_same (named c.as_slice.result.now) (named sets) stop (ap named c.as_slice.ensures) c.in_err-operands.ensures.err in
    fails_after found (λ ds. named ds >>= last ds) sets c.from_residual-in_err-operands.result stop c.in_ok-sets.ensures.ok (stops_there (named sets) (last sets) stop refuses) c.from_residual-in_err-operands.ensures.1

pub returns-in_err-frame-clause-err : goal.returns-in_err-frame-clause-err
returns-in_err-frame-clause-err c =
    let f = c.args.function in
    let place = c.args.place in
    let found = or_refused (all_data_sets c.args.operands) WrongStructure place in
    let named = λ (ds : List DataSet). or_refused (meant.all_aliased c.args.aliases.now ds) WrongStructure place in
    let last = λ (ds : List DataSet) (os : List meant.Aliased). framed f place os >>= (λ frame. Ok (record { function = f; place = place; sets = ds; frame = frame })) in
    let sets = c.in_ok-sets.sets in
    let os = map aliased c.in_ok-operands.operands in
    let stop = c.in_err-frame.field-0.0 in
    let second = ap named (sym c.as_slice.ensures) ∙ c.in_ok-operands.ensures.ok in
    let same = ap (λ given. framed f place (map aliased given)) c.as_slice-2.ensures in
    let refuses = stops_same (framed f place (map aliased c.as_slice-2.result.now)) (framed f place os) stop same c.in_err-frame.ensures.err in
    fails_after found (λ ds. named ds >>= last ds) sets c.from_residual-in_err-frame.result stop c.in_ok-sets.ensures.ok
    (stops_after (named sets) (last sets) os stop second (stops_there (framed f place os) (λ frame. Ok (record { function = f; place = place; sets = sets; frame = frame })) stop refuses))
    c.from_residual-in_err-frame.ensures.1

pub returns-clause-ok : goal.returns-clause-ok
returns-clause-ok c =
    let f = c.args.function in
    let place = c.args.place in
    let found = or_refused (all_data_sets c.args.operands) WrongStructure place in
    let named = λ (ds : List DataSet). or_refused (meant.all_aliased c.args.aliases.now ds) WrongStructure place in
    let last = λ (ds : List DataSet) (os : List meant.Aliased). framed f place os >>= (λ frame. Ok (record { function = f; place = place; sets = ds; frame = frame })) in
    let sets = c.in_ok-sets.sets in
    let os = map aliased c.in_ok-operands.operands in
    let second = ap named (sym c.as_slice.ensures) ∙ c.in_ok-operands.ensures.ok in
    let third = ap (λ given. framed f place (map aliased given)) (sym c.as_slice-2.ensures) ∙ c.in_ok-frame.ensures.ok in
    goes_on found (λ ds. named ds >>= last ds) sets c.in_ok-sets.ensures.ok
    ∙ goes_on (named sets) (last sets) os second
    ∙ goes_on (framed f place os) (λ frame. Ok (record { function = f; place = place; sets = sets; frame = frame })) c.in_ok-frame.frame third
