use Rattle.std.proofs.Common.{◌≡◌, ◌∷◌, [], map}
use Rattle.ruleset_faults.specs.Expressions.{all_seen, look, operand_look, seen}
use Rattle.ruleset_faults.proofs.Levels.{of-If, of-Sets, of-Join, of-CallOf, tells_same}
use Rattle.ruleset_faults.proofs.expressions.+walk.Goals as goal

pub see-returns-in-If : goal.see-returns-in-If
see-returns-in-If t c =
    let names = c.args.names.now in
    let meaning = all_seen (look c.get-in-If.result.now ∷ look c.get-in-If-2.result.now ∷ look c.get-in-If-3.result.now ∷ []) names in
    let is : seen names c.args.tree.now ≡ meaning = rw (c.get-in-If.ensures, c.get-in-If-2.ensures, c.get-in-If-3.ensures, c.in-If.is) (of-If names c.in-If.condition c.in-If.holds c.in-If.fails c.in-If.place) in
    tells_same meaning (seen names c.args.tree.now) c.see_three.result is c.see_three.ensures

pub see-returns-in-Sets : goal.see-returns-in-Sets
see-returns-in-Sets t c =
    let names = c.args.names.now in
    let meaning = all_seen (look c.get-in-Sets.result.now ∷ look c.get-in-Sets-2.result.now ∷ map look c.as_slice-in-Sets.result.now) names in
    let is : seen names c.args.tree.now ≡ meaning = rw (c.get-in-Sets.ensures, c.get-in-Sets-2.ensures, c.as_slice-in-Sets.ensures, c.in-Sets.is) (of-Sets names c.in-Sets.function c.in-Sets.first c.in-Sets.second c.in-Sets.others c.in-Sets.place) in
    tells_same meaning (seen names c.args.tree.now) c.see_sets.result is c.see_sets.ensures

pub see-returns-in-Join : goal.see-returns-in-Join
see-returns-in-Join t c =
    let names = c.args.names.now in
    let j = c.in-Join in
    let meaning = all_seen (operand_look c.get-in-Join.result.now ∷ operand_look c.get-in-Join-2.result.now ∷ map operand_look c.as_slice-in-Join.result.now) names in
    let is : seen names c.args.tree.now ≡ meaning = rw (c.get-in-Join.ensures, c.get-in-Join-2.ensures, c.as_slice-in-Join.ensures, c.in-Join.is) (of-Join names j.function j.first j.second j.others j.filter j.calc j.keep j.rename j.place) in
    tells_same meaning (seen names c.args.tree.now) c.see_join.result is c.see_join.ensures

pub see-returns-in-CallOf : goal.see-returns-in-CallOf
see-returns-in-CallOf t c =
    let names = c.args.names.now in
    let meaning = all_seen (map look c.as_slice-in-CallOf.result.now) names in
    let is : seen names c.args.tree.now ≡ meaning = rw (c.as_slice-in-CallOf.ensures, c.in-CallOf.is) (of-CallOf names c.in-CallOf.name c.in-CallOf.arguments c.in-CallOf.place) in
    tells_same meaning (seen names c.args.tree.now) c.see_each.result is c.see_each.ensures
