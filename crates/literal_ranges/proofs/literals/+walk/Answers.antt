use Rattle.std.proofs.Common.{◌≡◌, Bool, ◌&&◌, ap, ◌∙◌}
use Rattle.std.specs.Prelude.{option_map}
use Rattle.std.specs.List.{list_all}
use Rattle.literal_ranges.specs.Ranges.{if_given, literals_in_range, clause_in_range, groups_in_range, item_in_range, operand_in_range}
use Rattle.literal_ranges.proofs.Levels.{clauses_in_range, of-Sets, of-Join, of-Calc, of-Aggr}
use Rattle.literal_ranges.proofs.literals.+walk.Goals as goal

pub see_clause-returns-in-Calc : goal.see_clause-returns-in-Calc
see_clause-returns-in-Calc t c =
    let is : clause_in_range c.args.clause.now ≡ list_all item_in_range c.as_slice.result.now = rw (c.as_slice.ensures, c.in-Calc.is) (of-Calc c.in-Calc.items c.in-Calc.place) in
    is ∙ c.see_items.ensures

pub see_clause-returns-in-Aggr : goal.see_clause-returns-in-Aggr
see_clause-returns-in-Aggr t c =
    let is : clause_in_range c.args.clause.now ≡ (list_all item_in_range c.as_slice-in-Aggr.result.now && if_given (option_map groups_in_range c.in-Aggr.groups)) = rw (c.as_slice-in-Aggr.ensures, c.in-Aggr.is) (of-Aggr c.in-Aggr.items c.in-Aggr.groups c.in-Aggr.place) in
    is ∙ c.see_items_with_groups.ensures

pub see_literals-returns-in-Sets : goal.see_literals-returns-in-Sets
see_literals-returns-in-Sets t c =
    let others = c.as_slice-in-Sets.result.now in
    let is : literals_in_range c.args.tree.now ≡ (literals_in_range c.get-in-Sets.result.now && (literals_in_range c.get-in-Sets-2.result.now && list_all literals_in_range others)) =
    rw (c.get-in-Sets.ensures, c.get-in-Sets-2.ensures, c.as_slice-in-Sets.ensures, c.in-Sets.is) (of-Sets c.in-Sets.function c.in-Sets.first c.in-Sets.second c.in-Sets.others c.in-Sets.place) in
    is ∙ c.see_sets.ensures

pub see_literals-returns-in-Join : goal.see_literals-returns-in-Join
see_literals-returns-in-Join t c =
    let others = c.as_slice-in-Join.result.now in
    let clauses = clauses_in_range c.in-Join.filter c.in-Join.calc c.in-Join.keep c.in-Join.rename in
    let is : literals_in_range c.args.tree.now ≡ ((operand_in_range c.get-in-Join.result.now && (operand_in_range c.get-in-Join-2.result.now && list_all operand_in_range others)) && clauses) =
    rw (c.get-in-Join.ensures, c.get-in-Join-2.ensures, c.as_slice-in-Join.ensures, c.in-Join.is) (of-Join c.in-Join.function c.in-Join.first c.in-Join.second c.in-Join.others c.in-Join.filter c.in-Join.calc c.in-Join.keep c.in-Join.rename c.in-Join.place) in
    is ∙ ap (λ (b : Bool). b && clauses) c.see_operands.ensures ∙ c.see_clauses.ensures
