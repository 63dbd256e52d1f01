use Rattle.std.proofs.Common.{◌≡◌, ℕ, ◌+◌, ◌<◌, List, Bool, Some, length, subst, ap, sym, ◌∙◌, arith}
use Rattle.std.specs.Prelude.{find}
use Rattle.shortest_cycles.specs.Cycles.{count_from}
use Rattle.shortest_cycles.specs.Tables.{is_on, ways}
use Rattle.shortest_cycles.proofs.Rows.{cycle-None, cycle-Some, found-within}
use Rattle.shortest_cycles.proofs.cycles.cycle_of.Goals as goal

pub cycle_on-requires-clause-within : goal.cycle_on-requires-clause-within
cycle_on-requires-clause-within c =
    let s = c.args.start in
    let left = c.in-Some.left in
    let w = c.as_slice.result.now in
    let found : find (is_on w s) (count_from 0 (length w)) ≡ Some left = sym c.shortest.ensures ∙ c.in-Some.is in
    let most : left < 0 + length w = found-within (is_on w s) 0 (length w) left found in
    let less : left < length w = omega arith in
    subst (λ (v : List (List Bool)). left < length v) (c.as_slice.ensures ∙ sym c.as_slice-in-Some.ensures) less

pub returns-in-Some : goal.returns-in-Some
returns-in-Some c =
    let g = c.args.graph.now in
    let s = c.args.start in
    let left = c.in-Some.left in
    let w = c.as_slice.result.now in
    let is : w ≡ ways g s = c.as_slice.ensures ∙ c.in_ok-ways.ensures in
    let found : find (is_on w s) (count_from 0 (length w)) ≡ Some left = sym c.shortest.ensures ∙ c.in-Some.is in
    ap (λ (ns : List ℕ). Some ns) c.in_ok-cycle_on-in-Some.ensures ∙ sym (cycle-Some g s left w is found)

pub returns : goal.returns
returns c =
    let g = c.args.graph.now in
    let s = c.args.start in
    let w = c.as_slice.result.now in
    let is : w ≡ ways g s = c.as_slice.ensures ∙ c.in_ok-ways.ensures in
    sym (cycle-None g s w is (sym c.shortest.ensures ∙ c.in-None.is))
