use Rattle.std.proofs.Common.{sum, ◌∙◌}
use Rattle.round_journal.proofs.EndLemmas.{Idle-waiting, script_wrong-first, came_back-all, script_wrong-points, or_total-few, or_total-many}
use Rattle.round_journal.proofs.laws.rounds_end_by_what_came_back.Goals as goal

pub returns-clause-waiting : goal.returns-clause-waiting
returns-clause-waiting c = λ s i checked over. Idle-waiting s checked over i

pub returns-clause-fault : goal.returns-clause-fault
returns-clause-fault c = λ s i wrong checked over. script_wrong-first s checked over i wrong

pub returns-clause-back : goal.returns-clause-back
returns-clause-back c = λ s i of_it over free l. (came_back-all s of_it.checked over free of_it.same_inputs i l).0

pub returns-clause-has : goal.returns-clause-has
returns-clause-has c = λ s i of_it over free l. (came_back-all s of_it.checked over free of_it.same_inputs i l).1

pub returns-clause-by_points : goal.returns-clause-by_points
returns-clause-by_points c = λ s points checked over free. script_wrong-points s checked over free points

pub returns-clause-few : goal.returns-clause-few
returns-clause-few c = λ s points checked over free are few. script_wrong-points s checked over free points are ∙ or_total-few (sum points) few

pub returns-clause-many : goal.returns-clause-many
returns-clause-many c = λ s points checked over free are many. script_wrong-points s checked over free points are ∙ or_total-many (sum points) many
