use Rattle.std.proofs.Common.{refl}
use Rattle.clause_meaning.proofs.Kept.{calc-keys, measures-keys, same_keys}
use Rattle.clause_meaning.proofs.laws.keys_are_kept.Goals as goal

pub returns-clause-calc : goal.returns-clause-calc
returns-clause-calc c = λ items frame a y. calc-keys frame a y items

pub returns-clause-keep : goal.returns-clause-keep
returns-clause-keep c = λ numbers frame a y. same_keys _ _ a y (λ key rest h. refl)

pub returns-clause-drop : goal.returns-clause-drop
returns-clause-drop c = λ numbers frame a y. same_keys _ _ a y (λ key rest h. refl)

pub returns-clause-rename : goal.returns-clause-rename
returns-clause-rename c = λ renames frame a y. same_keys _ _ a y (λ key rest h. refl)

pub returns-clause-measures : goal.returns-clause-measures
returns-clause-measures c = λ items frame a y. measures-keys frame a y items
