use Rattle.feed_laws.proofs.Told.{keys-told, sets-told, shares-told}
use Rattle.feed_laws.proofs.laws.fit_revision_changes_what_its_rows_name.Goals as goal

pub returns-clause-keys : goal.returns-clause-keys
returns-clause-keys c = λ structures inputs revision shares n h l. keys-told structures inputs revision shares h n l

pub returns-clause-sets : goal.returns-clause-sets
returns-clause-sets c = λ structures inputs revision shares n h none. sets-told structures inputs revision shares h n none

pub returns-clause-shares : goal.returns-clause-shares
returns-clause-shares c = shares-told
