use Rattle.data_model.proofs.DraftLemmas.{IsDraft-nothing, IsDraft-key, IsDraft-in_range, IsDraft-beyond, IsDraft-value}
use Rattle.data_model.proofs.laws.notes_make_a_draft.Goals as goal

pub returns-clause-nothing : goal.returns-clause-nothing
returns-clause-nothing g c = IsDraft-nothing g.met.K.Ord.total c.requires.exact

pub returns-clause-in_range : goal.returns-clause-in_range
returns-clause-in_range g c = λ beyond es old new ks n k h within. IsDraft-in_range g.met.K.Ord.total c.requires.exact beyond old new es ks k n within h

pub returns-clause-beyond : goal.returns-clause-beyond
returns-clause-beyond g c = λ beyond es old new ks n k h out. IsDraft-beyond g.met.K.Ord.total c.requires.exact beyond old new es ks ks k n out h

pub returns-clause-value : goal.returns-clause-value
returns-clause-value g c = λ same beyond es old new ks n k h test. IsDraft-value g.met.K.Ord.total c.requires.exact beyond old new same test es ks k n h

pub returns-clause-key : goal.returns-clause-key
returns-clause-key g c = λ same beyond es old new ks n k h test. IsDraft-key g.met.K.Ord.total c.requires.exact beyond old new same test es ks k n h
