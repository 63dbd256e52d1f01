use Rattle.std.proofs.Common.{sym}
use Rattle.data_model.proofs.DeltaLemmas.{Leads-unique, Leads-only_changed, Leads-unnamed}
use Rattle.data_model.proofs.laws.right_delta_is_unique.Goals as goal

pub returns-clause-unique : goal.returns-clause-unique
returns-clause-unique g c = Leads-unique g.met.K.Ord.total c.requires.exact

pub returns-clause-only_changed : goal.returns-clause-only_changed
returns-clause-only_changed g c = λ d m n k h. Leads-only_changed g.met.K.Ord.total c.requires.exact d m n h k

pub returns-clause-all_changed : goal.returns-clause-all_changed
returns-clause-all_changed g c = λ d m n k h none. sym (Leads-unnamed g.met.K.Ord.total c.requires.exact d m n h k none)
