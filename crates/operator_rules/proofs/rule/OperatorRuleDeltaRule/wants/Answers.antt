use Rattle.std.proofs.Common.{◌∙◌, sym, ap}
use Rattle.operator_rules.specs.Families.{wanted_in}
use Rattle.operator_rules.specs.Rules.{wanted_of}
use Rattle.operator_rules.proofs.FamilyLemmas.{wanted-in_family}
use Rattle.operator_rules.proofs.rule.OperatorRuleDeltaRule.wants.Goals as goal

pub returns : goal.returns
returns c = c.wants.ensures ∙ ap wanted_in c.get.ensures ∙ sym (wanted-in_family c.self.inside.family c.self.invariant) ∙ ap wanted_of c.self.view_is
