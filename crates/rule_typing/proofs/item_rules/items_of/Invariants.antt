use Rattle.std.proofs.Common.{◌≡◌, ◌∷◌, map, take}
use Rattle.std.specs.Prelude.{unwrap_or}
use Rattle.vtl_syntax.specs.declared.words.Sign.TheVariants.{Plus}
use Rattle.data_set_trees.specs.rules.Hierarchies.{signed}
use Rattle.rule_typing.proofs.item_rules.items_of.Given as goal

abbrev pub invariant-loop-named : goal.invariant-loop-named
invariant-loop-named l = l.items ≡ record { sign = unwrap_or l.rule.sign Plus; item = l.rule.first } ∷ map signed (take l.named-index l.named-items)
