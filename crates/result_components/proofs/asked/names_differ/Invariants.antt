use Rattle.std.proofs.Common.{Bor, ℕ, List}
use Rattle.vtl_values.specs.Texts.{same_text}
use Rattle.vtl_values.specs.declared.structure.Component.{Component}
use Rattle.clause_typing.proofs.Differing.{Seen}
use Rattle.result_components.proofs.asked.names_differ.Given as goal

abbrev pub invariant-loop-component : goal.invariant-loop-component
invariant-loop-component l = Seen (λ (a b : Component). same_text a.name b.name) (λ c. c.name) (λ (k : Bor (List ℕ)). k.now) l.components l.component-index l.seen.keys
