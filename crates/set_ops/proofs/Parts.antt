-- The identifiers of a structure come first.
use Rattle.std.proofs.Common.{◌≡◌, List, take, drop, length, sym, ap, ◌∙◌}
use Rattle.std.specs.List.{count_by}
use Rattle.std.proofs.lemmas.List.Sums.{length-filter}
use Rattle.std.proofs.Math.Seq.{take-append_seam, drop-append_seam}
use Rattle.vtl_values.specs.declared.kind.Role.TheVariants.{Identifier}
use Rattle.vtl_values.specs.declared.structure.Component.{Component}
use Rattle.vtl_values.specs.Structures.{IsStructure}
use Rattle.structured_sets.specs.Fitting.{identifiers, others}
use Rattle.data_set_trees.specs.clauses.Frames.{has_role}
use Rattle.clause_meaning.proofs.ByRole.{of-identifiers}
use Rattle.clause_meaning.proofs.First.{identifiers-first}

as-many : (cs : List Component) → count_by (has_role Identifier) cs ≡ length (identifiers cs)
as-many cs = sym (length-filter (has_role Identifier) cs) ∙ ap (λ (ds : List Component). length ds) (of-identifiers cs)

pub first-part : (cs : List Component) → IsStructure cs → take (count_by (has_role Identifier) cs) cs ≡ identifiers cs
first-part cs is = (λ i. take (as-many cs i) (identifiers-first cs is i)) ∙ take-append_seam (identifiers cs) (others cs)

pub last-part : (cs : List Component) → IsStructure cs → drop (count_by (has_role Identifier) cs) cs ≡ others cs
last-part cs is = (λ i. drop (as-many cs i) (identifiers-first cs is i)) ∙ drop-append_seam (identifiers cs) (others cs)
