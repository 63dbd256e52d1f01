use Rattle.std.proofs.Common.{ℕ, count_by, insert, nat_le, ap, sym, subst, ◌∙◌}
use Rattle.std.specs.List.{list_any}
use Rattle.vtl_values.specs.declared.structure.Component.{Component}
use Rattle.vtl_values.specs.Structures.{IsStructure, place_of}
use Rattle.structure_files.specs.Reading.{has_name}
use Rattle.structure_files.proofs.Placing.{placed-IsStructure}
use Rattle.structure_files.proofs.components.with_component.Goals as goal

pub returns-clause-structure : goal.returns-clause-structure
returns-clause-structure c =
    subst IsStructure
    (sym (c.in_ok-insert.ensures.items ∙ ap (λ (n : ℕ). insert c.args.components.items n c.in_ok-component.component)
    (c.standing_before-place.ensures.count ∙ ap (count_by (λ (other : Component). nat_le (place_of other.role) (place_of c.in_ok-component.component.role))) c.as_slice-2.ensures.value)))
    (placed-IsStructure c.args.components.items c.in_ok-component.component c.requires c.in_ok-component.ensures.fit
    (sym (c.if-is_named.ensures ∙ ap (list_any (has_name c.in_ok-component.component.name)) c.as_slice.ensures.value)))
