-- When a component may stand in a structure.
use Rattle.std.specs.Prelude.{◌≡◌, ◌≢◌}
use Rattle.vtl_values.specs.declared.kind.Role.TheVariants.{Viral}
use Rattle.vtl_values.specs.declared.structure.Codes.TheVariants.{Any}
use Rattle.vtl_values.specs.declared.structure.Component.{Component}
use Rattle.vtl_values.specs.Structures.{FitsCodes}

-- its code list fits its type, and a viral attribute has one
pub record IsFit (component : Component) : Type 0 where
  pub viral : component.role ≡ Viral → component.codes ≢ Any
  pub codes_fit : FitsCodes component.kind component.codes
