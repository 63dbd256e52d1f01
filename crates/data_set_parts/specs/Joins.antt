-- Components of the results on two data sets.
use Rattle.std.specs.Prelude.{◌≡◌, ◌≢◌, ◌++◌, List, map, filter}
use Rattle.vtl_values.specs.declared.kind.Role.{Role}
use Rattle.vtl_values.specs.declared.kind.Role.TheVariants.{Viral}
use Rattle.vtl_values.specs.declared.structure.Codes.TheVariants.{Any}
use Rattle.vtl_values.specs.declared.structure.Component.{Component}
use Rattle.vtl_values.specs.Structures.{FitsCodes}
use Rattle.data_set_trees.specs.clauses.Frames.{has_role}
use Rattle.data_set_trees.specs.Components.{further, unlisted}

-- those of a role of the first, and further ones of the second
abbrev pub both : Role → List Component → List Component → List Component
both r s t = filter (has_role r) s ++ further (filter (has_role r) s) (filter (has_role r) t)

-- identifiers, which lose their code lists, measures, and viral attributes
abbrev pub by_parts : List Component → List Component → List Component → List Component
by_parts ids ms vs = (map unlisted ids ++ ms) ++ vs

-- ---- a component by itself

-- a viral attribute has a code list, and a code list fits its component
pub record IsSound (c : Component) : Type 0 where
  pub viral_listed : c.role ≡ Viral → c.codes ≢ Any
  pub codes_fit : FitsCodes c.kind c.codes

-- one of a role
pub record IsOf (r : Role) (c : Component) : Type 0 where
  pub role : r ≡ c.role
  pub sound : IsSound c
