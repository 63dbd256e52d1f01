-- Roles of components by their numbers.
use Rattle.std.specs.Prelude.{ℕ, ◌+◌, ◌++◌, List, [], ◌∷◌, fold, slice_set, if◌then◌else◌}
use Rattle.vtl_values.specs.declared.kind.Role.{Role}
use Rattle.vtl_values.specs.declared.kind.Role.TheVariants.{Measure, Attribute, Viral}
use Rattle.data_set_trees.specs.declared.clauses.clause.CheckedItem.{CheckedItem}
use Rattle.data_set_trees.specs.declared.clauses.clause.Target.{Target}
use Rattle.data_set_trees.specs.declared.clauses.clause.Target.TheVariants.{Old, New}
use Rattle.data_set_trees.specs.clauses.Frames.{is_role}

-- the numbers at which a role stands, where the first has this number
abbrev pub numbers_with : Role → ℕ → List Role → List ℕ
numbers_with role number [] = []
numbers_with role number (r ∷ rs) = if is_role role r then number ∷ numbers_with role (number + 1) rs else numbers_with role (number + 1) rs

-- the numbers of measures, then of attributes and viral attributes
abbrev pub others_with : List Role → List ℕ
others_with roles = (numbers_with Measure 0 roles ++ numbers_with Attribute 0 roles) ++ numbers_with Viral 0 roles

-- a component that is there gets the role of an item, and a new one comes last
abbrev pub put_role : Target → Role → List Role → List Role
put_role (Old number) role roles = slice_set roles number role
put_role (New name) role roles = roles ++ role ∷ []

abbrev pub with_role : List Role → CheckedItem → List Role
with_role roles item = put_role item.target item.role roles

-- the roles after the items of a `calc`
abbrev pub roles_after : List CheckedItem → List Role → List Role
roles_after items roles = fold with_role roles items
