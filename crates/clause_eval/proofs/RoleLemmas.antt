-- Numbers of components by their roles.
use Rattle.std.proofs.Common.{◌≡◌, ℕ, ◌+◌, zero, suc, List, [], ◌∷◌, ◌++◌, map, refl, ap, sym, ◌∙◌, if◌then◌else◌}
use Rattle.std.specs.Prelude.{slice_set}
use Rattle.std.proofs.lemmas.List.{map-append}
use Rattle.vtl_values.specs.declared.kind.Role.{Role}
use Rattle.vtl_values.specs.declared.kind.Role.TheVariants.{Measure, Attribute, Viral}
use Rattle.vtl_values.specs.declared.kind.Kind.{Kind}
use Rattle.vtl_values.specs.declared.structure.Component.{Component}
use Rattle.data_set_trees.specs.declared.clauses.frame.Frame.{Frame}
use Rattle.data_set_trees.specs.declared.clauses.clause.CheckedItem.{CheckedItem}
use Rattle.data_set_trees.specs.declared.clauses.clause.Target.{Target}
use Rattle.data_set_trees.specs.declared.clauses.clause.Target.TheVariants.{Old, New}
use Rattle.data_set_trees.specs.clauses.Frames.{has_role, is_role, numbers_from, numbers_of, changed_at}
use Rattle.data_set_trees.proofs.clauses.Changes.{changed-later}
use Rattle.data_set_trees.specs.clauses.After.{made, put, with_item, calculated}
use Rattle.clause_meaning.specs.Clauses.{numbers_of_others}
use Rattle.clause_eval.specs.Roles.{numbers_with, others_with, put_role, roles_after}

abbrev pub roles : List Component → List Role
roles cs = map (λ c. c.role) cs

-- the numbers of a role are told by the roles
with-from : (r : Role) (n : ℕ) (cs : List Component) → numbers_with r n (roles cs) ≡ numbers_from (λ number. has_role r) n cs
with-from r n [] = refl
with-from r n (c ∷ cs) = ap (λ (ns : List ℕ). if is_role r c.role then n ∷ ns else ns) (with-from r (n + 1) cs)

pub with-of : (r : Role) (cs : List Component) → numbers_with r 0 (roles cs) ≡ numbers_of r cs
with-of r cs = with-from r 0 cs

others-of : (cs : List Component) → others_with (roles cs) ≡ numbers_of_others cs
others-of cs = λ i. (with-of Measure cs i ++ with-of Attribute cs i) ++ with-of Viral cs i

-- ---- after the items of a `calc`

changed-role : (role : Role) (kind : Kind) (n : ℕ) (cs : List Component) → roles (changed_at (λ c. made role kind c.name) n cs) ≡ slice_set (roles cs) n role
changed-role role kind n [] = refl
changed-role role kind zero (c ∷ cs) = refl
changed-role role kind (suc n) (c ∷ cs) = ap roles (changed-later (λ d. made role kind d.name) n c cs) ∙ ap (λ (rs : List Role). c.role ∷ rs) (changed-role role kind n cs)

put-roles : (target : Target) (role : Role) (kind : Kind) (frame : Frame) → roles (put target role kind frame).components ≡ put_role target role (roles frame.components)
put-roles (Old number) role kind frame = changed-role role kind number frame.components
put-roles (New name) role kind frame = map-append (λ c. c.role) frame.components (made role kind name ∷ [])

all-roles : (items : List CheckedItem) (frame : Frame) → roles_after items (roles frame.components) ≡ roles (calculated items frame).components
all-roles [] frame = refl
all-roles (item ∷ items) frame = ap (roles_after items) (sym (put-roles item.target item.role item.kind frame)) ∙ all-roles items (with_item frame item)

-- the numbers that `calc` picks
pub calc-picks : (items : List CheckedItem) (frame : Frame) → others_with (roles_after items (roles frame.components)) ≡ numbers_of_others (calculated items frame).components
calc-picks items frame = ap others_with (all-roles items frame) ∙ others-of (calculated items frame).components
