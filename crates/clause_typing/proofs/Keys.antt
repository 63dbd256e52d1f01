-- Names, components and targets are told apart by keys.
use Rattle.std.proofs.Common.{Bor, ◌≡◌, refl, ℕ, Bool, ◌&&◌, List, Option, Some, None, ap, nat_eq}
use Rattle.std.proofs.Math.Path.{ap₂}
use Rattle.std.proofs.lemmas.Cmp.{nat_eq_equiv, nat_list_eq_equiv}
use Rattle.std.specs.Option.{option_eq, option_map}
use Rattle.vtl_values.specs.Texts.{same_text}
use Rattle.data_set_trees.specs.declared.clauses.clause.CheckedItem.{CheckedItem}
use Rattle.data_set_trees.specs.declared.clauses.clause.CheckedRename.{CheckedRename}
use Rattle.data_set_trees.specs.declared.clauses.clause.Target.{Target}
use Rattle.data_set_trees.specs.declared.clauses.clause.Target.TheVariants.{Old, New}
use Rattle.data_set_trees.specs.clauses.Clauses.{is_same_alias, is_same_name, is_same_target}
use Rattle.clause_typing.specs.declared.differ.FullName.{FullName}
use Rattle.clause_typing.specs.declared.differ.TargetRef.{TargetRef}
use Rattle.clause_typing.specs.declared.differ.TargetRef.TheVariants as refers
use Rattle.clause_typing.specs.Keys.{full_name, name_of, target_of}
use Rattle.clause_typing.specs.contracts.differ.FullNamePartialEq.TheImpl as of_names
use Rattle.clause_typing.specs.contracts.differ.TargetRefPartialEq.TheImpl as of_targets
use Rattle.clause_typing.proofs.Differing.{IsKeyed}

alias_flips : (a b : Option (List ℕ)) → is_same_alias a b ≡ is_same_alias b a
alias_flips None None = refl
alias_flips None (Some b) = refl
alias_flips (Some a) None = refl
alias_flips (Some a) (Some b) = nat_list_eq_equiv.symm a b

aliases_alike : (a b : Option (Bor (List ℕ))) → option_eq (λ x y. same_text x.now y.now) a b ≡ is_same_alias (option_map (λ x. x.now) a) (option_map (λ x. x.now) b)
aliases_alike None None = refl
aliases_alike None (Some b) = refl
aliases_alike (Some a) None = refl
aliases_alike (Some a) (Some b) = refl

names_alike : (a b : FullName) → (of_names.ghosts).eq a b ≡ (is_same_alias (name_of a).0 (name_of b).0 && same_text a.name.now b.name.now)
names_alike a b = ap (λ (p : Bool). p && same_text a.name.now b.name.now) (aliases_alike a.alias b.alias)

pub names_keyed : IsKeyed is_same_name (of_names.ghosts).eq full_name name_of
names_keyed = record {
  test = λ u v. is_same_alias u.0 v.0 && same_text u.1 v.1;
  items = λ m n. refl;
  keys = names_alike;
  flips = λ u v. ap₂ (λ (p q : Bool). p && q) (alias_flips u.0 v.0) (nat_list_eq_equiv.symm u.1 v.1);
}

pub renames_keyed : IsKeyed (λ (a b : CheckedRename). nat_eq a.component b.component) nat_eq (λ r. r.component) (λ (n : ℕ). n)
renames_keyed = record {
  test = nat_eq;
  items = λ a b. refl;
  keys = λ a b. refl;
  flips = nat_eq_equiv.symm;
}

targets_alike : (a b : TargetRef) → (of_targets.ghosts).eq a b ≡ is_same_target (target_of a) (target_of b)
targets_alike (refers.Old m) (refers.Old n) = refl
targets_alike (refers.Old m) (refers.New b) = refl
targets_alike (refers.New a) (refers.Old n) = refl
targets_alike (refers.New a) (refers.New b) = refl

targets_flip : (a b : Target) → is_same_target a b ≡ is_same_target b a
targets_flip (Old m) (Old n) = nat_eq_equiv.symm m n
targets_flip (Old m) (New b) = refl
targets_flip (New a) (Old n) = refl
targets_flip (New a) (New b) = nat_list_eq_equiv.symm a b

pub targets_keyed : IsKeyed (λ (a b : CheckedItem). is_same_target a.target b.target) (of_targets.ghosts).eq (λ i. i.target) target_of
targets_keyed = record {
  test = is_same_target;
  items = λ a b. refl;
  keys = targets_alike;
  flips = targets_flip;
}
