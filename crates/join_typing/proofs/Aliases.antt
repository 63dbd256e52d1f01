-- Operands under their aliases.
use Rattle.std.proofs.Common.{◌≡◌, ◌≢◌, refl, ℕ, suc, List, [], ◌∷◌, ◌++◌, map, length, Option, Some, None, ap, sym, ◌∙◌}
use Rattle.std.specs.Prelude.{option_map}
use Rattle.std.proofs.lemmas.List.{append_assoc}
use Rattle.data_set_trees.specs.declared.operand.DataSet.{DataSet}
use Rattle.data_set_trees.specs.Joins.{Aliased, all_aliased}

-- there are as many of both
pub unequal : (aliases : List (Option (List ℕ))) (ds : List DataSet) → length aliases ≢ length ds → all_aliased aliases ds ≡ None
unequal [] [] apart = absurd (apart refl)
unequal [] (d ∷ ds) apart = refl
unequal (Some alias ∷ aliases) [] apart = refl
unequal (None ∷ aliases) [] apart = refl
unequal (None ∷ aliases) (d ∷ ds) apart = refl
unequal (Some alias ∷ aliases) (d ∷ ds) apart = ap (option_map (λ os. record { alias = alias; structure = d.structure } ∷ os)) (unequal aliases ds (λ same. apart (ap suc same)))

-- one more has an alias
pub one_more : (before : List Aliased) (own : Aliased) (o : Option (List Aliased)) → option_map (λ os. before ++ os) (option_map (λ os. own ∷ os) o) ≡ option_map (λ os. (before ++ own ∷ []) ++ os) o
one_more before own None = refl
one_more before own (Some os) = ap Some (sym (append_assoc before (own ∷ []) os))
