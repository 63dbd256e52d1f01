-- The operands of an operator, as the news are carried through one after another.
use Rattle.std.proofs.Common.{◌≡◌, ℕ, ◌+◌, ◌<◌, List, [], ◌∷◌, ◌++◌, map, take, set, get_or, length, Ok, Err, sym, ◌∙◌, ap, subst, arith}
use Rattle.std.specs.Option.{IfSome}
use Rattle.std.specs.Arc.{arc_value}
use Rattle.std.proofs.Math.ListN.{get_or-map}
use Rattle.std.proofs.lemmas.List.{length-map, map-set}
use Rattle.point_sets.specs.Changes.{Changes}
use Rattle.operator_meaning.specs.Results.{results_of}
use Rattle.transform_nodes.specs.Halts.{wrong_in}
use Rattle.transform_nodes.specs.Runs.{Moves, IsRunnable, AreRunnable, RanAll, RunsRight}
use Rattle.transform_nodes.specs.Trees.{Plain, plain, plains_of, all_expressions, counted, forgotten, all_forgotten, count_of, IsFit, AllFit}
use Rattle.transform_nodes.specs.declared.carry.Ran.{Ran}
use Rattle.transform_nodes.specs.declared.halt.Halt.{Halt}
use Rattle.transform_nodes.specs.declared.node.Child.{Child}
use Rattle.transform_nodes.proofs.TreeLemmas.{fit_at, count_plains, child_kept, child_runnable, child_wrong, child_more}

pub count_children : (ks : List Child) → count_of (plains_of (map plain ks)) ≡ length ks
count_children ks = count_plains (map plain ks) ∙ length-map ks plain

module _ (ks0 ks : List Child) (i : ℕ) (k new : Child) (within : i < length ks0) (long : length ks ≡ length ks0) (is : k ≡ get_or ks i k) (same : get_or ks i k ≡ get_or ks0 i k) where
  old : plain k ≡ get_or (map plain ks0) i (plain k)
  old = ap plain (is ∙ same) ∙ sym (get_or-map plain ks0 i k)

  current : plain k ≡ get_or (map plain ks) i (plain k)
  current = ap plain is ∙ sym (get_or-map plain ks i k)

  inside : i < length (map plain ks0)
  inside = let e = length-map ks0 plain in omega (arith, e, within)

  as_long : length (map plain ks) ≡ length (map plain ks0)
  as_long = length-map ks plain ∙ long ∙ sym (length-map ks0 plain)

  pub fits_child : (n : ℕ) → AllFit n (plains_of (map plain ks0)) → IsFit n (plain k)
  fits_child n h = subst (λ (t : Plain). IsFit n t) (sym old) (fit_at n (map plain ks0) i (plain k) h inside)

  pub kept_child : all_forgotten (plains_of (map plain ks)) ≡ all_forgotten (plains_of (map plain ks0)) → forgotten (plain new) ≡ forgotten (plain k) → all_forgotten (plains_of (map plain (set ks i new))) ≡ all_forgotten (plains_of (map plain ks0))
  kept_child h e = ap (λ (t : List Plain). all_forgotten (plains_of t)) (map-set plain ks i new) ∙ child_kept (map plain ks0) (map plain ks) i (plain k) (plain new) inside as_long old current h e

  module _ (news : List Changes) (m : Moves news) (can : AreRunnable news m (plains_of (map plain ks0))) where
    pub runnable_child : IsRunnable news m (plain k)
    runnable_child = child_runnable (map plain ks0) (map plain ks) i (plain k) (plain new) inside as_long old current news m can

    module _ (ds : List Changes) (points : ℕ) (ran : RanAll news m (take i (map plain ks0)) (take i (map plain ks)) ds points) where
      pub wrong_child : (halt : Halt) → RunsRight news (plain k) (plain new) (Err halt) → IfSome (wrong_in halt) (λ w. results_of m.new (all_expressions (plains_of (map plain ks0))) ≡ Err w)
      wrong_child halt right = child_wrong (map plain ks0) (map plain ks) i (plain k) (plain new) inside as_long old current news m can ds points ran halt right

      pub more_children : (one : Ran) (total : ℕ) → RunsRight news (plain k) (plain new) (Ok one) → total ≡ counted (points + one.points) → RanAll news m (take (i + 1) (map plain ks0)) (take (i + 1) (map plain (set ks i new))) (ds ++ arc_value one.delta ∷ []) total
      more_children one total right e = subst (λ (t : List Plain). RanAll news m (take (i + 1) (map plain ks0)) (take (i + 1) t) (ds ++ arc_value one.delta ∷ []) total) (sym (map-set plain ks i new))
          (child_more (map plain ks0) (map plain ks) i (plain k) (plain new) inside as_long old current news m can ds points ran one total right e)
