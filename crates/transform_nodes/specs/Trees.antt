-- Trees of operators as plain data, and what they stand for.
use Rattle.std.specs.Prelude.{◌≡◌, ℕ, suc, ◌<◌, ◌≤◌, List, [], ◌∷◌, map, length, min, Ok, Err, Result, ⊤}
use Rattle.std.specs.FinMap.{len}
use Rattle.vtl_values.specs.declared.place.Place.{Place}
use Rattle.data_model.specs.Outcomes.{Made}
use Rattle.data_model.specs.declared.TheConstants.{POINT_LIMIT}
use Rattle.point_sets.specs.DataSets.{DataSet}
use Rattle.data_set_trees.specs.checked.Expressions.{Expression, Expressions, Named, Applied, none as no_operand, more as operand_and}
use Rattle.held_index.specs.Holdings.{Holding, holding_of}
use Rattle.operator_meaning.specs.Operators.{meaning_of}
use Rattle.operator_meaning.specs.Results.{Wrong, Evaluated, sets_of, results_of}
use Rattle.data_set_trees.specs.checked.Operators.{Operator}
use Rattle.transform_nodes.specs.declared.node.Child.{Child, fold-Child}
use Rattle.transform_nodes.specs.declared.node.Child.TheOpen.{Child-F, OpTree-F}
use Rattle.transform_nodes.specs.declared.node.OpTree.{OpTree}
use Rattle.operator_rules.specs.Rules.{wanted_of}

mutual
  -- the number of a source; or an operator with its place and operands, what is held of them and the points of its result, and what is pending of these two
  pub data Plain : Type 0 where
    Source : ℕ → Plain
    Operates : Operator → Place → Plains → List Holding → ℕ → List Holding → ℕ → Plain

  pub data Plains : Type 0 where
    none : Plains
    more : Plain → Plains → Plains

abbrev pub plains_of : List Plain → Plains
plains_of [] = none
plains_of (p ∷ ps) = more p (plains_of ps)

abbrev pub plain_step : Child-F Plain Plain → Plain
plain_step (Child-F.Name n) = Source n
plain_step (Child-F.Tree p) = p

abbrev pub plain_tree_step : OpTree-F Plain Plain → Plain
plain_tree_step t = Operates t.rule t.place (plains_of t.children.items) t.held.items t.points t.pending.items t.pending_points

-- a tree as plain data
abbrev pub plain : Child → Plain
plain = fold-Child Plain Plain plain_step plain_tree_step

abbrev pub plain_tree : OpTree → Plain
plain_tree t = Operates t.rule t.place (plains_of (map plain t.children.items)) t.held.items t.points t.pending.items t.pending_points

abbrev mutual
  -- the expression that a tree works out
  pub expression : Plain → Expression ℕ
  expression (Source n) = Named n
  expression (Operates rule place ps held points pending pending_points) = Applied rule place (all_expressions ps)

  pub all_expressions : Plains → Expressions ℕ
  all_expressions none = no_operand
  all_expressions (more p ps) = operand_and (expression p) (all_expressions ps)

-- what is held is what the operator's rule wants of the operands zs, and the operator has a data set on them, of so many points
pub record Holds (rule : Operator) (zs : List DataSet) (held : List Holding) (points : ℕ) : Type 0 where
  pub sets : map (holding_of zs) (wanted_of rule) ≡ held
  pub made : DataSet
  pub gives : meaning_of rule zs ≡ Made made
  pub count : len made ≡ points

abbrev pub HoldsOn : Operator → Result (List Evaluated) Wrong → List Holding → ℕ → Type 0
HoldsOn rule (Ok es) held points = Holds rule (sets_of es) held points
HoldsOn rule (Err wrong) held points = ⊥

abbrev mutual
  -- what a tree holds, and its numbers of points, are those of its operators where its sources are these data sets
  pub StandsOn : Plain → (ℕ → DataSet) → Type 0
  StandsOn (Source n) sets = ⊤
  StandsOn (Operates rule place ps held points pending pending_points) sets = AllStandOn ps sets × HoldsOn rule (results_of sets (all_expressions ps)) held points

  pub AllStandOn : Plains → (ℕ → DataSet) → Type 0
  AllStandOn none sets = ⊤
  AllStandOn (more p ps) sets = StandsOn p sets × AllStandOn ps sets

-- a number of points, or the last u64 where it is larger
abbrev pub counted : ℕ → ℕ
counted points = min points 18446744073709551615

abbrev mutual
  -- the tree with what is pending put in place
  pub applied : Plain → Plain
  applied (Source n) = Source n
  applied (Operates rule place ps held points pending pending_points) = Operates rule place (all_applied ps) pending pending_points [] 0

  pub all_applied : Plains → Plains
  all_applied none = none
  all_applied (more p ps) = more (applied p) (all_applied ps)

abbrev mutual
  -- the tree without what is pending
  pub forgotten : Plain → Plain
  forgotten (Source n) = Source n
  forgotten (Operates rule place ps held points pending pending_points) = Operates rule place (all_forgotten ps) held points [] 0

  pub all_forgotten : Plains → Plains
  all_forgotten none = none
  all_forgotten (more p ps) = more (forgotten p) (all_forgotten ps)

abbrev pub count_of : Plains → ℕ
count_of none = 0
count_of (more p ps) = suc (count_of ps)

abbrev mutual
  -- the sources are below n, and each operator has the operands and the held sets that its rule wants
  pub IsFit : ℕ → Plain → Type 0
  IsFit n (Source k) = k < n
  IsFit n (Operates rule place ps held points pending pending_points) = AllFit n ps × (count_of ps ≡ length rule.operands) × (length held ≡ length (wanted_of rule)) × (points ≤ POINT_LIMIT)

  pub AllFit : ℕ → Plains → Type 0
  AllFit n none = ⊤
  AllFit n (more p ps) = IsFit n p × AllFit n ps

abbrev mutual
  -- each operator has a patch for each held set
  pub HasPatches : Plain → Type 0
  HasPatches (Source n) = ⊤
  HasPatches (Operates rule place ps held points pending pending_points) = AllHavePatches ps × (length pending ≡ length held) × (pending_points ≤ POINT_LIMIT)

  pub AllHavePatches : Plains → Type 0
  AllHavePatches none = ⊤
  AllHavePatches (more p ps) = HasPatches p × AllHavePatches ps
