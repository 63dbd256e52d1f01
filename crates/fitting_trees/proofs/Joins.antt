-- What a join is checked to be fits, where its operands do.
use Rattle.std.proofs.Common.{◌≡◌, refl, ℕ, Bool, true, ◌&&◌, List, [], ◌∷◌, map, Option, Some, None, Ok, ap, sym, subst, ◌∙◌}
use Rattle.std.specs.Prelude.{option_map}
use Rattle.std.specs.List.{All, list_all}
use Rattle.std.proofs.lemmas.List.Elements.{All-nil, All-cons}
use Rattle.vtl_values.specs.declared.place.Place.{Place}
use Rattle.vtl_values.specs.declared.structure.Component.{Component}
use Rattle.vtl_syntax.specs.declared.words.JoinFunction.{JoinFunction}
use Rattle.vtl_syntax.specs.declared.expr.Clause.{Clause}
use Rattle.scalar_trees.specs.declared.typing.stop.Fault.{Fault}
use Rattle.scalar_trees.specs.declared.typing.stop.Fault.TheVariants.{WrongStructure, NameTwice, TooManyComponents}
use Rattle.scalar_trees.specs.typing.Scalars.{place_of}
use Rattle.scalar_trees.specs.typing.Steps.{◌>>=◌, or_refused, demanded}
use Rattle.scalar_trees.proofs.typing.Sound.{left, right}
use Rattle.data_set_trees.specs.declared.clauses.frame.Frame.{Frame}
use Rattle.data_set_trees.specs.clauses.Frames.{frame_of}
use Rattle.data_set_trees.specs.clauses.Clauses as clauses
use Rattle.data_set_trees.specs.declared.operand.DataSet.{DataSet}
use Rattle.data_set_trees.specs.declared.operand.Operand.{Operand}
use Rattle.data_set_trees.specs.declared.operand.Operand.TheVariants as operand
use Rattle.data_set_trees.specs.declared.tree.DataSetOperator.TheVariants as operator
use Rattle.data_set_trees.specs.declared.tree.Source.{Source}
use Rattle.data_set_trees.specs.Components.{unlisted, names_differ}
use Rattle.data_set_trees.specs.Joins.{Aliased, may_join, join_components, structures_of, aliases_differ, all_aliased, join_frame, numbered}
use Rattle.expression_rules.specs.JoinClauses.{Placed, inside, after_all, structure_before, with_clauses, joined, join_of, join_typed}
use Rattle.expression_rules.specs.declared.point_clause.PointClause.{PointClause}
use Rattle.expression_rules.specs.declared.point_clause.PointClause.TheVariants.{Alone, Analytic}
use Rattle.expression_rules.specs.OnClauses.{point_checked}
use Rattle.expression_rules.specs.PointClauses.{after, operator_inside}
use Rattle.data_set_trees.specs.Sets.{all_data_sets}
use Rattle.data_set_trees.specs.Trees.{SetAnswer, applied}
use Rattle.data_set_trees.specs.checked.Operators.{an_operator, AreSameButNames, IsTypedJoin, TakesOperands, unnamed}
use Rattle.fitting_trees.specs.Fitting.{IsFitting}
use Rattle.literal_ranges.specs.Ranges.{clause_in_range}
use Rattle.fitting_trees.proofs.Applied.{applied-fits}
use Rattle.fitting_trees.proofs.Analytic.{is_well, point-typed}
use Rattle.fitting_trees.proofs.Rows.{IsFit, Fits, given-fits, or-given, demands-hold, all_sets-fit}
use Rattle.fitting_trees.proofs.Scalars.{gave}
use Rattle.fitting_trees.proofs.Unnamed.{plain, unnamed_unlisted, unnamed_before, plain_numbered, point_after_alike, well_alike}

-- the structures of operands under aliases are their own
aliased-are : (aliases : List (Option (List ℕ))) (ds : List DataSet) (os : List Aliased) → all_aliased aliases ds ≡ Some os → structures_of os ≡ map (λ (d : DataSet). d.structure) ds
aliased-are (Some alias ∷ aliases) (d ∷ ds) os e = by_others (all_aliased aliases ds) (aliased-are aliases ds) e
  where
    by_others : (others : Option (List Aliased)) → ((more : List Aliased) → others ≡ Some more → structures_of more ≡ map (λ (d : DataSet). d.structure) ds) → option_map (λ os. record { alias = alias; structure = d.structure } ∷ os) others ≡ Some os → structures_of os ≡ map (λ (e : DataSet). e.structure) (d ∷ ds)
    by_others None are h = cc
    by_others (Some more) are h =
        let own : Aliased = record { alias = alias; structure = d.structure } in
        let same : own ∷ more ≡ os = cc in
        subst (λ (xs : List Aliased). structures_of xs ≡ d.structure ∷ map (λ (e : DataSet). e.structure) ds) same (ap (λ (ss : List (List Component)). d.structure ∷ ss) (are more refl))
aliased-are [] [] os e = let none : [] ≡ os = cc in subst (λ (xs : List Aliased). structures_of xs ≡ []) none refl
aliased-are (None ∷ aliases) (d ∷ ds) os e = cc
aliased-are (None ∷ aliases) [] os e = cc
aliased-are (Some alias ∷ aliases) [] os e = cc
aliased-are [] (d ∷ ds) os e = cc

-- a first data set is there
record Begins (d : DataSet) (ds : List DataSet) : Type 0 where
  pub rest : List DataSet
  pub is : ds ≡ d ∷ rest

begins : (d : DataSet) (os : List Operand) (ds : List DataSet) → all_data_sets (operand.DataSet d ∷ os) ≡ Some ds → Begins d ds
begins d os ds e = by_others (all_data_sets os) e
  where
    by_others : (others : Option (List DataSet)) → option_map (λ ds. d ∷ ds) others ≡ Some ds → Begins d ds
    by_others None h = cc
    by_others (Some others) h = let same : d ∷ others ≡ ds = cc in record { rest = others; is = sym same }

module _ (structures : Source → Option (List Component)) (among : Source → Type 0) where
  abbrev SetFits : DataSet → Type 0
  SetFits d = IsFitting structures among d

  -- ---- the clauses inside

  -- a clause inside a join is well typed there, and gives what it says but for the names
  takes-inside : (k : PointClause) (operand structure : List Component) → is_well (frame_of operand) k ≡ true → AreSameButNames structure (map unlisted (after k (frame_of operand)).components) → TakesOperands (an_operator (operator_inside k) (operand ∷ []) structure)
  takes-inside (Alone c) operand structure well same = record { operand = operand; one = refl; typed = well; after_it = same }
  takes-inside (Analytic w) operand structure well same = record { operand = operand; one = refl; well = well; after_it = same }

  -- a clause inside a join, on a data set whose components are called by their numbers
  in_join-fits : (written : Clause) → clause_in_range written ≡ true → (frame : Frame) (k : PointClause) → point_checked written frame ≡ Ok k → (cs : List Placed) (d : DataSet) → SetFits d → d.structure ≡ numbered 0 (map unlisted frame.components)
      → SetFits (applied (operator_inside k) (place_of written) (d ∷ []) (structure_before cs (after k frame)))
  in_join-fits written r frame k e cs d fit is =
      let own = frame_of d.structure in
      let alike : map plain frame.components ≡ map plain d.structure = sym (plain_numbered 0 frame.components) ∙ ap (map plain) (sym is) in
      let takes = takes-inside k d.structure (structure_before cs (after k frame)) (sym (well_alike k frame own alike) ∙ point-typed frame written k r e)
      (unnamed_before cs (after k frame) ∙ point_after_alike k frame own alike ∙ sym (unnamed_unlisted (after k own).components)) in
      applied-fits structures among (operator_inside k) (place_of written) (d ∷ []) (structure_before cs (after k frame)) (All-cons SetFits d [] fit (All-nil SetFits)) takes

  with_clauses-fits : (cs : List Clause) → list_all clause_in_range cs ≡ true → (frame : Frame) (checked : List Placed) → inside cs frame ≡ Ok checked → (d : DataSet) → SetFits d → d.structure ≡ structure_before checked frame → SetFits (with_clauses checked frame d)
  with_clauses-fits [] r frame checked e d fit is = let none : [] ≡ checked = cc in subst (λ (ps : List Placed). SetFits (with_clauses ps frame d)) none fit
  with_clauses-fits (c ∷ cs) r frame checked e d fit is =
      let first = gave (point_checked c frame) (λ k. inside cs (after k frame) >>= (λ others. Ok (record { clause = k; place = place_of c } ∷ others))) checked e in
      let own : Placed = record { clause = first.0; place = place_of c } in
      let others = gave (inside cs (after first.0 frame)) (λ others. Ok (own ∷ others)) checked first.2 in
      let same : own ∷ others.0 ≡ checked = cc in
      let next = applied (operator_inside first.0) (place_of c) (d ∷ []) (structure_before others.0 (after first.0 frame)) in
      let here : d.structure ≡ numbered 0 (map unlisted frame.components) = is ∙ ap (λ (ps : List Placed). structure_before ps frame) (sym same) in
      let fits = in_join-fits c (left (clause_in_range c) (list_all clause_in_range cs) r) frame first.0 first.1 others.0 d fit here in
      subst (λ (ps : List Placed). SetFits (with_clauses ps frame d)) same
      (with_clauses-fits cs (right (clause_in_range c) (list_all clause_in_range cs) r) (after first.0 frame) others.0 others.1 next fits refl)

  -- ---- the join

  join_of-fits : (f : JoinFunction) (place : Place) (cs : List Clause) → list_all clause_in_range cs ≡ true → (d : DataSet) (ds : List DataSet) → All SetFits (d ∷ ds) → (os : List Aliased) → structures_of os ≡ map (λ (e : DataSet). e.structure) (d ∷ ds) → Fits structures among (join_of f place cs (d ∷ ds) os)
  join_of-fits f place cs r d ds all os are o e =
      let frame = join_frame f os in
      let may = may_join f (structures_of os) in
      let differ = aliases_differ os && clauses.names_differ frame in
      let asks : List (Bool × Fault) = (may, WrongStructure) ∷ (differ, NameTwice) ∷ (clauses.has_room frame, TooManyComponents) ∷ [] in
      let set : List Placed → DataSet = λ checked. joined f place (d ∷ ds) checked frame in
      let last : List Placed → SetAnswer = λ checked. demanded (names_differ (after_all checked frame).components) NameTwice place >>= (λ differ. Ok (operand.DataSet (set checked))) in
      let asked = gave (clauses.demands place asks) (λ met. inside cs frame >>= last) o e in
      let checked = gave (inside cs frame) last o asked.2 in
      let ends = gave (demanded (names_differ (after_all checked.0 frame).components) NameTwice place) (λ differ. Ok (operand.DataSet (set checked.0))) o checked.2 in
      let given = map (λ (e : DataSet). e.structure) (d ∷ ds) in
      let fitted : may ≡ true = left may (differ && (clauses.has_room frame && true)) (demands-hold place asks asked.0 asked.1) in
      let structure = structure_before checked.0 frame in
      let takes : IsTypedJoin f given structure = record {
        first = d.structure;
        others = map (λ (e : DataSet). e.structure) ds;
        some = refl;
        may = subst (λ (ss : List (List Component)). may_join f ss ≡ true) are fitted;
        gives = unnamed_before checked.0 frame ∙ sym (unnamed_unlisted (join_components f (structures_of os))) ∙ ap (λ (ss : List (List Component)). map unnamed (map unlisted (join_components f ss))) are;
      } in
      let whole = applied (operator.Join f) place (d ∷ ds) structure in
      let fits = applied-fits structures among (operator.Join f) place (d ∷ ds) structure all takes in
      given-fits structures among (operand.DataSet (set checked.0)) o (with_clauses-fits cs r frame checked.0 checked.1 whole fits refl) ends.2

  pub join_typed-fits : (f : JoinFunction) (place : Place) (aliases : List (Option (List ℕ))) (cs : List Clause) → list_all clause_in_range cs ≡ true → (a : Operand) (os : List Operand) → All (IsFit structures among) (a ∷ os) → Fits structures among (join_typed f place aliases cs (a ∷ os))
  join_typed-fits f place aliases cs r (operand.Scalar t) os all o e = cc
  join_typed-fits f place aliases cs r (operand.DataSet d) os all o e =
      let next = λ (ds : List DataSet). or_refused (all_aliased aliases ds) WrongStructure place >>= join_of f place cs ds in
      let sets = gave (or_refused (all_data_sets (operand.DataSet d ∷ os)) WrongStructure place) next o e in
      let found = or-given (all_data_sets (operand.DataSet d ∷ os)) WrongStructure place sets.0 sets.1 in
      let named = gave (or_refused (all_aliased aliases sets.0) WrongStructure place) (join_of f place cs sets.0) o sets.2 in
      let are = aliased-are aliases sets.0 named.0 (or-given (all_aliased aliases sets.0) WrongStructure place named.0 named.1) in
      let first = begins d os sets.0 found in
      let fit = all_sets-fit structures among (operand.DataSet d ∷ os) sets.0 all found in
      join_of-fits f place cs r d first.rest (subst (All SetFits) first.is fit) named.0 (are ∙ ap (map (λ (e : DataSet). e.structure)) first.is) o
      (ap (λ (ds : List DataSet). join_of f place cs ds named.0) (sym first.is) ∙ named.2)
