-- A join is its steps.
use Rattle.std.proofs.Common.{◌≡◌, refl, ℕ, Bool, true, false, List, [], ◌∷◌, Option, Some, None, map, Result, Ok, Err, ap, sym, ◌∙◌}
use Rattle.std.specs.Prelude.{◌&&◌, option_map}
use Rattle.std.specs.List.{list_all}
use Rattle.vtl_values.specs.declared.place.Place.{Place}
use Rattle.vtl_syntax.specs.declared.expr.Clause.{Clause}
use Rattle.vtl_syntax.specs.declared.words.JoinFunction.{JoinFunction}
use Rattle.scalar_trees.specs.declared.typing.stop.Fault.TheVariants.{WrongStructure, NameTwice, TooManyComponents}
use Rattle.scalar_trees.specs.declared.typing.stop.Refusal.{Refusal}
use Rattle.scalar_trees.specs.typing.Steps.{◌>>=◌, demanded, or_refused}
use Rattle.data_set_trees.specs.declared.clauses.frame.Frame.{Frame}
use Rattle.data_set_trees.specs.clauses.Clauses as clauses
use Rattle.data_set_trees.specs.declared.operand.DataSet.{DataSet}
use Rattle.data_set_trees.specs.declared.operand.Operand.{Operand}
use Rattle.data_set_trees.specs.declared.operand.Operand.TheVariants as operand
use Rattle.data_set_trees.specs.Joins as meant
use Rattle.expression_rules.specs.JoinClauses as rules
use Rattle.data_set_trees.specs.Sets.{all_data_sets}
use Rattle.data_set_trees.specs.Trees.{SetAnswer, data_sets}
use Rattle.data_set_parts.proofs.Follows.{assoc}
use Rattle.join_typing.specs.declared.joining.Joining.{Joining}
use Rattle.join_typing.specs.Joining.{is_set, framed, begun, finished, JoinsBySteps}

-- ---- operands

found_sets : (place : Place) (b : Bool) (d : DataSet) (os : List Operand) → or_refused (all_data_sets os) WrongStructure place ≡ (demanded b WrongStructure place >>= (λ met. Ok (data_sets os))) → or_refused (option_map (λ ds. d ∷ ds) (all_data_sets os)) WrongStructure place ≡ (demanded b WrongStructure place >>= (λ met. Ok (d ∷ data_sets os)))
found_sets place b d os same = by_sets (all_data_sets os) b same
  where
    by_sets : (found : Option (List DataSet)) (b : Bool) → or_refused found WrongStructure place ≡ (demanded b WrongStructure place >>= (λ met. Ok (data_sets os))) → or_refused (option_map (λ ds. d ∷ ds) found) WrongStructure place ≡ (demanded b WrongStructure place >>= (λ met. Ok (d ∷ data_sets os)))
    by_sets None true h = cc
    by_sets None false h = refl
    by_sets (Some ds) true h = let is : ds ≡ data_sets os = cc in ap (λ (xs : List DataSet). Ok (d ∷ xs)) is
    by_sets (Some ds) false h = cc

-- the data sets among the operands, where all are
pub sets_found : (place : Place) (os : List Operand) → or_refused (all_data_sets os) WrongStructure place ≡ (demanded (list_all is_set os) WrongStructure place >>= (λ met. Ok (data_sets os)))
sets_found place [] = refl
sets_found place (operand.Scalar t ∷ os) = refl
sets_found place (operand.DataSet d ∷ os) = found_sets place (list_all is_set os) d os (sets_found place os)

-- ---- the whole join

module _ (f : JoinFunction) (place : Place) (cs : List Clause) (ds : List DataSet) where
  abbrev ends : Joining → SetAnswer
  ends join = rules.inside cs join.frame >>= finished join

  abbrev joining : Frame → Joining
  joining frame = record { function = f; place = place; sets = ds; frame = frame }

  of_steps : (operands : List meant.Aliased) → rules.join_of f place cs ds operands ≡ ((framed f place operands >>= (λ frame. Ok (joining frame))) >>= ends)
  of_steps operands =
      let frame = meant.join_frame f operands in
      let asked = clauses.demands place
      ((meant.may_join f (meant.structures_of operands), WrongStructure)
      ∷ (meant.aliases_differ operands && clauses.names_differ frame, NameTwice)
      ∷ (clauses.has_room frame, TooManyComponents) ∷ []) in
      sym (assoc asked (λ met. Ok frame) (λ g. ends (joining g))) ∙ sym (assoc (asked >>= (λ met. Ok frame)) (λ g. Ok (joining g)) ends)

pub joins_by_steps : JoinsBySteps
joins_by_steps f place aliases cs operands =
    let ends = λ (join : Joining). rules.inside cs join.frame >>= finished join in
    let found = or_refused (all_data_sets operands) WrongStructure place in
    let named = λ (ds : List DataSet). or_refused (meant.all_aliased aliases ds) WrongStructure place in
    let step = λ (ds : List DataSet) (os : List meant.Aliased). framed f place os >>= (λ frame. Ok (record { function = f; place = place; sets = ds; frame = frame })) in
    (λ i. found >>= (λ ds. named ds >>= (λ os. of_steps f place cs ds os i)))
    ∙ (λ i. found >>= (λ ds. sym (assoc (named ds) (step ds) ends) i))
    ∙ sym (assoc found (λ ds. named ds >>= step ds) ends)
