-- `a#c` is its clause on the data set, and leaves a structure.
use Rattle.std.proofs.Common.{◌≡◌, ◌≢◌, refl, ℕ, Bool, true, false, List, [], ◌∷◌, Option, Some, None, Ok, subst, arith}
use Rattle.std.proofs.lemmas.List.Elements.{All-nil, All-cons}
use Rattle.std.specs.List.{All}
use Rattle.vtl_values.specs.declared.place.Place.{Place}
use Rattle.vtl_values.specs.declared.structure.Component.{Component}
use Rattle.vtl_values.specs.Structures.{IsStructure}
use Rattle.scalar_trees.specs.declared.typing.stop.Fault.{Fault}
use Rattle.scalar_trees.specs.declared.typing.stop.Fault.TheVariants.{UnknownComponent, NameTwice}
use Rattle.scalar_trees.specs.typing.Steps.{◌>>=◌, or_refused, demanded}
use Rattle.data_set_trees.specs.declared.clauses.clause.CheckedClause.{CheckedClause}
use Rattle.data_set_trees.specs.declared.clauses.clause.CheckedClause.TheVariants as clause
use Rattle.data_set_trees.specs.declared.clauses.clause.CheckedMeasure.{CheckedMeasure}
use Rattle.data_set_trees.specs.clauses.After.{always_stays}
use Rattle.data_set_trees.proofs.clauses.Made.{measures_give}
use Rattle.data_set_trees.specs.declared.operand.DataSet.{DataSet}
use Rattle.data_set_trees.specs.declared.operand.Operand.TheVariants as operand
use Rattle.data_set_trees.specs.Lifted.{is_free}
use Rattle.data_set_trees.specs.Members.{in_room, member_from, member_typed}
use Rattle.data_set_trees.specs.Trees.{SetAnswer, with_clause}
use Rattle.data_set_parts.specs.Results.{structure_after}
use Rattle.data_set_parts.proofs.Follows.{gave}
use Rattle.data_set_parts.proofs.Fits.{free_of_staying, unlisted_is}
use Rattle.set_typing.specs.Plans.{member_measure, member_clause, member_of}

abbrev on_set : CheckedMeasure → Place → DataSet → SetAnswer
on_set m place d = in_room place (with_clause (clause.Measures (m ∷ [])) place d)

lifts_by : (o : Option CheckedMeasure) (free : CheckedMeasure → Bool) (place : Place) (d : DataSet)
    → (or_refused o UnknownComponent place >>= (λ m. demanded (free m) NameTwice place >>= (λ met. on_set m place d)))
    ≡ ((((or_refused o UnknownComponent place >>= (λ m. demanded (free m) NameTwice place >>= (λ met. Ok m))) >>= (λ m. Ok (clause.Measures (m ∷ [])))) >>= (λ c. Ok (with_clause c place d))) >>= in_room place)
lifts_by None free place d = refl
lifts_by (Some m) free place d =
    elim (free m) as (λ (b : Bool). (demanded b NameTwice place >>= (λ met. on_set m place d))
    ≡ ((((demanded b NameTwice place >>= (λ met. Ok m)) >>= (λ m. Ok (clause.Measures (m ∷ [])))) >>= (λ c. Ok (with_clause c place d))) >>= in_room place)) [
      | true ↦ refl
      | false ↦ refl
    ]

pub member_lifts : (name : List ℕ) (place : Place) (d : DataSet) → member_typed name place (operand.DataSet d) ≡ (member_of name place d >>= in_room place)
member_lifts name place d = lifts_by (member_from 0 name d.structure) (λ m. is_free (Some m.name) d.structure) place d

-- what is demanded holds
demand_met : (b : Bool) (fault : Fault) (place : Place) (met : Unit {0}) → demanded b fault place ≡ Ok met → b ≡ true
demand_met true fault place met is = refl
demand_met false fault place met is = cc

-- one measure with a free name leaves a structure
chosen_is : (m : CheckedMeasure) (s : List Component) → IsStructure s → is_free (Some m.name) s ≡ true → IsStructure (structure_after (clause.Measures (m ∷ [])) s)
chosen_is m s is free =
    let P : CheckedMeasure → Type 0 = λ i. All (λ c. always_stays c ≡ true → c.name ≢ i.name) s in
    unlisted_is _ (measures_give (m ∷ []) s is (record { names_differ = λ i j d below within. absurd (omega arith); names_free = All-cons P m [] (free_of_staying m.name s free) (All-nil P) }))

pub member_structure : (name : List ℕ) (place : Place) (s : List Component) (c : CheckedClause) → IsStructure s → member_clause name place s ≡ Ok c → IsStructure (structure_after c s)
member_structure name place s c is answered =
    let one = gave (member_measure name place s) (λ m. Ok (clause.Measures (m ∷ []))) c answered in
    let found = gave (or_refused (member_from 0 name s) UnknownComponent place) (λ m. demanded (is_free (Some m.name) s) NameTwice place >>= (λ met. Ok m)) one.0 one.1 in
    let free = gave (demanded (is_free (Some found.0.name) s) NameTwice place) (λ met. Ok found.0) one.0 found.2 in
    let same : found.0 ≡ one.0 = cc in
    let told : clause.Measures (one.0 ∷ []) ≡ c = cc in
    let holds = demand_met (is_free (Some found.0.name) s) NameTwice place free.0 free.1 in
    subst (λ (q : CheckedClause). IsStructure (structure_after q s)) told (chosen_is one.0 s is (subst (λ (m : CheckedMeasure). is_free (Some m.name) s ≡ true) same holds))
