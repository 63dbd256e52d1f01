-- What operands have in common, by lists of their identifiers.
use Rattle.std.proofs.Common.{◌≡◌, refl, Bool, true, not, ◌&&◌, ◌||◌, List, [], ◌∷◌, map, Ok, ap, sym, ◌∙◌}
use Rattle.std.specs.List.{list_any, list_all}
use Rattle.std.proofs.lemmas.List.Folds.{list_all-map}
use Rattle.vtl_values.specs.Texts.{same_text}
use Rattle.vtl_values.specs.declared.place.Place.{Place}
use Rattle.vtl_values.specs.declared.structure.Component.{Component}
use Rattle.vtl_syntax.specs.declared.words.JoinFunction.{JoinFunction}
use Rattle.vtl_syntax.specs.declared.words.JoinFunction.TheVariants as function
use Rattle.scalar_trees.specs.declared.typing.stop.Fault.TheVariants.{WrongStructure, NameTwice, TooManyComponents}
use Rattle.data_set_trees.specs.declared.clauses.frame.Frame.{Frame}
use Rattle.data_set_trees.specs.clauses.Clauses as clauses
use Rattle.data_set_trees.specs.Components.{identifiers, include}
use Rattle.data_set_trees.specs.Joins as meant
use Rattle.data_set_parts.proofs.Follows.{first_met}
use Rattle.join_typing.specs.declared.operands.Aliased.{Aliased}
use Rattle.join_typing.specs.Joining.{aliased, aliases_differ, lists_fit, demanded_of}

list_any-map : {A B : Type 0} (p : B → Bool) (f : A → B) (xs : List A) → list_any p (map f xs) ≡ list_any (λ x. p (f x)) xs
list_any-map p f [] = refl
list_any-map p f (x ∷ xs) = ap (λ (b : Bool). p (f x) || b) (list_any-map p f xs)

one_includes : (ss : List (List Component)) → list_any (λ s. list_all (include s) (map identifiers ss)) (map identifiers ss) ≡ list_any (meant.includes_all ss) ss
one_includes ss =
    list_any-map (λ s. list_all (include s) (map identifiers ss)) identifiers ss
    ∙ (λ i. list_any (λ s. list_all-map (include (identifiers s)) identifiers ss i) ss)

each_includes : (ss : List (List Component)) → list_all (λ s. list_all (include s) (map identifiers ss)) (map identifiers ss) ≡ list_all (meant.includes_all ss) ss
each_includes ss =
    list_all-map (λ s. list_all (include s) (map identifiers ss)) identifiers ss
    ∙ (λ i. list_all (λ s. list_all-map (include (identifiers s)) identifiers ss i) ss)

pub lists_are : (f : JoinFunction) (all ss : List (List Component)) → all ≡ map identifiers ss → lists_fit f all ≡ meant.identifiers_fit f ss
lists_are f all ss same = ap (lists_fit f) same ∙ by_function f
  where
    by_function : (g : JoinFunction) → lists_fit g (map identifiers ss) ≡ meant.identifiers_fit g ss
    by_function function.Inner = one_includes ss
    by_function function.Left = each_includes ss
    by_function function.Full = each_includes ss
    by_function function.Cross = refl

-- ---- aliases

all_differ-map : {A B : Type 0} (same : B → B → Bool) (f : A → B) (xs : List A) → clauses.all_differ same (map f xs) ≡ clauses.all_differ (λ a b. same (f a) (f b)) xs
all_differ-map same f [] = refl
all_differ-map same f (x ∷ xs) = λ i. not (list_any-map (same (f x)) f xs i) && all_differ-map same f xs i

pub aliases_are : (os : List Aliased) → aliases_differ os ≡ meant.aliases_differ (map aliased os)
aliases_are os =
    sym (all_differ-map same_text (λ (o : meant.Aliased). o.alias) (map aliased os) ∙ all_differ-map (λ (a : meant.Aliased) (b : meant.Aliased). same_text a.alias b.alias) aliased os)

-- where what is demanded is met there is room
pub room_met : (place : Place) (may : Bool) (os : List meant.Aliased) (frame : Frame) (met : Unit {0}) → demanded_of place may os frame ≡ Ok met → clauses.has_room frame ≡ true
room_met place may os frame met is =
    let differ = meant.aliases_differ os && clauses.names_differ frame in
    let room = clauses.has_room frame in
    let first = first_met place may WrongStructure ((differ, NameTwice) ∷ (room, TooManyComponents) ∷ []) met is in
    let second = first_met place differ NameTwice ((room, TooManyComponents) ∷ []) met first.1 in
    (first_met place room TooManyComponents [] met second.1).0
