-- What aggregates give on a structure is one.
use Rattle.std.proofs.Common.{◌≡◌, ◌≢◌, refl, ℕ, zero, suc, Bool, true, false, not, ◌&&◌, List, [], ◌∷◌, ◌++◌, map, Option, Some, None, Result, Ok, Err, subst, arith}
use Rattle.std.specs.Prelude.{slice_get}
use Rattle.std.specs.List.{All, AllPairs, list_all, list_any, cons_option}
use Rattle.std.proofs.lemmas.Bool.{not-true}
use Rattle.std.proofs.lemmas.List.Elements.{All-nil, All-cons, All-head, All-tail, All-append, All-map, All-weaker}
use Rattle.std.proofs.lemmas.List.Kept.{AllPairs-cons}
use Rattle.vtl_values.specs.Texts.{same_text}
use Rattle.vtl_values.specs.declared.kind.Role.{Role}
use Rattle.vtl_values.specs.declared.kind.Role.TheVariants.{Identifier, Measure, Attribute, Viral}
use Rattle.vtl_values.specs.declared.place.Place.{Place}
use Rattle.vtl_values.specs.declared.structure.Codes.TheVariants.{Any}
use Rattle.vtl_values.specs.declared.structure.Component.{Component}
use Rattle.vtl_values.specs.Structures.{IsStructure, FitsCodes}
use Rattle.vtl_syntax.specs.declared.expr.Grouping.{Grouping}
use Rattle.scalar_trees.specs.declared.tree.CheckedExpr.{CheckedExpr}
use Rattle.scalar_trees.specs.declared.typing.stop.Fault.{Fault}
use Rattle.scalar_trees.specs.declared.typing.stop.Fault.TheVariants.{UnknownComponent, WrongType, WrongRole, NameTwice, TooManyComponents}
use Rattle.scalar_trees.specs.declared.typing.stop.Refusal.{Refusal}
use Rattle.scalar_trees.specs.declared.typing.typed.Typed.{Typed}
use Rattle.scalar_trees.specs.typing.Steps.{◌>>=◌, demanded}
use Rattle.scalar_trees.proofs.typing.Sound.{left, right}
use Rattle.data_set_trees.specs.clauses.Clauses.{demands, all_differ}
use Rattle.data_set_trees.specs.clauses.Frames.{frame_of, has_role, numbers_of}
use Rattle.data_set_trees.specs.clauses.Laws.{FitTogether}
use Rattle.data_set_trees.specs.clauses.WellTyped.{may_be_made}
use Rattle.data_set_trees.proofs.clauses.Names.{none-passes, texts-differ}
use Rattle.data_set_trees.proofs.clauses.Ordered.{orders_structures}
use Rattle.data_set_trees.proofs.clauses.Parts.{leaves_structures}
use Rattle.data_set_trees.specs.declared.aggregates.aggregate.AggregateItem.{AggregateItem}
use Rattle.data_set_trees.specs.declared.aggregates.aggregate.CheckedAggregate.{CheckedAggregate}
use Rattle.data_set_trees.specs.aggregates.Aggregates.{aggregate, are_known, condition_typed, groups_typed, has_room, joined, may_group, names_differ, names_in}
use Rattle.data_set_trees.specs.aggregates.Groups.{grouping_numbers}
use Rattle.data_set_trees.specs.aggregates.Laws.{GivesStructures}
use Rattle.data_set_trees.specs.aggregates.Results.{made_by, unordered, with_numbers, without_attributes}

-- ---- what typing answers

-- what is demanded holds, and the answer is what comes after
pub met : {A : Type 0} (place : Place) (ds : List (Bool × Fault)) (next : Result A Refusal) (a : A) → (demands place ds >>= (λ met. next)) ≡ Ok a → (list_all (λ d. d.0) ds ≡ true) × (next ≡ Ok a)
met place [] next a h = (refl, h)
met {A = A} place (d ∷ ds) next a h = by_test d.0 (met place ds next a) h
  where
    by_test : (b : Bool) → ((demands place ds >>= (λ met. next)) ≡ Ok a → (list_all (λ e. e.0) ds ≡ true) × (next ≡ Ok a)) → ((demanded b d.1 place >>= (λ met. demands place ds)) >>= (λ met. next)) ≡ Ok a → ((b && list_all (λ e. e.0) ds) ≡ true) × (next ≡ Ok a)
    by_test true later i = later i
    by_test false later i = cc

answered : (b a : CheckedAggregate) (r : Result CheckedAggregate Refusal) → r ≡ Ok b → r ≡ Ok a → b ≡ a
answered b a r is h = cc

-- the names differ, and nothing else is made of what goes together
joined_gives : (place : Place) (names : List (List ℕ)) (b a : CheckedAggregate) (cs : List Component) → joined place names b cs ≡ Ok a → (names_differ (unordered a cs) ≡ true) × (b.items ≡ a.items)
joined_gives place names b a cs h =
    let may = may_group names cs in
    let differ = names_differ (unordered b cs) in
    let room = has_room (unordered b cs) in
    let answer = met place ((may, WrongRole) ∷ (differ, NameTwice) ∷ (room, TooManyComponents) ∷ []) (Ok b) a h in
    let same : b ≡ a = answered b a (Ok b) refl answer.1 in
    let apart : differ ≡ true = left differ (room && true) (right may (differ && (room && true)) answer.0) in
    subst (λ (c : CheckedAggregate). (names_differ (unordered c cs) ≡ true) × (b.items ≡ c.items)) same (apart, refl)

-- so typing gives just these items
typed_gives : (place : Place) (grouping : Option Grouping) (fit : Bool) (items : List AggregateItem) (having : Option Typed) (cs : List Component) (a : CheckedAggregate) → groups_typed place grouping fit items having cs ≡ Ok a
    → (names_differ (unordered a cs) ≡ true) × (items ≡ a.items)
typed_gives place grouping fit items having cs a h =
    let names = names_in grouping in
    let next : Option CheckedExpr → Result CheckedAggregate Refusal = λ c. joined place names (aggregate (grouping_numbers grouping cs) items c) cs in
    let answer = met place ((are_known names cs, UnknownComponent) ∷ (fit, WrongType) ∷ []) (condition_typed place having >>= next) a h in
    by_condition (condition_typed place having) answer.1
  where
    by_condition : (r : Result (Option CheckedExpr) Refusal) → (r >>= (λ c. joined place (names_in grouping) (aggregate (grouping_numbers grouping cs) items c) cs)) ≡ Ok a → (names_differ (unordered a cs) ≡ true) × (items ≡ a.items)
    by_condition (Ok c) i = joined_gives place (names_in grouping) (aggregate (grouping_numbers grouping cs) items c) a cs i
    by_condition (Err refusal) i = cc

-- ---- components that fit together

pub apart : (cs : List Component) → names_differ cs ≡ true → AllPairs (λ a b. a.name ≢ b.name) cs
apart [] h = λ i j d below within. absurd (omega (arith, within))
apart (c ∷ cs) h =
    let among = list_any (λ (d : Component). same_text c.name d.name) cs in
    let differ : Bool = all_differ (λ (a b : Component). same_text a.name b.name) cs in
    AllPairs-cons (λ a b. a.name ≢ b.name) c cs
    (All-weaker (λ (d : Component). same_text c.name d.name ≡ false) (λ d. c.name ≢ d.name) (λ d. texts-differ c.name d.name) cs (none-passes (λ (d : Component). same_text c.name d.name) cs (not-true among (left (not among) differ h))))
    (apart cs (right (not among) differ h))

-- what holds of all components holds of those with these numbers
found : (P : Component → Type 0) (cs : List Component) (n : ℕ) → All P cs → (o : Option Component) → slice_get cs n ≡ o → (rest : List Component) → All P rest → All P (cons_option o rest)
found P cs n all None is rest more = more
found P cs n all (Some c) is rest more = All-cons P c rest (holds_at cs n all is) more
  where
    holds_at : (ds : List Component) (m : ℕ) → All P ds → slice_get ds m ≡ Some c → P c
    holds_at [] m every there = cc
    holds_at (d ∷ ds) zero every there = let same : d ≡ c = cc in subst P same (All-head P d ds every)
    holds_at (d ∷ ds) (suc m) every there = holds_at ds m (All-tail P d ds every) there

pub numbered_all : (P : Component → Type 0) (cs : List Component) → All P cs → (numbers : List ℕ) → All P (with_numbers cs numbers)
numbered_all P cs all [] = All-nil P
numbered_all P cs all (n ∷ ns) = found P cs n all (slice_get cs n) refl (with_numbers cs ns) (numbered_all P cs all ns)

not_viral : (r : Role) → may_be_made r ≡ true → r ≢ Viral
not_viral Identifier h same = cc
not_viral Measure h same = cc
not_viral Attribute h same = cc
not_viral Viral h same = cc

fit_together : (a : CheckedAggregate) (cs : List Component) → IsStructure cs → names_differ (unordered a cs) ≡ true → All (λ i. may_be_made i.role ≡ true) a.items → FitTogether (unordered a cs)
fit_together a cs is differ plain =
    let Listed : Component → Type 0 = λ c. c.role ≡ Viral → c.codes ≢ Any in
    let Fitting : Component → Type 0 = λ c. FitsCodes c.kind c.codes in
    let own = with_numbers cs (a.grouping ++ numbers_of Viral cs) in
    let new = map made_by a.items in
    record {
      names_differ = apart (unordered a cs) differ;
      viral_listed = All-append Listed own new (numbered_all Listed cs is.viral_listed (a.grouping ++ numbers_of Viral cs))
          (All-map Listed made_by a.items (All-weaker (λ i. may_be_made i.role ≡ true) (λ i. Listed (made_by i)) (λ i h viral. absurd (not_viral i.role h viral)) a.items plain));
      codes_fit = All-append Fitting own new (numbered_all Fitting cs is.codes_fit (a.grouping ++ numbers_of Viral cs))
          (All-map Fitting made_by a.items (All-weaker (λ i. may_be_made i.role ≡ true) (λ i. Fitting (made_by i)) (λ i h. tt) a.items plain));
    }

pub gives_structures : GivesStructures
gives_structures place grouping fit items having cs a is made typed =
    let given = typed_gives place grouping fit items having cs a typed in
    orders_structures (frame_of (unordered a cs)) (fit_together a cs is given.0 (subst (λ (js : List AggregateItem). All (λ i. may_be_made i.role ≡ true) js) given.1 made))

-- ---- without attributes

-- without plain attributes a structure is one
pub plain_left : (cs : List Component) → IsStructure cs → IsStructure (without_attributes cs)
plain_left cs is = leaves_structures (λ number c. not (has_role Attribute c)) (frame_of cs) is
