-- What aggregates give on a structure is one.
use Rattle.std.proofs.Common.{◌≡◌, refl, ℕ, true, List, [], ◌∷◌, Option, Some, None, Result, Ok, Err, subst}
use Rattle.std.specs.Prelude.{filter_map, slice_get}
use Rattle.std.specs.Option.{option_map}
use Rattle.std.specs.List.{All, cons_option}
use Rattle.std.proofs.lemmas.List.Elements.{All-nil, All-cons}
use Rattle.vtl_values.specs.declared.kind.Role.TheVariants.{Measure}
use Rattle.vtl_values.specs.declared.place.Place.{Place}
use Rattle.vtl_values.specs.declared.structure.Component.{Component}
use Rattle.vtl_values.specs.Structures.{IsStructure}
use Rattle.vtl_syntax.specs.declared.expr.Groups.{Groups}
use Rattle.vtl_syntax.specs.declared.expr.Item.{Item, out-Item}
use Rattle.vtl_syntax.specs.declared.words.AggregateFunction.{AggregateFunction}
use Rattle.vtl_syntax.specs.declared.words.AggregateFunction.TheVariants.{Sum, Avg, Count, Min, Max, Median}
use Rattle.vtl_syntax.specs.declared.words.ItemRole.{ItemRole}
use Rattle.vtl_syntax.specs.declared.words.ItemRole.TheVariants as stated
use Rattle.scalar_trees.specs.declared.typing.scope.Basis.TheVariants.{Group}
use Rattle.scalar_trees.specs.declared.typing.scope.Scope.{Scope}
use Rattle.scalar_trees.specs.declared.typing.stop.Refusal.{Refusal}
use Rattle.scalar_trees.specs.declared.typing.typed.Typed.{Typed}
use Rattle.scalar_trees.specs.typing.Scalars.{typed}
use Rattle.scalar_trees.specs.typing.Steps.{◌>>=◌}
use Rattle.data_set_trees.specs.clauses.Clauses.{role_of}
use Rattle.data_set_trees.specs.clauses.Frames.{numbers_of}
use Rattle.data_set_trees.specs.clauses.WellTyped.{may_be_made}
use Rattle.data_set_trees.specs.declared.aggregates.aggregate.AggregateItem.{AggregateItem}
use Rattle.data_set_trees.specs.declared.aggregates.aggregate.CheckedAggregate.{CheckedAggregate}
use Rattle.data_set_trees.specs.aggregates.Aggregates.{aggr_checked, aggregate_checked, aggregate_of, condition_checked, grouping_of, groups_typed, having_of, item_typed, items_checked, items_of, points_counted, scope_on, takes_all}
use Rattle.data_set_trees.specs.aggregates.Results.{grouped}
use Rattle.data_set_trees.proofs.aggregates.Grouped.{gives_structures}

-- a measure or an attribute
abbrev Plain : AggregateItem → Type 0
Plain i = may_be_made i.role ≡ true

-- ---- what an aggregate works out

measures_plain : (f : AggregateFunction) (cs : List Component) (numbers : List ℕ) → All Plain (filter_map (λ number. option_map (aggregate_of f number) (slice_get cs number)) numbers)
measures_plain f cs [] = All-nil Plain
measures_plain f cs (n ∷ ns) = by_component (slice_get cs n) (filter_map (λ number. option_map (aggregate_of f number) (slice_get cs number)) ns) (measures_plain f cs ns)
  where
    by_component : (o : Option Component) (rest : List AggregateItem) → All Plain rest → All Plain (cons_option (option_map (aggregate_of f n) o) rest)
    by_component None rest more = more
    by_component (Some c) rest more = All-cons Plain (aggregate_of f n c) rest refl more

items_plain : (f : AggregateFunction) (cs : List Component) → All Plain (items_of f cs)
items_plain Count cs = All-cons Plain points_counted [] refl (All-nil Plain)
items_plain Sum cs = measures_plain Sum cs (numbers_of Measure cs)
items_plain Avg cs = measures_plain Avg cs (numbers_of Measure cs)
items_plain Min cs = measures_plain Min cs (numbers_of Measure cs)
items_plain Max cs = measures_plain Max cs (numbers_of Measure cs)
items_plain Median cs = measures_plain Median cs (numbers_of Measure cs)

-- ---- what `aggr` works out

role_plain : (role : Option ItemRole) → may_be_made (role_of role None) ≡ true
role_plain None = refl
role_plain (Some stated.Measure) = refl
role_plain (Some stated.Attribute) = refl

checked_plain : (scope : Scope) (items : List Item) (checked : List AggregateItem) → items_checked scope items ≡ Ok checked → All Plain checked
checked_plain scope [] checked h =
    let same : [] ≡ checked = cc in
    subst (All Plain) same (All-nil Plain)
checked_plain scope (i ∷ is) checked h = by_value (typed scope Group (out-Item i).expr) (λ cs. checked_plain scope is cs) h
  where
    by_rest : (t : Typed) (r : Result (List AggregateItem) Refusal) → ((cs : List AggregateItem) → r ≡ Ok cs → All Plain cs) → (r >>= (λ cs. Ok (item_typed (out-Item i).role (out-Item i).name t ∷ cs))) ≡ Ok checked → All Plain checked
    by_rest t (Ok cs) later j =
        let c = item_typed (out-Item i).role (out-Item i).name t in
        let same : c ∷ cs ≡ checked = cc in
        subst (All Plain) same (All-cons Plain c cs (role_plain (out-Item i).role) (later cs refl))
    by_rest t (Err refusal) later j = cc

    by_value : (r : Result Typed Refusal) → ((cs : List AggregateItem) → items_checked scope is ≡ Ok cs → All Plain cs) → ((r >>= (λ t. Ok (item_typed (out-Item i).role (out-Item i).name t))) >>= (λ c. items_checked scope is >>= (λ cs. Ok (c ∷ cs)))) ≡ Ok checked → All Plain checked
    by_value (Ok t) later j = by_rest t (items_checked scope is) later j
    by_value (Err refusal) later j = cc

-- ---- what typing gives

pub aggregate_gives : (f : AggregateFunction) (place : Place) (groups : Option Groups) (cs : List Component) (a : CheckedAggregate) → IsStructure cs → aggregate_checked f place groups cs ≡ Ok a → IsStructure (grouped a cs)
aggregate_gives f place groups cs a is h = by_condition (condition_checked (scope_on groups cs) (having_of groups)) h
  where
    by_condition : (r : Result (Option Typed) Refusal) → (r >>= (λ having. groups_typed place (grouping_of groups) (takes_all f cs) (items_of f cs) having cs)) ≡ Ok a → IsStructure (grouped a cs)
    by_condition (Ok having) i = gives_structures place (grouping_of groups) (takes_all f cs) (items_of f cs) having cs a is (items_plain f cs) i
    by_condition (Err refusal) i = cc

pub aggr_gives : (place : Place) (items : List Item) (groups : Option Groups) (cs : List Component) (a : CheckedAggregate) → IsStructure cs → aggr_checked place items groups cs ≡ Ok a → IsStructure (grouped a cs)
aggr_gives place items groups cs a is h = by_items (items_checked (scope_on groups cs) items) (λ checked. checked_plain (scope_on groups cs) items checked) h
  where
    by_condition : (checked : List AggregateItem) → All Plain checked → (r : Result (Option Typed) Refusal) → (r >>= (λ having. groups_typed place (grouping_of groups) true checked having cs)) ≡ Ok a → IsStructure (grouped a cs)
    by_condition checked plain (Ok having) i = gives_structures place (grouping_of groups) true checked having cs a is plain i
    by_condition checked plain (Err refusal) i = cc

    by_items : (r : Result (List AggregateItem) Refusal) → ((checked : List AggregateItem) → r ≡ Ok checked → All Plain checked)
        → (r >>= (λ checked. condition_checked (scope_on groups cs) (having_of groups) >>= (λ having. groups_typed place (grouping_of groups) true checked having cs))) ≡ Ok a → IsStructure (grouped a cs)
    by_items (Ok checked) plain i = by_condition checked (plain checked refl) (condition_checked (scope_on groups cs) (having_of groups)) i
    by_items (Err refusal) plain i = cc
