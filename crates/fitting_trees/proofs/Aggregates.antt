-- An aggregate that typing gives is well typed, where the literals in its items and in its condition are in range.
use Rattle.std.proofs.Common.{◌≡◌, refl, ℕ, zero, suc, ◌+◌, Bool, true, false, not, ◌&&◌, ◌||◌, List, [], ◌∷◌, Option, Some, None, Ok, map, ap, sym, subst, ◌∙◌}
use Rattle.std.specs.Prelude.{is_some, slice_get, option_and_then}
use Rattle.std.specs.Option.{option_map, option_map_or}
use Rattle.std.specs.List.{list_all}
use Rattle.vtl_values.specs.declared.kind.Kind.{Kind}
use Rattle.vtl_values.specs.declared.kind.Kind.TheVariants.{Truth, Integer}
use Rattle.vtl_values.specs.declared.kind.Role.TheVariants.{Identifier, Measure}
use Rattle.vtl_values.specs.declared.place.Place.{Place}
use Rattle.vtl_values.specs.declared.structure.Component.{Component}
use Rattle.vtl_syntax.specs.declared.expr.Clause.{Clause}
use Rattle.vtl_syntax.specs.declared.expr.Expr.{Expr}
use Rattle.vtl_syntax.specs.declared.expr.Grouping.{Grouping}
use Rattle.vtl_syntax.specs.declared.expr.Groups.{Groups, out-Groups, roll-out-Groups, fold-roll-Groups, map-Groups}
use Rattle.vtl_syntax.specs.declared.expr.Item.{Item, out-Item}
use Rattle.vtl_syntax.specs.declared.expr.JoinOperand.{JoinOperand}
use Rattle.vtl_syntax.specs.declared.expr.SubstrRange.{SubstrRange}
use Rattle.vtl_syntax.specs.declared.words.AggregateFunction.{AggregateFunction}
use Rattle.vtl_syntax.specs.declared.words.AggregateFunction.TheVariants.{Sum, Avg, Count, Min, Max, Median}
use Rattle.vtl_syntax.specs.declared.words.GroupWord.{GroupWord}
use Rattle.vtl_syntax.specs.declared.words.GroupWord.TheVariants.{By, Except}
use Rattle.vtl_syntax.specs.declared.words.ItemRole.{ItemRole}
use Rattle.vtl_syntax.specs.declared.words.ItemRole.TheVariants as stated
use Rattle.scalar_trees.specs.Kinds.{agreed, aggregate_takes, aggregate_gives}
use Rattle.scalar_trees.specs.WellTyped.{Kinds, is_kind, is_some_kind, given, is_of_kind}
use Rattle.scalar_trees.specs.declared.tree.CheckedExpr.{CheckedExpr}
use Rattle.scalar_trees.specs.declared.tree.CheckedExpr.TheOpen.{CheckedExpr-F}
use Rattle.scalar_trees.specs.declared.tree.CheckedExpr.TheVariants as tree
use Rattle.scalar_trees.specs.declared.typing.scope.Basis.TheVariants.{Point, Group}
use Rattle.scalar_trees.specs.declared.typing.scope.Column.{Column}
use Rattle.scalar_trees.specs.declared.typing.scope.Scope.{Scope}
use Rattle.scalar_trees.specs.declared.typing.stop.Fault.TheVariants.{UnknownComponent, WrongType, WrongRole, NameTwice, TooManyComponents}
use Rattle.scalar_trees.specs.declared.typing.typed.Typed.{Typed}
use Rattle.scalar_trees.specs.typing.Scalars.{typed, wanted, whole_kind}
use Rattle.scalar_trees.specs.typing.Scopes.{kinds_of, kind_at, seen_slot}
use Rattle.scalar_trees.specs.typing.Sound.{IsTypedIf}
use Rattle.scalar_trees.specs.typing.Steps.{◌>>=◌}
use Rattle.scalar_trees.proofs.typing.Sound.{is_kind-refl, both, left, right, rolled}
use Rattle.scalar_trees.proofs.typing.SoundSets.{own-kind}
use Rattle.data_set_trees.specs.clauses.Clauses.{passes_at, role_of}
use Rattle.data_set_trees.specs.clauses.Frames.{frame_of, has_role, numbers_of}
use Rattle.data_set_trees.specs.clauses.WellTyped.{may_be_made}
use Rattle.data_set_trees.specs.declared.aggregates.aggregate.AggregateItem.{AggregateItem}
use Rattle.data_set_trees.specs.declared.aggregates.aggregate.CheckedAggregate.{CheckedAggregate}
use Rattle.data_set_trees.specs.aggregates.Aggregates.{aggregate, aggregate_of, aggregate_checked, aggr_checked, are_known, condition_checked, condition_typed, grouping_of, groups_typed, has_room, having_of, item_checked, item_typed, items_checked, items_of, joined, may_group, names_differ, names_in, on_measures, points_counted, scope_on, takes_all}
use Rattle.data_set_trees.specs.aggregates.Groups.{columns_from, forms_groups, grouping_numbers, is_one_of, kinds_on_groups}
use Rattle.data_set_trees.specs.aggregates.Results.{unordered}
use Rattle.data_set_trees.specs.aggregates.WellTyped.{is_condition, is_item, is_well_typed}
use Rattle.data_set_trees.proofs.aggregates.Grouped.{met}
use Rattle.literal_ranges.specs.Ranges.{all_are, if_given, range_step, clause_range_step, groups_range_step, item_range_step, operand_range_step, part_range_step, literals_in_range, groups_in_range, item_in_range}
use Rattle.fitting_trees.proofs.Clauses.{item-range, wanted-is, whole-is}
use Rattle.fitting_trees.proofs.Numbered.{asked, made-all, one-of-all, numbers-all, TakesOwn, any-own, numeric-own}
use Rattle.fitting_trees.proofs.Scalars.{answered, gave, ranges, scalar-typed}

-- ---- groups

-- what forms groups is an identifier
forming-is : (w : GroupWord) (names : List (List ℕ)) (c : Component) → forms_groups w names c ≡ true → has_role Identifier c ≡ true
forming-is By names c h = left (has_role Identifier c) (is_one_of names c.name) h
forming-is Except names c h = left (has_role Identifier c) (not (is_one_of names c.name)) h

grouping-is : (grouping : Option Grouping) (s : List Component) → list_all (passes_at (has_role Identifier) (frame_of s)) (grouping_numbers grouping s) ≡ true
grouping-is None s = refl
grouping-is (Some g) s =
    numbers-all (passes_at (has_role Identifier) (frame_of s)) (λ number. forms_groups g.word g.names) s
    (λ n c there forms. ap (λ (o : Option Component). option_map_or (has_role Identifier) o false) there ∙ forming-is g.word g.names c forms)

-- ---- kinds on groups

column-kind : (grouping : List ℕ) (k : ℕ) (s : List Component) (n : ℕ) → option_map (λ (c : Column). c.kind) (slice_get (columns_from grouping k s) n) ≡ option_map (λ (c : Component). c.kind) (slice_get s n)
column-kind grouping k [] n = refl
column-kind grouping k (c ∷ cs) zero = refl
column-kind grouping k (c ∷ cs) (suc n) = column-kind grouping (k + 1) cs n

-- on a point each column may be named
seen-kind : (n : ℕ) (o : Option Column) → option_map (λ s. s.kind) (option_and_then (seen_slot Point n) o) ≡ option_map (λ (c : Column). c.kind) o
seen-kind n None = refl
seen-kind n (Some c) = refl

-- an aggregate takes any component at its kind
aggregated-kind : (grouping : List ℕ) (s : List Component) (n : ℕ) (c : Component) → slice_get s n ≡ Some c → kind_at (columns_from grouping 0 s) Point n ≡ Some c.kind
aggregated-kind grouping s n c there = seen-kind n (slice_get (columns_from grouping 0 s) n) ∙ column-kind grouping 0 s n ∙ ap (option_map (λ (d : Component). d.kind)) there

-- ---- measures

module _ (grouping : List ℕ) (s : List Component) where
  abbrev on_groups : Kinds
  on_groups = kinds_on_groups grouping s

  measures-are : (f : AggregateFunction) → TakesOwn (aggregate_takes f) → takes_all f s ≡ true → list_all (is_item on_groups) (on_measures f s) ≡ true
  measures-are f own fit =
      made-all made (is_item on_groups) (numbers_of Measure s) (numbers-all (λ n. option_map_or (is_item on_groups) (made n) true) (λ number. has_role Measure) s one)
    where
      made : ℕ → Option AggregateItem
      made n = option_map (aggregate_of f n) (slice_get s n)

      of-kind : (n : ℕ) (c : Component) → slice_get s n ≡ Some c → agreed (aggregate_takes f) (Some c.kind ∷ []) ≡ Some c.kind → is_of_kind on_groups (tree.Aggregate f n) (aggregate_gives f c.kind) ≡ true
      of-kind n c there at =
          let gives = aggregate_gives f c.kind in
          ap (λ (t : Kind → Bool). t gives) (rolled on_groups (CheckedExpr-F.Aggregate f n) (tree.rolls-Aggregate f n))
          ∙ ap (λ (o : Option Kind). option_map_or (λ kind. given (aggregate_gives f) (is_kind kind) (aggregate_takes f) gives) o false) (aggregated-kind grouping s n c there)
          ∙ ap (λ (o : Option Kind). is_some_kind gives (option_map (aggregate_gives f) o)) (own-kind f c.kind c.kind at)
          ∙ is_kind-refl gives

      one : (n : ℕ) (c : Component) → slice_get s n ≡ Some c → has_role Measure c ≡ true → option_map_or (is_item on_groups) (made n) true ≡ true
      one n c there measured =
          let taken = asked (has_role Measure c) (is_some (agreed (aggregate_takes f) (Some c.kind ∷ []))) measured (one-of-all (λ d. not (has_role Measure d) || is_some (agreed (aggregate_takes f) (Some d.kind ∷ []))) s n c fit there) in
          subst (λ (o : Option Component). option_map_or (is_item on_groups) (option_map (aggregate_of f n) o) true ≡ true) (sym there) (of-kind n c there (own c.kind taken))

  counted-is : is_of_kind on_groups tree.CountAll Integer ≡ true
  counted-is = ap (λ (t : Kind → Bool). t Integer) (rolled on_groups CheckedExpr-F.CountAll tree.rolls-CountAll)

  items-are : (f : AggregateFunction) → takes_all f s ≡ true → list_all (is_item on_groups) (items_of f s) ≡ true
  items-are Count fit = both (is_item on_groups points_counted) true counted-is refl
  items-are Sum fit = measures-are Sum numeric-own fit
  items-are Avg fit = measures-are Avg numeric-own fit
  items-are Min fit = measures-are Min any-own fit
  items-are Max fit = measures-are Max any-own fit
  items-are Median fit = measures-are Median numeric-own fit

-- ---- what typing answers

condition-is : (kinds : Kinds) (place : Place) (having : Option Typed) (c : Option CheckedExpr) → IsTypedIf kinds having → condition_typed place having ≡ Ok c → is_condition kinds c ≡ true
condition-is kinds place None c typed h = subst (λ (d : Option CheckedExpr). is_condition kinds d ≡ true) (answered None c h) refl
condition-is kinds place (Some t) c typed h =
    let truth = gave (wanted place Truth t) (λ u. Ok (Some u)) c h in
    subst (λ (d : Option CheckedExpr). is_condition kinds d ≡ true) (answered (Some truth.0) c truth.2) (wanted-is kinds place Truth t truth.0 typed truth.1)

-- where the items fit and the condition is well typed, so is the aggregate
groups-are : (place : Place) (grouping : Option Grouping) (fit : Bool) (items : List AggregateItem) (having : Option Typed) (s : List Component) (a : CheckedAggregate)
    → (fit ≡ true → list_all (is_item (kinds_on_groups (grouping_numbers grouping s) s)) items ≡ true) → IsTypedIf (kinds_on_groups (grouping_numbers grouping s) s) having
    → groups_typed place grouping fit items having s ≡ Ok a → is_well_typed s a ≡ true
groups-are place grouping fit items having s a well typed h =
    let names = names_in grouping in
    let numbers = grouping_numbers grouping s in
    let kinds = kinds_on_groups numbers s in
    let known = are_known names s in
    let next = λ (c : Option CheckedExpr). joined place names (aggregate numbers items c) s in
    let first = met place ((known, UnknownComponent) ∷ (fit, WrongType) ∷ []) (condition_typed place having >>= next) a h in
    let condition = gave (condition_typed place having) next a first.1 in
    let whole = aggregate numbers items condition.0 in
    let last = met place ((may_group names s, WrongRole) ∷ (names_differ (unordered whole s), NameTwice) ∷ (has_room (unordered whole s), TooManyComponents) ∷ []) (Ok whole) a condition.2 in
    let of_kind = both (list_all (is_item kinds) items) (is_condition kinds condition.0) (well (left fit true (right known (fit && true) first.0))) (condition-is kinds place having condition.0 typed condition.1) in
    subst (λ (b : CheckedAggregate). is_well_typed s b ≡ true) (answered whole a last.1)
    (both (list_all (passes_at (has_role Identifier) (frame_of s)) numbers) (list_all (is_item kinds) items && is_condition kinds condition.0) (grouping-is grouping s) of_kind)

-- ---- expressions

-- one level, whose parts say whether they are in range
groups-level : (grouping : Grouping) (having : Option Expr) (place : Place)
    → groups_range_step (map-Groups Clause Expr Groups Item JoinOperand SubstrRange Bool Bool Bool Bool Bool Bool ranges.on_Clause ranges.on_Expr ranges.on_Groups ranges.on_Item ranges.on_JoinOperand ranges.on_SubstrRange (record { grouping = grouping; having = having; place = place }))
    ≡ if_given (option_map literals_in_range having)
groups-level grouping None place = refl
groups-level grouping (Some e) place = refl

groups-range : (g : Groups) → groups_in_range g ≡ if_given (option_map literals_in_range (out-Groups g).having)
groups-range g =
    let x = out-Groups g in
    ap groups_in_range (sym (roll-out-Groups g)) ∙ fold-roll-Groups Bool Bool Bool Bool Bool Bool clause_range_step range_step groups_range_step item_range_step operand_range_step part_range_step x ∙ groups-level x.grouping x.having x.place

having-range : (groups : Option Groups) → if_given (option_map groups_in_range groups) ≡ true → if_given (option_map literals_in_range (having_of groups)) ≡ true
having-range None r = refl
having-range (Some g) r = sym (groups-range g) ∙ r

having-typed : (scope : Scope) (having : Option Expr) (t : Option Typed) → if_given (option_map literals_in_range having) ≡ true → condition_checked scope having ≡ Ok t → IsTypedIf (kinds_of scope.columns Group) t
having-typed scope None t r h = subst (IsTypedIf (kinds_of scope.columns Group)) (answered None t h) tt
having-typed scope (Some e) t r h =
    let value = gave (typed scope Group e) (λ u. Ok (Some u)) t h in
    subst (IsTypedIf (kinds_of scope.columns Group)) (answered (Some value.0) t value.2) (scalar-typed e r scope Group value.0 value.1)

-- an item is a measure or an attribute
made-plain : (role : Option ItemRole) → may_be_made (role_of role None) ≡ true
made-plain None = refl
made-plain (Some stated.Measure) = refl
made-plain (Some stated.Attribute) = refl

items-typed : (scope : Scope) (items : List Item) (cs : List AggregateItem) → all_are (map item_in_range items) ≡ true → items_checked scope items ≡ Ok cs → list_all (is_item (kinds_of scope.columns Group)) cs ≡ true
items-typed scope [] cs r h = subst (λ (ds : List AggregateItem). list_all (is_item (kinds_of scope.columns Group)) ds ≡ true) (answered [] cs h) refl
items-typed scope (i ∷ items) cs r h =
    let kinds = kinds_of scope.columns Group in
    let item = out-Item i in
    let first = gave (item_checked scope i) (λ c. items_checked scope items >>= (λ ds. Ok (c ∷ ds))) cs h in
    let others = gave (items_checked scope items) (λ ds. Ok (first.0 ∷ ds)) cs first.2 in
    let value = gave (typed scope Group item.expr) (λ t. Ok (item_typed item.role item.name t)) first.0 first.1 in
    let in_range : literals_in_range item.expr ≡ true = sym (item-range i) ∙ left (item_in_range i) (all_are (map item_in_range items)) r in
    let well = whole-is kinds Truth value.0 (scalar-typed item.expr in_range scope Group value.0 value.1) in
    let own = subst (λ (c : AggregateItem). is_item kinds c ≡ true) (answered (item_typed item.role item.name value.0) first.0 value.2)
    (both (may_be_made (role_of item.role None)) (is_of_kind kinds value.0.tree (whole_kind Truth value.0.kind)) (made-plain item.role) well) in
    subst (λ (ds : List AggregateItem). list_all (is_item kinds) ds ≡ true) (answered (first.0 ∷ others.0) cs others.2)
    (both (is_item kinds first.0) (list_all (is_item kinds) others.0) own (items-typed scope items others.0 (right (item_in_range i) (all_are (map item_in_range items)) r) others.1))

-- ---- aggregates

pub aggregate-typed : (f : AggregateFunction) (place : Place) (groups : Option Groups) (s : List Component) (a : CheckedAggregate) → if_given (option_map groups_in_range groups) ≡ true → aggregate_checked f place groups s ≡ Ok a → is_well_typed s a ≡ true
aggregate-typed f place groups s a r h =
    let grouping = grouping_of groups in
    let fit = takes_all f s in
    let having = gave (condition_checked (scope_on groups s) (having_of groups)) (λ t. groups_typed place grouping fit (items_of f s) t s) a h in
    groups-are place grouping fit (items_of f s) having.0 s a (items-are (grouping_numbers grouping s) s f) (having-typed (scope_on groups s) (having_of groups) having.0 (having-range groups r) having.1) having.2

pub aggr-typed : (place : Place) (items : List Item) (groups : Option Groups) (s : List Component) (a : CheckedAggregate) → all_are (map item_in_range items) ≡ true → if_given (option_map groups_in_range groups) ≡ true → aggr_checked place items groups s ≡ Ok a → is_well_typed s a ≡ true
aggr-typed place items groups s a ranged r h =
    let grouping = grouping_of groups in
    let scope = scope_on groups s in
    let checked = gave (items_checked scope items) (λ cs. condition_checked scope (having_of groups) >>= (λ t. groups_typed place grouping true cs t s)) a h in
    let having = gave (condition_checked scope (having_of groups)) (λ t. groups_typed place grouping true checked.0 t s) a checked.2 in
    groups-are place grouping true checked.0 having.0 s a (λ fit. items-typed scope items checked.0 ranged checked.1) (having-typed scope (having_of groups) having.0 (having-range groups r) having.1) having.2
