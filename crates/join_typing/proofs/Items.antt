-- Items of `calc` that typing gives are made on the frame.
use Rattle.std.proofs.Common.{◌≡◌, refl, List, [], ◌∷◌, Option, Some, None, Result, Ok, Err, map, sym, subst}
use Rattle.std.proofs.lemmas.List.Elements.{All-map, All-nil, All-cons, All-weaker}
use Rattle.std.specs.List.{All}
use Rattle.vtl_values.specs.declared.kind.Kind.{Kind}
use Rattle.vtl_values.specs.declared.value.Value.TheVariants.{Null}
use Rattle.vtl_syntax.specs.declared.expr.Item.{Item, out-Item}
use Rattle.scalar_trees.specs.declared.tree.CheckedExpr.TheVariants as tree
use Rattle.scalar_trees.specs.declared.typing.scope.Basis.TheVariants.{Point}
use Rattle.scalar_trees.specs.declared.typing.stop.Refusal.{Refusal}
use Rattle.scalar_trees.specs.declared.typing.typed.Typed.{Typed}
use Rattle.scalar_trees.specs.typing.Scalars.{typed, typed_as}
use Rattle.scalar_trees.specs.typing.Steps.{◌>>=◌}
use Rattle.data_set_trees.specs.declared.clauses.clause.CheckedItem.{CheckedItem}
use Rattle.data_set_trees.specs.declared.clauses.frame.Frame.{Frame}
use Rattle.data_set_trees.specs.clauses.Frames.{scope_of_frame}
use Rattle.data_set_trees.specs.clauses.Clauses.{IsItemOf, item_typed}
use Rattle.data_set_trees.specs.declared.windows.analytic.AnalyticItem.{AnalyticItem}
use Rattle.data_set_trees.specs.declared.windows.analytic.CheckedAnalytic.{CheckedAnalytic}
use Rattle.data_set_trees.specs.windows.Results.{as_item}
use Rattle.data_set_trees.specs.windows.Windows as windows
use Rattle.data_set_trees.specs.windows.Windows.{analytic_item, scalar_item}
use Rattle.expression_rules.specs.OnClauses.{item_checked, items_checked, analytic_value, with_value, analytic_checked, all_analytic_checked}
use Rattle.data_set_parts.proofs.Follows.{gave}

-- what is answered is this
pub answered : {A : Type 0} (x y : A) → ◌≡◌ {A = Result A Refusal} (Ok x) (Ok y) → x ≡ y
answered x y e = cc

-- what was made of what a step gave
pub made_of : {A B : Type 0} (m : Result A Refusal) (make : A → B) (b : B) → (m >>= (λ a. Ok (make a))) ≡ Ok b → (a : A) × (make a ≡ b)
made_of (Ok a) make b is = let same : make a ≡ b = cc in (a, same)
made_of (Err refusal) make b is = cc

module _ (frame : Frame) where
  item_is : (item : Item) (c : CheckedItem) → item_checked frame item ≡ Ok c → IsItemOf frame c
  item_is item c is =
      let value = made_of (typed (scope_of_frame frame) Point (out-Item item).expr) (item_typed frame (out-Item item).role (out-Item item).name) c is in
      record { stated = (out-Item item).role; name = (out-Item item).name; value = value.0; is = sym value.1 }

  pub items_are : (items : List Item) (cs : List CheckedItem) → items_checked frame items ≡ Ok cs → All (IsItemOf frame) cs
  items_are [] cs is = let none : [] ≡ cs = cc in subst (All (IsItemOf frame)) none (All-nil (IsItemOf frame))
  items_are (item ∷ items) cs is =
      let first = gave (item_checked frame item) (λ c. items_checked frame items >>= (λ others. Ok (c ∷ others))) cs is in
      let others = gave (items_checked frame items) (λ others. Ok (first.0 ∷ others)) cs first.2 in
      subst (All (IsItemOf frame)) (same_list first.0 others.0 cs others.2) (All-cons (IsItemOf frame) first.0 others.0 (item_is item first.0 first.1) (items_are items others.0 others.1))
    where
      same_list : (c : CheckedItem) (others cs : List CheckedItem) → (Ok others >>= (λ others. Ok (c ∷ others))) ≡ Ok cs → (c ∷ others) ≡ cs
      same_list c others cs h = cc

  -- an item by its value is made on the frame
  valued_is : (item : Item) (o : Option (Kind × CheckedAnalytic)) (c : AnalyticItem) → with_value frame item o ≡ Ok c → windows.IsItemOf frame c
  valued_is item (Some v) c is =
      let same : analytic_item frame (out-Item item).role (out-Item item).name v ≡ c = cc in
      subst (windows.IsItemOf frame) same (record { stated = (out-Item item).role; name = (out-Item item).name; kind = v.0; value = (analytic_item frame (out-Item item).role (out-Item item).name v).value; is = refl })
  valued_is item None c is =
      let value = made_of (typed (scope_of_frame frame) Point (out-Item item).expr) (scalar_item frame (out-Item item).role (out-Item item).name) c is in
      let own = scalar_item frame (out-Item item).role (out-Item item).name value.0 in
      subst (windows.IsItemOf frame) value.1 (record { stated = (out-Item item).role; name = (out-Item item).name; kind = own.kind; value = own.value; is = refl })

  pub all_are : (items : List Item) (cs : List AnalyticItem) → all_analytic_checked frame items ≡ Ok cs → All (windows.IsItemOf frame) cs
  all_are [] cs is = let none : [] ≡ cs = cc in subst (All (windows.IsItemOf frame)) none (All-nil (windows.IsItemOf frame))
  all_are (item ∷ items) cs is =
      let first = gave (analytic_checked frame item) (λ c. all_analytic_checked frame items >>= (λ others. Ok (c ∷ others))) cs is in
      let others = gave (all_analytic_checked frame items) (λ others. Ok (first.0 ∷ others)) cs first.2 in
      let value = gave (analytic_value (out-Item item).expr frame) (with_value frame item) first.0 first.1 in
      subst (All (windows.IsItemOf frame)) (same_list first.0 others.0 cs others.2)
      (All-cons (windows.IsItemOf frame) first.0 others.0 (valued_is item value.0 first.0 value.2) (all_are items others.0 others.1))
    where
      same_list : (c : AnalyticItem) (others cs : List AnalyticItem) → (Ok others >>= (λ others. Ok (c ∷ others))) ≡ Ok cs → (c ∷ others) ≡ cs
      same_list c others cs h = cc

  -- and so it is an item of `calc`, whatever it is worked out by
  plain_is : (i : AnalyticItem) → windows.IsItemOf frame i → IsItemOf frame (as_item i)
  plain_is i own = record {
    stated = own.stated;
    name = own.name;
    value = typed_as own.kind (tree.Literal Null);
    is = subst (λ (j : AnalyticItem). as_item j ≡ item_typed frame own.stated own.name (typed_as own.kind (tree.Literal Null))) (sym own.is) refl;
  }

  pub plain_are : (items : List Item) (cs : List AnalyticItem) → all_analytic_checked frame items ≡ Ok cs → All (IsItemOf frame) (map as_item cs)
  plain_are items cs is = All-map (IsItemOf frame) as_item cs (All-weaker (windows.IsItemOf frame) (λ i. IsItemOf frame (as_item i)) plain_is cs (all_are items cs is))
