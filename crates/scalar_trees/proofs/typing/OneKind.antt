-- A well typed tree has one kind, the literal null aside.
use Rattle.std.proofs.Common.{◌≡◌, ◌⊎◌, inl, inr, Bool, true, false, Option, Some, None, find, refl, sym, ap, ◌∙◌}
use Rattle.std.specs.Prelude.{◌&&◌, not}
use Rattle.std.specs.List.{list_all}
use Rattle.std.specs.Option.{option_map, option_map_or}
use Rattle.vtl_values.specs.declared.kind.Kind.{Kind}
use Rattle.vtl_values.specs.declared.kind.Kind.TheVariants.{Integer, Number, Text, Truth}
use Rattle.vtl_values.specs.declared.value.Value.{Value}
use Rattle.vtl_values.specs.declared.value.Value.TheVariants as value
use Rattle.scalar_texts.specs.Patterns.{is_pattern}
use Rattle.scalar_trees.specs.declared.tree.CheckedExpr.{CheckedExpr, roll-CheckedExpr, map-CheckedExpr}
use Rattle.scalar_trees.specs.declared.tree.CheckedExpr.TheVariants as tree
use Rattle.scalar_trees.specs.declared.tree.CheckedExpr.TheOpen.{CheckedExpr-F}
use Rattle.scalar_trees.specs.Kinds.{ANY, unary_takes, unary_gives, binary_takes, binary_gives, aggregate_takes, aggregate_gives, round_gives, sort_takes}
use Rattle.scalar_trees.specs.WellTyped.{Kinds, is_kind, is_some_kind, in_range, fits, is_of_set, digits_fit, given, same, truth, typed_step, is_of_kind}
use Rattle.scalar_trees.proofs.typing.Sound.{is_kind-same, right, rolled}
use Rattle.scalar_trees.proofs.typing.SeenTrees.{view}

-- what is there is of one kind
some-same : (o : Option Kind) (j k : Kind) → is_some_kind j o ≡ true → is_some_kind k o ≡ true → j ≡ k
some-same None j k h i = cc
some-same (Some q) j k h i = sym (is_kind-same q j h) ∙ is_kind-same q k i

-- what gives one kind under a condition
last-same : (b : Bool) (q j k : Kind) → (b && is_kind q j) ≡ true → (b && is_kind q k) ≡ true → j ≡ k
last-same b q j k h i = sym (is_kind-same q j (right b (is_kind q j) h)) ∙ is_kind-same q k (right b (is_kind q k) i)

literal-same : (v : Value) (j k : Kind) → fits j v ≡ true → fits k v ≡ true → (j ≡ k) ⊎ (v ≡ value.Null)
literal-same value.Null j k h i = inr refl
literal-same (value.Integer n) j k h i = inl (last-same (in_range (value.Integer n)) Integer j k h i)
literal-same (value.Number n) j k h i = inl (last-same (in_range (value.Number n)) Number j k h i)
literal-same (value.Text cs) j k h i = inl (last-same true Text j k h i)
literal-same (value.Truth b) j k h i = inl (last-same true Truth j k h i)

aggregate-same : (o : Option Kind) (p : Kind → Kind → Bool) (j k : Kind) → ((q : Kind) → p q j ≡ true → p q k ≡ true → j ≡ k) → option_map_or (λ q. p q j) o false ≡ true → option_map_or (λ q. p q k) o false ≡ true → j ≡ k
aggregate-same None p j k h e f = cc
aggregate-same (Some q) p j k h e f = h q e f

literal-layer : (v : Value) (j k : Kind) → (j ≡ k) ⊎ (v ≡ value.Null) → (j ≡ k) ⊎ (◌≡◌ {A = CheckedExpr-F CheckedExpr} (CheckedExpr-F.Literal v) (CheckedExpr-F.Literal value.Null))
literal-layer v j k (inl e) = inl e
literal-layer v j k (inr e) = inr (ap {B = CheckedExpr-F CheckedExpr} CheckedExpr-F.Literal e)

module _ (kinds : Kinds) where
  abbrev Tests : Type 0
  Tests = Kind → Bool

  layer-same : (x : CheckedExpr-F CheckedExpr) (j k : Kind) → typed_step kinds (map-CheckedExpr CheckedExpr Tests (is_of_kind kinds) x) j ≡ true → typed_step kinds (map-CheckedExpr CheckedExpr Tests (is_of_kind kinds) x) k ≡ true → (j ≡ k) ⊎ (x ≡ CheckedExpr-F.Literal value.Null)
  layer-same (CheckedExpr-F.Literal v) j k h i = literal-layer v j k (literal-same v j k h i)
  layer-same (CheckedExpr-F.Component n) j k h i = inl (some-same (kinds.component n) j k h i)
  layer-same (CheckedExpr-F.Widened a) j k h i = inl (last-same (is_of_kind kinds a Integer && not (is_of_kind kinds a Number)) Number j k h i)
  layer-same (CheckedExpr-F.Unary o a) j k h i = inl (some-same (option_map (unary_gives o) (find (is_of_kind kinds a) (unary_takes o))) j k h i)
  layer-same (CheckedExpr-F.Binary o a b) j k h i = inl (some-same (option_map (binary_gives o) (find (λ q. is_of_kind kinds a q && is_of_kind kinds b q) (binary_takes o))) j k h i)
  layer-same (CheckedExpr-F.Nvl a b) j k h i = inl (some-same (option_map same (find (λ q. is_of_kind kinds a q && is_of_kind kinds b q) ANY)) j k h i)
  layer-same (CheckedExpr-F.If c a b) j k h i =
      inl (some-same (option_map same (find (λ q. is_of_kind kinds a q && is_of_kind kinds b q) ANY)) j k (right (is_of_kind kinds c Truth) (given same (λ q. is_of_kind kinds a q && is_of_kind kinds b q) ANY j) h) (right (is_of_kind kinds c Truth) (given same (λ q. is_of_kind kinds a q && is_of_kind kinds b q) ANY k) i))
  layer-same (CheckedExpr-F.In a sign set) j k h i = inl (some-same (option_map truth (find (λ q. is_of_kind kinds a q && list_all (is_of_set q) set) ANY)) j k h i)
  layer-same (CheckedExpr-F.Between a low high) j k h i = inl (some-same (option_map truth (find (λ q. is_of_kind kinds a q && (fits q low && fits q high)) ANY)) j k h i)
  layer-same (CheckedExpr-F.Round f a digits) j k h i = inl (last-same (is_of_kind kinds a Number && digits_fit digits) (round_gives digits) j k h i)
  layer-same (CheckedExpr-F.Substr a None None) j k h i = inl (last-same (is_of_kind kinds a Text && true) Text j k h i)
  layer-same (CheckedExpr-F.Substr a (Some b) None) j k h i = inl (last-same (is_of_kind kinds a Text && (is_of_kind kinds b Integer && true)) Text j k h i)
  layer-same (CheckedExpr-F.Substr a None (Some c)) j k h i = inl (last-same (is_of_kind kinds a Text && is_of_kind kinds c Integer) Text j k h i)
  layer-same (CheckedExpr-F.Substr a (Some b) (Some c)) j k h i = inl (last-same (is_of_kind kinds a Text && (is_of_kind kinds b Integer && is_of_kind kinds c Integer)) Text j k h i)
  layer-same (CheckedExpr-F.Replace a b None) j k h i = inl (last-same (is_of_kind kinds a Text && (is_of_kind kinds b Text && true)) Text j k h i)
  layer-same (CheckedExpr-F.Replace a b (Some c)) j k h i = inl (last-same (is_of_kind kinds a Text && (is_of_kind kinds b Text && is_of_kind kinds c Text)) Text j k h i)
  layer-same (CheckedExpr-F.Matches a pattern) j k h i = inl (last-same (is_of_kind kinds a Text && is_pattern pattern) Truth j k h i)
  layer-same (CheckedExpr-F.OfSort sort a) j k h i = inl (some-same (option_map same (find (is_of_kind kinds a) (sort_takes sort))) j k h i)
  layer-same (CheckedExpr-F.Aggregate f n) j k h i = inl (aggregate-same (kinds.aggregated n) (λ q r. given (aggregate_gives f) (is_kind q) (aggregate_takes f) r) j k (λ q. some-same (option_map (aggregate_gives f) (find (is_kind q) (aggregate_takes f))) j k) h i)
  layer-same CheckedExpr-F.CountAll j k h i = inl (last-same kinds.counted Integer j k h i)

  pub one-kind : (t : CheckedExpr) (j k : Kind) → is_of_kind kinds t j ≡ true → is_of_kind kinds t k ≡ true → (j ≡ k) ⊎ (t ≡ tree.Literal value.Null)
  one-kind t j k h i =
      let v = view t in
      let same : is_of_kind kinds t ≡ typed_step kinds (map-CheckedExpr CheckedExpr Tests (is_of_kind kinds) v.0) = rolled kinds v.0 v.1 in
      at v.0 v.1 (layer-same v.0 j k (ap (λ (f : Tests). f j) (sym same) ∙ h) (ap (λ (f : Tests). f k) (sym same) ∙ i))
    where
      at : (x : CheckedExpr-F CheckedExpr) → roll-CheckedExpr x ≡ t → (j ≡ k) ⊎ (x ≡ CheckedExpr-F.Literal value.Null) → (j ≡ k) ⊎ (t ≡ tree.Literal value.Null)
      at x is (inl e) = inl e
      at x is (inr e) = inr (sym is ∙ ap roll-CheckedExpr e ∙ tree.rolls-Literal value.Null)
