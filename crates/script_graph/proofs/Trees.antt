-- What a tree mentions where parts of it may be left out or are lists.
use Rattle.std.proofs.Common.{◌≡◌, ℕ, true, List, [], ◌∷◌, ◌++◌, Bool, Option, Some, None, map, refl, sym, ap, ◌∙◌}
use Rattle.std.proofs.Math.Path.{ap₂}
use Rattle.std.specs.Prelude.{ℤ, option_map}
use Rattle.std.specs.List.{flat_map}
use Rattle.std.proofs.lemmas.List.Folds.{flat_map-map}
use Rattle.vtl_values.specs.declared.place.Place.{Place}
use Rattle.vtl_syntax.specs.declared.expr.Expr.{Expr, map-Expr, roll-Expr, fold-roll-Expr}
use Rattle.vtl_syntax.specs.declared.expr.Expr.TheVariants as tree
use Rattle.vtl_syntax.specs.declared.expr.Clause.{Clause, map-Clause, roll-Clause, fold-roll-Clause}
use Rattle.vtl_syntax.specs.declared.expr.Clause.TheVariants as clause
use Rattle.vtl_syntax.specs.declared.expr.Groups.{Groups}
use Rattle.vtl_syntax.specs.declared.expr.Item.{Item}
use Rattle.vtl_syntax.specs.declared.expr.JoinOperand.{JoinOperand}
use Rattle.vtl_syntax.specs.declared.expr.SubstrRange.{SubstrRange}
use Rattle.vtl_syntax.specs.declared.expr.Clause.TheOpen.{Expr-F, Clause-F}
use Rattle.vtl_syntax.specs.declared.words.AggregateFunction.{AggregateFunction}
use Rattle.vtl_syntax.specs.declared.words.CheckOutput.{CheckOutput}
use Rattle.vtl_syntax.specs.declared.words.JoinFunction.{JoinFunction}
use Rattle.vtl_syntax.specs.declared.words.SetFunction.{SetFunction}
use Rattle.vtl_syntax.proofs.Maps.{maps-Substr, maps-Replace, maps-Join, maps-Aggregate, maps-Check, clause_maps-Aggr}
use Rattle.script_graph.specs.Mentions.{Mention, Mentions, optional, optional_inside, each, it, expr_step, clause_step, groups_step, item_step, operand_step, range_step, mentions, clause_mentions, groups_mentions, item_mentions, operand_mentions, range_mentions}

-- ---- parts that have their mentions already

pub optional-map : {A : Type 0} (f : A → Mentions) (x : Option A) (inside : Bool) → optional it (option_map f x) inside ≡ optional f x inside
optional-map f None inside = refl
optional-map f (Some x) inside = refl

pub each-map : {A : Type 0} (f : A → Mentions) (xs : List A) (inside : Bool) → each it (map f xs) inside ≡ each f xs inside
each-map f xs inside = flat_map-map (λ (m : Mentions). m inside) f xs

-- ---- one level

abbrev mapped : Expr-F Clause Expr Groups Item JoinOperand SubstrRange → Expr-F Mentions Mentions Mentions Mentions Mentions Mentions
mapped x = map-Expr Clause Expr Groups Item JoinOperand SubstrRange Mentions Mentions Mentions Mentions Mentions Mentions clause_mentions mentions groups_mentions item_mentions operand_mentions range_mentions x

told : (x : Expr-F Clause Expr Groups Item JoinOperand SubstrRange) (e : Expr) (inside : Bool) → roll-Expr x ≡ e → mentions e inside ≡ expr_step (mapped x) inside
told x e inside is = ap (λ (d : Expr). mentions d inside) (sym is) ∙ ap (λ (m : Mentions). m inside) (fold-roll-Expr Mentions Mentions Mentions Mentions Mentions Mentions clause_step expr_step groups_step item_step operand_step range_step x)

abbrev clause_mapped : Clause-F Clause Expr Groups Item JoinOperand SubstrRange → Clause-F Mentions Mentions Mentions Mentions Mentions Mentions
clause_mapped x = map-Clause Clause Expr Groups Item JoinOperand SubstrRange Mentions Mentions Mentions Mentions Mentions Mentions clause_mentions mentions groups_mentions item_mentions operand_mentions range_mentions x

clause_told : (x : Clause-F Clause Expr Groups Item JoinOperand SubstrRange) (e : Clause) (inside : Bool) → roll-Clause x ≡ e → clause_mentions e inside ≡ clause_step (clause_mapped x) inside
clause_told x e inside is = ap (λ (d : Clause). clause_mentions d inside) (sym is) ∙ ap (λ (m : Mentions). m inside) (fold-roll-Clause Mentions Mentions Mentions Mentions Mentions Mentions clause_step expr_step groups_step item_step operand_step range_step x)

-- ---- the forms

pub mentions-Substr : (a : Expr) (r : Option SubstrRange) (p : Place) (inside : Bool) → mentions (tree.Substr a r p) inside ≡ mentions a inside ++ optional range_mentions r inside
mentions-Substr a r p inside =
    told (Expr-F.Substr a r p) (tree.Substr a r p) inside (tree.rolls-Substr a r p)
    ∙ ap (λ x. expr_step x inside) (maps-Substr Clause Expr Groups Item JoinOperand SubstrRange Mentions Mentions Mentions Mentions Mentions Mentions clause_mentions mentions groups_mentions item_mentions operand_mentions range_mentions a r p)
    ∙ ap (λ ms. mentions a inside ++ ms) (optional-map range_mentions r inside)

pub mentions-Replace : (a b : Expr) (c : Option Expr) (p : Place) (inside : Bool) → mentions (tree.Replace a b c p) inside ≡ (mentions a inside ++ mentions b inside) ++ optional mentions c inside
mentions-Replace a b c p inside =
    told (Expr-F.Replace a b c p) (tree.Replace a b c p) inside (tree.rolls-Replace a b c p)
    ∙ ap (λ x. expr_step x inside) (maps-Replace Clause Expr Groups Item JoinOperand SubstrRange Mentions Mentions Mentions Mentions Mentions Mentions clause_mentions mentions groups_mentions item_mentions operand_mentions range_mentions a b c p)
    ∙ ap (λ ms. (mentions a inside ++ mentions b inside) ++ ms) (optional-map mentions c inside)

pub mentions-Sets : (f : SetFunction) (a b : Expr) (cs : List Expr) (p : Place) (inside : Bool) → mentions (tree.Sets f a b cs p) inside ≡ (mentions a inside ++ mentions b inside) ++ each mentions cs inside
mentions-Sets f a b cs p inside =
    told (Expr-F.Sets f a b cs p) (tree.Sets f a b cs p) inside (tree.rolls-Sets f a b cs p)
    ∙ ap (λ ms. (mentions a inside ++ mentions b inside) ++ ms) (each-map mentions cs inside)

pub mentions-CallOf : (w : List ℕ) (cs : List Expr) (p : Place) (inside : Bool) → mentions (tree.CallOf w cs p) inside ≡ each mentions cs inside
mentions-CallOf w cs p inside =
    told (Expr-F.CallOf w cs p) (tree.CallOf w cs p) inside (tree.rolls-CallOf w cs p)
    ∙ each-map mentions cs inside

pub mentions-Aggregate : (f : AggregateFunction) (a : Expr) (g : Option Groups) (p : Place) (inside : Bool) → mentions (tree.Aggregate f a g p) inside ≡ mentions a inside ++ optional_inside groups_mentions g
mentions-Aggregate f a g p inside =
    told (Expr-F.Aggregate f a g p) (tree.Aggregate f a g p) inside (tree.rolls-Aggregate f a g p)
    ∙ ap (λ x. expr_step x inside) (maps-Aggregate Clause Expr Groups Item JoinOperand SubstrRange Mentions Mentions Mentions Mentions Mentions Mentions clause_mentions mentions groups_mentions item_mentions operand_mentions range_mentions f a g p)
    ∙ ap (λ ms. mentions a inside ++ ms) (optional-map groups_mentions g true)

pub mentions-Check : (a : Expr) (c : Option (List ℕ)) (l : Option ℤ) (i : Option Expr) (o : Option CheckOutput) (p : Place) (inside : Bool) → mentions (tree.Check a c l i o p) inside ≡ mentions a inside ++ optional mentions i inside
mentions-Check a c l i o p inside =
    told (Expr-F.Check a c l i o p) (tree.Check a c l i o p) inside (tree.rolls-Check a c l i o p)
    ∙ ap (λ x. expr_step x inside) (maps-Check Clause Expr Groups Item JoinOperand SubstrRange Mentions Mentions Mentions Mentions Mentions Mentions clause_mentions mentions groups_mentions item_mentions operand_mentions range_mentions a c l i o p)
    ∙ ap (λ ms. mentions a inside ++ ms) (optional-map mentions i inside)

-- the clauses of a join
abbrev pub four : Option Clause → Option Clause → Option Clause → Option Clause → List Mention
four u v w x = (optional_inside clause_mentions u ++ optional_inside clause_mentions v) ++ (optional_inside clause_mentions w ++ optional_inside clause_mentions x)

four-map : (u v w x : Option Clause) → (optional_inside it (option_map clause_mentions u) ++ optional_inside it (option_map clause_mentions v)) ++ (optional_inside it (option_map clause_mentions w) ++ optional_inside it (option_map clause_mentions x)) ≡ four u v w x
four-map u v w x = ap₂ (λ (a b : List Mention). a ++ b)
    (ap₂ (λ (a b : List Mention). a ++ b) (optional-map clause_mentions u true) (optional-map clause_mentions v true))
    (ap₂ (λ (a b : List Mention). a ++ b) (optional-map clause_mentions w true) (optional-map clause_mentions x true))

pub mentions-Join : (f : JoinFunction) (a b : JoinOperand) (cs : List JoinOperand) (u v w x : Option Clause) (p : Place) (inside : Bool) → mentions (tree.Join f a b cs u v w x p) inside ≡ ((operand_mentions a inside ++ operand_mentions b inside) ++ each operand_mentions cs inside) ++ four u v w x
mentions-Join f a b cs u v w x p inside =
    told (Expr-F.Join f a b cs u v w x p) (tree.Join f a b cs u v w x p) inside (tree.rolls-Join f a b cs u v w x p)
    ∙ ap (λ y. expr_step y inside) (maps-Join Clause Expr Groups Item JoinOperand SubstrRange Mentions Mentions Mentions Mentions Mentions Mentions clause_mentions mentions groups_mentions item_mentions operand_mentions range_mentions f a b cs u v w x p)
    ∙ ap₂ (λ (ms ns : List Mention). ((operand_mentions a inside ++ operand_mentions b inside) ++ ms) ++ ns) (each-map operand_mentions cs inside) (four-map u v w x)

pub clause-Calc : (is : List Item) (p : Place) (inside : Bool) → clause_mentions (clause.Calc is p) inside ≡ each item_mentions is inside
clause-Calc is p inside = clause_told (Clause-F.Calc is p) (clause.Calc is p) inside (clause.rolls-Calc is p) ∙ each-map item_mentions is inside

pub clause-Aggr : (is : List Item) (g : Option Groups) (p : Place) (inside : Bool) → clause_mentions (clause.Aggr is g p) inside ≡ each item_mentions is inside ++ optional groups_mentions g inside
clause-Aggr is g p inside =
    clause_told (Clause-F.Aggr is g p) (clause.Aggr is g p) inside (clause.rolls-Aggr is g p)
    ∙ ap (λ x. clause_step x inside) (clause_maps-Aggr Clause Expr Groups Item JoinOperand SubstrRange Mentions Mentions Mentions Mentions Mentions Mentions clause_mentions mentions groups_mentions item_mentions operand_mentions range_mentions is g p)
    ∙ ap₂ (λ (ms ns : List Mention). ms ++ ns) (each-map item_mentions is inside) (optional-map groups_mentions g inside)
