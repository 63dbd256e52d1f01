-- A name that is longer than all names in a tree stands nowhere in it.
use mathlib.Core.Sorted.{Row, over, Sorted, arity, children, build, map-children, map-build}
use Rattle.std.proofs.Common.{◌≡◌, ℕ, ◌+◌, ◌<◌, Bool, true, false, if◌then◌else◌, List, [], ◌∷◌, length, map, refl, sym, ap, ◌∙◌, subst, arith}
use Rattle.std.specs.Cmp.Lexicographic.{same_text}
use Rattle.vtl_syntax.specs.declared.expr.Clause.TheBlock.{the_members, member-Clause, member-Expr, member-Groups, member-Item, member-JoinOperand, member-SubstrRange, body-Clause, body-Expr, body-Groups, body-Item, body-JoinOperand, body-SubstrRange}
use Rattle.vtl_syntax.specs.declared.expr.Clause.TheOpen.{Expr-F, Clause-F, Groups-F, Item-F, JoinOperand-F, SubstrRange-F}
use Rattle.vtl_syntax.specs.declared.expr.Clause.{Clause, roll-Clause, fold-roll-Clause, map_is-Clause, ind-Clause}
use Rattle.vtl_syntax.specs.declared.expr.Expr.{Expr, roll-Expr, fold-roll-Expr, map_is-Expr, ind-Expr}
use Rattle.vtl_syntax.specs.declared.expr.Expr.TheVariants as tree
use Rattle.vtl_syntax.specs.declared.expr.Groups.{Groups, roll-Groups, fold-roll-Groups, map_is-Groups, ind-Groups}
use Rattle.vtl_syntax.specs.declared.expr.Item.{Item, roll-Item, fold-roll-Item, map_is-Item, ind-Item}
use Rattle.vtl_syntax.specs.declared.expr.JoinOperand.{JoinOperand, roll-JoinOperand, fold-roll-JoinOperand, map_is-JoinOperand, ind-JoinOperand}
use Rattle.vtl_syntax.specs.declared.expr.SubstrRange.{SubstrRange, roll-SubstrRange, fold-roll-SubstrRange, map_is-SubstrRange, ind-SubstrRange}
use Rattle.operator_faults.specs.Names.{same_word}
use Rattle.tree_copies.specs.Made.{made_step, same_call}
use Rattle.tree_copies.proofs.Layers.{Family, at, Maps, each, over-Clause, over-Expr, over-Groups, over-Item, over-JoinOperand, over-SubstrRange}
use Rattle.replaced_calls.specs.Steps.{put_in}
use Rattle.replaced_calls.proofs.Alike.{Trees, making}

-- something is put in the place of a name, in each kind of part
abbrev pub putting : List ℕ → Expr → Maps Trees Trees
putting h e = making (put_in h e) same_call

-- ---- parts of which it is known

-- names that are longer than that stand nowhere in it
pub record IsFresh (j : the_members) (x : at Trees j) : Type 0 where
  pub bound : ℕ
  pub stays : (h : List ℕ) (e : Expr) → bound < length h → each (putting h e) j x ≡ x

module _ (X : the_members → Type 0) (first : (j : the_members) → X j → at Trees j) (fresh : (j : the_members) (s : X j) → IsFresh j (first j s)) where
  abbrev bounds : (n : List the_members) → Row the_members X n → ℕ
  bounds [] v = 0
  bounds (j ∷ n) v = (fresh j v.0).bound + bounds n v.1

  row_stays : (h : List ℕ) (e : Expr) (n : List the_members) (v : Row the_members X n) → bounds n v < length h
      → over the_members (at Trees) (at Trees) (each (putting h e)) n (over the_members X (at Trees) first n v) ≡ over the_members X (at Trees) first n v
  row_stays h e [] v long = refl
  row_stays h e (j ∷ n) v long =
      let here : (fresh j v.0).bound < length h = omega arith in
      let later : bounds n v.1 < length h = omega arith in
      λ i. ((fresh j v.0).stays h e here i, row_stays h e n v.1 later i)

  abbrev layer_bound : (f : Sorted {0} the_members) → f.Of X → ℕ
  layer_bound f y = bounds (arity the_members f (f.shape X y)) (children the_members f X y)

  layer_stays : (f : Sorted {0} the_members) (y : f.Of X) (h : List ℕ) (e : Expr) → layer_bound f y < length h
      → f.map (at Trees) (at Trees) (each (putting h e)) (f.map X (at Trees) first y) ≡ f.map X (at Trees) first y
  layer_stays f y h e long =
      let a = f.shape X y in
      let v = children the_members f X y in
      let is = map-children the_members f X (at Trees) first y in
      ap (f.map (at Trees) (at Trees) (each (putting h e))) is
      ∙ map-build the_members f (at Trees) (at Trees) (each (putting h e)) a (over the_members X (at Trees) first (arity the_members f a) v)
      ∙ ap (build the_members f (at Trees) a) (row_stays h e (arity the_members f a) v long)
      ∙ sym is

-- ---- each tree

abbrev Known : Family
Known = record { of_Clause = (x : Clause) × IsFresh member-Clause x; of_Expr = (x : Expr) × IsFresh member-Expr x; of_Groups = (x : Groups) × IsFresh member-Groups x; of_Item = (x : Item) × IsFresh member-Item x; of_JoinOperand = (x : JoinOperand) × IsFresh member-JoinOperand x; of_SubstrRange = (x : SubstrRange) × IsFresh member-SubstrRange x }

abbrev tree_in : Maps Known Trees
tree_in = record { on_Clause = λ s. s.0; on_Expr = λ s. s.0; on_Groups = λ s. s.0; on_Item = λ s. s.0; on_JoinOperand = λ s. s.0; on_SubstrRange = λ s. s.0 }

abbrev fresh_in : (j : the_members) (s : at Known j) → IsFresh j (each tree_in j s)
fresh_in member-Clause s = s.1
fresh_in member-Expr s = s.1
fresh_in member-Groups s = s.1
fresh_in member-Item s = s.1
fresh_in member-JoinOperand s = s.1
fresh_in member-SubstrRange s = s.1

abbrev bound_in : (f : Sorted {0} the_members) → f.Of (at Known) → ℕ
bound_in f y = layer_bound (at Known) (each tree_in) fresh_in f y

over_clause : (h : List ℕ) (e : Expr) (y : Clause-F Known.of_Clause Known.of_Expr Known.of_Groups Known.of_Item Known.of_JoinOperand Known.of_SubstrRange) → bound_in body-Clause y < length h → over-Clause (putting h e) (over-Clause tree_in y) ≡ over-Clause tree_in y
over_clause h e y long =
    let is = map_is-Clause (at Known) (at Trees) (each tree_in) y in
    ap (over-Clause (putting h e)) (sym is) ∙ sym (map_is-Clause (at Trees) (at Trees) (each (putting h e)) ((body-Clause).map (at Known) (at Trees) (each tree_in) y))
    ∙ layer_stays (at Known) (each tree_in) fresh_in body-Clause y h e long ∙ is

over_expr : (h : List ℕ) (e : Expr) (y : Expr-F Known.of_Clause Known.of_Expr Known.of_Groups Known.of_Item Known.of_JoinOperand Known.of_SubstrRange) → bound_in body-Expr y < length h → over-Expr (putting h e) (over-Expr tree_in y) ≡ over-Expr tree_in y
over_expr h e y long =
    let is = map_is-Expr (at Known) (at Trees) (each tree_in) y in
    ap (over-Expr (putting h e)) (sym is) ∙ sym (map_is-Expr (at Trees) (at Trees) (each (putting h e)) ((body-Expr).map (at Known) (at Trees) (each tree_in) y))
    ∙ layer_stays (at Known) (each tree_in) fresh_in body-Expr y h e long ∙ is

over_groups : (h : List ℕ) (e : Expr) (y : Groups-F Known.of_Clause Known.of_Expr Known.of_Groups Known.of_Item Known.of_JoinOperand Known.of_SubstrRange) → bound_in body-Groups y < length h → over-Groups (putting h e) (over-Groups tree_in y) ≡ over-Groups tree_in y
over_groups h e y long =
    let is = map_is-Groups (at Known) (at Trees) (each tree_in) y in
    ap (over-Groups (putting h e)) (sym is) ∙ sym (map_is-Groups (at Trees) (at Trees) (each (putting h e)) ((body-Groups).map (at Known) (at Trees) (each tree_in) y))
    ∙ layer_stays (at Known) (each tree_in) fresh_in body-Groups y h e long ∙ is

over_item : (h : List ℕ) (e : Expr) (y : Item-F Known.of_Clause Known.of_Expr Known.of_Groups Known.of_Item Known.of_JoinOperand Known.of_SubstrRange) → bound_in body-Item y < length h → over-Item (putting h e) (over-Item tree_in y) ≡ over-Item tree_in y
over_item h e y long =
    let is = map_is-Item (at Known) (at Trees) (each tree_in) y in
    ap (over-Item (putting h e)) (sym is) ∙ sym (map_is-Item (at Trees) (at Trees) (each (putting h e)) ((body-Item).map (at Known) (at Trees) (each tree_in) y))
    ∙ layer_stays (at Known) (each tree_in) fresh_in body-Item y h e long ∙ is

over_operand : (h : List ℕ) (e : Expr) (y : JoinOperand-F Known.of_Clause Known.of_Expr Known.of_Groups Known.of_Item Known.of_JoinOperand Known.of_SubstrRange) → bound_in body-JoinOperand y < length h → over-JoinOperand (putting h e) (over-JoinOperand tree_in y) ≡ over-JoinOperand tree_in y
over_operand h e y long =
    let is = map_is-JoinOperand (at Known) (at Trees) (each tree_in) y in
    ap (over-JoinOperand (putting h e)) (sym is) ∙ sym (map_is-JoinOperand (at Trees) (at Trees) (each (putting h e)) ((body-JoinOperand).map (at Known) (at Trees) (each tree_in) y))
    ∙ layer_stays (at Known) (each tree_in) fresh_in body-JoinOperand y h e long ∙ is

over_range : (h : List ℕ) (e : Expr) (y : SubstrRange-F Known.of_Clause Known.of_Expr Known.of_Groups Known.of_Item Known.of_JoinOperand Known.of_SubstrRange) → bound_in body-SubstrRange y < length h → over-SubstrRange (putting h e) (over-SubstrRange tree_in y) ≡ over-SubstrRange tree_in y
over_range h e y long =
    let is = map_is-SubstrRange (at Known) (at Trees) (each tree_in) y in
    ap (over-SubstrRange (putting h e)) (sym is) ∙ sym (map_is-SubstrRange (at Trees) (at Trees) (each (putting h e)) ((body-SubstrRange).map (at Known) (at Trees) (each tree_in) y))
    ∙ layer_stays (at Known) (each tree_in) fresh_in body-SubstrRange y h e long ∙ is

clause_fresh : (y : Clause-F Known.of_Clause Known.of_Expr Known.of_Groups Known.of_Item Known.of_JoinOperand Known.of_SubstrRange) → IsFresh member-Clause (roll-Clause (over-Clause tree_in y))
clause_fresh y = record { bound = bound_in body-Clause y; stays = λ h e long. fold-roll-Clause Clause Expr Groups Item JoinOperand SubstrRange roll-Clause (made_step (put_in h e) same_call) roll-Groups roll-Item roll-JoinOperand roll-SubstrRange (over-Clause tree_in y) ∙ ap roll-Clause (over_clause h e y long) }

groups_fresh : (y : Groups-F Known.of_Clause Known.of_Expr Known.of_Groups Known.of_Item Known.of_JoinOperand Known.of_SubstrRange) → IsFresh member-Groups (roll-Groups (over-Groups tree_in y))
groups_fresh y = record { bound = bound_in body-Groups y; stays = λ h e long. fold-roll-Groups Clause Expr Groups Item JoinOperand SubstrRange roll-Clause (made_step (put_in h e) same_call) roll-Groups roll-Item roll-JoinOperand roll-SubstrRange (over-Groups tree_in y) ∙ ap roll-Groups (over_groups h e y long) }

item_fresh : (y : Item-F Known.of_Clause Known.of_Expr Known.of_Groups Known.of_Item Known.of_JoinOperand Known.of_SubstrRange) → IsFresh member-Item (roll-Item (over-Item tree_in y))
item_fresh y = record { bound = bound_in body-Item y; stays = λ h e long. fold-roll-Item Clause Expr Groups Item JoinOperand SubstrRange roll-Clause (made_step (put_in h e) same_call) roll-Groups roll-Item roll-JoinOperand roll-SubstrRange (over-Item tree_in y) ∙ ap roll-Item (over_item h e y long) }

operand_fresh : (y : JoinOperand-F Known.of_Clause Known.of_Expr Known.of_Groups Known.of_Item Known.of_JoinOperand Known.of_SubstrRange) → IsFresh member-JoinOperand (roll-JoinOperand (over-JoinOperand tree_in y))
operand_fresh y = record { bound = bound_in body-JoinOperand y; stays = λ h e long. fold-roll-JoinOperand Clause Expr Groups Item JoinOperand SubstrRange roll-Clause (made_step (put_in h e) same_call) roll-Groups roll-Item roll-JoinOperand roll-SubstrRange (over-JoinOperand tree_in y) ∙ ap roll-JoinOperand (over_operand h e y long) }

range_fresh : (y : SubstrRange-F Known.of_Clause Known.of_Expr Known.of_Groups Known.of_Item Known.of_JoinOperand Known.of_SubstrRange) → IsFresh member-SubstrRange (roll-SubstrRange (over-SubstrRange tree_in y))
range_fresh y = record { bound = bound_in body-SubstrRange y; stays = λ h e long. fold-roll-SubstrRange Clause Expr Groups Item JoinOperand SubstrRange roll-Clause (made_step (put_in h e) same_call) roll-Groups roll-Item roll-JoinOperand roll-SubstrRange (over-SubstrRange tree_in y) ∙ ap roll-SubstrRange (over_range h e y long) }

longer : (h w : List ℕ) → length w < length h → (b : Bool) → same_word h w ≡ b → b ≡ false
longer h w long true same = let is : length h ≡ length w = ap (λ (k : List ℕ). length k) (same_text h w (sym same)) in absurd (omega arith)
longer h w long false same = refl

other_fresh : (y : Expr-F Known.of_Clause Known.of_Expr Known.of_Groups Known.of_Item Known.of_JoinOperand Known.of_SubstrRange) → ((h : List ℕ) (e : Expr) → made_step (put_in h e) same_call (over-Expr (putting h e) (over-Expr tree_in y)) ≡ roll-Expr (over-Expr (putting h e) (over-Expr tree_in y))) → IsFresh member-Expr (roll-Expr (over-Expr tree_in y))
other_fresh y step = record { bound = bound_in body-Expr y; stays = λ h e long. fold-roll-Expr Clause Expr Groups Item JoinOperand SubstrRange roll-Clause (made_step (put_in h e) same_call) roll-Groups roll-Item roll-JoinOperand roll-SubstrRange (over-Expr tree_in y) ∙ step h e ∙ ap roll-Expr (over_expr h e y long) }

expr_fresh : (y : Expr-F Known.of_Clause Known.of_Expr Known.of_Groups Known.of_Item Known.of_JoinOperand Known.of_SubstrRange) → IsFresh member-Expr (roll-Expr (over-Expr tree_in y))
expr_fresh (Expr-F.Name w p) = record { bound = length w; stays = λ h e long. fold-roll-Expr Clause Expr Groups Item JoinOperand SubstrRange roll-Clause (made_step (put_in h e) same_call) roll-Groups roll-Item roll-JoinOperand roll-SubstrRange (Expr-F.Name w p) ∙ ap (λ (b : Bool). if b then e else tree.Name w p) (longer h w long (same_word h w) refl) ∙ sym (tree.rolls-Name w p) }
expr_fresh (Expr-F.CallOf w ys p) = other_fresh (Expr-F.CallOf w ys p) (λ h e. sym (tree.rolls-CallOf w (map (putting h e).on_Expr (map tree_in.on_Expr ys)) p))
expr_fresh y = other_fresh y (λ h e. refl)

-- each tree has such a bound
pub fresh : (j : the_members) (x : at Trees j) → IsFresh j x
fresh member-Clause t = ind-Clause (λ x. IsFresh member-Clause x) (λ x. IsFresh member-Expr x) (λ x. IsFresh member-Groups x) (λ x. IsFresh member-Item x) (λ x. IsFresh member-JoinOperand x) (λ x. IsFresh member-SubstrRange x)
    (λ x y is. subst (λ (z : Clause-F Clause Expr Groups Item JoinOperand SubstrRange). IsFresh member-Clause (roll-Clause z)) is (clause_fresh y))
    (λ x y is. subst (λ (z : Expr-F Clause Expr Groups Item JoinOperand SubstrRange). IsFresh member-Expr (roll-Expr z)) is (expr_fresh y))
    (λ x y is. subst (λ (z : Groups-F Clause Expr Groups Item JoinOperand SubstrRange). IsFresh member-Groups (roll-Groups z)) is (groups_fresh y))
    (λ x y is. subst (λ (z : Item-F Clause Expr Groups Item JoinOperand SubstrRange). IsFresh member-Item (roll-Item z)) is (item_fresh y))
    (λ x y is. subst (λ (z : JoinOperand-F Clause Expr Groups Item JoinOperand SubstrRange). IsFresh member-JoinOperand (roll-JoinOperand z)) is (operand_fresh y))
    (λ x y is. subst (λ (z : SubstrRange-F Clause Expr Groups Item JoinOperand SubstrRange). IsFresh member-SubstrRange (roll-SubstrRange z)) is (range_fresh y))
    t
fresh member-Expr t = ind-Expr (λ x. IsFresh member-Clause x) (λ x. IsFresh member-Expr x) (λ x. IsFresh member-Groups x) (λ x. IsFresh member-Item x) (λ x. IsFresh member-JoinOperand x) (λ x. IsFresh member-SubstrRange x)
    (λ x y is. subst (λ (z : Clause-F Clause Expr Groups Item JoinOperand SubstrRange). IsFresh member-Clause (roll-Clause z)) is (clause_fresh y))
    (λ x y is. subst (λ (z : Expr-F Clause Expr Groups Item JoinOperand SubstrRange). IsFresh member-Expr (roll-Expr z)) is (expr_fresh y))
    (λ x y is. subst (λ (z : Groups-F Clause Expr Groups Item JoinOperand SubstrRange). IsFresh member-Groups (roll-Groups z)) is (groups_fresh y))
    (λ x y is. subst (λ (z : Item-F Clause Expr Groups Item JoinOperand SubstrRange). IsFresh member-Item (roll-Item z)) is (item_fresh y))
    (λ x y is. subst (λ (z : JoinOperand-F Clause Expr Groups Item JoinOperand SubstrRange). IsFresh member-JoinOperand (roll-JoinOperand z)) is (operand_fresh y))
    (λ x y is. subst (λ (z : SubstrRange-F Clause Expr Groups Item JoinOperand SubstrRange). IsFresh member-SubstrRange (roll-SubstrRange z)) is (range_fresh y))
    t
fresh member-Groups t = ind-Groups (λ x. IsFresh member-Clause x) (λ x. IsFresh member-Expr x) (λ x. IsFresh member-Groups x) (λ x. IsFresh member-Item x) (λ x. IsFresh member-JoinOperand x) (λ x. IsFresh member-SubstrRange x)
    (λ x y is. subst (λ (z : Clause-F Clause Expr Groups Item JoinOperand SubstrRange). IsFresh member-Clause (roll-Clause z)) is (clause_fresh y))
    (λ x y is. subst (λ (z : Expr-F Clause Expr Groups Item JoinOperand SubstrRange). IsFresh member-Expr (roll-Expr z)) is (expr_fresh y))
    (λ x y is. subst (λ (z : Groups-F Clause Expr Groups Item JoinOperand SubstrRange). IsFresh member-Groups (roll-Groups z)) is (groups_fresh y))
    (λ x y is. subst (λ (z : Item-F Clause Expr Groups Item JoinOperand SubstrRange). IsFresh member-Item (roll-Item z)) is (item_fresh y))
    (λ x y is. subst (λ (z : JoinOperand-F Clause Expr Groups Item JoinOperand SubstrRange). IsFresh member-JoinOperand (roll-JoinOperand z)) is (operand_fresh y))
    (λ x y is. subst (λ (z : SubstrRange-F Clause Expr Groups Item JoinOperand SubstrRange). IsFresh member-SubstrRange (roll-SubstrRange z)) is (range_fresh y))
    t
fresh member-Item t = ind-Item (λ x. IsFresh member-Clause x) (λ x. IsFresh member-Expr x) (λ x. IsFresh member-Groups x) (λ x. IsFresh member-Item x) (λ x. IsFresh member-JoinOperand x) (λ x. IsFresh member-SubstrRange x)
    (λ x y is. subst (λ (z : Clause-F Clause Expr Groups Item JoinOperand SubstrRange). IsFresh member-Clause (roll-Clause z)) is (clause_fresh y))
    (λ x y is. subst (λ (z : Expr-F Clause Expr Groups Item JoinOperand SubstrRange). IsFresh member-Expr (roll-Expr z)) is (expr_fresh y))
    (λ x y is. subst (λ (z : Groups-F Clause Expr Groups Item JoinOperand SubstrRange). IsFresh member-Groups (roll-Groups z)) is (groups_fresh y))
    (λ x y is. subst (λ (z : Item-F Clause Expr Groups Item JoinOperand SubstrRange). IsFresh member-Item (roll-Item z)) is (item_fresh y))
    (λ x y is. subst (λ (z : JoinOperand-F Clause Expr Groups Item JoinOperand SubstrRange). IsFresh member-JoinOperand (roll-JoinOperand z)) is (operand_fresh y))
    (λ x y is. subst (λ (z : SubstrRange-F Clause Expr Groups Item JoinOperand SubstrRange). IsFresh member-SubstrRange (roll-SubstrRange z)) is (range_fresh y))
    t
fresh member-JoinOperand t = ind-JoinOperand (λ x. IsFresh member-Clause x) (λ x. IsFresh member-Expr x) (λ x. IsFresh member-Groups x) (λ x. IsFresh member-Item x) (λ x. IsFresh member-JoinOperand x) (λ x. IsFresh member-SubstrRange x)
    (λ x y is. subst (λ (z : Clause-F Clause Expr Groups Item JoinOperand SubstrRange). IsFresh member-Clause (roll-Clause z)) is (clause_fresh y))
    (λ x y is. subst (λ (z : Expr-F Clause Expr Groups Item JoinOperand SubstrRange). IsFresh member-Expr (roll-Expr z)) is (expr_fresh y))
    (λ x y is. subst (λ (z : Groups-F Clause Expr Groups Item JoinOperand SubstrRange). IsFresh member-Groups (roll-Groups z)) is (groups_fresh y))
    (λ x y is. subst (λ (z : Item-F Clause Expr Groups Item JoinOperand SubstrRange). IsFresh member-Item (roll-Item z)) is (item_fresh y))
    (λ x y is. subst (λ (z : JoinOperand-F Clause Expr Groups Item JoinOperand SubstrRange). IsFresh member-JoinOperand (roll-JoinOperand z)) is (operand_fresh y))
    (λ x y is. subst (λ (z : SubstrRange-F Clause Expr Groups Item JoinOperand SubstrRange). IsFresh member-SubstrRange (roll-SubstrRange z)) is (range_fresh y))
    t
fresh member-SubstrRange t = ind-SubstrRange (λ x. IsFresh member-Clause x) (λ x. IsFresh member-Expr x) (λ x. IsFresh member-Groups x) (λ x. IsFresh member-Item x) (λ x. IsFresh member-JoinOperand x) (λ x. IsFresh member-SubstrRange x)
    (λ x y is. subst (λ (z : Clause-F Clause Expr Groups Item JoinOperand SubstrRange). IsFresh member-Clause (roll-Clause z)) is (clause_fresh y))
    (λ x y is. subst (λ (z : Expr-F Clause Expr Groups Item JoinOperand SubstrRange). IsFresh member-Expr (roll-Expr z)) is (expr_fresh y))
    (λ x y is. subst (λ (z : Groups-F Clause Expr Groups Item JoinOperand SubstrRange). IsFresh member-Groups (roll-Groups z)) is (groups_fresh y))
    (λ x y is. subst (λ (z : Item-F Clause Expr Groups Item JoinOperand SubstrRange). IsFresh member-Item (roll-Item z)) is (item_fresh y))
    (λ x y is. subst (λ (z : JoinOperand-F Clause Expr Groups Item JoinOperand SubstrRange). IsFresh member-JoinOperand (roll-JoinOperand z)) is (operand_fresh y))
    (λ x y is. subst (λ (z : SubstrRange-F Clause Expr Groups Item JoinOperand SubstrRange). IsFresh member-SubstrRange (roll-SubstrRange z)) is (range_fresh y))
    t
