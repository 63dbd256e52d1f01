-- Calls can be replaced one after the other: a chain of replacements leads to what is written of a tree, wherever it stands.
use mathlib.Core.Sorted.{Row, over, Sorted, arity, children, build, build-children, map-children, map-build, positions, nth, map-positions, At}
use Rattle.std.proofs.Common.{◌≡◌, ℕ, zero, suc, ◌+◌, ◌<◌, Bool, true, false, if◌then◌else◌, List, [], ◌∷◌, Some, map, length, replicate, refl, sym, ap, ◌∙◌, subst, arith}
use Rattle.std.proofs.lemmas.List.{length-replicate}
use Rattle.std.specs.Cmp.Lexicographic.{nat_list_eq_equiv}
use Rattle.vtl_values.specs.declared.place.Place.{Place}
use Rattle.vtl_syntax.specs.declared.expr.Clause.TheBlock.{the_members, member-Clause, member-Expr, member-Groups, member-Item, member-JoinOperand, member-SubstrRange, body-Clause, body-Expr, body-Groups, body-Item, body-JoinOperand, body-SubstrRange}
use Rattle.vtl_syntax.specs.declared.expr.Clause.TheOpen.{Expr-F, Clause-F, Groups-F, Item-F, JoinOperand-F, SubstrRange-F}
use Rattle.vtl_syntax.specs.declared.expr.Clause.{Clause, roll-Clause, fold-roll-Clause, map_is-Clause}
use Rattle.vtl_syntax.specs.declared.expr.Expr.{Expr, roll-Expr, fold-roll-Expr, map_is-Expr, ind-Expr}
use Rattle.vtl_syntax.specs.declared.expr.Expr.TheVariants as tree
use Rattle.vtl_syntax.specs.declared.expr.Groups.{Groups, roll-Groups, fold-roll-Groups, map_is-Groups}
use Rattle.vtl_syntax.specs.declared.expr.Item.{Item, roll-Item, fold-roll-Item, map_is-Item}
use Rattle.vtl_syntax.specs.declared.expr.JoinOperand.{JoinOperand, roll-JoinOperand, fold-roll-JoinOperand, map_is-JoinOperand}
use Rattle.vtl_syntax.specs.declared.expr.SubstrRange.{SubstrRange, roll-SubstrRange, fold-roll-SubstrRange, map_is-SubstrRange}
use Rattle.vtl_syntax.specs.declared.operator.DefinedOperator.{DefinedOperator}
use Rattle.operator_faults.specs.Calls.{operator_of}
use Rattle.tree_copies.specs.Made.{Names, Calls, made_step, made, same_name, same_call}
use Rattle.tree_copies.proofs.Layers.{Family, at, Maps, each, over-Clause, over-Expr, over-Groups, over-Item, over-JoinOperand, over-SubstrRange}
use Rattle.tree_copies.proofs.Fused.{stays}
use Rattle.replaced_calls.specs.Replacing.{bound, opened, written}
use Rattle.replaced_calls.specs.Steps.{IsStep, IsChain, body_for, put_in, with_put}
use Rattle.replaced_calls.proofs.Alike.{Trees, making}
use Rattle.replaced_calls.proofs.Enough.{by_found}
use Rattle.replaced_calls.proofs.Fresh.{putting, fresh}
use Rattle.replaced_calls.proofs.Written.{opened_by, opened-none, makes-name}

-- ---- rows of parts

row_bound : (n : List the_members) → Row the_members (at Trees) n → ℕ
row_bound [] v = 0
row_bound (j ∷ n) v = (fresh j v.0).bound + row_bound n v.1

row_fresh : (h : List ℕ) (e : Expr) (n : List the_members) (v : Row the_members (at Trees) n) → row_bound n v < length h → over the_members (at Trees) (at Trees) (each (putting h e)) n v ≡ v
unfolding row_bound
row_fresh h e [] v long = refl
row_fresh h e (j ∷ n) v long =
    let here : (fresh j v.0).bound < length h = omega arith in
    let later : row_bound n v.1 < length h = omega arith in
    λ i. ((fresh j v.0).stays h e here i, row_fresh h e n v.1 later i)

-- ---- levels that are no names

abbrev is_name : {A B C D E F : Type 0} → Expr-F A B C D E F → Bool
is_name (Expr-F.Name w p) = true
is_name z = false

name_stays : (X Y : the_members → Type 0) (h : (j : the_members) → X j → Y j) (z : (body-Expr).Of X) → is_name ((body-Expr).map X Y h z) ≡ is_name z
name_stays X Y h (Expr-F.Name w p) = refl
name_stays X Y h z = refl

name_built : (X : the_members → Type 0) (a : (body-Expr).Shape) (v : Row the_members X (arity the_members body-Expr a)) → is_name (build the_members body-Expr X a v) ≡ is_name (positions the_members body-Expr a)
name_built X a v = sym (ap is_name (map-positions the_members body-Expr X a v)) ∙ name_stays (At the_members (arity the_members body-Expr a)) X (nth the_members X (arity the_members body-Expr a) v) (positions the_members body-Expr a)

put_step : (name : Names) (z : Expr-F Clause Expr Groups Item JoinOperand SubstrRange) → is_name z ≡ false → made_step name same_call z ≡ roll-Expr z
put_step name (Expr-F.Name w p) h = absurd (cc h)
put_step name (Expr-F.CallOf w as' p) h = sym (tree.rolls-CallOf w as' p)
put_step name z h = refl

-- ---- trees that stand in something, in which an expression can be put in the place of a name

module _ (T : Type 0) (puts : List ℕ → Expr → T → T) (Step : T → T → Type 0) where
  -- what is put in the place of a long name is put into the part
  pub record IsRound (j : the_members) (k : at Trees j → T) : Type 0 where
    pub bound : ℕ
    pub goes_in : (h : List ℕ) (e : Expr) (x : at Trees j) → bound < length h → puts h e (k x) ≡ k (each (putting h e) j x)

  -- the same of all parts of a level
  pub record IsRoundAll (n : List the_members) (k : Row the_members (at Trees) n → T) : Type 0 where
    pub bound : ℕ
    pub goes_in : (h : List ℕ) (e : Expr) (v : Row the_members (at Trees) n) → bound < length h → puts h e (k v) ≡ k (over the_members (at Trees) (at Trees) (each (putting h e)) n v)

  -- one step after the other
  abbrev pub Along : T → List T → T → Type 0
  Along a [] b = a ≡ b
  Along a (x ∷ xs) b = Step a x × Along x xs b

  abbrev pub Chain : T → T → Type 0
  Chain a b = (es : List T) × Along a es b

  pub here : (a b : T) → a ≡ b → Chain a b
  here a b same = ([], same)

  go_on : (a b c : T) (es : List T) → Along a es b → Chain b c → Chain a c
  go_on a b c [] same k = subst (λ (x : T). Chain x c) (sym same) k
  go_on a b c (e ∷ es) s k = let r = go_on e b c es s.1 k in (e ∷ r.0, (s.0, r.1))

  pub onward : (a b c : T) → Chain a b → Chain b c → Chain a c
  onward a b c j k = go_on a b c j.0 j.1 k

  pub from_to : (a a' b b' : T) → a ≡ a' → b ≡ b' → Chain a b → Chain a' b'
  from_to a a' b b' start end k = subst (λ (x : T). Chain x b') start (subst (λ (x : T). Chain a x) end k)

  -- ---- the parts of a level, one after the other

  module _ (before after : Maps Trees Trees) where
    -- wherever the part stands
    abbrev pub Leads : (j : the_members) → at Trees j → Type 0
    Leads j x = (k : at Trees j → T) → IsRound j k → Chain (k (each before j x)) (k (each after j x))

    module _ (X : the_members → Type 0) (first : (j : the_members) → X j → at Trees j) (leads : (j : the_members) (s : X j) → Leads j (first j s)) where
      abbrev all_before : (n : List the_members) → Row the_members X n → Row the_members (at Trees) n
      all_before n v = over the_members (at Trees) (at Trees) (each before) n (over the_members X (at Trees) first n v)

      abbrev all_after : (n : List the_members) → Row the_members X n → Row the_members (at Trees) n
      all_after n v = over the_members (at Trees) (at Trees) (each after) n (over the_members X (at Trees) first n v)

      row_leads : (n : List the_members) (v : Row the_members X n) (k : Row the_members (at Trees) n → T) → IsRoundAll n k → Chain (k (all_before n v)) (k (all_after n v))
      row_leads [] v k r = here (k tt) (k tt) refl
      row_leads (j ∷ n) v k r =
          let rest = all_before n v.1 in
          let done = each after j (first j v.0) in
          let k1 : at Trees j → T = λ (t : at Trees j). k (t, rest) in
          let k2 : Row the_members (at Trees) n → T = λ (w : Row the_members (at Trees) n). k (done, w) in
          let r1 : IsRound j k1 = record { bound = r.bound + row_bound n rest; goes_in = λ h e t long. let long1 : r.bound < length h = omega arith in let long2 : row_bound n rest < length h = omega arith in r.goes_in h e (t, rest) long1 ∙ ap (λ (w : Row the_members (at Trees) n). k (each (putting h e) j t, w)) (row_fresh h e n rest long2) } in
          let r2 : IsRoundAll n k2 = record { bound = r.bound + (fresh j done).bound; goes_in = λ h e w long. let long1 : r.bound < length h = omega arith in let long2 : (fresh j done).bound < length h = omega arith in r.goes_in h e (done, w) long1 ∙ ap (λ (t : at Trees j). k (t, over the_members (at Trees) (at Trees) (each (putting h e)) n w)) ((fresh j done).stays h e long2) } in
          onward (k (all_before (j ∷ n) v)) (k (done, rest)) (k (all_after (j ∷ n) v)) (leads j v.0 k1 r1) (row_leads n v.1 k2 r2)

      -- ---- a level

      -- round a level: what is put in goes into its parts
      abbrev IsRoundLevel : (f : Sorted {0} the_members) → f.Shape → (f.Of (at Trees) → T) → ℕ → Type 0
      IsRoundLevel f a k bound = (h : List ℕ) (e : Expr) (v : Row the_members (at Trees) (arity the_members f a)) → bound < length h → puts h e (k (build the_members f (at Trees) a v)) ≡ k (build the_members f (at Trees) a (over the_members (at Trees) (at Trees) (each (putting h e)) (arity the_members f a) v))

      pub level_leads : (f : Sorted {0} the_members) (y : f.Of X) (k : f.Of (at Trees) → T) (bound : ℕ) → IsRoundLevel f (f.shape X y) k bound
          → Chain (k (f.map (at Trees) (at Trees) (each before) (f.map X (at Trees) first y))) (k (f.map (at Trees) (at Trees) (each after) (f.map X (at Trees) first y)))
      level_leads f y k bound round =
          let a = f.shape X y in
          let n = arity the_members f a in
          let v = children the_members f X y in
          let is : f.map X (at Trees) first y ≡ build the_members f (at Trees) a (over the_members X (at Trees) first n v) = map-children the_members f X (at Trees) first y in
          let to : (m : (j : the_members) → at Trees j → at Trees j) → k (build the_members f (at Trees) a (over the_members (at Trees) (at Trees) m n (over the_members X (at Trees) first n v))) ≡ k (f.map (at Trees) (at Trees) m (f.map X (at Trees) first y)) = λ m. ap k (sym (map-build the_members f (at Trees) (at Trees) m a (over the_members X (at Trees) first n v)) ∙ ap (f.map (at Trees) (at Trees) m) (sym is)) in
          let kr : Row the_members (at Trees) n → T = λ (w : Row the_members (at Trees) n). k (build the_members f (at Trees) a w) in
          from_to (kr (all_before n v)) (k (f.map (at Trees) (at Trees) (each before) (f.map X (at Trees) first y))) (kr (all_after n v)) (k (f.map (at Trees) (at Trees) (each after) (f.map X (at Trees) first y))) (to (each before)) (to (each after)) (row_leads n v kr (record { bound = bound; goes_in = round }))

  module _ (os : List DefinedOperator) (step : (around : T) (h : List ℕ) (w : List ℕ) (as' : List Expr) (p : Place) (o : DefinedOperator) → operator_of os w ≡ Some o → Step (puts h (tree.CallOf w as' p) around) (puts h (body_for o as') around)) where
    abbrev begun : Names → Maps Trees Trees
    begun name = making name same_call

    abbrev ended : Names → ℕ → Maps Trees Trees
    ended name n = making name (opened os n)

    -- a call leads to what it becomes
    abbrev CallsLead : ℕ → Type 0
    CallsLead n = (k : Expr → T) → IsRound member-Expr k → (w : List ℕ) (as' : List Expr) (p : Place) → Chain (k (tree.CallOf w as' p)) (k (opened os n w as' p))

    module _ (name : Names) (n : ℕ) (calls : CallsLead n) where
      abbrev Ends : (j : the_members) → at Trees j → Type 0
      Ends j x = Leads (begun name) (ended name n) j x

      abbrev Such : Family
      Such = record { of_Clause = (x : Clause) × Ends member-Clause x; of_Expr = (x : Expr) × Ends member-Expr x; of_Groups = (x : Groups) × Ends member-Groups x; of_Item = (x : Item) × Ends member-Item x; of_JoinOperand = (x : JoinOperand) × Ends member-JoinOperand x; of_SubstrRange = (x : SubstrRange) × Ends member-SubstrRange x }

      abbrev tree_in : Maps Such Trees
      tree_in = record { on_Clause = λ s. s.0; on_Expr = λ s. s.0; on_Groups = λ s. s.0; on_Item = λ s. s.0; on_JoinOperand = λ s. s.0; on_SubstrRange = λ s. s.0 }

      abbrev ends_in : (j : the_members) (s : at Such j) → Ends j (each tree_in j s)
      ends_in member-Clause s = s.1
      ends_in member-Expr s = s.1
      ends_in member-Groups s = s.1
      ends_in member-Item s = s.1
      ends_in member-JoinOperand s = s.1
      ends_in member-SubstrRange s = s.1

      over_clause : (m : Maps Trees Trees) (y : Clause-F Such.of_Clause Such.of_Expr Such.of_Groups Such.of_Item Such.of_JoinOperand Such.of_SubstrRange) → (body-Clause).map (at Trees) (at Trees) (each m) ((body-Clause).map (at Such) (at Trees) (each tree_in) y) ≡ over-Clause m (over-Clause tree_in y)
      over_clause m y = map_is-Clause (at Trees) (at Trees) (each m) ((body-Clause).map (at Such) (at Trees) (each tree_in) y) ∙ ap (over-Clause m) (map_is-Clause (at Such) (at Trees) (each tree_in) y)

      clause_ends : (y : Clause-F Such.of_Clause Such.of_Expr Such.of_Groups Such.of_Item Such.of_JoinOperand Such.of_SubstrRange) → Ends member-Clause (roll-Clause (over-Clause tree_in y))
      clause_ends y k r =
          let rolled : (name' : Names) (call : Calls) (z : Clause-F Clause Expr Groups Item JoinOperand SubstrRange) → each (making name' call) member-Clause (roll-Clause z) ≡ roll-Clause (over-Clause (making name' call) z) = λ name' call z. fold-roll-Clause Clause Expr Groups Item JoinOperand SubstrRange roll-Clause (made_step name' call) roll-Groups roll-Item roll-JoinOperand roll-SubstrRange z in
          let to : (call : Calls) → k (roll-Clause ((body-Clause).map (at Trees) (at Trees) (each (making name call)) ((body-Clause).map (at Such) (at Trees) (each tree_in) y))) ≡ k (each (making name call) member-Clause (roll-Clause (over-Clause tree_in y))) = λ call. ap k (ap roll-Clause (over_clause (making name call) y) ∙ sym (rolled name call (over-Clause tree_in y))) in
          from_to (k (roll-Clause ((body-Clause).map (at Trees) (at Trees) (each (begun name)) ((body-Clause).map (at Such) (at Trees) (each tree_in) y)))) (k (each (begun name) member-Clause (roll-Clause (over-Clause tree_in y)))) (k (roll-Clause ((body-Clause).map (at Trees) (at Trees) (each (ended name n)) ((body-Clause).map (at Such) (at Trees) (each tree_in) y)))) (k (each (ended name n) member-Clause (roll-Clause (over-Clause tree_in y)))) (to same_call) (to (opened os n))
          (level_leads (begun name) (ended name n) (at Such) (each tree_in) ends_in body-Clause y (λ z. k (roll-Clause z)) r.bound
          (λ h e v long.
          let z = build the_members body-Clause (at Trees) ((body-Clause).shape (at Such) y) v in
          r.goes_in h e (roll-Clause z) long ∙ ap k (rolled (put_in h e) same_call z ∙ ap roll-Clause (sym (map_is-Clause (at Trees) (at Trees) (each (putting h e)) z) ∙ map-build the_members body-Clause (at Trees) (at Trees) (each (putting h e)) ((body-Clause).shape (at Such) y) v))))

      over_expr : (m : Maps Trees Trees) (y : Expr-F Such.of_Clause Such.of_Expr Such.of_Groups Such.of_Item Such.of_JoinOperand Such.of_SubstrRange) → (body-Expr).map (at Trees) (at Trees) (each m) ((body-Expr).map (at Such) (at Trees) (each tree_in) y) ≡ over-Expr m (over-Expr tree_in y)
      over_expr m y = map_is-Expr (at Trees) (at Trees) (each m) ((body-Expr).map (at Such) (at Trees) (each tree_in) y) ∙ ap (over-Expr m) (map_is-Expr (at Such) (at Trees) (each tree_in) y)

      over_groups : (m : Maps Trees Trees) (y : Groups-F Such.of_Clause Such.of_Expr Such.of_Groups Such.of_Item Such.of_JoinOperand Such.of_SubstrRange) → (body-Groups).map (at Trees) (at Trees) (each m) ((body-Groups).map (at Such) (at Trees) (each tree_in) y) ≡ over-Groups m (over-Groups tree_in y)
      over_groups m y = map_is-Groups (at Trees) (at Trees) (each m) ((body-Groups).map (at Such) (at Trees) (each tree_in) y) ∙ ap (over-Groups m) (map_is-Groups (at Such) (at Trees) (each tree_in) y)

      groups_ends : (y : Groups-F Such.of_Clause Such.of_Expr Such.of_Groups Such.of_Item Such.of_JoinOperand Such.of_SubstrRange) → Ends member-Groups (roll-Groups (over-Groups tree_in y))
      groups_ends y k r =
          let rolled : (name' : Names) (call : Calls) (z : Groups-F Clause Expr Groups Item JoinOperand SubstrRange) → each (making name' call) member-Groups (roll-Groups z) ≡ roll-Groups (over-Groups (making name' call) z) = λ name' call z. fold-roll-Groups Clause Expr Groups Item JoinOperand SubstrRange roll-Clause (made_step name' call) roll-Groups roll-Item roll-JoinOperand roll-SubstrRange z in
          let to : (call : Calls) → k (roll-Groups ((body-Groups).map (at Trees) (at Trees) (each (making name call)) ((body-Groups).map (at Such) (at Trees) (each tree_in) y))) ≡ k (each (making name call) member-Groups (roll-Groups (over-Groups tree_in y))) = λ call. ap k (ap roll-Groups (over_groups (making name call) y) ∙ sym (rolled name call (over-Groups tree_in y))) in
          from_to (k (roll-Groups ((body-Groups).map (at Trees) (at Trees) (each (begun name)) ((body-Groups).map (at Such) (at Trees) (each tree_in) y)))) (k (each (begun name) member-Groups (roll-Groups (over-Groups tree_in y)))) (k (roll-Groups ((body-Groups).map (at Trees) (at Trees) (each (ended name n)) ((body-Groups).map (at Such) (at Trees) (each tree_in) y)))) (k (each (ended name n) member-Groups (roll-Groups (over-Groups tree_in y)))) (to same_call) (to (opened os n))
          (level_leads (begun name) (ended name n) (at Such) (each tree_in) ends_in body-Groups y (λ z. k (roll-Groups z)) r.bound
          (λ h e v long.
          let z = build the_members body-Groups (at Trees) ((body-Groups).shape (at Such) y) v in
          r.goes_in h e (roll-Groups z) long ∙ ap k (rolled (put_in h e) same_call z ∙ ap roll-Groups (sym (map_is-Groups (at Trees) (at Trees) (each (putting h e)) z) ∙ map-build the_members body-Groups (at Trees) (at Trees) (each (putting h e)) ((body-Groups).shape (at Such) y) v))))

      over_item : (m : Maps Trees Trees) (y : Item-F Such.of_Clause Such.of_Expr Such.of_Groups Such.of_Item Such.of_JoinOperand Such.of_SubstrRange) → (body-Item).map (at Trees) (at Trees) (each m) ((body-Item).map (at Such) (at Trees) (each tree_in) y) ≡ over-Item m (over-Item tree_in y)
      over_item m y = map_is-Item (at Trees) (at Trees) (each m) ((body-Item).map (at Such) (at Trees) (each tree_in) y) ∙ ap (over-Item m) (map_is-Item (at Such) (at Trees) (each tree_in) y)

      item_ends : (y : Item-F Such.of_Clause Such.of_Expr Such.of_Groups Such.of_Item Such.of_JoinOperand Such.of_SubstrRange) → Ends member-Item (roll-Item (over-Item tree_in y))
      item_ends y k r =
          let rolled : (name' : Names) (call : Calls) (z : Item-F Clause Expr Groups Item JoinOperand SubstrRange) → each (making name' call) member-Item (roll-Item z) ≡ roll-Item (over-Item (making name' call) z) = λ name' call z. fold-roll-Item Clause Expr Groups Item JoinOperand SubstrRange roll-Clause (made_step name' call) roll-Groups roll-Item roll-JoinOperand roll-SubstrRange z in
          let to : (call : Calls) → k (roll-Item ((body-Item).map (at Trees) (at Trees) (each (making name call)) ((body-Item).map (at Such) (at Trees) (each tree_in) y))) ≡ k (each (making name call) member-Item (roll-Item (over-Item tree_in y))) = λ call. ap k (ap roll-Item (over_item (making name call) y) ∙ sym (rolled name call (over-Item tree_in y))) in
          from_to (k (roll-Item ((body-Item).map (at Trees) (at Trees) (each (begun name)) ((body-Item).map (at Such) (at Trees) (each tree_in) y)))) (k (each (begun name) member-Item (roll-Item (over-Item tree_in y)))) (k (roll-Item ((body-Item).map (at Trees) (at Trees) (each (ended name n)) ((body-Item).map (at Such) (at Trees) (each tree_in) y)))) (k (each (ended name n) member-Item (roll-Item (over-Item tree_in y)))) (to same_call) (to (opened os n))
          (level_leads (begun name) (ended name n) (at Such) (each tree_in) ends_in body-Item y (λ z. k (roll-Item z)) r.bound
          (λ h e v long.
          let z = build the_members body-Item (at Trees) ((body-Item).shape (at Such) y) v in
          r.goes_in h e (roll-Item z) long ∙ ap k (rolled (put_in h e) same_call z ∙ ap roll-Item (sym (map_is-Item (at Trees) (at Trees) (each (putting h e)) z) ∙ map-build the_members body-Item (at Trees) (at Trees) (each (putting h e)) ((body-Item).shape (at Such) y) v))))

      over_operand : (m : Maps Trees Trees) (y : JoinOperand-F Such.of_Clause Such.of_Expr Such.of_Groups Such.of_Item Such.of_JoinOperand Such.of_SubstrRange) → (body-JoinOperand).map (at Trees) (at Trees) (each m) ((body-JoinOperand).map (at Such) (at Trees) (each tree_in) y) ≡ over-JoinOperand m (over-JoinOperand tree_in y)
      over_operand m y = map_is-JoinOperand (at Trees) (at Trees) (each m) ((body-JoinOperand).map (at Such) (at Trees) (each tree_in) y) ∙ ap (over-JoinOperand m) (map_is-JoinOperand (at Such) (at Trees) (each tree_in) y)

      operand_ends : (y : JoinOperand-F Such.of_Clause Such.of_Expr Such.of_Groups Such.of_Item Such.of_JoinOperand Such.of_SubstrRange) → Ends member-JoinOperand (roll-JoinOperand (over-JoinOperand tree_in y))
      operand_ends y k r =
          let rolled : (name' : Names) (call : Calls) (z : JoinOperand-F Clause Expr Groups Item JoinOperand SubstrRange) → each (making name' call) member-JoinOperand (roll-JoinOperand z) ≡ roll-JoinOperand (over-JoinOperand (making name' call) z) = λ name' call z. fold-roll-JoinOperand Clause Expr Groups Item JoinOperand SubstrRange roll-Clause (made_step name' call) roll-Groups roll-Item roll-JoinOperand roll-SubstrRange z in
          let to : (call : Calls) → k (roll-JoinOperand ((body-JoinOperand).map (at Trees) (at Trees) (each (making name call)) ((body-JoinOperand).map (at Such) (at Trees) (each tree_in) y))) ≡ k (each (making name call) member-JoinOperand (roll-JoinOperand (over-JoinOperand tree_in y))) = λ call. ap k (ap roll-JoinOperand (over_operand (making name call) y) ∙ sym (rolled name call (over-JoinOperand tree_in y))) in
          from_to (k (roll-JoinOperand ((body-JoinOperand).map (at Trees) (at Trees) (each (begun name)) ((body-JoinOperand).map (at Such) (at Trees) (each tree_in) y)))) (k (each (begun name) member-JoinOperand (roll-JoinOperand (over-JoinOperand tree_in y)))) (k (roll-JoinOperand ((body-JoinOperand).map (at Trees) (at Trees) (each (ended name n)) ((body-JoinOperand).map (at Such) (at Trees) (each tree_in) y)))) (k (each (ended name n) member-JoinOperand (roll-JoinOperand (over-JoinOperand tree_in y)))) (to same_call) (to (opened os n))
          (level_leads (begun name) (ended name n) (at Such) (each tree_in) ends_in body-JoinOperand y (λ z. k (roll-JoinOperand z)) r.bound
          (λ h e v long.
          let z = build the_members body-JoinOperand (at Trees) ((body-JoinOperand).shape (at Such) y) v in
          r.goes_in h e (roll-JoinOperand z) long ∙ ap k (rolled (put_in h e) same_call z ∙ ap roll-JoinOperand (sym (map_is-JoinOperand (at Trees) (at Trees) (each (putting h e)) z) ∙ map-build the_members body-JoinOperand (at Trees) (at Trees) (each (putting h e)) ((body-JoinOperand).shape (at Such) y) v))))

      over_range : (m : Maps Trees Trees) (y : SubstrRange-F Such.of_Clause Such.of_Expr Such.of_Groups Such.of_Item Such.of_JoinOperand Such.of_SubstrRange) → (body-SubstrRange).map (at Trees) (at Trees) (each m) ((body-SubstrRange).map (at Such) (at Trees) (each tree_in) y) ≡ over-SubstrRange m (over-SubstrRange tree_in y)
      over_range m y = map_is-SubstrRange (at Trees) (at Trees) (each m) ((body-SubstrRange).map (at Such) (at Trees) (each tree_in) y) ∙ ap (over-SubstrRange m) (map_is-SubstrRange (at Such) (at Trees) (each tree_in) y)

      range_ends : (y : SubstrRange-F Such.of_Clause Such.of_Expr Such.of_Groups Such.of_Item Such.of_JoinOperand Such.of_SubstrRange) → Ends member-SubstrRange (roll-SubstrRange (over-SubstrRange tree_in y))
      range_ends y k r =
          let rolled : (name' : Names) (call : Calls) (z : SubstrRange-F Clause Expr Groups Item JoinOperand SubstrRange) → each (making name' call) member-SubstrRange (roll-SubstrRange z) ≡ roll-SubstrRange (over-SubstrRange (making name' call) z) = λ name' call z. fold-roll-SubstrRange Clause Expr Groups Item JoinOperand SubstrRange roll-Clause (made_step name' call) roll-Groups roll-Item roll-JoinOperand roll-SubstrRange z in
          let to : (call : Calls) → k (roll-SubstrRange ((body-SubstrRange).map (at Trees) (at Trees) (each (making name call)) ((body-SubstrRange).map (at Such) (at Trees) (each tree_in) y))) ≡ k (each (making name call) member-SubstrRange (roll-SubstrRange (over-SubstrRange tree_in y))) = λ call. ap k (ap roll-SubstrRange (over_range (making name call) y) ∙ sym (rolled name call (over-SubstrRange tree_in y))) in
          from_to (k (roll-SubstrRange ((body-SubstrRange).map (at Trees) (at Trees) (each (begun name)) ((body-SubstrRange).map (at Such) (at Trees) (each tree_in) y)))) (k (each (begun name) member-SubstrRange (roll-SubstrRange (over-SubstrRange tree_in y)))) (k (roll-SubstrRange ((body-SubstrRange).map (at Trees) (at Trees) (each (ended name n)) ((body-SubstrRange).map (at Such) (at Trees) (each tree_in) y)))) (k (each (ended name n) member-SubstrRange (roll-SubstrRange (over-SubstrRange tree_in y)))) (to same_call) (to (opened os n))
          (level_leads (begun name) (ended name n) (at Such) (each tree_in) ends_in body-SubstrRange y (λ z. k (roll-SubstrRange z)) r.bound
          (λ h e v long.
          let z = build the_members body-SubstrRange (at Trees) ((body-SubstrRange).shape (at Such) y) v in
          r.goes_in h e (roll-SubstrRange z) long ∙ ap k (rolled (put_in h e) same_call z ∙ ap roll-SubstrRange (sym (map_is-SubstrRange (at Trees) (at Trees) (each (putting h e)) z) ∙ map-build the_members body-SubstrRange (at Trees) (at Trees) (each (putting h e)) ((body-SubstrRange).shape (at Such) y) v))))

      rolled : (name' : Names) (call : Calls) (z : Expr-F Clause Expr Groups Item JoinOperand SubstrRange) → made name' call (roll-Expr z) ≡ made_step name' call (over-Expr (making name' call) z)
      rolled name' call z = fold-roll-Expr Clause Expr Groups Item JoinOperand SubstrRange roll-Clause (made_step name' call) roll-Groups roll-Item roll-JoinOperand roll-SubstrRange z

      -- the parts of an expression, each one's calls replaced
      parts_end : (y : Expr-F Such.of_Clause Such.of_Expr Such.of_Groups Such.of_Item Such.of_JoinOperand Such.of_SubstrRange) → is_name y ≡ false → (k : Expr → T) → IsRound member-Expr k
          → Chain (k (roll-Expr (over-Expr (begun name) (over-Expr tree_in y)))) (k (roll-Expr (over-Expr (ended name n) (over-Expr tree_in y))))
      parts_end y other k r =
          let a = (body-Expr).shape (at Such) y in
          let to : (m : Maps Trees Trees) → k (roll-Expr ((body-Expr).map (at Trees) (at Trees) (each m) ((body-Expr).map (at Such) (at Trees) (each tree_in) y))) ≡ k (roll-Expr (over-Expr m (over-Expr tree_in y))) = λ m. ap (λ z. k (roll-Expr z)) (over_expr m y) in
          from_to (k (roll-Expr ((body-Expr).map (at Trees) (at Trees) (each (begun name)) ((body-Expr).map (at Such) (at Trees) (each tree_in) y)))) (k (roll-Expr (over-Expr (begun name) (over-Expr tree_in y)))) (k (roll-Expr ((body-Expr).map (at Trees) (at Trees) (each (ended name n)) ((body-Expr).map (at Such) (at Trees) (each tree_in) y)))) (k (roll-Expr (over-Expr (ended name n) (over-Expr tree_in y)))) (to (begun name)) (to (ended name n))
          (level_leads (begun name) (ended name n) (at Such) (each tree_in) ends_in body-Expr y (λ z. k (roll-Expr z)) r.bound
          (λ h e v long.
          let z = build the_members body-Expr (at Trees) a v in
          let w = over the_members (at Trees) (at Trees) (each (putting h e)) (arity the_members body-Expr a) v in
          let puts : over-Expr (putting h e) z ≡ build the_members body-Expr (at Trees) a w = sym (map_is-Expr (at Trees) (at Trees) (each (putting h e)) z) ∙ map-build the_members body-Expr (at Trees) (at Trees) (each (putting h e)) a v in
          let no_name : is_name (build the_members body-Expr (at Trees) a w) ≡ false = name_built (at Trees) a w ∙ sym (name_built (at Such) a (children the_members body-Expr (at Such) y)) ∙ ap is_name (build-children the_members body-Expr (at Such) y) ∙ other in
          r.goes_in h e (roll-Expr z) long ∙ ap k (rolled (put_in h e) same_call z ∙ ap (made_step (put_in h e) same_call) puts ∙ put_step (put_in h e) (build the_members body-Expr (at Trees) a w) no_name)))

      other_ends : (y : Expr-F Such.of_Clause Such.of_Expr Such.of_Groups Such.of_Item Such.of_JoinOperand Such.of_SubstrRange) → is_name y ≡ false → ((call : Calls) → made_step name call (over-Expr (making name call) (over-Expr tree_in y)) ≡ roll-Expr (over-Expr (making name call) (over-Expr tree_in y))) → Ends member-Expr (roll-Expr (over-Expr tree_in y))
      other_ends y other step k r =
          let to : (call : Calls) → k (roll-Expr (over-Expr (making name call) (over-Expr tree_in y))) ≡ k (made name call (roll-Expr (over-Expr tree_in y))) = λ call. ap k (sym (rolled name call (over-Expr tree_in y) ∙ step call)) in
          from_to (k (roll-Expr (over-Expr (begun name) (over-Expr tree_in y)))) (k (made name same_call (roll-Expr (over-Expr tree_in y)))) (k (roll-Expr (over-Expr (ended name n) (over-Expr tree_in y)))) (k (made name (opened os n) (roll-Expr (over-Expr tree_in y)))) (to same_call) (to (opened os n)) (parts_end y other k r)

      expr_ends : (y : Expr-F Such.of_Clause Such.of_Expr Such.of_Groups Such.of_Item Such.of_JoinOperand Such.of_SubstrRange) → Ends member-Expr (roll-Expr (over-Expr tree_in y))
      expr_ends (Expr-F.Name w p) k r = here (k (made name same_call (roll-Expr (Expr-F.Name w p)))) (k (made name (opened os n) (roll-Expr (Expr-F.Name w p)))) (ap k (rolled name same_call (Expr-F.Name w p) ∙ sym (rolled name (opened os n) (Expr-F.Name w p))))
      expr_ends (Expr-F.CallOf w ys p) k r =
          let y : Expr-F Such.of_Clause Such.of_Expr Such.of_Groups Such.of_Item Such.of_JoinOperand Such.of_SubstrRange = Expr-F.CallOf w ys p in
          let xs = map tree_in.on_Expr ys in
          let done = map (made name (opened os n)) xs in
          let from : k (roll-Expr (over-Expr (begun name) (over-Expr tree_in y))) ≡ k (made name same_call (roll-Expr (over-Expr tree_in y))) = ap k (sym (rolled name same_call (over-Expr tree_in y) ∙ sym (tree.rolls-CallOf w (map (made name same_call) xs) p))) in
          let mid : k (roll-Expr (over-Expr (ended name n) (over-Expr tree_in y))) ≡ k (tree.CallOf w done p) = ap k (tree.rolls-CallOf w done p) in
          let last : k (opened os n w done p) ≡ k (made name (opened os n) (roll-Expr (over-Expr tree_in y))) = ap k (sym (rolled name (opened os n) (over-Expr tree_in y))) in
          onward (k (made name same_call (roll-Expr (over-Expr tree_in y)))) (k (tree.CallOf w done p)) (k (made name (opened os n) (roll-Expr (over-Expr tree_in y))))
          (from_to (k (roll-Expr (over-Expr (begun name) (over-Expr tree_in y)))) (k (made name same_call (roll-Expr (over-Expr tree_in y)))) (k (roll-Expr (over-Expr (ended name n) (over-Expr tree_in y)))) (k (tree.CallOf w done p)) from mid (parts_end y refl k r))
          (from_to (k (tree.CallOf w done p)) (k (tree.CallOf w done p)) (k (opened os n w done p)) (k (made name (opened os n) (roll-Expr (over-Expr tree_in y)))) refl last (calls k r w done p))
      expr_ends y k r = other_ends y refl (λ call. refl) k r

      tree_ends : (x : Expr) → Ends member-Expr x
      tree_ends x = ind-Expr (λ z. Ends member-Clause z) (λ z. Ends member-Expr z) (λ z. Ends member-Groups z) (λ z. Ends member-Item z) (λ z. Ends member-JoinOperand z) (λ z. Ends member-SubstrRange z)
          (λ z y is. subst (λ (v : Clause-F Clause Expr Groups Item JoinOperand SubstrRange). Ends member-Clause (roll-Clause v)) is (clause_ends y))
          (λ z y is. subst (λ (v : Expr-F Clause Expr Groups Item JoinOperand SubstrRange). Ends member-Expr (roll-Expr v)) is (expr_ends y))
          (λ z y is. subst (λ (v : Groups-F Clause Expr Groups Item JoinOperand SubstrRange). Ends member-Groups (roll-Groups v)) is (groups_ends y))
          (λ z y is. subst (λ (v : Item-F Clause Expr Groups Item JoinOperand SubstrRange). Ends member-Item (roll-Item v)) is (item_ends y))
          (λ z y is. subst (λ (v : JoinOperand-F Clause Expr Groups Item JoinOperand SubstrRange). Ends member-JoinOperand (roll-JoinOperand v)) is (operand_ends y))
          (λ z y is. subst (λ (v : SubstrRange-F Clause Expr Groups Item JoinOperand SubstrRange). Ends member-SubstrRange (roll-SubstrRange v)) is (range_ends y))
          x

    calls_lead : (n : ℕ) → CallsLead n
    calls_lead zero k r w as' p = here (k (tree.CallOf w as' p)) (k (tree.CallOf w as' p)) refl
    calls_lead (suc n) k r w as' p = by_found os w (Chain (k (tree.CallOf w as' p)) (k (opened os (suc n) w as' p))) (operator_of os w) refl
        (λ none. here (k (tree.CallOf w as' p)) (k (opened os (suc n) w as' p)) (ap k (sym (opened-none os (suc n) w as' p none))))
        (λ o found.
        let h : List ℕ = replicate (suc r.bound) 0 in
        let long : r.bound < length h = let is : length h ≡ suc r.bound = length-replicate (suc r.bound) 0 in omega arith in
        let around = k (tree.Name h p) in
        let filled : (e : Expr) → puts h e around ≡ k e = λ e. r.goes_in h e (tree.Name h p) long ∙ ap k (makes-name (put_in h e) same_call h p ∙ ap (λ (b : Bool). if b then e else tree.Name h p) (nat_list_eq_equiv.refl h)) in
        onward (k (tree.CallOf w as' p)) (k (body_for o as')) (k (opened os (suc n) w as' p))
        (from_to (puts h (tree.CallOf w as' p) around) (k (tree.CallOf w as' p)) (puts h (body_for o as') around) (k (body_for o as')) (filled (tree.CallOf w as' p)) (filled (body_for o as')) (puts h (body_for o as') around ∷ [], (step around h w as' p o found, refl)))
        (from_to (k (body_for o as')) (k (body_for o as')) (k (made (bound o.params as') (opened os n) o.body)) (k (opened os (suc n) w as' p)) refl (ap k (sym (ap (opened_by os n w as' p) found)))
        (tree_ends (bound o.params as') n (calls_lead n) o.body k r)))

    -- wherever an expression stands, a chain leads to what is written of it
    pub leads_to : (n : ℕ) (e : Expr) (k : Expr → T) → IsRound member-Expr k → Chain (k e) (k (written os n e))
    leads_to n e k r = from_to (k (made same_name same_call e)) (k e) (k (written os n e)) (k (written os n e)) (ap k (stays e)) refl (tree_ends same_name n (calls_lead n) e k r)

-- ---- an expression by itself

as_chain : (os : List DefinedOperator) (a b : Expr) (es : List Expr) → Along Expr (λ h e x. with_put x h e) (IsStep os) a es b → IsChain os a es b
as_chain os a b [] s = s
as_chain os a b (e ∷ es) s = (s.0, as_chain os e b es s.1)

pub chain_to : (os : List DefinedOperator) (n : ℕ) (e : Expr) → (es : List Expr) × IsChain os e es (written os n e)
chain_to os n e =
    let c = leads_to Expr (λ h t x. with_put x h t) (IsStep os) os
    (λ around h w as' p o found. record { around = around; hole = h; name = w; arguments = as'; place = p; operator = o; found = found; call = refl; body = refl })
    n e (λ x. x) (record { bound = 0; goes_in = λ h t x long. refl }) in
    (c.0, as_chain os e (written os n e) c.0 c.1)
