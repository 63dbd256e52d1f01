-- A `calc` with an item that is analytic, as typing gives it, is well typed; and so is any clause on points.
use Rattle.std.proofs.Common.{◌≡◌, refl, ℕ, zero, suc, ℤ, Bool, true, false, ◌&&◌, List, [], ◌∷◌, Option, Some, None, Result, Ok, map, ap, sym, subst, ◌∙◌, if◌then◌else◌}
use Rattle.std.specs.Prelude.{is_none, is_some, slice_get, option_and_then, option_map}
use Rattle.std.specs.Option.{option_map_or}
use Rattle.std.specs.List.{All, list_all, list_any}
use Rattle.std.proofs.lemmas.List.Elements.{All-map, All-nil, All-cons, All-tail, All-head}
use Rattle.vtl_values.specs.declared.kind.Kind.{Kind}
use Rattle.vtl_values.specs.declared.kind.Kind.TheVariants as kind
use Rattle.vtl_values.specs.declared.place.Place.{Place}
use Rattle.vtl_values.specs.declared.structure.Component.{Component}
use Rattle.vtl_values.specs.declared.value.Value.TheVariants.{Null}
use Rattle.vtl_syntax.specs.declared.expr.Clause.{Clause, out-Clause}
use Rattle.vtl_syntax.specs.declared.expr.Clause.TheOpen.{Clause-F, Expr-F}
use Rattle.vtl_syntax.specs.declared.expr.Expr.{Expr, out-Expr, roll-out-Expr}
use Rattle.vtl_syntax.specs.declared.expr.Groups.{Groups}
use Rattle.vtl_syntax.specs.declared.expr.Item.{Item, out-Item}
use Rattle.vtl_syntax.specs.declared.expr.JoinOperand.{JoinOperand}
use Rattle.vtl_syntax.specs.declared.expr.Over.{Over}
use Rattle.vtl_syntax.specs.declared.expr.SubstrRange.{SubstrRange}
use Rattle.vtl_syntax.specs.declared.words.WindowFunction.{WindowFunction}
use Rattle.vtl_syntax.specs.declared.words.WindowFunction.TheVariants as function
use Rattle.scalar_trees.specs.Kinds.{ANY, agreed}
use Rattle.scalar_trees.specs.WellTyped.{is_exactly, is_kind, is_of_kind, is_some_kind}
use Rattle.scalar_trees.specs.declared.tree.CheckedExpr.{CheckedExpr, ind-CheckedExpr, out-roll-CheckedExpr, roll-CheckedExpr}
use Rattle.scalar_trees.specs.declared.tree.CheckedExpr.TheOpen.{CheckedExpr-F}
use Rattle.scalar_trees.specs.declared.tree.CheckedExpr.TheVariants as tree
use Rattle.scalar_trees.specs.declared.typing.scope.Basis.TheVariants.{Point}
use Rattle.scalar_trees.specs.declared.typing.scope.Column.{Column}
use Rattle.scalar_trees.specs.declared.typing.stop.Fault.{Fault}
use Rattle.scalar_trees.specs.declared.typing.stop.Fault.TheVariants.{UnknownComponent, WrongType, WrongStructure, WrongRole, NameTwice, TooManyComponents, BadConstant}
use Rattle.scalar_trees.specs.declared.typing.stop.Refusal.{Refusal}
use Rattle.scalar_trees.specs.declared.typing.typed.Typed.{Typed}
use Rattle.scalar_trees.specs.typing.Scalars.{component_number, joint, meaning, number_step, typed}
use Rattle.scalar_trees.specs.typing.Scopes.{column_of, kind_at, seen_slot}
use Rattle.scalar_trees.specs.typing.Sound.{IsTyped}
use Rattle.scalar_trees.specs.typing.Steps.{◌>>=◌, or_refused}
use Rattle.scalar_trees.proofs.typing.Levels.{over-Expr}
use Rattle.scalar_trees.proofs.typing.Folds.{Trees}
use Rattle.scalar_trees.proofs.typing.Sound.{both, is_kind-refl, is_kind-same, left, right, rolled}
use Rattle.data_set_trees.specs.declared.clauses.clause.CheckedClause.{CheckedClause}
use Rattle.data_set_trees.specs.declared.clauses.clause.CheckedClause.TheVariants as clause
use Rattle.data_set_trees.specs.declared.clauses.clause.CheckedItem.{CheckedItem}
use Rattle.data_set_trees.specs.declared.clauses.frame.Frame.{Frame}
use Rattle.data_set_trees.specs.clauses.After.{calculated}
use Rattle.data_set_trees.specs.clauses.Clauses.{IsItemOf, calc_typed, demands, has_room, may_be_target, may_calculate, passes_at, targets_differ}
use Rattle.data_set_trees.specs.clauses.Frames.{scope_of_frame}
use Rattle.data_set_trees.specs.clauses.WellTyped as clauses
use Rattle.data_set_trees.specs.clauses.WellTyped.{kinds_on, is_of, may_be_made}
use Rattle.data_set_trees.proofs.aggregates.Grouped.{met}
use Rattle.data_set_trees.proofs.clauses.Made as made
use Rattle.data_set_trees.proofs.clauses.Typed.{items_well_typed}
use Rattle.data_set_trees.specs.declared.windows.analytic.Analytic.{Analytic as Operator}
use Rattle.data_set_trees.specs.declared.windows.analytic.Analytic.TheVariants as analytic
use Rattle.data_set_trees.specs.declared.windows.analytic.AnalyticItem.{AnalyticItem}
use Rattle.data_set_trees.specs.declared.windows.analytic.AnalyticValue.TheVariants as value
use Rattle.data_set_trees.specs.declared.windows.analytic.CheckedAnalytic.{CheckedAnalytic}
use Rattle.data_set_trees.specs.declared.windows.analytic.CheckedWindow.{CheckedWindow}
use Rattle.data_set_trees.specs.declared.windows.analytic.CheckedWindow.TheVariants as window
use Rattle.data_set_trees.specs.windows.Functions.{takes_window, window_gives, window_takes}
use Rattle.data_set_trees.specs.windows.Parts.{is_offset, knows, may_part, parts_of, points_within}
use Rattle.data_set_trees.specs.windows.Results.{as_item}
use Rattle.data_set_trees.specs.windows.WellTyped as windows
use Rattle.data_set_trees.specs.windows.WellTyped.{are_parts, gives_of, is_analytic, is_of_kind as is_of_analytic, is_value}
use Rattle.data_set_trees.specs.windows.Windows.{Answer, analytic_item, bare_component, calc_checked, finished, may_state, of_component, offset_typed, rank_typed, scalar_item, window_of, window_typed, with_parts}
use Rattle.expression_rules.specs.declared.point_clause.PointClause.{PointClause}
use Rattle.expression_rules.specs.declared.point_clause.PointClause.TheVariants.{Alone, Analytic}
use Rattle.expression_rules.specs.OnClauses.{clause_checked, analytic_step, analytic_value, with_value, analytic_checked, all_analytic_checked, is_analytic as is_analytic_item, on_parts, alone, point_step, point_checked}
use Rattle.literal_ranges.specs.Ranges.{all_are, literals_in_range, clause_in_range, item_in_range, range_step as ranged}
use Rattle.fitting_trees.proofs.Clauses.{clause-range, clause-typed, item-range, level_range, whole-is}
use Rattle.fitting_trees.proofs.Scalars.{Truths, answered, gave, level-in_range, ranges, scalar-typed}
use Rattle.fitting_trees.proofs.Windows.{parts-are}

-- ---- a component that an operator takes

-- the component with this number, in a tree that is one
number-tree : (t : CheckedExpr) (n : ℕ) → component_number t ≡ Some n → t ≡ tree.Component n
number-tree t n = ind-CheckedExpr (λ (d : CheckedExpr). component_number d ≡ Some n → d ≡ tree.Component n) (λ x y is e. at x (sym (ap number_step (out-roll-CheckedExpr x)) ∙ e)) t
  where
    at : (x : CheckedExpr-F CheckedExpr) → number_step x ≡ Some n → roll-CheckedExpr x ≡ tree.Component n
    at (CheckedExpr-F.Component m) e = let same : m ≡ n = cc in tree.rolls-Component m ∙ ap tree.Component same
    at _ e = cc

bare-number : (b : Bool) (o : Option ℕ) (n : ℕ) → (if b then o else None) ≡ Some n → o ≡ Some n
bare-number true o n e = e
bare-number false o n e = cc

kind-there : (o : Option Kind) (own : Option Kind) → ((k : Kind) → is_some_kind k o ≡ is_exactly own k) → (k : Kind) × (o ≡ Some k) × (own ≡ Some k)
kind-there (Some k) (Some own) same = let is : k ≡ own = is_kind-same k own (same own ∙ is_kind-refl own) in (k, refl, ap (λ (q : Kind). Some q) (sym is))
kind-there (Some k) None same = let integer : k ≡ kind.Integer = is_kind-same k kind.Integer (same kind.Integer) in let text : k ≡ kind.Text = is_kind-same k kind.Text (same kind.Text) in absurd (cc (sym integer ∙ text))
kind-there None (Some own) same = let none : false ≡ true = same own ∙ is_kind-refl own in absurd (cc none)
kind-there None None same = let none : false ≡ true = same kind.Integer in absurd (cc none)

seen-kind : (n : ℕ) (o : Option Column) → option_map (λ s. s.kind) (option_and_then (seen_slot Point n) o) ≡ option_map (λ (c : Column). c.kind) o
seen-kind n None = refl
seen-kind n (Some c) = refl

column-kind : (cs : List Component) (n : ℕ) → option_map (λ (c : Column). c.kind) (slice_get (map column_of cs) n) ≡ option_map (λ (c : Component). c.kind) (slice_get cs n)
column-kind [] n = refl
column-kind (c ∷ cs) zero = refl
column-kind (c ∷ cs) (suc n) = column-kind cs n

module _ (frame : Frame) where
  kind-at : (n : ℕ) → kind_at (map column_of frame.components) Point n ≡ option_map (λ (c : Component). c.kind) (slice_get frame.components n)
  kind-at n = seen-kind n (slice_get (map column_of frame.components) n) ∙ column-kind frame.components n

  -- a bare component is there, of the operand's kind
  component-is : (a : Expr) (t : Typed) (n : ℕ) → IsTyped (kinds_on frame) t → bare_component a t ≡ Some n → (k : Kind) × (option_map (λ (c : Component). c.kind) (slice_get frame.components n) ≡ Some k) × (t.kind ≡ Some k)
  component-is a t n well bare =
      let is : t.tree ≡ tree.Component n = number-tree t.tree n (bare-number (is_some (meaning a).own_name) (component_number t.tree) n bare) in
      let step : is_of_kind (kinds_on frame) (tree.Component n) ≡ (λ k. is_some_kind k (kind_at (map column_of frame.components) Point n)) = rolled (kinds_on frame) (CheckedExpr-F.Component n) (tree.rolls-Component n) in
      let kinds : (k : Kind) → is_some_kind k (kind_at (map column_of frame.components) Point n) ≡ is_exactly t.kind k = λ k. ap (λ (f : Kind → Bool). f k) (sym step ∙ ap (is_of_kind (kinds_on frame)) (sym is) ∙ well) in
      let found = kind-there (kind_at (map column_of frame.components) Point n) t.kind kinds in
      (found.0, sym (kind-at n) ∙ found.1, found.2)

  -- and so an operator that takes it gives what it says
  gives-is : (takes : List Kind) (gives : Kind → Kind) (n : ℕ) (k kind : Kind) → option_map (λ (c : Component). c.kind) (slice_get frame.components n) ≡ Some k → agreed takes (Some k ∷ []) ≡ Some kind → passes_at (gives_of takes gives (gives kind)) frame n ≡ true
  gives-is takes gives n k kind has taken = by_component (slice_get frame.components n) has
    where
      by_component : (o : Option Component) → option_map (λ (c : Component). c.kind) o ≡ Some k → option_map_or (gives_of takes gives (gives kind)) o false ≡ true
      by_component None e = cc
      by_component (Some c) e =
          let same : c.kind ≡ k = cc in
          ap (λ (q : Kind). option_map_or (λ own. is_kind (gives own) (gives kind)) (agreed takes (Some q ∷ [])) false) same
          ∙ ap (λ (o : Option Kind). option_map_or (λ own. is_kind (gives own) (gives kind)) o false) taken
          ∙ is_kind-refl (gives kind)

  joint-is : (place : Place) (takes : List Kind) (own : Option Kind) (kind : Kind) → joint place takes (own ∷ []) ≡ Ok kind → agreed takes (own ∷ []) ≡ Some kind
  joint-is place takes own kind h = by_found (agreed takes (own ∷ [])) h
    where
      by_found : (o : Option Kind) → or_refused o WrongType place ≡ Ok kind → o ≡ Some kind
      by_found None e = cc
      by_found (Some q) e = let same : q ≡ kind = cc in ap (λ (r : Kind). Some r) same

  or-there : (o : Option ℕ) (place : Place) (n : ℕ) → or_refused o WrongStructure place ≡ Ok n → o ≡ Some n
  or-there None place n e = cc
  or-there (Some m) place n e = let same : m ≡ n = cc in ap (λ (r : ℕ). Some r) same

  -- ---- operators in `calc`

  abbrev IsValue : Kind × CheckedAnalytic → Type 0
  IsValue v = is_analytic frame v.0 v.1 ≡ true

  -- where it is of its kind, the rest makes it well typed
  finished-is : (place : Place) (over : Over) (stated within : Bool) (kind : Kind) (a : Operator) (v : Kind × CheckedAnalytic) → is_of_analytic frame kind a ≡ true → finished place frame over stated within kind a ≡ Ok v → IsValue v
  finished-is place over stated within kind a v own h =
      let may = may_part frame over in
      let answer = met place ((stated, WrongStructure) ∷ (may, WrongRole) ∷ (within, BadConstant) ∷ []) (Ok (kind, with_parts frame over a)) v h in
      let parting = left may (within && true) (right stated (may && (within && true)) answer.0) in
      subst IsValue (answered (kind, with_parts frame over a) v answer.1) (both (are_parts frame (parts_of frame over)) (is_of_analytic frame kind a) (parts-are frame over parting) own)

  -- on a component
  of-component : (place : Place) (over : Over) (takes : List Kind) (gives : Kind → Kind) (a : Expr) (next : Kind → ℕ → Answer) (v : Kind × CheckedAnalytic) → literals_in_range a ≡ true
      → ((kind : Kind) (n : ℕ) → passes_at (gives_of takes gives (gives kind)) frame n ≡ true → next kind n ≡ Ok v → IsValue v)
      → of_component place frame over takes a next ≡ Ok v → IsValue v
  of-component place over takes gives a next v r well h =
      let bare = λ (t : Typed) (kind : Kind). or_refused (bare_component a t) WrongStructure place >>= next kind in
      let kinds = λ (t : Typed) (known : Unit {0}). joint place takes (t.kind ∷ []) >>= bare t in
      let t = gave (typed (scope_of_frame frame) Point a) (λ t. demands place ((knows frame over, UnknownComponent) ∷ []) >>= kinds t) v h in
      let known = gave (demands place ((knows frame over, UnknownComponent) ∷ [])) (kinds t.0) v t.2 in
      let kind = gave (joint place takes (t.0.kind ∷ [])) (bare t.0) v known.2 in
      let number = gave (or_refused (bare_component a t.0) WrongStructure place) (next kind.0) v kind.2 in
      let there = component-is a t.0 number.0 (scalar-typed a r (scope_of_frame frame) Point t.0 t.1) (or-there (bare_component a t.0) place number.0 number.1) in
      let taken = subst (λ (o : Option Kind). agreed takes (o ∷ []) ≡ Some kind.0) there.2 (joint-is place takes t.0.kind kind.0 kind.1) in
      well kind.0 number.0 (gives-is takes gives number.0 there.0 kind.0 there.1 taken) number.2

  same_value : (u v : Kind × CheckedAnalytic) → ◌≡◌ {A = Result (Option (Kind × CheckedAnalytic)) Refusal} (Ok (Some u)) (Ok (Some v)) → u ≡ v
  same_value u v h = cc

  step-is : (x : Expr-F Clause Expr Groups Item JoinOperand SubstrRange) (v : Kind × CheckedAnalytic) → ranged (over-Expr {X = Trees} {Y = Truths} ranges x) ≡ true → analytic_step x frame ≡ Ok (Some v) → IsValue v
  step-is (Expr-F.Window f a over place) v r h =
      let value = gave (window_typed f a over place frame) (λ v. Ok (Some v)) (Some v) h in
      let stated = may_state (takes_window f) over in
      let own = of-component place over (window_takes f) (window_gives f) a (λ kind number. finished place frame over stated (points_within over.points) (window_gives f kind) (window_of f number over)) value.0 r
      (λ kind n well e. finished-is place over stated (points_within over.points) (window_gives f kind) (window_of f n over) value.0 (window-kind f kind n over well) e) value.1 in
      subst IsValue (same_value value.0 v value.2) own
    where
      window-kind : (f : WindowFunction) (kind : Kind) (n : ℕ) (over : Over) → passes_at (gives_of (window_takes f) (window_gives f) (window_gives f kind)) frame n ≡ true → is_of_analytic frame (window_gives f kind) (window_of f n over) ≡ true
      window-kind function.Sum kind n over well = well
      window-kind function.Avg kind n over well = well
      window-kind function.Count kind n over well = well
      window-kind function.Min kind n over well = well
      window-kind function.Max kind n over well = well
      window-kind function.Median kind n over well = well
      window-kind function.FirstValue kind n over well = well
      window-kind function.LastValue kind n over well = well
      window-kind function.RatioToReport kind n over well = well
  step-is (Expr-F.Offset f a offset over place) v r h =
      let value = gave (offset_typed f a offset over place frame) (λ v. Ok (Some v)) (Some v) h in
      let own = of-component place over ANY (λ own. own) a (λ kind number. finished place frame over (is_none over.points) (is_offset offset) kind (analytic.Offset f number offset)) value.0 r
      (λ kind n well e. finished-is place over (is_none over.points) (is_offset offset) kind (analytic.Offset f n offset) value.0 well e) value.1 in
      subst IsValue (same_value value.0 v value.2) own
  step-is (Expr-F.Rank over place) v r h =
      let value = gave (rank_typed over place frame) (λ v. Ok (Some v)) (Some v) h in
      let known = gave (demands place ((knows frame over, UnknownComponent) ∷ [])) (λ known. finished place frame over (is_none over.points) true kind.Integer analytic.Rank) value.0 value.1 in
      subst IsValue (same_value value.0 v value.2) (finished-is place over (is_none over.points) true kind.Integer analytic.Rank value.0 refl known.2)
  step-is _ v r h = cc

  -- ---- items

  abbrev IsValued : AnalyticItem → Type 0
  IsValued i = is_value frame i.kind i.value ≡ true

  -- made on the frame, and well typed
  record IsGood (i : AnalyticItem) : Type 0 where
    pub plain : IsItemOf frame (as_item i)
    pub valued : IsValued i

  valued-is : (i : Item) → item_in_range i ≡ true → (o : Option (Kind × CheckedAnalytic)) → analytic_value (out-Item i).expr frame ≡ Ok o → (c : AnalyticItem) → with_value frame i o ≡ Ok c → IsGood c
  valued-is i r (Some v) is c h =
      let e = (out-Item i).expr in
      let in_range : ranged (over-Expr {X = Trees} {Y = Truths} ranges (out-Expr e)) ≡ true = sym (level-in_range (out-Expr e)) ∙ ap literals_in_range (roll-out-Expr e) ∙ sym (item-range i) ∙ r in
      let own = analytic_item frame (out-Item i).role (out-Item i).name v in
      subst IsGood (answered own c h) (record {
        plain = record { stated = (out-Item i).role; name = (out-Item i).name; value = record { tree = tree.Literal Null; kind = Some v.0 }; is = refl };
        valued = step-is (out-Expr e) v in_range is;
      })
  valued-is i r None is c h =
      let item = out-Item i in
      let t = gave (typed (scope_of_frame frame) Point item.expr) (λ t. Ok (scalar_item frame item.role item.name t)) c h in
      let own = scalar_item frame item.role item.name t.0 in
      let well = scalar-typed item.expr (sym (item-range i) ∙ r) (scope_of_frame frame) Point t.0 t.1 in
      subst IsGood (answered own c t.2) (record {
        plain = record { stated = item.role; name = item.name; value = record { tree = tree.Literal Null; kind = Some own.kind }; is = refl };
        valued = whole-is (kinds_on frame) kind.Text t.0 well;
      })

  all-good : (items : List Item) (cs : List AnalyticItem) → all_are (map item_in_range items) ≡ true → all_analytic_checked frame items ≡ Ok cs → All IsGood cs
  all-good [] cs r h = subst (All IsGood) (answered [] cs h) (All-nil IsGood)
  all-good (i ∷ items) cs r h =
      let first = gave (analytic_checked frame i) (λ c. all_analytic_checked frame items >>= (λ cs. Ok (c ∷ cs))) cs h in
      let others = gave (all_analytic_checked frame items) (λ cs. Ok (first.0 ∷ cs)) cs first.2 in
      let value = gave (analytic_value (out-Item i).expr frame) (with_value frame i) first.0 first.1 in
      let own = valued-is i (left (item_in_range i) (all_are (map item_in_range items)) r) value.0 value.1 first.0 value.2 in
      subst (All IsGood) (answered (first.0 ∷ others.0) cs others.2) (All-cons IsGood first.0 others.0 own (all-good items others.0 (right (item_in_range i) (all_are (map item_in_range items)) r) others.1))

  null-is : (k : Kind) → is_of frame k (tree.Literal Null) ≡ true
  null-is k = ap (λ (f : Kind → Bool). f k) (rolled (kinds_on frame) (CheckedExpr-F.Literal Null) (tree.rolls-Literal Null))

  all-plain : (cs : List AnalyticItem) → All IsGood cs → All (IsItemOf frame) (map as_item cs)
  all-plain [] all = All-nil (IsItemOf frame)
  all-plain (c ∷ cs) all = All-cons (IsItemOf frame) (as_item c) (map as_item cs) (All-head IsGood c cs all).plain (all-plain cs (All-tail IsGood c cs all))

  all-null : (cs : List AnalyticItem) → All (λ i. is_of frame i.kind i.value ≡ true) (map as_item cs)
  all-null [] = All-nil (λ (i : CheckedItem). is_of frame i.kind i.value ≡ true)
  all-null (c ∷ cs) = All-cons (λ (i : CheckedItem). is_of frame i.kind i.value ≡ true) (as_item c) (map as_item cs) (null-is c.kind) (all-null cs)

  all-items : (cs : List AnalyticItem) → list_all (clauses.is_item frame) (map as_item cs) ≡ true → All IsGood cs → list_all (windows.is_item frame) cs ≡ true
  all-items [] items all = refl
  all-items (c ∷ cs) items all =
      let target = may_be_target frame c.target && may_be_made c.role in
      let others = list_all (clauses.is_item frame) (map as_item cs) in
      let own = left target (is_of frame c.kind (tree.Literal Null)) (left (clauses.is_item frame (as_item c)) others items) in
      both (windows.is_item frame c) (list_all (windows.is_item frame) cs)
      (both target (is_value frame c.kind c.value) own (All-head IsGood c cs all).valued)
      (all-items cs (right (clauses.is_item frame (as_item c)) others items) (All-tail IsGood c cs all))

  -- ---- clauses on points

  abbrev pub is_well : PointClause → Bool
  is_well (Alone c) = clauses.is_well_typed frame c
  is_well (Analytic w) = windows.is_well_typed frame w

  parts-typed : (items : List Item) (place : Place) (k : PointClause) → all_are (map item_in_range items) ≡ true → on_parts items place frame ≡ Ok k → is_well k ≡ true
  parts-typed items place k r h =
      let all = gave (all_analytic_checked frame items) (λ checked. calc_checked place checked frame >>= (λ w. Ok (Analytic w))) k h in
      let good = all-good items all.0 r all.1 in
      let plain = map as_item all.0 in
      let w = gave (calc_checked place all.0 frame) (λ w. Ok (Analytic w)) k all.2 in
      let c = gave (calc_typed place plain frame) (λ met. Ok (window.Calc all.0)) w.0 w.1 in
      let differ = targets_differ plain in
      let room = has_room (calculated plain frame) in
      let given = made.met place ((may_calculate frame plain, WrongRole) ∷ (differ, NameTwice) ∷ (room, TooManyComponents) ∷ []) (clause.Calc plain) c.0 c.1 in
      let may = left (may_calculate frame plain) (differ && (room && true)) given.0 in
      let items_are = items_well_typed frame plain may (all-plain all.0 good) (all-null all.0) in
      subst (λ (q : PointClause). is_well q ≡ true) (answered (Analytic w.0) k w.2)
      (subst (λ (u : CheckedWindow). windows.is_well_typed frame u ≡ true) (answered (window.Calc all.0) w.0 c.2) (all-items all.0 items_are good))

  alone-typed : (written : Clause) (k : PointClause) → clause_in_range written ≡ true → alone written frame ≡ Ok k → is_well k ≡ true
  alone-typed written k r h =
      let c = gave (clause_checked written frame) (λ c. Ok (Alone c)) k h in
      subst (λ (q : PointClause). is_well q ≡ true) (answered (Alone c.0) k c.2) (clause-typed frame written c.0 r c.1)

  point-step : (x : Clause-F Clause Expr Groups Item JoinOperand SubstrRange) (written : Clause) (k : PointClause) → level_range x ≡ true → clause_in_range written ≡ true → point_step x written frame ≡ Ok k → is_well k ≡ true
  point-step (Clause-F.Calc items place) written k q r h = by_test (list_any is_analytic_item items) h
    where
      by_test : (b : Bool) → (if b then on_parts items place frame else alone written frame) ≡ Ok k → is_well k ≡ true
      by_test true is = parts-typed items place k q is
      by_test false is = alone-typed written k r is
  point-step (Clause-F.Filter condition place) written k q r h = alone-typed written k r h
  point-step (Clause-F.Keep names place) written k q r h = alone-typed written k r h
  point-step (Clause-F.Drop names place) written k q r h = alone-typed written k r h
  point-step (Clause-F.Rename renames place) written k q r h = alone-typed written k r h
  point-step (Clause-F.Sub items place) written k q r h = alone-typed written k r h
  point-step (Clause-F.Unpivot identifier measure place) written k q r h = alone-typed written k r h
  point-step (Clause-F.Aggr items groups place) written k q r h = alone-typed written k r h

  pub point-typed : (written : Clause) (k : PointClause) → clause_in_range written ≡ true → point_checked written frame ≡ Ok k → is_well k ≡ true
  point-typed written k r h = point-step (out-Clause written) written k (sym (clause-range written) ∙ r) r h
