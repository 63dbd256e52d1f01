-- The outlines of what is written out.
use Rattle.std.proofs.Common.{◌≡◌, ℕ, zero, suc, ◌+◌, Bool, true, false, if◌then◌else◌, List, [], ◌∷◌, ◌++◌, Option, Some, None, map, length, refl, sym, ap, ◌∙◌}
use Rattle.std.proofs.Math.Path.{ap₂}
use Rattle.std.proofs.lemmas.List.{length-map, map-append}
use Rattle.std.specs.Prelude.{slice_get, unwrap_or, position}
use Rattle.std.specs.List.{flat_map}
use Rattle.std.specs.Option.{option_map, option_and_then}
use Rattle.vtl_values.specs.declared.place.Place.{Place}
use Rattle.vtl_syntax.specs.declared.words.Sort.{Sort}
use Rattle.vtl_syntax.specs.declared.operator.DefinedOperator.{DefinedOperator}
use Rattle.vtl_syntax.specs.declared.operator.Param.{Param}
use Rattle.vtl_syntax.specs.declared.expr.Expr.{Expr, fold-roll-Expr}
use Rattle.vtl_syntax.specs.declared.expr.Expr.TheVariants as tree
use Rattle.vtl_syntax.specs.declared.expr.Clause.TheOpen.{Expr-F}
use Rattle.vtl_syntax.specs.declared.ruleset.Ruleset.{Ruleset}
use Rattle.vtl_syntax.specs.declared.ruleset.Ruleset.TheVariants as kind
use Rattle.vtl_syntax.specs.declared.ruleset.DatapointRule.{DatapointRule}
use Rattle.vtl_syntax.specs.declared.ruleset.HierarchyRule.{HierarchyRule}
use Rattle.vtl_syntax.specs.declared.script.Statement.{Statement}
use Rattle.operator_faults.specs.declared.outline.What.{What}
use Rattle.operator_faults.specs.declared.outline.What.TheVariants as what
use Rattle.operator_faults.specs.declared.outline.Outline.{Outline, roll-Outline, fold-roll-Outline}
use Rattle.operator_faults.specs.Names.{same_word}
use Rattle.operator_faults.specs.Calls.{operator_of, is_dataset}
use Rattle.operator_faults.specs.Outlines.{outline, has_name, clause_step, expr_step, groups_step, item_step, operand_step, range_step, outlined}
use Rattle.operator_faults.specs.Sketches.{of_statement, of_rule, of_condition, of_datapoint, of_hierarchy, of_ruleset}
use Rattle.tree_copies.specs.Made as tree_made
use Rattle.tree_copies.specs.Made.{made}
use Rattle.replaced_calls.specs.Replacing as trees
use Rattle.replaced_calls.specs.Replacing.{place_of, sorted_call, sorted, written}
use Rattle.replaced_calls.specs.Scripts.{statement_with, datapoint_with, hierarchy_with, ruleset_with, sorted_operator, sorted_operators}
use Rattle.replaced_calls.proofs.Enough.{sorted-found}
use Rattle.replaced_calls.proofs.Written.{opened_by}
use Rattle.written_sizes.specs.Laws.{OutlinesAreReplaced}
use Rattle.written_sizes.specs.Replaced.{Names, Calls, same_name, same_call, remade_by, remade_step, remade, returned, sorted_argument, sorted_from, bound, with_sorts, body_with, opened, replaced}
use Rattle.written_sizes.proofs.Folds.{level, fold_same, fold-outline}
use Rattle.written_sizes.proofs.Outlining.{outlined-made}
use Rattle.written_sizes.proofs.Sizing.{map-after}

-- ---- outlines made anew twice

module _ (name name' name'' : Names) (call call' call'' : Calls)
    (names : (w : List ℕ) (p : Place) → remade name call (name' w p) ≡ name'' w p)
    (calls : (w : List ℕ) (os : List Outline) (p : Place) → remade name call (call' w os p) ≡ call'' w (map (remade name call) os) p) where
  abbrev twice : Outline → Outline
  twice o = remade name call (remade name' call' o)

  within : (w : What) (os : List Outline) → remade name call (outline w (map (remade name' call') os)) ≡ remade_by name call w (map twice os)
  within w os = fold-outline Outline (remade_step name call) w (map (remade name' call') os) ∙ ap (remade_by name call w) (map-after (remade name call) (remade name' call') os)

  by_what : (w : What) (os : List Outline) → remade name call (remade_by name' call' w (map (remade name' call') os)) ≡ remade_by name'' call'' w (map twice os)
  by_what (what.Name s) os = names s.name s.place
  by_what (what.Call c) os = calls c.name (map (remade name' call') os) c.place ∙ ap (λ (ps : List Outline). call'' c.name ps c.place) (map-after (remade name call) (remade name' call') os)
  by_what what.Plain os = within what.Plain os
  by_what what.Level os = within what.Level os
  by_what what.Inside os = within what.Inside os
  by_what what.InsideJoin os = within what.InsideJoin os

  goes : (w : What) (b : Bool) (os : List Outline) → twice (roll-Outline (level w b os)) ≡ remade_step name'' call'' (level w b (map twice os))
  goes w b os = ap (remade name call) (fold-roll-Outline Outline (remade_step name' call') (level w b os)) ∙ by_what w os

  remade-twice : (o : Outline) → remade name call (remade name' call' o) ≡ remade name'' call'' o
  remade-twice o = fold_same Outline (remade_step name'' call'') twice goes o

remade-name : (name : Names) (call : Calls) (w : List ℕ) (p : Place) → remade name call (same_name w p) ≡ name w p
remade-name name call w p = fold-outline Outline (remade_step name call) (what.Name (record { name = w; place = p })) []

remade-call : (name : Names) (call : Calls) (w : List ℕ) (os : List Outline) (p : Place) → remade name call (same_call w os p) ≡ call w (map (remade name call) os) p
remade-call name call w os p = fold-outline Outline (remade_step name call) (what.Call (record { name = w; place = p; named = map has_name os })) os

-- ---- outlines of single expressions

outlined-name : (w : List ℕ) (p : Place) → outlined (tree.Name w p) ≡ same_name w p
outlined-name w p = ap outlined (sym (tree.rolls-Name w p)) ∙ fold-roll-Expr (List Outline) Outline (List Outline) Outline Outline (List Outline) clause_step expr_step groups_step item_step operand_step range_step (Expr-F.Name w p)

outlined-call : (w : List ℕ) (es : List Expr) (p : Place) → outlined (tree.CallOf w es p) ≡ same_call w (map outlined es) p
outlined-call w es p = ap outlined (sym (tree.rolls-CallOf w es p)) ∙ fold-roll-Expr (List Outline) Outline (List Outline) Outline Outline (List Outline) clause_step expr_step groups_step item_step operand_step range_step (Expr-F.CallOf w es p)

outlined-Typed : (s : Sort) (e : Expr) (p : Place) → outlined (tree.Typed s e p) ≡ outline what.Plain (outlined e ∷ [])
outlined-Typed s e p = ap outlined (sym (tree.rolls-Typed s e p)) ∙ fold-roll-Expr (List Outline) Outline (List Outline) Outline Outline (List Outline) clause_step expr_step groups_step item_step operand_step range_step (Expr-F.Typed s e p)

-- ---- sorts

outlined-if : (d : Bool) (s : Sort) (p : Place) (e : Expr) → outlined (if d then e else tree.Typed s e p) ≡ (if d then outlined e else outline what.Plain (outlined e ∷ []))
outlined-if true s p e = refl
outlined-if false s p e = outlined-Typed s e p

outlined-returned : (s : Option Sort) (p : Place) (e : Expr) → outlined (trees.returned s p e) ≡ returned s (outlined e)
outlined-returned None p e = refl
outlined-returned (Some s) p e = outlined-if (is_dataset s) s p e

outlined-argument : (q : Option Param) (e : Expr) → outlined (trees.sorted_argument q e) ≡ sorted_argument q (outlined e)
outlined-argument None e = refl
outlined-argument (Some q) e = outlined-if (is_dataset q.sort) q.sort (place_of e) e

outlined-arguments : (ps : List Param) (i : ℕ) (es : List Expr) → map outlined (trees.sorted_from ps i es) ≡ sorted_from ps i (map outlined es)
outlined-arguments ps i [] = refl
outlined-arguments ps i (e ∷ es) = λ j. outlined-argument (slice_get ps i) e j ∷ outlined-arguments ps (i + 1) es j

sorted_at : (w : List ℕ) (es : List Expr) (p : Place) (q : Option DefinedOperator) → outlined (unwrap_or (option_map (λ (o : DefinedOperator). trees.sorted_by o w es p) q) (tree.CallOf w es p)) ≡ unwrap_or (option_map (with_sorts same_call w (map outlined es) p) q) (same_call w (map outlined es) p)
sorted_at w es p None = outlined-call w es p
sorted_at w es p (Some o) =
    outlined-returned o.returns p (tree.CallOf w (trees.sorted_arguments o.params es) p)
    ∙ ap (returned o.returns) (outlined-call w (trees.sorted_arguments o.params es) p ∙ ap (λ (ps : List Outline). same_call w ps p) (outlined-arguments o.params 0 es))

-- ---- parameters

outlined-at : (es : List Expr) (i : ℕ) (e : Expr) (o : Outline) → outlined e ≡ o → outlined (unwrap_or (slice_get es i) e) ≡ unwrap_or (slice_get (map outlined es) i) o
outlined-at [] i e o h = h
outlined-at (x ∷ es) zero e o h = refl
outlined-at (x ∷ es) (suc i) e o h = outlined-at es i e o h

outlined-taken : (es : List Expr) (q : Option ℕ) (e : Expr) (o : Outline) → outlined e ≡ o → outlined (unwrap_or (option_and_then (λ (i : ℕ). slice_get es i) q) e) ≡ unwrap_or (option_and_then (slice_get (map outlined es)) q) o
outlined-taken es None e o h = h
outlined-taken es (Some i) e o h = outlined-at es i e o h

outlined-bound : (ps : List Param) (es : List Expr) (w : List ℕ) (p : Place) → outlined (trees.bound ps es w p) ≡ bound ps (map outlined es) w p
outlined-bound ps es w p = outlined-taken es (position (λ (q : Param). same_word q.name w) ps) (tree.Name w p) (same_name w p) (outlined-name w p)

-- ---- calls that are given sorts first and replaced then

module _ (os : List DefinedOperator) where
  -- what becomes of a call that has its sorts
  abbrev inner_call : ℕ → Calls
  inner_call zero w ps p = same_call w ps p
  inner_call (suc n) w ps p = unwrap_or (option_map (λ (o : DefinedOperator). body_with (opened os n) o w ps p) (operator_of os w)) (same_call w ps p)

  inner-none : (n : ℕ) (w : List ℕ) (ps : List Outline) (p : Place) → operator_of os w ≡ None → inner_call n w ps p ≡ same_call w ps p
  inner-none zero w ps p is = refl
  inner-none (suc n) w ps p is = ap (λ (q : Option DefinedOperator). unwrap_or (option_map (λ (o : DefinedOperator). body_with (opened os n) o w ps p) q) (same_call w ps p)) is

  opened-none : (n : ℕ) (w : List ℕ) (ps : List Outline) (p : Place) → operator_of os w ≡ None → opened os n w ps p ≡ same_call w ps p
  opened-none zero w ps p is = ap (λ (q : Option DefinedOperator). unwrap_or (option_map (with_sorts same_call w ps p) q) (same_call w ps p)) is
  opened-none (suc n) w ps p is = ap (λ (q : Option DefinedOperator). unwrap_or (option_map (λ (o : DefinedOperator). with_sorts (body_with (opened os n) o) w ps p o) q) (same_call w ps p)) is

  opened-some : (n : ℕ) (w : List ℕ) (ps : List Outline) (p : Place) (o : DefinedOperator) → operator_of os w ≡ Some o → opened os n w ps p ≡ returned o.returns (inner_call n w (sorted_from o.params 0 ps) p)
  opened-some zero w ps p o is = ap (λ (q : Option DefinedOperator). unwrap_or (option_map (with_sorts same_call w ps p) q) (same_call w ps p)) is
  opened-some (suc n) w ps p o is =
      let ts = sorted_from o.params 0 ps in
      ap (λ (q : Option DefinedOperator). unwrap_or (option_map (λ (x : DefinedOperator). with_sorts (body_with (opened os n) x) w ps p x) q) (same_call w ps p)) is
      ∙ sym (ap (λ (q : Option DefinedOperator). returned o.returns (unwrap_or (option_map (λ (x : DefinedOperator). body_with (opened os n) x w ts p) q) (same_call w ts p))) is)

  module _ (n : ℕ) (name : Names) where
    abbrev over : Outline → Outline
    over = remade name (inner_call n)

    over-if : (d : Bool) (o : Outline) → over (if d then o else outline what.Plain (o ∷ [])) ≡ (if d then over o else outline what.Plain (over o ∷ []))
    over-if true o = refl
    over-if false o = fold-outline Outline (remade_step name (inner_call n)) what.Plain (o ∷ [])

    over-returned : (s : Option Sort) (o : Outline) → over (returned s o) ≡ returned s (over o)
    over-returned None o = refl
    over-returned (Some s) o = over-if (is_dataset s) o

    over-argument : (q : Option Param) (o : Outline) → over (sorted_argument q o) ≡ sorted_argument q (over o)
    over-argument None o = refl
    over-argument (Some q) o = over-if (is_dataset q.sort) o

    over-arguments : (ps : List Param) (i : ℕ) (xs : List Outline) → map over (sorted_from ps i xs) ≡ sorted_from ps i (map over xs)
    over-arguments ps i [] = refl
    over-arguments ps i (x ∷ xs) = λ j. over-argument (slice_get ps i) x j ∷ over-arguments ps (i + 1) xs j

    over_at : (w : List ℕ) (xs : List Outline) (p : Place) (q : Option DefinedOperator) → operator_of os w ≡ q → over (unwrap_or (option_map (with_sorts same_call w xs p) q) (same_call w xs p)) ≡ opened os n w (map over xs) p
    over_at w xs p None is = remade-call name (inner_call n) w xs p ∙ inner-none n w (map over xs) p is ∙ sym (opened-none n w (map over xs) p is)
    over_at w xs p (Some o) is =
        over-returned o.returns (same_call w (sorted_from o.params 0 xs) p)
        ∙ ap (returned o.returns) (remade-call name (inner_call n) w (sorted_from o.params 0 xs) p ∙ ap (λ (ts : List Outline). inner_call n w ts p) (over-arguments o.params 0 xs))
        ∙ sym (opened-some n w (map over xs) p o is)

    over-sorted : (o : Outline) → over (remade same_name (opened os zero) o) ≡ remade name (opened os n) o
    over-sorted o = remade-twice name same_name name (inner_call n) (opened os zero) (opened os n) (remade-name name (inner_call n)) (λ w xs p. over_at w xs p (operator_of os w) refl) o

  abbrev pub sorts : List DefinedOperator
  sorts = sorted_operators os

  abbrev Opens : ℕ → Type 0
  Opens n = (w : List ℕ) (es : List Expr) (p : Place) → outlined (trees.opened sorts n w es p) ≡ inner_call n w (map outlined es) p

  outlined-sorted : (e : Expr) → outlined (sorted os e) ≡ remade same_name (opened os zero) (outlined e)
  outlined-sorted e = outlined-made tree_made.same_name (sorted_call os) same_name (opened os zero) outlined-name (λ w es p. sorted_at w es p (operator_of os w)) e

  outlined-written : (n : ℕ) → Opens n → (name : tree_made.Names) (out_name : Names) → ((w : List ℕ) (p : Place) → outlined (name w p) ≡ out_name w p) → (e : Expr)
      → outlined (made name (trees.opened sorts n) (sorted os e)) ≡ remade out_name (opened os n) (outlined e)
  outlined-written n opens name out_name names e =
      outlined-made name (trees.opened sorts n) out_name (inner_call n) names opens (sorted os e)
      ∙ ap (remade out_name (inner_call n)) (outlined-sorted e)
      ∙ over-sorted n out_name (outlined e)

  opens_at : (n : ℕ) → Opens n → (w : List ℕ) (es : List Expr) (p : Place) (q : Option DefinedOperator)
      → outlined (opened_by sorts n w es p (option_map (sorted_operator os) q)) ≡ unwrap_or (option_map (λ (o : DefinedOperator). body_with (opened os n) o w (map outlined es) p) q) (same_call w (map outlined es) p)
  opens_at n opens w es p None = outlined-call w es p
  opens_at n opens w es p (Some o) = outlined-written n opens (trees.bound o.params es) (bound o.params (map outlined es)) (outlined-bound o.params es) o.body

  opens : (n : ℕ) → Opens n
  opens zero w es p = outlined-call w es p
  opens (suc n) w es p = ap (λ (q : Option DefinedOperator). outlined (opened_by sorts n w es p q)) (sorted-found os os w) ∙ opens_at n (λ v fs q. opens n v fs q) w es p (operator_of os w)

  abbrev pub written_of : Expr → Expr
  written_of e = written sorts (length sorts) (sorted os e)

  pub outlines-replaced : (e : Expr) → outlined (written_of e) ≡ replaced os (outlined e)
  outlines-replaced e =
      outlined-written (length sorts) (opens (length sorts)) tree_made.same_name same_name outlined-name e
      ∙ ap (λ (n : ℕ). remade same_name (opened os n) (outlined e)) (length-map os (sorted_operator os))

  -- ---- the outlines of a script

  abbrev write : Expr → Expr
  write = written sorts (length sorts)

  abbrev sort : Expr → Expr
  sort = sorted os

  statements-replaced : (ss : List Statement) → map of_statement (map (statement_with write) (map (statement_with sort) ss)) ≡ map (replaced os) (map of_statement ss)
  statements-replaced [] = refl
  statements-replaced (s ∷ ss) = λ i. outlines-replaced s.expr i ∷ statements-replaced ss i

  condition-replaced : (c : Option Expr) → of_condition (option_map write (option_map sort c)) ≡ map (replaced os) (of_condition c)
  condition-replaced None = refl
  condition-replaced (Some e) = λ i. outlines-replaced e i ∷ []

  datapoints-replaced : (rs : List DatapointRule) → flat_map of_datapoint (map (datapoint_with write) (map (datapoint_with sort) rs)) ≡ map (replaced os) (flat_map of_datapoint rs)
  datapoints-replaced [] = refl
  datapoints-replaced (r ∷ rs) =
      ap₂ (λ (xs ys : List Outline). xs ++ ys)
      (ap₂ (λ (xs ys : List Outline). xs ++ ys) (condition-replaced r.condition) (λ i. outlines-replaced r.expr i ∷ []) ∙ sym (map-append (replaced os) (of_condition r.condition) (of_rule r.expr)))
      (datapoints-replaced rs)
      ∙ sym (map-append (replaced os) (of_datapoint r) (flat_map of_datapoint rs))

  hierarchies-replaced : (rs : List HierarchyRule) → flat_map of_hierarchy (map (hierarchy_with write) (map (hierarchy_with sort) rs)) ≡ map (replaced os) (flat_map of_hierarchy rs)
  hierarchies-replaced [] = refl
  hierarchies-replaced (r ∷ rs) = ap₂ (λ (xs ys : List Outline). xs ++ ys) (condition-replaced r.condition) (hierarchies-replaced rs) ∙ sym (map-append (replaced os) (of_hierarchy r) (flat_map of_hierarchy rs))

  ruleset-replaced : (r : Ruleset) → of_ruleset (ruleset_with write (ruleset_with sort r)) ≡ map (replaced os) (of_ruleset r)
  ruleset-replaced (kind.Datapoint d) = datapoints-replaced d.rules
  ruleset-replaced (kind.Hierarchy h) = hierarchies-replaced h.rules

  rulesets-replaced : (rs : List Ruleset) → flat_map of_ruleset (map (ruleset_with write) (map (ruleset_with sort) rs)) ≡ map (replaced os) (flat_map of_ruleset rs)
  rulesets-replaced [] = refl
  rulesets-replaced (r ∷ rs) = ap₂ (λ (xs ys : List Outline). xs ++ ys) (ruleset-replaced r) (rulesets-replaced rs) ∙ sym (map-append (replaced os) (of_ruleset r) (flat_map of_ruleset rs))

pub outlines_replaced : OutlinesAreReplaced
outlines_replaced s = (statements-replaced s.operators s.statements, rulesets-replaced s.operators s.rulesets)
