-- The sizes of outlines as expressions and levels.
use Rattle.std.proofs.Common.{◌≡◌, ℕ, suc, ◌+◌, ◌*◌, None, List, [], ◌∷◌, ◌++◌, map, length, refl, sym, ap, ◌∙◌, arith}
use Rattle.std.proofs.Math.Seq.{drop-nil}
use Rattle.std.specs.Prelude.{fold, sum, max}
use Rattle.operator_faults.specs.declared.outline.What.{What}
use Rattle.operator_faults.specs.declared.outline.What.TheVariants as what
use Rattle.operator_faults.specs.declared.outline.Outline.{Outline, fold-roll-Outline}
use Rattle.written_sizes.specs.declared.measure.Measure.TheVariants as measure
use Rattle.written_sizes.specs.Arithmetic.{exact, plus, deep}
use Rattle.written_sizes.specs.Sizes.{own_expressions, own_levels, inner, largest, expressions_step, levels_step, expressions, levels}
use Rattle.written_sizes.specs.Weights.{applied, with_arguments, with_names, call_weight, weight_by, weigh_step}
use Rattle.written_sizes.proofs.Folds.{level, fold_same}
use Rattle.written_sizes.proofs.Sizing.{size, each_one, map-after}

-- ---- expressions

added : (a : ℕ) (ns : List ℕ) → fold (plus measure.Expressions) a ns ≡ a + sum ns
added a [] = let e : a ≡ a + 0 = omega arith in e
added a (n ∷ ns) = added (a + n) ns ∙ (let e : a + n + sum ns ≡ a + (0 + n + sum ns) = omega arith in e) ∙ sym (ap (λ (k : ℕ). a + k) (added (0 + n) ns))

pub sum-cons : (n : ℕ) (ns : List ℕ) → sum (n ∷ ns) ≡ n + sum ns
sum-cons n ns = added (0 + n) ns ∙ (let e : 0 + n + sum ns ≡ n + sum ns = omega arith in e)

pub sum-append : (ns ks : List ℕ) → sum (ns ++ ks) ≡ sum ns + sum ks
sum-append [] ks = let e : sum ks ≡ 0 + sum ks = omega arith in e
sum-append (n ∷ ns) ks =
    sum-cons n (ns ++ ks) ∙ ap (λ (k : ℕ). n + k) (sum-append ns ks)
    ∙ (let e : n + (sum ns + sum ks) ≡ n + sum ns + sum ks = omega arith in e)
    ∙ ap (λ (k : ℕ). k + sum ks) (sym (sum-cons n ns))

in_call : (i a : ℕ) (ns : List ℕ) → with_arguments (exact measure.Expressions) measure.Expressions 1 [] None i a ns ≡ a + sum ns
in_call i a [] = let e : a ≡ a + 0 = omega arith in e
in_call i a (n ∷ ns) = in_call (i + 1) (a + 1 * n) ns ∙ (let e : a + 1 * n + sum ns ≡ a + (0 + n + sum ns) = omega arith in e) ∙ sym (ap (λ (k : ℕ). a + k) (added (0 + n) ns))

a_node : (a : ℕ) (ns : List ℕ) → a + sum ns ≡ 1 * fold (plus measure.Expressions) a ns
a_node a ns = let h = added a ns in omega (arith, h)

a_call : (ns : List ℕ) → 1 + sum ns ≡ applied (exact measure.Expressions) measure.Expressions 1 [] None ns
a_call ns = sym (ap (with_names (exact measure.Expressions) 1 (with_arguments (exact measure.Expressions) measure.Expressions 1 [] None 0 1 ns)) (drop-nil (length ns)) ∙ in_call 0 1 ns)

by_expressions : (w : What) (ns : List ℕ) → own_expressions w + sum (inner w ns) ≡ weight_by (exact measure.Expressions) measure.Expressions 1 each_one (call_weight (exact measure.Expressions) measure.Expressions 1 [] []) w ns
by_expressions (what.Name s) ns = refl
by_expressions (what.Call c) ns = a_call ns
by_expressions what.Plain ns = a_node 1 ns
by_expressions what.Level ns = a_node 1 ns
by_expressions what.Inside ns = a_node 0 ns
by_expressions what.InsideJoin ns = a_node 0 ns

pub size-expressions : (o : Outline) → expressions o ≡ size measure.Expressions o
size-expressions o =
    fold_same ℕ (weigh_step (exact measure.Expressions) measure.Expressions 1 each_one (call_weight (exact measure.Expressions) measure.Expressions 1 [] [])) expressions
    (λ w b os. fold-roll-Outline ℕ expressions_step (level w b os) ∙ by_expressions w (map expressions os))
    o

-- ---- levels

deepest : (a : ℕ) (ls : List ℕ) → fold (plus measure.Levels) (suc a) (map suc ls) ≡ suc (max a (largest ls))
deepest a [] = let e : suc a ≡ suc (max a 0) = omega arith in e
deepest a (l ∷ ls) =
    let e : max (suc a) (suc l) ≡ suc (max a l) = omega arith in
    ap (λ (n : ℕ). fold (plus measure.Levels) n (map suc ls)) e ∙ deepest (max a l) ls
    ∙ (let d : suc (max (max a l) (largest ls)) ≡ suc (max a (max l (largest ls))) = omega arith in d)

deep_node : (k : ℕ) (ls : List ℕ) → suc (k + largest ls) ≡ deep (suc k) (fold (plus measure.Levels) 1 (map suc ls))
deep_node k ls = (let e : suc (k + largest ls) ≡ suc (k + max 0 (largest ls)) = omega arith in e) ∙ sym (ap (deep (suc k)) (deepest 0 ls))

deep_in_call : (i a : ℕ) (ls : List ℕ) → with_arguments (exact measure.Levels) measure.Levels 1 [] None i (suc (suc a)) (map suc ls) ≡ suc (suc (max a (largest ls)))
deep_in_call i a [] = let e : suc (suc a) ≡ suc (suc (max a 0)) = omega arith in e
deep_in_call i a (l ∷ ls) =
    let e : max (suc (suc a)) (suc (1 + l)) ≡ suc (suc (max a l)) = omega arith in
    ap (λ (n : ℕ). with_arguments (exact measure.Levels) measure.Levels 1 [] None (i + 1) n (map suc ls)) e ∙ deep_in_call (i + 1) (max a l) ls
    ∙ (let d : suc (suc (max (max a l) (largest ls))) ≡ suc (suc (max a (max l (largest ls)))) = omega arith in d)

deep_call : (ls : List ℕ) → suc (1 + largest ls) ≡ applied (exact measure.Levels) measure.Levels 1 [] None (map suc ls)
deep_call ls =
    (let e : suc (1 + largest ls) ≡ suc (suc (max 0 (largest ls))) = omega arith in e)
    ∙ sym (ap (with_names (exact measure.Levels) 1 (with_arguments (exact measure.Levels) measure.Levels 1 [] None 0 2 (map suc ls))) (drop-nil (length (map suc ls))) ∙ deep_in_call 0 0 ls)

by_levels : (w : What) (ls : List ℕ) → suc (own_levels w + largest (inner w ls)) ≡ weight_by (exact measure.Levels) measure.Levels 1 each_one (call_weight (exact measure.Levels) measure.Levels 1 [] []) w (map suc ls)
by_levels (what.Name s) ls = refl
by_levels (what.Call c) ls = deep_call ls
by_levels what.Plain ls = deep_node 0 ls
by_levels what.Level ls = deep_node 1 ls
by_levels what.Inside ls = deep_node 0 ls
by_levels what.InsideJoin ls = deep_node 1 ls

pub size-levels : (o : Outline) → suc (levels o) ≡ size measure.Levels o
size-levels o =
    fold_same ℕ (weigh_step (exact measure.Levels) measure.Levels 1 each_one (call_weight (exact measure.Levels) measure.Levels 1 [] [])) (λ x. suc (levels x))
    (λ w b os. ap suc (fold-roll-Outline ℕ levels_step (level w b os)) ∙ by_levels w (map levels os)
    ∙ ap (weight_by (exact measure.Levels) measure.Levels 1 each_one (call_weight (exact measure.Levels) measure.Levels 1 [] []) w) (map-after suc levels os))
    o
