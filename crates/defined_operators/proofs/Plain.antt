-- A script that defines no operator and calls none has no fault where it is within the limits of size.
use Rattle.std.proofs.Common.{◌≡◌, List, [], ◌∷◌, ◌++◌, Option, None, map, refl, sym, ap, ◌∙◌, subst}
use Rattle.std.proofs.Math.Path.{ap₂}
use Rattle.std.proofs.lemmas.Grind.{flat_map-append}
use Rattle.std.specs.Prelude.{find}
use Rattle.std.specs.Option.{option_map}
use Rattle.vtl_syntax.specs.declared.operator.DefinedOperator.{DefinedOperator}
use Rattle.vtl_syntax.specs.declared.script.Script.{Script}
use Rattle.operator_faults.specs.declared.calls.CallFault.{CallFault}
use Rattle.operator_faults.specs.declared.calls.CallFault.TheVariants.{Unknown, Count, Sort}
use Rattle.operator_faults.specs.declared.fault.PlacedFault.{PlacedFault}
use Rattle.operator_faults.specs.declared.outline.CallSite.{CallSite}
use Rattle.operator_faults.specs.declared.sketch.Sketch.{Sketch}
use Rattle.shortest_cycles.specs.Firsts.{or_else}
use Rattle.operator_faults.specs.Calls.{sites, all_sites, is_wrong, earlier, told, wrong_in_script}
use Rattle.operator_faults.specs.Recursions.{recursion}
use Rattle.operator_faults.specs.Sketches.{of_operator, sketch_of}
use Rattle.operator_faults.specs.Faults.{in_sketch, of_names, first_fault as first_in_text}
use Rattle.written_sizes.specs.Laws.{outlines, IsWithinLimits}
use Rattle.written_sizes.specs.Rooms.{FitsAsItStands}
use Rattle.written_sizes.specs.SizeFaults.{size_fault}
use Rattle.written_sizes.proofs.Exact.{faults_exact}
use Rattle.replaced_calls.specs.Scripts.{written_out}
use Rattle.defined_operators.specs.Expanded.{first_fault}
use Rattle.defined_operators.proofs.Unwritten.{written_as_it_is}

-- ---- without calls none is wrong

both_empty : {A : Type 0} (xs ys : List A) → xs ++ ys ≡ [] → (xs ≡ []) × (ys ≡ [])
both_empty [] ys h = (refl, h)
both_empty (x ∷ xs) ys h = absurd (cc h)

-- the first wrong call of those in statements, in rulesets and in bodies
abbrev first_wrong : CallFault → List DefinedOperator → List CallSite → List CallSite → List CallSite → Option PlacedFault
first_wrong f os xs ys zs = option_map (λ (c : CallSite). record { fault = told f c.name; place = c.place }) (earlier (earlier (find (is_wrong f os) xs) (find (is_wrong f os) ys)) (find (is_wrong f os) zs))

none_wrong : (f : CallFault) (os : List DefinedOperator) (s : Sketch) → all_sites s.statements ≡ [] → all_sites s.rulesets ≡ [] → all_sites s.bodies ≡ [] → wrong_in_script f os s ≡ None
none_wrong f os s in_statements in_rulesets in_bodies =
    ap (λ (xs : List CallSite). first_wrong f os xs (all_sites s.rulesets) (all_sites s.bodies)) in_statements
    ∙ ap (λ (ys : List CallSite). first_wrong f os [] ys (all_sites s.bodies)) in_rulesets
    ∙ ap (λ (zs : List CallSite). first_wrong f os [] [] zs) in_bodies

-- ---- the text has no fault

-- the faults in turn, where there are no operators
abbrev in_turn : Option PlacedFault → Option PlacedFault → Option PlacedFault → Option PlacedFault → Option PlacedFault
in_turn unknown count recursive sorts = or_else (of_names []) (or_else (or_else unknown count) (or_else None (or_else recursive sorts)))

text_is_faultless : (s : Script) → s.operators ≡ [] → all_sites (outlines s) ≡ [] → first_in_text s ≡ None
text_is_faultless s none no_call =
    let k : Sketch = sketch_of s in
    let calls = both_empty (all_sites k.statements) (all_sites k.rulesets) (sym (flat_map-append sites k.statements k.rulesets) ∙ no_call) in
    let no_body : k.bodies ≡ [] = ap (map of_operator) none in
    let wrong : (f : CallFault) → wrong_in_script f [] k ≡ None = λ f. none_wrong f [] k calls.0 calls.1 (ap all_sites no_body) in
    ap (λ (os : List DefinedOperator). in_sketch os k) none
    ∙ ap (λ (p : Option PlacedFault). in_turn p (wrong_in_script Count [] k) (recursion [] k.bodies) (wrong_in_script Sort [] k)) (wrong Unknown)
    ∙ ap (λ (p : Option PlacedFault). in_turn None p (recursion [] k.bodies) (wrong_in_script Sort [] k)) (wrong Count)
    ∙ ap (λ (p : Option PlacedFault). in_turn None None p (wrong_in_script Sort [] k)) (ap (recursion []) no_body)
    ∙ ap (λ (p : Option PlacedFault). in_turn None None None p) (wrong Sort)

-- ---- and so has the script none

pub plain_is_faultless : (s : Script) → s.operators ≡ [] → FitsAsItStands s → first_fault s ≡ None
plain_is_faultless s none fits =
    let small : IsWithinLimits (written_out s) = subst IsWithinLimits (sym (written_as_it_is s none)) fits.within_limits in
    let sized : size_fault s ≡ None = (faults_exact s).1 small in
    ap₂ (λ (p q : Option PlacedFault). or_else p q) (text_is_faultless s none fits.no_call) sized
