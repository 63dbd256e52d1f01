use Rattle.std.proofs.Common.{◌≡◌, ◌<◌, ℕ, length, List, Bool, false, Option, Some, None, map, sym, ap, ◌∙◌}
use Rattle.std.specs.Prelude.{position, slice_get}
use Rattle.std.proofs.lemmas.Bool.{ltb-true}
use Rattle.std.proofs.lemmas.Option.{slice_get-get_or}
use Rattle.std.specs.Option.{option_and_then, option_map_or}
use Rattle.vtl_syntax.specs.declared.ruleset.Ruleset.{Ruleset}
use Rattle.script_graph.specs.Words.{is_same, is_of, ruleset_name}
use Rattle.script_graph.specs.Scopes.{ruleset_of}
use Rattle.script_graph.proofs.Naming.{ruleset-found}
use Rattle.script_graph.proofs.scope.Scope.has_ruleset.Goals as goal

pub returns-in-Some-get : goal.returns-in-Some-get
returns-in-Some-get c =
    let rs = c.args.self.now.rulesets.now in
    let w = c.args.name.now in
    let number = c.in-Some.number in
    let r = c.in-Some-get.ruleset.now in
    let look = c.in-Some-get.ensures.lookup in
    let within : number < length rs = ltb-true number (length rs) (sym look.0) in
    let got : slice_get rs number ≡ Some r = slice_get-get_or rs number r within ∙ ap (λ (x : Ruleset). Some x) (sym look.1) in
    let found : ruleset_of rs w ≡ Some c.in-Some-get.ruleset.now =
    ruleset-found rs w
    ∙ ap (option_and_then (slice_get rs)) (ap (position (is_same w)) (sym c.args.self.now.named) ∙ sym c.in-Some.ensures)
    ∙ got in
    c.is_of_sort.ensures ∙ sym (ap (λ (o : Option Ruleset). option_map_or (is_of c.args.sort) o false) found)

pub returns-in-None : goal.returns-in-None
returns-in-None c =
    let rs = c.args.self.now.rulesets.now in
    let w = c.args.name.now in
    let none : ruleset_of rs w ≡ None =
    ruleset-found rs w ∙ ap (option_and_then (slice_get rs)) (ap (position (is_same w)) (sym c.args.self.now.named) ∙ sym c.in-None.ensures) in
    sym (ap (λ (o : Option Ruleset). option_map_or (is_of c.args.sort) o false) none)
