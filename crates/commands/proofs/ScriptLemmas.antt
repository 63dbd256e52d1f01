-- The parser answers what the tokens of a text are, and an end with the line of a fault stands for its stage.
use Rattle.std.proofs.Common.{◌≡◌, ◌∙◌, length, Option, Some, None, Result, Ok, Err, refl, sym, ap}
use Rattle.std.proofs.lemmas.List.{length-map}
use Rattle.vtl_values.specs.declared.place.Place.{Place}
use Rattle.vtl_syntax.specs.declared.script.Script.{Script}
use Rattle.vtl_grammar.specs.Marks.{Tokens}
use Rattle.vtl_grammar.specs.Faults.{Fault}
use Rattle.defined_operators.specs.Expanded.{expanded, first_fault, unless}
use Rattle.replaced_calls.specs.Scripts.{written_out}
use Rattle.operator_faults.specs.declared.fault.PlacedFault.{PlacedFault}
use Rattle.vtl_parser.specs.Parses.{answered, IsOnly}
use Rattle.vtl_parser.proofs.Answered.{answered-only}
use Rattle.commands.specs.declared.stop.Stop.{Stop}
use Rattle.commands.specs.declared.stop.Stop.TheVariants.{Ended, Memory}
use Rattle.round_runs.specs.Answers.{Answer}
use Rattle.commands.specs.Stages.{Stage}
use Rattle.commands.specs.Ends.{Gives, Refuses}
use Rattle.commands.specs.Scripts.{fault_line, operator_line, refused_script, told_tree, told_written}

-- what the tokens are and nothing else is what is answered
pub answered-is : (tokens : Tokens) (answer : Result Script (Fault × Place)) → IsOnly tokens answer → answered tokens ≡ answer
answered-is tokens answer only = (only (answered tokens)).0 ((answered-only tokens (answered tokens)).1 refl)

-- an end that gives the answer with which a stage ends stands for it
pub refuses : {A : Type 0} (stage : Stage A) (end : Answer) (stop : Stop) → stage ≡ Err end → Gives stop end → Refuses stop stage
refuses {A} stage end (Ended e) is gives = is ∙ ap (λ (a : Answer). let r : Stage A = Err a in r) (sym gives)
refuses stage end Memory is gives = tt

-- an end with the line of the fault that the tokens have stands for it
pub refuses-tree : (tokens : Tokens) (fault : Fault) (place : Place) (stop : Stop) → IsOnly tokens (Err (fault, place)) → Gives stop (refused_script place (fault_line fault)) → Refuses stop (told_tree (answered tokens))
refuses-tree tokens fault place stop only gives = refuses (told_tree (answered tokens)) (refused_script place (fault_line fault)) stop (ap told_tree (answered-is tokens (Err (fault, place)) only)) gives

-- an end with the line of a fault of defined operators stands for it
pub refuses-written : (meant : Result Script PlacedFault) (placed : PlacedFault) (stop : Stop) → meant ≡ Err placed → Gives stop (refused_script placed.place (operator_line placed.fault)) → Refuses stop (told_written meant)
refuses-written meant placed stop is gives = refuses (told_written meant) (refused_script placed.place (operator_line placed.fault)) stop (ap told_written is) gives

-- ---- how many statements

-- the script that is written out has as many as the script
as-many : (o : Option PlacedFault) (s written : Script) → unless o (written_out s) ≡ Ok written → length written.statements ≡ length s.statements
as-many None s written e =
    let is : written_out s ≡ written = cc in
    ap (λ (t : Script). length t.statements) (sym is) ∙ length-map _ _ ∙ length-map _ _
as-many (Some fault) s written e = cc

pub written-as-many : (s written : Script) → expanded s ≡ Ok written → length written.statements ≡ length s.statements
written-as-many s written e = as-many (first_fault s) s written e
