-- What the program writes, and the status it ends with, for its words and the files.
use Rattle.std.specs.Prelude.{ℕ, List, Ok, Err}
use Rattle.outside.specs.Shelves.{Files}
use Rattle.data_set_trees.specs.checked.Scripts.{Script}
use Rattle.point_sets.specs.declared.revision.Revision.{Revision}
use Rattle.round_runs.specs.Seen.{Seen}
use Rattle.round_runs.specs.Answers.{Answer}
use Rattle.commands.specs.Stages.{Stage, after, answer}
use Rattle.commands.specs.Structures.{structures_in}
use Rattle.commands.specs.Feeds.{revisions_in}
use Rattle.commands.specs.Reading.{CommandBytes, ScriptBytes, bytes_of}
use Rattle.commands.specs.Reading as bytes
use Rattle.commands.specs.Checking.{structures_told}
use Rattle.commands.specs.Scripts.{built_of, script_of}
use Rattle.round_runs.specs.Eval.{eval}
use Rattle.round_runs.specs.Runs.{IsRunOf}

-- what a command does once its words and files are taken: it writes a script's structures, or runs it over revisions
pub data Run : Type 0 where
  Check : Script → Run
  Eval : Script → List Revision → Run

-- the structures, and then the script over inputs of these, with its structures worked out
abbrev pub typed_in : ScriptBytes → Stage Script
typed_in bytes = after (structures_in bytes.structures) (λ structures. script_of structures bytes.script)

-- `eval` takes the feed for the script's inputs after these, where all of the script is built
abbrev pub forms_of : CommandBytes → Stage Run
forms_of (bytes.Check bytes) = after (typed_in bytes) (λ script. Ok (Check script))
forms_of (bytes.Eval bytes feed) =
    after (typed_in bytes) (λ typed.
    after (built_of typed) (λ script.
    after (revisions_in script.inputs feed) (λ revisions.
    Ok (Eval script revisions))))

-- the stages before the run, in order: the words, the files, and the forms
abbrev pub ready : List (List ℕ) → Files → Stage Run
ready words files = after (bytes_of words files) forms_of

-- what a run writes, and its status
abbrev pub answer_of : Run → Answer
answer_of (Check script) = structures_told script
answer_of (Eval script revisions) = eval script revisions

-- all stages, and behind them the run
abbrev pub output : List (List ℕ) → Files → Answer
output words files = answer (after (ready words files) (λ run. Ok (answer_of run)))

-- the production of the run that the stages come to
abbrev pub IsProductionOf : Stage Run → Seen → Type 0
IsProductionOf (Ok (Eval script revisions)) p = IsRunOf script revisions p
IsProductionOf (Ok (Check script)) p = ⊥
IsProductionOf (Err end) p = ⊥
