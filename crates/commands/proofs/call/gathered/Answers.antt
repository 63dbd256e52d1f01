-- The end of the files is the end of all stages.
use Rattle.std.proofs.Common.{refl, arith, ap, map, string_bytes}
use Rattle.commands.specs.Stages.{Stage, after}
use Rattle.commands.specs.Output.{forms_of}
use Rattle.commands.specs.Reading.{files_of}
use Rattle.commands.specs.declared.words.Command.{Command}
use Rattle.commands.specs.Words.{command_of}
use Rattle.commands.proofs.StageLemmas.{stands_later, words_stand}
use Rattle.commands.proofs.call.gathered.Goals as goal

pub returns-in_err-bytes-clause-stage : goal.returns-in_err-bytes-clause-stage
returns-in_err-bytes-clause-stage g c = stands_later _ c.from_residual-in_err-bytes.ensures.1 refl (omega arith)
    (λ x named. rw c.in_ok-command.ensures.go named)
    (λ f told end own. grind (arith, own, c.in_ok-command.ensures.go))
    c.in_err-bytes.ensures.stands

pub returns-in_err-command-clause-stage : goal.returns-in_err-command-clause-stage
returns-in_err-command-clause-stage g c =
    words_stand _ _ (command_of (map string_bytes c.args.words.now.items)) c.from_residual.ensures.1 c.in_err-command.ensures.words c.in_err-command.ensures.end
    (λ a is files. ap (λ (s : Stage Command). after (after s (λ command. files_of command files)) forms_of) is)
