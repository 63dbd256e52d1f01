-- What `eval` writes for the revisions of its feed (docs/formats.md, "Output").
use Rattle.std.specs.Prelude.{ℕ, ◌+◌, List, [], ◌∷◌, ◌++◌, Option, Some, None, fold, length, slice_get}
use Rattle.point_sets.specs.declared.revision.Revision.{Revision}
use Rattle.data_set_trees.specs.declared.checked.script.CheckedStatement.{CheckedStatement}
use Rattle.data_set_trees.specs.checked.Scripts.{Script}
use Rattle.operator_meaning.specs.Results.{Wrong, RangeAt, ManyAt}
use Rattle.operator_meaning.specs.Scripts.{ScriptWrong, At, Total, script_wrong}
use Rattle.release_text.specs.Releases.{release}
use Rattle.revision_judge.specs.Judging.{judged, inputs_after}
use Rattle.round_core.specs.Journals.{accepted_after, verdict_for}
use Rattle.round_core.specs.Releases.{pages_on}
use Rattle.round_core.specs.verdict.Verdict.{Verdict}
use Rattle.round_runs.specs.Answers.{Answer}
use Rattle.round_runs.specs.Lines.{verdict_line, failed_at, range_key, too_many_points, total_points}

-- the revisions that were accepted so far, and the lines of the verdicts
pub record Judging : Type 0 where
  pub accepted : List Revision
  pub text : List ℕ

-- nothing was judged yet
abbrev pub at_first : Judging
at_first = record { accepted = []; text = [] }

-- the verdict on a revision, where these were accepted before it
abbrev pub verdict_after : Script → List Revision → Revision → Verdict
verdict_after c accepted r = verdict_for r (length accepted + 1) (judged c.inputs (inputs_after c.inputs accepted) r)

-- one revision more, and the line of its verdict
abbrev pub judge_next : Script → Judging → Revision → Judging
judge_next c j r =
    let v = verdict_after c j.accepted r in
    record { accepted = accepted_after j.accepted r v; text = j.text ++ verdict_line v }

-- the revisions of a feed, in order
abbrev pub judge_all : Script → List Revision → Judging
judge_all c revisions = fold (judge_next c) at_first revisions

-- the name of a statement
abbrev pub name_in : Option CheckedStatement → List ℕ
name_in None = []
name_in (Some statement) = statement.name

abbrev pub name_of : Script → ℕ → List ℕ
name_of c i = name_in (slice_get c.statements i)

-- the line of a failed round
abbrev pub wrong_line : ℕ → List ℕ → Wrong → List ℕ
wrong_line prefix name (RangeAt place key) = failed_at prefix name place.line place.column ++ range_key key
wrong_line prefix name (ManyAt place) = failed_at prefix name place.line place.column ++ too_many_points

abbrev pub failed_line : Script → ℕ → ScriptWrong → List ℕ
failed_line c prefix (At i wrong) = wrong_line prefix (name_of c i) wrong
failed_line c prefix (Total points) = total_points prefix points

-- the release of this number on the accepted revisions, or the line of the round that failed
abbrev pub answer_on : Script → ℕ → List Revision → Option ScriptWrong → Answer
answer_on c number accepted None = record { status = 0; text = release number (length accepted) 0 (pages_on c (inputs_after c.inputs accepted)) }
answer_on c number accepted (Some wrong) = record { status = 5; text = failed_line c (length accepted) wrong }

abbrev pub round_of : Script → ℕ → List Revision → Answer
round_of c number accepted = answer_on c number accepted (script_wrong c (inputs_after c.inputs accepted))

-- where nothing was accepted it is release 0; else the one round makes release 1
abbrev pub end_of : Script → List Revision → Answer
end_of c [] = round_of c 0 []
end_of c (r ∷ rs) = round_of c 1 (r ∷ rs)

-- a text, and behind it what is answered
abbrev pub behind : List ℕ → Answer → Answer
behind text end = record { status = end.status; text = text ++ end.text }

-- the lines of the verdicts, and then the release, or the line of the round that failed, on all accepted revisions
abbrev pub eval : Script → List Revision → Answer
eval c revisions = behind (judge_all c revisions).text (end_of c (judge_all c revisions).accepted)
