-- How the answer of a rule is shown to be right.
use Rattle.std.proofs.Common.{◌≡◌, ℕ, List, Option, Some, None, Result, sym, subst}
use Rattle.std.specs.Option.{IfSome}
use Rattle.data_model.specs.Answers.{IsRight}
use Rattle.data_model.specs.Drafts.{finished}
use Rattle.point_sets.specs.DataSets.{DataSet}
use Rattle.point_sets.specs.Changes.{Changes}
use Rattle.held_index.specs.Holdings.{Holding}
use Rattle.held_index.specs.Drafts.{SetDraft}
use Rattle.held_index.specs.Rules.{SetOutcome, answer_of, after_news, AreAsked, IsRightAnswer}
use Rattle.held_index.specs.declared.want.Want.{Want}
use Rattle.held_index.specs.declared.stop.Stop.{Stop}

pub IfSome-weaker : {A : Type 0} (o : Option A) (P Q : A → Type 0) → ((a : A) → P a → Q a) → IfSome o P → IfSome o Q
IfSome-weaker None P Q f h = tt
IfSome-weaker (Some a) P Q f h = f a h

-- what finishes a draft is right, where the finished draft is, whichever operands the rule is asked for
pub IsRightAnswer-finished : (admits : List DataSet → Type 0) (meaning : List DataSet → SetOutcome) (wants : List Want) (held : List Holding) (news : List Changes) (before : ℕ) (answer : Result Changes Stop) (n : SetDraft)
    → IfSome (answer_of answer) (λ a. a ≡ finished before n)
    → ((xs : List DataSet) (x : DataSet) → AreAsked admits meaning wants held news before xs x → IsRight (meaning (after_news news xs)) x (finished before n))
    → IsRightAnswer admits meaning wants held news before answer
IsRightAnswer-finished admits meaning wants held news before answer n ends right xs x asked =
    IfSome-weaker (answer_of answer) (λ a. a ≡ finished before n) (IsRight (meaning (after_news news xs)) x) (λ a e. subst (IsRight (meaning (after_news news xs)) x) (sym e) (right xs x asked)) ends
