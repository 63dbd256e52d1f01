use Rattle.std.proofs.Common.{◌≡◌, ◌++◌, ◌∷◌, [], true, cond, sym, ap, ◌∙◌, rules}
use Rattle.std.specs.Option.{option_to_list}
use Rattle.std.specs.Result.{is_ok}
use Rattle.revision_files.specs.Feeds.{join_last}
use Rattle.revision_files.proofs.Nexts.{join_last-push}
use Rattle.revision_files.proofs.feed.with_part.Goals as goal
use Rattle.revision_files.proofs.feed.with_part.Goals.{then-further+in-Some+in_ok-with_further+in_ok-push, else-further+in_ok-revision_of+in_ok-push-2}

pub returns : goal.returns
returns c =
    let before = c.args.before.items in
    let part = c.args.part in
    elim c.if-further.branch [
      | then-further+in-Some+in_ok-with_further+in_ok-push w ↦
          let good : is_ok w.push.result ≡ true = search rules in
          let left = w.pop.new.self.items in
          let was : before ≡ left ++ w.in-Some.last ∷ [] = w.pop.ensures.items ∙ ap (λ popped. left ++ option_to_list popped) w.in-Some.is in
          ap (λ v. v.items) w.revisions-is
          ∙ ((rw good at w.push.ensures.items)
          ∙ (ap (λ revision. left ++ revision ∷ []) w.in_ok-with_further.ensures
          ∙ (sym (join_last-push left w.in-Some.last part)
          ∙ (ap (λ revisions. join_last revisions part) (sym was)
          ∙ ap (λ b. cond b (join_last before part) (before ++ (record { parts = part ∷ [] }) ∷ [])) (sym w.if-further.true)))))
      | else-further+in_ok-revision_of+in_ok-push-2 w ↦
          let good : is_ok w.push-else-further.result ≡ true = search rules in
          ap (λ v. v.items) w.revisions-is
          ∙ ((rw good at w.push-else-further.ensures.items)
          ∙ (ap (λ revision. before ++ revision ∷ []) w.in_ok-revision_of.ensures
          ∙ ap (λ b. cond b (join_last before part) (before ++ (record { parts = part ∷ [] }) ∷ [])) (sym w.if-further.false)))
    ]
