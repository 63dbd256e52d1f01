use Rattle.std.proofs.Common.{◌≡◌, ℕ, Bool, List, [], ◌∷◌, ◌++◌, not, if◌then◌else◌, map, sym, ap, ◌∙◌}
use Rattle.std.specs.List.{list_any}
use Rattle.script_graph.specs.Words.{is_same, has_word}
use Rattle.script_graph.proofs.Naming.{any-map, put-if, not-not}
use Rattle.script_graph.proofs.names.Names.repeats.Goals as goal

pub returns-clause-again : goal.returns-clause-again
returns-clause-again c =
    ap not c.in_ok-insert.ensures.added
    ∙ not-not (list_any (λ k. is_same c.args.word.now k.now) c.self.inside.words.keys)
    ∙ any-map (λ k. k.now) c.args.word.now c.self.inside.words.keys
    ∙ ap (λ (ws : List (List ℕ)). has_word ws c.args.word.now) c.self.view_is

pub returns-clause-words : goal.returns-clause-words
returns-clause-words c =
    let ks = c.self.inside.words.keys in
    let there : Bool = list_any (λ k. is_same c.args.word.now k.now) ks in
    let again : not c.in_ok-insert.field-0 ≡ there = ap not c.in_ok-insert.ensures.added ∙ not-not there in
    ap (λ ws. map (λ k. k.now) ws) c.in_ok-insert.ensures.keys
    ∙ put-if (λ k. k.now) there ks c.args.word
    ∙ ap (λ (b : Bool). if b then map (λ k. k.now) ks else map (λ k. k.now) ks ++ c.args.word.now ∷ []) (sym again)
    ∙ ap (λ (ws : List (List ℕ)). if not c.in_ok-insert.field-0 then ws else ws ++ c.args.word.now ∷ []) c.self.view_is
