-- The laws of spelling.
use Rattle.std.proofs.Common.{◌≡◌, [], ◌∷◌, map, refl, sym, ap, ◌∙◌}
use Rattle.vtl_grammar.specs.Marks.{Tokens, at}
use Rattle.vtl_grammar.specs.Scripts.{language, LEVELS}
use Rattle.vtl_spelling.specs.Kinds.{Kinds}
use Rattle.vtl_spelling.specs.Scripts.{script_spelled}
use Rattle.vtl_spelling.specs.Placeless.{nowhere, script_placeless}
use Rattle.vtl_spelling.specs.Laws.{kinds_of, SpellsScripts, SomeSpelling}
use Rattle.vtl_spelling.proofs.KeptScripts.{same-spelled}
use Rattle.vtl_spelling.proofs.ScriptRetold.{pieces-retold}

pub spells_scripts : SpellsScripts
spells_scripts s us (vs, (t, (n, (ps, is, few, pieces)), same)) kinds =
    let q = pieces-retold (language n) LEVELS ps vs us few pieces (kinds ∙ sym (same-spelled t s same) ∙ ap script_spelled is) in
    (q.0, (n, q.1), q.2 ∙ ap script_placeless (sym is) ∙ same)

kinds_of-at : (ks : Kinds) → kinds_of (map (λ k. at k nowhere) ks) ≡ ks
kinds_of-at [] = refl
kinds_of-at (k ∷ ks) = ap (λ (js : Kinds). k ∷ js) (kinds_of-at ks)

pub some_spelling : SomeSpelling
some_spelling s of =
    let us : Tokens = map (λ k. at k nowhere) (script_spelled s) in
    (us, spells_scripts s us of (kinds_of-at (script_spelled s)), kinds_of-at (script_spelled s))
