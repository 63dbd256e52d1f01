use Rattle.std.proofs.Common.{◌∙◌, sym, ap, encode_utf8_all, ◌∷◌, []}
use Rattle.std.proofs.lemmas.Str.{encodes-chars, IsUtf8-string_bytes}
use Rattle.vtl_values.proofs.word.WordHash.hash.Goals as goal

pub returns : goal.returns
returns g c =
    c.hash.ensures
    ∙ ap (λ bytes. g.H.Hasher.write (g.H.Hasher.write c.args.state.now bytes) (255 ∷ []))
    (c.as_str.ensures.value ∙ sym (encodes-chars _ (IsUtf8-string_bytes c.self.inside.text.text.value)) ∙ ap encode_utf8_all c.self.view_is)
