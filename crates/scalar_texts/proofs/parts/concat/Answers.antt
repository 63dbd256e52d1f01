use Rattle.std.proofs.Common.{rules, ◌≡◌, ◌++◌, string_bytes, chars, ap, ◌∙◌}
use Rattle.std.proofs.lemmas.Str.{chars-append}
use Rattle.scalar_texts.proofs.parts.concat.Goals as goal

pub returns : goal.returns
returns c =
    let joined : string_bytes c.push_str.new.self ≡ c.args.a.now ++ c.args.b.now = search rules in
    ap chars joined ∙ chars-append _ _ c.utf8.a
