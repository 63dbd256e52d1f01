use Rattle.std.proofs.Common.{map, string_bytes, length, sym, ◌∙◌, arith}
use Rattle.std.proofs.lemmas.List.{length-map}
use Rattle.std.proofs.lemmas.List.Folds.{list_all-map}
use Rattle.commands.specs.Words.{is_name}
use Rattle.commands.proofs.CommandLemmas.{feeds_within}
use Rattle.commands.proofs.words.are_feeds.Goals as goal

pub returns-then-feeds-le64 : goal.returns-then-feeds-le64
returns-then-feeds-le64 c =
    let feeds = c.args.feeds.now in
    let few = c.if-feeds-le64.true in
    c.are_names.ensures ∙ (sym (list_all-map is_name string_bytes feeds) ∙ sym (feeds_within (map string_bytes feeds) (omega (arith, length-map feeds string_bytes, few.0)) (omega (arith, length-map feeds string_bytes, few.1))))
