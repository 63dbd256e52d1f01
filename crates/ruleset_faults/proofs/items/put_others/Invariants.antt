use Rattle.std.proofs.Common.{◌≡◌, ◌++◌, List, map, drop}
use Rattle.std.specs.Prelude.{filter_map}
use Rattle.vtl_syntax.specs.declared.ruleset.SignedName.{SignedName}
use Rattle.ruleset_faults.specs.Items.{first_for}
use Rattle.ruleset_faults.proofs.items.put_others.Given as goal

abbrev pub invariant-loop-other : goal.invariant-loop-other
invariant-loop-other l =
    let put = λ (others : List SignedName). filter_map (first_for l.rules) (map (λ (s : SignedName). s.name) others) in
    l.initial.out ++ put l.others ≡ l.out ++ put (drop l.other-index l.others)
