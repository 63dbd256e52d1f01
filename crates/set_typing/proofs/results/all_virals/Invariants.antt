use Rattle.std.proofs.Common.{◌≡◌, [], drop}
use Rattle.std.specs.List.{All}
use Rattle.vtl_values.specs.declared.kind.Role.TheVariants.{Viral}
use Rattle.data_set_parts.specs.Joins.{IsOf}
use Rattle.set_typing.specs.Conditionals.{all_virals}
use Rattle.set_typing.proofs.results.all_virals.Given as goal

abbrev pub invariant-loop-structure : goal.invariant-loop-structure
invariant-loop-structure l = record {
  value : all_virals [] l.structures ≡ all_virals l.all (drop l.structure-index l.structures);
  sound : All (IsOf Viral) l.all;
}
