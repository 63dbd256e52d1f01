use Rattle.std.proofs.Common.{Some, map, option_map, sym, ap, ◌∙◌}
use Rattle.serde_json.specs.View.{view}
use Rattle.structure_files.specs.Json.{listed}
use Rattle.structure_files.proofs.Steps.{listed-items_view}
use Rattle.structure_files.proofs.json.as_list.Goals as goal

pub returns-in-Some : goal.returns-in-Some
returns-in-Some c =
    ap (λ values. Some (map view values)) c.as_slice.ensures.value
    ∙ ap Some (sym (listed-items_view c.in-Some.values.now.items))
    ∙ ap (option_map listed) c.in-Some.ensures
