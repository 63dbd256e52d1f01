use Rattle.std.proofs.Common.{sym}
use Rattle.revision_files.proofs.Headers.{component_lacks}
use Rattle.revision_files.proofs.columns.component_columns.Goals as goal

pub returns-in_default : goal.returns-in_default
returns-in_default c = component_lacks c.args.names.now.keys c.args.components.now c.loop-component.component-index c.component-item.result c.loop-component-test.true c.component-item.is (sym c.in_default.ensures.found)
