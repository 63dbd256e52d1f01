use Rattle.revision_files.proofs.Actions.{action_none, action_put, action_remove}
use Rattle.revision_files.proofs.rows.action_of.Goals as goal

pub returns-in-put : goal.returns-in-put
returns-in-put c = action_put c.args.text.now c.in-put.is

pub returns-in-remove : goal.returns-in-remove
returns-in-remove c = action_remove c.args.text.now c.in-remove.is

pub returns-in_default : goal.returns-in_default
returns-in_default c = action_none c.args.text.now c.utf8.text c.in_default.not-put c.in_default.not-remove
