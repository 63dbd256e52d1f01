use Rattle.commands.proofs.feeds.revisions_in.Goals as goal

pub returns-in-Ok-clause-few : goal.returns-in-Ok-clause-few
returns-in-Ok-clause-few c = record { revisions_few = c.in-Ok.ensures.few.revisions_few; fields_few = c.in-Ok.ensures.few.fields_few }
