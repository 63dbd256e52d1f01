use Rattle.viral_attributes.proofs.Highest.{combined-append}
use Rattle.viral_attributes.proofs.laws.combines_in_parts.Goals as goal

pub returns : goal.returns
returns c = combined-append
