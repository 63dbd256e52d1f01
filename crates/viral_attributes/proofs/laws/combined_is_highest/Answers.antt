use Rattle.viral_attributes.proofs.Highest.{combined-IsTheHighest}
use Rattle.viral_attributes.proofs.laws.combined_is_highest.Goals as goal

pub returns : goal.returns
returns c = combined-IsTheHighest
