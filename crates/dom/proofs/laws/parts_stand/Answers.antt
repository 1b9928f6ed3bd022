use Rattle.dom.proofs.Places.{parts_stand}
use Rattle.dom.proofs.laws.parts_stand.Goals as goal

pub returns : goal.returns
returns c = parts_stand
