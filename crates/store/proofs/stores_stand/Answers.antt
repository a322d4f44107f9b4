use Rattle.store.proofs.Doors.{stores_stand}
use Rattle.store.proofs.stores_stand.Goals as goal

pub returns : goal.returns
returns c = stores_stand
