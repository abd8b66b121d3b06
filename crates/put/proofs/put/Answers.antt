-- `put` writes its item, by one store.
-- Assumes nothing.
use Rattle.put.proofs.Puts.{put_one}
use Rattle.put.proofs.put.Goals as goal

pub returns : goal.returns
returns g c = put_one _ _ _ c.requires
