use Rattle.index_core.proofs.EachOnce.{hits_are_each_once}
use Rattle.index_core.proofs.laws.hits_are_each_once.Goals as goal

pub returns : goal.returns
returns c = hits_are_each_once
