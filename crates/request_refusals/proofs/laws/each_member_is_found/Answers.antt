use Rattle.request_refusals.proofs.Rows.{found}
use Rattle.request_refusals.proofs.laws.each_member_is_found.Goals as goal

pub returns : goal.returns
returns c = found
