use Rattle.request_refusals.proofs.Rows.{code}
use Rattle.request_refusals.proofs.laws.each_member_has_its_code.Goals as goal

pub returns : goal.returns
returns c = code
