use Rattle.demo_input.proofs.StepLemmas.{nothing_sent}
use Rattle.demo_input.proofs.demo.Demo.new.Goals as goal

pub returns : goal.returns
returns c = nothing_sent c.args.count c.args.seed
