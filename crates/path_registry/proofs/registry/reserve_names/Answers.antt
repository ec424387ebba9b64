use Rattle.std.proofs.Common.{◌∙◌, refl}
use Rattle.path_registry.proofs.ReserveLemmas.{reserved_item}
use Rattle.path_registry.proofs.registry.reserve_names.Goals as goal

pub loop-name-preserved : goal.loop-name-preserved
loop-name-preserved c = reserved_item c.args.names.now c.loop-name.name-index c.name-item.result c.name-item.result c.args.places.now c.loop-name.places c.reserve.new.self
    c.loop-name-test.true c.name-item.is refl c.loop-name.invariant c.reserve.ensures.numbers c.reserve.ensures.kept c.in_ok-reserve.ensures.made

pub returns-in_err-reserve-clause-numbers : goal.returns-in_err-reserve-clause-numbers
returns-in_err-reserve-clause-numbers c = λ q. c.reserve.ensures.numbers q ∙ c.loop-name.invariant.numbers q
