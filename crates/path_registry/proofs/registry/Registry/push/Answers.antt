use Rattle.std.proofs.Common.{rules}
use Rattle.path_registry.proofs.PathLemmas.{register-push}
use Rattle.path_registry.proofs.registry.Registry.push.Goals as goal

pub invariant_of-self : goal.invariant_of-self
invariant_of-self c = register-push c.args.path c.len.result c.self.inside.paths.items c.push_reserved.new.self.items c.self.inside.places c.give.new.self c.self.invariant (search rules) c.push_reserved.ensures.items
    c.give.ensures.numbers
