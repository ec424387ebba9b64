use Rattle.std.proofs.Common.{◌≡◌, ◌++◌, map}
use Rattle.request_routes.proofs.query.texts_of.Given as goal

-- the texts so far, and those that are left, are all
abbrev pub invariant-loop-text : goal.invariant-loop-text
invariant-loop-text l = l.texts.items ++ map (λ text. text.now) l.text-iterator.rest.items ≡ map (λ text. text.now) l.initial.text-iterator.rest.items
