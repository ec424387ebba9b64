use Rattle.std.proofs.Common.{◌≡◌, take, map}
use Rattle.index_settings.proofs.settings.shared.Given as goal

abbrev pub invariant-loop-text : goal.invariant-loop-text
invariant-loop-text l = l.words.items ≡ map (λ text. text.now) (take l.text-index l.texts)
