use Rattle.std.proofs.Common.{ap, ◌*◌, ◌^◌, ◌∙◌, filter}
use Rattle.std.specs.Prelude.{nat_le}
use Rattle.near_words.proofs.ReadLemmas.{from_sought}
use Rattle.near_words.proofs.by_document.seek.Goals as goal

pub returns : goal.returns
returns c =
    c.seek.ensures ∙ ap (λ n. filter (λ x. nat_le (n * 2 ^ 32) x) c.args.left.now) c.from.ensures ∙ from_sought c.args.id.0 c.args.left.now
