use Rattle.std.proofs.Common.{◌∙◌}
use Rattle.plain_rank.proofs.RunLemmas.{word-there}
use Rattle.plain_rank.proofs.occurrence.has_word.Goals as goal

pub returns : goal.returns
returns c =
    c.some_is_word.ensures
    ∙ word-there c.args.prefix c.args.path c.args.position c.args.word.now c.those_at-there.result.now c.args.places.now c.those_at-there.ensures
