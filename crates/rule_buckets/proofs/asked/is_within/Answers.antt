use Rattle.std.proofs.Common.{◌∙◌, sym}
use Rattle.std.proofs.lemmas.Bool.{eqb-true}
use Rattle.rule_buckets.proofs.Tables.{all-within}
use Rattle.rule_buckets.proofs.asked.is_within.Goals as goal

pub returns : goal.returns
returns c same = all-within c.args.docs.now.ids c.args.all.now.ids
    (sym c.and_len.ensures ∙ eqb-true c.and_len.result c.len.result same ∙ c.len.ensures.len)
