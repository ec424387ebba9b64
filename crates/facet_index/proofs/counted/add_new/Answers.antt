use Rattle.std.proofs.Common.{◌∙◌}
use Rattle.facet_index.proofs.CountedLemmas.{seen_more}
use Rattle.facet_index.proofs.counted.add_new.Goals as goal

pub returns-clause-seen : goal.returns-clause-seen
returns-clause-seen c = seen_more c.keys_tell_facets_apart.ensures c.args.seen.now c.insert.new.self c.in_ok-clone.field-0 c.as_str.result.now c.args.leaf.now
    (c.as_str.ensures ∙ c.in_ok-text.ensures) (c.in_ok-clone.ensures.cases ∙ c.in_ok-key.ensures.key) c.counted_key.ensures.narrow c.in_ok-insert.ensures.updates.0
