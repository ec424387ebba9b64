use Rattle.std.proofs.Common.{◌≡◌, ap, ◌∙◌, rules}
use Rattle.postings.specs.Changes.{gathered}
use Rattle.postings.proofs.GatherLemmas.{gathered_once}
use Rattle.postings.proofs.joined.in_rows.Goals as goal

pub returns : goal.returns
returns c = λ s w e.
    let all : c.loop-row.rows.items ≡ c.args.words.entries = search rules in
    ap (λ rows. gathered s w e rows) all ∙ gathered_once s w e c.args.words.entries c.loop-row.invariant.words
