use Rattle.std.proofs.Common.{length, sym, ap, ◌∙◌}
use Rattle.sorted_pages.specs.Entries.{has}
use Rattle.doc_sets.specs.Sets.{union}
use Rattle.posting_sets.proofs.NumberLemmas.{seen_all, seen_more}
use Rattle.posting_sets.proofs.numbered.add_row.Goals as goal

pub returns-then-len-eq0-clause-seen : goal.returns-then-len-eq0-clause-seen
returns-then-len-eq0-clause-seen c = λ id.
    seen_all c.args.set.ids c.args.seen.now.ids id (ap length (sym c.in_ok-fresh.ensures) ∙ sym c.len.ensures.len ∙ c.if-len-eq0.true)

pub returns-clause-seen : goal.returns-clause-seen
returns-clause-seen c = λ id.
    ap (λ v. has v id) (c.in_ok-seen.ensures ∙ ap (union c.args.seen.now.ids) c.in_ok-fresh.ensures) ∙ seen_more c.args.set.ids c.args.seen.now.ids id
