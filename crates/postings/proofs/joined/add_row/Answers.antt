use Rattle.std.proofs.Common.{◌≡◌, Bool, true, false, ◌||◌, None, Some, refl, sym, ap, ◌∙◌, rules}
use Rattle.std.specs.BTreeMap.{get}
use Rattle.sorted_pages.specs.Entries.{has}
use Rattle.postings.specs.Dictionary.{word_cmp, value_at}
use Rattle.postings.specs.Changes.{side_of, names, named}
use Rattle.postings.proofs.RowLemmas.{named_more}
use Rattle.postings.proofs.joined.add_row.Goals as goal

or_false : (b : Bool) → b ≡ (b || false)
or_false true = refl
or_false false = refl

pub returns-in-Some : goal.returns-in-Some
returns-in-Some c =
    let new = c.add_entries.new.change in
    named_more (c.args.word, c.args.change) (Some c.in-Some.known.now) new c.args.words.now.entries (c.get_mut.follows.lender new).entries
    (sym c.in-Some.ensures.value) ((c.get_mut.follows.holds new).3 (search rules)).0 c.in_ok-add_entries-in-Some.ensures

pub returns : goal.returns
returns c = λ s w e.
    let old = c.get_mut.follows.lender-at-none in
    let same = c.get_mut.follows.holds-at-none in
    let absent : value_at c.args.word old.entries ≡ None = ap (λ m. get word_cmp m c.args.word) same ∙ sym c.in-None.ensures.value in
    named_more (c.args.word, c.args.change) None c.args.change old.entries c.insert.new.self.entries absent c.in_ok-insert.ensures.updates.0
    (λ s e. or_false (has (side_of s c.args.change) e)) s w e
    ∙ ap (λ m. names s w e (c.args.word, c.args.change) || named s w e m.entries) same
