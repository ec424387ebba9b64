use Rattle.std.proofs.Common.{◌∷◌, [], true, sym, ap, arith}
use Rattle.postings.specs.Dictionary.{list_at}
use Rattle.posting_sets.proofs.PrefixLemmas.{shown}
use Rattle.posting_sets.proofs.RankLemmas.{lacking}
use Rattle.posting_sets.proofs.ByNumberLemmas.{words_numbered, words_without}
use Rattle.posting_sets.proofs.by_number.numbers_of_word.Goals as goal

pub returns-in_default-clause-each : goal.returns-in_default-clause-each
returns-in_default-clause-each c =
    words_without c.args.postings.now (c.args.word.now ∷ []) (omega arith) c.args.number c.args.universe.now.ids c.new.result.items
    (lacking c.args.postings.now c.args.word.now (rw c.in_default.is at c.row.ensures)) c.new.ensures.items

pub returns-clause-each : goal.returns-clause-each
returns-clause-each c =
    let found = rw c.in-Some.is at c.row.ensures in
    let adds = c.in_ok-add_list.ensures.each in
    words_numbered c.args.postings.now (c.args.word.now ∷ []) (omega arith) c.args.number c.args.universe.now.ids (c.in-Some.list.now.entries ∷ [])
    adds.0 c.new-sets.result.items c.add_list.new.sets.items (ap (λ l. l ∷ []) (sym (shown true (list_at c.args.word.now c.args.postings.now) _ (sym found)).1))
    adds.1 c.new-sets.ensures.items adds.2
