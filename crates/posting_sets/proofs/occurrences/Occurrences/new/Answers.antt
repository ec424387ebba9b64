use Rattle.std.proofs.Common.{◌≡◌, ◌<◌, [], map, length, get_or, sym, ap, subst, ◌∙◌}
use Rattle.std.proofs.lemmas.List.{get_or-map, length-map}
use Rattle.posting_sets.specs.Starts.{AreStarts, starts_at}
use Rattle.posting_sets.proofs.StartLemmas.{are_starts}
use Rattle.posting_sets.proofs.occurrences.Occurrences.new.Goals as goal

pub returns : goal.returns
returns c =
    let ids = c.args.universe.now.ids in
    let lists = map (λ list. list.now.entries) c.args.lists.now in
    let at = c.rarest-at.result in
    let list = c.index-lists-at.result in
    let here : at < length lists = subst (λ n. at < n) (sym (length-map c.args.lists.now (λ list. list.now.entries))) c.rarest-at.ensures in
    let is : list.now.entries ≡ get_or lists at [] =
    ap (λ r. r.now.entries) c.index-lists-at.is ∙ sym (get_or-map (λ list. list.now.entries) c.args.lists.now at list [] c.rarest-at.ensures) in
    subst (λ l. AreStarts ids lists (starts_at ids l at c.iter-walked.result)) (sym c.in_ok-lists.ensures)
    (subst (λ v. AreStarts ids lists (starts_at ids lists at v)) (sym c.iter-walked.ensures.entries)
    (are_starts ids lists at here list.now.entries is c.iter-walked.ensures.increasing))
