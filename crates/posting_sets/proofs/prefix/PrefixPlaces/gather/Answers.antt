use Rattle.std.proofs.Common.{◌||◌, map, ap, ◌∙◌}
use Rattle.std.specs.List.{list_any}
use Rattle.sorted_pages.specs.Entries.{has}
use Rattle.sorted_pages.proofs.SplitLemmas.{has-append}
use Rattle.posting_sets.specs.Prefixes.{in_rows}
use Rattle.posting_sets.proofs.NumberLemmas.{on_ok}
use Rattle.posting_sets.proofs.PrefixLemmas.{row_more}
use Rattle.posting_sets.proofs.prefix.PrefixPlaces.gather.Goals as goal

pub returns-then-len-le-FEW_PLACES-clause-rows : goal.returns-then-len-le-FEW_PLACES-clause-rows
returns-then-len-le-FEW_PLACES-clause-rows c = on_ok c.add_places.result c.add_places.ensures (λ more entry.
    let inside = c.self.inside in
    let long = list_any (λ row. has row entry) (map (λ list. list.now.entries) inside.long.items) in
    let list = c.args.list.now.entries in
    ap (λ row. long || has row entry) more
    ∙ ap (λ b. long || b) (has-append inside.short.items c.pages-pages.result.now.entries entry)
    ∙ ap (λ pages. long || (has inside.short.items entry || has pages.entries entry)) c.pages-pages.ensures
    ∙ row_more long (has inside.short.items entry) (has list entry)
    ∙ ap (λ view. has list entry || in_rows view entry) c.self.view_is)
