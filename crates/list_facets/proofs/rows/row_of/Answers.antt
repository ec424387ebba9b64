use Rattle.std.proofs.Common.{◌∙◌, ap, sym, length}
use Rattle.std.specs.Option.{option_map}
use Rattle.list_facets.specs.Rows.{shown_in, has_text}
use Rattle.list_facets.proofs.HitLemmas.{no_first, some_first}
use Rattle.list_facets.proofs.KeyLemmas.{whole_here, having_is, first_passes}
use Rattle.list_facets.proofs.TextLemmas.{no_row, one_row}
use Rattle.list_facets.proofs.rows.row_of.Goals as goal

pub returns-in-None : goal.returns-in-None
returns-in-None c = λ rows text are begins list.
    let hits = c.in_ok-hits.ensures (whole_here c.args.keys.now rows c.args.key.now c.args.list.now.entries are list) in
    no_row c.args.path.0 text rows c.args.matching.now.ids
    (sym (having_is c.keys_tell_facets_apart.ensures c.args.keys.now rows c.args.path.0 text c.args.first.now c.args.key.now c.args.list.now.entries
    c.args.matching.now.ids are c.requires.narrow c.requires.first begins list)
    ∙ no_first _ (ap (option_map (λ id. id.0)) (sym c.in-None.is) ∙ hits.first))

pub returns-in_ok-shown-in-Some : goal.returns-in_ok-shown-in-Some
returns-in_ok-shown-in-Some c = λ rows text are begins list.
    let hits = c.in_ok-hits.ensures (whole_here c.args.keys.now rows c.args.key.now c.args.list.now.entries are list) in
    let found = some_first _ c.in-Some.id.0 (ap (option_map (λ id. id.0)) (sym c.in-Some.is) ∙ hits.first) in
    let those = sym (having_is c.keys_tell_facets_apart.ensures c.args.keys.now rows c.args.path.0 text c.args.first.now c.args.key.now c.args.list.now.entries
    c.args.matching.now.ids are c.requires.narrow c.requires.first begins list) ∙ found.1 in
    let value = c.in_ok-value-in-Some.ensures text begins in
    one_row c.args.path.0 text rows c.args.matching.now.ids c.in-Some.id.0 found.0 c.in_ok-value-in-Some.value c.in_ok-shown-in-Some.shown c.in_ok-hits.hits.count those value
    (c.in_ok-shown-in-Some.ensures rows are
    (ap (λ t. has_text c.args.path.0 t (rows c.in-Some.id.0)) value
    ∙ first_passes (λ d. has_text c.args.path.0 text (rows d)) c.args.matching.now.ids c.in-Some.id.0 found.0 those)
    ∙ ap (λ t. shown_in c.args.path.0 t (rows c.in-Some.id.0)) value)
    (hits.count ∙ ap length found.1)
