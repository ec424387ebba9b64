use Rattle.std.proofs.Common.{◌-◌, length, sym, ◌∙◌, arith}
use Rattle.std.proofs.lemmas.Bool.{eqb-true}
use Rattle.doc_sets.proofs.PlaceLemmas.{put-at}
use Rattle.doc_sets.proofs.builder.is_last.Goals as goal

pub returns-in-Some : goal.returns-in-Some
returns-in-Some c = λ same.
    let xs = c.args.ids.now in
    let last = c.in-Some.ensures.item.4 (omega arith) 0 in
    put-at xs c.args.id (length xs - 1) c.requires (record { within = omega (arith, c.in-Some.ensures.item.3.0); is = sym last ∙ eqb-true c.in-Some.last.now c.args.id same })
