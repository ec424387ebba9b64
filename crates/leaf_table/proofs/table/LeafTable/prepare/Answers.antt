use Rattle.std.proofs.Common.{◌≡◌, ◌<◌, length, reverse, rules, ap, sym, subst, arith, ◌∙◌}
use Rattle.std.specs.List.{All}
use Rattle.std.proofs.lemmas.List.{reverse-reverse}
use Rattle.leaf_table.specs.Changes.{leaf_count}
use Rattle.leaf_table.proofs.ChangeLemmas.{all_of_reversed, count_reversed}
use Rattle.leaf_table.proofs.table.LeafTable.prepare.Goals as goal

pub returns-clause-rows : goal.returns-clause-rows
returns-clause-rows c =
    let come = c.in_ok-come.come.items in
    let len = length c.grow.new.self.rows in
    let same : come ≡ c.as_slice.result.now = search rules in
    let count = count_reversed come ∙ ap leaf_count same in
    let room = c.in_ok-grow.ensures.room in
    rw c.widen.ensures (record {
      rows = all_of_reversed (reverse come) len
          (subst (All (λ row. row.id < len)) (sym (reverse-reverse come ∙ same)) c.in_ok-grow.ensures.rows);
      room = omega (arith, count, room);
    })
