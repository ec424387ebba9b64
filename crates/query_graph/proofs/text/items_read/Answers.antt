use Rattle.std.proofs.Common.{◌∙◌, ◌++◌, List, take, length, ◌≤◌, not, ap, arith, rules}
use Rattle.std.proofs.lemmas.Str.Pattern.{split_once_first}
use Rattle.query_graph.specs.Items.{most_items, parts, items_in, first_items}
use Rattle.query_graph.specs.ItemView.{ItemView}
use Rattle.query_graph.proofs.ItemLemmas.{cut_more, no_more, items_last}
use Rattle.query_graph.proofs.text.items_read.Goals as goal

pub loop-part-preserved : goal.loop-part-preserved
loop-part-preserved c =
    let l = c.loop-part in
    let cut = rw c.in-Some.is at (split_once_first 34 l.rest.now c.split_once.result c.split_once.ensures.cases (omega arith)) in
    (search rules, cut_more l.quoted l.list.items c.add_part.new.list.items _ l.rest.now c.in-Some.part.now c.in-Some.behind.now cut c.in_ok-add_part.ensures l.invariant.1)

pub returns-then-len-ge-MOST_ITEMS : goal.returns-then-len-ge-MOST_ITEMS
returns-then-len-ge-MOST_ITEMS c =
    let l = c.loop-part in
    let cut = rw c.in-Some.is at (split_once_first 34 l.rest.now c.split_once.result c.split_once.ensures.cases (omega arith)) in
    let full : most_items ≤ length c.add_part.new.list.items = omega (arith, c.if-len-ge-MOST_ITEMS.true, c.len.ensures, c.add_part.new.list.ok.0) in
    no_more c.add_part.new.list.items (items_in (not l.quoted) (parts c.in-Some.behind.now)) (first_items c.args.q.now) full
    (cut_more l.quoted l.list.items c.add_part.new.list.items _ l.rest.now c.in-Some.part.now c.in-Some.behind.now cut c.in_ok-add_part.ensures l.invariant.1)

pub returns : goal.returns
returns c =
    let l = c.loop-part in
    let none = rw c.in_default.is at (split_once_first 34 l.rest.now c.split_once.result c.split_once.ensures.cases (omega arith)) in
    c.in_ok-add_part-2.ensures ∙ ap (λ (items : List ItemView). take most_items (l.list.items ++ items)) (items_last l.quoted l.rest.now none) ∙ l.invariant.1
