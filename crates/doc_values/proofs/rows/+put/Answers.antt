use Rattle.std.proofs.Common.{◌≡◌, ◌∙◌, ◌+◌, [], ◌∷◌, ◌++◌, cond, bytes_eq, drop, sym, ap, string_bytes, rules}
use Rattle.std.proofs.lemmas.List.{drop_more}
use Rattle.std.specs.Option.{option_copied}
use Rattle.serde_json.specs.Data.{item, member}
use Rattle.serde_json.specs.View.{view, items_view, members_view}
use Rattle.doc_values.specs.Leaves.{found_at}
use Rattle.doc_values.specs.Walk.{path_of, walk_of_members, walk_inside_items}
use Rattle.doc_values.specs.Grouped.{values_at}
use Rattle.doc_values.proofs.Leaves.{member-step, item-step}
use Rattle.doc_values.proofs.rows.+put.Goals as goal

pub put_members-loop-name-preserved : goal.put_members-loop-name-preserved
put_members-loop-name-preserved t c = λ other.
    let above = option_copied c.args.above in
    let name = string_bytes c.in-Some.name.now in
    let value = c.in-Some.member.now in
    let rest = members_view c.next.new.self in
    let is : members_view c.loop-name.name-iterator ≡ member name (view value) rest = search rules in
    let path_is : c.in_ok-path.path ≡ path_of above name = c.in_ok-path.ensures ∙ ap (path_of above) c.as_str.ensures.value in
    let put_is = c.in_ok-put_values.ensures other ∙ ap (λ q. values_at c.put_inside.new.values other ++ cond (bytes_eq other q) c.in_ok-own_values.field-0.items []) c.path.view_is in
    let before = values_at c.loop-name.values other in
    member-step other above name _ (view value) rest before _ _ _ _ path_is (c.in_ok-put_inside.ensures other) c.in_ok-own_values.ensures put_is
    (c.loop-name.invariant other ∙ ap (λ ms. before ++ found_at other (walk_of_members above ms)) is)

pub put_inside_items-loop-item-preserved : goal.put_inside_items-loop-item-preserved
put_inside_items-loop-item-preserved t c = λ other.
    let path = c.args.path.now in
    let all = c.deref-item-items.result.now in
    let i = c.loop-item.item-index in
    let value = c.item-item.result in
    let rest = items_view (drop (i + 1) all) in
    let is : items_view (drop i all) ≡ item (view value) rest = ap items_view (drop_more all i value c.loop-item-test.true ∙ ap (λ v. v ∷ drop (i + 1) all) (sym c.item-item.is)) in
    let before = values_at c.loop-item.values other in
    item-step other path (view value) rest before _ _ (c.in_ok-put_inside.ensures other)
    (c.loop-item.invariant other ∙ ap (λ ds. before ++ found_at other (walk_inside_items path ds)) is)
