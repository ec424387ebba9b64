use Rattle.std.proofs.Common.{◌≡◌, ◌∙◌, ◌++◌, length, unwrap_or, ap, arith, rules}
use Rattle.std.proofs.lemmas.Grind.{common_steps}
use Rattle.std.specs.BTreeMap.Entry.{map_with_value}
use Rattle.doc_values.specs.Grouped.{values_at}
use Rattle.doc_values.proofs.Grouped.{held, behind-none, put-behind}
use Rattle.doc_values.proofs.rows.put_values.Goals as goal

pub returns-then-is_empty : goal.returns-then-is_empty
returns-then-is_empty c = λ other.
    let old = c.args.values.now in
    let own = c.args.own in
    let list = c.or_insert-list.result.now in
    let list_is = c.or_insert-list.ensures.value ∙ ap (λ o. unwrap_or o c.new.result) c.in_ok-values.ensures.value in
    let before : list.items ≡ values_at old c.args.path = held old c.args.path c.new.result list list_is c.new.ensures.items in
    let none : length list.items ≡ 0 = grind arith in
    search (rules, put-behind old (map_with_value c.in_ok-values.field-0 own) c.args.path other own own.items (c.in_ok-values.ensures.update.0 own) (behind-none list.items own.items none ∙ ap (λ v. v ++ own.items) before))

pub returns-in_ok-append : goal.returns-in_ok-append
returns-in_ok-append c = λ other.
    let old = c.args.values.now in
    let own = c.args.own in
    let list = c.or_insert-list.result.now in
    let longer = c.append.new.self in
    let list_is = c.or_insert-list.ensures.value ∙ ap (λ o. unwrap_or o c.new.result) c.in_ok-values.ensures.value in
    let before : list.items ≡ values_at old c.args.path = held old c.args.path c.new.result list list_is c.new.ensures.items in
    let told = put-behind old (map_with_value c.in_ok-values.field-0 longer) c.args.path other longer own.items (c.in_ok-values.ensures.update.0 longer) (c.in_ok-append.ensures.items ∙ ap (λ v. v ++ own.items) before) in
    grind (arith, common_steps, told)
