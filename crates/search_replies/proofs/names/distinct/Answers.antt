use Rattle.std.proofs.Common.{◌≡◌, true, ◌<◌, ◌∙◌, length, get_or, string_bytes, arith}
use Rattle.std.proofs.lemmas.Map.Text.{btree_set_updates_text}
use Rattle.std.specs.BTreeSet.{contains_text}
use Rattle.search_replies.proofs.ShownLemmas.{among_more}
use Rattle.search_replies.proofs.names.distinct.Goals as goal

pub loop-name-preserved : goal.loop-name-preserved
loop-name-preserved c =
    let name = string_bytes c.in_ok-from_str.field-0 in
    let i = c.loop-name.name-index in
    let below : i < length c.args.names.now = omega arith in
    let same : name ≡ get_or c.args.names.now i name = grind arith in
    λ q. btree_set_updates_text name c.loop-name.set c.insert.new.self true c.in_ok-insert.ensures.updates q
    ∙ among_more c.args.names.now i name q (contains_text c.loop-name.set q) below same (c.loop-name.invariant q)
