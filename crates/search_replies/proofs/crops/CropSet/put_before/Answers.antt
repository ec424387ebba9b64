use Rattle.std.proofs.Common.{◌≡◌, ap, ◌∙◌, cond, codes, false, Some, string_bytes, rules}
use Rattle.std.proofs.lemmas.Map.Text.{btree_map_updates_text}
use Rattle.std.specs.BTreeMap.{get_by_text}
use Rattle.std.specs.Option.{option_or}
use Rattle.std.specs.Str.{bytes_eq}
use Rattle.search_replies.proofs.CropLemmas.{length_more}
use Rattle.search_replies.proofs.crops.CropSet.put_before.Goals as goal

pub returns-in_ok-insert : goal.returns-in_ok-insert
returns-in_ok-insert c =
    let old = c.args.self.now in
    let row = c.args.row.now in
    let named : string_bytes c.in_ok-name.name ≡ row.attribute = c.in_ok-name.ensures.ok ∙ c.as_str-else-eq.ensures in
    let plain : bytes_eq row.attribute (codes "*") ≡ false = search rules in
    λ q. ap (λ o. option_or o old.all) (btree_map_updates_text (string_bytes c.in_ok-name.name) old.lengths c.insert.new.self (Some row.length) c.in_ok-insert.ensures.updates q)
    ∙ ap (λ k. option_or (cond (bytes_eq k q) (Some row.length) (get_by_text old.lengths q)) old.all) named
    ∙ length_more (bytes_eq row.attribute (codes "*")) (bytes_eq row.attribute q) row.length (get_by_text old.lengths q) old.all plain
