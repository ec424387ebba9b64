use Rattle.std.proofs.Common.{◌≡◌, ap, ◌∙◌, arith}
use Rattle.std.proofs.lemmas.Grind.{common_steps}
use Rattle.serde_json.specs.Data.{object, no_members}
use Rattle.serde_json.specs.View.{members_view}
use Rattle.serde_json.proofs.Views.{view-Object}
use Rattle.index_settings.proofs.Ordered.{all_put, all_put_in_order}
use Rattle.index_settings.proofs.json.synonyms_value.Goals as goal

pub returns : goal.returns
returns c =
    let lists = c.args.lists.now in
    let put : members_view c.loop-list.members.entries ≡ all_put lists no_members = grind (arith, common_steps) in
    view-Object c.loop-list.members ∙ ap object (put ∙ all_put_in_order lists c.requires)
