use Rattle.std.proofs.Common.{◌≡◌, [], ap, sym, ◌∙◌}
use Rattle.std.proofs.lemmas.List.{nil_from_length}
use Rattle.doc_sets.specs.Sets.{union}
use Rattle.doc_sets.specs.Kept.{kept_ids}
use Rattle.doc_sets.proofs.SetLemmas.{or-nil, or-turned}
use Rattle.doc_sets.proofs.KeptLemmas.{kept_increasing}
use Rattle.doc_sets.proofs.in_place.kept_join.Goals as goal

pub returns-then-kept_len-eq0-2-clause-ids : goal.returns-then-kept_len-eq0-2-clause-ids
returns-then-kept_len-eq0-2-clause-ids c =
    let none : kept_ids c.args.right ≡ [] = nil_from_length (kept_ids c.args.right) (sym c.kept_len-2.ensures.len ∙ c.if-kept_len-eq0-2.true) in
    sym (ap (union (kept_ids c.args.left)) none ∙ or-nil (kept_ids c.args.left) (kept_increasing c.args.left c.requires.left))

pub returns-then-put_where_room-clause-ids : goal.returns-then-put_where_room-clause-ids
returns-then-put_where_room-clause-ids c =
    c.if-put_where_room.ensures.put ∙ or-turned (kept_ids c.args.right) (kept_ids c.args.left) (kept_increasing c.args.right c.requires.right) (kept_increasing c.args.left c.requires.left)
