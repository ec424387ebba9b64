use Rattle.std.proofs.Common.{nat_le, length, sym, ◌∙◌}
use Rattle.std.proofs.lemmas.Bool.{eqb-true, leb-false}
use Rattle.posting_list.specs.Sets.{path_of}
use Rattle.posting_list.proofs.SetLemmas.{none_passes}
use Rattle.posting_list.proofs.posting_list.PostingList.path_limit.Goals as goal

pub returns-then-is_empty : goal.returns-then-is_empty
returns-then-is_empty c = λ entry there.
    let entries = c.args.self.now.entries in
    let ids = c.in_ok-later.later.now.ids in
    leb-false 8 (path_of entry)
    (none_passes (λ e. nat_le 8 (path_of e)) entries ids (c.in_ok-later.ensures entries c.kept.ensures) (eqb-true (length ids) 0 (sym c.is_empty.ensures ∙ c.if-is_empty.true)) entry there)
