use Rattle.named_indexes.proofs.Uids.{uids_in}
use Rattle.named_indexes.proofs.indexes.Indexes.from_rows.Goals as goal

pub invariant_of-result : goal.invariant_of-result
invariant_of-result g c =
    uids_in c.args.rows.items c.in_ok-entries.entries.entries c.requires.few c.requires.state c.in_ok-entries.ensures.entries c.in_ok-entries.ensures.ordered
