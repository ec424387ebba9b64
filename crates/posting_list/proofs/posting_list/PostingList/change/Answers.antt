use Rattle.std.proofs.Common.{rules}
use Rattle.posting_list.proofs.posting_list.PostingList.change.Goals as goal

pub invariant_of-self : goal.invariant_of-self
invariant_of-self c = c.change_sets.ensures c.self.inside.pages.entries (search rules) c.self.invariant
