use Rattle.std.proofs.Common.{◌∙◌}
use Rattle.posting_list.proofs.SetLemmas.{all_pass}
use Rattle.posting_list.proofs.KeptLemmas.{some_of}
use Rattle.posting_list.proofs.posting_list.PostingList.documents.Goals as goal

pub returns : goal.returns
returns c =
    some_of _ _ c.set_of.result c.set_of.ensures (λ set of id. of c.args.self.now.entries c.kept.ensures id ∙ all_pass c.args.self.now.entries id)
