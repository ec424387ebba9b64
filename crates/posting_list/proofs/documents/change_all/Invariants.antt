use Rattle.posting_list.proofs.KeptLemmas.{HaveGone, HasChanged}
use Rattle.posting_list.proofs.documents.change_all.Given as goal

abbrev pub invariant-loop-kept : goal.invariant-loop-kept
invariant-loop-kept l = HaveGone (HasChanged l.gone l.come l.list.entries) l.kept-index l.initial.kept-items l.kept-items
