use Rattle.std.proofs.Common.{sym, ◌∙◌}
use Rattle.sorted_pages.proofs.WholeLemmas.{first_later}
use Rattle.sorted_pages.proofs.reads.first_behind.Goals as goal

pub returns-in-Some : goal.returns-in-Some
returns-in-Some c = first_later c.args.later.now c.args.last.now c.in-Some.first c.requires (sym c.first_at.ensures ∙ c.in-Some.is)
