use Rattle.std.proofs.Common.{sym, ◌∙◌}
use Rattle.std.proofs.lemmas.Result.{IfOk-weaker}
use Rattle.leaf_table.proofs.TableLemmas.{leaves_kept}
use Rattle.list_facets.proofs.reply.counts.Goals as goal

pub returns-then-are_few : goal.returns-then-are_few
returns-then-are_few g c = IfOk-weaker c.own_counts.result _ _ (λ reply told rows are. told rows (λ id. are id ∙ sym (leaves_kept c.args.leaves.now (g.I.Indexed.documents c.args.index.now) c.requires id))) c.own_counts.ensures
