use Rattle.std.proofs.Common.{rules}
use Rattle.std.proofs.lemmas.List.Sorted.{IsPartitionPoint-from_clause}
use Rattle.plain_rank.specs.Runs.{is_before}
use Rattle.plain_rank.proofs.RunLemmas.{order-parted}
use Rattle.plain_rank.proofs.runs.count_before.Goals as goal

pub returns-clause-parted : goal.returns-clause-parted
returns-clause-parted c =
    let parted = order-parted c.args.path c.args.position c.args.places.now c.requires in
    IsPartitionPoint-from_clause (is_before c.args.path c.args.position) _ _ c.partition_point.ensures.partitioned parted (λ a r q k. search rules)
