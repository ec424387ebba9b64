use Rattle.std.proofs.Common.{◌∙◌, sym}
use Rattle.bucket_sort.specs.Tables.{number_at}
use Rattle.bucket_sort.proofs.TableLemmas.{bucket-is, none-least}
use Rattle.tests_sets.proofs.buckets.ScanBucketStream.next_bucket.Goals as goal

pub returns-in_default-clause-none : goal.returns-in_default-clause-none
returns-in_default-clause-none g c = none-least (number_at c.args.self.now.rows.now c.args.self.now.level) c.args.self.now.left.ids (sym c.in_default.is ∙ c.least_key.ensures)

pub returns-clause-some : goal.returns-clause-some
returns-clause-some g c =
    bucket-is (number_at c.args.self.now.rows.now c.args.self.now.level) c.in-Some.least c.args.self.now.left.ids c.in_ok-docs.docs.ids c.in_ok-others.others.ids
    (sym c.in-Some.is ∙ c.least_key.ensures) c.in_ok-docs.ensures c.in_ok-others.ensures
