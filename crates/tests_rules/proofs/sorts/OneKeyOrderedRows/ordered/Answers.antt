use Rattle.std.proofs.Common.{List, [], ◌∷◌, ◌++◌, reverse, sym, ap, subst, ◌∙◌}
use Rattle.bucket_sort.specs.declared.bucket.Bucket.{Bucket}
use Rattle.sort_rule.specs.Ordered.{AreOrdered}
use Rattle.tests_rules.proofs.OneKeyLemmas.{key_in, missing, one-ordered}
use Rattle.sort_rule.proofs.SortLemmas.{no-length, some-length}
use Rattle.tests_rules.proofs.sorts.OneKeyOrderedRows.ordered.Goals as goal

pub returns-then-is_empty : goal.returns-then-is_empty
returns-then-is_empty c =
    subst (λ (l : List Bucket). AreOrdered (key_in c.args.self.now.docs.ids) c.args.universe.now.ids (reverse l)) (sym c.new-buckets.ensures.items)
    (missing c.args.self.now.docs.ids c.args.universe.now.ids (sym c.in_ok-docs.ensures ∙ no-length _ (sym c.if-is_empty.ensures)))

pub returns : goal.returns
returns c =
    let bucket : Bucket = record { key = c.five.result; docs = c.in_ok-docs.docs } in
    subst (λ (l : List Bucket). AreOrdered (key_in c.args.self.now.docs.ids) c.args.universe.now.ids (reverse l))
    (sym (c.in_ok-push.ensures.items ∙ ap (λ l. l ++ (bucket ∷ [])) c.new-buckets.ensures.items))
    (one-ordered c.args.self.now.docs.ids c.args.universe.now.ids bucket c.five.ensures c.in_ok-docs.ensures (some-length _ (sym c.if-is_empty.ensures)))
