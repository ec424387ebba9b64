use Rattle.std.proofs.Common.{Bool, IfSome, sym, subst, ◌∙◌}
use Rattle.sort_rule.specs.Numbers.{AreNumbered}
use Rattle.rule_buckets.specs.Entries.{sort_entry}
use Rattle.rule_buckets.specs.Keyed.{key_by, key_in}
use Rattle.rule_buckets.proofs.keyed.KeyedRowsOrderedRows.numbers.Goals as goal

pub returns-in-Some : goal.returns-in-Some
returns-in-Some g c =
    let rows = g.S.RuleSource.rows in
    let u = c.args.universe.now.ids in
    let up = c.in-Values.up in
    let pairs = c.in-Some.pairs.items in
    let source = c.self.inside.0.0.source.now in
    let path = c.in-Values.path.0 in
    subst (λ keyed. AreNumbered (key_in rows keyed.query) up u pairs) c.self.view_is
    (subst (λ kind. AreNumbered (λ d. key_by (rows source d) c.self.inside.0.0.graph.now.whole kind) up u pairs) (sym (sym c.key_kind.ensures ∙ c.in-Values.is))
    (subst (λ found. IfSome found (λ pairs. (up : Bool) → AreNumbered (λ d. sort_entry up path (rows source d).leaves) up u pairs.items)) c.in-Some.is
    c.in_ok-pairs-in-Values.ensures up))
