use Rattle.std.proofs.Common.{◌≡◌, ◌+◌, ◌++◌, ◌∷◌, [], ◌==◌, take, take_all, length, sym, ap, subst, ◌∙◌}
use Rattle.std.proofs.lemmas.List.{take_more}
use Rattle.search_base.specs.SortKeys.{leaves_under}
use Rattle.facet_counts.specs.Counts.{leaves_at, count_of}
use Rattle.facet_counts.proofs.Tallying.{IsAmid, amid-start, amid-next, amid-skip, amid-end}
use Rattle.facet_counts.proofs.counter.Tally.add.Goals as goal
use Rattle.facet_counts.proofs.counter.Tally.add.Goals.{then-eq+in_ok-add_leaf, else-eq}

pub loop-leaf-init : goal.loop-leaf-init
loop-leaf-init c = λ at documents h. amid-start at documents c.args.self.now c.in_ok-self.field-0 c.in_ok-self.ensures h

pub loop-leaf-preserved : goal.loop-leaf-preserved
loop-leaf-preserved c = λ at documents h.
    let leaves = c.args.leaves.now in
    let i = c.loop-leaf.leaf-index in
    let leaf = c.leaf-item.result in
    let amid = c.loop-leaf.invariant at documents h in
    let more : take (i + 1) leaves ≡ take i leaves ++ leaf ∷ [] = take_more leaves i leaf c.loop-leaf-test.true ∙ ap (λ l. take i leaves ++ l ∷ []) (sym c.leaf-item.is) in
    let here : (leaf.path.0 == at.0) ≡ c.eq.result = ap (λ p. leaf.path.0 == p.0) (sym amid.path) ∙ sym c.eq.ensures in
    subst (λ l. IsAmid c.if-eq.self at (leaves_at at.0 documents ++ leaves_under at.0 l) (count_of at.0 documents) (length documents) (leaves_under at.0 l)) (sym more)
    (elim c.if-eq.branch [
      | then-eq+in_ok-add_leaf w ↦ subst (λ t. IsAmid t at (leaves_at at.0 documents ++ leaves_under at.0 (take i leaves ++ leaf ∷ [])) (count_of at.0 documents) (length documents) (leaves_under at.0 (take i leaves ++ leaf ∷ []))) (sym w.self-is)
          (amid-next at documents c.loop-leaf.self _ (take i leaves) leaf w.in_ok-add_leaf.ensures (here ∙ w.if-eq.true) amid)
      | else-eq w ↦ subst (λ t. IsAmid t at (leaves_at at.0 documents ++ leaves_under at.0 (take i leaves ++ leaf ∷ [])) (count_of at.0 documents) (length documents) (leaves_under at.0 (take i leaves ++ leaf ∷ []))) (sym w.self-is)
          (amid-skip at documents c.loop-leaf.self (take i leaves) leaf (here ∙ w.if-eq.false) amid)
    ])

pub returns : goal.returns
returns c = λ at documents rows are h.
    let leaves = c.args.leaves.now in
    let whole : take c.loop-leaf.leaf-index leaves ≡ rows.leaves = take_all c.loop-leaf.leaf-index leaves c.loop-leaf-test.false ∙ sym are in
    amid-end at documents rows c.loop-leaf.self
    (subst (λ l. IsAmid c.loop-leaf.self at (leaves_at at.0 documents ++ leaves_under at.0 l) (count_of at.0 documents) (length documents) (leaves_under at.0 l)) whole (c.loop-leaf.invariant at documents h))
