use Rattle.std.proofs.Common.{take, sym, ap, subst, ◌∙◌, ◌++◌, ◌∷◌, []}
use Rattle.std.proofs.lemmas.List.{take_more}
use Rattle.search_base.specs.SortKeys.{leaves_under}
use Rattle.leaf_table.specs.Columns.{Tells, cell_at}
use Rattle.leaf_table.proofs.columns.set_leaves.Goals as goal

pub loop-leaf-preserved : goal.loop-leaf-preserved
loop-leaf-preserved c =
    let leaves = c.args.leaves.now in
    let before = take c.loop-leaf.leaf-index leaves in
    let leaf = c.leaf-item.result in
    record {
      told = λ path. subst (λ leaves. Tells (cell_at path c.args.id.0 c.add_leaf.new.columns) (leaves_under path leaves))
          (sym (take_more leaves c.loop-leaf.leaf-index leaf c.loop-leaf-test.true ∙ ap (λ x. before ++ x ∷ []) (sym c.leaf-item.is)))
          (c.add_leaf.ensures.told path before (c.loop-leaf.invariant.told path));
      others = λ path d off. c.add_leaf.ensures.others path d off ∙ c.loop-leaf.invariant.others path d off;
    }
