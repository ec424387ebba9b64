use Rattle.std.proofs.Common.{◌≡◌, [], ◌∷◌, ◌++◌, None, IsSome, sym, ap, subst, ◌∙◌}
use Rattle.std.proofs.lemmas.List.{map-append}
use Rattle.std.specs.Option.{option_map}
use Rattle.leaf_table.specs.Rows.{leaf_in, leaves_named, rows_named, Each}
use Rattle.leaf_table.specs.Tables.{row_at}
use Rattle.leaf_table.proofs.ChangeLemmas.{kept_in, kept_pushed}
use Rattle.leaf_table.proofs.RowLemmas.{each_push}
use Rattle.leaf_table.proofs.leaf_rows.LeafRows.grow.Goals as goal

pub loop-self-preserved : goal.loop-self-preserved
loop-self-preserved c =
    let leaves = c.loop-self.self-inside.pool.leaves.items in
    let rows = c.loop-self.self-inside.rows.items in
    let pushed : c.push.new.self.items ≡ rows ++ None ∷ [] = c.in_ok-push.ensures.items ∙ ap (λ row. rows ++ row ∷ []) c.nothing.ensures in
    record {
      same = λ id.
          ap (λ list. kept_in id (rows_named leaves list)) pushed
          ∙ ap (kept_in id) (map-append (option_map (leaves_named leaves)) rows (None ∷ []))
          ∙ kept_pushed id (rows_named leaves rows)
          ∙ c.loop-self.invariant.same id;
      named = subst (Each (λ number. IsSome (leaf_in leaves number))) (sym pushed) (each_push (λ number. IsSome (leaf_in leaves number)) rows c.loop-self.invariant.named);
    }

pub returns-in_err-push-clause-same : goal.returns-in_err-push-clause-same
returns-in_err-push-clause-same c = λ id.
    ap (λ list. kept_in id (rows_named c.loop-self.self-inside.pool.leaves.items list)) c.in_err-push.ensures.items
    ∙ c.loop-self.invariant.same id
    ∙ ap (λ list. kept_in id (rows_named c.self.inside.pool.leaves.items list)) c.make_room.ensures.items
    ∙ ap (row_at id) c.self.view_is

pub returns-clause-same : goal.returns-clause-same
returns-clause-same c = λ id.
    c.loop-self.invariant.same id
    ∙ ap (λ list. kept_in id (rows_named c.self.inside.pool.leaves.items list)) c.make_room.ensures.items
    ∙ ap (row_at id) c.self.view_is
