use Rattle.std.proofs.Common.{arith, ◌<◌, map, length, slice_index_or, reverse, ap, sym, subst, ◌∙◌}
use Rattle.leaf_table.specs.Changes.{numbers, row_of, come_at, left_at, HasRows}
use Rattle.leaf_table.specs.Tables.{row_at}
use Rattle.leaf_table.proofs.ChangeLemmas.{leaves_after, all_of_reversed, count_reversed}
use Rattle.leaf_table.proofs.table.LeafTable.commit.Goals as goal

pub put_in-requires : goal.put_in-requires
put_in-requires c =
    let come = c.prepared.inside.come.items in
    let has = subst (HasRows c.args.self.now) (sym c.prepared.view_is) c.requires in
    record {
      rows = λ k d less.
          subst (λ n. (slice_index_or come k d).id < n) (sym c.take_out.ensures.rows) (all_of_reversed come (length c.args.self.now.rows) has.rows k d less);
      room = let count = count_reversed come in let room = has.room in omega (arith, count, room, c.take_out.ensures.room);
    }

pub returns : goal.returns
returns c = λ gone come documents change stood id.
    ap (row_at id) c.let_go.ensures
    ∙ c.put_in.ensures id
    ∙ ap (come_at id (reverse c.prepared.inside.come.items))
    (c.take_out.ensures.each id ∙ ap (λ ids. left_at id (reverse (numbers ids)) (row_at id c.args.self.now)) c.as_slice.ensures.value)
    ∙ ap (λ prepared. come_at id prepared.come (left_at id prepared.gone (row_at id c.args.self.now))) c.prepared.view_is
    ∙ ap (λ rows. come_at id rows (left_at id c.args.prepared.gone (row_at id c.args.self.now))) change.comes
    ∙ ap (λ ids. come_at id (map row_of come) (left_at id ids (row_at id c.args.self.now))) change.goes
    ∙ ap (λ kept. come_at id (map row_of come) (left_at id (map (λ document. document.id) gone) kept)) (stood id)
    ∙ leaves_after id gone come documents
