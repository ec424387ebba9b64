use Rattle.std.proofs.Common.{subst, sym}
use Rattle.postings.specs.Changes.{ChangeView, IsChangeOf}
use Rattle.postings.specs.Documents.{Document}
use Rattle.postings.proofs.RowLemmas.{ok_both, one_more_comes}
use Rattle.postings.proofs.change.Change.put_in.Goals as goal

pub returns : goal.returns
returns c =
    let d : Document = record { id = c.args.id.0; places = c.args.places.now } in
    let old : ChangeView = record { words = c.self.inside.gathered.rows.items } in
    let new : ChangeView = record { words = c.name_places.new.words.rows.items } in
    ok_both c.name_places.result c.name_places.ensures.named c.name_places.ensures.narrow
    (λ named narrow gone come was. one_more_comes old new d named narrow gone come (subst (λ v. IsChangeOf v gone come) (sym c.self.view_is) was))
