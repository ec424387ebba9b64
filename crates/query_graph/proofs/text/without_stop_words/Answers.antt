use Rattle.std.proofs.Common.{◌≡◌, ◌∙◌, sym, ap, refl, true, false, List}
use Rattle.std.specs.List.{list_all}
use Rattle.query_graph.specs.ItemView.{ItemView}
use Rattle.query_graph.specs.Items.{is_left_out}
use Rattle.query_graph.proofs.text.without_stop_words.Goals as goal

pub returns-then-all_left_out : goal.returns-then-all_left_out
returns-then-all_left_out c =
    let all : list_all (is_left_out c.args.stop_words.now) c.args.list.items ≡ true =
    ap (λ (items : List ItemView). list_all (is_left_out c.args.stop_words.now) items) (sym c.as_slice.ensures.value) ∙ sym c.if-all_left_out.ensures in
    rw all refl

pub returns : goal.returns
returns c =
    let some : list_all (is_left_out c.args.stop_words.now) c.args.list.items ≡ false =
    ap (λ (items : List ItemView). list_all (is_left_out c.args.stop_words.now) items) (sym c.as_slice.ensures.value) ∙ sym c.if-all_left_out.ensures in
    rw some c.leave_out.ensures
