use Rattle.std.proofs.Common.{◌≡◌, sym, ap, ap₂, ◌∙◌, subst}
use Rattle.serde_json.specs.Data.{object}
use Rattle.serde_json.specs.View.{view, members_view}
use Rattle.serde_json.proofs.Views.{view-Object}
use Rattle.serde_json.specs.declared.value.Value.{Object}
use Rattle.doc_values.specs.Whole.{IsDocument}
use Rattle.doc_values.specs.Stored.{merge, put_all}
use Rattle.doc_values.specs.Walk.{members_in}
use Rattle.doc_values.proofs.Documents.{merge_is_document}
use Rattle.doc_values.proofs.merge.merged.Goals as goal

pub whole-requires : goal.whole-requires
whole-requires c =
    let kept : object (members_view c.in-Object.members.entries) ≡ c.args.old.now =
    sym (view-Object c.in-Object.members) ∙ ap view (sym c.in-Object.is) ∙ c.in_ok-other.ensures.cases ∙ c.as_json.ensures.value in
    let built : view (Object c.put_members_of.new.members) ≡ merge c.args.old.now c.args.new.now =
    view-Object c.put_members_of.new.members ∙ ap object (c.in_ok-put_members_of-in-Object.ensures ∙ ap₂ put_all (ap members_in c.as_json-in-Object.ensures.value) (ap members_in kept)) in
    subst IsDocument (sym built) (merge_is_document _ _ c.as_json.ensures.is_document c.as_json-in-Object.ensures.is_document)
