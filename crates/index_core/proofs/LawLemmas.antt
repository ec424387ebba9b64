-- What holds of each search, and what a patch leaves of it.
use Rattle.std.proofs.Common.{◌≡◌, map, take, drop, Option, None, Some, Ok, sym, ap, subst, ◌∙◌}
use Rattle.std.specs.List.{flat_map, filter_map}
use Rattle.std.proofs.lemmas.Bool.{cond-true}
use Rattle.std.proofs.lemmas.List.{drop-map, take-map}
use Rattle.doc_rows.specs.Rows.{rows_of}
use Rattle.doc_store.specs.Store.{Row}
use Rattle.index_settings.specs.declared.fault.SettingsRefusal.{SettingsRefusal}
use Rattle.index_settings.specs.View.{SettingsView}
use Rattle.index_settings.specs.Table.{defaults, patch_fault}
use Rattle.index_settings.specs.Patch.{patched}
use Rattle.index_settings.specs.Rules.{rule_of}
use Rattle.search_base.specs.CostOrder.{before}
use Rattle.search_base.specs.Hits.{Match}
use Rattle.search_call.specs.Windows.{offset_of}
use Rattle.search_settings.specs.Rules.{entries_named}
use Rattle.search_settings.specs.Uses.{use_alike}
use Rattle.rule_buckets.specs.Matches.{ids_of, hits_of}
use Rattle.index_changes.specs.Index.{Index}
use Rattle.index_changes.specs.PlanView.{PlanView, patch}
use Rattle.index_changes.specs.Plans.{plan_of, patch_planned}
use Rattle.index_changes.proofs.ByIds.{IsThere, rows-there, rows-take, rows-drop}
use Rattle.index_changes.proofs.LawLemmas.{after_plan, applied-is}
use Rattle.index_changes.proofs.Settling.{uses-patched, rules-patched, alike-patched}
use Rattle.index_core.specs.Matching.{matching, rules_in}
use Rattle.index_core.specs.Found.{asked, asked_of, most_hits, window_size}
use Rattle.index_core.specs.Laws.{NoWordFindsTheList, LeavesRanking, OtherPatchesLeaveRanking}
use Rattle.index_core.proofs.Finding.{as_match, asked-are}
use Rattle.index_core.proofs.HitLemmas.{hits-seen}
use Rattle.index_core.proofs.NoWord.{no_costs, empty-matching, listed, document_at, documents-read, hits-documents}

-- ---- no word

pub no_word_finds_the_list : NoWordFindsTheList
no_word_finds_the_list index call sound none ask unfiltered unmarked =
    let hits = asked index call in
    let offset = offset_of call.window in
    let size = window_size (most_hits index) call in
    let rows = index.store.rows in
    let costs = no_costs (rules_in index call) in
    let some = take size (drop offset rows) in
    let seen : ids_of (map as_match hits) ≡ map (λ (r : Row). r.id) some =
    ap (λ o. ids_of (map as_match (asked_of o (most_hits index) call (matching index call)))) unmarked
    ∙ ap ids_of (hits-seen before (λ (m : Match). m.costs) (λ (m : Match). m.id) as_match (matching index call) offset size ∙ ap (λ ms. hits_of (map as_match ms) offset size) (empty-matching index call none ask unfiltered rows))
    ∙ listed costs rows index.store.next_id offset size sound.increase in
    sym (hits-documents index call hits (asked-are index call sound)) ∙ ap (filter_map (document_at rows)) seen
    ∙ documents-read rows some (rows-take (IsThere rows) size (drop offset rows) (rows-drop (IsThere rows) offset rows (rows-there index.store sound)))
    ∙ sym (ap (take size) (drop-map (λ (r : Row). r.document) offset rows) ∙ take-map (λ (r : Row). r.document) size (drop offset rows))

-- ---- settings

pub other_patches_leave_ranking : OtherPatchesLeaveRanking
other_patches_leave_ranking index after d plan leaves h became = by (patch_fault d) h
  where
    old : SettingsView
    old = index.settings

    new : SettingsView
    new = patched defaults old d

    leaves_ranking : LeavesRanking index (after_plan (plan_of index.key (patch d)) index) (plan_of index.key (patch d))
    leaves_ranking = record {
      rows = λ document. ap (rows_of document index.store.paths) (uses-patched old d leaves index.store.paths);
      rules = λ call. ap (λ texts. flat_map (λ text. entries_named index.store.paths call.sort (rule_of text)) texts) (rules-patched old d leaves);
      reads = cond-true (use_alike new old index.store.paths) _ _ (alike-patched old d leaves index.store.paths);
    }

    by : (fault : Option SettingsRefusal) → patch_planned index.key d fault ≡ Ok plan → LeavesRanking index after plan
    by None is =
        let same : plan_of index.key (patch d) ≡ plan = cc in
        subst (λ (i : Index). LeavesRanking index i plan) (applied-is plan index after became)
        (subst (λ (p : PlanView). LeavesRanking index (after_plan p index) p) same leaves_ranking)
    by (Some fault) is = absurd (cc)
