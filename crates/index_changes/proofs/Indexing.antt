-- The row index of an index through its changes.
use Rattle.std.proofs.Common.{◌≡◌, ℕ, suc, ◌≤◌, Bool, true, false, List, [], ◌∷◌, ◌++◌, length, Some, None, Result, Ok, Err, refl, sym, ap, subst, ◌∙◌, arith}
use Rattle.std.specs.Prelude.{OnOk, OnErr, bytes_eq, not}
use Rattle.std.specs.List.{filter}
use Rattle.std.proofs.lemmas.Bool.{cond_both, cond-true, cond-false}
use Rattle.doc_rows.specs.declared.path_use.PathUse.{PathUse}
use Rattle.doc_index.specs.Documents.{documents_of}
use Rattle.doc_index.specs.Left.{without_named}
use Rattle.doc_index.specs.Named.{is_named}
use Rattle.doc_store.specs.declared.rows.StoreRow.{StoreRow}
use Rattle.doc_store.specs.Store.{Row, Store, id_of, all_stored}
use Rattle.doc_store.specs.StoreView.{AdmissionView, IsAdmitted}
use Rattle.doc_store.specs.Sound.{Increase, AreApart, StandOnce, CoverRows, IsSound}
use Rattle.doc_store.proofs.SoundLemmas.{sound-all_stored}
use Rattle.index_settings.specs.View.{SettingsView}
use Rattle.row_index.specs.Changes.{IsTight}
use Rattle.row_index.specs.Standing.{StandsFor}
use Rattle.search_settings.specs.Uses.{use_alike, uses_from}
use Rattle.index_changes.specs.declared.kept.KeptRows.{KeptRows}
use Rattle.index_changes.specs.Indexed.{indexed_of, IsIndexed}
use Rattle.search_settings.proofs.UseLemmas.{uses-are}
use Rattle.index_changes.proofs.Stable.{all-stay}

-- ---- documents that come

-- the registry with these paths holds the documents that were admitted, and what a search sees of the others stays
pub record Admits (st : SettingsView) (rs : List StoreRow) (s : Store) (paths : List (List ℕ)) : Type 0 where
  pub few : length paths ≤ 1000
  pub after : paths ≡ (all_stored rs s).paths
  pub same : documents_of paths (uses_from st 0 paths) s.rows ≡ indexed_of st s
  pub sound : IsSound (all_stored rs s)

pub admits : (st : SettingsView) (rs : List StoreRow) (s : Store) (admission : AdmissionView) (paths : List (List ℕ)) → IsSound s → IsAdmitted s rs admission → paths ≡ s.paths ++ admission.added → Admits st rs s paths
admits st rs s admission paths h admitted is = record {
  few = subst (λ ps. length ps ≤ 1000) (sym after) sound.paths_within;
  after = after;
  same = ap (λ ps. documents_of ps (uses_from st 0 ps) s.rows) is ∙ all-stay st s.rows s.paths admission.added (subst StandOnce admitted.added sound.once) h.cover;
  sound = sound;
}
  where
    sound : IsSound (all_stored rs s)
    sound = sound-all_stored rs s h admitted.within

    after : paths ≡ (all_stored rs s).paths
    after = is ∙ sym admitted.added

pub stored-indexed : (st : SettingsView) (rs : List StoreRow) (s now : Store) (paths : List (List ℕ)) (kept : KeptRows) → Admits st rs s paths → kept.uses.items ≡ uses_from st 0 paths
    → now ≡ all_stored rs s → StandsFor kept.rows (documents_of paths kept.uses.items now.rows) → IsTight kept.rows → IsIndexed kept st now
stored-indexed st rs s now paths kept a is done stands tight = subst (IsIndexed kept st) (sym done) (record {
  stands = subst (λ ps. StandsFor kept.rows (documents_of ps (uses_from st 0 ps) (all_stored rs s).rows)) a.after
      (subst (λ (t : Store). StandsFor kept.rows (documents_of paths (uses_from st 0 paths) t.rows)) done (subst (λ us. StandsFor kept.rows (documents_of paths us now.rows)) is stands));
  tight = tight;
  uses = is ∙ ap (uses_from st 0) a.after;
  sound = a.sound;
})

-- where nothing was stored
pub refused-indexed : (st : SettingsView) (rs : List StoreRow) (s now : Store) (paths : List (List ℕ)) (uses : List PathUse) (kept : KeptRows) → IsSound s → Admits st rs s paths → uses ≡ uses_from st 0 paths
    → kept.uses.items ≡ uses_from st 0 s.paths → now ≡ s → StandsFor kept.rows (documents_of paths uses now.rows) → IsTight kept.rows → IsIndexed kept st now
refused-indexed st rs s now paths uses kept h a is was stays stands tight = subst (IsIndexed kept st) (sym stays) (record {
  stands = subst (StandsFor kept.rows) a.same
      (subst (λ (t : Store). StandsFor kept.rows (documents_of paths (uses_from st 0 paths) t.rows)) stays (subst (λ us. StandsFor kept.rows (documents_of paths us now.rows)) is stands));
  tight = tight;
  uses = was;
  sound = h;
})

-- ---- documents that go

increase-left : (p : Row → Bool) (low : ℕ) (rows : List Row) (high : ℕ) → Increase low rows high → Increase low (filter p rows) high
increase-left p low [] high h = h
increase-left p low (r ∷ rows) high h = cond_both (p r) (r ∷ filter p rows) (filter p rows) (λ v. Increase low v high)
    (λ _. (h.0, increase-left p (suc r.id) rows high h.1)) (λ _. from-lower (filter p rows) (increase-left p (suc r.id) rows high h.1))
  where
    from-lower : (v : List Row) → Increase (suc r.id) v high → Increase low v high
    from-lower [] up = omega (arith, h.0, up)
    from-lower (x ∷ v) up = (omega (arith, h.0, up.0), up.1)

absent-left : (p : Row → Bool) (external : List ℕ) (rows : List Row) → id_of external rows ≡ None → id_of external (filter p rows) ≡ None
absent-left p external [] h = refl
absent-left p external (r ∷ rows) h = by (bytes_eq external r.external) refl (absent-left p external rows)
  where
    by : (b : Bool) → bytes_eq external r.external ≡ b → (id_of external rows ≡ None → id_of external (filter p rows) ≡ None) → id_of external (filter p (r ∷ rows)) ≡ None
    by true e again = absurd (let bad = sym (cond-true (bytes_eq external r.external) (Some r.id) (id_of external rows) e) ∙ h in cc)
    by false e again =
        let rest = again (sym (cond-false (bytes_eq external r.external) (Some r.id) (id_of external rows) e) ∙ h) in
        cond_both (p r) (r ∷ filter p rows) (filter p rows) (λ v. id_of external v ≡ None) (λ _. cond-false (bytes_eq external r.external) _ _ e ∙ rest) (λ _. rest)

apart-left : (p : Row → Bool) (rows : List Row) → AreApart rows → AreApart (filter p rows)
apart-left p [] h = tt
apart-left p (r ∷ rows) h = cond_both (p r) (r ∷ filter p rows) (filter p rows) AreApart (λ _. (absent-left p r.external rows h.0, apart-left p rows h.1)) (λ _. apart-left p rows h.1)

cover-left : (p : Row → Bool) (rows : List Row) (paths : List (List ℕ)) → CoverRows rows paths → CoverRows (filter p rows) paths
cover-left p [] paths h = tt
cover-left p (r ∷ rows) paths h = cond_both (p r) (r ∷ filter p rows) (filter p rows) (λ v. CoverRows v paths) (λ _. (h.0, cover-left p rows paths h.1)) (λ _. cover-left p rows paths h.1)

pub sound-left : (ids : List (List ℕ)) (s : Store) → IsSound s → IsSound (without_named ids s)
sound-left ids s h = record {
  increase = increase-left (λ r. not (is_named ids r)) 0 s.rows s.next_id h.increase;
  apart = apart-left (λ r. not (is_named ids r)) s.rows h.apart;
  once = h.once;
  cover = cover-left (λ r. not (is_named ids r)) s.rows s.paths h.cover;
  ids_within = h.ids_within;
  paths_within = h.paths_within;
}

pub left-indexed : {A E : Type 0} (r : Result A E) (st : SettingsView) (ids : List (List ℕ)) (s now : Store) (kept : KeptRows) → IsSound s → kept.uses.items ≡ uses_from st 0 s.paths
    → OnOk r (now ≡ without_named ids s) → OnErr r (now ≡ s) → StandsFor kept.rows (documents_of now.paths kept.uses.items now.rows) → IsTight kept.rows → IsIndexed kept st now
left-indexed (Ok x) st ids s now kept h is done stays stands tight = subst (IsIndexed kept st) (sym done) (record {
  stands = subst (λ (t : Store). StandsFor kept.rows (documents_of t.paths (uses_from st 0 s.paths) t.rows)) done (subst (λ us. StandsFor kept.rows (documents_of now.paths us now.rows)) is stands);
  tight = tight;
  uses = is;
  sound = sound-left ids s h;
})
left-indexed (Err e) st ids s now kept h is done stays stands tight = subst (IsIndexed kept st) (sym stays) (record {
  stands = subst (λ (t : Store). StandsFor kept.rows (documents_of t.paths (uses_from st 0 s.paths) t.rows)) stays (subst (λ us. StandsFor kept.rows (documents_of now.paths us now.rows)) is stands);
  tight = tight;
  uses = is;
  sound = h;
})

-- ---- other settings

pub alike-indexed : (new old : SettingsView) (s : Store) (kept : KeptRows) → use_alike new old s.paths ≡ true → IsIndexed kept old s → IsIndexed kept new s
alike-indexed new old s kept alike h = record {
  stands = subst (λ uses. StandsFor kept.rows (documents_of s.paths uses s.rows)) (sym same) h.stands;
  tight = h.tight;
  uses = h.uses ∙ sym same;
  sound = h.sound;
}
  where
    same : uses_from new 0 s.paths ≡ uses_from old 0 s.paths
    same = uses-are (uses_from new 0 s.paths) (uses_from old 0 s.paths) alike
