-- Batches that store no documents.
use Rattle.std.proofs.Common.{◌≡◌, ℕ, ◌≤◌, ◌||◌, Bool, true, false, cond, List, [], ◌∷◌, ◌++◌, length, filter, replicate, Option, None, Some, Result, Ok, refl, sym, ap, ap₂, subst, ◌∙◌, arith}
use Rattle.std.specs.Prelude.{bytes_eq, codes, flat_map, not}
use Rattle.std.specs.Option.{is_some}
use Rattle.std.specs.Result.{result_err, result_unwrap_or}
use Rattle.std.proofs.lemmas.Bool.{cond_both}
use Rattle.std.proofs.lemmas.List.Folds.{list_any-append}
use Rattle.serde_json.specs.Data.{Data}
use Rattle.serde_json.specs.Find.{get}
use Rattle.document_changes.specs.Changes.{KindData, create, drop_index, replace, update, remove, clear, patch, reset}
use Rattle.doc_store.specs.Sound.{IsSound}
use Rattle.doc_store.specs.Store.{Row}
use Rattle.doc_store.proofs.StoreLemmas.{not_spent}
use Rattle.doc_index.specs.Left.{without_named}
use Rattle.doc_index.specs.Named.{is_named, named}
use Rattle.index_settings.specs.View.{SettingsView}
use Rattle.index_settings.specs.declared.fault.SettingsRefusal.{SettingsRefusal}
use Rattle.index_settings.specs.Table.{defaults, patch_fault}
use Rattle.index_settings.specs.Patch.{patched}
use Rattle.search_settings.specs.Uses.{use_alike}
use Rattle.index_changes.specs.declared.batch.BatchKind.TheVariants as batch
use Rattle.index_changes.specs.declared.refusal.CoreRefusal.{CoreRefusal}
use Rattle.index_changes.specs.Batches.{changed_by, after_each, faults_of, batch_kind_of, AreOf, names_in, names_uses, batch_needed}
use Rattle.index_changes.specs.Fetches.{LeavesUses, named_needed, needed_under, needed}
use Rattle.index_changes.specs.Index.{Index}
use Rattle.index_changes.specs.PlanView.{PlanView, Work}
use Rattle.index_changes.specs.PlanView as work
use Rattle.index_changes.specs.Plans.{plan_of, patch_planned, planned, unless_spent}
use Rattle.index_changes.proofs.Gathering.{named-within, needed-within}
use Rattle.index_changes.proofs.Indexing.{sound-left}
use Rattle.index_changes.proofs.Settling.{alike-patched}

-- ---- documents that are taken out

rows-apart : (a b : List (List ℕ)) (rows : List Row)
    → filter (λ r. not (is_named (a ++ b) r)) rows ≡ filter (λ r. not (is_named b r)) (filter (λ r. not (is_named a r)) rows)
rows-apart a b [] = refl
rows-apart a b (r ∷ rows) = by (is_named a r) (is_named (a ++ b) r) (list_any-append (bytes_eq r.external) a b) (rows-apart a b rows)
  where
    by : (x z : Bool) → z ≡ (x || is_named b r)
        → filter (λ r. not (is_named (a ++ b) r)) rows ≡ filter (λ r. not (is_named b r)) (filter (λ r. not (is_named a r)) rows)
        → cond (not z) (r ∷ filter (λ r. not (is_named (a ++ b) r)) rows) (filter (λ r. not (is_named (a ++ b) r)) rows)
        ≡ filter (λ r. not (is_named b r)) (cond (not x) (r ∷ filter (λ r. not (is_named a r)) rows) (filter (λ r. not (is_named a r)) rows))
    by true z e rest = ap (λ (t : Bool). cond (not t) (r ∷ filter (λ r. not (is_named (a ++ b) r)) rows) (filter (λ r. not (is_named (a ++ b) r)) rows)) e ∙ rest
    by false z e rest =
        ap (λ (t : Bool). cond (not t) (r ∷ filter (λ r. not (is_named (a ++ b) r)) rows) (filter (λ r. not (is_named (a ++ b) r)) rows)) e
        ∙ ap (λ (l : List Row). cond (not (is_named b r)) (r ∷ l) l) rest

rows-all : (rows : List Row) → filter (λ r. not (is_named [] r)) rows ≡ rows
rows-all [] = refl
rows-all (r ∷ rows) = ap (λ (l : List Row). r ∷ l) (rows-all rows)

-- the index without the documents that these ids name
abbrev pub without : List (List ℕ) → Index → Index
without ids index = record { key = index.key; store = without_named ids index.store; settings = index.settings }

without-nothing : (index : Index) → index ≡ without [] index
without-nothing index = ap (λ (rows : List Row). record { key = index.key; store = record { paths = index.store.paths; next_id = index.store.next_id; rows = rows }; settings = index.settings }) (sym (rows-all index.store.rows))

without-both : (a b : List (List ℕ)) (index : Index) → without b (without a index) ≡ without (a ++ b) index
without-both a b index = ap (λ (rows : List Row). record { key = index.key; store = record { paths = index.store.paths; next_id = index.store.next_id; rows = rows }; settings = index.settings }) (sym (rows-apart a b index.store.rows))

removed-one : (ids : List (List ℕ)) (index : Index) → IsSound index.store → changed_by (remove ids) index ≡ Ok (without ids index)
removed-one ids index sound = ap (unless_spent (without ids index)) (not_spent (without_named ids index.store) sound.ids_within sound.paths_within)

-- none is refused, and the documents that they name are out
pub record Removes (changes : List KindData) (index : Index) : Type 0 where
  pub after : after_each changes index ≡ without (flat_map (names_in None) changes) index
  pub faults : faults_of changes index ≡ replicate (length changes) None

removed-more : (ids : List (List ℕ)) (changes : List KindData) (index : Index) → IsSound index.store → Removes changes (without ids index) → Removes (remove ids ∷ changes) index
removed-more ids changes index sound h =
    let one = removed-one ids index sound in
    let next : result_unwrap_or (changed_by (remove ids) index) index ≡ without ids index = ap (λ (r : Result Index CoreRefusal). result_unwrap_or r index) one in
    record {
      after = ap (after_each changes) next ∙ h.after ∙ without-both ids (flat_map (names_in None) changes) index;
      faults = ap₂ (λ (o : Option CoreRefusal) (i : Index). o ∷ faults_of changes i) (ap result_err one) next ∙ ap (λ (l : List (Option CoreRefusal)). None ∷ l) h.faults;
    }

pub removed-all : (changes : List KindData) (index : Index) → AreOf batch.Remove changes → IsSound index.store → Removes changes index
removed-all [] index h sound = record { after = without-nothing index; faults = refl }
removed-all (remove ids ∷ changes) index h sound = removed-more ids changes index sound (removed-all changes (without ids index) h.1 (sound-left ids index.store sound))
removed-all (create key ∷ changes) index h sound = absurd (let bad = h.0 in cc)
removed-all (drop_index ∷ changes) index h sound = absurd (let bad = h.0 in cc)
removed-all (replace given ds ∷ changes) index h sound = absurd (let bad = h.0 in cc)
removed-all (update given ds ∷ changes) index h sound = absurd (let bad = h.0 in cc)
removed-all (clear ∷ changes) index h sound = absurd (let bad = h.0 in cc)
removed-all (patch members ∷ changes) index h sound = absurd (let bad = h.0 in cc)
removed-all (reset ∷ changes) index h sound = absurd (let bad = h.0 in cc)

-- changes that take out documents name the same whatever the key
names-whatever : (own : Option (List ℕ)) (changes : List KindData) → AreOf batch.Remove changes → flat_map (names_in None) changes ≡ flat_map (names_in own) changes
names-whatever None changes h = refl
names-whatever (Some key) [] h = refl
names-whatever (Some key) (remove ids ∷ changes) h = ap (λ (l : List (List ℕ)). ids ++ l) (names-whatever (Some key) changes h.1)
names-whatever (Some key) (create k ∷ changes) h = absurd (let bad = h.0 in cc)
names-whatever (Some key) (drop_index ∷ changes) h = absurd (let bad = h.0 in cc)
names-whatever (Some key) (replace given ds ∷ changes) h = absurd (let bad = h.0 in cc)
names-whatever (Some key) (update given ds ∷ changes) h = absurd (let bad = h.0 in cc)
names-whatever (Some key) (clear ∷ changes) h = absurd (let bad = h.0 in cc)
names-whatever (Some key) (patch members ∷ changes) h = absurd (let bad = h.0 in cc)
names-whatever (Some key) (reset ∷ changes) h = absurd (let bad = h.0 in cc)

pub removed-needed : (changes : List KindData) (index : Index) → AreOf batch.Remove changes → named_needed (flat_map (names_in None) changes) index ≤ batch_needed changes index
removed-needed changes index h =
    needed-within (flat_map (names_in None) changes) changes index
    (subst (λ (names : List (List ℕ)). length (named (flat_map (names_in None) changes) index.store.rows) ≤ length (named names index.store.rows)) (names-whatever index.key changes h) (omega arith))

-- ---- a change by itself

under-most : (st : SettingsView) (index : Index) → needed_under st index ≤ length index.store.rows
under-most st index = cond_both (use_alike st index.settings index.store.paths) 0 (length index.store.rows) (λ n. n ≤ length index.store.rows) (λ _. omega arith) (λ _. omega arith)

none-of : {A : Type 0} (o : Option A) → is_some o ≡ false → o ≡ None
none-of None h = refl
none-of (Some x) h = absurd (cc)

none-of-four : (a b c d : Bool) → (a || b || c || d) ≡ false → (a ≡ false) × (b ≡ false) × (c ≡ false) × (d ≡ false)
none-of-four true b c d h = absurd (cc)
none-of-four false true c d h = absurd (cc)
none-of-four false false true d h = absurd (cc)
none-of-four false false false d h = (refl, refl, refl, h)

leaves-uses : (members : Data) → names_uses members ≡ false → LeavesUses members
leaves-uses members h =
    let none = none-of-four (is_some (get (codes "searchableAttributes") members)) (is_some (get (codes "filterableAttributes") members)) (is_some (get (codes "sortableAttributes") members))
    (is_some (get (codes "rankingRules") members)) h in
    record {
      searchable = none-of (get (codes "searchableAttributes") members) none.0;
      filterable = none-of (get (codes "filterableAttributes") members) none.1;
      sortable = none-of (get (codes "sortableAttributes") members) none.2;
      rules = none-of (get (codes "rankingRules") members) none.3;
    }

patch-needed : (members : Data) (index : Index) → needed (work.patch members) index ≤ batch_needed (patch members ∷ []) index
patch-needed members index = by (names_uses members) refl
  where
    by : (b : Bool) → names_uses members ≡ b → needed_under (patched defaults index.settings members) index ≤ cond (b || false) (length index.store.rows) (named_needed (flat_map (names_in index.key) (patch members ∷ [])) index)
    by true is = under-most (patched defaults index.settings members) index
    by false is =
        let alike = alike-patched index.settings members (leaves-uses members is) index.store.paths in
        let none : needed_under (patched defaults index.settings members) index ≡ 0 = ap (λ (b : Bool). cond b 0 (length index.store.rows)) alike in
        omega (arith, none)

abbrev found : PlanView → Result PlanView CoreRefusal
found plan = Ok plan

work-is : (key : Option (List ℕ)) (does : Work) (plan : PlanView) → found (plan_of key does) ≡ Ok plan → plan.work ≡ does
work-is key does plan h = let same : plan_of key does ≡ plan = cc in ap (λ (p : PlanView). p.work) (sym same)

patch-work : (key : Option (List ℕ)) (members : Data) (fault : Option SettingsRefusal) (plan : PlanView) → patch_planned key members fault ≡ Ok plan → plan.work ≡ work.patch members
patch-work key members None plan h = work-is key (work.patch members) plan h
patch-work key members (Some why) plan h = absurd (cc)

nothing-needed : (changes : List KindData) (index : Index) → named_needed [] index ≤ batch_needed changes index
nothing-needed changes index = needed-within [] changes index (named-within [] (flat_map (names_in index.key) changes) index.store.rows (λ q there. absurd (cc)))

pub single-needed : (change : KindData) (index : Index) (plan : PlanView) → batch_kind_of change ≡ batch.Single → planned index change ≡ Ok plan → needed plan.work index ≤ batch_needed (change ∷ []) index
single-needed (create key) index plan kind is = subst (λ (w : Work). needed w index ≤ batch_needed (create key ∷ []) index) (sym (work-is index.key (work.replace []) plan is)) (nothing-needed (create key ∷ []) index)
single-needed drop_index index plan kind is = subst (λ (w : Work). needed w index ≤ batch_needed (drop_index ∷ []) index) (sym (work-is index.key (work.replace []) plan is)) (nothing-needed (drop_index ∷ []) index)
single-needed clear index plan kind is = subst (λ (w : Work). needed w index ≤ batch_needed (clear ∷ []) index) (sym (work-is index.key work.clear plan is)) (omega arith)
single-needed (patch members) index plan kind is =
    subst (λ (w : Work). needed w index ≤ batch_needed (patch members ∷ []) index) (sym (patch-work index.key members (patch_fault members) plan is)) (patch-needed members index)
single-needed reset index plan kind is = subst (λ (w : Work). needed w index ≤ batch_needed (reset ∷ []) index) (sym (work-is index.key work.reset plan is)) (under-most defaults index)
single-needed (replace given ds) index plan kind is = absurd (cc)
single-needed (update given ds) index plan kind is = absurd (cc)
single-needed (remove ids) index plan kind is = absurd (cc)
