-- Documents of changes that an index takes together, gathered one change after the other.
use Rattle.std.proofs.Common.{◌≡◌, ℕ, ◌+◌, ◌<◌, ◌≤◌, ◌||◌, Bool, true, false, cond, List, [], ◌∷◌, ◌++◌, length, Option, None, Some, Result, Ok, Err, refl, sym, ap, ap₂, subst, ◌∙◌, arith, append_assoc, append-nil}
use Rattle.std.specs.Prelude.{bytes_eq, flat_map, IfSome, unwrap_or}
use Rattle.std.specs.List.{AllByRecursion, cons_option, list_any}
use Rattle.std.specs.Result.{result_err, result_ok, result_unwrap_or}
use Rattle.std.proofs.lemmas.Bool.{cond_both}
use Rattle.std.proofs.lemmas.List.Folds.{list_any-append}
use Rattle.search_base.specs.Gives.{Checks}
use Rattle.search_base.specs.Trying.{◌>>=◌, refused_as}
use Rattle.search_base.specs.declared.fault.Fault.{Fault}
use Rattle.search_base.specs.declared.fault.Fault.TheVariants.{Refused as Turned, NoMemory as Memory}
use Rattle.serde_json.specs.Data.{Data}
use Rattle.document_changes.specs.Changes.{KindData, create, drop_index, replace, update, remove, clear, patch, reset}
use Rattle.doc_values.specs.Ids.{external_id_of}
use Rattle.doc_values.specs.declared.ids.IdRefusal.{IdRefusal}
use Rattle.doc_store.specs.declared.rows.StoreRow.{StoreRow}
use Rattle.doc_store.specs.declared.rows.StoreRefusal.{StoreRefusal}
use Rattle.doc_store.specs.Sound.{IsSound}
use Rattle.doc_store.specs.Store.{Row, Store, stored, all_stored, externals, spent}
use Rattle.doc_store.specs.StoreView.{IsAdmitted}
use Rattle.doc_index.specs.Named.{is_named, named}
use Rattle.index_image.specs.State.{IsPrimaryKey}
use Rattle.index_settings.specs.View.{SettingsView}
use Rattle.index_changes.specs.declared.batch.BatchKind.{BatchKind}
use Rattle.index_changes.specs.declared.batch.BatchKind.TheVariants as batch
use Rattle.index_changes.specs.declared.refusal.CoreRefusal.{CoreRefusal}
use Rattle.index_changes.specs.declared.gathered.Gathered.{Gathered}
use Rattle.index_changes.specs.Batches.{AreOf, changed_by, after_each, faults_of, batch_kind_of, ids_among, names_in, reads_all, batch_needed}
use Rattle.index_changes.specs.Fetches.{named_needed}
use Rattle.index_changes.specs.Gathering.{IsGathered, stored_by, Stores, key_in, documents_in, KeyedRows, with_rows, unless_refused, rows_planned, with_planned, with_change, WouldReadBack}
use Rattle.index_changes.specs.Index.{Index}
use Rattle.index_changes.specs.Keyed.{HasKey, IsUnder, NoneWithout, IsKeyed, AreKeyed, AreReadBack}
use Rattle.index_changes.specs.PlanView.{Work}
use Rattle.index_changes.specs.PlanView as work
use Rattle.index_changes.specs.Plans.{key_for, rows_under, rows_for, plan_of, documents_planned, Keeps, updating, all_updated, after_work, settings_after, unless_spent, applied}
use Rattle.index_changes.specs.Refusals.{id_refusal, store_refusal, store_fault}
use Rattle.index_changes.proofs.AsTheyCame.{updates-spent}
use Rattle.index_changes.proofs.Keeping.{key-given, rows-keyed, keyed-after}
use Rattle.index_changes.proofs.LawLemmas.{bind_ok, key_kept}

-- ---- documents that are stored in two goes

stored-join : (a b : List StoreRow) (s : Store) → all_stored (a ++ b) s ≡ all_stored b (all_stored a s)
stored-join [] b s = refl
stored-join (r ∷ a) b s = stored-join a b (stored r s)

updated-join : (a b : List StoreRow) (s : Store) → all_updated (a ++ b) s ≡ all_updated b (all_updated a s)
updated-join [] b s = refl
updated-join (r ∷ a) b s = updated-join a b (stored (updating r s) s)

stored_by-join : (kind : BatchKind) (a b : List StoreRow) (s : Store) → stored_by kind (a ++ b) s ≡ stored_by kind b (stored_by kind a s)
stored_by-join batch.Replace a b s = stored-join a b s
stored_by-join batch.Update a b s = updated-join a b s
stored_by-join batch.Remove a b s = stored-join a b s
stored_by-join batch.Single a b s = stored-join a b s

stored_by-nothing : (kind : BatchKind) (s : Store) → stored_by kind [] s ≡ s
stored_by-nothing batch.Replace s = refl
stored_by-nothing batch.Update s = refl
stored_by-nothing batch.Remove s = refl
stored_by-nothing batch.Single s = refl

stored_by-spent : (kind : BatchKind) (rows : List StoreRow) (s : Store) → IsSound s → AreReadBack rows → spent (stored_by kind rows s) ≡ spent (all_stored rows s)
stored_by-spent batch.Replace rows s sound back = refl
stored_by-spent batch.Update rows s sound back = updates-spent rows s sound back
stored_by-spent batch.Remove rows s sound back = refl
stored_by-spent batch.Single rows s sound back = refl

all-append : {A : Type 0} (P : A → Type 0) (xs ys : List A) → AllByRecursion P xs → AllByRecursion P ys → AllByRecursion P (xs ++ ys)
all-append P [] ys h k = k
all-append P (x ∷ xs) ys h k = (h.0, all-append P xs ys h.1 k)

-- ---- one change behind those that were gathered

-- what it comes to, as the index has it
abbrev pub taken : BatchKind → Index → Result KeyedRows CoreRefusal → Result Index CoreRefusal
taken kind index (Ok keyed) = Ok (with_rows kind keyed index)
taken kind index (Err why) = Err why

module _ (kind : BatchKind) (does : List StoreRow → Work) (index : Index) (before : KeyedRows) (given : Option (List ℕ)) (ds : List Data)
    (after : (rows : List StoreRow) (s : Store) → after_work (does rows) s ≡ stored_by kind rows s)
    (settings : (rows : List StoreRow) (old : SettingsView) → settings_after (does rows) old ≡ old)
    (sound : IsSound index.store) (back : AreReadBack before.rows) where
  planned-one : (key : Option (List ℕ)) (rows : List StoreRow) → AreReadBack rows
      → applied (plan_of key (does rows)) (with_rows kind before index) ≡ taken kind index (with_planned before (record { key = key; rows = rows }) index.store)
  planned-one key rows come =
      let all = before.rows ++ rows in
      let so_far = stored_by kind before.rows index.store in
      let left : after_work (does rows) so_far ≡ stored_by kind all index.store = after rows so_far ∙ sym (stored_by-join kind before.rows rows index.store) in
      ap₂ (λ (s : Store) (st : SettingsView). unless_spent (record { key = key; store = s; settings = st }) (spent s)) left (settings rows index.settings)
      ∙ ap (unless_spent (record { key = key; store = stored_by kind all index.store; settings = index.settings }))
      (stored_by-spent kind all index.store sound (all-append _ before.rows rows back come))
      ∙ by (spent (all_stored all index.store))
    where
      by : (o : Option StoreRefusal) → unless_spent (record { key = key; store = stored_by kind (before.rows ++ rows) index.store; settings = index.settings }) o
          ≡ taken kind index (unless_refused (record { key = key; rows = before.rows ++ rows }) o)
      by None = refl
      by (Some why) = refl

  by-rows : (key : Option (List ℕ)) (r : Result (List StoreRow) CoreRefusal) → ((rows : List StoreRow) → r ≡ Ok rows → AreReadBack rows)
      → ((r >>= (λ rows. Ok (plan_of key (does rows)))) >>= (λ plan. applied plan (with_rows kind before index)))
      ≡ taken kind index ((r >>= (λ rows. Ok (record { key = key; rows = rows }))) >>= (λ planned. with_planned before planned index.store))
  by-rows key (Err why) come = refl
  by-rows key (Ok rows) come = planned-one key rows (come rows refl)

  by-key : (r : Result (Option (List ℕ)) CoreRefusal) → ((key : Option (List ℕ)) (rows : List StoreRow) → r ≡ Ok key → rows_for key ds ≡ Ok rows → AreReadBack rows)
      → ((r >>= (λ key. rows_for key ds >>= (λ rows. Ok (plan_of key (does rows))))) >>= (λ plan. applied plan (with_rows kind before index)))
      ≡ taken kind index ((r >>= (λ key. rows_for key ds >>= (λ rows. Ok (record { key = key; rows = rows })))) >>= (λ planned. with_planned before planned index.store))
  by-key (Err why) come = refl
  by-key (Ok key) come = by-rows key (rows_for key ds) (λ rows. come key rows refl)

  planned-is : (key : Option (List ℕ)) (rows : List StoreRow) → key_for before.key given ds ≡ Ok key → rows_for key ds ≡ Ok rows → rows_planned before.key given ds ≡ Ok (record { key = key; rows = rows })
  planned-is key rows keyed has =
      ap (λ (r : Result (Option (List ℕ)) CoreRefusal). r >>= (λ key. rows_for key ds >>= (λ rows. Ok (record { key = key; rows = rows })))) keyed
      ∙ ap (λ (r : Result (List StoreRow) CoreRefusal). r >>= (λ rows. Ok (record { key = key; rows = rows }))) has

  documents-taken : WouldReadBack before given ds
      → (documents_planned before.key given ds does >>= (λ plan. applied plan (with_rows kind before index))) ≡ taken kind index (with_change before given ds index.store)
  documents-taken would = by-key (key_for before.key given ds) (λ key rows keyed has. would (record { key = key; rows = rows }) (planned-is key rows keyed has))

change-taken : (change : KindData) (index : Index) (before : KeyedRows) → Stores change → IsSound index.store → AreReadBack before.rows → WouldReadBack before (key_in change) (documents_in change)
    → changed_by change (with_rows (batch_kind_of change) before index) ≡ taken (batch_kind_of change) index (with_change before (key_in change) (documents_in change) index.store)
change-taken (replace given ds) index before h sound back would = documents-taken batch.Replace work.replace index before given ds (λ rows s. refl) (λ rows old. refl) sound back would
change-taken (update given ds) index before h sound back would = documents-taken batch.Update work.update index before given ds (λ rows s. refl) (λ rows old. refl) sound back would
change-taken (create key) index before h sound back would = absurd h
change-taken drop_index index before h sound back would = absurd h
change-taken (remove ids) index before h sound back would = absurd h
change-taken clear index before h sound back would = absurd h
change-taken (patch members) index before h sound back would = absurd h
change-taken reset index before h sound back would = absurd h

taken-fault : (kind : BatchKind) (index : Index) (r : Result KeyedRows CoreRefusal) → result_err (taken kind index r) ≡ result_err r
taken-fault kind index (Ok keyed) = refl
taken-fault kind index (Err why) = refl

taken-or : (kind : BatchKind) (index : Index) (before : KeyedRows) (r : Result KeyedRows CoreRefusal) → result_unwrap_or (taken kind index r) (with_rows kind before index) ≡ with_rows kind (result_unwrap_or r before) index
taken-or kind index before (Ok keyed) = refl
taken-or kind index before (Err why) = refl

-- ---- the loop

-- What changes come to with those that are left: what all of them do.
pub record Gathers (kind : BatchKind) (all left : List KindData) (index : Index) (keyed : KeyedRows) (faults : List (Option CoreRefusal)) : Type 0 where
  pub after : after_each left (with_rows kind keyed index) ≡ after_each all index
  pub told : faults ++ faults_of left (with_rows kind keyed index) ≡ faults_of all index

pub gathers-start : (kind : BatchKind) (all : List KindData) (index : Index) → Gathers kind all all index (record { key = index.key; rows = [] }) []
gathers-start kind all index =
    let same : with_rows kind (record { key = index.key; rows = [] }) index ≡ index = ap (λ (s : Store). record { key = index.key; store = s; settings = index.settings }) (stored_by-nothing kind index.store) in
    record { after = ap (after_each all) same; told = ap (faults_of all) same }

gathers-same : (all rest : List KindData) (change : KindData) (index : Index) (before now : KeyedRows) (faults told : List (Option CoreRefusal)) (fault : Option CoreRefusal)
    → Stores change → IsSound index.store → AreReadBack before.rows → WouldReadBack before (key_in change) (documents_in change)
    → fault ≡ result_err (with_change before (key_in change) (documents_in change) index.store)
    → now ≡ result_unwrap_or (with_change before (key_in change) (documents_in change) index.store) before
    → told ≡ faults ++ fault ∷ []
    → Gathers (batch_kind_of change) all (change ∷ rest) index before faults → Gathers (batch_kind_of change) all rest index now told
gathers-same all rest change index before now faults told fault stores sound back would why takes tells h =
    let kind = batch_kind_of change in
    let r = with_change before (key_in change) (documents_in change) index.store in
    let at = with_rows kind before index in
    let one = change-taken change index before stores sound back would in
    let next : result_unwrap_or (changed_by change at) at ≡ with_rows kind now index =
    ap (λ (x : Result Index CoreRefusal). result_unwrap_or x at) one ∙ taken-or kind index before r ∙ ap (λ (k : KeyedRows). with_rows kind k index) (sym takes) in
    let refused : result_err (changed_by change at) ≡ fault = ap result_err one ∙ taken-fault kind index r ∙ sym why in
    record {
      after = ap (after_each rest) (sym next) ∙ h.after;
      told =
          ap (λ (l : List (Option CoreRefusal)). l ++ faults_of rest (with_rows kind now index)) tells
          ∙ append_assoc faults (fault ∷ []) (faults_of rest (with_rows kind now index))
          ∙ ap₂ (λ (o : Option CoreRefusal) (i : Index). faults ++ o ∷ faults_of rest i) (sym refused) (sym next)
          ∙ h.told;
    }

pub gathers-one : (kind : BatchKind) (all rest : List KindData) (change : KindData) (index : Index) (before now : KeyedRows) (faults told : List (Option CoreRefusal)) (fault : Option CoreRefusal)
    → Stores change → batch_kind_of change ≡ kind → IsSound index.store → AreReadBack before.rows → WouldReadBack before (key_in change) (documents_in change)
    → fault ≡ result_err (with_change before (key_in change) (documents_in change) index.store)
    → now ≡ result_unwrap_or (with_change before (key_in change) (documents_in change) index.store) before
    → told ≡ faults ++ fault ∷ []
    → Gathers kind all (change ∷ rest) index before faults → Gathers kind all rest index now told
gathers-one kind all rest change index before now faults told fault stores is sound back would why takes tells h =
    subst (λ k. Gathers k all rest index now told) is
    (gathers-same all rest change index before now faults told fault stores sound back would why takes tells (subst (λ k. Gathers k all (change ∷ rest) index before faults) (sym is) h))

-- ---- what holds of what was gathered

abbrev among : List ℕ → List (List ℕ) → Bool
among q names = list_any (bytes_eq q) names

-- the key is that of the index, where it has one; the documents stand under it, and with what is left no more are named
-- than by all
pub record Holds (own : Option (List ℕ)) (all left : List KindData) (keyed : KeyedRows) : Type 0 where
  pub given : IsPrimaryKey keyed.key
  pub keeps : Keeps own keyed.key
  pub under : AreKeyed keyed.key keyed.rows
  pub back : AreReadBack keyed.rows
  pub names : (key : List ℕ) → own ≡ Some key → (q : List ℕ) → among q (externals keyed.rows ++ flat_map (names_in own) left) ≡ true → among q (flat_map (names_in own) all) ≡ true

keeps-own : (own : Option (List ℕ)) → Keeps own own
keeps-own None = tt
keeps-own (Some key) = refl

nothing-keyed : (key : Option (List ℕ)) → AreKeyed key []
nothing-keyed None = record { none = refl; ids = tt }
nothing-keyed (Some key) = record { none = tt; ids = tt }

pub holds-start : (own : Option (List ℕ)) (all : List KindData) → IsPrimaryKey own → Holds own all all (record { key = own; rows = [] })
holds-start own all given = record { given = given; keeps = keeps-own own; under = nothing-keyed own; back = tt; names = λ key is q h. h }

-- keys stay
key-stays : (own given key : Option (List ℕ)) (ds : List Data) → key_for own given ds ≡ Ok key → Keeps own key
key-stays None given key ds h = tt
key-stays (Some own) given key ds h = sym (key_kept own given ds key h)

keeps-on : (own key next : Option (List ℕ)) → Keeps own key → Keeps key next → Keeps own next
keeps-on None key next h k = tt
keeps-on (Some own) key next h k = subst (λ (o : Option (List ℕ)). Keeps o next) h k

-- documents behind others
none-behind : (before key : Option (List ℕ)) (a b : List StoreRow) → Keeps before key → NoneWithout before a → NoneWithout key b → NoneWithout key (a ++ b)
none-behind before (Some key) a b keeps h k = tt
none-behind None None a b keeps h k = ap (λ (l : List StoreRow). l ++ b) h ∙ k
none-behind (Some own) None a b keeps h k = absurd (cc)

under-next : (before key : Option (List ℕ)) (a : List StoreRow) → Keeps before key → AreKeyed before a → AllByRecursion (λ (r : StoreRow). IsUnder (unwrap_or key []) r.external r.document) a
under-next None key a keeps h = subst (λ (l : List StoreRow). AllByRecursion (λ (r : StoreRow). IsUnder (unwrap_or key []) r.external r.document) l) (sym h.none) tt
under-next (Some own) key a keeps h = subst (λ (o : Option (List ℕ)). AllByRecursion (λ (r : StoreRow). IsUnder (unwrap_or o []) r.external r.document) a) (sym keeps) h.ids

keyed-behind : (before key : Option (List ℕ)) (a b : List StoreRow) → Keeps before key → AreKeyed before a → AreKeyed key b → AreKeyed key (a ++ b)
keyed-behind before key a b keeps h k = record {
  none = none-behind before key a b keeps h.none k.none;
  ids = all-append (λ (r : StoreRow). IsUnder (unwrap_or key []) r.external r.document) a b (under-next before key a keeps h) k.ids;
}

-- the documents of a change that has its ids are those that it names
externals-join : (a b : List StoreRow) → externals (a ++ b) ≡ externals a ++ externals b
externals-join [] b = refl
externals-join (r ∷ a) b = ap (λ (l : List (List ℕ)). r.external ∷ l) (externals-join a b)

ids-under : (key : List ℕ) (place : ℕ) (ds : List Data) (rows : List StoreRow) → rows_under key place ds ≡ Ok rows → externals rows ≡ ids_among key ds
ids-under key place [] rows h = let same : [] ≡ rows = cc in ap externals (sym same)
ids-under key place (d ∷ ds) rows h = by (external_id_of key d) h (ids-under key (place + 1) ds)
  where
    by : (r : Result (List ℕ) IdRefusal) → (refused_as (id_refusal place) r >>= (λ external. rows_under key (place + 1) ds >>= (λ rows. Ok (record { external = external; document = d } ∷ rows)))) ≡ Ok rows
        → ((more : List StoreRow) → rows_under key (place + 1) ds ≡ Ok more → externals more ≡ ids_among key ds) → externals rows ≡ cons_option (result_ok r) (ids_among key ds)
    by (Err why) h again = absurd (cc)
    by (Ok external) h again =
        let more = bind_ok (rows_under key (place + 1) ds) (λ rows. Ok (record { external = external; document = d } ∷ rows)) rows h in
        let same : record { external = external; document = d } ∷ more.0 ≡ rows = let e = more.2 in cc in
        ap externals (sym same) ∙ ap (λ (l : List (List ℕ)). external ∷ l) (again more.0 more.1)

change-ids : (own : List ℕ) (change : KindData) (rows : List StoreRow) → Stores change → rows_for (Some own) (documents_in change) ≡ Ok rows → externals rows ≡ names_in (Some own) change
change-ids own (replace given ds) rows h is = ids-under own 1 ds rows is
change-ids own (update given ds) rows h is = ids-under own 1 ds rows is
change-ids own (create key) rows h is = absurd h
change-ids own drop_index rows h is = absurd h
change-ids own (remove ids) rows h is = absurd h
change-ids own clear rows h is = absurd h
change-ids own (patch members) rows h is = absurd h
change-ids own reset rows h is = absurd h

-- what stands among some names stands among more
or-or : (a b c : Bool) → (a || c) ≡ true → (a || (b || c)) ≡ true
or-or true b c h = refl
or-or false true c h = refl
or-or false false c h = h

among-more : (q : List ℕ) (a b c : List (List ℕ)) → among q (a ++ c) ≡ true → among q (a ++ (b ++ c)) ≡ true
among-more q a b c h =
    list_any-append (bytes_eq q) a (b ++ c) ∙ ap (λ (t : Bool). among q a || t) (list_any-append (bytes_eq q) b c)
    ∙ or-or (among q a) (among q b) (among q c) (sym (list_any-append (bytes_eq q) a c) ∙ h)

has-key : (change : KindData) → Stores change → HasKey change → IfSome (key_in change) (λ text. 0 < length text)
has-key (replace given ds) h k = k
has-key (update given ds) h k = k
has-key (create key) h k = absurd h
has-key drop_index h k = absurd h
has-key (remove ids) h k = absurd h
has-key clear h k = absurd h
has-key (patch members) h k = absurd h
has-key reset h k = absurd h

module _ (own : Option (List ℕ)) (all rest : List KindData) (change : KindData) (before : KeyedRows) (s : Store)
    (stores : Stores change) (has : HasKey change) (would : WouldReadBack before (key_in change) (documents_in change)) (h : Holds own all (change ∷ rest) before) where
  names-left : (key : List ℕ) → own ≡ Some key → (q : List ℕ) → among q (externals before.rows ++ flat_map (names_in own) rest) ≡ true → among q (flat_map (names_in own) all) ≡ true
  names-left key is q there = h.names key is q (among-more q (externals before.rows) (names_in own change) (flat_map (names_in own) rest) there)

  names-taken : (key : Option (List ℕ)) (rows : List StoreRow) → Keeps before.key key → rows_for key (documents_in change) ≡ Ok rows
      → (k : List ℕ) → own ≡ Some k → (q : List ℕ) → among q (externals (before.rows ++ rows) ++ flat_map (names_in own) rest) ≡ true → among q (flat_map (names_in own) all) ≡ true
  names-taken key rows keeps is k own_is q there = h.names k own_is q (sym (ap (among q) same) ∙ there)
    where
      own_key : key ≡ Some k
      own_key = subst (λ (o : Option (List ℕ)). Keeps o key) own_is (keeps-on own before.key key h.keeps keeps)

      ids : externals rows ≡ names_in own change
      ids = change-ids k change rows stores (ap (λ (o : Option (List ℕ)). rows_for o (documents_in change)) (sym own_key) ∙ is) ∙ ap (λ (o : Option (List ℕ)). names_in o change) (sym own_is)

      same : externals (before.rows ++ rows) ++ flat_map (names_in own) rest ≡ externals before.rows ++ (names_in own change ++ flat_map (names_in own) rest)
      same =
          ap (λ (l : List (List ℕ)). l ++ flat_map (names_in own) rest) (externals-join before.rows rows)
          ∙ append_assoc (externals before.rows) (externals rows) (flat_map (names_in own) rest)
          ∙ ap (λ (l : List (List ℕ)). externals before.rows ++ (l ++ flat_map (names_in own) rest)) ids

  holds-left : Holds own all rest before
  holds-left = record { given = h.given; keeps = h.keeps; under = h.under; back = h.back; names = names-left }

  holds-planned : (key : Option (List ℕ)) (rows : List StoreRow) → key_for before.key (key_in change) (documents_in change) ≡ Ok key → rows_for key (documents_in change) ≡ Ok rows
      → Holds own all rest (record { key = key; rows = before.rows ++ rows })
  holds-planned key rows keyed is =
      let keeps = key-stays before.key (key_in change) key (documents_in change) keyed in
      record {
        given = key-given before.key (key_in change) key (documents_in change) h.given (has-key change stores has) keyed;
        keeps = keeps-on own before.key key h.keeps keeps;
        under = keyed-behind before.key key before.rows rows keeps h.under (rows-keyed key (documents_in change) rows is);
        back = all-append _ before.rows rows h.back (would (record { key = key; rows = rows })
            (ap (λ (r : Result (Option (List ℕ)) CoreRefusal). r >>= (λ key. rows_for key (documents_in change) >>= (λ rows. Ok (record { key = key; rows = rows })))) keyed
            ∙ ap (λ (r : Result (List StoreRow) CoreRefusal). r >>= (λ rows. Ok (record { key = key; rows = rows }))) is));
        names = names-taken key rows keeps is;
      }

  holds-admitted : (key : Option (List ℕ)) (rows : List StoreRow) (o : Option StoreRefusal) → Holds own all rest (record { key = key; rows = before.rows ++ rows })
      → Holds own all rest (result_unwrap_or (unless_refused (record { key = key; rows = before.rows ++ rows }) o) before)
  holds-admitted key rows None k = k
  holds-admitted key rows (Some why) k = holds-left

  holds-rows : (key : Option (List ℕ)) (r : Result (List StoreRow) CoreRefusal) → key_for before.key (key_in change) (documents_in change) ≡ Ok key → rows_for key (documents_in change) ≡ r
      → Holds own all rest (result_unwrap_or ((r >>= (λ rows. Ok (record { key = key; rows = rows }))) >>= (λ planned. with_planned before planned s)) before)
  holds-rows key (Err why) keyed is = holds-left
  holds-rows key (Ok rows) keyed is = holds-admitted key rows (spent (all_stored (before.rows ++ rows) s)) (holds-planned key rows keyed is)

  holds-key : (r : Result (Option (List ℕ)) CoreRefusal) → key_for before.key (key_in change) (documents_in change) ≡ r
      → Holds own all rest (result_unwrap_or ((r >>= (λ key. rows_for key (documents_in change) >>= (λ rows. Ok (record { key = key; rows = rows })))) >>= (λ planned. with_planned before planned s)) before)
  holds-key (Err why) keyed = holds-left
  holds-key (Ok key) keyed = holds-rows key (rows_for key (documents_in change)) keyed refl

  pub holds-one : (now : KeyedRows) → now ≡ result_unwrap_or (with_change before (key_in change) (documents_in change) s) before → Holds own all rest now
  holds-one now is = subst (Holds own all rest) (sym is) (holds-key (key_for before.key (key_in change) (documents_in change)) refl)

-- ---- the stored documents that they name

pub named-within : (a b : List (List ℕ)) (rows : List Row) → ((q : List ℕ) → among q a ≡ true → among q b ≡ true) → length (named a rows) ≤ length (named b rows)
named-within a b [] h = omega arith
named-within a b (r ∷ rows) h = by (is_named a r) (is_named b r) (h r.external) (named-within a b rows h)
  where
    by : (x y : Bool) → (x ≡ true → y ≡ true) → length (named a rows) ≤ length (named b rows)
        → length (cond x (r ∷ named a rows) (named a rows)) ≤ length (cond y (r ∷ named b rows) (named b rows))
    by true true imp le = omega (arith, le)
    by true false imp le = absurd (let bad = imp refl in cc)
    by false true imp le = omega (arith, le)
    by false false imp le = le

pub named-most : (a : List (List ℕ)) (rows : List Row) → length (named a rows) ≤ length rows
named-most a [] = omega arith
named-most a (r ∷ rows) = by (is_named a r) (named-most a rows)
  where
    by : (x : Bool) → length (named a rows) ≤ length rows → length (cond x (r ∷ named a rows) (named a rows)) ≤ length (r ∷ rows)
    by true le = omega (arith, le)
    by false le = omega (arith, le)

-- what names no more than a batch needs no more
pub needed-within : (names : List (List ℕ)) (changes : List KindData) (index : Index) → length (named names index.store.rows) ≤ length (named (flat_map (names_in index.key) changes) index.store.rows)
    → named_needed names index ≤ batch_needed changes index
needed-within names changes index le =
    cond_both (list_any reads_all changes) (length index.store.rows) (named_needed (flat_map (names_in index.key) changes) index) (λ n. named_needed names index ≤ n)
    (λ _. named-most names index.store.rows) (λ _. le)

pub gathered-needed : (all : List KindData) (index : Index) (keyed : KeyedRows) → IsKeyed index.key index.store.rows → Holds index.key all [] keyed → named_needed (externals keyed.rows) index ≤ batch_needed all index
gathered-needed all index keyed is h = needed-within (externals keyed.rows) all index (by index.key refl)
  where
    by : (own : Option (List ℕ)) → index.key ≡ own → length (named (externals keyed.rows) index.store.rows) ≤ length (named (flat_map (names_in index.key) all) index.store.rows)
    by None own_is =
        let none : index.store.rows ≡ [] = subst (λ (o : Option (List ℕ)). NoneWithout o index.store.rows) own_is is.none in
        subst (λ (rows : List Row). length (named (externals keyed.rows) rows) ≤ length (named (flat_map (names_in index.key) all) rows)) (sym none) (omega arith)
    by (Some key) own_is = named-within (externals keyed.rows) (flat_map (names_in index.key) all) index.store.rows
        (λ q there. h.names key own_is q (ap (among q) (append-nil (externals keyed.rows)) ∙ there))

-- ---- why documents are not admitted

pub admitted-keyed : (keyed : KeyedRows) (o : Option StoreRefusal) → o ≡ None → unless_refused keyed o ≡ Ok keyed
admitted-keyed keyed o is = ap (unless_refused keyed) is

refused-as : (keyed : KeyedRows) (why : StoreRefusal) (o : Option StoreRefusal) → o ≡ Some why → unless_refused keyed o ≡ Err (store_refusal why)
refused-as keyed why o is = ap (unless_refused keyed) is

pub refused-keyed : (keyed : KeyedRows) (fault : Fault StoreRefusal) (why : CoreRefusal) (o : Option StoreRefusal) → store_fault fault ≡ Turned why → Checks (Err fault) o → unless_refused keyed o ≡ Err why
refused-keyed keyed (Turned refusal) why o is h = refused-as keyed refusal o h ∙ (let same : store_refusal refusal ≡ why = cc in ap Err same)
refused-keyed keyed Memory why o is h = absurd (cc)

-- ---- the loop over all changes

pub record Looks (own : Option (List ℕ)) (s : Store) (all left : List KindData) (keyed : KeyedRows) (faults : List (Option CoreRefusal)) : Type 0 where
  pub holds : Holds own all left keyed
  pub stores : AllByRecursion Stores left
  pub keys : AllByRecursion HasKey left
  pub gathers : (kind : BatchKind) (index : Index) → index.key ≡ own → index.store ≡ s → AreOf kind all → AreOf kind left × Gathers kind all left index keyed faults

pub looks-start : (own key : Option (List ℕ)) (s : Store) (all : List KindData) → key ≡ own → IsPrimaryKey own → AllByRecursion Stores all → AllByRecursion HasKey all
    → Looks own s all all (record { key = key; rows = [] }) []
looks-start own key s all copied given stores keys = subst (λ (o : Option (List ℕ)). Looks own s all all (record { key = o; rows = [] }) []) (sym copied) (record {
  holds = holds-start own all given;
  stores = stores;
  keys = keys;
  gathers = λ kind index same store of. (of, subst (λ (o : Option (List ℕ)). Gathers kind all all index (record { key = o; rows = [] }) []) same (gathers-start kind all index));
})

looks-next : (own : Option (List ℕ)) (s : Store) (all rest : List KindData) (change : KindData) (before now : KeyedRows) (faults told : List (Option CoreRefusal)) (fault : Option CoreRefusal)
    → IsSound s → WouldReadBack before (key_in change) (documents_in change)
    → fault ≡ result_err (with_change before (key_in change) (documents_in change) s)
    → now ≡ result_unwrap_or (with_change before (key_in change) (documents_in change) s) before
    → told ≡ faults ++ fault ∷ []
    → Looks own s all (change ∷ rest) before faults → Looks own s all rest now told
looks-next own s all rest change before now faults told fault sound would why takes tells h = record {
  holds = holds-one own all rest change before s h.stores.0 h.keys.0 would h.holds now takes;
  stores = h.stores.1;
  keys = h.keys.1;
  gathers = λ kind index same store of.
      let g = h.gathers kind index same store of in (
        g.0.1,
        gathers-one kind all rest change index before now faults told fault h.stores.0 g.0.0 (subst IsSound (sym store) sound) h.holds.back would
            (subst (λ (t : Store). fault ≡ result_err (with_change before (key_in change) (documents_in change) t)) (sym store) why)
            (subst (λ (t : Store). now ≡ result_unwrap_or (with_change before (key_in change) (documents_in change) t) before) (sym store) takes)
            tells g.1,
      );
}

pub looks-one : (own : Option (List ℕ)) (s : Store) (all left rest : List KindData) (change : KindData) (before now : KeyedRows) (faults told : List (Option CoreRefusal)) (fault : Option CoreRefusal)
    → left ≡ change ∷ rest → IsSound s → WouldReadBack before (key_in change) (documents_in change)
    → fault ≡ result_err (with_change before (key_in change) (documents_in change) s)
    → now ≡ result_unwrap_or (with_change before (key_in change) (documents_in change) s) before
    → told ≡ faults ++ fault ∷ []
    → Looks own s all left before faults → Looks own s all rest now told
looks-one own s all left rest change before now faults told fault is sound would why takes tells h =
    looks-next own s all rest change before now faults told fault sound would why takes tells (subst (λ (l : List KindData). Looks own s all l before faults) is h)

pub next-stores : (own : Option (List ℕ)) (s : Store) (all left rest : List KindData) (change : KindData) (before : KeyedRows) (faults : List (Option CoreRefusal)) → left ≡ change ∷ rest → Looks own s all left before faults → Stores change
next-stores own s all left rest change before faults is h = (subst (AllByRecursion Stores) is h.stores).0

pub looks-end : (own : Option (List ℕ)) (s : Store) (all left : List KindData) (g : Gathered) → left ≡ [] → IsKeyed own s.rows → IsAdmitted s g.rows.items g.admission
    → Looks own s all left (record { key = g.key; rows = g.rows.items }) g.faults.items
    → (kind : BatchKind) (index : Index) → index.key ≡ own → index.store ≡ s → AreOf kind all → IsGathered kind all index g
looks-end own s all left g is keyed admitted looked kind index same store of =
    let h = subst (λ (l : List KindData). Looks own s all l (record { key = g.key; rows = g.rows.items }) g.faults.items) is looked in
    let gathered = (h.gathers kind index same store of).1 in
    record {
      faults = sym (append-nil g.faults.items) ∙ gathered.told;
      after = gathered.after;
      admitted = subst (λ (t : Store). IsAdmitted t g.rows.items g.admission) (sym store) admitted;
      given = h.holds.given;
      keeps = subst (λ (o : Option (List ℕ)). Keeps o g.key) (sym same) h.holds.keeps;
      keyed = h.holds.under;
      back = h.holds.back;
      named = gathered-needed all index (record { key = g.key; rows = g.rows.items })
          (subst (λ (t : Store). IsKeyed index.key t.rows) (sym store) (subst (λ (o : Option (List ℕ)). IsKeyed o s.rows) (sym same) keyed))
          (subst (λ (o : Option (List ℕ)). Holds o all [] (record { key = g.key; rows = g.rows.items })) (sym same) h.holds);
    }

-- ---- the index after them

none-without : (key : Option (List ℕ)) → NoneWithout {A = Row} key []
none-without None = refl
none-without (Some key) = tt

keyed-next : (own key : Option (List ℕ)) (rows : List Row) → IsKeyed own rows → Keeps own key → IsPrimaryKey key → IsKeyed key rows
keyed-next (Some own) key rows h keeps given = subst (λ (o : Option (List ℕ)). IsKeyed o rows) (sym keeps) h
keyed-next None key rows h keeps given = subst (IsKeyed key) (sym h.none) (record { given = given; none = none-without key; ids = tt })

keyed-stored_by : (kind : BatchKind) (key : Option (List ℕ)) (rows : List StoreRow) (s : Store) → IsKeyed key s.rows → AreKeyed key rows → AreReadBack rows → IsKeyed key (stored_by kind rows s).rows
keyed-stored_by batch.Update key rows s h come back = keyed-after key (work.update rows) s (all_updated rows s) h come back refl
keyed-stored_by batch.Replace key rows s h come back = keyed-after key (work.replace rows) s (all_stored rows s) h come tt refl
keyed-stored_by batch.Remove key rows s h come back = keyed-after key (work.replace rows) s (all_stored rows s) h come tt refl
keyed-stored_by batch.Single key rows s h come back = keyed-after key (work.replace rows) s (all_stored rows s) h come tt refl

-- its documents stand under its key
pub keyed-gathered : (kind : BatchKind) (all : List KindData) (index : Index) (g : Gathered) (now : Store) → IsKeyed index.key index.store.rows → IsGathered kind all index g → now ≡ stored_by kind g.rows.items index.store
    → IsKeyed g.key now.rows
keyed-gathered kind all index g now h gathered is =
    subst (λ (t : Store). IsKeyed g.key t.rows) (sym is)
    (keyed-stored_by kind g.key g.rows.items index.store (keyed-next index.key g.key index.store.rows h gathered.keeps gathered.given) gathered.keyed gathered.back)
