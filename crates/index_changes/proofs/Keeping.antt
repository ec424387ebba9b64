-- Documents stand under the key, whatever an index takes.
use Rattle.std.proofs.Common.{◌≡◌, ℕ, ◌+◌, ◌-◌, ◌<◌, Bool, true, false, cond, List, [], ◌∷◌, length, drop, filter, Option, None, Some, Result, Ok, Err, refl, sym, ap, subst, ◌∙◌, arith, bytes_eq, nat_le}
use Rattle.std.specs.Prelude.{not, ◌&&◌, codes, unwrap_or, IfSome, OnOk, OnErr}
use Rattle.std.specs.List.{AllByRecursion}
use Rattle.std.specs.Str.{str_eq_ignore_ascii_case}
use Rattle.std.proofs.lemmas.Bool.{cond_both, leb-true}
use Rattle.serde_json.specs.Data.{Data, Members, no_members, member}
use Rattle.search_base.specs.Trying.{◌>>=◌, refused_as}
use Rattle.doc_values.specs.Ids.{external_id_of, ends_in_id, candidates, only, key_of}
use Rattle.doc_values.specs.Walk.{members_in}
use Rattle.doc_store.specs.declared.rows.StoreRow.{StoreRow}
use Rattle.doc_store.specs.Store.{Row, Store, row, put, stored, all_stored}
use Rattle.index_image.specs.State.{IsPrimaryKey}
use Rattle.index_changes.specs.declared.refusal.CoreRefusal.{CoreRefusal}
use Rattle.index_changes.specs.declared.refusal.CoreRefusal.TheVariants.{KeyDiffers}
use Rattle.doc_index.specs.Named.{is_named}
use Rattle.index_changes.specs.Index.{document_under}
use Rattle.index_changes.specs.Keyed.{IsUnder, AreUnder, NoneWithout, IsKeyed, AreKeyed, AreReadBack, IsKeyedWork}
use Rattle.index_changes.specs.PlanView.{Work, replace, update, remove, clear, patch, reset}
use Rattle.index_changes.specs.Plans.{key_for, rows_under, rows_for, updating, all_updated, after_work}
use Rattle.index_changes.specs.Refusals.{key_refusal, id_refusal}
use Rattle.index_changes.proofs.LawLemmas.{bind_ok}
use Rattle.index_changes.proofs.Rising.{id-over}

abbrev ComeUnder : List ℕ → List StoreRow → Type 0
ComeUnder key rows = AllByRecursion (λ r. IsUnder key r.external r.document) rows

-- ---- documents that are stored

under-put : (key : List ℕ) (new : StoreRow) (next : ℕ) (rows : List Row) → IsUnder key new.external new.document → AreUnder key rows → AreUnder key (put new next rows)
under-put key new next [] n h = (n, tt)
under-put key new next (r ∷ rows) n h =
    cond_both (bytes_eq new.external r.external) (row r.id new ∷ rows) (r ∷ put new next rows) (AreUnder key) (λ _. (n, h.1)) (λ _. (h.0, under-put key new next rows n h.1))

under-stored : (key : List ℕ) (rs : List StoreRow) (s : Store) → ComeUnder key rs → AreUnder key s.rows → AreUnder key (all_stored rs s).rows
under-stored key [] s n h = h
under-stored key (r ∷ rs) s n h = under-stored key rs (stored r s) n.1 (under-put key r s.next_id s.rows n.0 h)

under-updated : (key : List ℕ) (rs : List StoreRow) (s : Store) → ComeUnder key rs → AreReadBack rs → AreUnder key s.rows → AreUnder key (all_updated rs s).rows
under-updated key [] s n back h = h
under-updated key (r ∷ rs) s n back h =
    let one = id-over key r.external (document_under r.external s.rows) r.document back.0 n.0 in
    under-updated key rs (stored (updating r s) s) n.1 back.1 (under-put key (updating r s) s.next_id s.rows one h)

under-left : (key : List ℕ) (p : Row → Bool) (rows : List Row) → AreUnder key rows → AreUnder key (filter p rows)
under-left key p [] h = tt
under-left key p (r ∷ rows) h = cond_both (p r) (r ∷ filter p rows) (filter p rows) (AreUnder key) (λ _. (h.0, under-left key p rows h.1)) (λ _. under-left key p rows h.1)

-- the documents of an update are read back from their texts
abbrev pub UpdatesReadBack : Work → Type 0
UpdatesReadBack (replace rows) = Unit {0}
UpdatesReadBack (update rows) = AreReadBack rows
UpdatesReadBack (remove ids) = Unit {0}
UpdatesReadBack clear = Unit {0}
UpdatesReadBack (patch members) = Unit {0}
UpdatesReadBack reset = Unit {0}

under-after : (key : Option (List ℕ)) (work : Work) (s : Store) → IsKeyedWork key work → UpdatesReadBack work → AreUnder (unwrap_or key []) s.rows → AreUnder (unwrap_or key []) (after_work work s).rows
under-after key (replace rows) s w back h = under-stored (unwrap_or key []) rows s w.ids h
under-after key (update rows) s w back h = under-updated (unwrap_or key []) rows s w.ids back h
under-after key (remove ids) s w back h = under-left (unwrap_or key []) (λ r. not (is_named ids r)) s.rows h
under-after key clear s w back h = tt
under-after key (patch members) s w back h = h
under-after key reset s w back h = h

none-after : (key : Option (List ℕ)) (work : Work) (s : Store) → IsKeyedWork key work → NoneWithout key s.rows → NoneWithout key (after_work work s).rows
none-after (Some key) work s w h = tt
none-after None (replace rows) s w h = ap (λ v. (all_stored v s).rows) w.none ∙ h
none-after None (update rows) s w h = ap (λ v. (all_updated v s).rows) w.none ∙ h
none-after None (remove ids) s w h = ap (filter (λ (r : Row). not (is_named ids r))) h
none-after None clear s w h = refl
none-after None (patch members) s w h = h
none-after None reset s w h = h

pub keyed-after : (key : Option (List ℕ)) (work : Work) (s now : Store) → IsKeyed key s.rows → IsKeyedWork key work → UpdatesReadBack work → now ≡ after_work work s → IsKeyed key now.rows
keyed-after key work s now h w back is =
    subst (λ (t : Store). IsKeyed key t.rows) (sym is) (record { given = h.given; none = none-after key work s w h.none; ids = under-after key work s w back h.ids })

-- the same where it may be refused, and then nothing changes
pub keyed-tried : {A E : Type 0} (r : Result A E) (key : Option (List ℕ)) (work : Work) (s now : Store) → OnOk r (now ≡ after_work work s) → OnErr r (now ≡ s) → IsKeyed key s.rows → IsKeyedWork key work → UpdatesReadBack work
    → IsKeyed key now.rows
keyed-tried (Ok x) key work s now done stays h w back = keyed-after key work s now h w back done
keyed-tried (Err e) key work s now done stays h w back = subst (λ (t : Store). IsKeyed key t.rows) (sym stays) h

-- the same of an update, whose documents are read back on the way
pub keyed-updated : {A E : Type 0} (r : Result A E) (key : Option (List ℕ)) (rows : List StoreRow) (s now : Store) → OnOk r (now ≡ all_updated rows s) → OnErr r (now ≡ s) → IsKeyed key s.rows → AreKeyed key rows → OnOk r (AreReadBack rows)
    → IsKeyed key now.rows
keyed-updated (Ok x) key rows s now done stays h w back = keyed-after key (update rows) s now h w back done
keyed-updated (Err e) key rows s now done stays h w back = subst (λ (t : Store). IsKeyed key t.rows) (sym stays) h

-- ---- plans

long-name : (ms : Members) (name : List ℕ) → only (candidates ms) ≡ Ok name → AllByRecursion (λ n. 0 < length n) (candidates ms) → 0 < length name
long-name ms name is all = by (candidates ms) is all
  where
    by : (names : List (List ℕ)) → only names ≡ Ok name → AllByRecursion (λ n. 0 < length n) names → 0 < length name
    by [] is all = absurd (cc)
    by (first ∷ []) is all = let same : first ≡ name = cc in subst (λ n. 0 < length n) same all.0
    by (first ∷ second ∷ more) is all = absurd (cc)

both-first : (a b : Bool) → a && b ≡ true → a ≡ true
both-first true b h = refl
both-first false b h = h

candidates-long : (ms : Members) → AllByRecursion (λ n. 0 < length n) (candidates ms)
candidates-long no_members = tt
candidates-long (member name d ms) = cond_both (ends_in_id name) (name ∷ candidates ms) (candidates ms) (AllByRecursion (λ n. 0 < length n))
    (λ ends. ((let two = leb-true 2 (length name) (both-first (nat_le 2 (length name)) (str_eq_ignore_ascii_case (drop (length name - 2) name) (codes "id")) ends) in omega arith), candidates-long ms)) (λ _. candidates-long ms)

refused-ok : {A E : Type 0} (f : E → CoreRefusal) (r : Result A E) (x : A) → refused_as f r ≡ Ok x → r ≡ Ok x
refused-ok f (Ok y) x h = let same : y ≡ x = cc in ap Ok same
refused-ok f (Err e) x h = absurd (cc)

inferred-long : (d : Data) (key : Option (List ℕ)) → refused_as key_refusal (key_of d) >>= (λ name. Ok (Some name)) ≡ Ok key → IsPrimaryKey key
inferred-long d key h =
    let found = bind_ok (refused_as key_refusal (key_of d)) (λ name. Ok (Some name)) key h in
    let same : Some found.0 ≡ key = let e = found.2 in cc in
    subst IsPrimaryKey same (long-name (members_in d) found.0 (refused-ok key_refusal (key_of d) found.0 found.1) (candidates-long (members_in d)))

-- the key after a change is not empty
pub key-given : (own given key : Option (List ℕ)) (ds : List Data) → IsPrimaryKey own → IfSome given (λ text. 0 < length text) → key_for own given ds ≡ Ok key → IsPrimaryKey key
key-given (Some own) (Some given) key ds p q h = by (bytes_eq own given) h
  where
    by : (b : Bool) → cond b (Ok (Some own)) (Err KeyDiffers) ≡ Ok key → IsPrimaryKey key
    by true h = let same : Some own ≡ key = cc in subst IsPrimaryKey same p
    by false h = absurd (cc)
key-given (Some own) None key ds p q h = let same : Some own ≡ key = cc in subst IsPrimaryKey same p
key-given None (Some given) key ds p q h = let same : Some given ≡ key = cc in subst IsPrimaryKey same q
key-given None None key [] p q h = let same : None ≡ key = cc in subst IsPrimaryKey same tt
key-given None None key (d ∷ ds) p q h = inferred-long d key h

under-planned : (key : List ℕ) (place : ℕ) (ds : List Data) (rows : List StoreRow) → rows_under key place ds ≡ Ok rows → ComeUnder key rows
under-planned key place [] rows h = let same : [] ≡ rows = cc in subst (ComeUnder key) same tt
under-planned key place (d ∷ ds) rows h =
    let one = bind_ok (refused_as (id_refusal place) (external_id_of key d)) (λ external. rows_under key (place + 1) ds >>= (λ rows. Ok (record { external = external; document = d } ∷ rows))) rows h in
    let more = bind_ok (rows_under key (place + 1) ds) (λ rows. Ok (record { external = one.0; document = d } ∷ rows)) rows one.2 in
    let same : record { external = one.0; document = d } ∷ more.0 ≡ rows = let e = more.2 in cc in
    subst (ComeUnder key) same (refused-ok (id_refusal place) (external_id_of key d) one.0 one.1, under-planned key (place + 1) ds more.0 more.1)

-- the documents of a plan stand under its key
pub rows-keyed : (key : Option (List ℕ)) (ds : List Data) (rows : List StoreRow) → rows_for key ds ≡ Ok rows → AreKeyed key rows
rows-keyed None ds rows h = let same : [] ≡ rows = cc in subst (AreKeyed None) same (record { none = refl; ids = tt })
rows-keyed (Some key) ds rows h = record { none = tt; ids = under-planned key 1 ds rows h }
