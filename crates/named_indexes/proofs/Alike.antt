-- The tasks of a batch: of one index, and one change, or several of one kind.
use Rattle.std.proofs.Common.{◌≡◌, ◌<◌, ℕ, List, [], ◌∷◌, length, true, false, Option, None, Some, refl, sym, ap, subst, ◌∙◌, arith}
use Rattle.std.specs.Prelude.{IfSome}
use Rattle.std.specs.List.{AllByRecursion}
use Rattle.std.proofs.lemmas.Bool.{and_parts, ltb-true}
use Rattle.document_changes.specs.Changes.{KindData, create, drop_index, replace, update, remove, clear, patch, reset, ChangeData}
use Rattle.doc_values.specs.Ids.{is_uid}
use Rattle.change_payloads.specs.Spelling.{kind_byte}
use Rattle.index_changes.specs.Batches.{AreOf, IsOneBatch, MayFollow, batch_kind_of}
use Rattle.index_changes.specs.declared.batch.BatchKind.{BatchKind}
use Rattle.index_changes.specs.declared.batch.BatchKind.TheVariants as batch
use Rattle.index_changes.specs.Keyed.{HasKey}
use Rattle.task_queue.specs.declared.task.Task.{Task}
use Rattle.task_queue.specs.Laws.{IsLike}
use Rattle.task_queue.specs.Queue.{is_joined}
use Rattle.queued_changes.specs.Batches.{IsBatch, after_each, rows_of}
use Rattle.queued_changes.specs.Machine.{left_in, row_in as row_done}
use Rattle.named_indexes.specs.Indexes.{Indexes}
use Rattle.named_indexes.specs.Changes.{changed, indexes_after}
use Rattle.named_indexes.specs.Payloads.{Accepts, is_key, is_good_kind}
use Rattle.named_indexes.specs.Inside.{after_kinds, rows_of_kinds, kinds_in, Names, Fills, Empties}

abbrev pub AreAccepted : List (Task ChangeData) → Type 0
AreAccepted ts = AllByRecursion (λ t. Accepts t.uid t.kind t.change) ts

abbrev pub AreNamed : List ℕ → List (Task ChangeData) → Type 0
AreNamed uid ts = AllByRecursion (λ t. t.uid ≡ uid) ts

pub of_one : (first : Task ChangeData) (rest : List (Task ChangeData)) → IsBatch (first ∷ rest) → AreNamed first.uid (first ∷ rest)
of_one first rest is = (refl, all rest is.0)
  where
    all : (ts : List (Task ChangeData)) → AllByRecursion (IsLike first) ts → AreNamed first.uid ts
    all [] like = tt
    all (t ∷ ts) like = (like.0.0, all ts like.1)

-- ---- by their kinds

pub after_batch : (uid : List ℕ) (ts : List (Task ChangeData)) (es : Indexes) → AreNamed uid ts → after_each changed ts es ≡ after_kinds uid (kinds_in ts) es
after_batch uid [] es named = refl
after_batch uid (t ∷ ts) es named =
    ap (λ (u : List ℕ). after_each changed ts (left_in (indexes_after es u t.change.kind) es)) named.0 ∙ after_batch uid ts _ named.1

pub rows_batch : (uid : List ℕ) (ts : List (Task ChangeData)) (es : Indexes) → AreNamed uid ts → rows_of changed ts es ≡ rows_of_kinds uid (kinds_in ts) es
rows_batch uid [] es named = refl
rows_batch uid (t ∷ ts) es named =
    ap (λ (u : List ℕ). row_done (indexes_after es u t.change.kind) ∷ rows_of changed ts (left_in (indexes_after es u t.change.kind) es)) named.0
    ∙ ap (λ (rows : List ℕ). row_done (indexes_after es uid t.change.kind) ∷ rows) (rows_batch uid ts _ named.1)

-- ---- what they are

good_key : (key : Option (List ℕ)) → is_key key ≡ true → IfSome key (λ text. 0 < length text)
good_key None is = tt
good_key (Some text) is = ltb-true 0 (length text) is

has_key : (k : KindData) → is_good_kind k ≡ true → HasKey k
has_key (create key) good = good_key key good
has_key drop_index good = tt
has_key (replace key ds) good = good_key key good
has_key (update key ds) good = good_key key good
has_key (remove ids) good = tt
has_key clear good = tt
has_key (patch members) good = tt
has_key reset good = tt

pub have_keys : (ts : List (Task ChangeData)) → AreAccepted ts → AllByRecursion HasKey (kinds_in ts)
have_keys [] all = tt
have_keys (t ∷ ts) all = (has_key t.change.kind (and_parts (is_uid t.change.uid) (is_good_kind t.change.kind) all.0.good).1, have_keys ts all.1)

pub uid_valid : (first : Task ChangeData) (rest : List (Task ChangeData)) → AreAccepted (first ∷ rest) → is_uid first.uid ≡ true
uid_valid first rest all = subst (λ (u : List ℕ). is_uid u ≡ true) all.0.uid_is (and_parts (is_uid first.change.uid) (is_good_kind first.change.kind) all.0.good).0

-- changes of the byte 3, 4 or 5 are of one kind
of_replace : (k : KindData) → kind_byte k ≡ 3 → batch_kind_of k ≡ batch.Replace
of_replace (create key) is = absurd (omega (arith, is))
of_replace drop_index is = absurd (omega (arith, is))
of_replace (replace key ds) is = refl
of_replace (update key ds) is = absurd (omega (arith, is))
of_replace (remove ids) is = absurd (omega (arith, is))
of_replace clear is = absurd (omega (arith, is))
of_replace (patch members) is = absurd (omega (arith, is))
of_replace reset is = absurd (omega (arith, is))

of_update : (k : KindData) → kind_byte k ≡ 4 → batch_kind_of k ≡ batch.Update
of_update (create key) is = absurd (omega (arith, is))
of_update drop_index is = absurd (omega (arith, is))
of_update (replace key ds) is = absurd (omega (arith, is))
of_update (update key ds) is = refl
of_update (remove ids) is = absurd (omega (arith, is))
of_update clear is = absurd (omega (arith, is))
of_update (patch members) is = absurd (omega (arith, is))
of_update reset is = absurd (omega (arith, is))

of_remove : (k : KindData) → kind_byte k ≡ 5 → batch_kind_of k ≡ batch.Remove
of_remove (create key) is = absurd (omega (arith, is))
of_remove drop_index is = absurd (omega (arith, is))
of_remove (replace key ds) is = absurd (omega (arith, is))
of_remove (update key ds) is = absurd (omega (arith, is))
of_remove (remove ids) is = refl
of_remove clear is = absurd (omega (arith, is))
of_remove (patch members) is = absurd (omega (arith, is))
of_remove reset is = absurd (omega (arith, is))

pub one_batch : (first : Task ChangeData) (rest : List (Task ChangeData)) → IsBatch (first ∷ rest) → AreAccepted (first ∷ rest) → IsOneBatch (kinds_in (first ∷ rest))
one_batch first rest (like, alone) all = by first.change.kind refl
  where
    bytes : (n : ℕ) → first.kind ≡ n → (ts : List (Task ChangeData)) → AllByRecursion (IsLike first) ts → AreAccepted ts → AllByRecursion (λ k. kind_byte k ≡ n) (kinds_in ts)
    bytes n is [] like good = tt
    bytes n is (t ∷ ts) like good = (sym good.0.kind_is ∙ like.0.1 ∙ is, bytes n is ts like.1 good.1)

    each : (P Q : KindData → Type 0) → ((k : KindData) → P k → Q k) → (ks : List KindData) → AllByRecursion P ks → AllByRecursion Q ks
    each P Q step [] all = tt
    each P Q step (k ∷ ks) all = (step k all.0, each P Q step ks all.1)

    lone : (n : ℕ) → first.kind ≡ n → is_joined n ≡ false → kinds_in rest ≡ []
    lone n is other = ap kinds_in (alone (subst (λ (m : ℕ). is_joined m ≡ false) (sym is) other))

    by : (k : KindData) → first.change.kind ≡ k → MayFollow (batch_kind_of k) (kinds_in rest)
    by (create key) is = lone 1 (all.0.kind_is ∙ ap kind_byte is) refl
    by drop_index is = lone 2 (all.0.kind_is ∙ ap kind_byte is) refl
    by (replace key ds) is = each _ _ of_replace (kinds_in rest) (bytes 3 (all.0.kind_is ∙ ap kind_byte is) rest like all.1)
    by (update key ds) is = each _ _ of_update (kinds_in rest) (bytes 4 (all.0.kind_is ∙ ap kind_byte is) rest like all.1)
    by (remove ids) is = each _ _ of_remove (kinds_in rest) (bytes 5 (all.0.kind_is ∙ ap kind_byte is) rest like all.1)
    by clear is = lone 6 (all.0.kind_is ∙ ap kind_byte is) refl
    by (patch members) is = lone 7 (all.0.kind_is ∙ ap kind_byte is) refl
    by reset is = lone 8 (all.0.kind_is ∙ ap kind_byte is) refl

-- ---- what follows the first

fills_replace : (k : KindData) → batch_kind_of k ≡ batch.Replace → Fills k
fills_replace (create key) is = absurd (cc)
fills_replace drop_index is = absurd (cc)
fills_replace (replace key ds) is = tt
fills_replace (update key ds) is = tt
fills_replace (remove ids) is = absurd (cc)
fills_replace clear is = absurd (cc)
fills_replace (patch members) is = tt
fills_replace reset is = absurd (cc)

fills_update : (k : KindData) → batch_kind_of k ≡ batch.Update → Fills k
fills_update (create key) is = absurd (cc)
fills_update drop_index is = absurd (cc)
fills_update (replace key ds) is = tt
fills_update (update key ds) is = tt
fills_update (remove ids) is = absurd (cc)
fills_update clear is = absurd (cc)
fills_update (patch members) is = tt
fills_update reset is = absurd (cc)

empties_remove : (k : KindData) → batch_kind_of k ≡ batch.Remove → Empties k
empties_remove (create key) is = absurd (cc)
empties_remove drop_index is = absurd (cc)
empties_remove (replace key ds) is = absurd (cc)
empties_remove (update key ds) is = absurd (cc)
empties_remove (remove ids) is = tt
empties_remove clear is = tt
empties_remove (patch members) is = absurd (cc)
empties_remove reset is = tt

module _ (P : KindData → Type 0) where
  none_more : (ks : List KindData) → ks ≡ [] → AllByRecursion P ks
  none_more ks is = subst (AllByRecursion P) (sym is) tt

  all_alike : (kind : BatchKind) → ((k : KindData) → batch_kind_of k ≡ kind → P k) → (ks : List KindData) → AreOf kind ks → AllByRecursion P ks
  all_alike kind step [] all = tt
  all_alike kind step (k ∷ ks) all = (step k all.0, all_alike kind step ks all.1)

pub all_fill : (k : KindData) (ks : List KindData) → Fills k → IsOneBatch (k ∷ ks) → AllByRecursion Fills (k ∷ ks)
all_fill (create key) ks fills is = absurd fills
all_fill drop_index ks fills is = absurd fills
all_fill (replace key ds) ks fills is = (tt, all_alike Fills batch.Replace fills_replace ks is)
all_fill (update key ds) ks fills is = (tt, all_alike Fills batch.Update fills_update ks is)
all_fill (remove ids) ks fills is = absurd fills
all_fill clear ks fills is = absurd fills
all_fill (patch members) ks fills is = (tt, none_more Fills ks is)
all_fill reset ks fills is = absurd fills

pub all_empty : (k : KindData) (ks : List KindData) → Empties k → IsOneBatch (k ∷ ks) → AllByRecursion Empties (k ∷ ks)
all_empty (create key) ks empties is = absurd empties
all_empty drop_index ks empties is = absurd empties
all_empty (replace key ds) ks empties is = absurd empties
all_empty (update key ds) ks empties is = absurd empties
all_empty (remove ids) ks empties is = (tt, all_alike Empties batch.Remove empties_remove ks is)
all_empty clear ks empties is = (tt, none_more Empties ks is)
all_empty (patch members) ks empties is = absurd empties
all_empty reset ks empties is = (tt, none_more Empties ks is)

pub all_name : (k : KindData) (ks : List KindData) → Names k → IsOneBatch (k ∷ ks) → ks ≡ []
all_name (create key) ks names is = is
all_name drop_index ks names is = is
all_name (replace key ds) ks names is = absurd names
all_name (update key ds) ks names is = absurd names
all_name (remove ids) ks names is = absurd names
all_name clear ks names is = absurd names
all_name (patch members) ks names is = absurd names
all_name reset ks names is = absurd names
