-- The fields of a spelling, one after the other, are the spelling.
use Rattle.std.proofs.Common.{◌≡◌, ℕ, inl, inr, List, [], ◌∷◌, ◌++◌, length, map, Option, Some, None, refl, sym, ap, ap₂, ◌∙◌, append_assoc, append-nil}
use Rattle.std.proofs.lemmas.List.Concat.{flat_map-cons}
use Rattle.std.specs.Int.{w32, w64, to_le_bytes}
use Rattle.std.specs.List.{flat_map}
use Rattle.serde_json.specs.Data.{Data}
use Rattle.serde_json.specs.Written.{compact_text}
use Rattle.search_base.specs.declared.outcome.OutcomeRow.{OutcomeRow}
use Rattle.document_changes.specs.Changes.{KindData, create, drop_index, replace, update, remove, clear, patch, reset, ChangeData}
use Rattle.index_image.specs.declared.rows.ImageDocument.{ImageDocument}
use Rattle.change_payloads.specs.Spelling.{text, optional, json, texts_data, documents, kind_byte, body, change}
use Rattle.index_image.specs.Layout.{long, document_bytes, list_bytes, index_bytes, image_bytes, first_image_bytes, IsSpelled, settings_text}
use Rattle.index_image.specs.Outcomes.{outcome_bytes}
use Rattle.index_image.specs.Rows.{IndexData, ImageData}
use Rattle.damage_laws.specs.Agrees.{joined}
use Rattle.damage_laws.specs.Fields.{optional_fields, documents_fields, body_fields, change_fields, list_fields, path_fields, document_fields, index_fields, outcome_fields, image_fields, first_image_fields, AreFields}

joined-append : (fs gs : List (List ℕ)) → joined (fs ++ gs) ≡ joined fs ++ joined gs
joined-append [] gs = refl
joined-append (f ∷ fs) gs = ap (λ (t : List ℕ). f ++ t) (joined-append fs gs) ∙ sym (append_assoc f (joined fs) (joined gs))

joined-map : {A : Type 0} (f : A → List ℕ) (xs : List A) → joined (map f xs) ≡ flat_map f xs
joined-map f [] = refl
joined-map f (x ∷ xs) = ap (λ (t : List ℕ). f x ++ t) (joined-map f xs) ∙ sym (flat_map-cons f x xs)

joined-flat : {A : Type 0} (fields : A → List (List ℕ)) (spelled : A → List ℕ) → ((x : A) → joined (fields x) ≡ spelled x) → (xs : List A) → joined (flat_map fields xs) ≡ flat_map spelled xs
joined-flat fields spelled each [] = refl
joined-flat fields spelled each (x ∷ xs) =
    ap joined (flat_map-cons fields x xs) ∙ joined-append (fields x) (flat_map fields xs)
    ∙ ap₂ (λ (s t : List ℕ). s ++ t) (each x) (joined-flat fields spelled each xs) ∙ sym (flat_map-cons spelled x xs)

optional_joined : (key : Option (List ℕ)) → joined (optional_fields key) ≡ optional key
optional_joined None = refl
optional_joined (Some key) = ap (λ (t : List ℕ). 1 ∷ t) (append-nil (text key))

documents_joined : (ds : List Data) → joined (documents_fields ds) ≡ documents ds
documents_joined ds = ap (λ (t : List ℕ). to_le_bytes w32 (length ds) ++ t) (joined-map json ds)

stored_joined : (key : Option (List ℕ)) (ds : List Data) → joined (optional_fields key ++ documents_fields ds) ≡ optional key ++ documents ds
stored_joined key ds = joined-append (optional_fields key) (documents_fields ds) ∙ ap₂ (λ (s t : List ℕ). s ++ t) (optional_joined key) (documents_joined ds)

body_joined : (kind : KindData) → joined (body_fields kind) ≡ body kind
body_joined (create key) = optional_joined key
body_joined drop_index = refl
body_joined (replace key ds) = stored_joined key ds
body_joined (update key ds) = stored_joined key ds
body_joined (remove ids) = append-nil (json (texts_data ids))
body_joined clear = refl
body_joined (patch members) = append-nil (json members)
body_joined reset = refl

pub change_joined : (c : ChangeData) → joined (change_fields c) ≡ change c
change_joined c = ap (λ (t : List ℕ). kind_byte c.kind ∷ (text c.uid ++ t)) (body_joined c.kind)

list_joined : {A : Type 0} (fields : A → List (List ℕ)) (spelled : A → List ℕ) → ((x : A) → joined (fields x) ≡ spelled x) → (xs : List A) → joined (list_fields fields xs) ≡ list_bytes spelled xs
list_joined fields spelled each xs = ap (λ (t : List ℕ). to_le_bytes w32 (length xs) ++ t) (joined-flat fields spelled each xs)

path_joined : (path : List ℕ) → joined (path_fields path) ≡ text path
path_joined path = append-nil (text path)

document_joined : (d : ImageDocument) → joined (document_fields d) ≡ document_bytes d
document_joined d = ap (λ (t : List ℕ). to_le_bytes w32 d.id.0 ++ t) (append-nil (long (compact_text d.document)))

index_joined : (i : IndexData) → joined (index_fields i) ≡ index_bytes i
index_joined i =
    let f6 = list_fields document_fields i.documents in
    let f5 = long (settings_text i.settings) ∷ f6 in
    let f4 = list_fields path_fields i.paths ++ f5 in
    let f3 = to_le_bytes w32 i.next_id ∷ f4 in
    let documents_are = list_joined document_fields document_bytes document_joined i.documents in
    let paths_are = joined-append (list_fields path_fields i.paths) f5
    ∙ ap₂ (λ (s t : List ℕ). s ++ t) (list_joined path_fields text path_joined i.paths) (ap (λ (t : List ℕ). long (settings_text i.settings) ++ t) documents_are) in
    let key_is = joined-append (optional_fields i.key) f3 ∙ ap₂ (λ (s t : List ℕ). s ++ t) (optional_joined i.key) (ap (λ (t : List ℕ). to_le_bytes w32 i.next_id ++ t) paths_are) in
    ap (λ (t : List ℕ). text i.uid ++ t) key_is

outcome_joined : (o : OutcomeRow) → joined (outcome_fields o) ≡ outcome_bytes o
outcome_joined o = refl

image_joined : (s : ImageData) → joined (image_fields s) ≡ image_bytes s
image_joined s =
    let indexes = list_joined index_fields index_bytes index_joined s.indexes in
    let outcomes = list_joined outcome_fields outcome_bytes outcome_joined s.outcomes in
    ap (λ (t : List ℕ). 2 ∷ (to_le_bytes w64 s.changes ++ t))
    (joined-append (list_fields index_fields s.indexes) (list_fields outcome_fields s.outcomes) ∙ ap₂ (λ (i o : List ℕ). i ++ o) indexes outcomes)

first_image_joined : (s : ImageData) → joined (first_image_fields s) ≡ first_image_bytes s
first_image_joined s = ap (λ (t : List ℕ). 1 ∷ (to_le_bytes w64 s.changes ++ t)) (list_joined index_fields index_bytes index_joined s.indexes)

pub fields_joined : (s : ImageData) (fields : List (List ℕ)) → AreFields fields s → IsSpelled (joined fields) s
fields_joined s fields (inl are) = inl (ap joined are ∙ image_joined s)
fields_joined s fields (inr (none, are)) = inr (none, ap joined are ∙ first_image_joined s)
