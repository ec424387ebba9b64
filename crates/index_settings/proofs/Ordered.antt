-- Synonyms in order: put member by member, and read from a map.
use Rattle.std.proofs.Common.{◌≡◌, ℕ, List, [], ◌∷◌, ◌++◌, map, string_cmp, string_bytes, Less, Greater, nat_cmp, refl, sym, ap, ◌∙◌, append-nil, append_assoc}
use Rattle.std.proofs.lemmas.Cmp.{nat_list_cmp_total}
use Rattle.std.specs.Cmp.Lexicographic.{slice_cmp}
use Rattle.std.specs.List.{AllByRecursion}
use Rattle.std.specs.List.Sorted.{IsStrictlySortedBy}
use Rattle.std.specs.Map.{keys_of}
use Rattle.std.specs.Ordering.{ordering_reverse}
use Rattle.serde_json.specs.Data.{Members, no_members, member, put}
use Rattle.serde_json.specs.View.{members_view}
use Rattle.serde_json.proofs.Views.{Entry}
use Rattle.index_settings.specs.View.{SynonymView}
use Rattle.index_settings.specs.Values.{member_synonyms}
use Rattle.index_settings.specs.Json.{texts_data, synonym_members}
use Rattle.index_settings.specs.Limits.{AreInOrder}

-- the lists, put one after another
abbrev pub all_put : List SynonymView → Members → Members
all_put [] found = found
all_put (list ∷ lists) found = all_put lists (put list.key (texts_data list.texts) found)

below : (first list : SynonymView) (done more : List SynonymView) → AllByRecursion (λ key. slice_cmp nat_cmp first.key key ≡ Less) (map (λ l. l.key) (done ++ list ∷ more))
    → slice_cmp nat_cmp first.key list.key ≡ Less
below first list [] more h = h.0
below first list (x ∷ done) more h = below first list done more h.1

put_last : (done : List SynonymView) (list : SynonymView) (more : List SynonymView) → AreInOrder (done ++ list ∷ more)
    → put list.key (texts_data list.texts) (synonym_members done) ≡ synonym_members (done ++ list ∷ [])
unfolding IsStrictlySortedBy
put_last [] list more h = refl
put_last (first ∷ done) list more h =
    let above : slice_cmp nat_cmp list.key first.key ≡ Greater = nat_list_cmp_total.antisymm list.key first.key ∙ ap ordering_reverse (below first list done more h.0) in
    rw above (ap (member first.key (texts_data first.texts)) (put_last done list more h.1))

put_from : (done more : List SynonymView) → AreInOrder (done ++ more) → all_put more (synonym_members done) ≡ synonym_members (done ++ more)
put_from done [] h = ap synonym_members (sym (append-nil done))
put_from done (list ∷ more) h =
    let apart : (done ++ list ∷ []) ++ more ≡ done ++ list ∷ more = append_assoc done (list ∷ []) more in
    ap (all_put more) (put_last done list more h) ∙ put_from (done ++ list ∷ []) more (rw apart h) ∙ ap synonym_members apart

pub all_put_in_order : (lists : List SynonymView) → AreInOrder lists → all_put lists no_members ≡ synonym_members lists
all_put_in_order lists h = put_from [] lists h

-- no synonyms are in order
pub in_order_none : AreInOrder []
unfolding IsStrictlySortedBy
in_order_none = tt

above_later : (key : List ℕ) (es : List Entry) → AllByRecursion (λ k. slice_cmp nat_cmp key (string_bytes k) ≡ Less) (keys_of es)
    → AllByRecursion (λ k. slice_cmp nat_cmp key k ≡ Less) (map (λ l. l.key) (member_synonyms (members_view es)))
above_later key [] h = tt
above_later key (e ∷ es) h = (h.0, above_later key es h.1)

-- the synonyms of a map are in order
pub in_order_of_map : (es : List Entry) → IsStrictlySortedBy string_cmp (keys_of es) → AreInOrder (member_synonyms (members_view es))
unfolding IsStrictlySortedBy
in_order_of_map [] h = tt
in_order_of_map (e ∷ es) h = (above_later (string_bytes e.0) es h.0, in_order_of_map es h.1)
