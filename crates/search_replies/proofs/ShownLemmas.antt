-- Members by tests of their names: one test in place of another, and of two.
use Rattle.std.proofs.Common.{◌≡◌, ℕ, List, [], ◌∷◌, map, Bool, true, false, ◌&&◌, ◌||◌, cond, not, codes, Option, refl, sym, ap, ap₂, ◌∙◌, ◌+◌, ◌<◌, ◌++◌, take, length, get_or}
use Rattle.std.specs.Str.{bytes_eq}
use Rattle.std.proofs.lemmas.List.{take_more}
use Rattle.std.proofs.lemmas.List.Folds.{list_any-append}
use Rattle.serde_json.specs.Data.{Data, null, boolean, number, string, array, object, Members, no_members, member, put}
use Rattle.doc_values.specs.Walk.{members_in}
use Rattle.doc_values.specs.Whole.{IsDocument}
use Rattle.search_base.specs.TermView.{TermView}
use Rattle.search_base.specs.declared.cost_key.CostKey.{CostKey}
use Rattle.search_call.specs.FormatView.{FormatView, formats_texts}
use Rattle.search_replies.specs.declared.added.Added.{Added}
use Rattle.search_replies.specs.declared.names.Names.{Names}
use Rattle.search_replies.specs.Added.{added_name, owns}
use Rattle.search_replies.specs.Formatted.{formatted_data}
use Rattle.search_replies.specs.Marks.{terms_if}
use Rattle.search_replies.specs.Members.{is_among, is_shown, members_by, shown_members}
use Rattle.search_replies.specs.Names.{shows}
use Rattle.search_replies.specs.Positions.{positions_data}
use Rattle.search_result.specs.View.{HitView}
use Rattle.search_replies.specs.Shown.{shown, all_shown, added_names, own_members, with_costs, with_added, hit_by}

-- tests that agree show the same members
members_same : (p q : List ℕ → Bool) → ((name : List ℕ) → p name ≡ q name) → (ms : Members) → members_by p ms ≡ members_by q ms
members_same p q same no_members = refl
members_same p q same (member name d ms) = ap₂ (λ b rest. cond b (member name d rest) rest) (same name) (members_same p q same ms)

-- a test that every name passes shows all members
members_all : (p : List ℕ → Bool) → ((name : List ℕ) → p name ≡ true) → (ms : Members) → members_by p ms ≡ ms
members_all p all no_members = refl
members_all p all (member name d ms) = ap₂ (λ b rest. cond b (member name d rest) rest) (all name) (members_all p all ms)

-- one test after the other is both
members_both : (p q : List ℕ → Bool) (ms : Members) → members_by (λ name. p name && q name) ms ≡ members_by q (members_by p ms)
members_both p q no_members = refl
members_both p q (member name d ms) = by (p name) (members_both p q ms)
  where
    by : (b : Bool) → members_by (λ name. p name && q name) ms ≡ members_by q (members_by p ms)
        → cond (b && q name) (member name d (members_by (λ name. p name && q name) ms)) (members_by (λ name. p name && q name) ms)
        ≡ members_by q (cond b (member name d (members_by p ms)) (members_by p ms))
    by true later = ap (λ rest. cond (q name) (member name d rest) rest) later
    by false later = later

-- a document is an object, and a test that every name passes shows it whole
pub shown_whole : (p : List ℕ → Bool) (d : Data) → ((name : List ℕ) → p name ≡ true) → IsDocument d → object (members_by p (members_in d)) ≡ d
shown_whole p null all is = let none = is.whole in absurd (cc)
shown_whole p (boolean b) all is = let none = is.whole in absurd (cc)
shown_whole p (number n) all is = let none = is.whole in absurd (cc)
shown_whole p (string text) all is = let none = is.whole in absurd (cc)
shown_whole p (array ds) all is = let none = is.whole in absurd (cc)
shown_whole p (object ms) all is = ap object (members_all p all ms)

-- documents by a test that says what a list of names shows
pub shown_alike : (p : List ℕ → Bool) (names : List (List ℕ)) → ((name : List ℕ) → p name ≡ is_shown names name) → (d : Data)
    → object (members_by p (members_in d)) ≡ shown names d
shown_alike p names same d = ap object (members_same p (is_shown names) same (members_in d))

pub all_alike : (p : List ℕ → Bool) (names : List (List ℕ)) → ((name : List ℕ) → p name ≡ is_shown names name) → (ds : List Data)
    → map (λ d. object (members_by p (members_in d))) ds ≡ all_shown names ds
all_alike p names same [] = refl
all_alike p names same (d ∷ ds) = ap₂ (λ x xs. x ∷ xs) (shown_alike p names same d) (all_alike p names same ds)

-- hits by a test that says what both lists show, where no terms stand for those that are not looked at
added_if : (formats : FormatView) (terms : List TermView) (costs : Option (List CostKey)) (ms : Members)
    → with_added formats (terms_if formats terms) costs ms ≡ with_added formats terms costs ms
added_if formats terms costs ms = by (formats_texts formats) formats.positions
  where
    own : Members
    own = own_members formats costs ms

    put_texts : List TermView → Members → Members
    put_texts by rest = put (codes "_formatted") (formatted_data by formats own) rest

    put_places : List TermView → Members → Members
    put_places by rest = put (codes "_matchesPosition") (positions_data by own) rest

    by : (texts positions : Bool)
        → with_costs costs (cond texts (put_texts (cond (texts || positions) terms []) (cond positions (put_places (cond (texts || positions) terms []) ms) ms)) (cond positions (put_places (cond (texts || positions) terms []) ms) ms))
        ≡ with_costs costs (cond texts (put_texts terms (cond positions (put_places terms ms) ms)) (cond positions (put_places terms ms) ms))
    by true true = refl
    by true false = refl
    by false true = refl
    by false false = refl

pub hits_alike : (p : List ℕ → Bool) (displayed retrieve : List (List ℕ)) (formats : FormatView) (terms : List TermView)
    → ((name : List ℕ) → p name ≡ (is_shown displayed name && is_shown retrieve name))
    → (hits : List HitView) → map (hit_by p formats (terms_if formats terms)) hits
    ≡ map (λ hit. object (with_added formats terms hit.costs (shown_members retrieve (shown_members displayed (members_in hit.document))))) hits
hits_alike p displayed retrieve formats terms same [] = refl
hits_alike p displayed retrieve formats terms same (hit ∷ hits) =
    ap₂ (λ x xs. x ∷ xs)
    (ap (λ ms. object (with_added formats (terms_if formats terms) hit.costs ms))
    (members_same p (λ name. is_shown displayed name && is_shown retrieve name) same (members_in hit.document)
    ∙ members_both (is_shown displayed) (is_shown retrieve) (members_in hit.document))
    ∙ ap object (added_if formats terms hit.costs (shown_members retrieve (shown_members displayed (members_in hit.document)))))
    (hits_alike p displayed retrieve formats terms same hits)

-- the members that a hit has from its document, by one test and by one after the other
pub own_alike : (names : Names) (added : List Added) (formats : FormatView) (costs : Option (List CostKey)) (ms : Members)
    → map added_name added ≡ added_names formats costs
    → members_by (owns names added) ms ≡ own_members formats costs (members_by (shows names) ms)
own_alike names added formats costs ms are =
    members_both (shows names) (λ name. not (is_among (map added_name added) name)) ms
    ∙ ap (λ list. members_by (λ name. not (is_among list name)) (members_by (shows names) ms)) are

or_behind : (a b : Bool) → cond b true a ≡ (a || (b || false))
or_behind true true = refl
or_behind true false = refl
or_behind false true = refl
or_behind false false = refl

-- one name more of a list
pub among_more : (names : List (List ℕ)) (i : ℕ) (name q : List ℕ) (had : Bool) → i < length names → name ≡ get_or names i name → had ≡ is_among (take i names) q
    → cond (bytes_eq name q) true had ≡ is_among (take (i + 1) names) q
among_more names i name q had lt is before =
    or_behind had (bytes_eq name q) ∙ ap (λ b. b || (bytes_eq name q || false)) before
    ∙ sym (list_any-append (λ n. bytes_eq n q) (take i names) (name ∷ []))
    ∙ ap (λ list. is_among list q) (ap (λ n. take i names ++ n ∷ []) is ∙ sym (take_more names i name lt))
