-- The pieces of a reply's body, one after the other, are its text.
use Rattle.std.proofs.Common.{◌≡◌, ℕ, ℤ, pos, negsuc, List, [], ◌++◌, ◌∷◌, map, Bool, true, false, Option, Some, None, codes, decimal, append_assoc, refl, ap, ap₂, ◌∙◌}
use Rattle.std.specs.Fmt.{signed_decimal}
use Rattle.serde_json.specs.Data.{Data, string, array, Members, no_members, member}
use Rattle.serde_json.specs.View.{items_of}
use Rattle.serde_json.specs.Written.{compact_text, items_text, members_text, comma_if, number_text}
use Rattle.json.specs.Print.{quoted}
use Rattle.serde_json.proofs.OnLiterals.{serde_json_on_literals}
use Rattle.search_call.specs.declared.Window.{Window}
use Rattle.search_call.specs.declared.Window.TheVariants.{Slice, Page}
use Rattle.facet_counts.specs.declared.rows.CountRow.{CountRow}
use Rattle.facet_counts.specs.FacetView.{FacetView}
use Rattle.search_replies.specs.Costs.{whole}
use Rattle.request_replies.specs.Facets.{distribution_data, stats_data, ends_data, facet_members}
use Rattle.request_replies.specs.Replies.{count, text_or_null, listing_data, hits_data, total_pages, results_data, facet_hit, facet_hits_data, with_estimate, with_index, window_members, joined, shown_with}

-- what stands behind pieces stands behind the last of them
behind_three : (a b c x : List ℕ) → (a ++ (b ++ c)) ++ x ≡ a ++ (b ++ (c ++ x))
behind_three a b c x = append_assoc a (b ++ c) x ∙ ap (λ v. a ++ v) (append_assoc b c x)

behind_five : (a b c d e x : List ℕ) → (a ++ (b ++ (c ++ (d ++ e)))) ++ x ≡ a ++ (b ++ (c ++ (d ++ (e ++ x))))
behind_five a b c d e x =
    append_assoc a (b ++ (c ++ (d ++ e))) x
    ∙ ap (λ v. a ++ v) (append_assoc b (c ++ (d ++ e)) x ∙ ap (λ v. b ++ v) (behind_three c d e x))

-- a front, a list of documents and a rest
three_pieces : (front docs rest whole a b x : List ℕ) → front ≡ a → docs ≡ front ++ x → rest ≡ b → whole ≡ docs ++ rest → whole ≡ a ++ (x ++ b)
three_pieces front docs rest whole a b x is_front is_docs is_rest is_whole =
    is_whole ∙ ap (λ v. v ++ rest) (is_docs ∙ ap (λ v. v ++ x) is_front) ∙ append_assoc a x rest ∙ ap (λ v. a ++ (x ++ v)) is_rest

pub listing_printed : (limit offset total : ℕ) (ds : List Data) (front docs rest whole : List ℕ)
    → front ≡ codes "{\"limit\":" ++ (decimal limit ++ (codes ",\"offset\":" ++ (decimal offset ++ codes ",\"results\":")))
    → docs ≡ front ++ compact_text (array (items_of ds))
    → rest ≡ codes ",\"total\":" ++ (decimal total ++ codes "}")
    → whole ≡ docs ++ rest
    → whole ≡ compact_text (listing_data offset limit ds total)
unfolding serde_json_on_literals
listing_printed limit offset total ds front docs rest whole is_front is_docs is_rest is_whole =
    let x = compact_text (array (items_of ds)) in
    three_pieces front docs rest whole _ _ x is_front is_docs is_rest is_whole
    ∙ behind_five (codes "{\"limit\":") (decimal limit) (codes ",\"offset\":") (decimal offset) (codes ",\"results\":") _

-- ---- the hits of a search

-- a text, pieces behind it, and a rest
four_pieces : (t a b c d : List ℕ) → (((t ++ a) ++ b) ++ c) ++ d ≡ t ++ (a ++ (b ++ (c ++ d)))
four_pieces t a b c d =
    append_assoc ((t ++ a) ++ b) c d ∙ append_assoc (t ++ a) b (c ++ d) ∙ append_assoc t a (b ++ (c ++ d))

-- the uid stands behind `hits`, or behind `hitsPerPage`
whole_found : (uid : Option (List ℕ)) (q : List ℕ) (window : Window) (total : ℕ) (facets : Option (List FacetView)) (ds : List Data)
    → codes "{" ++ members_text false (with_estimate window total (facet_members facets (member (codes "hits") (array (items_of ds)) (window_members uid q window total))))
    ≡ compact_text (shown_with uid (hits_data q window total facets ds))
unfolding serde_json_on_literals
whole_found None q (Slice offset limit) total facets ds = refl
whole_found None q (Page page per) total facets ds = refl
whole_found (Some uid) q (Slice offset limit) total None ds = refl
whole_found (Some uid) q (Slice offset limit) total (Some facets) ds = refl
whole_found (Some uid) q (Page page per) total None ds = refl
whole_found (Some uid) q (Page page per) total (Some facets) ds = refl

hits_named : (t : List ℕ) (later : Bool) (ds : List Data) (ms : Members)
    → (((t ++ comma_if later) ++ codes "\"hits\":") ++ compact_text (array (items_of ds))) ++ members_text true ms
    ≡ t ++ members_text later (member (codes "hits") (array (items_of ds)) ms)
unfolding serde_json_on_literals
hits_named t later ds ms = four_pieces t (comma_if later) (codes "\"hits\":") (compact_text (array (items_of ds))) (members_text true ms)

pub hits_printed : (window : Window) (total : ℕ) (facets : Option (List FacetView)) (ds : List Data) (later after : Bool)
    (old front counted comma named docs : List ℕ) (rest : Members)
    → ((ms : Members) → front ++ members_text later ms ≡ old ++ members_text false (with_estimate window total ms))
    → ((ms : Members) → counted ++ members_text after ms ≡ front ++ members_text later (facet_members facets ms))
    → comma ≡ counted ++ comma_if after
    → named ≡ comma ++ codes "\"hits\":"
    → docs ≡ named ++ compact_text (array (items_of ds))
    → docs ++ members_text true rest
    ≡ old ++ members_text false (with_estimate window total (facet_members facets (member (codes "hits") (array (items_of ds)) rest)))
hits_printed window total facets ds later after old front counted comma named docs rest is_front is_counted is_comma is_named is_docs =
    let found = member (codes "hits") (array (items_of ds)) rest in
    let joined : docs ≡ ((counted ++ comma_if after) ++ codes "\"hits\":") ++ compact_text (array (items_of ds))
    = rw (is_docs, is_named, is_comma) refl in
    ap (λ v. v ++ members_text true rest) joined
    ∙ hits_named counted after ds rest
    ∙ is_counted found
    ∙ is_front (facet_members facets found)

pub found_printed : (uid : Option (List ℕ)) (q : List ℕ) (window : Window) (total : ℕ) (facets : Option (List FacetView)) (ds : List Data)
    (start docs rest text : List ℕ)
    → start ≡ codes "{"
    → ((ms : Members) → docs ++ members_text true ms
    ≡ start ++ members_text false (with_estimate window total (facet_members facets (member (codes "hits") (array (items_of ds)) ms))))
    → rest ≡ members_text true (window_members uid q window total)
    → text ≡ docs ++ rest
    → text ≡ compact_text (shown_with uid (hits_data q window total facets ds))
found_printed uid q window total facets ds start docs rest text is_start are_docs is_rest is_text =
    let behind = window_members uid q window total in
    is_text ∙ ap (λ v. docs ++ v) is_rest ∙ are_docs behind
    ∙ ap (λ v. v ++ members_text false (with_estimate window total (facet_members facets (member (codes "hits") (array (items_of ds)) behind)))) is_start
    ∙ whole_found uid q window total facets ds

pub estimate_printed : (total : ℕ) (old estimate new : List ℕ) (rest : Members)
    → estimate ≡ codes "\"estimatedTotalHits\":" ++ decimal total
    → new ≡ old ++ estimate
    → new ++ members_text true rest ≡ old ++ members_text false (member (codes "estimatedTotalHits") (count total) rest)
unfolding serde_json_on_literals
estimate_printed total old estimate new rest is_estimate is_new =
    ap (λ v. v ++ members_text true rest) (is_new ∙ ap (λ v. old ++ v) is_estimate)
    ∙ append_assoc old (codes "\"estimatedTotalHits\":" ++ decimal total) (members_text true rest)

pub index_printed : (uid : List ℕ) (name text : List ℕ) (rest : Members)
    → name ≡ quoted uid
    → text ≡ codes ",\"indexUid\":" ++ name
    → text ++ members_text true rest ≡ members_text true (with_index (Some uid) rest)
unfolding serde_json_on_literals
index_printed uid name text rest is_name is_text =
    ap (λ v. v ++ members_text true rest) (is_text ∙ ap (λ v. codes ",\"indexUid\":" ++ v) is_name)
    ∙ append_assoc (codes ",\"indexUid\":") (quoted uid) (members_text true rest)

pub slice_printed : (uid : Option (List ℕ)) (q : List ℕ) (offset limit total : ℕ) (index query text : List ℕ)
    → ((rest : Members) → index ++ members_text true rest ≡ members_text true (with_index uid rest))
    → query ≡ quoted q
    → text ≡ index ++ (codes ",\"limit\":" ++ (decimal limit ++ (codes ",\"offset\":" ++ (decimal offset ++ (codes ",\"query\":" ++ (query ++ codes "}"))))))
    → text ≡ members_text true (window_members uid q (Slice offset limit) total)
unfolding serde_json_on_literals
slice_printed uid q offset limit total index query text is_index is_query is_text =
    is_text
    ∙ ap (λ v. index ++ (codes ",\"limit\":" ++ (decimal limit ++ (codes ",\"offset\":" ++ (decimal offset ++ (codes ",\"query\":" ++ (v ++ codes "}"))))))) is_query
    ∙ is_index (window_members None q (Slice offset limit) total)

-- what stands behind the hits of a page
abbrev page_members : List ℕ → ℕ → ℕ → ℕ → Members
page_members q page per total =
    member (codes "page") (count page)
    (member (codes "query") (string q)
    (member (codes "totalHits") (count total)
    (member (codes "totalPages") (count (total_pages total per)) no_members)))

pub page_printed : (uid : Option (List ℕ)) (q : List ℕ) (page per total pages : ℕ) (index query text : List ℕ)
    → ((rest : Members) → index ++ members_text true rest ≡ members_text true (with_index uid rest))
    → query ≡ quoted q
    → pages ≡ total_pages total per
    → text ≡ codes ",\"hitsPerPage\":" ++ (decimal per ++ (index ++ (codes ",\"page\":" ++ (decimal page ++ (codes ",\"query\":" ++ (query ++ (codes ",\"totalHits\":" ++ (decimal total ++ (codes ",\"totalPages\":" ++ (decimal pages ++ codes "}"))))))))))
    → text ≡ members_text true (window_members uid q (Page page per) total)
unfolding serde_json_on_literals
page_printed uid q page per total pages index query text is_index is_query are_pages is_text =
    is_text
    ∙ ap₂ (λ v n. codes ",\"hitsPerPage\":" ++ (decimal per ++ (index ++ (codes ",\"page\":" ++ (decimal page ++ (codes ",\"query\":" ++ (v ++ (codes ",\"totalHits\":" ++ (decimal total ++ (codes ",\"totalPages\":" ++ (decimal n ++ codes "}"))))))))))) is_query are_pages
    ∙ ap (λ v. codes ",\"hitsPerPage\":" ++ (decimal per ++ v)) (is_index (page_members q page per total))

-- ---- several things

joined_items : (later : Bool) (ds : List Data) → joined later (map compact_text ds) ≡ items_text later (items_of ds)
joined_items later [] = refl
joined_items later (d ∷ ds) = ap (λ v. comma_if later ++ (compact_text d ++ v)) (joined_items true ds)

-- a front, a list and the end of an object
list_closed : (front list whole a x : List ℕ) → front ≡ a → list ≡ front ++ x → whole ≡ list ++ codes "}" → whole ≡ a ++ (x ++ codes "}")
list_closed front list whole a x is_front is_list is_whole = three_pieces front list (codes "}") whole a (codes "}") x is_front is_list refl is_whole

pub results_printed : (texts : List (List ℕ)) (ds : List Data) (front list whole : List ℕ)
    → front ≡ codes "{\"results\":"
    → list ≡ front ++ 91 ∷ joined false texts
    → whole ≡ list ++ codes "}"
    → texts ≡ map compact_text ds
    → whole ≡ compact_text (results_data ds)
unfolding serde_json_on_literals
results_printed texts ds front list whole is_front is_list is_whole are =
    list_closed front list whole (codes "{\"results\":") (compact_text (array (items_of ds))) is_front
    (is_list ∙ ap (λ v. front ++ 91 ∷ v) (ap (joined false) are ∙ joined_items false ds)) is_whole

pub facet_hit_printed : (row : CountRow) (value hit old new : List ℕ)
    → value ≡ quoted row.shown
    → hit ≡ codes "{\"count\":" ++ (decimal row.count ++ (codes ",\"value\":" ++ (value ++ codes "}")))
    → new ≡ old ++ hit
    → new ≡ old ++ compact_text (facet_hit row)
unfolding serde_json_on_literals
facet_hit_printed row value hit old new is_value is_hit is_new =
    is_new ∙ ap (λ v. old ++ v) (is_hit ∙ ap (λ v. codes "{\"count\":" ++ (decimal row.count ++ (codes ",\"value\":" ++ (v ++ codes "}")))) is_value)

pub facet_hits_printed : (query : Option (List ℕ)) (rows : List CountRow) (front list asked rest whole : List ℕ)
    → front ≡ codes "{\"facetHits\":"
    → list ≡ front ++ compact_text (array (items_of (map facet_hit rows)))
    → asked ≡ compact_text (text_or_null query)
    → rest ≡ codes ",\"facetQuery\":" ++ (asked ++ codes "}")
    → whole ≡ list ++ rest
    → whole ≡ compact_text (facet_hits_data query rows)
unfolding serde_json_on_literals
facet_hits_printed query rows front list asked rest whole is_front is_list is_asked is_rest is_whole =
    three_pieces front list rest whole (codes "{\"facetHits\":") (codes ",\"facetQuery\":" ++ (compact_text (text_or_null query) ++ codes "}"))
    (compact_text (array (items_of (map facet_hit rows)))) is_front is_list
    (is_rest ∙ ap (λ v. codes ",\"facetQuery\":" ++ (v ++ codes "}")) is_asked) is_whole

-- ---- counts

-- two pieces behind a text, a comma between them, and a rest
both_pieces : (t comma a d b s x : List ℕ) → ((t ++ comma) ++ (a ++ (d ++ (b ++ s)))) ++ x ≡ t ++ (comma ++ (a ++ (d ++ (b ++ (s ++ x)))))
both_pieces t comma a d b s x = simp append_assoc

pub facets_printed : (facets : List FacetView) (later : Bool) (old comma distribution stats both new : List ℕ) (rest : Members)
    → comma ≡ old ++ comma_if later
    → distribution ≡ compact_text (distribution_data facets)
    → stats ≡ compact_text (stats_data facets)
    → both ≡ codes "\"facetDistribution\":" ++ (distribution ++ (codes ",\"facetStats\":" ++ stats))
    → new ≡ comma ++ both
    → new ++ members_text true rest ≡ old ++ members_text later (facet_members (Some facets) rest)
unfolding serde_json_on_literals
facets_printed facets later old comma distribution stats both new rest is_comma is_distribution is_stats is_both is_new =
    let d = compact_text (distribution_data facets) in let s = compact_text (stats_data facets) in
    let joined : new ≡ (old ++ comma_if later) ++ (codes "\"facetDistribution\":" ++ (d ++ (codes ",\"facetStats\":" ++ s)))
    = rw (is_new, is_both, is_stats, is_distribution, is_comma) refl in
    ap (λ v. v ++ members_text true rest) joined
    ∙ both_pieces old (comma_if later) (codes "\"facetDistribution\":") d (codes ",\"facetStats\":") s (members_text true rest)

whole_text : (z : ℤ) → signed_decimal z ≡ number_text (whole z)
whole_text (pos n) = refl
whole_text (negsuc n) = refl

pub ends_printed : (attribute : List ℕ) (ends : ℤ × ℤ) (old name piece new : List ℕ)
    → name ≡ quoted attribute
    → piece ≡ name ++ (codes ":{\"max\":" ++ (signed_decimal ends.1 ++ (codes ",\"min\":" ++ (signed_decimal ends.0 ++ codes "}"))))
    → new ≡ old ++ piece
    → new ≡ old ++ (quoted attribute ++ 58 ∷ compact_text (ends_data ends))
unfolding serde_json_on_literals
ends_printed attribute ends old name piece new is_name is_piece is_new =
    let printed : piece ≡ quoted attribute ++ (codes ":{\"max\":" ++ (number_text (whole ends.1) ++ (codes ",\"min\":" ++ (number_text (whole ends.0) ++ codes "}"))))
    = is_piece ∙ rw (is_name, whole_text ends.0, whole_text ends.1) refl in
    is_new ∙ ap (λ v. old ++ v) printed
