-- The readings of some items are the ways to cut them into parts.
use Rattle.std.proofs.Common.{◌<◌, ◌≤◌, List, [], ◌∷◌, ◌++◌, length, map, refl, ap, subst, inl, inr, arith}
use Rattle.std.specs.Prelude.{◌↔◌, Contains, flat_map}
use Rattle.std.specs.List.{AllZip}
use Rattle.search_base.specs.declared.query.Block.{Block}
use Rattle.search_base.proofs.Members.{Among, Among-from_contains, Contains-from_among, Among-append, Among-append_left, Among-append_right, Among-map, Among-mapped, Among-flat_map, Among-flat_mapped}
use Rattle.synonym_terms.specs.SynonymRowView.{SynonymRowView}
use Rattle.query_graph.specs.ItemView.{ItemView}
use Rattle.query_graph.specs.ItemReadings.{choices, begun_by, readings_of}
use Rattle.query_graph.specs.Graph.{most_joined}
use Rattle.query_graph.specs.Cuts.{IsBlockOf, CutsItems}

-- the items of some parts
abbrev joined : List (List ItemView) → List ItemView
joined parts = flat_map (λ part. part) parts

module _ (rows : List SynonymRowView) where
  -- the reading begins with a block of a part, and goes on as a reading of the rest
  begun : (part rest : List ItemView) (reading : List Block) → 0 < length part → length part ≤ most_joined
      → ((later : List Block) → Among (readings_of rows rest) later → CutsItems rows rest later)
      → Among (begun_by (choices rows part) (readings_of rows rest)) reading → CutsItems rows (part ++ rest) reading
  begun part rest reading some few goes_on listed =
      let (block, choice, onward) = Among-flat_map (λ (b : Block). map (λ (r : List Block). b ∷ r) (readings_of rows rest)) (choices rows part) reading listed in
      let (later, listed_later, is) = Among-map (λ (r : List Block). block ∷ r) (readings_of rows rest) reading onward in
      let (parts, cut, each) = goes_on later listed_later in
      let first : IsBlockOf rows part block = record { some = some; few = few; choice = Contains-from_among (choices rows part) block choice } in
      subst (λ (r : List Block). CutsItems rows (part ++ rest) r) is (part ∷ parts, ap (λ (items : List ItemView). part ++ items) cut, (first, each))

  sound : (items : List ItemView) (reading : List Block) → Among (readings_of rows items) reading → CutsItems rows items reading
  sound [] reading (inl none) = subst (λ (r : List Block). CutsItems rows [] r) none ([], refl, tt)
  sound [] reading (inr never) = absurd never
  sound (a ∷ []) reading h = begun (a ∷ []) [] reading (omega arith) (omega arith) (λ later. sound [] later) h
  sound (a ∷ b ∷ []) reading h =
      elim (Among-append (begun_by (choices rows (a ∷ [])) (readings_of rows (b ∷ []))) (begun_by (choices rows (a ∷ b ∷ [])) (readings_of rows [])) reading h) [
        | inl one ↦ begun (a ∷ []) (b ∷ []) reading (omega arith) (omega arith) (λ later. sound (b ∷ []) later) one
        | inr two ↦ begun (a ∷ b ∷ []) [] reading (omega arith) (omega arith) (λ later. sound [] later) two
      ]
  sound (a ∷ b ∷ c ∷ items) reading h =
      elim (Among-append (begun_by (choices rows (a ∷ [])) (readings_of rows (b ∷ c ∷ items)))
      (begun_by (choices rows (a ∷ b ∷ [])) (readings_of rows (c ∷ items)) ++ begun_by (choices rows (a ∷ b ∷ c ∷ [])) (readings_of rows items)) reading h) [
        | inl one ↦ begun (a ∷ []) (b ∷ c ∷ items) reading (omega arith) (omega arith) (λ later. sound (b ∷ c ∷ items) later) one
        | inr more ↦ elim (Among-append (begun_by (choices rows (a ∷ b ∷ [])) (readings_of rows (c ∷ items))) (begun_by (choices rows (a ∷ b ∷ c ∷ [])) (readings_of rows items)) reading more) [
          | inl two ↦ begun (a ∷ b ∷ []) (c ∷ items) reading (omega arith) (omega arith) (λ later. sound (c ∷ items) later) two
          | inr three ↦ begun (a ∷ b ∷ c ∷ []) items reading (omega arith) (omega arith) (λ later. sound items later) three
        ]
      ]

  begins : (part rest : List ItemView) (block : Block) (later : List Block) → IsBlockOf rows part block → Among (readings_of rows rest) later
      → Among (begun_by (choices rows part) (readings_of rows rest)) (block ∷ later)
  begins part rest block later is listed =
      Among-flat_mapped (λ (b : Block). map (λ (r : List Block). b ∷ r) (readings_of rows rest)) (choices rows part) block (block ∷ later)
      (Among-from_contains (choices rows part) block is.choice) (Among-mapped (λ (r : List Block). block ∷ r) (readings_of rows rest) later listed)

  taken : (part rest : List ItemView) (block : Block) (later : List Block) → IsBlockOf rows part block → Among (readings_of rows rest) later
      → Among (readings_of rows (part ++ rest)) (block ∷ later)
  taken [] rest block later is listed = absurd (omega (arith, is.some))
  taken (a ∷ []) [] block later is listed = begins (a ∷ []) [] block later is listed
  taken (a ∷ []) (b ∷ []) block later is listed = Among-append_left _ _ _ (begins (a ∷ []) (b ∷ []) block later is listed)
  taken (a ∷ []) (b ∷ c ∷ items) block later is listed = Among-append_left _ _ _ (begins (a ∷ []) (b ∷ c ∷ items) block later is listed)
  taken (a ∷ b ∷ []) [] block later is listed =
      Among-append_right (begun_by (choices rows (a ∷ [])) (readings_of rows (b ∷ []))) _ _ (begins (a ∷ b ∷ []) [] block later is listed)
  taken (a ∷ b ∷ []) (c ∷ items) block later is listed =
      Among-append_right (begun_by (choices rows (a ∷ [])) (readings_of rows (b ∷ c ∷ items))) _ _
      (Among-append_left _ (begun_by (choices rows (a ∷ b ∷ c ∷ [])) (readings_of rows items)) _ (begins (a ∷ b ∷ []) (c ∷ items) block later is listed))
  taken (a ∷ b ∷ c ∷ []) items block later is listed =
      Among-append_right (begun_by (choices rows (a ∷ [])) (readings_of rows (b ∷ c ∷ items))) _ _
      (Among-append_right (begun_by (choices rows (a ∷ b ∷ [])) (readings_of rows (c ∷ items))) _ _ (begins (a ∷ b ∷ c ∷ []) items block later is listed))
  taken (a ∷ b ∷ c ∷ d ∷ more) rest block later is listed = absurd (omega (arith, is.few))

  complete : (parts : List (List ItemView)) (reading : List Block) → AllZip (IsBlockOf rows) parts reading → Among (readings_of rows (joined parts)) reading
  complete [] [] each = inl refl
  complete [] (block ∷ later) each = absurd each
  complete (part ∷ parts) [] each = absurd each
  complete (part ∷ parts) (block ∷ later) each = taken part (joined parts) block later each.0 (complete parts later each.1)

  pub readings_cut : (items : List ItemView) (reading : List Block) → Contains (readings_of rows items) reading ↔ CutsItems rows items reading
  readings_cut items reading = (
    (λ listed. sound items reading (Among-from_contains (readings_of rows items) reading listed)),
    (λ (parts, cut, each). Contains-from_among (readings_of rows items) reading
        (subst (λ (list : List ItemView). Among (readings_of rows list) reading) cut (complete parts reading each))),
  )
