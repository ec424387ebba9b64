-- What the walk finds at a path, member by member.
use Rattle.std.proofs.Common.{◌≡◌, ◌∙◌, ℕ, ◌<◌, ◌≤◌, List, [], ◌∷◌, ◌++◌, length, Bool, true, false, Option, Some, cond, refl, sym, ap, ap₂, arith, bytes_eq, append-nil, append_assoc, length-append}
use Rattle.std.proofs.lemmas.Slice.Eq.{bytes_eq-Decides}
use Rattle.serde_json.specs.Data.{Data, null, boolean, number, string, array, object, Items, no_items, item, Members, no_members, member}
use Rattle.doc_values.specs.declared.rows.Flat.{Flat}
use Rattle.doc_values.specs.Walk.{Visit, path_of, walk_of_members, walk_inside, walk_inside_items}
use Rattle.doc_values.specs.Leaves.{leaves_of, marks_of, found_at}

found_at-append : (p : List ℕ) (a b : List Visit) → found_at p (a ++ b) ≡ found_at p a ++ found_at p b
found_at-append p [] b = refl
found_at-append p (visit ∷ a) b =
    elim (bytes_eq p visit.path) as (λ same. cond same (marks_of visit.value ++ (leaves_of visit.value ++ found_at p (a ++ b))) (found_at p (a ++ b))
    ≡ cond same (marks_of visit.value ++ (leaves_of visit.value ++ found_at p a)) (found_at p a) ++ found_at p b) [
      | true ↦ rw (found_at-append p a b) (simp append_assoc)
      | false ↦ found_at-append p a b
    ]

-- ---- paths inside a member are longer than its own

differs_at : (p q : List ℕ) (same : Bool) → bytes_eq p q ≡ same → length p < length q → same ≡ false
differs_at p q true e h = absurd (let lengths = ap length ((bytes_eq-Decides p q).0 e) in omega arith)
differs_at p q false e h = refl

differs : (p q : List ℕ) → length p < length q → bytes_eq p q ≡ false
differs p q h = differs_at p q _ refl h

longer : (p above name : List ℕ) → length p ≤ length above → length p < length (path_of (Some above) name)
longer p above name h = omega (arith, length-append above (46 ∷ name))

mutual
  short-walk_inside : (p path : List ℕ) (d : Data) → length p ≤ length path → found_at p (walk_inside path d) ≡ []
  short-walk_inside p path null h = refl
  short-walk_inside p path (boolean b) h = refl
  short-walk_inside p path (number n) h = refl
  short-walk_inside p path (string s) h = refl
  short-walk_inside p path (array ds) h = short-walk_inside_items p path ds h
  short-walk_inside p path (object ms) h = short-walk_of_members p path ms h

  short-walk_inside_items : (p path : List ℕ) (ds : Items) → length p ≤ length path → found_at p (walk_inside_items path ds) ≡ []
  short-walk_inside_items p path no_items h = refl
  short-walk_inside_items p path (item d ds) h = rw (found_at-append p (walk_inside path d) (walk_inside_items path ds), short-walk_inside p path d h) (short-walk_inside_items p path ds h)

  short-walk_of_members : (p above : List ℕ) (ms : Members) → length p ≤ length above → found_at p (walk_of_members (Some above) ms) ≡ []
  short-walk_of_members p above no_members h = refl
  short-walk_of_members p above (member k d ms) h =
      let path = path_of (Some above) k in
      let more = longer p above k h in
      let within : length p ≤ length path = omega arith in
      rw (differs p path more, found_at-append p (walk_inside path d) (walk_of_members (Some above) ms), short-walk_inside p path d within) (short-walk_of_members p above ms h)

-- ---- a member in front

-- Behind what was found before and what is found inside a member come the member's own values, if the path is its own.
member-found : (p path : List ℕ) (d : Data) (before : List Flat) (later : List Visit)
    → ((before ++ found_at p (walk_inside path d)) ++ cond (bytes_eq p path) (marks_of d ++ leaves_of d) []) ++ found_at p later
    ≡ before ++ found_at p (record { path = path; value = d } ∷ (walk_inside path d ++ later))
member-found p path d before later = go (bytes_eq p path) refl
  where
    go : (same : Bool) → bytes_eq p path ≡ same
        → ((before ++ found_at p (walk_inside path d)) ++ cond same (marks_of d ++ leaves_of d) []) ++ found_at p later
        ≡ before ++ cond same (marks_of d ++ (leaves_of d ++ found_at p (walk_inside path d ++ later))) (found_at p (walk_inside path d ++ later))
    go true e =
        let within : length p ≤ length path = let lengths = ap length ((bytes_eq-Decides p path).0 e) in omega arith in
        rw (found_at-append p (walk_inside path d) later, short-walk_inside p path d within, append-nil before) (simp append_assoc)
    go false e = rw (found_at-append p (walk_inside path d) later, append-nil (before ++ found_at p (walk_inside path d))) (append_assoc before (found_at p (walk_inside path d)) (found_at p later))

-- one more member of an object
pub member-step : (p : List ℕ) (above : Option (List ℕ)) (k path : List ℕ) (d : Data) (ms : Members) (before inside after own whole : List Flat)
    → path ≡ path_of above k → inside ≡ before ++ found_at p (walk_inside path d) → own ≡ marks_of d ++ leaves_of d → after ≡ inside ++ cond (bytes_eq p path) own []
    → whole ≡ before ++ found_at p (walk_of_members above (member k d ms)) → whole ≡ after ++ found_at p (walk_of_members above ms)
member-step p above k path d ms before inside after own whole path_is inside_is own_is after_is told =
    let later = walk_of_members above ms in
    let from : List ℕ → List Visit = λ q. record { path = q; value = d } ∷ (walk_inside q d ++ later) in
    told
    ∙ ap (λ q. before ++ found_at p (from q)) (sym path_is)
    ∙ sym (member-found p path d before later)
    ∙ ap₂ (λ v w. (v ++ cond (bytes_eq p path) w []) ++ found_at p later) (sym inside_is) (sym own_is)
    ∙ ap (λ v. v ++ found_at p later) (sym after_is)

-- one more item of an array
pub item-step : (p path : List ℕ) (d : Data) (rest : Items) (before after whole : List Flat) → after ≡ before ++ found_at p (walk_inside path d)
    → whole ≡ before ++ found_at p (walk_inside_items path (item d rest)) → whole ≡ after ++ found_at p (walk_inside_items path rest)
item-step p path d rest before after whole after_is told =
    told
    ∙ ap (λ v. before ++ v) (found_at-append p (walk_inside path d) (walk_inside_items path rest))
    ∙ sym (append_assoc before (found_at p (walk_inside path d)) (found_at p (walk_inside_items path rest)))
    ∙ ap (λ v. v ++ found_at p (walk_inside_items path rest)) (sym after_is)
