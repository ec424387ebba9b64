-- Searches one after the other: what they read and open adds up, up to the first that is refused.
use Rattle.std.proofs.Common.{◌≡◌, ℕ, ◌+◌, ◌≤◌, List, [], ◌∷◌, ◌++◌, length, map, take, drop, Bool, true, false, cond, Option, Some, None, Result, Ok, Err, refl, sym, ap, subst, ◌∙◌, append_assoc, append-nil, arith}
use Rattle.std.specs.Prelude.{flat_map, take_while}
use Rattle.std.proofs.lemmas.List.{take-append-drop}
use Rattle.std.proofs.lemmas.List.Sums.{sum_by-append, sum_by-cons, take_while-cons}
use Rattle.bucket_sort.specs.declared.log.Opening.{Opening}
use Rattle.bucket_sort.specs.Opens.{LogState, Opens}
use Rattle.bucket_sort.specs.Told.{and_then}
use Rattle.multi_search.specs.declared.one.OneFault.{OneFault}
use Rattle.multi_search.specs.declared.one.OneFault.TheVariants as one
use Rattle.multi_search.specs.declared.multi.MultiFault.{MultiFault}
use Rattle.multi_search.specs.declared.multi.MultiFault.TheVariants as multi
use Rattle.multi_search.specs.Outcomes.{Chain, RanUntil, outcomes_of}
use Rattle.multi_search.proofs.ChainLemmas.{chain-holds, chain-last}
use Rattle.search_routes.specs.Several.{Tally, Runs, has_starved}

-- ---- openings two in a row

told-two : (told : Option (List Opening)) (first second : List Opening) → and_then (and_then told first) second ≡ and_then told (first ++ second)
told-two None first second = refl
told-two (Some all) first second = ap Some (append_assoc all first second)

length-two : (first second : List Opening) → length (first ++ second) ≡ length first + length second
length-two [] second = omega arith
length-two (x ∷ first) second = omega (arith, length-two first second)

pub opens-two : (b : Bool) (first second : List Opening) (old between new : LogState) → Opens false first old between → Opens b second between new
    → Opens b (first ++ second) old new
opens-two false first second old between new before after = (
  after.0 ∙ ap (λ told. and_then told second) before.0 ∙ told-two old.told first second,
  omega (arith, before.1, after.1, length-two first second),
)
opens-two true first second old between new before after = (
  record {
    gained = first ++ after.0.gained;
    others = after.0.others;
    parts = ap (λ more. first ++ more) after.0.parts ∙ sym (append_assoc first after.0.gained after.0.others);
    told = after.0.told ∙ ap (λ told. and_then told after.0.gained) before.0 ∙ told-two old.told first after.0.gained;
  },
  record {
    low = omega (arith, before.1, after.1.low);
    high = omega (arith, before.1, after.1.high, length-two first second);
  },
)

-- some of the first are some of both
pub opens-front : (first second : List Opening) (old new : LogState) → Opens true first old new → Opens true (first ++ second) old new
opens-front first second old new some = (
  record {
    gained = some.0.gained;
    others = some.0.others ++ second;
    parts = ap (λ front. front ++ second) some.0.parts ∙ append_assoc some.0.gained some.0.others second;
    told = some.0.told;
  },
  record { low = some.1.low; high = omega (arith, some.1.high, length-two first second) },
)

told-nothing : (told : Option (List Opening)) → told ≡ and_then told []
told-nothing None = refl
told-nothing (Some all) = ap Some (sym (append-nil all))

-- all is some
opens-all : (all : List Opening) (old new : LogState) → Opens false all old new → Opens true all old new
opens-all all old new done = (
  record { gained = all; others = []; parts = sym (append-nil all); told = done.0 },
  record { low = omega (arith, done.1); high = omega (arith, done.1) },
)

flat-two : {C : Type 0} (f : C → List Opening) (front back : List C) → flat_map f (front ++ back) ≡ flat_map f front ++ flat_map f back
flat-two f [] back = refl
flat-two f (c ∷ front) back = ap (λ more. f c ++ more) (flat-two f front back) ∙ sym (append_assoc (f c) (flat_map f front) (flat_map f back))

-- ---- searches two in a row

module _ {C : Type 0} (need : C → ℕ) (opened : C → List Opening) (most : C → ℕ) where
  pub runs-none : (s : Tally) → Runs need opened most false [] s s
  runs-none s = record { fetched = omega arith; opens = (told-nothing s.log.told, omega arith); few = omega arith }

  pub runs-two : (b : Bool) (front back : List C) (old between new : Tally) → Runs need opened most false front old between
      → Runs need opened most b back between new → Runs need opened most b (front ++ back) old new
  runs-two b front back old between new before after = record {
    fetched = omega (arith, before.fetched, after.fetched, sum_by-append need front back);
    opens = subst (λ all. Opens b all old.log new.log) (sym (flat-two opened front back))
        (opens-two b (flat_map opened front) (flat_map opened back) old.log between.log new.log before.opens after.opens);
    few = omega (arith, before.few, after.few, sum_by-append most front back);
  }

  pub runs-front : (front back : List C) (old new : Tally) → Runs need opened most true front old new → Runs need opened most true (front ++ back) old new
  runs-front front back old new some = record {
    fetched = omega (arith, some.fetched, sum_by-append need front back);
    opens = subst (λ all. Opens true all old.log new.log) (sym (flat-two opened front back))
        (opens-front (flat_map opened front) (flat_map opened back) old.log new.log some.opens);
    few = omega (arith, some.few, sum_by-append most front back);
  }

  pub runs-all : (calls : List C) (old new : Tally) → Runs need opened most false calls old new → Runs need opened most true calls old new
  runs-all calls old new done = record { fetched = done.fetched; opens = opens-all (flat_map opened calls) old.log new.log done.opens; few = done.few }

  -- one search; one that does not pass reads and opens nothing
  pub runs-one : (passes : C → Bool) → ((call : C) → passes call ≡ false → (need call ≡ 0) × (opened call ≡ []) × (most call ≡ 0))
      → (starved : Bool) (call : C) (old new : Tally) → new.fetched ≤ old.fetched + need call → Opens starved (opened call) old.log new.log
      → new.log.opened ≤ old.log.opened + most call → Runs need opened most starved (take_while passes (call ∷ [])) old new
  runs-one passes none starved call old new fetched opens few = by (passes call) refl
    where
      by : (b : Bool) → passes call ≡ b → Runs need opened most starved (take_while passes (call ∷ [])) old new
      by true is = subst (λ cs. Runs need opened most starved cs old new) (sym (take_while-cons passes call [] ∙ ap (λ b. cond b (call ∷ []) []) is))
          (record {
            fetched = omega (arith, fetched, sum_by-cons need call []);
            opens = subst (λ all. Opens starved all old.log new.log) (sym (append-nil (opened call))) opens;
            few = omega (arith, few, sum_by-cons most call []);
          })
      by false is = subst (λ cs. Runs need opened most starved cs old new) (sym (take_while-cons passes call [] ∙ ap (λ b. cond b (call ∷ []) []) is))
          (record {
            fetched = omega (arith, fetched, (none call is).0);
            opens = subst (λ all. Opens starved all old.log new.log) (none call is).1 opens;
            few = omega (arith, few, (none call is).2);
          })

-- ---- up to the first that is refused

-- a search is answered only where it passes, and refused only where it does not
abbrev pub PassesAs : {A R : Type 0} → Result A (OneFault R) → Bool → Type 0
PassesAs (Ok answer) passes = passes ≡ true
PassesAs (Err (one.Refused refusal)) passes = passes ≡ false
PassesAs (Err one.NoMemory) passes = Unit {0}

abbrev pub starved_by : {R : Type 0} → MultiFault R → Bool
starved_by (multi.Query index refusal) = false
starved_by multi.NoMemory = true

module _ {S C A R : Type 0} (Leaves : S → C → Result A (OneFault R) → S → Type 0) (At : S → Type 0) (tally : S → Tally)
    (passes : C → Bool) (need : C → ℕ) (opened : C → List Opening) (most : C → ℕ) where
  -- what one search leaves
  pub record Stepped (call : C) (outcome : Result A (OneFault R)) (before after : S) : Type 0 where
    pub at : At after
    pub passed : PassesAs outcome (passes call)
    pub runs : Runs need opened most (has_starved outcome) (take_while passes (call ∷ [])) (tally before) (tally after)

  abbrev All : Bool → List C → Tally → Tally → Type 0
  All starved calls old new = Runs need opened most starved (take_while passes calls) old new

  passed-more : (call : C) (calls : List C) → passes call ≡ true → take_while passes (call ∷ calls) ≡ call ∷ take_while passes calls
  passed-more call calls is = take_while-cons passes call calls ∙ ap (λ b. cond b (call ∷ take_while passes calls) []) is

  refused-ends : (call : C) (calls : List C) → passes call ≡ false → take_while passes (call ∷ calls) ≡ []
  refused-ends call calls is = take_while-cons passes call calls ∙ ap (λ b. cond b (call ∷ take_while passes calls) []) is

  -- one that passes, and what comes after it
  all-more : (b : Bool) (call : C) (calls : List C) (old between new : Tally) → passes call ≡ true → All false (call ∷ []) old between → All b calls between new
      → All b (call ∷ calls) old new
  all-more b call calls old between new is first later =
      subst (λ cs. Runs need opened most b cs old new) (sym (passed-more call calls is))
      (runs-two need opened most b (call ∷ []) (take_while passes calls) old between new
      (subst (λ cs. Runs need opened most false cs old between) (passed-more call [] is) first) later)

  -- one that is refused ends all
  all-refused : (call : C) (calls : List C) (old new : Tally) → passes call ≡ false → All false (call ∷ []) old new → All false (call ∷ calls) old new
  all-refused call calls old new is first =
      subst (λ cs. Runs need opened most false cs old new) (refused-ends call [] is ∙ sym (refused-ends call calls is)) first

  -- and so does one that found no memory
  all-starved : (call : C) (calls : List C) (old new : Tally) → All true (call ∷ []) old new → All true (call ∷ calls) old new
  all-starved call calls old new first = by (passes call) refl
    where
      by : (b : Bool) → passes call ≡ b → All true (call ∷ calls) old new
      by true is = subst (λ cs. Runs need opened most true cs old new) (sym (passed-more call calls is))
          (runs-front need opened most (call ∷ []) (take_while passes calls) old new
          (subst (λ cs. Runs need opened most true cs old new) (passed-more call [] is) first))
      by false is = subst (λ cs. Runs need opened most true cs old new) (refused-ends call [] is ∙ sym (refused-ends call calls is)) first

  -- none of those that are left was made
  all-left : (calls : List C) (s : Tally) → All true calls s s
  all-left calls s = runs-front need opened most [] (take_while passes calls) s s (runs-all need opened most [] s s (runs-none need opened most s))

  module _ (step : (before after : S) (call : C) (outcome : Result A (OneFault R)) → At before → Leaves before call outcome after → Stepped call outcome before after) where
    -- searches that were answered, and any after them
    abbrev Goes : S → List C → S → Type 0
    Goes before calls after = At before → At after × ((b : Bool) (others : List C) (end : Tally) → All b others (tally after) end → All b (calls ++ others) (tally before) end)

    goes : (before after : S) (calls : List C) (answers : List A) → Chain Leaves before calls (map Ok answers) after → Goes before calls after
    goes = chain-holds Leaves Goes (λ s at. (at, λ b others end later. later))
        (λ before between after call calls answer leaves later at.
        let first = step before between call (Ok answer) at leaves in
        let rest = later first.at in (
          rest.0,
          λ b others end more.
              all-more b call (calls ++ others) (tally before) (tally between) end first.passed first.runs (rest.1 b others end more),
        ))

    pub ran-all : (before after : S) (calls : List C) (answers : List A) → At before → Chain Leaves before calls (map Ok answers) after
        → At after × All false calls (tally before) (tally after)
    ran-all before after calls answers at made =
        let all = goes before after calls answers made at in (
          all.0,
          subst (λ cs. All false cs (tally before) (tally after)) (append-nil calls)
              (all.1 false [] (tally after) (runs-none need opened most (tally after))),
        )

    -- a front, its last search, and those that were not made
    parted : (calls : List C) (n : ℕ) (front : List C) (call : C) → take n calls ≡ front ++ (call ∷ []) → front ++ (call ∷ drop n calls) ≡ calls
    parted calls n front call is =
        sym (append_assoc front (call ∷ []) (drop n calls)) ∙ ap (λ cs. cs ++ drop n calls) (sym is) ∙ take-append-drop n calls

    pub ran-until : (before after : S) (calls : List C) (fault : MultiFault R) → At before → RanUntil Leaves before calls fault after
        → At after × All (starved_by fault) calls (tally before) (tally after)
    ran-until before after calls (multi.Query index refusal) at ran =
        let last = chain-last Leaves before after (take (index + 1) calls) (map Ok ran.answers) (Err (one.Refused refusal)) ran.made in
        let all = goes before last.between last.front ran.answers last.made at in
        let end = step last.between after last.call (Err (one.Refused refusal)) all.0 last.step in (
          end.at,
          subst (λ cs. All false cs (tally before) (tally after)) (parted calls (index + 1) last.front last.call last.parts)
              (all.1 false (last.call ∷ drop (index + 1) calls) (tally after)
              (all-refused last.call (drop (index + 1) calls) (tally last.between) (tally after) end.passed end.runs)),
        )
    ran-until before after calls multi.NoMemory at ran = by ran.starved ran.made
      where
        by : (starved : Bool) → Chain Leaves before (take ran.number calls) (outcomes_of Leaves ran.answers starved) after → At after × All true calls (tally before) (tally after)
        by false made =
            let all = goes before after (take ran.number calls) ran.answers made at in (
              all.0,
              subst (λ cs. All true cs (tally before) (tally after)) (take-append-drop ran.number calls)
                  (all.1 true (drop ran.number calls) (tally after) (all-left (drop ran.number calls) (tally after))),
            )
        by true made =
            let last = chain-last Leaves before after (take ran.number calls) (map Ok ran.answers) (Err one.NoMemory) made in
            let all = goes before last.between last.front ran.answers last.made at in
            let end = step last.between after last.call (Err one.NoMemory) all.0 last.step in (
              end.at,
              subst (λ cs. All true cs (tally before) (tally after)) (parted calls ran.number last.front last.call last.parts)
                  (all.1 true (last.call ∷ drop ran.number calls) (tally after)
                  (all-starved last.call (drop ran.number calls) (tally last.between) (tally after) end.runs)),
            )
