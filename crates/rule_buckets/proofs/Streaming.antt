-- The streams of a query's levels, and what is taken from them.
use Rattle.std.proofs.Common.{◌≡◌, ℕ, zero, suc, map, min, nat_lt, flat_map, ◌<◌, ◌≤◌, ◌==◌, Bool, true, false, not, ◌&&◌, ◌||◌, cond, List, [], ◌∷◌, length, refl, sym, ap, ap₂, subst, ◌∙◌, ◌++◌, arith, Option, Some, None, is_some, IfSome, unwrap_or}
use Rattle.std.specs.List.{list_any, slice_get, AllByRecursion}
use Rattle.std.specs.Option.{option_and_then, option_map}
use Rattle.search_base.specs.declared.cost_key.CostKey.{CostKey}
use Rattle.search_base.specs.declared.cost_key.CostKey.TheVariants.{Number}
use Rattle.search_base.specs.declared.rule.Rule.{Rule}
use Rattle.search_base.specs.declared.rule.Rule.TheVariants.{Words, Proximity, Field, Position, Whole, Inexact, Up, Down}
use Rattle.search_base.specs.GraphView.{GraphView, LevelView}
use Rattle.search_base.specs.RowsView.{RowsView}
use Rattle.search_base.specs.Sums.{least_cost}
use Rattle.search_base.specs.Least.{least_by, lesser}
use Rattle.search_base.specs.Tuple.{cost_of, path_cost, entry}
use Rattle.doc_sets.specs.Sets.{has, union, IsIncreasing}
use Rattle.doc_sets.specs.SetView.{SetView}
use Rattle.doc_sets.proofs.SetLemmas.{has-union, has-filter, increasing-or_all, increasing-same}
use Rattle.condition_graph.specs.EdgesView.{EdgesView}
use Rattle.condition_graph.specs.Meets.{meets, IsRanked}
use Rattle.condition_graph.specs.Paths as conditions
use Rattle.condition_graph.specs.Promise.{GivesLeastCost}
use Rattle.search_base.proofs.MatchLemmas.{some-cost}
use Rattle.path_costs.proofs.ListLemmas.{slice_get-some, all-push, all-get}
use Rattle.path_costs.specs.Costs.{is_cost}
use Rattle.path_costs.specs.Costs as costs
use Rattle.bucket_sort.specs.Buckets.{IsBucket}
use Rattle.search_base.specs.CostOrder.{before}
use Rattle.rule_buckets.proofs.Members.{told, any-pushed, any-at, any-where, some-member, bucket-of}
use Rattle.rule_buckets.proofs.Levels.{matches-first}
use Rattle.rule_buckets.proofs.Listing.{has-left}
use Rattle.rule_buckets.specs.Listed.{left_from}
use Rattle.rule_buckets.specs.Entries.{QueryView, entry_in, entry_of, is_entry}
use Rattle.rule_buckets.specs.Rules.{is_path}
use Rattle.rule_buckets.specs.Streams.{LevelCostsView, ahead_ids, is_among, is_member, is_in_any, remaining_in, IsNext, IsCosts, cost_in, IsStream, IsReady, ComesFrom, next_cost, taken_at, left_at, without}

-- a document remains where it is one of some stream
pub has-remaining : {S : Type 0} (streams : List (LevelCostsView S)) (d : ℕ) → has (remaining_in streams) d ≡ is_in_any streams d
has-remaining [] d = refl
has-remaining (s ∷ ss) d =
    has-union (ahead_ids s.ahead) (union s.rest (remaining_in ss)) d
    ∙ ap (λ b. has (ahead_ids s.ahead) d || b) (has-union s.rest (remaining_in ss) d ∙ ap (λ b. has s.rest d || b) (has-remaining ss d))
    ∙ three (has (ahead_ids s.ahead) d) (has s.rest d) (list_any (λ t. is_member t d) ss)
  where
    three : (a b c : Bool) → (a || (b || c)) ≡ ((a || b) || c)
    three true b c = refl
    three false b c = refl

-- what is taken of a stream at a cost, and what is left of it
pub record IsSplit (entry : ℕ → CostKey) (cost : ℕ → Option ℕ) (n : ℕ) (ahead : Option (ℕ × SetView)) (rest : List ℕ) : Type 0 where
  pub taken : (d : ℕ) → has (taken_at n ahead) d ≡ (is_among ahead rest d && is_entry n (entry d))
  pub left : (d : ℕ) → is_among (left_at n ahead) rest d ≡ (is_among ahead rest d && not (is_entry n (entry d)))
  pub least : (d : ℕ) → is_among ahead rest d ≡ true → (x : ℕ) × (entry d ≡ Number x) × (n ≤ x)
  pub stream : IsCosts entry cost (left_at n ahead) rest

number-same : (x y : ℕ) → Number x ≡ Number y → x ≡ y
number-same x y e = cc

-- the entry of a document that comes next, and of one behind it
module _ (entry : ℕ → CostKey) (cost : ℕ → Option ℕ) (set : SetView) (rest : List ℕ) (c : ℕ)
    (known : (d : ℕ) → (has set.ids d || has rest d) ≡ true → (x : ℕ) × (cost d ≡ Some x) × (entry d ≡ Number x))
    (next : IsNext cost rest (c, set)) where
  pub entry-here : (d : ℕ) → has set.ids d ≡ true → entry d ≡ Number c
  entry-here d h =
      let k = known d (rw h refl) in
      let e : Some k.0 ≡ Some c = sym k.1 ∙ next.here d h in
      let f : k.0 ≡ c = cc in k.2 ∙ ap (λ x. Number x) f

  pub entry-behind : (d : ℕ) → has rest d ≡ true → (x : ℕ) × (entry d ≡ Number x) × (c < x)
  entry-behind d h =
      let k = known d (member (has set.ids d) (has rest d) h) in (k.0, k.2, next.later d k.0 h k.1)
    where
      member : (a b : Bool) → b ≡ true → (a || b) ≡ true
      member true b e = refl
      member false b e = e

  pub entry-least : (d : ℕ) → (has set.ids d || has rest d) ≡ true → (x : ℕ) × (entry d ≡ Number x) × (c ≤ x)
  entry-least d h = cases (has set.ids d) refl
    where
      cases : (b : Bool) → has set.ids d ≡ b → (x : ℕ) × (entry d ≡ Number x) × (c ≤ x)
      cases true e = (c, entry-here d e, omega arith)
      cases false e = let k = entry-behind d (sym (ap (λ b. b || has rest d) e) ∙ h) in (k.0, k.1, omega (arith, k.2))

other-entry : (n x : ℕ) (k : CostKey) → k ≡ Number x → n < x → is_entry n k ≡ false
other-entry n x k e less = rw e (grind (arith, less))

this-entry : (n x : ℕ) (k : CostKey) → k ≡ Number x → x ≡ n → is_entry n k ≡ true
this-entry n x k e same = rw e (grind (arith, same))

pub split : (entry : ℕ → CostKey) (n : ℕ) (cost : ℕ → Option ℕ) (ahead : Option (ℕ × SetView)) (rest : List ℕ)
    → IsCosts entry cost ahead rest → is_some ahead ≡ true → IfSome ahead (λ next. n ≤ next.0) → IsSplit entry cost n ahead rest
split entry n cost None rest is ready from = absurd (cc)
split entry n cost (Some (c, set)) rest is ready from = cases (c == n) refl
  where
    known : (d : ℕ) → (has set.ids d || has rest d) ≡ true → (x : ℕ) × (cost d ≡ Some x) × (entry d ≡ Number x)
    known = is.known

    nx : IsNext cost rest (c, set)
    nx = is.next

    cases : (b : Bool) → (c == n) ≡ b → IsSplit entry cost n (Some (c, set)) rest
    cases true e = record {
      taken = λ d. rw e (here d (has set.ids d) (has rest d) refl refl);
      left = λ d. rw e (behind d (has set.ids d) (has rest d) refl refl);
      least = λ d h. let k = entry-least entry cost set rest c known nx d h in (k.0, k.1, omega (arith, k.2, from));
      stream = rw e (record {
        known = λ d h. known d (more d h);
        next = tt;
      });
    }
      where
        same : c ≡ n
        same = grind arith

        more : (d : ℕ) → has rest d ≡ true → (has set.ids d || has rest d) ≡ true
        more d h = rw h (grind arith)

        here : (d : ℕ) (a b : Bool) → has set.ids d ≡ a → has rest d ≡ b → a ≡ ((a || b) && is_entry n (entry d))
        here d true b f g = sym (this-entry n c (entry d) (entry-here entry cost set rest c known nx d f) same)
        here d false true f g = let k = entry-behind entry cost set rest c known nx d g in sym (other-entry n k.0 (entry d) k.1 (omega (arith, k.2, same)))
        here d false false f g = refl

        behind : (d : ℕ) (a b : Bool) → has set.ids d ≡ a → has rest d ≡ b → b ≡ ((a || b) && not (is_entry n (entry d)))
        behind d true true f g =
            let k = entry-behind entry cost set rest c known nx d g in
            let eq : k.0 ≡ c = number-same k.0 c (sym k.1 ∙ entry-here entry cost set rest c known nx d f) in absurd (omega (arith, k.2, eq))
        behind d true false f g = sym (ap not (this-entry n c (entry d) (entry-here entry cost set rest c known nx d f) same))
        behind d false true f g = let k = entry-behind entry cost set rest c known nx d g in sym (ap not (other-entry n k.0 (entry d) k.1 (omega (arith, k.2, same))))
        behind d false false f g = refl
    cases false e = record {
      taken = λ d. rw e (none d (has set.ids d || has rest d) refl);
      left = λ d. rw e (all d (has set.ids d || has rest d) refl);
      least = λ d h. let k = entry-least entry cost set rest c known nx d h in (k.0, k.1, omega (arith, k.2, from));
      stream = rw e is;
    }
      where
        less : n < c
        less = grind (arith, from)

        none : (d : ℕ) (b : Bool) → (has set.ids d || has rest d) ≡ b → false ≡ (b && is_entry n (entry d))
        none d true f = let k = entry-least entry cost set rest c known nx d f in sym (other-entry n k.0 (entry d) k.1 (omega (arith, k.2, less)))
        none d false f = refl

        all : (d : ℕ) (b : Bool) → (has set.ids d || has rest d) ≡ b → b ≡ (b && not (is_entry n (entry d)))
        all d true f = let k = entry-least entry cost set rest c known nx d f in sym (ap not (other-entry n k.0 (entry d) k.1 (omega (arith, k.2, less))))
        all d false f = refl

-- the entry under a path rule of a document that a level matches first
pub path-entry : (rows : RowsView) (graph : GraphView) (rule : Rule) (k x : ℕ) (view : LevelView) → is_path rule ≡ true
    → slice_get graph.levels k ≡ Some view → is_cost k (cost_of rows.places graph.levels) ≡ true
    → least_cost rule rows.places view ≡ Some x → entry_of rows graph rule ≡ Number x
path-entry rows graph rule k x view path at first least =
    ap (λ l. entry rows graph l rule) (level (cost_of rows.places graph.levels) first)
    ∙ by-rule rule path
    ∙ ap (λ o. Number (unwrap_or (option_and_then (least_cost rule rows.places) o) 0)) at
    ∙ ap (λ o. Number (unwrap_or o 0)) least
  where
    level : (o : Option ℕ) → is_cost k o ≡ true → unwrap_or o (length graph.levels) ≡ k
    level None h = absurd (cc)
    level (Some n) h = grind arith

    by-rule : (r : Rule) → is_path r ≡ true → entry rows graph k r ≡ Number (path_cost r rows.places graph.levels k)
    by-rule Words h = absurd (cc)
    by-rule Proximity h = refl
    by-rule Field h = refl
    by-rule Position h = refl
    by-rule Whole h = absurd (cc)
    by-rule Inexact h = refl
    by-rule (Up p) h = absurd (cc)
    by-rule (Down p) h = absurd (cc)

-- some streams of which the documents that come next at a cost are taken, those that are left of them, and those to come
pub record AreTaken {S : Type 0} (rows : S → ℕ → RowsView) (query : QueryView S) (n : ℕ) (all ahead left : List (LevelCostsView S)) (found : List ℕ) : Type 0 where
  pub streams : AllByRecursion (IsStream rows query) left
  pub ready : AllByRecursion (IsReady rows query) ahead
  pub least : AllByRecursion (ComesFrom n) ahead
  pub taken : (d : ℕ) → (has found d || (is_in_any ahead d && is_entry n (entry_in rows query d))) ≡ (is_in_any all d && is_entry n (entry_in rows query d))
  pub rest : (d : ℕ) → (is_in_any left d || (is_in_any ahead d && not (is_entry n (entry_in rows query d))))
      ≡ (is_in_any all d && not (is_entry n (entry_in rows query d)))

-- a document that a level matches first has a cost by the conditions of the level, which is its entry
pub path-known : (rows : RowsView) (graph : GraphView) (rule : Rule) (k ranks : ℕ) (made : EdgesView) → is_path rule ≡ true
    → k < length graph.levels → IfSome (slice_get graph.levels k) (λ v. GivesLeastCost rule ranks v made)
    → AllByRecursion (IsRanked ranks) rows.places → is_cost k (cost_of rows.places graph.levels) ≡ true
    → (x : ℕ) × (conditions.path_cost (meets rows.places) made ≡ Some x) × (entry_of rows graph rule ≡ Number x)
path-known rows graph rule k ranks made path within gives ranked first =
    let v = slice_get-some graph.levels k within in
    let least = told (λ w. GivesLeastCost rule ranks w made) (slice_get graph.levels k) v.0 gives v.1 rows.places ranked in
    let there = some-cost rule rows.places v.0 ∙ matches-first graph.levels rows.places k v.0 v.1 first in
    by v.0 v.1 least (least_cost rule rows.places v.0) refl there
  where
    by : (view : LevelView) → slice_get graph.levels k ≡ Some view → conditions.path_cost (meets rows.places) made ≡ least_cost rule rows.places view
        → (o : Option ℕ) → least_cost rule rows.places view ≡ o → is_some o ≡ true
        → (x : ℕ) × (conditions.path_cost (meets rows.places) made ≡ Some x) × (entry_of rows graph rule ≡ Number x)
    by view e f None h s = absurd (cc)
    by view e f (Some x) h s = (x, f ∙ h, path-entry rows graph rule k x view path e first h)

-- the documents of a stream stay where a bucket of its costs is found
pub looked-same : (cost : ℕ → Option ℕ) (old new : List ℕ) (found : ℕ × SetView) → costs.IsBucket cost old new found.0 found.1.ids
    → (d : ℕ) → (has found.1.ids d || has new d) ≡ has old d
looked-same cost old new found bucket d =
    ap₂ (λ a b. a || b) (ap (λ l. has l d) bucket.docs_are ∙ has-filter (λ x. is_cost found.0 (cost x)) old d)
    (ap (λ l. has l d) bucket.rest_are ∙ has-filter (λ x. not (is_cost found.0 (cost x))) old d)
    ∙ both (has old d) (is_cost found.0 (cost d))
  where
    both : (a b : Bool) → ((a && b) || (a && not b)) ≡ a
    both true true = refl
    both true false = refl
    both false b = refl

-- a stream of which nothing is known yet, after a bucket of its costs is found
pub looked-ahead : (entry : ℕ → CostKey) (cost after : ℕ → Option ℕ) (old new : List ℕ) (found : ℕ × SetView) → after ≡ cost
    → IsCosts entry cost None old → costs.IsBucket cost old new found.0 found.1.ids → IsCosts entry after (Some found) new
looked-ahead entry cost after old new found same is bucket = subst (λ (f : ℕ → Option ℕ). IsCosts entry f (Some found) new) (sym same) (record {
  known = λ d h. is.known d (sym (looked-same cost old new found bucket d) ∙ h);
  next = record {
    some = bucket.some;
    here = λ d h. of-cost (has old d) (cost d) (sym (ap (λ l. has l d) bucket.docs_are ∙ has-filter (λ x. is_cost found.0 (cost x)) old d) ∙ h);
    later = λ d x h e. behind d x e (has old d) refl (sym (ap (λ l. has l d) bucket.rest_are ∙ has-filter (λ y. not (is_cost found.0 (cost y))) old d) ∙ h);
  };
})
  where
    of-cost : (b : Bool) (o : Option ℕ) → (b && is_cost found.0 o) ≡ true → o ≡ Some found.0
    of-cost true None h = absurd (cc)
    of-cost true (Some n) h = let e : n ≡ found.0 = grind arith in ap (λ m. Some m) e
    of-cost false o h = absurd (cc)

    behind : (d x : ℕ) → cost d ≡ Some x → (b : Bool) → has old d ≡ b → (has old d && not (is_cost found.0 (cost d))) ≡ true → found.0 < x
    behind d x e true f h =
        let least = bucket.is_least d x f e in
        let other : not (x == found.0) ≡ true = sym (ap₂ (λ b o. b && not (is_cost found.0 o)) f e) ∙ h in
        grind (arith, least, other)
    behind d x e false f h = absurd (let g : false ≡ true = sym (ap (λ b. b && not (is_cost found.0 (cost d))) f) ∙ h in cc)

-- a stream whose documents have no cost has ended
pub ended : (entry : ℕ → CostKey) (cost : ℕ → Option ℕ) (rest : List ℕ) → IsCosts entry cost None rest → ((d : ℕ) → has rest d ≡ true → cost d ≡ None)
    → (d : ℕ) → has rest d ≡ false
ended entry cost rest is none d = by (has rest d) refl
  where
    by : (b : Bool) → has rest d ≡ b → b ≡ false
    by true h = absurd (let k = is.known d h in let e = none d h in let f = k.1 in cc)
    by false h = refl

-- a stream of which all that comes next is taken
pub left-none : {S : Type 0} (s : LevelCostsView S) (cost here : ℕ) (docs : SetView) → s.ahead ≡ Some (here, docs) → here ≡ cost
    → record { source = s.source; graph = s.graph; ahead = None; rest = s.rest } ≡ without cost s
left-none {S} s cost here docs e f =
    ap (λ (o : Option (ℕ × SetView)). record { source = s.source; graph = s.graph; ahead = o; rest = s.rest }) (sym (ap (left_at cost) e ∙ gone (here == cost) (grind (arith, f))))
  where
    gone : (b : Bool) → b ≡ true → ◌≡◌ {A = Option (ℕ × SetView)} (cond b None (Some (here, docs))) None
    gone true h = refl
    gone false h = absurd (cc)

pub taken-all : (ahead : Option (ℕ × SetView)) (cost here : ℕ) (docs : SetView) → ahead ≡ Some (here, docs) → here ≡ cost → taken_at cost ahead ≡ docs.ids
taken-all ahead cost here docs e f = ap (taken_at cost) e ∙ all (here == cost) (grind (arith, f))
  where
    all : (b : Bool) → b ≡ true → ◌≡◌ {A = List ℕ} (cond b docs.ids []) docs.ids
    all true h = refl
    all false h = absurd (cc)

-- one stream more is gone through
pub taken-more : {S : Type 0} (rows : S → ℕ → RowsView) (query : QueryView S) (n : ℕ) (all rest left new : List (LevelCostsView S)) (s : LevelCostsView S)
    (found more : List ℕ) → AreTaken rows query n all (s ∷ rest) left found → ((d : ℕ) → has more d ≡ (has found d || has (taken_at n s.ahead) d))
    → new ≡ left ++ without n s ∷ [] → AreTaken rows query n all rest new more
taken-more rows query n all rest left new s found more are is e =
    let entry = entry_in rows query in
    let part = split entry n (cost_in rows s) s.ahead s.rest are.ready.0.0 are.ready.0.1 are.least.0 in
    record {
      streams = subst (λ l. AllByRecursion (IsStream rows query) l) (sym e) (all-push (IsStream rows query) left (without n s) are.streams part.stream);
      ready = are.ready.1;
      least = are.least.1;
      taken = λ d.
          ap₂ (λ a b. a || (b && is_entry n (entry d))) (is d ∙ ap (λ b. has found d || b) (part.taken d)) refl
          ∙ three (has found d) (is_member s d) (is_in_any rest d) (is_entry n (entry d)) ∙ are.taken d;
      rest = λ d.
          ap (λ b. b || (is_in_any rest d && not (is_entry n (entry d)))) (any-pushed (λ t. is_member t d) left new (without n s) e ∙ ap (λ b. is_in_any left d || b) (part.left d))
          ∙ three (is_in_any left d) (is_member s d) (is_in_any rest d) (not (is_entry n (entry d))) ∙ are.rest d;
    }
  where
    three : (a b c t : Bool) → ((a || (b && t)) || (c && t)) ≡ (a || ((b || c) && t))
    three true b c t = refl
    three false true c true = refl
    three false true c false = and-false c
      where
        and-false : (b : Bool) → (b && false) ≡ false
        and-false true = refl
        and-false false = refl
    three false false c t = refl

-- the least cost that comes next is no greater than any
pub least-all : {S : Type 0} (ss : List (LevelCostsView S)) (m : ℕ) → (r : Option ℕ) → least_by next_cost ss ≡ r → IfSome r (λ least. m ≤ least)
    → AllByRecursion (ComesFrom m) ss
least-all [] m r e h = tt
least-all (s ∷ ss) m r e h = (here s.ahead (least_by next_cost ss) (subst (λ o. IfSome o (λ least. m ≤ least)) (sym e) h), least-all ss m (least_by next_cost ss) refl (rest s.ahead (least_by next_cost ss) (subst (λ o. IfSome o (λ least. m ≤ least)) (sym e) h)))
  where
    here : (a : Option (ℕ × SetView)) (o : Option ℕ) → IfSome (lesser (option_map (λ next. next.0) a) o) (λ least. m ≤ least) → IfSome a (λ next. m ≤ next.0)
    here None o h = tt
    here (Some n) None h = h
    here (Some n) (Some k) h = omega (arith, h)

    rest : (a : Option (ℕ × SetView)) (o : Option ℕ) → IfSome (lesser (option_map (λ next. next.0) a) o) (λ least. m ≤ least) → IfSome o (λ least. m ≤ least)
    rest a None h = tt
    rest None (Some k) h = h
    rest (Some n) (Some k) h = omega (arith, h)

-- and it is one of them
pub least-one : {S : Type 0} (ss : List (LevelCostsView S)) (m : ℕ) → least_by next_cost ss ≡ Some m
    → (k : ℕ) × (s : LevelCostsView S) × (slice_get ss k ≡ Some s) × (next_cost s ≡ Some m)
least-one [] m e = absurd (cc)
least-one {S} (s ∷ ss) m e = by (next_cost s) refl (least_by next_cost ss) refl (least-one ss m) e
  where
    by : (a : Option ℕ) → next_cost s ≡ a → (o : Option ℕ) → least_by next_cost ss ≡ o
        → (least_by next_cost ss ≡ Some m → (k : ℕ) × (t : LevelCostsView S) × (slice_get ss k ≡ Some t) × (next_cost t ≡ Some m))
        → lesser (next_cost s) (least_by next_cost ss) ≡ Some m
        → (k : ℕ) × (t : LevelCostsView S) × (slice_get (s ∷ ss) k ≡ Some t) × (next_cost t ≡ Some m)
    by None f o g deeper h = let w = deeper (sym (ap (λ x. lesser x (least_by next_cost ss)) f) ∙ h) in (suc w.0, w.1, w.2, w.3)
    by (Some n) f None g deeper h = (zero, s, refl, f ∙ sym (ap₂ lesser f g) ∙ h)
    by (Some n) f (Some k) g deeper h =
        let least : Some (min n k) ≡ Some m = sym (ap₂ lesser f g) ∙ h in
        let is : min n k ≡ m = cc in
        which (nat_lt k n) refl is
      where
        which : (b : Bool) → nat_lt k n ≡ b → min n k ≡ m → (i : ℕ) × (t : LevelCostsView S) × (slice_get (s ∷ ss) i ≡ Some t) × (next_cost t ≡ Some m)
        which true l is =
            let same : k ≡ m = grind (arith, l, is) in
            let w = deeper (g ∙ ap (λ x. Some x) same) in (suc w.0, w.1, w.2, w.3)
        which false l is =
            let same : n ≡ m = grind (arith, l, is) in (zero, s, refl, f ∙ ap (λ x. Some x) same)

-- where nothing comes next in streams of which it is known what comes next, there is none
pub none-ready : {S : Type 0} (rows : S → ℕ → RowsView) (query : QueryView S) (ss : List (LevelCostsView S)) → AllByRecursion (IsReady rows query) ss
    → least_by next_cost ss ≡ None → ss ≡ []
none-ready rows query [] all e = refl
none-ready rows query (s ∷ ss) all e = absurd (by s.ahead all.0.1 (least_by next_cost ss) e)
  where
    by : (a : Option (ℕ × SetView)) → is_some a ≡ true → (o : Option ℕ) → lesser (option_map (λ next. next.0) a) o ≡ None → ⊥
    by None h o e = cc
    by (Some n) h None e = cc
    by (Some n) h (Some k) e = cc

-- what is taken at the least cost is a bucket
pub next-bucket : {S : Type 0} (rows : S → ℕ → RowsView) (query : QueryView S) (streams ready left : List (LevelCostsView S)) (docs : List ℕ) (m : ℕ)
    → AllByRecursion (IsReady rows query) ready → ((d : ℕ) → is_in_any ready d ≡ is_in_any streams d) → least_by next_cost ready ≡ Some m
    → ((d : ℕ) → has docs d ≡ (is_in_any ready d && is_entry m (entry_in rows query d)))
    → ((d : ℕ) → is_in_any left d ≡ (is_in_any ready d && not (is_entry m (entry_in rows query d)))) → IsIncreasing docs
    → IsBucket before (entry_in rows query) (remaining_in streams) (remaining_in left) (Number m) docs
next-bucket {S} rows query streams ready left docs m all same least taken rest inc =
    bucket-of entry (remaining_in streams) (remaining_in left) docs m (increasing-or_all (parts streams)) (increasing-or_all (parts left)) inc some
    (λ d. taken d ∙ ap (λ b. b && is_entry m (entry d)) (old d))
    (λ d. has-remaining left d ∙ rest d ∙ ap (λ b. b && not (is_entry m (entry d))) (old d))
    (λ d h. at-least d (same d ∙ sym (has-remaining streams d) ∙ h))
  where
    entry : ℕ → CostKey
    entry = entry_in rows query

    parts : List (LevelCostsView S) → List (List ℕ)
    parts l = flat_map (λ s. ahead_ids s.ahead ∷ (s.rest ∷ [])) l

    old : (d : ℕ) → is_in_any ready d ≡ has (remaining_in streams) d
    old d = same d ∙ sym (has-remaining streams d)

    from : AllByRecursion (ComesFrom m) ready
    from = least-all ready m (Some m) least (omega arith)

    at-least : (d : ℕ) → is_in_any ready d ≡ true → (x : ℕ) × (entry d ≡ Number x) × (m ≤ x)
    at-least d h =
        let w = any-where (λ s. is_member s d) ready h in
        let r = all-get (IsReady rows query) ready w.0 w.1 all w.2 in
        (split entry m (cost_in rows w.1) w.1.ahead w.1.rest r.0 r.1 (all-get (ComesFrom m) ready w.0 w.1 from w.2)).least d w.3

    some-in : (xs : List ℕ) (d : ℕ) → has xs d ≡ true → 0 < length xs
    some-in [] d h = absurd (cc)
    some-in (x ∷ xs) d h = omega arith

    some : 0 < length docs
    some =
        let w = least-one ready m least in
        let r = all-get (IsReady rows query) ready w.0 w.1 all w.2 in
        by w.0 w.1 w.2 w.1.ahead refl w.3 r.0
      where
        by : (k : ℕ) (s : LevelCostsView S) → slice_get ready k ≡ Some s → (a : Option (ℕ × SetView)) → s.ahead ≡ a → next_cost s ≡ Some m → IsStream rows query s → 0 < length docs
        by k s e None f h is = absurd (let g : None ≡ Some m = sym (ap (option_map (λ next. next.0)) f) ∙ h in cc)
        by k s e (Some n) f h is =
            let cost : Some n.0 ≡ Some m = sym (ap (option_map (λ next. next.0)) f) ∙ h in
            let same-cost : n.0 ≡ m = cc in
            let next = told (IsNext (cost_in rows s) s.rest) s.ahead n is.next f in
            let one = some-member n.1.ids next.some in
            let member : is_member s one.0 ≡ true = ap (λ (o : Option (ℕ × SetView)). is_among o s.rest one.0) f ∙ ap (λ b. b || has s.rest one.0) one.1 in
            let k1 = is.known one.0 member in
            let x : Some k1.0 ≡ Some n.0 = sym k1.1 ∙ next.here one.0 one.1 in
            let y : k1.0 ≡ n.0 = cc in
            some-in docs one.0 (taken one.0 ∙ ap₂ (λ a b. a && b) (any-at (λ t. is_member t one.0) ready k s e member) (this-entry m k1.0 (entry one.0) k1.2 (y ∙ same-cost)))

-- when all streams are gone through
pub taken-end : {S : Type 0} (rows : S → ℕ → RowsView) (query : QueryView S) (n : ℕ) (all given rest left : List (LevelCostsView S)) (found : List ℕ)
    → AreTaken rows query n all rest left found → rest ≡ [] → all ≡ given
    → ((d : ℕ) → has found d ≡ (is_in_any given d && is_entry n (entry_in rows query d)))
    × ((d : ℕ) → is_in_any left d ≡ (is_in_any given d && not (is_entry n (entry_in rows query d))))
taken-end {S} rows query n all given rest left found are none same = (
  λ d. sym (end (has found d) rest none d (is_entry n (entry_in rows query d))) ∙ are.taken d ∙ ap (λ l. is_in_any l d && is_entry n (entry_in rows query d)) same,
  λ d. sym (end (is_in_any left d) rest none d (not (is_entry n (entry_in rows query d)))) ∙ are.rest d ∙ ap (λ l. is_in_any l d && not (is_entry n (entry_in rows query d))) same,
)
  where
    end : (b : Bool) (ss : List (LevelCostsView S)) → ss ≡ [] → (d : ℕ) (t : Bool) → (b || (is_in_any ss d && t)) ≡ b
    end true ss e d t = refl
    end false ss e d t = ap (λ l. is_in_any l d && t) e

-- a stream is looked ahead of more
pub ahead-more : {S : Type 0} (rows : S → ℕ → RowsView) (query : QueryView S) (rest ready new all old : List (LevelCostsView S)) (s t : LevelCostsView S)
    → AllByRecursion (IsReady rows query) ready → AllByRecursion (IsStream rows query) old → old ≡ s ∷ rest → IsReady rows query t
    → ((d : ℕ) → is_member t d ≡ is_member s d) → ((d : ℕ) → (is_in_any ready d || is_in_any old d) ≡ is_in_any all d) → new ≡ ready ++ t ∷ []
    → AllByRecursion (IsReady rows query) new × AllByRecursion (IsStream rows query) rest × ((d : ℕ) → (is_in_any new d || is_in_any rest d) ≡ is_in_any all d)
ahead-more {S} rows query rest ready new all old s t are left e is same any f = (
  subst (λ l. AllByRecursion (IsReady rows query) l) (sym f) (all-push (IsReady rows query) ready t are is),
  (subst (λ l. AllByRecursion (IsStream rows query) l) e left).1,
  λ d. ap (λ b. b || is_in_any rest d) (any-pushed (λ x. is_member x d) ready new t f ∙ ap (λ b. is_in_any ready d || b) (same d))
      ∙ three (is_in_any ready d) (is_member s d) (is_in_any rest d) ∙ ap (λ l. is_in_any ready d || is_in_any l d) (sym e) ∙ any d,
)
  where
    three : (a b c : Bool) → ((a || b) || c) ≡ (a || (b || c))
    three true b c = refl
    three false b c = refl

pub ahead-end : {S : Type 0} (ready rest all given : List (LevelCostsView S)) → ((d : ℕ) → (is_in_any ready d || is_in_any rest d) ≡ is_in_any all d)
    → rest ≡ [] → all ≡ given → (d : ℕ) → is_in_any ready d ≡ is_in_any given d
ahead-end ready rest all given any none same d =
    sym (either (is_in_any ready d)) ∙ ap (λ l. is_in_any ready d || is_in_any l d) (sym none) ∙ any d ∙ ap (λ l. is_in_any l d) same
  where
    either : (b : Bool) → (b || false) ≡ b
    either true = refl
    either false = refl

-- the streams of all levels have the documents of the levels
pub same-remaining : {S : Type 0} (streams : List (LevelCostsView S)) (rest all levels : List SetView)
    → ((d : ℕ) → (is_in_any streams d || list_any (λ s. has s.ids d) rest) ≡ list_any (λ s. has s.ids d) all) → rest ≡ [] → all ≡ levels
    → remaining_in streams ≡ left_from 0 levels
same-remaining streams rest all levels any none same =
    increasing-same (remaining_in streams) (left_from 0 levels) (increasing-or_all (flat_map (λ s. ahead_ids s.ahead ∷ (s.rest ∷ [])) streams)) (increasing-or_all (map (λ s. s.ids) levels)) (λ d.
    has-remaining streams d ∙ sym (either (is_in_any streams d)) ∙ ap (λ l. is_in_any streams d || list_any (λ (s : SetView). has s.ids d) l) (sym none) ∙ any d
    ∙ ap (list_any (λ (s : SetView). has s.ids d)) same ∙ sym (has-left 0 levels d))
  where
    either : (b : Bool) → (b || false) ≡ b
    either true = refl
    either false = refl

-- one level more
pub pushed-more : {S : Type 0} (streams new : List (LevelCostsView S)) (rest next all : List SetView) (docs : SetView)
    → ((d : ℕ) → (is_in_any streams d || list_any (λ s. has s.ids d) rest) ≡ list_any (λ s. has s.ids d) all) → rest ≡ docs ∷ next
    → ((d : ℕ) → is_in_any new d ≡ (is_in_any streams d || has docs.ids d))
    → (d : ℕ) → (is_in_any new d || list_any (λ s. has s.ids d) next) ≡ list_any (λ s. has s.ids d) all
pushed-more streams new rest next all docs any e same d =
    ap (λ b. b || list_any (λ (s : SetView). has s.ids d) next) (same d)
    ∙ three (is_in_any streams d) (has docs.ids d) (list_any (λ (s : SetView). has s.ids d) next)
    ∙ ap (λ l. is_in_any streams d || list_any (λ (s : SetView). has s.ids d) l) (sym e) ∙ any d
  where
    three : (a b c : Bool) → ((a || b) || c) ≡ (a || (b || c))
    three true b c = refl
    three false b c = refl
