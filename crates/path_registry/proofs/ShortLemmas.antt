-- Names of few bytes, which stand as numbers: the numbers of one length tell their names apart.
use Rattle.std.proofs.Common.{◌≡◌, ℕ, zero, suc, ◌+◌, ◌*◌, ◌/◌, ◌%◌, ◌^◌, ◌<◌, ◌≤◌, Bool, true, false, cond, List, [], ◌∷◌, ◌++◌, length, Option, None, Some, refl, sym, ap, ap₂, ◌∙◌, subst, arith, rules, drop, get_or}
use Rattle.std.specs.Prelude.{bytes_eq}
use Rattle.std.specs.Option.{is_some}
use Rattle.std.specs.Map.{lookup}
use Rattle.std.specs.BTreeMap.{BTreeMap, is_at, get, UpdatesBy}
use Rattle.std.specs.Ordering.{nat_cmp, is_eq}
use Rattle.std.specs.Cmp.Lexicographic.{slice_cmp}
use Rattle.std.proofs.lemmas.Bool.{cond-true, cond-false}
use Rattle.std.proofs.lemmas.Bool.Decides.{nat_tests}
use Rattle.std.proofs.lemmas.List.{at_drop_more}
use Rattle.std.proofs.lemmas.Grind.{pow_more}
use Rattle.std.proofs.lemmas.Nat.{mul-le, div-mul-add, mod-mul-add, div-add-mod', mod_below}
use Rattle.search_base.specs.Heads.{head_from, AreBytes}
use Rattle.path_registry.specs.Names.{Names, is_kept}
use Rattle.path_registry.specs.ShortNames.{is_short, stands_short, short_key, name_of, short_names, names_of, AreOthers}
use Rattle.path_registry.proofs.NameLemmas.{same_bytes, bytes_same, none_kept, none_is_some, lookup-names, lookup-updated}
use Rattle.path_registry.proofs.ShelfLemmas.{is_same, is_itself}

power : (n : ℕ) → 256 ^ suc n ≡ 256 ^ n * 256
power n = let next : suc n ≡ n + 1 = omega arith in ap (λ (k : ℕ). 256 ^ k) next ∙ pow_more 256 n

positive : (n : ℕ) → 0 < 256 ^ n
positive zero = omega arith
positive (suc n) = let p = positive n in omega (arith, p, power n)

rest : (b : ℕ) (bytes : List ℕ) → AreBytes (b ∷ bytes) → AreBytes bytes
rest b bytes are k = are (suc k)

bound : (bytes : List ℕ) → AreBytes bytes → head_from (length bytes) bytes < 256 ^ length bytes
unfolding head_from
bound [] are = omega arith
bound (b ∷ bytes) are =
    let low = bound bytes (rest b bytes are) in
    let first : b < 256 = are 0 in
    let most : b * 256 ^ length bytes ≤ 255 * 256 ^ length bytes = mul-le b (256 ^ length bytes) 255 (256 ^ length bytes) (omega (arith, first)) (omega arith) in
    omega (arith, low, most, power (length bytes))

-- ---- a name's number

-- the number of these bytes behind those of another number
abbrev pub number_behind : ℕ → List ℕ → ℕ
number_behind n bytes = n * 256 ^ length bytes + head_from (length bytes) bytes

spread : (n b p : ℕ) → n * (p * 256) + b * p ≡ (n * 256 + b) * p
spread n b p = grind arith

pub behind-more : (n b : ℕ) (bytes : List ℕ) → number_behind n (b ∷ bytes) ≡ number_behind (n * 256 + b) bytes
unfolding head_from
behind-more n b bytes =
    let p = 256 ^ length bytes in
    let more = ap (λ (k : ℕ). n * k) (power (length bytes)) in
    omega (arith, more, spread n b p)

pub behind-none : (n : ℕ) → number_behind n [] ≡ n
unfolding head_from
behind-none n = omega arith

powers : (m n : ℕ) → m ≤ n → 256 ^ m ≤ 256 ^ n
powers m zero h = let e : m ≡ 0 = omega (arith, h) in rw e (omega arith)
powers zero (suc n) h = let p = positive (suc n) in omega (arith, p)
powers (suc m) (suc n) h = let p = powers m n (omega (arith, h)) in omega (arith, p, power m, power n)

pub number-fits : (bytes : List ℕ) → AreBytes bytes → length bytes ≤ 8 → head_from (length bytes) bytes < 18446744073709551616
number-fits bytes are few = let low = bound bytes are in let most = powers (length bytes) 8 few in omega (arith, low, most)

pub behind-first : (bytes : List ℕ) → number_behind 0 bytes ≡ head_from (length bytes) bytes
behind-first bytes = omega arith

pub behind-fits : (bytes : List ℕ) (i n : ℕ) → AreBytes bytes → length bytes ≤ 8 → i < length bytes
    → number_behind n (drop i bytes) ≡ head_from (length bytes) bytes → n * 256 + get_or bytes i 0 < 18446744073709551616
behind-fits bytes i n are few some h =
    let fits = number-fits bytes are few in
    let next = sym (at_drop_more (number_behind n) bytes i 0 some) ∙ h in
    let more = sym (behind-more n (get_or bytes i 0) (drop (i + 1) bytes)) ∙ next in
    let least = positive (length (drop (i + 1) bytes)) in
    let most : (n * 256 + get_or bytes i 0) * 1 ≤ (n * 256 + get_or bytes i 0) * 256 ^ length (drop (i + 1) bytes)
    = mul-le (n * 256 + get_or bytes i 0) 1 (n * 256 + get_or bytes i 0) (256 ^ length (drop (i + 1) bytes)) (omega arith) (omega (arith, least)) in
    omega (arith, fits, more, most)

pub name_of-head : (name : List ℕ) → AreBytes name → name_of (length name) (head_from (length name) name) ≡ name
unfolding head_from name_of
name_of-head [] are = refl
name_of-head (b ∷ name) are =
    let low = bound name (rest b name are) in
    ap₂ (λ c cs. c ∷ cs) (div-mul-add b (256 ^ length name) (head_from (length name) name) low)
    (ap (name_of (length name)) (mod-mul-add b (256 ^ length name) (head_from (length name) name) low) ∙ name_of-head name (rest b name are))

head-low : (n key : ℕ) → key < 256 ^ n → head_from n (name_of n key) ≡ key
unfolding head_from name_of
head-low zero key low = omega (arith, low)
head-low (suc n) key low = ap (λ v. key / 256 ^ n * 256 ^ n + v) (head-low n (key % 256 ^ n) (mod_below key (256 ^ n) (positive n))) ∙ div-add-mod' key (256 ^ n)

pub head-name_of : (n key : ℕ) → head_from (suc n) (name_of (suc n) key) ≡ key
unfolding head_from name_of
head-name_of n key = ap (λ v. key / 256 ^ n * 256 ^ n + v) (head-low n (key % 256 ^ n) (mod_below key (256 ^ n) (positive n))) ∙ div-add-mod' key (256 ^ n)

length-name_of : (n key : ℕ) → length (name_of n key) ≡ n
unfolding name_of
length-name_of zero key = refl
length-name_of (suc n) key = ap suc (length-name_of n (key % 256 ^ n))

-- ---- names that stand as numbers

same_tests : (a b : Bool) → (a ≡ true → b ≡ true) → (b ≡ true → a ≡ true) → a ≡ b
same_tests true b f g = sym (f refl)
same_tests false true f g = g refl
same_tests false false f g = refl

abbrev head : ℕ → List ℕ → ℕ
head n q = head_from (suc n) q

abbrev name : ℕ → ℕ → List ℕ
name n key = name_of (suc n) key

-- a name that is that of a number is that of its own
own : (n key : ℕ) (q : List ℕ) → bytes_eq q (name n key) ≡ true → head n q ≡ key
own n key q h = ap (head n) (same_bytes q (name n key) h) ∙ head-name_of n key

spelled : (n : ℕ) (q : List ℕ) (es : List (ℕ × Option ℕ)) → name n (head n q) ≡ q
    → lookup (bytes_eq q) (short_names (suc n) es) ≡ lookup (is_at (nat_cmp (head n q))) es
spelled n q [] h = refl
spelled n q (e ∷ es) h =
    ap (λ b. cond b (Some e.1) (lookup (bytes_eq q) (short_names (suc n) es))) (same_tests (bytes_eq q (name n e.0)) (is_eq (nat_cmp (head n q) e.0))
    (λ s. ap (λ k. is_eq (nat_cmp (head n q) k)) (sym (own n e.0 q s)) ∙ is_itself (head n q))
    (λ s. bytes_same q (name n e.0) (sym h ∙ ap (name n) (is_same (head n q) e.0 s))))
    ∙ ap (λ v. cond (is_eq (nat_cmp (head n q) e.0)) (Some e.1) v) (spelled n q es h)

unspelled : (n : ℕ) (q : List ℕ) (es : List (ℕ × Option ℕ)) → bytes_eq q (name n (head n q)) ≡ false → lookup (bytes_eq q) (short_names (suc n) es) ≡ None
unspelled n q [] h = refl
unspelled n q (e ∷ es) h = by (unspelled n q es h) (bytes_eq q (name n e.0)) refl
  where
    by : lookup (bytes_eq q) (short_names (suc n) es) ≡ None → (b : Bool) → b ≡ bytes_eq q (name n e.0) → lookup (bytes_eq q) (short_names (suc n) (e ∷ es)) ≡ None
    by again true s = absurd (none_is_some (sym h ∙ ap (λ k. bytes_eq q (name n k)) (own n e.0 q (sym s)) ∙ sym s))
    by again false s = cond-false _ _ _ (sym s) ∙ again

-- a name of another length is not there
unlike : (n : ℕ) (q : List ℕ) (es : List (ℕ × Option ℕ)) → (length q ≡ n → ⊥) → lookup (bytes_eq q) (short_names n es) ≡ None
unlike n q [] other = refl
unlike n q (e ∷ es) other = by (unlike n q es other) (bytes_eq q (name_of n e.0)) refl
  where
    by : lookup (bytes_eq q) (short_names n es) ≡ None → (b : Bool) → b ≡ bytes_eq q (name_of n e.0) → lookup (bytes_eq q) (short_names n (e ∷ es)) ≡ None
    by again true s = absurd (other (ap length (same_bytes q (name_of n e.0) (sym s)) ∙ length-name_of n e.0))
    by again false s = cond-false _ _ _ (sym s) ∙ again

updated : (n : ℕ) (named q : List ℕ) (old new : BTreeMap ℕ (Option ℕ)) (w : Option (Option ℕ)) → name n (head n named) ≡ named → UpdatesBy nat_cmp (nat_cmp (head n named)) old new w
    → lookup (bytes_eq q) (short_names (suc n) new.entries) ≡ cond (bytes_eq named q) w (lookup (bytes_eq q) (short_names (suc n) old.entries))
updated n named q old new w spells h = by (bytes_eq q (name n (head n q))) refl
  where
    by : (b : Bool) → b ≡ bytes_eq q (name n (head n q))
        → lookup (bytes_eq q) (short_names (suc n) new.entries) ≡ cond (bytes_eq named q) w (lookup (bytes_eq q) (short_names (suc n) old.entries))
    by true s =
        let spells-q : name n (head n q) ≡ q = sym (same_bytes q (name n (head n q)) (sym s)) in
        spelled n q new.entries spells-q ∙ h.0 (head n q)
        ∙ ap (λ b. cond b w (lookup (is_at (nat_cmp (head n q))) old.entries)) (same_tests (is_eq (nat_cmp (head n named) (head n q))) (bytes_eq named q)
        (λ t. bytes_same named q (sym spells ∙ ap (name n) (is_same (head n named) (head n q) t) ∙ spells-q))
        (λ t. ap (λ v. is_eq (nat_cmp (head n named) (head n v))) (sym (same_bytes named q t)) ∙ is_itself (head n named)))
        ∙ ap (cond (bytes_eq named q) w) (sym (spelled n q old.entries spells-q))
    by false s =
        unspelled n q new.entries (sym s)
        ∙ sym (cond-false _ _ _ (apart (bytes_eq named q) refl) ∙ unspelled n q old.entries (sym s))
      where
        apart : (b : Bool) → b ≡ bytes_eq named q → bytes_eq named q ≡ false
        apart true t = absurd (none_is_some (s ∙ bytes_same q (name n (head n q)) (sym (ap (λ v. name n (head n v)) (sym (same_bytes named q (sym t))) ∙ spells ∙ same_bytes named q (sym t)))))
        apart false t = sym t

-- ---- both kinds of names on a shelf

abbrev either : {X : Type 0} → Option X → Option X → Option X
either (Some x) o = Some x
either None o = o

lookup-either : (q : List ℕ) (names more : Names) → lookup (bytes_eq q) (names ++ more) ≡ either (lookup (bytes_eq q) names) (lookup (bytes_eq q) more)
lookup-either q [] more = refl
lookup-either q (e ∷ names) more = by (lookup-either q names more) (bytes_eq q e.0) refl
  where
    by : lookup (bytes_eq q) (names ++ more) ≡ either (lookup (bytes_eq q) names) (lookup (bytes_eq q) more) → (b : Bool) → b ≡ bytes_eq q e.0 → lookup (bytes_eq q) ((e ∷ names) ++ more) ≡ either (lookup (bytes_eq q) (e ∷ names)) (lookup (bytes_eq q) more)
    by again true s = cond-true _ _ _ (sym s) ∙ ap (λ o. either o (lookup (bytes_eq q) more)) (sym (cond-true _ _ _ (sym s)))
    by again false s = cond-false _ _ _ (sym s) ∙ again ∙ ap (λ o. either o (lookup (bytes_eq q) more)) (sym (cond-false _ _ _ (sym s)))

either-none : {X : Type 0} (o p : Option X) → p ≡ None → either o p ≡ o
either-none (Some x) p h = refl
either-none None p h = h

first-updated : {X : Type 0} (b : Bool) (w o p : Option X) → (b ≡ true → p ≡ None) → either (cond b w o) p ≡ cond b w (either o p)
first-updated true w o p h = either-none w p (h refl)
first-updated false w o p h = refl

second-updated : {X : Type 0} (b : Bool) (w o p : Option X) → (b ≡ true → o ≡ None) → either o (cond b w p) ≡ cond b w (either o p)
second-updated true w o p h = ap (λ v. either v w) (h refl)
second-updated false w o p h = refl

abbrev shorts : ℕ → List (ℕ × Option ℕ) → Names
shorts n short = cond (is_short n) (short_names n short) []

-- a name that stands as a number
pub record Stands (n : ℕ) (named : List ℕ) (key : ℕ) : Type 0 where
  pub stands : stands_short n named ≡ true
  pub key_is : key ≡ head_from n named
  pub bytes : AreBytes named

pub stands-key : (n : ℕ) (named : List ℕ) (key : ℕ) → Some key ≡ short_key n named → AreBytes named → Stands n named key
stands-key n named key h are = by (stands_short n named) refl
  where
    by : (b : Bool) → b ≡ stands_short n named → Stands n named key
    by true s = record { stands = sym s; key_is = search (rules, h, ap (λ b. cond b (Some (head_from n named)) None) s); bytes = are }
    by false s = absurd (none_is_some (sym (ap is_some (h ∙ cond-false _ _ _ (sym s)))))

pub stands-not : (n : ℕ) (named : List ℕ) → None ≡ short_key n named → stands_short n named ≡ false
stands-not n named h = by (stands_short n named) refl
  where
    by : (b : Bool) → b ≡ stands_short n named → stands_short n named ≡ false
    by true s = absurd (none_is_some (ap is_some (h ∙ cond-true _ _ _ (sym s))))
    by false s = sym s

short_length : (n : ℕ) (named : List ℕ) → stands_short n named ≡ true → (is_short n ≡ true) × (length named ≡ n) × (0 < n)
short_length n named h = grind (arith, nat_tests)

other-none : (n : ℕ) (named : List ℕ) (others : Names) → stands_short n named ≡ true → AreOthers n others → lookup (bytes_eq named) others ≡ None
other-none n named others h apart = by (is_kept named others) refl
  where
    by : (b : Bool) → b ≡ is_kept named others → lookup (bytes_eq named) others ≡ None
    by true s = absurd (none_is_some (sym (apart named (sym s)) ∙ h))
    by false s = none_kept (lookup (bytes_eq named) others) (sym s)

short-none : (n : ℕ) (named : List ℕ) (short : List (ℕ × Option ℕ)) → stands_short n named ≡ false → lookup (bytes_eq named) (shorts n short) ≡ None
short-none n named short h = by (is_short n) refl
  where
    by : (b : Bool) → b ≡ is_short n → lookup (bytes_eq named) (shorts n short) ≡ None
    by true s = ap (lookup (bytes_eq named)) (cond-true _ _ _ (sym s)) ∙ unlike n named short (λ e. grind (arith, nat_tests))
    by false s = ap (lookup (bytes_eq named)) (cond-false _ _ _ (sym s))

shorts_are : (n : ℕ) (named : List ℕ) (short : List (ℕ × Option ℕ)) → stands_short n named ≡ true → shorts n short ≡ short_names n short
shorts_are n named short h = cond-true _ _ _ (short_length n named h).0

-- what is said of a length that is not 0
positive-length : (n : ℕ) → 0 < n → (P : ℕ → Type 0) → ((m : ℕ) → P (suc m)) → P n
positive-length zero h P by = absurd (omega (arith, h))
positive-length (suc m) h P by = by m

spells : (n : ℕ) (named : List ℕ) (key : ℕ) → Stands n named key → name_of n (head_from n named) ≡ named
spells n named key h = ap (λ k. name_of k (head_from k named)) (sym (short_length n named h.stands).1) ∙ name_of-head named h.bytes

short-found : (n : ℕ) (named : List ℕ) (key : ℕ) (short : List (ℕ × Option ℕ)) → Stands n named key → lookup (bytes_eq named) (shorts n short) ≡ lookup (is_at (nat_cmp key)) short
short-found n named key short h =
    ap (lookup (bytes_eq named)) (shorts_are n named short h.stands)
    ∙ positive-length n (short_length n named h.stands).2 (λ m. name_of m (head_from m named) ≡ named → lookup (bytes_eq named) (short_names m short) ≡ lookup (is_at (nat_cmp (head_from m named))) short)
    (λ m is. spelled m named short is) (spells n named key h)
    ∙ ap (λ k. lookup (is_at (nat_cmp k)) short) (sym h.key_is)

-- what a name has that stands as a number
pub lookup-short : (n : ℕ) (named : List ℕ) (key : ℕ) (short : List (ℕ × Option ℕ)) (others : Names) → Stands n named key → AreOthers n others
    → lookup (bytes_eq named) (names_of n short others) ≡ lookup (is_at (nat_cmp key)) short
lookup-short n named key short others h apart =
    lookup-either named (shorts n short) others
    ∙ either-none _ _ (other-none n named others h.stands apart)
    ∙ short-found n named key short h

-- what another name has
pub lookup-other : (n : ℕ) (named : List ℕ) (short : List (ℕ × Option ℕ)) (others : BTreeMap (List ℕ) (Option ℕ)) → stands_short n named ≡ false
    → lookup (bytes_eq named) (names_of n short others.entries) ≡ get (slice_cmp nat_cmp) others named
lookup-other n named short others h =
    lookup-either named (shorts n short) others.entries
    ∙ ap (λ o. either o (lookup (bytes_eq named) others.entries)) (short-none n named short h)
    ∙ lookup-names named others.entries

short-change : (n : ℕ) (named : List ℕ) (key : ℕ) (q : List ℕ) (old new : BTreeMap ℕ (Option ℕ)) (w : Option (Option ℕ)) → Stands n named key → UpdatesBy nat_cmp (nat_cmp key) old new w
    → lookup (bytes_eq q) (shorts n new.entries) ≡ cond (bytes_eq named q) w (lookup (bytes_eq q) (shorts n old.entries))
short-change n named key q old new w h updates =
    ap (lookup (bytes_eq q)) (shorts_are n named new.entries h.stands)
    ∙ positive-length n (short_length n named h.stands).2 (λ m. name_of m (head_from m named) ≡ named → UpdatesBy nat_cmp (nat_cmp (head_from m named)) old new w
    → lookup (bytes_eq q) (short_names m new.entries) ≡ cond (bytes_eq named q) w (lookup (bytes_eq q) (short_names m old.entries)))
    (λ m is by. updated m named q old new w is by) (spells n named key h) (subst (λ k. UpdatesBy nat_cmp (nat_cmp k) old new w) h.key_is updates)
    ∙ ap (λ names. cond (bytes_eq named q) w (lookup (bytes_eq q) names)) (sym (shorts_are n named old.entries h.stands))

-- a change at a name that stands as a number
pub short-updated : (n : ℕ) (named : List ℕ) (key : ℕ) (q : List ℕ) (old new : BTreeMap ℕ (Option ℕ)) (others : Names) (w : Option (Option ℕ))
    → Stands n named key → AreOthers n others → UpdatesBy nat_cmp (nat_cmp key) old new w
    → lookup (bytes_eq q) (names_of n new.entries others) ≡ cond (bytes_eq named q) w (lookup (bytes_eq q) (names_of n old.entries others))
short-updated n named key q old new others w h apart updates =
    lookup-either q (shorts n new.entries) others
    ∙ ap (λ o. either o (lookup (bytes_eq q) others)) (short-change n named key q old new w h updates)
    ∙ first-updated (bytes_eq named q) w _ _ (λ s. ap (λ v. lookup (bytes_eq v) others) (sym (same_bytes named q s)) ∙ other-none n named others h.stands apart)
    ∙ ap (cond (bytes_eq named q) w) (sym (lookup-either q (shorts n old.entries) others))

-- a change at another name
pub other-updated : (n : ℕ) (named q : List ℕ) (short : List (ℕ × Option ℕ)) (old new : BTreeMap (List ℕ) (Option ℕ)) (w : Option (Option ℕ))
    → stands_short n named ≡ false → UpdatesBy (slice_cmp nat_cmp) (slice_cmp nat_cmp named) old new w
    → lookup (bytes_eq q) (names_of n short new.entries) ≡ cond (bytes_eq named q) w (lookup (bytes_eq q) (names_of n short old.entries))
other-updated n named q short old new w h updates =
    lookup-either q (shorts n short) new.entries
    ∙ ap (either (lookup (bytes_eq q) (shorts n short))) (lookup-updated named old new w updates q)
    ∙ second-updated (bytes_eq named q) w _ _ (λ s. ap (λ v. lookup (bytes_eq v) (shorts n short)) (sym (same_bytes named q s)) ∙ short-none n named short h)
    ∙ ap (cond (bytes_eq named q) w) (sym (lookup-either q (shorts n short) old.entries))

pub others-still : (n : ℕ) (named : List ℕ) (old new : BTreeMap (List ℕ) (Option ℕ)) (w : Option (Option ℕ))
    → stands_short n named ≡ false → UpdatesBy (slice_cmp nat_cmp) (slice_cmp nat_cmp named) old new w → AreOthers n old.entries → AreOthers n new.entries
others-still n named old new w h updates apart q kept = by (bytes_eq named q) refl
  where
    by : (b : Bool) → b ≡ bytes_eq named q → stands_short n q ≡ false
    by true s = ap (stands_short n) (sym (same_bytes named q (sym s))) ∙ h
    by false s = apart q (ap is_some (sym (lookup-updated named old new w updates q ∙ cond-false _ _ _ (sym s))) ∙ kept)
