-- The requests in the bytes of a link are determined, and so is how they end.
use Rattle.std.proofs.Common.{◌≡◌, ℕ, ◌+◌, ◌<◌, ◌≤◌, Bool, true, false, List, [], ◌∷◌, ◌++◌, length, take, drop, map, refl, ap, sym, ◌∙◌, subst, arith, inl, inr}
use Rattle.std.proofs.lemmas.Bool.{cases_lt}
use Rattle.std.proofs.lemmas.Grind.{common_steps}
use Rattle.std.proofs.lemmas.List.{length-append, take-append-le, length-drop}
use Rattle.std.proofs.Math.Seq.{take-append_seam, drop-append_seam}
use Rattle.httparse.specs.Grammar.{RequestHead}
use Rattle.httparse.specs.Spans.{name_and_value}
use Rattle.httparse.proofs.GrammarLemmas.{request_unique}
use Rattle.http_wire.specs.Head.{is_end_at, Starts, closes_at, HasNoEmptyLine, IsHeadAt, IsTooLong, IsBlank, IsInHead, head_bytes, most_head}
use Rattle.http_wire.specs.Judge.{Parts, Verdict, refused, accepted, Judged, Says, by_fields}
use Rattle.http_wire.specs.Stream.{Request, parts_of, IsRequest, Takes, IsRefused, IsBad, IsInBody, IsPart, IsOpen, Stream, Follows, End, between, closed, spent, rest, bad, Ends, Requests, fresh, after_request, IsAwake}
use Rattle.http_wire.specs.declared.HeadKind.{HeadKind}
use Rattle.http_wire.proofs.Places.{head-agree, agree-append, closes-least}
use Rattle.http_wire.proofs.Requests.{head_bytes-agree}

-- a byte is not both
both : (b : Bool) → b ≡ true → b ≡ false → ⊥
both b t f = cc

-- the first other byte
start_unique : (bytes : List ℕ) (s t : ℕ) → Starts bytes s → Starts bytes t → s ≡ t
start_unique bytes s t a b =
    elim (cases_lt s t) [
      | inl lt ↦ absurd (both (is_end_at bytes s) (b.before.each s lt) a.other)
      | inr le ↦ elim (cases_lt t s) [
        | inl lt ↦ absurd (both (is_end_at bytes t) (a.before.each t lt) b.other)
        | inr ge ↦ omega arith
      ]
    ]

-- the first empty line
end_unique : (text : List ℕ) (n m : ℕ) → closes_at text n ≡ true → HasNoEmptyLine text n → closes_at text m ≡ true → HasNoEmptyLine text m → n ≡ m
end_unique text n m a none b nothing =
    elim (cases_lt n m) [
      | inl lt ↦ absurd (both (closes_at text n) a (nothing.each n lt))
      | inr le ↦ elim (cases_lt m n) [
        | inl lt ↦ absurd (both (closes_at text m) b (none.each m lt))
        | inr ge ↦ omega arith
      ]
    ]

-- a place of a head
pub record SamePlace (s n t m : ℕ) : Type 0 where
  pub start : s ≡ t
  pub len : n ≡ m

pub head_unique : (bytes : List ℕ) (s n t m : ℕ) → IsHeadAt bytes s n → IsHeadAt bytes t m → SamePlace s n t m
head_unique bytes s n t m a b =
    let e : s ≡ t = start_unique bytes s t a.starts b.starts in
    let C : ℕ → Type 0 = λ v. closes_at (drop v bytes) m ≡ true in
    let N : ℕ → Type 0 = λ v. HasNoEmptyLine (drop v bytes) m in
    record { start = e; len = end_unique (drop s bytes) n m a.closes a.first (subst C (sym e) b.closes) (subst N (sym e) b.first) }

-- what is said of a head
says_unique : (bytes : List ℕ) (v w : Verdict) → Says bytes v → Says bytes w → v ≡ w
says_unique bytes v w (inl (h, f, e)) (inl (k, g, d)) =
    let same : h ≡ k = (request_unique bytes h k f.rest g.rest f.reads g.reads).0 in
    e ∙ ap (λ (x : RequestHead). by_fields x.method x.target x.minor (map name_and_value x.fields) (length bytes)) same ∙ sym d
says_unique bytes v w (inl (h, f, e)) (inr (none, d)) = absurd (omega (arith, none h f.rest f.reads, f.fits))
says_unique bytes v w (inr (none, e)) (inl (k, g, d)) = absurd (omega (arith, none k g.rest g.reads, g.fits))
says_unique bytes v w (inr (none, e)) (inr (nothing, d)) = e ∙ sym d

pub judged_unique : (bytes : List ℕ) (v w : Verdict) → Judged bytes v → Judged bytes w → v ≡ w
judged_unique bytes v w (inl (many, e)) (inl (more, d)) = e ∙ sym d
judged_unique bytes v w (inl (many, e)) (inr (few, d)) = absurd (omega arith)
judged_unique bytes v w (inr (few, e)) (inl (more, d)) = absurd (omega arith)
judged_unique bytes v w (inr (few, e)) (inr (some, d)) = says_unique bytes v w e d

-- a head and what is said of it, with what follows left open
pub record Headed (bytes : List ℕ) (v : Verdict) : Type 0 where
  pub start : ℕ
  pub len : ℕ
  pub head : IsHeadAt bytes start len
  pub within : start + len ≤ length bytes
  pub says : Judged (head_bytes bytes start len) v

pub record SameHead (bytes : List ℕ) (v w : Verdict) (a : Headed bytes v) (b : Headed bytes w) : Type 0 where
  pub place : SamePlace a.start a.len b.start b.len
  pub verdict : v ≡ w

pub headed_unique : (bytes : List ℕ) (v w : Verdict) (a : Headed bytes v) (b : Headed bytes w) → SameHead bytes v w a b
headed_unique bytes v w a b =
    let place : SamePlace a.start a.len b.start b.len = head_unique bytes a.start a.len b.start b.len a.head b.head in
    let J : ℕ → ℕ → Type 0 = λ s n. Judged (head_bytes bytes s n) w in
    let J1 : ℕ → Type 0 = λ s. J s b.len in
    let J2 : ℕ → Type 0 = λ n. J a.start n in
    let says : Judged (head_bytes bytes a.start a.len) w = subst J2 (sym place.len) (subst J1 (sym place.start) b.says) in
    record { place = place; verdict = judged_unique (head_bytes bytes a.start a.len) v w a.says says }

-- a request at the front
pub headed_front : (front more : List ℕ) (q : Request) → IsRequest front q → Headed (front ++ more) (accepted (parts_of q) (length q.body))
headed_front front more q r =
    let w : r.start + r.len ≤ length (front ++ more) = omega (arith, r.within, length-append front more) in
    record {
      start = r.start;
      len = r.len;
      head = head-agree front (front ++ more) r.start r.len (agree-append front more (r.start + r.len) r.within) r.head;
      within = w;
      says = rw (← head_bytes-agree front (front ++ more) r.start r.len r.within w (sym (take-append-le (r.start + r.len) front more r.within))) r.says;
    }

pub headed_refused : (bytes : List ℕ) (kind : HeadKind) (number : ℕ) → IsRefused bytes kind number → Headed bytes (refused kind number)
headed_refused bytes kind number r = record { start = r.start; len = r.len; head = r.head; within = r.within; says = r.says }

-- no head stands in bytes that are blank, too long or in a head
no_head_blank : (bytes : List ℕ) (v : Verdict) → Headed bytes v → IsBlank bytes → ⊥
no_head_blank bytes v h blank =
    let two : 2 ≤ h.len = closes-least (drop h.start bytes) h.len h.head.closes in
    let lt : h.start < length bytes = omega (arith, h.within) in
    both (is_end_at bytes h.start) (blank.ends.each h.start lt) h.head.starts.other

no_head_in_head : (bytes : List ℕ) (v : Verdict) → Headed bytes v → IsInHead bytes → ⊥
no_head_in_head bytes v h p =
    let e : h.start ≡ p.start = start_unique bytes h.start p.start h.head.starts p.starts in
    let N : ℕ → Type 0 = λ s. HasNoEmptyLine (drop s bytes) (most_head + 1) in
    let none : HasNoEmptyLine (drop h.start bytes) (most_head + 1) = subst N (sym e) p.none in
    let lt : h.len < most_head + 1 = omega (arith, h.head.fits) in
    both (closes_at (drop h.start bytes) h.len) h.head.closes (none.each h.len lt)

no_head_long : (bytes : List ℕ) (v : Verdict) → Headed bytes v → IsTooLong bytes → ⊥
no_head_long bytes v h (inl ends) = both (is_end_at bytes h.start) (ends.each h.start h.head.few) h.head.starts.other
no_head_long bytes v h (inr p) =
    let e : h.start ≡ p.start = start_unique bytes h.start p.start h.head.starts p.starts in
    let N : ℕ → Type 0 = λ s. HasNoEmptyLine (drop s bytes) (most_head + 1) in
    let none : HasNoEmptyLine (drop h.start bytes) (most_head + 1) = subst N (sym e) p.none in
    let lt : h.len < most_head + 1 = omega (arith, h.head.fits) in
    both (closes_at (drop h.start bytes) h.len) h.head.closes (none.each h.len lt)

-- bytes past the end belong to no line end
end_within : (bytes : List ℕ) (k : ℕ) → is_end_at bytes k ≡ true → k < length bytes
unfolding is_end_at
end_within bytes k h = grind (arith, common_steps)

-- the request at the front of bytes, as a head
front_head : (bytes front more : List ℕ) (q : Request) → bytes ≡ front ++ more → IsRequest front q → Headed bytes (accepted (parts_of q) (length q.body))
unfolding headed_front
front_head bytes front more q e r =
    let h : Headed (front ++ more) (accepted (parts_of q) (length q.body)) = headed_front front more q r in
    let A : List ℕ → Type 0 = λ v. IsHeadAt v r.start r.len in
    let J : List ℕ → Type 0 = λ v. Judged (head_bytes v r.start r.len) (accepted (parts_of q) (length q.body)) in
    let n : length bytes ≡ length (front ++ more) = ap length e in
    record {
      start = r.start;
      len = r.len;
      head = subst A (sym e) h.head;
      within = omega (arith, n, h.within);
      says = subst J (sym e) h.says;
    }

-- how long a request is
request_length : (front : List ℕ) (q : Request) (r : IsRequest front q) → length front ≡ r.start + r.len + length q.body
request_length front q r =
    let e : length q.body ≡ length (drop (r.start + r.len) front) = ap length r.body in
    omega (arith, e, r.within, length-drop (r.start + r.len) front)

make_request : Parts → List ℕ → Request
make_request p b = record { method = p.method; target = p.target; body = b; closes = p.closes }

-- a request and what is left
pub record SameTake (q r : Request) (x y : List ℕ) : Type 0 where
  pub request : q ≡ r
  pub rest : x ≡ y

pub takes_unique : (bytes : List ℕ) (q r : Request) (x y : List ℕ) → Takes bytes q x → Takes bytes r y → SameTake q r x y
unfolding make_request front_head
takes_unique bytes q r x y (f, e, a) (g, d, b) =
    let same : SameHead bytes _ _ (front_head bytes f x q e a) (front_head bytes g y r d b) =
    headed_unique bytes _ _ (front_head bytes f x q e a) (front_head bytes g y r d b) in
    let v : accepted (parts_of q) (length q.body) ≡ accepted (parts_of r) (length r.body) = same.verdict in
    let parts : parts_of q ≡ parts_of r = cc in
    let sizes : length q.body ≡ length r.body = cc in
    let s : a.start ≡ b.start = same.place.start in
    let n : a.len ≡ b.len = same.place.len in
    let long : length f ≡ length g = omega (arith, request_length f q a, request_length g r b, s, n, sizes) in
    let fs : f ≡ g = sym (take-append_seam f x) ∙ ap (λ k. take k (f ++ x)) long ∙ ap (λ z. take (length g) z) (sym e ∙ d) ∙ take-append_seam g y in
    let xs : x ≡ y = sym (drop-append_seam f x) ∙ ap (λ k. drop k (f ++ x)) long ∙ ap (λ z. drop (length g) z) (sym e ∙ d) ∙ drop-append_seam g y in
    let at : a.start + a.len ≡ b.start + b.len = omega arith in
    let bodies : q.body ≡ r.body = a.body ∙ ap (λ k. drop k f) at ∙ ap (λ z. drop (b.start + b.len) z) fs ∙ sym b.body in
    record {
      request = ap (λ p. make_request p q.body) parts ∙ ap (λ z. make_request (parts_of r) z) bodies;
      rest = xs;
    }

body_head : (bytes : List ℕ) (p : IsInBody bytes) → Headed bytes (accepted p.parts p.size)
body_head bytes p = record { start = p.start; len = p.len; head = p.head; within = p.within; says = p.says }

-- a whole request is not open
takes_open : (bytes : List ℕ) (q : Request) (x : List ℕ) → Takes bytes q x → IsOpen bytes → ⊥
unfolding body_head front_head
takes_open bytes q x (f, e, a) (inl blank) = no_head_blank bytes _ (front_head bytes f x q e a) blank
takes_open bytes q x (f, e, a) (inr (inl p)) = no_head_in_head bytes _ (front_head bytes f x q e a) p
takes_open bytes q x (f, e, a) (inr (inr p)) =
    let same : SameHead bytes _ _ (front_head bytes f x q e a) (body_head bytes p) =
    headed_unique bytes _ _ (front_head bytes f x q e a) (body_head bytes p) in
    let v : accepted (parts_of q) (length q.body) ≡ accepted p.parts p.size = same.verdict in
    let sizes : length q.body ≡ p.size = cc in
    let s : a.start ≡ p.start = same.place.start in
    let n : a.len ≡ p.len = same.place.len in
    let all : length bytes ≡ length (f ++ x) = ap length e in
    omega (arith, request_length f q a, length-append f x, p.short, s, n, sizes, all)

takes_bad : (bytes : List ℕ) (q : Request) (x : List ℕ) (kind : HeadKind) (number : ℕ) → Takes bytes q x → IsBad bytes kind number → ⊥
takes_bad bytes q x kind number (f, e, a) (inl (long, k, n)) = no_head_long bytes _ (front_head bytes f x q e a) long
takes_bad bytes q x kind number (f, e, a) (inr r) =
    let v : accepted (parts_of q) (length q.body) ≡ refused kind number =
    (headed_unique bytes _ _ (front_head bytes f x q e a) (headed_refused bytes kind number r)).verdict in
    cc

blank_part : (bytes : List ℕ) → IsBlank bytes → IsPart bytes → ⊥
blank_part bytes blank (inl p) = both (is_end_at bytes p.start) (blank.ends.each p.start p.some) p.starts.other
blank_part bytes blank (inr p) = no_head_blank bytes _ (body_head bytes p) blank

open_bad : (bytes : List ℕ) (kind : HeadKind) (number : ℕ) → IsOpen bytes → IsBad bytes kind number → ⊥
open_bad bytes kind number (inl blank) (inl (inl ends, k, n)) =
    let past : is_end_at bytes (length bytes) ≡ true = ends.each (length bytes) blank.few in
    omega (arith, end_within bytes (length bytes) past)
open_bad bytes kind number (inl blank) (inl (inr long, k, n)) = omega (arith, long.many, blank.few)
open_bad bytes kind number (inl blank) (inr r) = no_head_blank bytes _ (headed_refused bytes kind number r) blank
open_bad bytes kind number (inr (inl p)) (inl (inl ends, k, n)) = both (is_end_at bytes p.start) (ends.each p.start p.few) p.starts.other
open_bad bytes kind number (inr (inl p)) (inl (inr long, k, n)) =
    omega (arith, long.many, p.short, start_unique bytes p.start long.start p.starts long.starts)
open_bad bytes kind number (inr (inl p)) (inr r) = no_head_in_head bytes _ (headed_refused bytes kind number r) p
open_bad bytes kind number (inr (inr p)) (inl (long, k, n)) = no_head_long bytes _ (body_head bytes p) long
open_bad bytes kind number (inr (inr p)) (inr r) =
    let v : accepted p.parts p.size ≡ refused kind number = (headed_unique bytes _ _ (body_head bytes p) (headed_refused bytes kind number r)).verdict in
    cc

bad_unique : (bytes : List ℕ) (k l : HeadKind) (n m : ℕ) → IsBad bytes k n → IsBad bytes l m → bad k n ≡ bad l m
bad_unique bytes k l n m (inl (long, a, b)) (inl (also, c, d)) = cc
bad_unique bytes k l n m (inl (long, a, b)) (inr r) = absurd (no_head_long bytes _ (headed_refused bytes l m r) long)
bad_unique bytes k l n m (inr r) (inl (long, a, b)) = absurd (no_head_long bytes _ (headed_refused bytes k n r) long)
bad_unique bytes k l n m (inr r) (inr s) =
    let v : refused k n ≡ refused l m = (headed_unique bytes _ _ (headed_refused bytes k n r) (headed_refused bytes l m s)).verdict in
    cc

-- how the requests end
ends_unique : (t : Stream) (e f : End) → Ends t e → Ends t f → e ≡ f
ends_unique t between between x y = refl
ends_unique t between closed x y = absurd (both t.closed y x.0.0)
ends_unique t between spent x y = absurd (omega (arith, y.1, x.0.1))
ends_unique t between (rest m) x y = absurd (blank_part t.bytes x.1 y.1)
ends_unique t between (bad l m) x y = absurd (open_bad t.bytes l m (inl x.1) y.1)
ends_unique t closed between x y = absurd (both t.closed x y.0.0)
ends_unique t closed closed x y = refl
ends_unique t closed spent x y = absurd (both t.closed x y.0)
ends_unique t closed (rest m) x y = absurd (both t.closed x y.0.0)
ends_unique t closed (bad l m) x y = absurd (both t.closed x y.0.0)
ends_unique t spent between x y = absurd (omega (arith, x.1, y.0.1))
ends_unique t spent closed x y = absurd (both t.closed y x.0)
ends_unique t spent spent x y = refl
ends_unique t spent (rest m) x y = absurd (omega (arith, x.1, y.0.1))
ends_unique t spent (bad l m) x y = absurd (omega (arith, x.1, y.0.1))
ends_unique t (rest n) between x y = absurd (blank_part t.bytes y.1 x.1)
ends_unique t (rest n) closed x y = absurd (both t.closed y x.0.0)
ends_unique t (rest n) spent x y = absurd (omega (arith, y.1, x.0.1))
ends_unique t (rest n) (rest m) x y = ap (λ v. rest v) (x.2 ∙ sym y.2)
ends_unique t (rest n) (bad l m) x y = absurd (open_bad t.bytes l m (inr x.1) y.1)
ends_unique t (bad k n) between x y = absurd (open_bad t.bytes k n (inl y.1) x.1)
ends_unique t (bad k n) closed x y = absurd (both t.closed y x.0.0)
ends_unique t (bad k n) spent x y = absurd (omega (arith, y.1, x.0.1))
ends_unique t (bad k n) (rest m) x y = absurd (open_bad t.bytes k n (inr y.1) x.1)
ends_unique t (bad k n) (bad l m) x y = bad_unique t.bytes k l n m x.1 y.1

-- where a request can be taken the requests do not end
takes_ends : (t : Stream) (q : Request) (x : List ℕ) (f : End) → IsAwake t → Takes t.bytes q x → Ends t f → ⊥
takes_ends t q x between w takes y = takes_open t.bytes q x takes (inl y.1)
takes_ends t q x closed w takes y = both t.closed y w.0
takes_ends t q x spent w takes y = omega (arith, y.1, w.1)
takes_ends t q x (rest n) w takes y = takes_open t.bytes q x takes (inr y.1)
takes_ends t q x (bad k n) w takes y = takes_bad t.bytes q x k n takes y.1

-- the same requests, and the same end
pub record SameRequests (qs rs : List Request) (e f : End) : Type 0 where
  pub requests : qs ≡ rs
  pub end : e ≡ f

stream_unique : (s t u : Stream) (qs rs : List Request) (e f : End)
    → Follows s qs t → Ends t e → Follows s rs u → Ends u f → SameRequests qs rs e f
stream_unique s t u [] [] e f a x b y =
    let E : Stream → Type 0 = λ v. Ends v e in
    let F : Stream → Type 0 = λ v. Ends v f in
    record { requests = refl; end = ends_unique s e f (subst E a x) (subst F b y) }
stream_unique s t u [] (r ∷ rs) e f a x (rest', w, takes, more) y =
    let E : Stream → Type 0 = λ v. Ends v e in
    absurd (takes_ends s r rest' e w takes (subst E a x))
stream_unique s t u (q ∷ qs) [] e f (rest', w, takes, more) x b y =
    let F : Stream → Type 0 = λ v. Ends v f in
    absurd (takes_ends s q rest' f w takes (subst F b y))
stream_unique s t u (q ∷ qs) (r ∷ rs) e f (one, w, takes, more) x (two, w', takes', more') y =
    let same : SameTake q r one two = takes_unique s.bytes q r one two takes takes' in
    let Q : Request → Type 0 = λ v. Follows (after_request s v two) rs u in
    let R : List ℕ → Type 0 = λ v. Follows (after_request s q v) rs u in
    let there : Follows (after_request s q one) rs u = subst R (sym same.rest) (subst Q (sym same.request) more') in
    let later : SameRequests qs rs e f = stream_unique (after_request s q one) t u qs rs e f more x there y in
    record { requests = ap (λ v. v ∷ qs) same.request ∙ ap (λ v. r ∷ v) later.requests; end = later.end }

-- the requests in the bytes of a link are determined, and so is how they end
pub requests_unique : (bytes : List ℕ) (qs rs : List Request) (e f : End) → Requests bytes qs e → Requests bytes rs f → SameRequests qs rs e f
requests_unique bytes qs rs e f (t, a, x) (u, b, y) = stream_unique (fresh bytes) t u qs rs e f a x b y
