-- Verdicts over fields.
use Rattle.std.proofs.Common.{◌≡◌, ℕ, take, subst, inl, inr, min, ◌<◌, ◌≤◌, List, [], ◌∷◌, ◌++◌, length, map, refl, ap, sym, ◌∙◌, arith, Bool, true, ◌||◌}
use Rattle.std.specs.List.{list_any, flat_map}
use Rattle.httparse.specs.Grammar.{Field as Line, is_token_byte}
use Rattle.std.specs.Str.{IsUtf8}
use Rattle.std.proofs.lemmas.Bool.Decides.{nat_tests}
use Rattle.std.proofs.lemmas.Str.{IsUtf8-from_ascii}
use Rattle.std.proofs.lemmas.Str.Ascii.{IsAscii-from_all}
use Rattle.std.proofs.lemmas.List.Elements.{All-weaker}
use Rattle.httparse.specs.Spans.{IsRequestOf, span_bytes, header_bytes, name_and_value}
use Rattle.httparse.specs.declared.spans.HeaderSpan.{HeaderSpan}
use Rattle.httparse.specs.declared.spans.RequestSpans.{RequestSpans}
use Rattle.std.proofs.lemmas.List.{length-take}
use Rattle.std.proofs.Math.ListN.{length-map}
use Rattle.http_wire.specs.declared.fields.Field.{Field}
use Rattle.http_wire.specs.declared.HeadKind.TheVariants.{Malformed}
use Rattle.http_wire.specs.Judge.{Parts, Verdict, refused, by_lengths, by_fields, Judged, line_feeds}
use Rattle.http_wire.specs.declared.judge.RequestLine.{RequestLine}
use Rattle.http_wire.specs.Fields.{pair_of, by_held}

-- several lengths are refused
pub several : (parts : Parts) (n : ℕ) (values : List (List ℕ)) → 2 ≤ length values
    → by_lengths parts n values ≡ refused Malformed n
several parts n [] h = absurd (omega arith)
several parts n (a ∷ []) h = absurd (omega arith)
several parts n (a ∷ b ∷ more) h = refl

-- flat_map after map
pub flat_map-map : {X Y Z : Type 0} (g : Y → List Z) (f : X → Y) (xs : List X) → flat_map g (map f xs) ≡ flat_map (λ x. g (f x)) xs
flat_map-map g f [] = refl
flat_map-map g f (x ∷ xs) = ap (λ v. g (f x) ++ v) (flat_map-map g f xs)

-- list_any after map
pub list_any-map : {X Y : Type 0} (p : Y → Bool) (f : X → Y) (xs : List X) → list_any p (map f xs) ≡ list_any (λ x. p (f x)) xs
list_any-map p f [] = refl
list_any-map p f (x ∷ xs) = ap (λ (v : Bool). p (f x) || v) (list_any-map p f xs)

-- the same over the fields as they are held
pub held_fields : (line : RequestLine) (fields : List Field) (n : ℕ)
    → by_held line fields n ≡ by_fields line.method.now line.target.now line.minor (map pair_of fields) n
held_fields line fields n = simp (list_any-map, flat_map-map)

-- a head has no more fields than there was room for
fields_fit : (bytes : List ℕ) (spans : List HeaderSpan) (n : ℕ) (fields : List Line)
    → map (header_bytes bytes) (take n spans) ≡ map name_and_value fields → length spans ≡ 64 → length fields ≤ 64
fields_fit bytes spans n fields e room =
    let a : length (map (header_bytes bytes) (take n spans)) ≡ length (map name_and_value fields) = ap length e in
    let b : length (take n spans) ≡ length fields = simp length-map at a in
    let d : length (take n spans) ≡ min n (length spans) = length-take n spans in
    omega arith

-- a found method is text, since a token has no byte above 127
token_is_ascii : (b : ℕ) → is_token_byte b ≡ true → b < 128
unfolding is_token_byte
token_is_ascii b token = grind (arith, nat_tests)

pub method_text : (bytes : List ℕ) (spans : List HeaderSpan) (found : RequestSpans) → IsRequestOf bytes spans found → IsUtf8 (span_bytes bytes found.method)
method_text bytes spans found (head, at) =
    subst IsUtf8 (sym at.method) (IsUtf8-from_ascii head.method (IsAscii-from_all head.method
    (All-weaker (λ b. is_token_byte b ≡ true) (λ b. b < 128) token_is_ascii head.method at.reads.0.method.1)))

pub target_text : (bytes : List ℕ) (spans : List HeaderSpan) (found : RequestSpans) → IsRequestOf bytes spans found → IsUtf8 (span_bytes bytes found.path)
target_text bytes spans found (head, at) = subst IsUtf8 (sym at.path) at.reads.0.target_text

-- the ruling on a head that was found
pub judged : (bytes : List ℕ) (spans : List HeaderSpan) (found : RequestSpans) (fields : List Field) (line : RequestLine) (verdict : Verdict)
    → line_feeds bytes ≤ 66 → length spans ≡ 64 → IsRequestOf bytes spans found
    → line.method.now ≡ span_bytes bytes found.method → line.target.now ≡ span_bytes bytes found.path → line.minor ≡ found.version
    → map pair_of fields ≡ map (header_bytes bytes) (take found.headers spans)
    → verdict ≡ by_held line fields (length bytes)
    → Judged bytes verdict
judged bytes spans found fields line verdict few room (head, at) m t v f is =
    let same : map pair_of fields ≡ map name_and_value head.fields = f ∙ at.fields in
    let says : verdict ≡ by_fields head.method head.target head.minor (map name_and_value head.fields) (length bytes) =
    rw (is, held_fields, same, m, t, v, at.method, at.path, at.version) in
    inr (few, inl (head, record { rest = _; reads = at.reads; fits = fields_fit bytes spans found.headers head.fields at.fields room }, says))
