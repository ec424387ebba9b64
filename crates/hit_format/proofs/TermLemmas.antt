-- Which terms there are decides what is matched.
use mathlib.Core.Path.{fun_ext}
use Rattle.std.proofs.Common.{◌≡◌, ℕ, Bool, true, false, cond, nat_lt, List, [], ◌++◌, length, map, filter, refl, ap}
use Rattle.std.specs.List.{list_any, slice_range, Contains}
use Rattle.std.proofs.lemmas.List.Folds.{Any-from_list_any, list_any-from_Any}
use Rattle.search_base.specs.TermView.{TermView}
use Rattle.search_base.specs.declared.token.Token.{Token}
use Rattle.token_words.specs.Tokens.{tokens}
use Rattle.hit_format.specs.declared.asked.Format.{Format}
use Rattle.hit_format.specs.declared.window.Window.{Window}
use Rattle.hit_format.specs.Formats.{shown_spans}
use Rattle.search_base.specs.Terms.{HaveSame}
use Rattle.hit_format.specs.Laws.{ShowsAlike}
use Rattle.hit_format.specs.Matched.{is_in_run, is_matched, spans_of}
use Rattle.hit_format.specs.Tagged.{tagged}
use Rattle.hit_format.specs.Windows.{window_of}

any_within : (p : TermView → Bool) (xs ys : List TermView) → ((x : TermView) → Contains xs x → Contains ys x) → list_any p xs ≡ true → list_any p ys ≡ true
any_within p xs ys within h =
    let found = Any-from_list_any p xs h in
    let there = within found.1 (found.0, found.2, found.3) in
    list_any-from_Any p ys (there.0, found.1, there.1, there.2, found.4)

same_bool : (a b : Bool) → (a ≡ true → b ≡ true) → (b ≡ true → a ≡ true) → a ≡ b
same_bool true true f g = refl
same_bool true false f g = (let e : false ≡ true = f refl in cc)
same_bool false true f g = (let e : false ≡ true = g refl in cc)
same_bool false false f g = refl

module _ (text : List ℕ) (terms other : List TermView) (same : HaveSame terms other) where
  matched_alike : (token : Token) → is_matched (tokens text) terms token ≡ is_matched (tokens text) other token
  matched_alike token =
      let p : TermView → Bool = λ term. list_any (is_in_run (tokens text) term token) (tokens text) in
      same_bool (list_any p terms) (list_any p other) (any_within p terms other same.there) (any_within p other terms same.back)

  pub shows-alike : (how : Format) → ShowsAlike text how terms other
  shows-alike how =
      let by = fun_ext matched_alike in
      let shown : (Token → Bool) → Window → List ℕ = λ f w. (cond (nat_lt 0 w.from) how.marker [])
      ++ tagged text how.pre how.post w.from w.to (shown_spans how.highlight (filter f (slice_range (tokens text) w.first w.last)))
      ++ (cond (nat_lt w.to (length text)) how.marker []) in (
        ap (λ f. spans_of (filter f (tokens text))) by,
        ap (λ f. shown f (window_of (tokens text) (map f (tokens text)) (length text) how.crop)) by,
      )
