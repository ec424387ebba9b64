-- A universe that is narrowed by the documents of the words.
use Rattle.std.proofs.Common.{◌≡◌, ℕ, ◌+◌, ◌^◌, ◌<◌, ◌≤◌, zero, suc, true, List, [], ◌∷◌, length, map, eqb, slice_index_or, Bor, Option, None, Some, IfSome, sym, ap, subst, ◌∙◌, arith}
use Rattle.std.specs.Option.{option_copied, unwrap_or}
use Rattle.std.specs.List.{AllPass}
use Rattle.std.proofs.lemmas.Bool.{eq-eqb, leb-true, and_from}
use Rattle.std.proofs.lemmas.List.{length-map}
use Rattle.doc_sets.specs.Sets.{has, intersection}
use Rattle.sorted_pages.proofs.SetLemmas.{has-filter}
use Rattle.postings.specs.Dictionary.{PostingsView, list_at}
use Rattle.posting_list.specs.Sets.{IsSetOf}
use Rattle.posting_sets.specs.Entries.{document_of, position_of}
use Rattle.posting_sets.specs.Starts.{stand_all, is_start}
use Rattle.posting_sets.specs.Found.{has_document, AreInLists, IsNarrowed}
use Rattle.posting_sets.proofs.OccursLemmas.{has_from}
use Rattle.posting_sets.proofs.WalkLemmas.{both_true}

-- ---- each list has an entry of the document of a start
same_document : (start k count : ℕ) → position_of start + count ≤ 2 ^ 16 → k < count → document_of (start + k) ≡ document_of start
same_document start k count l h = omega arith

module _ (view : PostingsView) (start : ℕ) where
  stand_in : (words : List (List ℕ)) (k count : ℕ) → position_of start + count ≤ 2 ^ 16 → k + length words ≤ count
      → stand_all k (map (λ word. list_at word view) words) start ≡ true → AllPass (λ word. has_document (list_at word view) (document_of start)) words
  stand_in [] k count l h stand at d m = absurd (omega arith)
  stand_in (word ∷ words) k count l h stand zero d m =
      has_from (λ entry. eqb (document_of entry) (document_of start)) (list_at word view) (start + k) (both_true _ _ stand).0
      (eq-eqb _ _ (same_document start k count l (omega arith)))
  stand_in (word ∷ words) k count l h stand (suc at) d m = stand_in words (k + 1) count l (omega arith) (both_true _ _ stand).1 at d (omega arith)

  start_in : (words : List (List ℕ)) → is_start (map (λ word. list_at word view) words) start ≡ true
      → AllPass (λ word. has_document (list_at word view) (document_of start)) words
  start_in words is =
      let both = both_true _ _ is in
      stand_in words 0 (length (map (λ word. list_at word view) words)) (leb-true _ _ both.0) (omega (arith, length-map words (λ word. list_at word view))) both.1

-- what is found in a narrowed universe is what is found in the universe
pub narrow_found : (view : PostingsView) (words : List (List ℕ)) (ids narrow set : List ℕ) (lists : List (List ℕ)) → lists ≡ map (λ word. list_at word view) words
    → IsNarrowed view words ids narrow → AreInLists narrow lists set → AreInLists ids lists set
narrow_found view words ids narrow set lists e is are = record {
  up = are.up;
  each = λ id. record {
    found = λ h. let f = (are.each id).found h in (f.0, is.within (document_of f.0) f.1, f.2, f.3);
    from = λ entry inside start test.
        (are.each id).from entry (is.each (document_of entry) inside (start_in view entry words (ap (λ l. is_start l entry) (sym e) ∙ start))) start test;
  };
}

-- ---- a step from word to word
pub base_of : {X : Type 0} (P : X → Type 0) (r : Option (Bor X)) (narrow : Option X) → option_copied r ≡ narrow → IfSome narrow P
    → (other base : Bor X) → P other.now → base ≡ unwrap_or r other → P base.now
base_of P None narrow e some other base o is = subst (λ b. P b.now) (sym is) o
base_of P (Some x) narrow e some other base o is = subst (λ b. P b.now) (sym is) (subst (λ v. IfSome v P) (sym e) some)

pub itself_narrowed : (view : PostingsView) (words : List (List ℕ)) (ids : List ℕ) → IsNarrowed view words ids ids
itself_narrowed view words ids = record { within = λ id h. h; each = λ id h all. h }

module _ (view : PostingsView) (words : List (List ℕ)) (word : List ℕ) (at : ℕ) (low : at < length words) (is : word ≡ slice_index_or words at word)
    (kept : List ℕ) (of : IsSetOf kept (list_at word view)) where
  kept_has : (id : ℕ) → AllPass (λ word. has_document (list_at word view) id) words → has kept id ≡ true
  kept_has id all = of id ∙ ap (λ w. has_document (list_at w view) id) is ∙ all at word low

  pub next_narrowed : (ids narrow set : List ℕ) → IsNarrowed view words ids narrow → set ≡ intersection kept narrow → IsNarrowed view words ids set
  next_narrowed ids narrow set old e = record {
    within = λ id h. old.within id (both_true _ _ (sym (has-filter (has narrow) kept id) ∙ ap (λ v. has v id) (sym e) ∙ h)).1;
    each = λ id h all. ap (λ v. has v id) e ∙ has-filter (has narrow) kept id ∙ and_from _ _ (kept_has id all) (old.each id h all);
  }
