-- What gathered places say, said of the posting lists that they are from.
use Rattle.std.proofs.Common.{◌≡◌, ℕ, List, Option, Some, sym, ap, ◌∙◌}
use Rattle.search_base.specs.declared.document.Place.{Place}
use Rattle.search_base.specs.TermView.{TermView}
use Rattle.doc_sets.specs.SetView.{SetView}
use Rattle.sorted_pages.specs.Entries.{has}
use Rattle.postings.specs.Dictionary.{PostingsView}
use Rattle.postings.specs.Documents.{Document}
use Rattle.posting_sets.specs.Found.{AreOccurring, occurring}
use Rattle.posting_sets.specs.Numbers.{numbered, AreNumbered}
use Rattle.posting_sets.specs.Gathered.{ids_at, has_number, AreOfNumbers}
use Rattle.posting_sets.specs.Beginnings.{AreAtFirst}
use Rattle.posting_sets.specs.Prefixes.{PrefixView, AreGathered, AreGatheredFrom, prefix_term, HavePrefix, AreNumberedByPrefix, HavePrefixAtFirst}
use Rattle.search_base.specs.Bucket.{bucket_of}

module _ (postings : PostingsView) (view : PrefixView) (term : TermView) (is : term ≡ prefix_term view) (from : AreGatheredFrom postings view) (universe : List ℕ) where
  pub occurring_so : (ids : List ℕ) → HavePrefix view universe ids → AreOccurring postings term universe ids
  occurring_so ids are = λ documents fresh. are documents (from documents fresh) ∙ ap (λ t. occurring documents t universe) (sym is)

  pub of_numbers_so : (number : Place → Option ℕ) (sets : List (List ℕ))
      → ((documents : List Document) → AreGathered documents view → (n id : ℕ) → has (ids_at n sets) id ≡ has_number documents (prefix_term view) number universe n id)
      → AreOfNumbers postings term number universe sets
  of_numbers_so number sets are = λ documents fresh n id.
      are documents (from documents fresh) n id ∙ ap (λ t. has_number documents t number universe n id) (sym is)

  pub numbered_so : (number : Place → Option ℕ) (rows : List (ℕ × SetView)) → AreNumberedByPrefix view number universe rows → AreNumbered postings term number universe rows
  numbered_so number rows are = record {
    up = are.up;
    some = are.some;
    each = λ documents fresh n. are.each documents (from documents fresh) n ∙ ap (λ t. numbered documents t number universe n) (sym is);
  }

  pub first_so : (ids : List ℕ) → HavePrefixAtFirst view universe ids → AreAtFirst postings term universe ids
  first_so ids are = λ documents fresh.
      are documents (from documents fresh) ∙ ap (λ t. numbered documents t (λ place. Some (bucket_of place.position)) universe 0) (sym is)
