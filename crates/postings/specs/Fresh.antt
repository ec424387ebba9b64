-- When lists are those of documents.
use Rattle.std.specs.Prelude.{◌≡◌, ℕ, List}
use Rattle.sorted_pages.specs.Entries.{has}
use Rattle.postings.specs.Dictionary.{PostingsView, list_at}
use Rattle.postings.specs.Documents.{Document, stands, AllNarrow, AreApart}

-- the list of each word has exactly the places of the word in the documents, and is in order, so that it has each once
pub record StandsFor (view : PostingsView) (documents : List Document) : Type 0 where
  pub each : (word : List ℕ) (entry : ℕ) → has (list_at word view) entry ≡ stands word entry documents
  pub narrow : AllNarrow documents
  pub apart : AreApart documents
