-- A universe without documents in which a word does not stand.
use Rattle.std.specs.Prelude.{◌≡◌, ℕ, Bool, true, false, List, [], ◌∷◌}
use Rattle.std.specs.List.{filter}
use Rattle.search_base.specs.Occurrence.{occurs}
use Rattle.search_base.specs.TermView.{TermView}
use Rattle.postings.specs.Documents.{Document, places_of}
use Rattle.postings.specs.Dictionary.{PostingsView}
use Rattle.postings.specs.Fresh.{StandsFor}

-- one word
abbrev pub word_term : List ℕ → TermView
word_term word = record { words = word ∷ []; prefix = false }

-- whether the word stands in the document of this number
abbrev pub has_word : List Document → List ℕ → ℕ → Bool
has_word documents word id = occurs (places_of id documents) (word_term word)

-- what passes a test that only documents with the word pass is the same, whatever documents the postings stand for
abbrev pub AreNarrowed : PostingsView → List ℕ → List ℕ → List ℕ → Type 0
AreNarrowed view word universe ids = (documents : List Document) → StandsFor view documents
    → (test : ℕ → Bool) → ((id : ℕ) → test id ≡ true → has_word documents word id ≡ true)
    → filter test ids ≡ filter test universe
