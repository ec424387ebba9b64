-- Documents that come to an empty index.
use Rattle.std.proofs.Common.{◌≡◌, ℕ, zero, suc, ◌+◌, ◌<◌, Bool, true, false, ◌||◌, ◌==◌, Vec, Global, List, [], ◌∷◌, drop, length, get_or, refl, sym, ap, ◌∙◌, arith, append-nil, subst}
use Rattle.std.specs.List.{AllByRecursion}
use Rattle.std.proofs.lemmas.Bool.{eqb-true}
use Rattle.search_base.specs.declared.document.Leaf.{Leaf}
use Rattle.postings.specs.Dictionary.{PostingsView}
use Rattle.facet_index.specs.LeavesView.{LeavesView, leaves_at}
use Rattle.facet_index.specs.Batches.{has_id, AreApart, IsBatch, without, after}
use Rattle.facet_index.specs.Places.{IsIndexOf}
use Rattle.leaf_table.specs.Tables.{TableView, AreLeavesOf}
use Rattle.tests_leaves.specs.Shelves.{put, numbered}

-- the numbers of the documents are below this one
abbrev pub AreBelow : ℕ → List LeavesView → Type 0
AreBelow number documents = AllByRecursion (λ document. document.id < number) documents

not_there : (number : ℕ) (documents : List LeavesView) → AreBelow number documents → has_id number documents ≡ false
not_there number [] below = refl
not_there number (x ∷ xs) below = by (x.id == number) refl (not_there number xs below.1)
  where
    by : (b : Bool) → b ≡ (x.id == number) → has_id number xs ≡ false → (b || has_id number xs) ≡ false
    by true s later = absurd (let e : x.id ≡ number = eqb-true x.id number (sym s) in let less : x.id < number = below.0 in omega arith)
    by false s later = later

still_below : (number : ℕ) (documents : List LeavesView) → AreBelow number documents → AreBelow (suc number) documents
still_below number [] below = tt
still_below number (x ∷ xs) below = (let less : x.id < number = below.0 in omega arith, still_below number xs below.1)

put_apart : (number : ℕ) (others : List LeavesView) (leaves : List (Vec Leaf Global)) → AreBelow number others → AreApart others → AreApart (put number others leaves)
put_apart number others [] below apart = apart
put_apart number others (x ∷ xs) below apart =
    put_apart (suc number) (leaves_at number x.items [] ∷ others) xs (omega arith, still_below number others below) (not_there number others below, apart)

each_free : (documents : List LeavesView) → AllByRecursion (λ document. has_id document.id (without [] []) ≡ false) documents
each_free [] = tt
each_free (x ∷ xs) = (refl, each_free xs)

pub first_batch : (leaves : List (Vec Leaf Global)) → IsBatch [] (numbered leaves) []
first_batch leaves = record { whole = tt; once = put_apart 0 [] leaves tt tt; free = each_free (numbered leaves) }

pub all_there : (view : PostingsView) (leaves : List (Vec Leaf Global)) → IsIndexOf view (after [] (numbered leaves) []) → IsIndexOf view (numbered leaves)
all_there view leaves index = subst (IsIndexOf view) (append-nil (numbered leaves)) index

pub all_kept : (table : TableView) (leaves : List (Vec Leaf Global)) → AreLeavesOf table (after [] (numbered leaves) []) → AreLeavesOf table (numbered leaves)
all_kept table leaves kept = subst (AreLeavesOf table) (append-nil (numbered leaves)) kept

-- one document more
pub put_more : (leaves : List (Vec Leaf Global)) (i : ℕ) (x d : Vec Leaf Global) (others : List LeavesView) → i < length leaves → x ≡ get_or leaves i d
    → put (i + 1) (leaves_at i x.items [] ∷ others) (drop (i + 1) leaves) ≡ put i others (drop i leaves)
put_more leaves i x d others inside is =
    let next : i + 1 ≡ suc i = omega arith in
    ap (λ n. put n (leaves_at i x.items [] ∷ others) (drop n leaves)) next ∙ ap (put i others) (left leaves i inside is)
  where
    left : (ls : List (Vec Leaf Global)) (n : ℕ) → n < length ls → x ≡ get_or ls n d → x ∷ drop (suc n) ls ≡ drop n ls
    left [] n h e = absurd (omega arith)
    left (l ∷ ls) zero h e = ap (λ y. y ∷ ls) e
    left (l ∷ ls) (suc n) h e = left ls n (omega arith) e
