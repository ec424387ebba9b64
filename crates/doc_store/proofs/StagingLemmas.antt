-- Documents that are staged one after the other.
use Rattle.std.proofs.Common.{◌≡◌, ℕ, true, List, [], ◌∷◌, ◌++◌, sym, ap, subst, ◌∙◌, append_assoc}
use Rattle.path_registry.specs.Names.{Names, number_at, is_kept, AreKept}
use Rattle.doc_store.specs.declared.rows.StoreRow.{StoreRow}
use Rattle.doc_store.specs.Store.{externals}

-- all of them come to the staged ones and those that are left, and each that is staged has a place for its external id
pub record Staging (all left staged : List StoreRow) (old now : Names) : Type 0 where
  pub joined : staged ++ left ≡ all
  pub numbers : (q : List ℕ) → number_at q now ≡ number_at q old
  pub kept : AreKept (externals staged) now

-- the external ids stay there, and one more is
kept-behind : (rs : List StoreRow) (r : StoreRow) (now new : Names) → ((q : List ℕ) → is_kept q now ≡ true → is_kept q new ≡ true) → is_kept r.external new ≡ true → AreKept (externals rs) now → AreKept (externals (rs ++ r ∷ [])) new
kept-behind [] r now new more here k = (here, tt)
kept-behind (s ∷ rs) r now new more here k = (more s.external k.0, kept-behind rs r now new more here k.1)

-- one document staged
pub staging_one : (all : List StoreRow) (r : StoreRow) (left rest staged staged' : List StoreRow) (old now new : Names) → left ≡ r ∷ rest → Staging all left staged old now → staged' ≡ staged ++ r ∷ []
    → ((q : List ℕ) → number_at q new ≡ number_at q now) → ((q : List ℕ) → is_kept q now ≡ true → is_kept q new ≡ true) → is_kept r.external new ≡ true → Staging all rest staged' old new
staging_one all r left rest staged staged' old now new is h more numbers kept here = record {
  joined = ap (λ v. v ++ rest) more ∙ append_assoc staged (r ∷ []) rest ∙ ap (λ v. staged ++ v) (sym is) ∙ h.joined;
  numbers = λ q. numbers q ∙ h.numbers q;
  kept = subst (λ rs. AreKept (externals rs) new) (sym more) (kept-behind staged r now new kept here h.kept);
}
