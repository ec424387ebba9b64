-- Which tokens a state does not take.
use Rattle.std.proofs.Common.{◌≡◌, ℕ, List, Bool, None, refl}
use Rattle.filter_machine.specs.Machine.{start, attribute, value, low, high, refused, in_list, first, item, after_comma, being, not_being, done, Level, Frame, move}
use Rattle.filter_machine.specs.declared.token.Token.{Token}
use Rattle.filter_machine.specs.declared.token.Token.TheVariants.{Text, And, Or, Not, In, To, Exists, Is, Null, Empty, Compare, Open, Close, ListOpen, ListClose, Comma}
use Rattle.filter_machine.specs.declared.token.Comparison.{Comparison}

pub none_attribute : (a : List ℕ) (t : Token) (l : Level) (o : List Frame) → ((w : List ℕ) → t ≡ Text w → ⊥) → (t ≡ Not → ⊥) → (t ≡ In → ⊥) → (t ≡ Is → ⊥) → ((c : Comparison) → t ≡ Compare c → ⊥) → (t ≡ Exists → ⊥) → move (attribute a) t l o ≡ None
none_attribute a (Text w) l o h1 h2 h3 h4 h5 h6 = absurd (h1 w refl)
none_attribute a Not l o h1 h2 h3 h4 h5 h6 = absurd (h2 refl)
none_attribute a In l o h1 h2 h3 h4 h5 h6 = absurd (h3 refl)
none_attribute a Is l o h1 h2 h3 h4 h5 h6 = absurd (h4 refl)
none_attribute a (Compare c) l o h1 h2 h3 h4 h5 h6 = absurd (h5 c refl)
none_attribute a Exists l o h1 h2 h3 h4 h5 h6 = absurd (h6 refl)
none_attribute a _ l o h1 h2 h3 h4 h5 h6 = refl

pub none_start : (t : Token) (l : Level) (o : List Frame) → ((w : List ℕ) → t ≡ Text w → ⊥) → (t ≡ Not → ⊥) → (t ≡ Open → ⊥) → move start t l o ≡ None
none_start (Text w) l o h0 h1 h2 = absurd (h0 w refl)
none_start Not l o h0 h1 h2 = absurd (h1 refl)
none_start Open l o h0 h1 h2 = absurd (h2 refl)
none_start _ l o h0 h1 h2 = refl

pub none_low : (a : List ℕ) (b : List ℕ) (t : Token) (l : Level) (o : List Frame) → (t ≡ To → ⊥) → move (low a b) t l o ≡ None
none_low a b To l o h0 = absurd (h0 refl)
none_low a b _ l o h0 = refl

pub none_refused : (a : List ℕ) (t : Token) (l : Level) (o : List Frame) → (t ≡ In → ⊥) → (t ≡ Exists → ⊥) → move (refused a) t l o ≡ None
none_refused a In l o h0 h1 = absurd (h0 refl)
none_refused a Exists l o h0 h1 = absurd (h1 refl)
none_refused a _ l o h0 h1 = refl

pub none_in_list : (a : List ℕ) (n : Bool) (t : Token) (l : Level) (o : List Frame) → (t ≡ ListOpen → ⊥) → move (in_list a n) t l o ≡ None
none_in_list a n ListOpen l o h0 = absurd (h0 refl)
none_in_list a n _ l o h0 = refl

pub none_first : (a : List ℕ) (n : Bool) (t : Token) (l : Level) (o : List Frame) → ((w : List ℕ) → t ≡ Text w → ⊥) → (t ≡ ListClose → ⊥) → move (first a n) t l o ≡ None
none_first a n (Text w) l o h0 h1 = absurd (h0 w refl)
none_first a n ListClose l o h0 h1 = absurd (h1 refl)
none_first a n _ l o h0 h1 = refl

pub none_item : (a : List ℕ) (n : Bool) (vs : List (List ℕ)) (t : Token) (l : Level) (o : List Frame) → (t ≡ Comma → ⊥) → (t ≡ ListClose → ⊥) → move (item a n vs) t l o ≡ None
none_item a n vs Comma l o h0 h1 = absurd (h0 refl)
none_item a n vs ListClose l o h0 h1 = absurd (h1 refl)
none_item a n vs _ l o h0 h1 = refl

pub none_after_comma : (a : List ℕ) (n : Bool) (vs : List (List ℕ)) (t : Token) (l : Level) (o : List Frame) → ((w : List ℕ) → t ≡ Text w → ⊥) → move (after_comma a n vs) t l o ≡ None
none_after_comma a n vs (Text w) l o h0 = absurd (h0 w refl)
none_after_comma a n vs _ l o h0 = refl

pub none_being : (a : List ℕ) (t : Token) (l : Level) (o : List Frame) → (t ≡ Not → ⊥) → (t ≡ Null → ⊥) → (t ≡ Empty → ⊥) → move (being a) t l o ≡ None
none_being a Not l o h0 h1 h2 = absurd (h0 refl)
none_being a Null l o h0 h1 h2 = absurd (h1 refl)
none_being a Empty l o h0 h1 h2 = absurd (h2 refl)
none_being a _ l o h0 h1 h2 = refl

pub none_not_being : (a : List ℕ) (t : Token) (l : Level) (o : List Frame) → (t ≡ Null → ⊥) → (t ≡ Empty → ⊥) → move (not_being a) t l o ≡ None
none_not_being a Null l o h0 h1 = absurd (h0 refl)
none_not_being a Empty l o h0 h1 = absurd (h1 refl)
none_not_being a _ l o h0 h1 = refl

pub none_done : (t : Token) (l : Level) (o : List Frame) → (t ≡ And → ⊥) → (t ≡ Or → ⊥) → (t ≡ Close → ⊥) → move done t l o ≡ None
none_done And l o h0 h1 h2 = absurd (h0 refl)
none_done Or l o h0 h1 h2 = absurd (h1 refl)
none_done Close l o h0 h1 h2 = absurd (h2 refl)
none_done _ l o h0 h1 h2 = refl

pub none_value : (a : List ℕ) (c : Comparison) (t : Token) (l : Level) (o : List Frame) → ((w : List ℕ) → t ≡ Text w → ⊥) → move (value a c) t l o ≡ None
none_value a c (Text w) l o h0 = absurd (h0 w refl)
none_value a c _ l o h0 = refl

pub none_high : (a b : List ℕ) (t : Token) (l : Level) (o : List Frame) → ((w : List ℕ) → t ≡ Text w → ⊥) → move (high a b) t l o ≡ None
none_high a b (Text w) l o h0 = absurd (h0 w refl)
none_high a b _ l o h0 = refl
