-- A value has one answer.
use Rattle.std.proofs.Common.{◌≡◌, ◌⊎◌, inl, inr, ℕ, suc, List, [], ◌∷◌, ◌++◌, length, map, true, false, Option, Some, None, Result, Ok, Err, refl, sym, ap, ap₂, subst, ◌∙◌, append_assoc, append-nil, arith}
use Rattle.std.specs.Prelude.{find}
use Rattle.std.proofs.lemmas.Bool.{and_parts}
use Rattle.serde_json.specs.Data.{Data, null, string, array, Items, no_items, item}
use Rattle.filter_tree.specs.Tree.{Tree, or_of}
use Rattle.filter_machine.specs.Number.{is_no_number}
use Rattle.filter_machine.specs.Grammar.{Ors, ors_tree, ors_values}
use Rattle.filter_machine.specs.Machine.{bad_after, or_first, new_machine, Machine}
use Rattle.filter_expr.specs.Limit.{syntax_at, too_deep_at, outcome_at, ended_at, reading_of}
use Rattle.filter_machine.specs.Scan.{with, gap}
use Rattle.filter_machine.specs.Text.{is_space, class_of, space, IsFilter}
use Rattle.filter_expr.specs.Faults.{IsWithin, IsTooDeep}
use Rattle.filter_expr.specs.Texts.{group_of, groups_in, groups_of, texts_of_member, texts_of_members, texts_of}
use Rattle.filter_expr.specs.Parsed.{is_blank, Writes, Write, GroupsWrite, group_trees, conditions, values_of, values_of_groups, IsFirstFault, IsParsed}
use Rattle.filter_expr.specs.declared.fault.FilterRefusal.{FilterRefusal}
use Rattle.filter_expr.specs.declared.fault.FilterRefusal.TheVariants.{Syntax, TooDeep, NotANumber, NotText}
use Rattle.filter_machine.proofs.Complete.{bad_after-append}
use Rattle.filter_machine.proofs.Readings.{filter_reading, one_reading}
use Rattle.filter_expr.proofs.Within.{within_read}
use Rattle.filter_expr.proofs.Deep.{too_deep_read}
use Rattle.filter_expr.proofs.Answered.{one_place}
use Rattle.filter_expr.proofs.Groups.{bad_joined, bad_found, Write-append, group_says, split, IsRefused, IsDeep}

-- ---- a blank text is no filter

space_is : (b : ℕ) → is_space b ≡ true → class_of b ≡ space
unfolding class_of
space_is b e = rw e refl

blank_outcome : (text : List ℕ) (at : ℕ) (m : Machine) → is_blank text ≡ true → outcome_at text at (with gap m) ≡ Ok m
blank_outcome [] at m e = refl
blank_outcome (b ∷ bs) at m e =
    let both = and_parts (is_space b) (is_blank bs) e in
    rw (space_is b both.0) (blank_outcome bs (suc at) m both.1)

blank_reading : (text : List ℕ) → is_blank text ≡ true → reading_of text ≡ Err (syntax_at (length text))
unfolding reading_of
blank_reading text e = ap (ended_at (length text)) (blank_outcome text 0 new_machine e)

blank_no_filter : (text : List ℕ) (f : Ors) → is_blank text ≡ true → IsFilter text f → IsWithin f → ⊥
blank_no_filter text f e h within = let wrong : Err (syntax_at (length text)) ≡ Ok (filter_reading f) = sym (blank_reading text e) ∙ within_read text f h within in cc

-- ---- what texts write is one thing

pub record SameRead (fs gs : List Ors) : Type 0 where
  pub trees : map ors_tree fs ≡ map ors_tree gs
  pub bad : (b : Option (List ℕ)) → bad_after b (values_of fs) ≡ bad_after b (values_of gs)

writes_same : (t : List ℕ) (fs gs : List Ors) → Writes t fs → Writes t gs → SameRead fs gs
writes_same t fs gs (inl (blank, none)) (inl (blank', none')) = record { trees = ap (map ors_tree) (none ∙ sym none'); bad = λ b. ap (λ xs. bad_after b (values_of xs)) (none ∙ sym none') }
writes_same t fs gs (inl (blank, none)) (inr (g, is, within, are)) = absurd (blank_no_filter t g blank is within)
writes_same t fs gs (inr (f, is, within, are)) (inl (blank, none)) = absurd (blank_no_filter t f blank is within)
writes_same t fs gs (inr (f, is, within, are)) (inr (g, is', within', are')) =
    let same = one_reading t f g is is' in record {
      trees = ap (map ors_tree) are ∙ ap (λ r. r.tree ∷ []) same ∙ sym (ap (map ors_tree) are');
      bad = λ b. ap (λ xs. bad_after b (values_of xs)) are ∙ ap (bad_after b) (append-nil (ors_values f)) ∙ sym (bad_joined b (ors_values f)) ∙ ap (λ r. or_first b r.bad) same
          ∙ bad_joined b (ors_values g) ∙ ap (bad_after b) (sym (append-nil (ors_values g))) ∙ ap (λ xs. bad_after b (values_of xs)) (sym are');
    }

maps_join : (fs gs : List Ors) → map ors_tree (fs ++ gs) ≡ map ors_tree fs ++ map ors_tree gs
maps_join [] gs = refl
maps_join (f ∷ fs) gs = ap (λ xs. ors_tree f ∷ xs) (maps_join fs gs)

values_join : (fs gs : List Ors) → values_of (fs ++ gs) ≡ values_of fs ++ values_of gs
values_join [] gs = refl
values_join (f ∷ fs) gs = ap (λ vs. ors_values f ++ vs) (values_join fs gs) ∙ sym (append_assoc (ors_values f) (values_of fs) (values_of gs))

read_joined : (fs gs hs ks : List Ors) → SameRead fs hs → SameRead gs ks → SameRead (fs ++ gs) (hs ++ ks)
read_joined fs gs hs ks h k = record {
  trees = maps_join fs gs ∙ ap₂ (λ xs ys. xs ++ ys) h.trees k.trees ∙ sym (maps_join hs ks);
  bad = λ b. ap (bad_after b) (values_join fs gs) ∙ bad_after-append (values_of fs) (values_of gs) b ∙ ap (λ x. bad_after x (values_of gs)) (h.bad b) ∙ k.bad (bad_after b (values_of hs))
      ∙ sym (bad_after-append (values_of hs) (values_of ks) b) ∙ ap (bad_after b) (sym (values_join hs ks));
}

same_both : (fs gs hs ks : List Ors) → fs ≡ hs → gs ≡ ks → SameRead hs ks → SameRead fs gs
same_both fs gs hs ks e e' h = subst (λ x. SameRead x gs) (sym e) (subst (λ y. SameRead hs y) (sym e') h)

write_same : (ts : List (List ℕ)) (fs gs : List Ors) → Write ts fs → Write ts gs → SameRead fs gs
write_same [] fs gs none none' = same_both fs gs [] [] none none' (record { trees = refl; bad = λ b. refl })
write_same (t ∷ ts) fs gs (a, b, one, later, e) (a', b', one', later', e') =
    same_both fs gs (a ++ b) (a' ++ b') e e' (read_joined a b a' b' (writes_same t a a' one one') (write_same ts b b' later later'))

abbrev grouped : List Tree → List Tree → List Tree
grouped [] rest = rest
grouped (m ∷ ms) rest = or_of (m ∷ ms) ∷ rest

grouped_is : (fs : List Ors) (fss : List (List Ors)) → group_trees (fs ∷ fss) ≡ grouped (map ors_tree fs) (group_trees fss)
grouped_is [] fss = refl
grouped_is (f ∷ fs) fss = refl

pub record SameGroups (fss gss : List (List Ors)) : Type 0 where
  pub trees : group_trees fss ≡ group_trees gss
  pub bad : (b : Option (List ℕ)) → bad_after b (values_of_groups fss) ≡ bad_after b (values_of_groups gss)

groups_same : (gs : List (List (List ℕ))) (fss gss : List (List Ors)) → GroupsWrite gs fss → GroupsWrite gs gss → SameGroups fss gss
groups_same [] fss gss none none' = record { trees = ap group_trees (none ∙ sym none'); bad = λ b. ap (λ x. bad_after b (values_of_groups x)) (none ∙ sym none') }
groups_same (g ∷ gs) fss gss (fs, rest, one, later, e) (fs', rest', one', later', e') =
    let h = write_same g fs fs' one one' in
    let k = groups_same gs rest rest' later later' in
    record {
      trees = ap group_trees e ∙ grouped_is fs rest ∙ ap₂ grouped h.trees k.trees ∙ sym (grouped_is fs' rest') ∙ ap group_trees (sym e');
      bad = λ b. ap (λ x. bad_after b (values_of_groups x)) e ∙ bad_after-append (values_of fs) (values_of_groups rest) b ∙ ap (λ x. bad_after x (values_of_groups rest)) (h.bad b)
          ∙ k.bad (bad_after b (values_of fs')) ∙ sym (bad_after-append (values_of fs') (values_of_groups rest') b) ∙ ap (λ x. bad_after b (values_of_groups x)) (sym e');
    }

bad_same : (gs : List (List (List ℕ))) (fss gss : List (List Ors)) → GroupsWrite gs fss → GroupsWrite gs gss → find is_no_number (values_of_groups fss) ≡ find is_no_number (values_of_groups gss)
bad_same gs fss gss h k = sym (bad_found (values_of_groups fss)) ∙ (groups_same gs fss gss h k).bad None ∙ bad_found (values_of_groups gss)

-- ---- the texts of the groups are all texts

all_write : (gs : List (List (List ℕ))) (fss : List (List Ors)) (ds : Items) → groups_in ds ≡ Some gs → GroupsWrite gs fss → (fs : List Ors) × Write (texts_of_members ds) fs
all_write gs fss no_items e h = ([], refl)
all_write gs fss (item d ds) e h =
    let (g, rest, is, are, same) = split (group_of d) (groups_in ds) gs e in
    by_parts g rest is are (subst (λ x. GroupsWrite x fss) (sym same) h) (λ later. all_write rest later ds are)
  where
    by_parts : (g : List (List ℕ)) (rest : List (List (List ℕ))) → group_of d ≡ Some g → groups_in ds ≡ Some rest → GroupsWrite (g ∷ rest) fss
        → ((later : List (List Ors)) → GroupsWrite rest later → (fs : List Ors) × Write (texts_of_members ds) fs) → (fs : List Ors) × Write (texts_of_member d ++ texts_of_members ds) fs
    by_parts g rest is are (fs, later, one, more, e) onward =
        let (us, them) = onward later more in
        let same = (group_says d g (record { count = 0; bad = None; groups = []; members = [] }) is).1 in
        (fs ++ us, Write-append (texts_of_member d) (texts_of_members ds) fs us (subst (λ x. Write x fs) (sym same) one) them)

value_writes : (d : Data) (gs : List (List (List ℕ))) (fss : List (List Ors)) → groups_of d ≡ Some gs → GroupsWrite gs fss → (fs : List Ors) × Write (texts_of d) fs
value_writes null gs fss e h = ([], refl)
value_writes (string s) gs fss e h = let same : gs ≡ (s ∷ []) ∷ [] = cc in alone (subst (λ x. GroupsWrite x fss) same h)
  where
    alone : GroupsWrite ((s ∷ []) ∷ []) fss → (fs : List Ors) × Write (s ∷ []) fs
    alone (fs, later, one, more, e) = (fs, one)
value_writes (array ds) gs fss e h = all_write gs fss ds e h
value_writes _ gs fss e h = absurd (let wrong = e in cc)

-- ---- a text with a fault writes nothing

abbrev pub HasFault : List ℕ → Type 0
HasFault text = ((p : ℕ) × IsRefused p text) ⊎ ((p : ℕ) × IsDeep p text)

no_fault : (text : List ℕ) (fs : List Ors) → Writes text fs → is_blank text ≡ false → HasFault text → ⊥
no_fault text fs (inl (blank, none)) other fault = let wrong : true ≡ false = sym blank ∙ other in cc
no_fault text fs (inr (f, is, within, are)) other (inl (p, refused)) = refused.0.no_filter f is
no_fault text fs (inr (f, is, within, are)) other (inr (p, deep)) =
    let wrong : Ok (filter_reading f) ≡ Err (too_deep_at p) = sym (within_read text f is within) ∙ too_deep_read text p deep in cc

writes_at : (before : List (List ℕ)) (text : List ℕ) (after : List (List ℕ)) (fs : List Ors) → Write (before ++ text ∷ after) fs → (gs : List Ors) × Writes text gs
writes_at [] text after fs (a, b, one, later, e) = (a, one)
writes_at (t ∷ before) text after fs (a, b, one, later, e) = writes_at before text after b later

-- all texts write, and one has a fault
apart : (ts : List (List ℕ)) (fs : List Ors) (n : ℕ) (F : List ℕ → Type 0) → Write ts fs → ((text : List ℕ) → F text → HasFault text) → IsFirstFault ts n F → ⊥
apart ts fs n F all fault h =
    let (gs, one) = writes_at h.before h.text h.after fs (subst (λ x. Write x fs) h.texts_are all) in
    no_fault h.text gs one h.not_blank (fault h.text h.fault)

-- ---- the first text with a fault is one

pub record SameText (text text' : List ℕ) (before before' : List (List ℕ)) : Type 0 where
  pub texts : text ≡ text'
  pub counts : length before ≡ length before'

first_same : (xs ys : List (List ℕ)) (x y : List ℕ) (us vs : List (List ℕ)) (fs gs : List Ors) → xs ++ x ∷ us ≡ ys ++ y ∷ vs → Write xs fs → Write ys gs
    → is_blank x ≡ false → is_blank y ≡ false → HasFault x → HasFault y → SameText x y xs ys
first_same [] [] x y us vs fs gs e h k bx by fx fy = record { texts = cc; counts = refl }
first_same [] (t ∷ ys) x y us vs fs gs e h (a, b, one, later, e') bx by fx fy = let same : x ≡ t = cc in absurd (no_fault x a (subst (λ z. Writes z a) (sym same) one) bx fx)
first_same (t ∷ xs) [] x y us vs fs gs e (a, b, one, later, e') k bx by fx fy = let same : t ≡ y = cc in absurd (no_fault y a (subst (λ z. Writes z a) same one) by fy)
first_same (t ∷ xs) (t' ∷ ys) x y us vs fs gs e (a, b, one, later, e') (a', b', one', later', e'') bx by fx fy =
    let rest : xs ++ x ∷ us ≡ ys ++ y ∷ vs = cc in
    let h = first_same xs ys x y us vs b b' rest later later' bx by fx fy in
    record { texts = h.texts; counts = ap suc h.counts }

faults_same : (ts : List (List ℕ)) (n m : ℕ) (F G : List ℕ → Type 0) → ((text : List ℕ) → F text → HasFault text) → ((text : List ℕ) → G text → HasFault text) → IsFirstFault ts n F → IsFirstFault ts m G
    → (text : List ℕ) × F text × G text × (n ≡ m)
faults_same ts n m F G f g h k =
    let same = first_same h.before k.before h.text k.text h.after k.after h.filters k.filters (sym h.texts_are ∙ k.texts_are) h.sound k.sound h.not_blank k.not_blank (f h.text h.fault) (g k.text k.fault) in
    (h.text, h.fault, subst G (sym same.texts) k.fault, (let a = h.number_is in let b = k.number_is in let c = same.counts in omega arith))

-- ---- the answer

refused_fault : (p : ℕ) (text : List ℕ) → IsRefused p text → HasFault text
refused_fault p text h = inl (p, h)

deep_fault : (p : ℕ) (text : List ℕ) → IsDeep p text → HasFault text
deep_fault p text h = inr (p, h)

same_groups : (d : Data) (gs hs : List (List (List ℕ))) → groups_of d ≡ Some gs → groups_of d ≡ Some hs → gs ≡ hs
same_groups d gs hs e e' = let same : Some gs ≡ Some hs = sym e ∙ e' in cc

no_groups : (d : Data) (gs : List (List (List ℕ))) → groups_of d ≡ None → groups_of d ≡ Some gs → ⊥
no_groups d gs none e = let wrong : None ≡ Some gs = sym none ∙ e in cc

deep_once : (text : List ℕ) (p q : ℕ) → IsTooDeep text p → IsTooDeep text q → p ≡ q
deep_once text p q h k = let same : Err (too_deep_at p) ≡ Err (too_deep_at q) = sym (too_deep_read text p h) ∙ too_deep_read text q k in cc

pub one_answer : (d : Data) (r s : Result Tree FilterRefusal) → IsParsed d r → IsParsed d s → r ≡ s
one_answer d (Ok f) (Ok g) (gs, fss, e, write, good, tree) (gs', fss', e', write', good', tree') =
    let same = same_groups d gs' gs e' e in
    ap (λ x. Ok x) (tree ∙ ap conditions ((groups_same gs fss fss' write (subst (λ x. GroupsWrite x fss') same write')).trees) ∙ sym tree')
one_answer d (Ok f) (Err (NotANumber w)) (gs, fss, e, write, good, tree) (gs', fss', e', write', bad') =
    let same = same_groups d gs' gs e' e in
    absurd (let wrong : None ≡ Some w = sym good ∙ bad_same gs fss fss' write (subst (λ x. GroupsWrite x fss') same write') ∙ bad' in cc)
one_answer d (Ok f) (Err (Syntax n p)) (gs, fss, e, write, good, tree) (gs', e', fault) =
    let (fs, all) = value_writes d gs fss e write in absurd (apart (texts_of d) fs n (IsRefused p) all (refused_fault p) fault)
one_answer d (Ok f) (Err (TooDeep n p)) (gs, fss, e, write, good, tree) (gs', e', fault) =
    let (fs, all) = value_writes d gs fss e write in absurd (apart (texts_of d) fs n (IsDeep p) all (deep_fault p) fault)
one_answer d (Ok f) (Err NotText) (gs, fss, e, write, good, tree) none = absurd (no_groups d gs none e)
one_answer d (Err (NotANumber w)) (Ok f) (gs, fss, e, write, bad) (gs', fss', e', write', good', tree') =
    let same = same_groups d gs' gs e' e in
    absurd (let wrong : Some w ≡ None = sym bad ∙ bad_same gs fss fss' write (subst (λ x. GroupsWrite x fss') same write') ∙ good' in cc)
one_answer d (Err (NotANumber w)) (Err (NotANumber v)) (gs, fss, e, write, bad) (gs', fss', e', write', bad') =
    let same = same_groups d gs' gs e' e in
    let words : Some w ≡ Some v = sym bad ∙ bad_same gs fss fss' write (subst (λ x. GroupsWrite x fss') same write') ∙ bad' in
    let alike : w ≡ v = cc in
    ap (λ x. Err (NotANumber x)) alike
one_answer d (Err (NotANumber w)) (Err (Syntax n p)) (gs, fss, e, write, bad) (gs', e', fault) =
    let (fs, all) = value_writes d gs fss e write in absurd (apart (texts_of d) fs n (IsRefused p) all (refused_fault p) fault)
one_answer d (Err (NotANumber w)) (Err (TooDeep n p)) (gs, fss, e, write, bad) (gs', e', fault) =
    let (fs, all) = value_writes d gs fss e write in absurd (apart (texts_of d) fs n (IsDeep p) all (deep_fault p) fault)
one_answer d (Err (NotANumber w)) (Err NotText) (gs, fss, e, write, bad) none = absurd (no_groups d gs none e)
one_answer d (Err (Syntax n p)) (Ok f) (gs', e', fault) (gs, fss, e, write, good, tree) =
    let (fs, all) = value_writes d gs fss e write in absurd (apart (texts_of d) fs n (IsRefused p) all (refused_fault p) fault)
one_answer d (Err (Syntax n p)) (Err (NotANumber w)) (gs', e', fault) (gs, fss, e, write, bad) =
    let (fs, all) = value_writes d gs fss e write in absurd (apart (texts_of d) fs n (IsRefused p) all (refused_fault p) fault)
one_answer d (Err (Syntax n p)) (Err (Syntax m q)) (gs, e, fault) (gs', e', fault') =
    let (text, one, other, numbers) = faults_same (texts_of d) n m (IsRefused p) (IsRefused q) (refused_fault p) (refused_fault q) fault fault' in
    ap₂ (λ a b. Err (Syntax a b)) numbers (one_place text p q one.0 other.0)
one_answer d (Err (Syntax n p)) (Err (TooDeep m q)) (gs, e, fault) (gs', e', fault') =
    let (text, one, other, numbers) = faults_same (texts_of d) n m (IsRefused p) (IsDeep q) (refused_fault p) (deep_fault q) fault fault' in
    absurd (one.1 q other)
one_answer d (Err (Syntax n p)) (Err NotText) (gs, e, fault) none = absurd (no_groups d gs none e)
one_answer d (Err (TooDeep n p)) (Ok f) (gs', e', fault) (gs, fss, e, write, good, tree) =
    let (fs, all) = value_writes d gs fss e write in absurd (apart (texts_of d) fs n (IsDeep p) all (deep_fault p) fault)
one_answer d (Err (TooDeep n p)) (Err (NotANumber w)) (gs', e', fault) (gs, fss, e, write, bad) =
    let (fs, all) = value_writes d gs fss e write in absurd (apart (texts_of d) fs n (IsDeep p) all (deep_fault p) fault)
one_answer d (Err (TooDeep n p)) (Err (Syntax m q)) (gs, e, fault) (gs', e', fault') =
    let (text, one, other, numbers) = faults_same (texts_of d) n m (IsDeep p) (IsRefused q) (deep_fault p) (refused_fault q) fault fault' in
    absurd (other.1 p one)
one_answer d (Err (TooDeep n p)) (Err (TooDeep m q)) (gs, e, fault) (gs', e', fault') =
    let (text, one, other, numbers) = faults_same (texts_of d) n m (IsDeep p) (IsDeep q) (deep_fault p) (deep_fault q) fault fault' in
    ap₂ (λ a b. Err (TooDeep a b)) numbers (deep_once text p q one other)
one_answer d (Err (TooDeep n p)) (Err NotText) (gs, e, fault) none = absurd (no_groups d gs none e)
one_answer d (Err NotText) (Ok f) none (gs, fss, e, write, good, tree) = absurd (no_groups d gs none e)
one_answer d (Err NotText) (Err (NotANumber w)) none (gs, fss, e, write, bad) = absurd (no_groups d gs none e)
one_answer d (Err NotText) (Err (Syntax n p)) none (gs, e, fault) = absurd (no_groups d gs none e)
one_answer d (Err NotText) (Err (TooDeep n p)) none (gs, e, fault) = absurd (no_groups d gs none e)
one_answer d (Err NotText) (Err NotText) none none' = refl
