-- What the reading of the texts of a value says.
use Rattle.std.proofs.Common.{◌≡◌, inl, inr, ℕ, ◌+◌, List, [], ◌∷◌, ◌++◌, length, map, Bool, true, false, cond, Option, Some, None, Result, Ok, Err, refl, sym, ap, ap₂, subst, ◌∙◌, append_assoc, append-nil, arith, length-append}
use mathlib.Core.List.{map-append}
use Rattle.std.specs.Prelude.{find, option_map}
use Rattle.serde_json.specs.Data.{Data, null, string, array, Items, no_items, item}
use Rattle.filter_tree.specs.Tree.{Tree, or_of}
use Rattle.filter_machine.specs.Number.{is_no_number}
use Rattle.filter_machine.specs.Grammar.{Ors, ors_tree, ors_values}
use Rattle.filter_machine.specs.Machine.{or_first, bad_after, Reading}
use Rattle.filter_expr.specs.Limit.{TextFault, syntax_at, too_deep_at, reading_of}
use Rattle.filter_expr.specs.Faults.{IsSyntaxFault, IsTooDeep}
use Rattle.filter_expr.specs.Texts.{texts_in, group_of, and_group, groups_in, groups_of, texts_among, texts_of_member, texts_of_members, texts_of}
use Rattle.filter_expr.specs.Parsed.{is_blank, Write, GroupsWrite, group_trees, values_of, values_of_groups, IsFirstFault}
use Rattle.filter_expr.specs.Reader.{Progress, progress, new_progress, with_reading, text_read, and_then, texts_read, with_group, group_end, group_read, groups_read, value_read}
use Rattle.filter_expr.specs.declared.fault.FilterRefusal.{FilterRefusal}
use Rattle.filter_expr.specs.declared.fault.FilterRefusal.TheVariants.{Syntax, TooDeep, NotANumber, NotText}
use Rattle.filter_machine.proofs.Complete.{bad_after-append}
use Rattle.filter_expr.proofs.Answered.{AnswerIs, answer_is}

-- ---- the first bad value

bad_stays : (w : List ℕ) (vs : List (List ℕ)) → bad_after (Some w) vs ≡ Some w
bad_stays w [] = refl
bad_stays w (v ∷ vs) = bad_stays w vs

pub bad_joined : (b : Option (List ℕ)) (vs : List (List ℕ)) → or_first b (bad_after None vs) ≡ bad_after b vs
bad_joined None vs = refl
bad_joined (Some w) vs = sym (bad_stays w vs)

pub bad_found : (vs : List (List ℕ)) → bad_after None vs ≡ find is_no_number vs
bad_found [] = refl
bad_found (v ∷ vs) = by_test (is_no_number v) (bad_found vs)
  where
    by_test : (c : Bool) → bad_after None vs ≡ find is_no_number vs → bad_after (cond c (Some v) None) vs ≡ cond c (Some v) (find is_no_number vs)
    by_test true later = bad_stays v vs
    by_test false later = later

-- ---- texts one after another

pub Write-append : (ts us : List (List ℕ)) (fs gs : List Ors) → Write ts fs → Write us gs → Write (ts ++ us) (fs ++ gs)
Write-append [] us fs gs none h = subst (Write us) (ap (λ xs. xs ++ gs) (sym none)) h
Write-append (t ∷ ts) us fs gs (a, b, one, later, e) h = (a, b ++ gs, one, Write-append ts us b gs later h, ap (λ xs. xs ++ gs) e ∙ append_assoc a b gs)

values_of-append : (fs gs : List Ors) → values_of (fs ++ gs) ≡ values_of fs ++ values_of gs
values_of-append [] gs = refl
values_of-append (f ∷ fs) gs = ap (λ vs. ors_values f ++ vs) (values_of-append fs gs) ∙ sym (append_assoc (ors_values f) (values_of fs) (values_of gs))

abbrev pub IsRefused : ℕ → List ℕ → Type 0
IsRefused p text = IsSyntaxFault text p × ((q : ℕ) → IsTooDeep text q → ⊥)

abbrev pub IsDeep : ℕ → List ℕ → Type 0
IsDeep p text = IsTooDeep text p

-- the first text with a fault, where `count` texts came before
pub record FaultFrom (count : ℕ) (texts : List (List ℕ)) (number : ℕ) (Fault : List ℕ → Type 0) : Type 0 where
  pub before : List (List ℕ)
  pub text : List ℕ
  pub after : List (List ℕ)
  pub texts_are : texts ≡ before ++ text ∷ after
  pub number_is : number ≡ count + length before + 1
  pub filters : List Ors
  pub sound : Write before filters
  pub not_blank : is_blank text ≡ false
  pub fault : Fault text

fault_front : (count : ℕ) (ts us : List (List ℕ)) (n : ℕ) (F : List ℕ → Type 0) → FaultFrom count ts n F → FaultFrom count (ts ++ us) n F
fault_front count ts us n F h = record {
  before = h.before;
  text = h.text;
  after = h.after ++ us;
  texts_are = ap (λ xs. xs ++ us) h.texts_are ∙ append_assoc h.before (h.text ∷ h.after) us;
  number_is = h.number_is;
  filters = h.filters;
  sound = h.sound;
  not_blank = h.not_blank;
  fault = h.fault;
}

fault_later : (count next : ℕ) (ts us : List (List ℕ)) (fs : List Ors) (n : ℕ) (F : List ℕ → Type 0) → next ≡ count + length ts → Write ts fs → FaultFrom next us n F → FaultFrom count (ts ++ us) n F
fault_later count next ts us fs n F far good h = record {
  before = ts ++ h.before;
  text = h.text;
  after = h.after;
  texts_are = ap (λ xs. ts ++ xs) h.texts_are ∙ sym (append_assoc ts h.before (h.text ∷ h.after));
  number_is = let e = h.number_is in let sum = length-append ts h.before in omega arith;
  filters = fs ++ h.filters;
  sound = Write-append ts h.before fs h.filters good h.sound;
  not_blank = h.not_blank;
  fault = h.fault;
}

pub record TextsOk (ts : List (List ℕ)) (p q : Progress) : Type 0 where
  pub filters : List Ors
  pub write : Write ts filters
  pub count_is : q.count ≡ p.count + length ts
  pub bad_is : q.bad ≡ bad_after p.bad (values_of filters)
  pub groups_are : q.groups ≡ p.groups
  pub members_are : q.members ≡ p.members ++ map ors_tree filters

abbrev pub TextsSay : List (List ℕ) → Progress → Result Progress FilterRefusal → Type 0
TextsSay ts p (Ok q) = TextsOk ts p q
TextsSay ts p (Err (Syntax n k)) = FaultFrom p.count ts n (IsRefused k)
TextsSay ts p (Err (TooDeep n k)) = FaultFrom p.count ts n (IsDeep k)
TextsSay ts p (Err _) = ⊥

one_fault : (count : ℕ) (text : List ℕ) (n : ℕ) (F : List ℕ → Type 0) → n ≡ count + 1 → is_blank text ≡ false → F text → FaultFrom count (text ∷ []) n F
one_fault count text n F far blank fault = record {
  before = [];
  text = text;
  after = [];
  texts_are = refl;
  number_is = omega arith;
  filters = [];
  sound = refl;
  not_blank = blank;
  fault = fault;
}

pub text_says : (text : List ℕ) (p : Progress) → TextsSay (text ∷ []) p (text_read text p)
text_says text p = by_blank (is_blank text) refl
  where
    by_answer : is_blank text ≡ false → (r : Result Reading TextFault) → AnswerIs text r → TextsSay (text ∷ []) p (with_reading (p.count + 1) p r)
    by_answer blank (Ok r) (f, is, within, same) = record {
      filters = f ∷ [];
      write = (f ∷ [], [], inr (f, is, within, refl), refl, refl);
      count_is = omega arith;
      bad_is = ap (λ x. or_first p.bad x.bad) same ∙ bad_joined p.bad (ors_values f) ∙ ap (bad_after p.bad) (sym (append-nil (ors_values f)));
      groups_are = refl;
      members_are = ap (λ x. p.members ++ x.tree ∷ []) same;
    }
    by_answer blank (Err (syntax_at q)) fault = one_fault p.count text (p.count + 1) (IsRefused q) refl blank fault
    by_answer blank (Err (too_deep_at q)) fault = one_fault p.count text (p.count + 1) (IsDeep q) refl blank fault

    by_blank : (c : Bool) → is_blank text ≡ c → TextsSay (text ∷ []) p (cond c (Ok (progress (p.count + 1) p.bad p.groups p.members)) (with_reading (p.count + 1) p (reading_of text)))
    by_blank true blank = record {
      filters = [];
      write = ([], [], inl (blank, refl), refl, refl);
      count_is = omega arith;
      bad_is = refl;
      groups_are = refl;
      members_are = sym (append-nil p.members);
    }
    by_blank false blank = by_answer blank (reading_of text) (answer_is text)

joined : (ts us : List (List ℕ)) (p q : Progress) (r : Result Progress FilterRefusal) → TextsOk ts p q → TextsSay us q r → TextsSay (ts ++ us) p r
joined ts us p q (Ok last) h k = record {
  filters = h.filters ++ k.filters;
  write = Write-append ts us h.filters k.filters h.write k.write;
  count_is = let a = h.count_is in let b = k.count_is in let sum = length-append ts us in omega arith;
  bad_is = k.bad_is ∙ ap (λ b. bad_after b (values_of k.filters)) h.bad_is ∙ sym (bad_after-append (values_of h.filters) (values_of k.filters) p.bad)
      ∙ ap (bad_after p.bad) (sym (values_of-append h.filters k.filters));
  groups_are = k.groups_are ∙ h.groups_are;
  members_are = k.members_are ∙ ap (λ xs. xs ++ map ors_tree k.filters) h.members_are ∙ append_assoc p.members (map ors_tree h.filters) (map ors_tree k.filters)
      ∙ ap (λ xs. p.members ++ xs) (sym (map-append ors_tree h.filters k.filters));
}
joined ts us p q (Err (Syntax n k)) h fault = fault_later p.count q.count ts us h.filters n (IsRefused k) h.count_is h.write fault
joined ts us p q (Err (TooDeep n k)) h fault = fault_later p.count q.count ts us h.filters n (IsDeep k) h.count_is h.write fault
joined ts us p q (Err (NotANumber w)) h wrong = wrong
joined ts us p q (Err NotText) h wrong = wrong

then_says : (ts us : List (List ℕ)) (p : Progress) (r : Result Progress FilterRefusal) (f : Progress → Result Progress FilterRefusal) → TextsSay ts p r → ((q : Progress) → TextsSay us q (f q)) → TextsSay (ts ++ us) p (and_then r f)
then_says ts us p (Ok q) f h later = joined ts us p q (f q) h (later q)
then_says ts us p (Err (Syntax n k)) f fault later = fault_front p.count ts us n (IsRefused k) fault
then_says ts us p (Err (TooDeep n k)) f fault later = fault_front p.count ts us n (IsDeep k) fault
then_says ts us p (Err (NotANumber w)) f wrong later = wrong
then_says ts us p (Err NotText) f wrong later = wrong

mapped : (o : Option (List (List ℕ))) (s : List ℕ) (ts : List (List ℕ)) → option_map (λ us. s ∷ us) o ≡ Some ts → (us : List (List ℕ)) × (o ≡ Some us) × (s ∷ us ≡ ts)
mapped None s ts e = absurd (let wrong = e in cc)
mapped (Some us) s ts e = (us, refl, cc)

pub texts_say : (ds : Items) (ts : List (List ℕ)) (p : Progress) → texts_in ds ≡ Some ts → TextsSay ts p (texts_read ds p)
texts_say no_items ts p e =
    let none : [] ≡ ts = cc in
    subst (λ us. TextsSay us p (Ok p)) none (record { filters = []; write = refl; count_is = omega arith; bad_is = refl; groups_are = refl; members_are = sym (append-nil p.members) })
texts_say (item (string s) ds) ts p e =
    let (us, is, same) = mapped (texts_in ds) s ts e in
    subst (λ vs. TextsSay vs p (and_then (text_read s p) (texts_read ds))) same (then_says (s ∷ []) us p (text_read s p) (texts_read ds) (text_says s p) (λ q. texts_say ds us q is))
texts_say (item _ ds) ts p e = absurd (let wrong = e in cc)

pub texts_among_are : (ds : Items) (ts : List (List ℕ)) → texts_in ds ≡ Some ts → texts_among ds ≡ ts
texts_among_are no_items ts e = cc
texts_among_are (item (string s) ds) ts e = let (us, is, same) = mapped (texts_in ds) s ts e in ap (λ vs. s ∷ vs) (texts_among_are ds us is) ∙ same
texts_among_are (item _ ds) ts e = absurd (let wrong = e in cc)

-- ---- group by group

pub record GroupsOk (gs : List (List (List ℕ))) (ts : List (List ℕ)) (p q : Progress) : Type 0 where
  pub filters : List (List Ors)
  pub write : GroupsWrite gs filters
  pub all : List Ors
  pub all_write : Write ts all
  pub count_is : q.count ≡ p.count + length ts
  pub bad_is : q.bad ≡ bad_after p.bad (values_of_groups filters)
  pub groups_are : q.groups ≡ p.groups ++ group_trees filters

abbrev pub GroupsSay : List (List (List ℕ)) → List (List ℕ) → Progress → Result Progress FilterRefusal → Type 0
GroupsSay gs ts p (Ok q) = GroupsOk gs ts p q
GroupsSay gs ts p (Err (Syntax n k)) = FaultFrom p.count ts n (IsRefused k)
GroupsSay gs ts p (Err (TooDeep n k)) = FaultFrom p.count ts n (IsDeep k)
GroupsSay gs ts p (Err _) = ⊥

group_added : (fs : List Ors) (fss : List (List Ors)) (gs : List Tree) → with_group gs (map ors_tree fs) ++ group_trees fss ≡ gs ++ group_trees (fs ∷ fss)
group_added [] fss gs = refl
group_added (f ∷ fs) fss gs = append_assoc gs (or_of (map ors_tree (f ∷ fs)) ∷ []) (group_trees fss)

group_joined : (g : List (List ℕ)) (gs : List (List (List ℕ))) (us : List (List ℕ)) (p q : Progress) (r : Result Progress FilterRefusal) → p.members ≡ [] → TextsOk g p q → GroupsSay gs us (group_end q) r
    → GroupsSay (g ∷ gs) (g ++ us) p r
group_joined g gs us p q (Ok last) none h k = record {
  filters = h.filters ∷ k.filters;
  write = (h.filters, k.filters, h.write, k.write, refl);
  all = h.filters ++ k.all;
  all_write = Write-append g us h.filters k.all h.write k.all_write;
  count_is = let a = h.count_is in let b = k.count_is in let sum = length-append g us in omega arith;
  bad_is = k.bad_is ∙ ap (λ b. bad_after b (values_of_groups k.filters)) h.bad_is ∙ sym (bad_after-append (values_of h.filters) (values_of_groups k.filters) p.bad);
  groups_are = k.groups_are ∙ ap₂ (λ xs ys. with_group xs ys ++ group_trees k.filters) h.groups_are (h.members_are ∙ ap (λ xs. xs ++ map ors_tree h.filters) none)
      ∙ group_added h.filters k.filters p.groups;
}
group_joined g gs us p q (Err (Syntax n k)) none h fault = fault_later p.count q.count g us h.filters n (IsRefused k) h.count_is h.write fault
group_joined g gs us p q (Err (TooDeep n k)) none h fault = fault_later p.count q.count g us h.filters n (IsDeep k) h.count_is h.write fault
group_joined g gs us p q (Err (NotANumber w)) none h wrong = wrong
group_joined g gs us p q (Err NotText) none h wrong = wrong

group_then : (g : List (List ℕ)) (gs : List (List (List ℕ))) (us : List (List ℕ)) (p : Progress) (r : Result Progress FilterRefusal) (f : Progress → Result Progress FilterRefusal)
    → p.members ≡ [] → TextsSay g p r → ((q : Progress) → q.members ≡ [] → GroupsSay gs us q (f q)) → GroupsSay (g ∷ gs) (g ++ us) p (and_then r (λ q. f (group_end q)))
group_then g gs us p (Ok q) f none h later = group_joined g gs us p q (f (group_end q)) none h (later (group_end q) refl)
group_then g gs us p (Err (Syntax n k)) f none fault later = fault_front p.count g us n (IsRefused k) fault
group_then g gs us p (Err (TooDeep n k)) f none fault later = fault_front p.count g us n (IsDeep k) fault
group_then g gs us p (Err (NotANumber w)) f none wrong later = wrong
group_then g gs us p (Err NotText) f none wrong later = wrong

pub group_says : (d : Data) (g : List (List ℕ)) (p : Progress) → group_of d ≡ Some g → TextsSay g p (group_read d p) × (texts_of_member d ≡ g)
group_says (string s) g p e = let same : s ∷ [] ≡ g = cc in (subst (λ us. TextsSay us p (text_read s p)) same (text_says s p), same)
group_says (array ds) g p e = (texts_say ds g p e, texts_among_are ds g e)
group_says _ g p e = absurd (let wrong = e in cc)

pub split : (o : Option (List (List ℕ))) (os : Option (List (List (List ℕ)))) (gs : List (List (List ℕ))) → and_group o os ≡ Some gs
    → (g : List (List ℕ)) × (rest : List (List (List ℕ))) × (o ≡ Some g) × (os ≡ Some rest) × (g ∷ rest ≡ gs)
split None os gs e = absurd (let wrong = e in cc)
split (Some g) None gs e = absurd (let wrong = e in cc)
split (Some g) (Some rest) gs e = (g, rest, refl, refl, cc)

nothing_more : (q : Progress) → GroupsSay [] [] q (Ok q)
nothing_more q = record { filters = []; write = refl; all = []; all_write = refl; count_is = omega arith; bad_is = refl; groups_are = sym (append-nil q.groups) }

groups_say : (ds : Items) (gs : List (List (List ℕ))) (p : Progress) → p.members ≡ [] → groups_in ds ≡ Some gs → GroupsSay gs (texts_of_members ds) p (groups_read ds p)
groups_say no_items gs p none e = let empty : [] ≡ gs = cc in subst (λ hs. GroupsSay hs [] p (Ok p)) empty (nothing_more p)
groups_say (item d ds) gs p none e =
    let (g, rest, is, are, same) = split (group_of d) (groups_in ds) gs e in
    let (says, texts_are) = group_says d g p is in
    let r = and_then (group_read d p) (λ q. groups_read ds (group_end q)) in
    subst (λ hs. GroupsSay hs (texts_of_member d ++ texts_of_members ds) p r) same
    (subst (λ us. GroupsSay (g ∷ rest) (us ++ texts_of_members ds) p r) (sym texts_are)
    (group_then g rest (texts_of_members ds) p (group_read d p) (groups_read ds) none says (λ q empty. groups_say ds rest q empty are)))

-- what the reading of a value says
pub value_says : (d : Data) (gs : List (List (List ℕ))) → groups_of d ≡ Some gs → GroupsSay gs (texts_of d) new_progress (value_read d new_progress)
value_says null gs e = let empty : [] ≡ gs = cc in subst (λ hs. GroupsSay hs [] new_progress (Ok new_progress)) empty (nothing_more new_progress)
value_says (string s) gs e =
    let same : (s ∷ []) ∷ [] ≡ gs = cc in
    subst (λ hs. GroupsSay hs (s ∷ []) new_progress (and_then (text_read s new_progress) (λ q. Ok (group_end q)))) same
    (group_then (s ∷ []) [] [] new_progress (text_read s new_progress) (λ q. Ok q) refl (text_says s new_progress) (λ q empty. nothing_more q))
value_says (array ds) gs e = groups_say ds gs new_progress refl e
value_says _ gs e = absurd (let wrong = e in cc)

pub first_fault : (texts : List (List ℕ)) (n : ℕ) (F : List ℕ → Type 0) → FaultFrom 0 texts n F → IsFirstFault texts n F
first_fault texts n F h = record {
  before = h.before;
  text = h.text;
  after = h.after;
  texts_are = h.texts_are;
  number_is = let e = h.number_is in omega arith;
  filters = h.filters;
  sound = h.sound;
  not_blank = h.not_blank;
  fault = h.fault;
}
