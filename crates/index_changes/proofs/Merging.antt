-- Documents over others: which paths come with them, and in which order they may be put together.
use Rattle.std.proofs.Common.{◌≡◌, ℕ, List, Ordering, Less, Equal, Greater, refl, sym, ap, ◌∙◌}
use Rattle.std.proofs.lemmas.Cmp.{nat_list_cmp_total, tied_itself}
use Rattle.std.specs.Ordering.{match_ordering, ordering_reverse}
use Rattle.serde_json.specs.Data.{Data, object, Members, no_members, member, put}
use Rattle.doc_values.specs.Stored.{put_all, merge}
use Rattle.doc_values.specs.Walk.{members_in}
use Rattle.index_changes.proofs.Rising.{order, IsBelow, Rise, NamesRise, below-lower, turned, rise-put, equal}

-- ---- one name put among others

pub put-less : (k : List ℕ) (d : Data) (l : List ℕ) (e : Data) (ms : Members) → order k l ≡ Less → put k d (member l e ms) ≡ member k d (member l e ms)
put-less k d l e ms is = ap (λ o. match_ordering o (member k d (member l e ms)) (member l d ms) (member l e (put k d ms))) is

pub put-equal : (k : List ℕ) (d : Data) (l : List ℕ) (e : Data) (ms : Members) → order k l ≡ Equal → put k d (member l e ms) ≡ member l d ms
put-equal k d l e ms is = ap (λ o. match_ordering o (member k d (member l e ms)) (member l d ms) (member l e (put k d ms))) is

pub put-greater : (k : List ℕ) (d : Data) (l : List ℕ) (e : Data) (ms : Members) → order k l ≡ Greater → put k d (member l e ms) ≡ member l e (put k d ms)
put-greater k d l e ms is = ap (λ o. match_ordering o (member k d (member l e ms)) (member l d ms) (member l e (put k d ms))) is

greater : (k l : List ℕ) → order k l ≡ Less → order l k ≡ Greater
greater k l e = nat_list_cmp_total.antisymm l k ∙ ap ordering_reverse e

-- what is put again replaces what was put before
put-again : (k : List ℕ) (d e : Data) (ms : Members) → put k d (put k e ms) ≡ put k d ms
put-again k d e no_members = put-equal k d k e no_members (tied_itself nat_list_cmp_total k)
put-again k d e (member m f ms) = by (order k m) refl (put-again k d e ms)
  where
    by : (o : Ordering) → order k m ≡ o → put k d (put k e ms) ≡ put k d ms → put k d (put k e (member m f ms)) ≡ put k d (member m f ms)
    by Less is again = ap (put k d) (put-less k e m f ms is) ∙ put-equal k d k e (member m f ms) (tied_itself nat_list_cmp_total k) ∙ sym (put-less k d m f ms is)
    by Equal is again = ap (put k d) (put-equal k e m f ms is) ∙ put-equal k d m e ms is ∙ sym (put-equal k d m f ms is)
    by Greater is again = ap (put k d) (put-greater k e m f ms is) ∙ put-greater k d m f (put k e ms) is ∙ ap (member m f) again ∙ sym (put-greater k d m f ms is)

-- two names may be put in either order
put-either : (k : List ℕ) (d : Data) (l : List ℕ) (e : Data) (ms : Members) → order k l ≡ Less → put l e (put k d ms) ≡ put k d (put l e ms)
put-either k d l e no_members less = put-greater l e k d no_members (greater k l less) ∙ sym (put-less k d l e no_members less)
put-either k d l e (member m f ms) less = by (order k m) refl (put-either k d l e ms less)
  where
    above : order k m ≡ Less → (o : Ordering) → order l m ≡ o → member k d (put l e (member m f ms)) ≡ put k d (put l e (member m f ms))
    above is Less at = ap (member k d) (put-less l e m f ms at) ∙ sym (put-less k d l e (member m f ms) less) ∙ ap (put k d) (sym (put-less l e m f ms at))
    above is Equal at = ap (member k d) (put-equal l e m f ms at) ∙ sym (put-less k d m e ms is) ∙ ap (put k d) (sym (put-equal l e m f ms at))
    above is Greater at = ap (member k d) (put-greater l e m f ms at) ∙ sym (put-less k d m f (put l e ms) is) ∙ ap (put k d) (sym (put-greater l e m f ms at))

    by : (o : Ordering) → order k m ≡ o → put l e (put k d ms) ≡ put k d (put l e ms) → put l e (put k d (member m f ms)) ≡ put k d (put l e (member m f ms))
    by Less is again = ap (put l e) (put-less k d m f ms is) ∙ put-greater l e k d (member m f ms) (greater k l less) ∙ above is (order l m) refl
    by Equal is again =
        let at : order l m ≡ Greater = ap (order l) (sym (equal k m is)) ∙ greater k l less in
        ap (put l e) (put-equal k d m f ms is) ∙ put-greater l e m d ms at ∙ sym (put-equal k d m f (put l e ms) is) ∙ ap (put k d) (sym (put-greater l e m f ms at))
    by Greater is again =
        let at : order l m ≡ Greater = greater m l (nat_list_cmp_total.trans m k l (turned k m is) less) in
        ap (put l e) (put-greater k d m f ms is) ∙ put-greater l e m f (put k d ms) at ∙ ap (member m f) again ∙ sym (put-greater k d m f (put l e ms) is) ∙ ap (put k d) (sym (put-greater l e m f ms at))

-- ---- documents may be put together in either grouping

-- a name below all others is put before them or behind them
put-below : (k : List ℕ) (d : Data) (new old : Members) → IsBelow k new → put_all new (put k d old) ≡ put k d (put_all new old)
put-below k d no_members old h = refl
put-below k d (member l e new) old h = ap (put_all new) (put-either k d l e old h.0) ∙ put-below k d new (put l e old) h.1

put-through : (k : List ℕ) (d : Data) (new old : Members) → Rise new → put_all (put k d new) old ≡ put k d (put_all new old)
put-through k d no_members old h = refl
put-through k d (member l e new) old h = by (order k l) refl (put-through k d new (put l e old) h.1)
  where
    by : (o : Ordering) → order k l ≡ o → put_all (put k d new) (put l e old) ≡ put k d (put_all new (put l e old)) → put_all (put k d (member l e new)) old ≡ put k d (put_all (member l e new) old)
    by Less is again = ap (λ v. put_all v old) (put-less k d l e new is) ∙ put-below k d (member l e new) old (is, below-lower k l new is h.0)
    by Equal is again =
        let same = equal k l is in
        ap (λ v. put_all v old) (put-equal k d l e new is) ∙ ap (put_all new) (sym (put-again l d e old)) ∙ put-below l d new (put l e old) h.0 ∙ ap (λ v. put v d (put_all new (put l e old))) (sym same)
    by Greater is again = ap (λ v. put_all v old) (put-greater k d l e new is) ∙ again

put-grouped : (new mid old : Members) → Rise mid → put_all new (put_all mid old) ≡ put_all (put_all new mid) old
put-grouped no_members mid old h = refl
put-grouped (member k d new) mid old h = ap (put_all new) (sym (put-through k d mid old h)) ∙ put-grouped new (put k d mid) old (rise-put k d mid h)

pub merge-grouped : (old mid new : Data) → NamesRise mid → merge (merge old mid) new ≡ merge old (merge mid new)
merge-grouped old mid new h = ap object (put-grouped (members_in new) (members_in mid) (members_in old) h)

rise-put_all : (new old : Members) → Rise old → Rise (put_all new old)
rise-put_all no_members old h = h
rise-put_all (member k d new) old h = rise-put_all new (put k d old) (rise-put k d old h)

pub merge-rises : (old new : Data) → NamesRise old → NamesRise (merge old new)
merge-rises old new h = rise-put_all (members_in new) (members_in old) h

-- a name below all others stays the first
pub put-first : (k : List ℕ) (d : Data) (new old : Members) → IsBelow k new → put_all new (member k d old) ≡ member k d (put_all new old)
put-first k d no_members old h = refl
put-first k d (member l e new) old h = ap (put_all new) (put-greater l e k d old (greater k l h.0)) ∙ put-first k d new (put l e old) h.1
