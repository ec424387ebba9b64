-- What an update adds to the registry: the paths of its own members, however much it is merged over.
use Rattle.std.proofs.Common.{◌≡◌, ℕ, List, [], ◌∷◌, ◌++◌, map, Ordering, Less, Equal, Greater, None, true, refl, sym, ap, subst, ◌∙◌}
use Rattle.std.proofs.lemmas.Cmp.{nat_list_cmp_total}
use Rattle.serde_json.specs.Data.{Data, Members, no_members, member, put}
use Rattle.path_registry.proofs.PathLemmas.{with_path-known}
use Rattle.path_registry.proofs.PathLemmas.{stays-registered}
use Rattle.path_registry.specs.Paths.{with_path, registered}
use Rattle.doc_store.specs.Sound.{AreRegistered}
use Rattle.doc_values.specs.Stored.{put_all, merge}
use Rattle.doc_values.specs.Walk.{Visit, members_in, walk_of_members, walk_inside, visited, paths_of}
use Rattle.index_changes.proofs.Merging.{put-less, put-equal, put-greater, put-first}
use Rattle.index_changes.proofs.Rising.{order, IsBelow, Rise, NamesRise, below-lower, turned, equal}

-- the paths of members, and those of one member
abbrev paths_in : Members → List (List ℕ)
paths_in ms = visited (walk_of_members None ms)

abbrev paths_at : List ℕ → Data → List (List ℕ)
paths_at name d = name ∷ visited (walk_inside name d)

-- ---- registries

registered-append : (new more paths : List (List ℕ)) → registered (new ++ more) paths ≡ registered more (registered new paths)
registered-append [] more paths = refl
registered-append (p ∷ new) more paths = registered-append new more (with_path p paths)

registered-known : (known paths : List (List ℕ)) → AreRegistered known paths → registered known paths ≡ paths
registered-known [] paths h = refl
registered-known (p ∷ known) paths h = ap (registered known) (with_path-known p paths h.0) ∙ registered-known known paths h.1

stay : (known new paths : List (List ℕ)) → AreRegistered known paths → AreRegistered known (registered new paths)
stay [] new paths h = tt
stay (p ∷ known) new paths h = (stays-registered p new paths h.0, stay known new paths h.1)

split : (some more paths : List (List ℕ)) → AreRegistered (some ++ more) paths → AreRegistered some paths × AreRegistered more paths
split [] more paths h = (tt, h)
split (p ∷ some) more paths h = let rest = split some more paths h.1 in ((h.0, rest.0), rest.1)

-- ---- one member, and the others

map-append : (xs ys : List Visit) → visited (xs ++ ys) ≡ visited xs ++ visited ys
map-append [] ys = refl
map-append (x ∷ xs) ys = ap (λ v. x.path ∷ v) (map-append xs ys)

paths-first : (name : List ℕ) (d : Data) (ms : Members) → paths_in (member name d ms) ≡ paths_at name d ++ paths_in ms
paths-first name d ms = ap (λ v. name ∷ v) (map-append (walk_inside name d) (walk_of_members None ms))

registered-first : (name : List ℕ) (d : Data) (ms : Members) (paths : List (List ℕ)) → registered (paths_in (member name d ms)) paths ≡ registered (paths_in ms) (registered (paths_at name d) paths)
registered-first name d ms paths = ap (λ v. registered v paths) (paths-first name d ms) ∙ registered-append (paths_at name d) (paths_in ms) paths

split-first : (name : List ℕ) (d : Data) (ms : Members) (paths : List (List ℕ)) → AreRegistered (paths_in (member name d ms)) paths → AreRegistered (paths_at name d) paths × AreRegistered (paths_in ms) paths
split-first name d ms paths h = split (paths_at name d) (paths_in ms) paths (subst (λ v. AreRegistered v paths) (paths-first name d ms) h)

-- ---- members over others, whose paths are there already

-- over members with these paths, those to come add theirs alone
abbrev AddOwn : Members → Type 0
AddOwn new = (old : Members) (paths : List (List ℕ)) → AreRegistered (paths_in old) paths → registered (paths_in (put_all new old)) paths ≡ registered (paths_in new) paths

own-first : (k : List ℕ) (d : Data) (new old : Members) (paths : List (List ℕ)) → IsBelow k new → AddOwn new → AreRegistered (paths_in old) paths
    → registered (paths_in (put_all new (member k d old))) paths ≡ registered (paths_in (member k d new)) paths
own-first k d new old paths below again there =
    ap (λ v. registered (paths_in v) paths) (put-first k d new old below) ∙ registered-first k d (put_all new old) paths
    ∙ again old (registered (paths_at k d) paths) (stay (paths_in old) (paths_at k d) paths there) ∙ sym (registered-first k d new paths)

own-next : (k : List ℕ) (d : Data) (new old : Members) (paths : List (List ℕ)) → IsBelow k new → AddOwn new → AreRegistered (paths_in old) paths
    → registered (paths_in (put_all new (put k d old))) paths ≡ registered (paths_in (member k d new)) paths
own-next k d new no_members paths below again there = own-first k d new no_members paths below again there
own-next k d new (member l e old) paths below again there = by (order k l) refl (own-next k d new old paths below again rest.1)
  where
    rest : AreRegistered (paths_at l e) paths × AreRegistered (paths_in old) paths
    rest = split-first l e old paths there

    by : (o : Ordering) → order k l ≡ o → registered (paths_in (put_all new (put k d old))) paths ≡ registered (paths_in (member k d new)) paths
        → registered (paths_in (put_all new (put k d (member l e old)))) paths ≡ registered (paths_in (member k d new)) paths
    by Less is later = ap (λ v. registered (paths_in (put_all new v)) paths) (put-less k d l e old is) ∙ own-first k d new (member l e old) paths below again there
    by Equal is later =
        ap (λ v. registered (paths_in (put_all new v)) paths) (put-equal k d l e old is ∙ ap (λ v. member v d old) (sym (equal k l is))) ∙ own-first k d new old paths below again rest.1
    by Greater is later =
        ap (λ v. registered (paths_in (put_all new v)) paths) (put-greater k d l e old is)
        ∙ ap (λ v. registered (paths_in v) paths) (put-first l e new (put k d old) (below-lower l k new (turned k l is) below))
        ∙ registered-first l e (put_all new (put k d old)) paths ∙ ap (registered (paths_in (put_all new (put k d old)))) (registered-known (paths_at l e) paths rest.0) ∙ later

own-all : (new : Members) → Rise new → AddOwn new
own-all no_members h old paths there = registered-known (paths_in old) paths there
own-all (member k d new) h old paths there = own-next k d new old paths h.0 (own-all new h.1) there

pub merge-adds-own : (old new : Data) (paths : List (List ℕ)) → NamesRise new → AreRegistered (paths_of old) paths → registered (paths_of (merge old new)) paths ≡ registered (paths_of new) paths
merge-adds-own old new paths h there = own-all (members_in new) h (members_in old) paths there
