-- Where a collection and an object are found.
use Rattle.std.proofs.Common.{◌≡◌, ◌≢◌, ⊎_elim, ℕ, ◌+◌, ◌≤◌, true, ◌&&◌, List, [], ◌∷◌, ◌++◌, length, codes, refl, sym, ◌∙◌, ap, subst, arith, Option, Some, None, is_some, Result, Ok, Err, IfOk}
use Rattle.std.specs.Option.{option_map}
use Rattle.std.specs.FinMap as map
use Rattle.std.proofs.lemmas.Bool.{and_from}
use Rattle.std.proofs.lemmas.List.{length-append}
use Rattle.fs_names.specs.declared.coll.Coll.{Coll}
use Rattle.fs_names.specs.declared.oid.Oid.{Oid}
use Rattle.fs_names.specs.declared.settings.Settings.{Settings}
use Rattle.fs_names.specs.Reading.{CollFits, OidFits}
use Rattle.fs_names.specs.Text.{field_text, name_text, snap_text, hash_text, pool_text, oid_text}
use Rattle.fs_model.specs.Objects.{Object, Objects, Shelf, look}
use Rattle.tree_api.specs.Tree.{Path, Version, Tree, held, IsDir}
use Rattle.tree_api.specs.Disk.{Disk, Stays}
use Rattle.index_fault.specs.declared.IndexFault.{IndexFault}
use Rattle.lfn_index.specs.Directory.{entry, IsBlocked}
use Rattle.lfn_index.specs.Maps.{Map, IsMap, IsInMap, content, Whole}
use Rattle.lfn_index.proofs.Once.{dir_no_file}
use Rattle.tree_stands.specs.Names.{coll_fits}
use Rattle.tree_stands.specs.Trees.{dir_of, guard_of, AllWhole}
use Rattle.tree_stands.proofs.Names.{coll_is_fit}
use Rattle.op_places.specs.Places.{is_there}
use Rattle.tree_shows.specs.Shows.{IsFileOf, Matches, Shows}
use Rattle.file_readings.specs.Finding.{IsPathOf}

-- ---- whether a collection is there

pub there : (t : Tree) (c : Coll) → CollFits c → (n : ℕ) → t.at (dir_of c) ≡ Some n → is_there t c ≡ true
there t c fits n at =
    ap (λ (x : Option ℕ). coll_fits c && is_some (option_map guard_of (held x t.node))) at ∙ and_from (coll_fits c) true (coll_is_fit c fits) refl

pub some_of : {X : Type 0} (o : Option X) → is_some o ≡ true → (x : X) × (o ≡ Some x)
some_of None e = cc
some_of (Some x) e = (x, refl)

-- one that is there has a shelf
pub shelf_there : (set : Settings) (O : Objects) (t : Tree) (c : Coll) → CollFits c → Shows set O t → IsDir t (dir_of c) → (s : Shelf) × (map.get O c ≡ Some s)
shelf_there set O t c fits shows dir = some_of (map.get O c) (sym (shows.colls c) ∙ there t c fits dir.0 dir.1)

-- ---- the object's file

pub match_none : (x : Option Object) → Matches None x → x ≡ None
match_none None is = refl
match_none (Some x) is = absurd is

pub match_some : (v : Version) (x : Option Object) → Matches (Some v) x → (y : Object) × (x ≡ Some y) × IsFileOf v y
match_some v None is = absurd is
match_some v (Some x) is = (x, refl, is)

at_map : (O : Objects) (t : Tree) (c : Coll) (o : Oid) (m : Map) → Matches (content m t o) (look O c o) → (r : Option Path) → IsInMap t m o r → IsPathOf O c o t r
at_map O t c o m is None in_map = match_none (look O c o) (subst (λ (x : Option ℕ). Matches (held x t.node) (look O c o)) in_map is)
at_map O t c o m is (Some p) in_map =
    let found = match_some (t.node in_map.0) (look O c o) (subst (λ (x : Option ℕ). Matches (held x t.node) (look O c o)) in_map.2 is) in
    (in_map.0, found.0, in_map.1, found.1, found.2)

-- what is found in the collection's directory
pub path_there : (set : Settings) (O : Objects) (c : Coll) (o : Oid) → CollFits c → OidFits o → (d0 d1 d2 : Disk) → Stays d0 d1 → Stays d1 d2 → Shows set O d0.tree
    → (dir : Path) → dir ≡ dir_of c → (r : Result (Option Path) IndexFault) → IfOk r (λ p. (m : Map) → IsMap set d1.tree dir m → IsInMap d1.tree m o p)
    → IfOk r (IsPathOf O c o d2.tree)
path_there set O c o cf of_ d0 d1 d2 one two shows dir is (Err e) maps = tt
path_there set O c o cf of_ d0 d1 d2 one two shows dir is (Ok p) maps =
    let now : Shows set O d1.tree = subst (Shows set O) (sym one.tree) shows in
    let whole = now.whole c cf in
    let whole_dir : IsMap set d1.tree dir whole.0 = subst (λ (q : Path). IsMap set d1.tree q whole.0) (sym is) whole.1 in
    subst (λ (t : Tree). IsPathOf O c o t p) (sym two.tree)
    (at_map O d1.tree c o whole.0 (now.files c whole.0 cf whole.1 o of_) p (maps whole.0 whole_dir))

-- ---- nothing is damaged

after : (a b : List ℕ) (k : ℕ) → k ≤ length b → k ≤ length (a ++ b)
after a b k le = let e : length (a ++ b) ≡ length a + length b = length-append a b in omega (arith, e, le)

front : (a b : List ℕ) (k : ℕ) → k ≤ length a → k ≤ length (a ++ b)
front a b k le = let e : length (a ++ b) ≡ length a + length b = length-append a b in omega (arith, e, le)

long_enough : (o : Oid) → 8 ≤ length (oid_text o)
unfolding oid_text
long_enough o =
    let c = (name_text o.name ++ (95 ∷ field_text o.key)) ++ (95 ∷ snap_text o.snap) in
    let b = c ++ (95 ∷ hash_text o.hash) in
    front (b ++ (95 ∷ field_text o.nspace)) (95 ∷ pool_text o.pool) 8 (front b (95 ∷ field_text o.nspace) 8 (after c (95 ∷ hash_text o.hash) 8 (omega arith)))

never_subdir : (o : Oid) (digit : ℕ) → oid_text o ≢ codes "DIR_" ++ digit ∷ []
never_subdir o digit same = let e : length (oid_text o) ≡ 5 = ap length same in absurd (omega (arith, e, long_enough o))

unblocked : (set : Settings) (t : Tree) (dir : Path) (o : Oid) → Whole set dir t → (p : Path) → IsBlocked t dir (oid_text o) p → ⊥
unblocked set t dir o whole p blocked =
    let here : t.at (entry dir (oid_text o)) ≡ Some blocked.2.0 = ap t.at (sym blocked.1) ∙ blocked.2.1 in
    ⊎_elim
    (λ file. dir_no_file set t dir file.0 (oid_text o) blocked.2.0 file.1 (blocked.2.0, here, blocked.2.2))
    (λ sub. never_subdir o sub.1.0 sub.1.2)
    (whole.1.known (oid_text o) blocked.2.0 here)

-- no directory stands in the object's place
pub not_blocked : (set : Settings) (c : Coll) (o : Oid) → CollFits c → (d0 d1 : Disk) → Stays d0 d1 → AllWhole set d0.tree → (dir : Path) → dir ≡ dir_of c
    → (p : Path) → IsBlocked d1.tree dir (oid_text o) p → ⊥
not_blocked set c o fits d0 d1 stays whole dir is p blocked =
    unblocked set d1.tree dir o
    (subst (λ (q : Path). Whole set q d1.tree) (sym is) (subst (λ (t : Tree). Whole set (dir_of c) t) (sym stays.tree) (whole c fits))) p blocked
