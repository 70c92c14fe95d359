-- The files of a store, one after another, and the version last.
use Rattle.std.proofs.Common.{◌≡◌, ◌≢◌, inl, inr, ℕ, codes, List, [], ◌∷◌, refl, subst, ap, ◌∙◌, None, true}
use Rattle.fs_names.specs.declared.settings.Settings.{Settings}
use Rattle.tree_api.specs.Tree.{Path, Version, Tree, HasParent, current, new_dir, file_of}
use Rattle.tree_api.specs.Disk.{Disk, Sound, Everywhere, Keeps, Leaves, From}
use Rattle.tree_api.proofs.Moments.{now_from, started, joined, weaker, leaves_wider, leaves_run}
use Rattle.commit_point.specs.Number.{aside, number_path, spelled}
use Rattle.store_files.specs.Texts.{version_text}
use Rattle.store_files.specs.Stores.{version_path, fsid_path, settings_path, omap, trash}
use Rattle.store_files.specs.Steps.{Beside, Stands, Off, Among, AllIn, IsBare, dir_paths, dir_items, key_path, rest_paths, rest_items, store_items, store_paths, Unfinished}
use Rattle.store_files.proofs.Built.{off_first, off_rest, among_same, among_joins, among_of, Built, all_kept, off_by, in_of, fresh_first, fresh_for, in_first, in_rest, below}

off_dirs : (q : Path) → Off rest_paths q → Off dir_paths q
off_dirs q off = (
  in_of rest_paths current (inl refl) q off,
  (
    in_of rest_paths omap (inr (inl refl)) q off,
    (in_of rest_paths aside (inr (inr (inl refl))) q off, (in_of rest_paths trash (inr (inr (inr (inl refl)))) q off, tt)),
  ),
)

wider : (a b : Tree) → Among dir_paths a b → Among rest_paths a b
wider a b is = record { snaps = is.snaps; others = λ q off. is.others q (off_dirs q off); nodes = λ q m off here. is.nodes q m (off_dirs q off) here }

fresh_dirs : (q : Path) → fresh_for q dir_items ≡ true → Off dir_paths q
fresh_dirs q h =
    let a = fresh_first q (trash, new_dir) ((aside, new_dir) ∷ (omap, new_dir) ∷ (current, new_dir) ∷ []) h in
    let b = fresh_first q (aside, new_dir) ((omap, new_dir) ∷ (current, new_dir) ∷ []) a.1 in
    let c = fresh_first q (omap, new_dir) ((current, new_dir) ∷ []) b.1 in
    let d = fresh_first q (current, new_dir) [] c.1 in
    (d.0, (c.0, (b.0, (a.0, tt))))

not_root : (s : List ℕ) (p : Path) → s ∷ p ≢ []
not_root s p e = cc

module _ (fsid : List ℕ) (set : Settings) where
  image_bare : (c : Tree) → IsBare c → Unfinished fsid set c
  image_bare c bare = inl (bare.1 version_path (not_root (codes "store_version") []))

  pub nothing_yet : (d : Disk) → Sound d → Everywhere d IsBare → Keeps (Unfinished fsid set) d d
  nothing_yet d sound bare = started (Unfinished fsid set) d sound (λ c may. image_bare c (bare c may))

  pub no_version : (d0 d : Disk) → Everywhere d0 IsBare → Leaves (Among rest_paths) d0 d → Keeps (Unfinished fsid set) d0 d
  no_version d0 d bare leaves =
      weaker (From d0 (Among rest_paths)) (Unfinished fsid set) d0 d leaves.any_moment
      (λ c from. inl (from.2.others version_path (off_by version_path rest_paths refl) ∙ (bare from.0 from.1).1 version_path (not_root (codes "store_version") [])))

  pub no_version_dirs : (d0 d : Disk) → Everywhere d0 IsBare → Leaves (Among dir_paths) d0 d → Keeps (Unfinished fsid set) d0 d
  no_version_dirs d0 d bare leaves = no_version d0 d bare (leaves_wider (Among dir_paths) (Among rest_paths) wider d0 d leaves)

pub dirs_built : (d0 d1 : Disk) → Leaves (Among dir_paths) d0 d1 → Everywhere d1 (AllIn dir_items) → Built rest_paths dir_items d0 d1
dirs_built d0 d1 leaves stand = record {
  leaves = leaves_wider (Among dir_paths) (Among rest_paths) wider d0 d1 leaves;
  stand = stand;
  free = λ q fresh. leaves.now.others q (fresh_dirs q fresh);
}

-- where the next one stands
pub free_for : (items : List (Path × Version)) (d0 d : Disk) → Built rest_paths items d0 d → IsBare d0.tree → (s : List ℕ) (r p : Path) → p ≡ s ∷ r → fresh_for (s ∷ r) items ≡ true → d.tree.at p ≡ None
free_for items d0 d built bare s r p is fresh = ap d.tree.at is ∙ built.free (s ∷ r) fresh ∙ bare.1 (s ∷ r) (not_root s r)

pub root_for : (items : List (Path × Version)) (d0 d : Disk) → Built rest_paths items d0 d → IsBare d0.tree → (s : List ℕ) (p : Path) → p ≡ s ∷ [] → HasParent d.tree p
root_for items d0 d built bare s p is =
    let root = bare.0 in
    let off = off_by [] rest_paths refl in
    ([], s, is, (root.0, built.leaves.now.others [] off ∙ root.1, ap (λ (v : Version). v.dir) (built.leaves.now.nodes [] root.0 off root.1) ∙ root.2))

dirs_in : (d : Disk) → Sound d → Everywhere d (AllIn dir_items) → AllIn dir_items d.tree
dirs_in d sound stand = stand d.tree sound.now

pub number_parent : (d : Disk) → Sound d → Everywhere d (AllIn dir_items) → (p : Path) → p ≡ number_path → HasParent d.tree p
number_parent d sound stand p is =
    let a = in_rest (trash, new_dir) ((aside, new_dir) ∷ (omap, new_dir) ∷ (current, new_dir) ∷ []) d.tree (dirs_in d sound stand) in
    let b = in_rest (aside, new_dir) ((omap, new_dir) ∷ (current, new_dir) ∷ []) d.tree a in
    let c = in_rest (omap, new_dir) ((current, new_dir) ∷ []) d.tree b in
    below d.tree current (codes "commit_op_seq") new_dir p (in_first (current, new_dir) [] d.tree c) refl is

pub key_parent : (d : Disk) → Sound d → Everywhere d (AllIn ((number_path, file_of (spelled 0)) ∷ dir_items)) → (p : Path) → p ≡ key_path → HasParent d.tree p
key_parent d sound stand p is =
    let z = in_rest (number_path, file_of (spelled 0)) dir_items d.tree (stand d.tree sound.now) in
    let a = in_rest (trash, new_dir) ((aside, new_dir) ∷ (omap, new_dir) ∷ (current, new_dir) ∷ []) d.tree z in
    let b = in_rest (aside, new_dir) ((omap, new_dir) ∷ (current, new_dir) ∷ []) d.tree a in
    below d.tree omap (codes "keys.0000000000000000") new_dir p (in_first (omap, new_dir) ((current, new_dir) ∷ []) d.tree b) refl is

-- the paths of files
pub in_number : (q : Path) → Off rest_paths q → q ≢ number_path
in_number = in_of rest_paths number_path (inr (inr (inr (inr (inl refl)))))

pub in_key : (q : Path) → Off rest_paths q → q ≢ key_path
in_key = in_of rest_paths key_path (inr (inr (inr (inr (inr (inl refl))))))

pub in_fsid : (q : Path) → Off rest_paths q → q ≢ fsid_path
in_fsid = in_of rest_paths fsid_path (inr (inr (inr (inr (inr (inr (inl refl)))))))

pub in_settings : (q : Path) → Off rest_paths q → q ≢ settings_path
in_settings = in_of rest_paths settings_path (inr (inr (inr (inr (inr (inr (inr (inl refl))))))))

-- the version
module _ (fsid : List ℕ) (set : Settings) (d0 d1 d2 : Disk) (bare : Everywhere d0 IsBare) (built : Built rest_paths (rest_items fsid set) d0 d1) (beside : Leaves (Beside version_path) d1 d2) where
  pub version_keeps : Keeps (Unfinished fsid set) d0 d2
  version_keeps =
      joined (Unfinished fsid set) d0 d1 d2 (no_version fsid set d0 d1 bare built.leaves)
      (weaker (From d1 (Beside version_path)) (Unfinished fsid set) d1 d2 beside.any_moment
      (λ c from. inr (all_kept rest_paths version_path from.0 c from.2 (rest_items fsid set) refl (built.stand from.0 from.1))))

pub beside_as : (p q : Path) (d e : Disk) → p ≡ q → Leaves (Beside p) d e → Leaves (Beside q) d e
beside_as p q d e is leaves = subst (λ r. Leaves (Beside r) d e) is leaves

pub stands_as : (p q : Path) (a b : List ℕ) (d : Disk) → p ≡ q → a ≡ b → Stands p (file_of a) d → Stands q (file_of b) d
stands_as p q a b d is same stands = subst (λ t. Stands q (file_of t) d) same (subst (λ r. Stands r (file_of a) d) is stands)

pub version_stands : (fsid : List ℕ) (set : Settings) (d0 d1 d2 : Disk) → Built rest_paths (rest_items fsid set) d0 d1 → Leaves (Beside version_path) d1 d2 → Sound d2
    → Stands version_path (file_of (version_text 1)) d2 → Everywhere d2 (AllIn (store_items fsid set))
version_stands fsid set d0 d1 d2 built beside s2 stands = λ c may.
    let from = now_from (From d1 (Beside version_path)) d1 d2 s2 beside.any_moment c may in
    (stands.here c may, all_kept rest_paths version_path from.0 c from.2 (rest_items fsid set) refl (built.stand from.0 from.1))

-- names other than a store's stay
wide : (a b : Tree) → Among rest_paths a b → Among store_paths a b
wide a b is = record {
  snaps = is.snaps;
  others = λ q off. is.others q (off_rest version_path rest_paths q off);
  nodes = λ q m off here. is.nodes q m (off_rest version_path rest_paths q off) here;
}

pub store_leaves : (d0 d1 : Disk) → Leaves (Among rest_paths) d0 d1 → Leaves (Among store_paths) d0 d1
store_leaves d0 d1 leaves = leaves_wider (Among rest_paths) (Among store_paths) wide d0 d1 leaves

pub store_leaves_dirs : (d0 d1 : Disk) → Leaves (Among dir_paths) d0 d1 → Leaves (Among store_paths) d0 d1
store_leaves_dirs d0 d1 leaves = store_leaves d0 d1 (leaves_wider (Among dir_paths) (Among rest_paths) wider d0 d1 leaves)

pub store_leaves_all : (d0 d1 d2 : Disk) → Sound d1 → Leaves (Among rest_paths) d0 d1 → Leaves (Beside version_path) d1 d2 → Leaves (Among store_paths) d0 d2
store_leaves_all d0 d1 d2 s1 leaves beside =
    leaves_run (Among store_paths) (among_same store_paths) (among_joins store_paths) d0 d1 d2 s1 (store_leaves d0 d1 leaves)
    (leaves_wider (Beside version_path) (Among store_paths) (among_of store_paths version_path (λ q off. off_first version_path rest_paths q off)) d1 d2 beside)
