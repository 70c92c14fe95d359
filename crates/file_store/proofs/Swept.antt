-- Images of a store stay images where trees of the trash are swept.
use Rattle.std.proofs.Common.{◌≡◌, ℕ, suc, ◌+◌, ◌≤◌, List, [], ◌∷◌, ◌++◌, length, refl, sym, ◌∙◌, ap, arith, length-append, append_assoc, Option, Some, None}
use Rattle.std.proofs.lemmas.List.{length_push}
use Rattle.fs_names.specs.declared.settings.Settings.{Settings}
use Rattle.tree_api.specs.Tree.{Path, Version, Tree, IsFile, current, held, look}
use Rattle.tree_api.specs.Disk.{Disk, Sound, Stays, From, Leaves, Everywhere}
use Rattle.tree_api.proofs.Moments.{now_from}
use Rattle.lfn_index.specs.Changes.{aside}
use Rattle.lfn_index.specs.Directory.{entry}
use Rattle.tree_stands.specs.Trees.{dir_of}
use Rattle.commit_point.specs.Number.{number_path, HasNumber}
use Rattle.store_files.specs.declared.reading.Identity.{Identity}
use Rattle.store_files.specs.Stores.{version_path, fsid_path, settings_path, omap}
use Rattle.store_history.specs.History.{History}
use Rattle.op_effects.specs.Clear.{DirBelow, IsShallow, KeepsFree}
use Rattle.op_effects.specs.Ready.{trash}
use Rattle.op_effects.proofs.Clear.{FilesFrom, clear_from, dirs_from}
use Rattle.coll_ops.specs.Changes.{AllStay, Elsewhere}
use Rattle.op_places.proofs.Makes.{past_stays}
use Rattle.tree_places.specs.Line.{ops_to, count_to, Past}
use Rattle.tree_places.specs.Images.{IsOwn, StoreImage}
use Rattle.tree_places.proofs.Own.{dir_stays}
use Rattle.tree_places.proofs.Stores.{LooksAlike, store_stays}
use Rattle.store_walk.specs.Thinned.{IsBelow}
use Rattle.file_store.specs.Holds.{IsSwept}

-- a path of two steps at most stands not in the trash
above_trash : (q : Path) → length q ≤ 2 → IsBelow trash q → ⊥
above_trash q short is =
    let long : length (entry trash is.0) ≡ length trash + 1 = length_push trash is.0 in
    let two : length trash ≡ 2 = refl in
    let e : length q ≡ length (entry trash is.0) + length is.1.0 = ap length is.1.1 ∙ length-append (entry trash is.0) is.1.0 in
    absurd (omega (arith, short, long, two, e))

-- a tree that is too deep for a sweep
pub never_deep : (t : Tree) (q : Path) → ((step : List ℕ) → IsShallow (entry trash step) t) → DirBelow 10 trash t q → ⊥
never_deep t q shallow (rest, path, long, dir) = by rest path long
  where
    by : (r : Path) → q ≡ trash ++ r → length r ≡ 10 → ⊥
    by [] same ten = absurd (omega (arith, ten))
    by (s ∷ r) same ten = let more : suc (length r) ≡ 10 = ten in shallow s q (r, same ∙ sym (append_assoc trash (s ∷ []) r), omega (arith, more), dir)

same_version : (a b : Version) → Some a ≡ Some b → a ≡ b
same_version a b e = cc

file_there : (e f : Tree) (p : Path) → look f p ≡ look e p → IsFile e p → IsFile f p
file_there e f p same is = by (f.at p) refl
  where
    was : look f p ≡ Some (e.node is.0)
    was = same ∙ ap (λ (x : Option ℕ). held x e.node) is.1

    by : (o : Option ℕ) → f.at p ≡ o → IsFile f p
    by None none = absurd (let z : None ≡ Some (e.node is.0) = sym (ap (λ (x : Option ℕ). held x f.node) none) ∙ was in cc)
    by (Some n) here =
        let same_node : f.node n ≡ e.node is.0 = same_version (f.node n) (e.node is.0) (sym (ap (λ (x : Option ℕ). held x f.node) here) ∙ was) in
        (n, here, ap (λ (v : Version). v.dir) same_node ∙ is.2)

module _ (e f : Tree) (off : Elsewhere (IsBelow trash) e f) where
  stays_at : (q : Path) → length q ≤ 2 → look f q ≡ look e q
  stays_at q short = off q (above_trash q short)

  alike : LooksAlike e f
  alike = record {
    version = stays_at version_path (omega arith);
    identity = stays_at fsid_path (omega arith);
    settings = stays_at settings_path (omega arith);
    all = stays_at current (omega arith);
    maps = stays_at omap (omega arith);
    building = stays_at aside (omega arith);
    removed = stays_at trash (omega arith);
  }

  number_there : (n : ℕ) → HasNumber e n → HasNumber f n
  number_there n is = record { file = is.file; stands = stays_at number_path (omega arith) ∙ is.stands; kind = is.kind; bytes = is.bytes; small = is.small }

  files_from : FilesFrom e f
  files_from c fits file = file_there f e (dir_of c) (sym (stays_at (dir_of c) (omega arith))) file

  -- of another tree what is free stays so
  own_swept : (g : Tree) → KeepsFree g f → IsOwn e → IsOwn g → IsOwn f
  own_swept g free own also = record {
    building = dir_stays e f aside (stays_at aside (omega arith)) own.building;
    places = λ step. free (entry aside step) (also.places step);
    removed = dir_stays e f trash (stays_at trash (omega arith)) own.removed;
    target = free number_path also.target;
    clear = clear_from e g f files_from (dirs_from g f free) own.clear also.clear;
  }

past_on : (set : Settings) (h : History) (lo hi : ℕ) (e f : Tree) → AllStay set e f → Past set h lo hi e → Past set h lo hi f
past_on set h lo hi e f stays is = record { plain = is.plain; past = past_stays set h.origin (ops_to h hi) (count_to h lo) e f stays is.past }

module _ (old new : Disk) (sound : Sound new) (leaves : (set : Settings) → Leaves (AllStay set) old new) (off : Leaves (Elsewhere (IsBelow trash)) old new) (free : Leaves KeepsFree old new) where
  pub images_swept : (id : Identity) (h : History) (n lo hi : ℕ) → Everywhere old (StoreImage id h n lo hi) → Everywhere new (StoreImage id h n lo hi)
  images_swept id h n lo hi images c may =
      let one = now_from (From old (AllStay id.settings)) old new sound (leaves id.settings).any_moment c may in
      let two = now_from (From old (Elsewhere (IsBelow trash))) old new sound off.any_moment c may in
      let three = now_from (From old KeepsFree) old new sound free.any_moment c may in
      let is = images two.0 two.1 in
      let also = images three.0 three.1 in
      record {
        store = store_stays two.0 c id.fsid id.settings (alike two.0 c two.2) is.store;
        image = record {
          base = is.image.base;
          number = number_there two.0 c two.2 n is.image.number;
          own = own_swept two.0 c two.2 three.0 three.2 is.image.own also.image.own;
          fit = is.image.fit;
          past = past_on id.settings h lo hi one.0 c one.2 (images one.0 one.1).image.past;
        };
      }

module _ (old new : Disk) (stays : Stays old new) where
  pub images_synced : (id : Identity) (h : History) (n lo hi : ℕ) → Everywhere old (StoreImage id h n lo hi) → Everywhere new (StoreImage id h n lo hi)
  images_synced id h n lo hi images c may = images c (stays.image c may)

  pub is_swept : ((c : Tree) → new.may c → c ≡ old.tree) → ((step : List ℕ) → old.tree.at (entry trash step) ≡ None) → IsSwept new
  is_swept all empty = record {
    empty = λ step. ap (λ (t : Tree). t.at (entry trash step)) stays.tree ∙ empty step;
    settled = λ c may. all c may ∙ sym stays.tree;
  }
