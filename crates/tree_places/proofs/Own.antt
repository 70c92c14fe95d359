-- What is the store's own, and what a number that is written leaves.
use Rattle.std.proofs.Common.{◌≡◌, ◌≢◌, ◌⊎◌, inl, inr, ⊎_elim, ℕ, ◌+◌, ◌<◌, ◌^◌, false, List, [], ◌∷◌, length, codes, refl, sym, ◌∙◌, ap, subst, arith, Option, Some, None}
use Rattle.std.proofs.lemmas.List.{same_from_push, length_push}
use Rattle.std.specs.Option.{option_map}
use Rattle.fs_names.specs.declared.coll.Coll.{Coll}
use Rattle.fs_names.specs.declared.settings.Settings.{Settings}
use Rattle.fs_names.specs.Reading.{CollFits, coll_of}
use Rattle.fs_names.specs.Text.{coll_text}
use Rattle.fs_names.proofs.CollLaw.{coll_texts_are_read}
use Rattle.tree_api.specs.Tree.{Path, Version, Tree, IsDir, IsFile, IsFree, current, look, held}
use Rattle.tree_api.proofs.Nodes.{dec_path}
use Rattle.lfn_index.specs.Changes.{aside}
use Rattle.lfn_index.specs.Directory.{entry}
use Rattle.lfn_index.proofs.Mapped.{nodes_view, view_map, content_same, dec_step}
use Rattle.tree_stands.specs.Trees.{dir_of, guard_of}
use Rattle.tree_stands.proofs.Only.{off_aside}
use Rattle.commit_point.specs.Number.{number_path, building, number_file, HasNumber, Renumbers}
use Rattle.commit_point.specs.Replacing.{Replaces}
use Rattle.store_history.specs.History.{History}
use Rattle.op_effects.specs.Clear.{KeepsClear, KeepsFree}
use Rattle.op_effects.specs.Ready.{OffStays, KeepsPlaces, trash}
use Rattle.op_effects.specs.Collections.{CollStays}
use Rattle.op_effects.proofs.Clear.{FilesFrom, DirsFrom, clear_by, clear_from, dir_from, dirs_from, never_both}
use Rattle.op_places.proofs.Makes.{past_stays}
use Rattle.tree_places.specs.Line.{ops_to, count_to, At}
use Rattle.tree_places.specs.Images.{IsOwn, Image}
use Rattle.tree_places.specs.Own.{OwnStays, OwnLaw}
use Rattle.tree_places.proofs.Example.{number_is_none}

-- what a look tells
same_version : (a b : Version) → Some a ≡ Some b → a ≡ b
same_version a b e = cc

-- and what is seen stands there
stands : (t : Tree) (p : Path) (v : Version) → look t p ≡ Some v → (n : ℕ) × (t.at p ≡ Some n) × ((t.node n).dir ≡ v.dir)
stands t p v is = by (t.at p) refl
  where
    by : (o : Option ℕ) → t.at p ≡ o → (n : ℕ) × (t.at p ≡ Some n) × ((t.node n).dir ≡ v.dir)
    by None at = absurd (let e : None ≡ Some v = sym (ap (λ (x : Option ℕ). held x t.node) at) ∙ is in cc)
    by (Some n) at = (n, at, ap (λ (w : Version). w.dir) (same_version (t.node n) v (sym (ap (λ (x : Option ℕ). held x t.node) at) ∙ is)))

free_look : (t : Tree) (p : Path) (v : Version) → look t p ≡ Some v → v.dir ≡ false → IsFree t p
free_look t p v is file = let there = stands t p v is in inr (there.0, there.1, there.2 ∙ file)

pub dir_stays : (e f : Tree) (p : Path) → look f p ≡ look e p → IsDir e p → IsDir f p
dir_stays e f p same is = let there = stands f p (e.node is.0) (same ∙ ap (λ (x : Option ℕ). held x e.node) is.1) in (there.0, there.1, there.2 ∙ is.2)

file_stays : (e f : Tree) (p : Path) → look f p ≡ look e p → IsFile e p → IsFile f p
file_stays e f p same is = let there = stands f p (e.node is.0) (same ∙ ap (λ (x : Option ℕ). held x e.node) is.1) in (there.0, there.1, there.2 ∙ is.2)

-- where nothing is seen nothing stands
nothing : (t : Tree) (p : Path) → look t p ≡ None → t.at p ≡ None
nothing t p is = by (t.at p) refl
  where
    by : (o : Option ℕ) → t.at p ≡ o → t.at p ≡ None
    by None at = at
    by (Some n) at = absurd (let e : Some (t.node n) ≡ None = sym (ap (λ (x : Option ℕ). held x t.node) at) ∙ is in cc)

free_stays : (e f : Tree) (p : Path) → look f p ≡ look e p → IsFree e p → IsFree f p
free_stays e f p same (inl none) = inl (nothing f p (same ∙ ap (λ (x : Option ℕ). held x e.node) none))
free_stays e f p same (inr file) = inr (file_stays e f p same file)

own_on : (e f : Tree) → OwnStays e f → IsOwn e → IsOwn f
own_on e f stays own = record {
  building = dir_stays e f aside stays.building own.building;
  places = λ step. stays.places step (own.places step);
  removed = dir_stays e f trash stays.removed own.removed;
  target = free_stays e f number_path stays.number own.target;
  clear = stays.clear own.clear;
}

number_stays : (e f : Tree) (n : ℕ) → look f number_path ≡ look e number_path → HasNumber e n → HasNumber f n
number_stays e f n same number = record { file = number.file; stands = same ∙ number.stands; kind = number.kind; bytes = number.bytes; small = number.small }

-- paths of two steps are no paths of three
pub two_not_three : (a b : List ℕ) (p : Path) (step : List ℕ) → length p ≡ 2 → a ∷ b ∷ [] ≢ entry p step
two_not_three a b p step two same =
    let long : length (entry p step) ≡ length p + 1 = length_push p step in
    let e : 2 ≡ length (entry p step) = ap length same in
    absurd (omega (arith, long, two, e))

-- each of these stands neither in the collection's directory nor among what is built
pub off_two : (c : Coll) (b : List ℕ) → ((s : List ℕ) → codes "current" ∷ b ∷ [] ≢ entry (dir_of c) s) × ((s : List ℕ) → codes "current" ∷ b ∷ [] ≢ entry aside s)
off_two c b = (λ s. two_not_three (codes "current") b (dir_of c) s refl, λ s. two_not_three (codes "current") b aside s refl)

-- so does each collection's directory
off_files : (c : Coll) (e f : Tree) → OffStays (dir_of c) e f → FilesFrom e f
off_files c e f goes d fits file = file_stays f e (dir_of d) (sym (goes (dir_of d) (off_two c (coll_text d)))) file

off_stays : (c : Coll) (e f : Tree) → OffStays (dir_of c) e f → KeepsFree e f → OwnStays e f
off_stays c e f goes free = record {
  building = goes aside (off_two c (codes "aside"));
  removed = goes trash (off_two c (codes "trash"));
  number = goes number_path (off_two c (codes "commit_op_seq"));
  places = λ step was. free (entry aside step) was;
  clear = clear_by e f (off_files c e f goes) (dirs_from e f free);
}

-- where the one is told of one image, and the other of another
pub own_dirs : (c : Coll) (e g f : Tree) (n : ℕ) → OffStays (dir_of c) e f → KeepsFree g f → IsOwn e → IsOwn g → HasNumber e n → IsOwn f × HasNumber f n
own_dirs c e g f n goes free own also number = (
  record {
    building = dir_stays e f aside (goes aside (off_two c (codes "aside"))) own.building;
    places = λ step. free (entry aside step) (also.places step);
    removed = dir_stays e f trash (goes trash (off_two c (codes "trash"))) own.removed;
    target = free_stays e f number_path there own.target;
    clear = clear_from e g f (off_files c e f goes) (dirs_from g f free) own.clear also.clear;
  },
  number_stays e f n there number,
)
  where
    there : look f number_path ≡ look e number_path
    there = goes number_path (off_two c (codes "commit_op_seq"))

-- a number is written
module _ (v : Version) (e f : Tree) (goes : Replaces building number_path v e f) where
  pub look_off : (q : Path) → q ≢ building → q ≢ number_path → look f q ≡ look e q
  look_off q one two = by (e.at q) refl
    where
      by : (o : Option ℕ) → e.at q ≡ o → look f q ≡ look e q
      by None at = ap (λ (x : Option ℕ). held x f.node) (goes.others q one two ∙ at) ∙ sym (ap (λ (x : Option ℕ). held x e.node) at)
      by (Some m) at =
          ap (λ (x : Option ℕ). held x f.node) (goes.others q one two ∙ at) ∙ ap Some (goes.nodes q m one two at) ∙ sym (ap (λ (x : Option ℕ). held x e.node) at)

  pub two_off : (b : List ℕ) → codes "current" ∷ b ∷ [] ≢ building
  two_off b = two_not_three (codes "current") b aside (codes "seq") refl

  pub last_off : (b : List ℕ) → length b < 13 → codes "current" ∷ b ∷ [] ≢ number_path
  last_off b short same =
      let texts : b ≡ codes "commit_op_seq" = (same_from_push current current b (codes "commit_op_seq") same).1 in
      let long : length b ≡ 13 = ap length texts in
      absurd (omega (arith, short, long))

  places_on : KeepsPlaces e f
  places_on step free = ⊎_elim
      (λ same. subst (λ (s : List ℕ). IsFree f (entry aside s)) (sym same) (goes.place (subst (λ (s : List ℕ). IsFree e (entry aside s)) same free)))
      (λ other.
      let one : entry aside step ≢ building = λ same. other (same_from_push aside aside step (codes "seq") same).1 in
      let two : entry aside step ≢ number_path = λ same. two_not_three (codes "current") (codes "commit_op_seq") aside step refl (sym same) in
      ⊎_elim
      (λ none. inl (goes.others (entry aside step) one two ∙ none))
      (λ file. inr (file.0, goes.others (entry aside step) one two ∙ file.1, ap (λ (w : Version). w.dir) (goes.nodes (entry aside step) file.0 one two file.1) ∙ file.2))
      free)
      (dec_step step (codes "seq"))

  dir_off : (c : Coll) → CollFits c → dir_of c ≢ number_path
  dir_off c fits same =
      let texts : coll_text c ≡ codes "commit_op_seq" = (same_from_push current current (coll_text c) (codes "commit_op_seq") same).1 in
      let none : Some c ≡ None = sym (coll_texts_are_read c fits) ∙ ap coll_of texts ∙ number_is_none in
      cc

  module _ (set : Settings) (c : Coll) (fits : CollFits c) where
    entry_off : (step : List ℕ) → entry (dir_of c) step ≢ building
    entry_off step same = off_aside c fits (same_from_push (dir_of c) aside step (codes "seq") same).0

    entry_short : (step : List ℕ) → entry (dir_of c) step ≢ number_path
    entry_short step same = two_not_three (codes "current") (codes "commit_op_seq") (dir_of c) step refl (sym same)

    pub at_same : (step : List ℕ) → f.at (entry (dir_of c) step) ≡ e.at (entry (dir_of c) step)
    at_same step = goes.others (entry (dir_of c) step) (entry_off step) (entry_short step)

    pub nodes_same : (step : List ℕ) (k : ℕ) → e.at (entry (dir_of c) step) ≡ Some k → f.node k ≡ e.node k
    nodes_same step k here = goes.nodes (entry (dir_of c) step) k (entry_off step) (entry_short step) here

    coll_stays : CollStays set c e f
    coll_stays = record {
      dir = ap (option_map guard_of) (look_off (dir_of c) (two_off (coll_text c)) (dir_off c fits));
      objects = λ m is. (
        m,
        view_map set (dir_of c) e f (nodes_view (dir_of c) e f at_same nodes_same) m is,
        λ o own.
            content_same set (dir_of c) e f m m o refl (λ k at. let found = is.there o k own at in nodes_same found.0 k found.1.here),
      );
    }

  -- no directory comes
  module _ (file : v.dir ≡ false) where
    same_dir : (q : Path) → look f q ≡ look e q → IsDir f q → IsDir e q
    same_dir q same is = dir_stays f e q (sym same) is

    dirs_on : DirsFrom e f
    dirs_on q is = elim (dec_path q building) [
      | inl same ↦ dir_from e f q (λ was. subst (IsFree f) (sym same) (goes.place (subst (IsFree e) same was))) is
      | inr one ↦ elim (dec_path q number_path) [
        | inl same ↦ ⊎_elim
            (λ stays. same_dir q (subst (λ (p : Path). look f p ≡ look e p) (sym same) stays) is)
            (λ this. absurd (never_both f q (subst (IsFree f) (sym same) (free_look f number_path v this file)) is))
            goes.target
        | inr two ↦ same_dir q (look_off q one two) is
      ]
    ]

    clear_on : KeepsClear e f
    clear_on = clear_by e f (λ c fits is. file_stays f e (dir_of c) (sym (look_off (dir_of c) (two_off (coll_text c)) (dir_off c fits))) is) dirs_on

number_comes : (t : Tree) (seq : ℕ) → seq < 2 ^ 63 → look t number_path ≡ Some (number_file seq) → HasNumber t seq
number_comes t seq small stands = record { file = number_file seq; stands = stands; kind = refl; bytes = refl; small = small }

at_stays : (set : Settings) (h : History) (k hi seq : ℕ) (e f : Tree) → Renumbers seq e f → At set h k hi e → At set h k hi f
at_stays set h k hi seq e f goes is = record { plain = is.plain; past = past_stays set h.origin (ops_to h hi) k e f (λ c fits. coll_stays (number_file seq) e f goes set c fits) is.past }

own_renumbered : (seq : ℕ) (e f : Tree) → Renumbers seq e f → IsOwn e → IsOwn f
own_renumbered seq e f goes own = record {
  building = dir_stays e f aside (look_off (number_file seq) e f goes aside (two_off (number_file seq) e f goes (codes "aside")) (last_off (number_file seq) e f goes (codes "aside") (omega arith))) own.building;
  places = λ step. places_on (number_file seq) e f goes step (own.places step);
  removed = dir_stays e f trash (look_off (number_file seq) e f goes trash (two_off (number_file seq) e f goes (codes "trash")) (last_off (number_file seq) e f goes (codes "trash") (omega arith))) own.removed;
  target = ⊎_elim (λ same. free_stays e f number_path same own.target) (λ this. free_look f number_path (number_file seq) this refl) goes.target;
  clear = clear_on (number_file seq) e f goes refl own.clear;
}

image_numbered : (set : Settings) (h : History) (n lo hi seq : ℕ) (e f : Tree) → seq < 2 ^ 63 → Renumbers seq e f → Image set h n lo hi e → Image set h n lo hi f ⊎ Image set h seq lo hi f
image_numbered set h n lo hi seq e f small goes is = ⊎_elim
    (λ same. inl (made n (number_stays e f n same is.number)))
    (λ this. inr (made seq (number_comes f seq small this)))
    goes.target
  where
    made : (m : ℕ) → HasNumber f m → Image set h m lo hi f
    made m number = record { base = is.base; number = number; own = own_renumbered seq e f goes is.own; fit = is.fit; past = at_stays set h (count_to h lo) hi seq e f goes is.past }

pub own_law : OwnLaw
own_law = record {
  stays = λ e f n stays own number. (own_on e f stays own, number_stays e f n stays.number number);
  keeps = own_on;
  off = off_stays;
  colls = λ set seq e f goes c fits. coll_stays (number_file seq) e f goes set c fits;
  at = at_stays;
  renumbered = own_renumbered;
  numbered = image_numbered;
  then_number = λ set h n lo hi seq t small stands is. record { base = is.base; number = number_comes t seq small stands; own = is.own; fit = is.fit; past = is.past };
}
