-- Attributes of a file that aren't its object's stay.
use Rattle.std.proofs.Common.{◌≡◌, ◌≢◌, ℕ, List, ◌∷◌, get_or, ap, Option}
use Rattle.tree_api.specs.Tree.{Path, Version, Written, Cut, AttrIs}
use Rattle.tree_api.specs.Disk.{Disk}
use Rattle.object_file.specs.Attrs.{attr_name, IsOurs, Copied}
use Rattle.object_file.specs.Passing.{FileGoes}

-- a name that begins otherwise
pub not_ours : (x : ℕ) (rest : List ℕ) → x ≢ 97 → IsOurs (x ∷ rest) → ⊥
not_ours x rest not is = not (ap (λ (name : List ℕ). get_or name 0 0) is.1)

-- it changes no such attribute
abbrev pub KeepsOthers : (Version → Version → Type 0) → Type 0
KeepsOthers R = (a b : Version) → R a b → (k : List ℕ) → (IsOurs k → ⊥) → b.attr k ≡ a.attr k

pub written_others : (at : ℕ) (bytes : List ℕ) → KeepsOthers (Written at bytes)
written_others at bytes a b is k not = ap (λ (v : Version). v.attr k) is

pub cut_others : (len : ℕ) → KeepsOthers (Cut len)
cut_others len a b is k not = ap (λ (v : Version). v.attr k) is

pub attr_others : (name : List ℕ) (value : Option (List ℕ)) → KeepsOthers (AttrIs (attr_name name) value)
attr_others name value a b is k not = is.others k (λ same. not (name, same))

pub copied_others : (source : Version) → KeepsOthers (Copied source)
copied_others source a b is k not = is.others k not

pub goes_others : (p : Path) (R : Version → Version → Type 0) (old new : Disk) (done : Type 0) → KeepsOthers R → (goes : FileGoes p R old new done) → (k : List ℕ) → (IsOurs k → ⊥) → goes.to.attr k ≡ (old.tree.node goes.n).attr k
goes_others p R old new done keeps goes k not = keeps (old.tree.node goes.n) goes.to goes.is k not
