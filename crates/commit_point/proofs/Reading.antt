-- What stands in the number's file, as it is read.
use Rattle.std.proofs.Common.{◌≡◌, ℕ, Bool, false, length, ◌∙◌, ap, Option, Some, None}
use Rattle.tree_api.specs.Tree.{Path, Version, Tree, look}
use Rattle.tree_api.specs.Answer.{IsStat, kind_of, len_of}
use Rattle.tree_api.specs.declared.tree.Stat.{Stat}
use Rattle.tree_api.specs.declared.tree.Kind.TheVariants.{File}
use Rattle.commit_point.specs.Number.{number_path, HasNumber}
use Rattle.commit_point.proofs.Digits.{spelled_length}

same_some : (a b : Version) → Some a ≡ Some b → a ≡ b
same_some a b e = cc

-- the text of a number's file is as long as a number's, and no directory
file_stat : (o : Option Version) (s : Stat) (v : Version) → o ≡ Some v → v.dir ≡ false → length v.bytes ≡ 17 → IsStat o (Some s) → (s.kind ≡ File) × (s.len ≡ 17)
file_stat None s v at plain long is = absurd is
file_stat (Some w) s v at plain long is =
    let same = same_some w v at in
    let dir : w.dir ≡ false = ap (λ (x : Version). x.dir) same ∙ plain in
    (is.0 ∙ ap kind_of dir, is.1 ∙ ap (λ (d : Bool). len_of d w.bytes) dir ∙ ap (λ (x : Version). length x.bytes) same ∙ long)

-- no number, where something else than such a file stands
pub not_such : (t : Tree) (p : Path) (s : Stat) → p ≡ number_path → IsStat (look t p) (Some s) → ((s.kind ≡ File) × (s.len ≡ 17) → ⊥) → (n : ℕ) → HasNumber t n → ⊥
not_such t p s at is other n has =
    other (file_stat (look t p) s has.file (ap (look t) at ∙ has.stands) has.kind (ap length has.bytes ∙ spelled_length n) is)
