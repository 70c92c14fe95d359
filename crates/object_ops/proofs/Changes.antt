-- Changes of a file that leave alone what isn't its object's.
use Rattle.std.proofs.Common.{ℕ, List, [], ◌∷◌, codes, ◌∙◌, arith, refl, Option, Some}
use Rattle.std.specs.List.{fold}
use Rattle.fs_model.specs.declared.pair.Pair.{Pair}
use Rattle.tree_api.specs.Passing.{with_attr}
use Rattle.tree_api.proofs.Passing.{with_attr_is}
use Rattle.lfn_index.specs.Directory.{lfn_name}
use Rattle.object_file.specs.Attrs.{attr_name, IsOurs}
use Rattle.object_file.proofs.Others.{not_ours, attr_others}
use Rattle.replay_guard.specs.Guards.{guard_name}
use Rattle.tree_stands.specs.Files.{with_bytes, set_pair, without_ours}
use Rattle.object_ops.proofs.Passes.{Inside}

pub bytes_inside : (f : List ℕ → List ℕ) → Inside (with_bytes f)
bytes_inside f = record { text = λ v. refl; guard = λ v. refl }

text_not_ours : IsOurs lfn_name → ⊥
text_not_ours = not_ours 108 (codes "fn") (λ e. omega (arith, e))

guard_not_ours : IsOurs guard_name → ⊥
guard_not_ours = not_ours 103 (codes "uard") (λ e. omega (arith, e))

pub attr_inside : (name : List ℕ) (value : Option (List ℕ)) → Inside (with_attr (attr_name name) value)
attr_inside name value = record {
  text = λ v. attr_others name value v (with_attr (attr_name name) value v) (with_attr_is (attr_name name) value v) lfn_name text_not_ours;
  guard = λ v. attr_others name value v (with_attr (attr_name name) value v) (with_attr_is (attr_name name) value v) guard_name guard_not_ours;
}

pub pairs_inside : (pairs : List Pair) → Inside (λ v. fold set_pair v pairs)
pairs_inside [] = record { text = λ v. refl; guard = λ v. refl }
pairs_inside (p ∷ pairs) =
    let one = attr_inside p.key (Some p.value) in
    let more = pairs_inside pairs in
    record { text = λ v. more.text (set_pair v p) ∙ one.text v; guard = λ v. more.guard (set_pair v p) ∙ one.guard v }

pub ours_inside : Inside without_ours
ours_inside = record { text = λ v. refl; guard = λ v. refl }
