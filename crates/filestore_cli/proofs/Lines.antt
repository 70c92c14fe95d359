-- The text of a path, step by step, and a line of two texts.
use Rattle.std.proofs.Common.{◌≡◌, ℕ, ◌+◌, ◌<◌, List, [], ◌∷◌, ◌++◌, length, take, codes, sym, ◌∙◌, ap, Some, append_assoc}
use mathlib.Core.List.{append-nil}
use Rattle.std.specs.List.{slice_get}
use Rattle.std.proofs.lemmas.List.{take_more}
use Rattle.std.proofs.lemmas.List.Concat.{flat_map-append}
use Rattle.std.proofs.lemmas.Option.{get_or_from_slice_get}
use Rattle.tree_api.specs.Tree.{Path}
use Rattle.fs_script.specs.Printed.{line_text}
use Rattle.filestore_cli.specs.Stop.{slashed}

pub one_more : (path : Path) (i : ℕ) (step a b c : List ℕ) → i < length path → slice_get path i ≡ Some step → a ≡ slashed (take i path) → b ≡ a ++ 47 ∷ [] → c ≡ b ++ step
    → c ≡ slashed (take (i + 1) path)
one_more path i step a b c small here before slash all =
    let f : List ℕ → List ℕ = λ s. codes "/" ++ s in
    let next : take (i + 1) path ≡ take i path ++ step ∷ [] = take_more path i [] small ∙ ap (λ (s : List ℕ). take i path ++ s ∷ []) (get_or_from_slice_get path i step [] here) in
    all ∙ ap (λ (l : List ℕ). l ++ step) (slash ∙ ap (λ (l : List ℕ). l ++ 47 ∷ []) before)
    ∙ append_assoc (slashed (take i path)) (47 ∷ []) step
    ∙ ap (λ (l : List ℕ). slashed (take i path) ++ l) (sym (append-nil (47 ∷ step)))
    ∙ sym (ap slashed next ∙ flat_map-append f (take i path) (step ∷ []))

-- the line of two texts, as it is put together and as it is told
pub fsids_shape : (a b tree ring : List ℕ) → a ≡ tree → b ≡ ring → codes "store: fsid " ++ (a ++ (32 ∷ (b ++ (10 ∷ [])))) ≡ line_text (codes "store: fsid " ++ tree ++ codes " " ++ ring)
fsids_shape a b tree ring one two =
    ap (λ (l : List ℕ). codes "store: fsid " ++ (l ++ (32 ∷ (b ++ (10 ∷ []))))) one
    ∙ ap (λ (l : List ℕ). codes "store: fsid " ++ (tree ++ (32 ∷ (l ++ (10 ∷ []))))) two
    ∙ simp append_assoc
