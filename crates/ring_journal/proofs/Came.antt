-- A content that a device has come to have.
use Rattle.std.proofs.Common.{◌≡◌, ⊎_elim, List, [], ◌∷◌, ◌++◌, sym, ◌∙◌, ap, subst, append_assoc}
use Rattle.std.specs.List.{AllByRecursion}
use Rattle.std.proofs.lemmas.List.{append_cancel_right}
use Rattle.dev_api.specs.Disk.{Disk, Goes}
use Rattle.dev_api.specs.Run.{Since}
use Rattle.ring_journal.specs.Came.{Came}

among : (P : Disk → Type 0) (later : List Disk) (d : Disk) (earlier : List Disk) → AllByRecursion P (later ++ d ∷ earlier) → P d
among P [] d earlier all = all.0
among P (e ∷ later) d earlier all = among P later d earlier all.1

-- what holds of each content since holds of this one
pub came_has : (P : Disk → Type 0) (d : Disk) (past so_far : List Disk) → Since P past so_far → Came d past so_far → P d
came_has P d past so_far since came =
    let same : since.0 ++ past ≡ (came.0 ++ d ∷ came.1) ++ past = sym since.1 ∙ came.2 ∙ sym (append_assoc came.0 (d ∷ came.1) past) in
    let is = append_cancel_right since.0 (came.0 ++ d ∷ came.1) past same in
    among P came.0 d came.1 (subst (AllByRecursion P) is since.2)

-- no call, no content
pub came_none : (d : Disk) (past so_far : List Disk) → so_far ≡ past → Came d past so_far → ⊥
came_none d past so_far same came = came_has (λ (x : Disk). ⊥) d past so_far ([], same, tt) came

-- the last call brought it
pub came_last : (P : Disk → Type 0) (before now next : Disk) (past between so_far : List Disk) → Since P past between → Goes before now between so_far next → (next ≡ before → ⊥) → Came next past so_far
came_last P before now next past between so_far since goes new =
    ⊎_elim (λ h. ([], since.0, h ∙ ap (λ (l : List Disk). next ∷ l) since.1)) (λ h. absurd (new h.1)) goes.history

-- and calls before it bring no other
pub came_after : (P : Disk → Type 0) (d : Disk) (past between so_far : List Disk) → Since P past between → Came d between so_far → Came d past so_far
came_after P d past between so_far since came = (
  came.0,
  came.1 ++ since.0,
  came.2 ∙ ap (λ (l : List Disk). came.0 ++ d ∷ l) (ap (λ (l : List Disk). came.1 ++ l) since.1 ∙ sym (append_assoc came.1 since.0 past)),
)
