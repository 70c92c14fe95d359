-- One transaction more that waits.
use Rattle.std.proofs.Common.{◌≡◌, ℕ, List, [], ◌∷◌, ◌++◌, map, sym, subst}
use Rattle.std.proofs.lemmas.List.{map-append}
use Rattle.fs_model.specs.declared.op.Op.{Op}
use Rattle.fs_model.specs.declared.op.Txn.{Txn}
use Rattle.fs_model.specs.Check.{IsAccepted}
use Rattle.store_history.specs.History.{History}
use Rattle.store_queue.specs.Waiting.{Waiting, with_txn as queue_with}
use Rattle.history_tails.specs.Tails.{WaitBehind}
use Rattle.history_tails.proofs.Waits.{waits_more}
use Rattle.file_store.specs.Store.{Store}
use Rattle.file_store.specs.Holds.{Waits}

pub waits_queued : (h : History) (s : Store) (old new : Waiting) (txn : Txn) (seq : ℕ) → s.queue ≡ old → Waits h s → IsAccepted old.colls txn.ops → new ≡ queue_with old txn seq
    → WaitBehind h (map (λ x. x.ops) new.txns) new.colls
waits_queued h s old new txn seq same waits accepted is =
    let one : map (λ x. x.ops) (queue_with old txn seq).txns ≡ map (λ x. x.ops) old.txns ++ txn.ops ∷ [] = map-append (λ (x : Txn). x.ops) old.txns (txn ∷ []) in
    let before : WaitBehind h (map (λ x. x.ops) old.txns) old.colls = subst (λ (q : Waiting). WaitBehind h (map (λ x. x.ops) q.txns) q.colls) same waits in
    subst (λ (q : Waiting). WaitBehind h (map (λ x. x.ops) q.txns) q.colls) (sym is)
    (subst (λ (l : List (List Op)). WaitBehind h l (queue_with old txn seq).colls) (sym one) (waits_more h (map (λ x. x.ops) old.txns) old.colls txn.ops before accepted))
