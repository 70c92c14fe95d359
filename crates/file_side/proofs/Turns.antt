-- A transaction is next, and calls that change nothing leave what may be done.
use Rattle.std.proofs.Common.{ℕ, ◌<◌, ◌≤◌, List, subst, sym, Result, Ok, Err, OnOk}
use Rattle.fs_names.specs.declared.settings.Settings.{Settings}
use Rattle.fs_model.specs.declared.op.Op.{Op}
use Rattle.tree_api.specs.Disk.{Disk, Stays}
use Rattle.object_ops.proofs.Standing.{ready_stays}
use Rattle.store_history.specs.History.{History, IsTxn}
use Rattle.store_turns.specs.declared.numbers.How.{How}
use Rattle.store_turns.specs.declared.numbers.How.TheVariants.{Live, Replay}
use Rattle.store_turns.specs.Calls.{Covers}
use Rattle.tree_places.specs.Images.{IsOwn}
use Rattle.tree_places.specs.Underway.{last_of, IsTurn}
use Rattle.apply_ops.specs.Next.{IsReady}

-- what follows where a call answered Ok
pub then_ok : {T E A B : Type 0} (r : Result T E) → (A → B) → OnOk r A → OnOk r B
then_ok (Ok v) f a = f a
then_ok (Err e) f a = tt

known : (how : How) (h : History) (hi seq : ℕ) → seq ≤ hi → Covers how h hi → last_of how h seq ≤ hi
known Live h hi seq high covers = high
known Replay h hi seq high covers = covers

pub turn_of : (how : How) (h : History) (lo hi seq : ℕ) (ops : List Op) → lo < seq → seq ≤ hi → Covers how h hi → IsTxn h seq ops → IsTurn how h lo hi seq ops
turn_of how h lo hi seq ops low high covers is = record { low = low; high = high; known = known how h hi seq high covers; is = is }

pub still_ready : (set : Settings) (old new : Disk) → Stays old new → IsReady set old → IsReady set new
still_ready set old new stays is = record { ready = ready_stays old new stays set is.ready; own = subst IsOwn (sym stays.tree) is.own }
