-- The operations of a transaction, one after the other.
use Rattle.std.proofs.Common.{◌≡◌, ℕ, zero, suc, ◌+◌, ◌<◌, List, [], ◌∷◌, length, get_or, refl, sym, ◌∙◌, ap, arith, Some}
use Rattle.std.specs.Prelude.{slice_get}
use Rattle.fs_names.specs.declared.settings.Settings.{Settings}
use Rattle.fs_model.specs.declared.op.Op.{Op}
use Rattle.tree_api.specs.Disk.{Disk, Sound, Keeps}
use Rattle.tree_api.proofs.Moments.{started, joined}
use Rattle.store_history.specs.History.{History}
use Rattle.store_turns.specs.declared.numbers.How.{How}
use Rattle.tree_places.specs.Images.{Image}
use Rattle.tree_places.specs.Underway.{IsTurn, Underway}
use Rattle.apply_ops.specs.Next.{Spot, IsNext}

-- an item of a list, by its place
pub item_at : {A : Type 0} (xs : List A) (i : ℕ) (x : A) → i < length xs → x ≡ get_or xs i x → slice_get xs i ≡ Some x
item_at xs i x lt is = found xs i x lt ∙ ap Some (sym is)
  where
    found : {A : Type 0} (ys : List A) (k : ℕ) (d : A) → k < length ys → slice_get ys k ≡ Some (get_or ys k d)
    found [] k d low = absurd (omega (arith, low))
    found (y ∷ ys) zero d low = refl
    found (y ∷ ys) (suc k) d low = found ys k d (omega (arith, low))

module _ (set : Settings) (how : How) (h : History) (n lo hi seq : ℕ) (ops : List Op) (turn : IsTurn how h lo hi seq ops) (i : ℕ) (op : Op) (here : slice_get ops i ≡ Some op)
    (entry old : Disk) (sound : Sound old) (now : Underway set how h n lo hi seq i entry old) where
  abbrev pub spot : Spot
  spot = record { how = how; h = h; n = n; lo = lo; hi = hi; seq = seq; ops = ops; i = i }

  -- the operation is next, whatever was done before
  pub is_next : IsNext set spot op old
  is_next = record {
    turn = turn;
    here = here;
    now = record { keeps = started (Image set h n lo hi) old sound now.images; images = now.images; reads = now.reads };
  }

  pub since_entry : (new : Disk) → Keeps (Image set h n lo hi) old new → Keeps (Image set h n lo hi) entry new
  since_entry new keeps = joined (Image set h n lo hi) entry old new now.keeps keeps

  pub goes_on : (new : Disk) → Underway set how h n lo hi seq (i + 1) old new → Underway set how h n lo hi seq (i + 1) entry new
  goes_on new next = record { keeps = since_entry new next.keeps; images = next.images; reads = next.reads }
