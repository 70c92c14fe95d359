-- Operations of a history, and how far its tree is then.
use Rattle.std.proofs.Common.{◌≡◌, ℕ, suc, ◌+◌, ◌-◌, List, [], length, take, sym, ◌∙◌, ap, subst, arith}
use Rattle.std.specs.Prelude.{slice_get}
use Rattle.std.specs.FinMap as fin
use Rattle.fs_names.specs.declared.coll.Coll.{Coll}
use Rattle.fs_names.specs.declared.settings.Settings.{Settings}
use Rattle.fs_names.specs.Reading.{CollFits}
use Rattle.fs_model.specs.declared.op.Op.{Op}
use Rattle.tree_api.specs.Tree.{Tree}
use Rattle.commit_point.specs.Number.{HasNumber}
use Rattle.store_history.specs.History.{History, replay_of}
use Rattle.op_effects.specs.Collections.{IsGone}
use Rattle.op_places.specs.Places.{PastOps}
use Rattle.op_places.specs.Laws.{IsAt}
use Rattle.op_places.proofs.Edits as edits
use Rattle.op_places.proofs.Makes as colls
use Rattle.op_places.proofs.Fresh.{past_none}
use Rattle.tree_places.specs.Line.{ops_of, ops_to, count_to, At}
use Rattle.tree_places.specs.Images.{IsOwn, Image}
use Rattle.tree_places.specs.Laws.{HistoryLaw, ComesNext, EditLaw, CollLaw}
use Rattle.tree_places.proofs.Fit.{can_longer, can_none, none_copy}
use Rattle.tree_places.proofs.Flat.{op_place, count_next, allowed_flat}
use Rattle.tree_places.proofs.Histories.{plain_to, count_grows, wider, back, longer}

is_at : (set : Settings) (h : History) (hi k : ℕ) (op : Op) (t : Tree) → ComesNext set h hi k op t → IsAt set h.origin (ops_to h hi) k op t
is_at set h hi k op t next = record { plain = plain_to h hi next.reads.plain; is_op = next.is_op; reads = next.reads.past }

-- the tree is past one operation more
goes_on : (set : Settings) (h : History) (hi k : ℕ) (op : Op) (t u : Tree) → ComesNext set h hi k op t → PastOps set h.origin (ops_to h hi) (suc k) u → At set h (k + 1) hi u
goes_on set h hi k op t u next past =
    let one : suc k ≡ k + 1 = omega arith in
    record { plain = next.reads.plain; past = subst (λ (n : ℕ). PastOps set h.origin (ops_to h hi) n u) one past }

pub edit_law : EditLaw
edit_law = record {
  keeps = λ set h hi k op n row F t next one l le M of_t e f is has goes.
      record { plain = is.plain; past = edits.edit_law.keeps set h.origin (ops_to h hi) k op n row F t (is_at set h hi k op t next) one l le M of_t e f is.past has goes };
  goes = λ set h hi k op n row F t next one u goes.
      goes_on set h hi k op t u next (edits.edit_law.goes set h.origin (ops_to h hi) k op n row F t (is_at set h hi k op t next) one u goes);
  skipped = λ set h hi k op c t next named none isnt.
      goes_on set h hi k op t t next (edits.edit_law.skipped set h.origin (ops_to h hi) k op c t (is_at set h hi k op t next) named none isnt);
}

pub coll_law : CollLaw
coll_law = record {
  makes = λ set h hi k c fits is l le e f held goes.
      record { plain = held.plain; past = colls.coll_law.makes set h.origin (ops_to h hi) k c fits (plain_to h hi held.plain) is l le e f held.past goes };
  is_made = λ set h hi k c t u fits next goes there.
      goes_on set h hi k _ t u next (colls.coll_law.is_made set h.origin (ops_to h hi) k c t u fits (is_at set h hi k _ t next) goes there);
  drops = λ set h hi k c is l le e f held goes.
      record { plain = held.plain; past = colls.coll_law.drops set h.origin (ops_to h hi) k c (plain_to h hi held.plain) is l le e f held.past goes };
  is_dropped = λ set h hi k c t u next goes none.
      goes_on set h hi k _ t u next (colls.coll_law.is_dropped set h.origin (ops_to h hi) k c t u (is_at set h hi k _ t next) goes none);
}

no_ops : (n : ℕ) → [] ≡ ops_to (replay_of n fin.empty []) n
no_ops n =
    let zero_more : 0 ≡ n - n = omega arith in
    ap (λ (k : ℕ). ops_of (take k [])) zero_more

none_done : (n : ℕ) → 0 ≡ count_to (replay_of n fin.empty []) n
none_done n = ap length (no_ops n)

-- a tree without collections has done none of a store's first transactions
pub begins : (set : Settings) (n : ℕ) (t : Tree) → HasNumber t n → IsOwn t → ((c : Coll) → CollFits c → IsGone set c t) → Image set (replay_of n fin.empty []) n n n t
begins set n t number own gone = record {
  base = omega arith;
  number = number;
  own = own;
  fit = can_none n fin.empty;
  past = record {
    plain = record { allowed = tt; built = tt };
    past = subst (λ (k : ℕ). PastOps set fin.empty (ops_to (replay_of n fin.empty []) n) k t) (none_done n) (subst (λ (l : List Op). PastOps set fin.empty l 0 t) (no_ops n) (past_none set t gone));
  };
}

-- the transaction seq among those of the history
before_is : (h : History) (seq : ℕ) → seq - 1 - h.base ≡ seq - (h.base + 1)
before_is h seq = omega arith

pub history_law : HistoryLaw
history_law = record {
  place = λ h hi seq i ops op above le is here.
      let same : count_to h (seq - 1) ≡ length (ops_of (take (seq - (h.base + 1)) h.txns)) = ap (λ (n : ℕ). length (ops_of (take n h.txns))) (before_is h seq) in
      ap (λ (n : ℕ). slice_get (ops_to h hi) (n + i)) same
      ∙ op_place h.txns (seq - (h.base + 1)) (hi - h.base) i op (omega (arith, above, le)) (ap (λ (l : List Op). slice_get l i) is ∙ here);
  count = λ h seq ops above is.
      let next : seq - h.base ≡ suc (seq - (h.base + 1)) = omega (arith, above) in
      ap (λ (n : ℕ). length (ops_of (take n h.txns))) next
      ∙ count_next h.txns (seq - (h.base + 1))
      ∙ ap (λ (l : List Op). length (ops_of (take (seq - (h.base + 1)) h.txns)) + length l) is
      ∙ ap (λ (n : ℕ). length (ops_of (take n h.txns)) + length ops) (sym (before_is h seq));
  grows = count_grows;
  plain = λ h all built. record { allowed = allowed_flat h.origin h.txns all; built = built };
  wider = wider;
  back = back;
  longer = λ id h ops n lo hi t allowed can order known is. record {
    store = is.store;
    image = record {
      base = is.image.base;
      number = is.image.number;
      own = is.image.own;
      fit = can_longer h ops is.image.fit can;
      past = longer id.settings h ops lo hi t allowed (none_copy ops can.each) order known is.image.past;
    };
  };
  begins = λ id n t store number own gone. record { store = store; image = begins id.settings n t number own gone };
}
