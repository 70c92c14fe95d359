-- What a call on the tree's side starts from, for each history that the tree may stand in.
use Rattle.std.specs.Prelude.{◌≡◌, ◌⊎◌, ℕ, ◌-◌, ◌<◌, ◌≤◌, List, Ok}
use Rattle.fs_model.specs.declared.op.Op.{Op}
use Rattle.txn_codec.specs.Reading.{decoded}
use Rattle.tree_api.specs.Tree.{Tree}
use Rattle.tree_api.specs.Disk.{Disk as Files, Everywhere}
use Rattle.store_history.specs.History.{History, IsTxn, end_of}
use Rattle.store_history.specs.Images.{Images}
use Rattle.store_turns.specs.declared.numbers.How.{How}
use Rattle.store_turns.specs.declared.numbers.How.TheVariants.{Live, Replay}
use Rattle.store_turns.specs.Theory.{Reads}

-- on replay what reads may be past all transactions, and so may the images
abbrev pub Covers : How → History → ℕ → Type 0
Covers Live h hi = Unit {0}
Covers Replay h hi = end_of h ≤ hi

-- the operations are the transaction seq, which no image has to be past, and the tree reads as after the one before
abbrev pub WhereNext : Images Tree → Reads → How → ℕ → List Op → Files → (History → ℕ → ℕ → ℕ → Type 0) → Type 0
WhereNext image reads how seq ops old P = (h : History) (n lo hi : ℕ) → lo < seq → seq ≤ hi → Covers how h hi → IsTxn h seq ops
    → Everywhere old (image h n lo hi) → reads how h (seq - 1) old.tree → P h n lo hi

-- each part of the tree is past the transaction seq, and the committed number is no higher
abbrev pub WhereDone : Images Tree → ℕ → Files → (History → ℕ → ℕ → ℕ → Type 0) → Type 0
WhereDone image seq old P = (h : History) (n lo hi : ℕ) → n ≤ seq → seq ≤ lo → Everywhere old (image h n lo hi) → P h n lo hi

-- all up to m is applied, and the committed number is n
abbrev pub WhereApplied : Images Tree → Reads → ℕ → Files → (History → ℕ → Type 0) → Type 0
WhereApplied image reads m old P = (h : History) (n : ℕ) → n ≤ m → Everywhere old (image h n n m) → reads Live h m old.tree → P h n

-- a commit is under way: all up to m may be stable, and then the committed number may be m
abbrev pub IsCommitting : Images Tree → History → ℕ → ℕ → Tree → Type 0
IsCommitting image h n m t = image h n n m t ⊎ (image h n m m t ⊎ image h m m m t)

-- the payload spells the transaction seq, and the replay of those before it is done
abbrev pub WhereReplayed : Images Tree → Reads → ℕ → ℕ → List ℕ → Files → (History → ℕ → Type 0) → Type 0
WhereReplayed image reads committed seq payload old P = (h : History) (hi : ℕ) (ops : List Op) → seq ≤ hi → end_of h ≤ hi → decoded payload ≡ Ok ops
    → IsTxn h seq ops → Everywhere old (image h committed committed hi) → reads Replay h (seq - 1) old.tree → P h hi

-- each part of the tree is past the transactions up to lo and past none above hi, and the committed number is n
abbrev pub WhereImages : Images Tree → Files → (History → ℕ → ℕ → ℕ → Type 0) → Type 0
WhereImages image old P = (h : History) (n lo hi : ℕ) → Everywhere old (image h n lo hi) → P h n lo hi
