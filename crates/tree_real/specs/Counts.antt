-- What is known of a tree on a real file system: its counts, and whether it may answer a sync.
use Rattle.std.specs.Prelude.{ℕ, Bool, true, false, ◌||◌, if◌then◌else◌, None, Result, Err}
use Rattle.fault_count.specs.Counted.{one_more}
use Rattle.tree_api.specs.Tree.{new_dir}
use Rattle.tree_api.specs.Disk.{Disk}
use Rattle.tree_api.specs.declared.tree.TreeError.{TreeError}
use Rattle.tree_api.specs.declared.tree.TreeError.TheVariants.{Refused}

pub record Counts : Type 0 where
  pub faults : ℕ
  pub syncs : ℕ
  pub looks : ℕ
  -- a change was refused, so what is stable isn't known
  pub unsure : Bool
  -- how many files and folders were synced when it was opened
  pub settled : ℕ

-- a tree that was just opened
abbrev pub opened : ℕ → Counts
opened settled = record { faults = 0; syncs = 0; looks = 0; unsure = false; settled = settled }

-- whether a call was refused
abbrev pub was_refused : {T : Type 0} → Result T TreeError → Bool
was_refused (Err Refused) = true
was_refused _ = false

-- one fault more where a call was refused
abbrev pub counted : Counts → Bool → Counts
counted old refused = record old { faults = if refused then one_more old.faults else old.faults }

-- the same after a change
abbrev pub changed : Counts → Bool → Counts
changed old refused = record (counted old refused) { unsure = old.unsure || refused }

-- and one look more
abbrev pub looked : Counts → Bool → Counts
looked old refused = record (counted old refused) { looks = one_more old.looks }

-- and one whole sync more
abbrev pub synced : Counts → Bool → Counts
synced old refused = record (counted old refused) { syncs = one_more old.syncs }

-- nothing is told of the content
abbrev pub untold : Counts → Disk
untold c = record {
  tree = record { at = λ q. None; node = λ n. new_dir; snap = λ k. None };
  may = λ t. ⊥;
  moment = 0;
  since = λ m t. ⊥;
  faults = c.faults;
  syncs = c.syncs;
  looks = c.looks;
  checkpoints = false;
}
