-- Histories that go on, and what a crash leaves of a store.
use Rattle.std.proofs.Common.{◌≡◌, ℕ, ◌-◌, ◌≤◌, List, [], length, refl, sym, ap, subst, arith, append-nil, length-append}
use Rattle.std.specs.Prelude.{Result, Ok, Err, OnErr}
use Rattle.std.proofs.lemmas.List.{take-append-le}
use Rattle.fs_model.specs.declared.op.Op.{Op}
use Rattle.fs_model.specs.Objects.{Objects}
use Rattle.fs_model.specs.Rows.{fold_txns}
use Rattle.tree_api.specs.Disk.{Disk as Files}
use Rattle.dev_api.specs.Disk.{Disk}
use Rattle.ring_journal.specs.State.{State}
use Rattle.ring_images.specs.Held.{EachSound}
use Rattle.store_history.specs.History.{History, end_of, at}
use Rattle.store_history.specs.Images.{Images}
use Rattle.store_history.specs.Journal.{IsJournal, RingSide}
use Rattle.store_history.specs.Pair.{StandsAt, StandsFor, PairsStand}
use Rattle.store_history.proofs.Join.{less, pair_stands_for}
use Rattle.history_tails.proofs.Tails.{stands_tail}
use Rattle.store_files.specs.declared.reading.Identity.{Identity}
use Rattle.tree_places.specs.Images.{StoreImage}
use Rattle.tree_places.proofs.Theory.{theory_law}
use Rattle.fs_script.specs.declared.statement.Statement.{Statement}
use Rattle.fs_script.specs.declared.statement.Statement.TheVariants.{Drain}
use Rattle.fs_session.specs.Answers.{Session}
use Rattle.file_store.specs.Store.{Store, waiting_in}
use Rattle.file_store.specs.Holds.{Holds, Leaves, with_waiting}
use Rattle.script_store.specs.Script.{ops_of, drained_in}
use Rattle.script_store.specs.Held.{more}

-- up to its end a longer history has the same objects
pub at_longer : (h : History) (ys : List (List Op)) (n : ℕ) → n ≤ end_of h → at (more h ys) n ≡ at h n
at_longer h ys n known =
    let few : n - h.base ≤ length h.txns = omega (arith, known) in
    ap (fold_txns h.origin) (take-append-le (n - h.base) h.txns ys few)

pub end_more : (h : History) (ys : List (List Op)) → end_of h ≤ end_of (more h ys)
end_more h ys = omega (arith, length-append h.txns ys)

-- with nothing behind it is the same
pub more_none : (h : History) → more h [] ≡ h
more_none h = ap (λ (ts : List (List Op)). let g : History = record { base = h.base; origin = h.origin; txns = ts } in g) (append-nil h.txns)

stands_longer : {Kind : Type 0} (image : Images Kind) (fsid : List ℕ) (h : History) (ys : List (List Op)) (low : ℕ) (t : Kind) (c : List ℕ)
    → StandsFor image fsid h low t c → StandsFor image fsid (more h ys) low t c
stands_longer image fsid h ys low t c s = record {
  n = s.n;
  last = s.last;
  stands = subst (λ (o : Objects). StandsAt image fsid t c o s.n s.last) (sym (at_longer h ys s.last s.known)) s.stands;
  acked_is = s.acked_is;
  known = omega (arith, s.known, end_more h ys);
}

-- what stands for a history stands for a longer one
pub pairs_longer : {Kind : Type 0} (image : Images Kind) (fsid : List ℕ) (h : History) (ys : List (List Op)) (low : ℕ) (may : Kind → Type 0) (d : Disk)
    → PairsStand image fsid h low may d → PairsStand image fsid (more h ys) low may d
pairs_longer image fsid h ys low may d leaves t is c of_disk sound unspent = stands_longer image fsid h ys low t c (leaves t is c of_disk sound unspent)

-- and where less was acknowledged
pub pairs_lower : {Kind : Type 0} (image : Images Kind) (fsid : List ℕ) (h : History) (low few : ℕ) (may : Kind → Type 0) (d : Disk)
    → few ≤ low → PairsStand image fsid h low may d → PairsStand image fsid h few may d
pairs_lower image fsid h low few may d le leaves t is c of_disk sound unspent = less image fsid h few low t c le (leaves t is c of_disk sound unspent)

pub longer : (h : History) (ys : List (List Op)) (low : ℕ) (s : Store) (t : Files) (d : Disk) → Leaves h low s t d → Leaves (more h ys) low s t d
longer h ys low s t d leaves = pairs_longer (StoreImage s.identity) s.identity.fsid h ys low t.may d leaves

pub lower : (h : History) (low few : ℕ) (s : Store) (t : Files) (d : Disk) → few ≤ low → Leaves h low s t d → Leaves h few s t d
lower h low few s t d le leaves = pairs_lower (StoreImage s.identity) s.identity.fsid h low few t.may d le leaves

-- the same is left of a store that is the same one
abbrev leaves_of : History → ℕ → Files → Disk → Identity → Type 0
leaves_of h low t d id = PairsStand (StoreImage id) id.fsid h low t.may d

pub leaves_same : (h : History) (low : ℕ) (s s2 : Store) (t : Files) (d : Disk) → s2.identity ≡ s.identity → Leaves h low s2 t d → Leaves h low s t d
leaves_same h low s s2 t d is leaves = subst (leaves_of h low t d) is leaves

-- each sound image of a ring that holds a history is a journal of it: `journal_law` of `store_history`
abbrev pub JournalLaw : Type 0
JournalLaw = (fsid : List ℕ) (h : History) (p synced hi : ℕ) (s : State) (d : Disk) → RingSide fsid h p synced hi s d → EachSound (IsJournal fsid h p synced hi) d

-- what a store holds a crash leaves
pub holds_leaves : JournalLaw → (h : History) (s : Store) (t : Files) (d : Disk) → Holds h s t d → Leaves h (end_of h) s t d
holds_leaves law h s t d k tree may c image sound unspent =
    let n = s.numbers.committed in
    let m = s.numbers.journalled in
    let fsid = s.identity.fsid in
    let low : n ≤ m = k.on.ring.low in
    let journal : IsJournal fsid k.long n m m c = law fsid k.long n m m s.ring d k.on.ring c image sound in
    let stands : StandsFor (StoreImage s.identity) fsid k.long m tree c =
    pair_stands_for (StoreImage s.identity) (theory_law s.identity).laws fsid k.long n n m n m m tree c (k.on.images tree may) journal k.on.ring.base (omega arith) (omega arith) low
    (omega arith) k.on.ring.fits k.on.small m (omega arith) in
    let own : h.base ≤ m = omega (arith, k.end) in
    less (StoreImage s.identity) fsid h (end_of h) m tree c (omega (arith, k.end)) (stands_tail (StoreImage s.identity) fsid h k.long m tree c k.tail own stands)

-- what a statement leaves is a part of all that waited, whichever statement it was
pub statement_left : (h : History) (session : Session) (statement : Statement) (s : Store) (t : Files) (d : Disk) → ops_of session.waiting ≡ waiting_in s
    → Leaves (more h (drained_in session statement)) (end_of (more h (drained_in session statement))) s t d → Leaves (with_waiting h s) (end_of h) s t d
statement_left h session Drain s t d is leaves =
    let all : Leaves (more h (waiting_in s)) (end_of (more h (waiting_in s))) s t d =
    subst (λ (l : List (List Op)). Leaves (more h l) (end_of (more h l)) s t d) is leaves in
    lower (with_waiting h s) (end_of (more h (waiting_in s))) (end_of h) s t d (end_more h (waiting_in s)) all
statement_left h session _ s t d is leaves =
    longer h (waiting_in s) (end_of h) s t d (subst (λ (g : History). Leaves g (end_of g) s t d) (more_none h) leaves)

-- a statement other than a drain does nothing on the tree
pub none_drained : (session : Session) (statement : Statement) → (statement ≡ Drain → ⊥) → drained_in session statement ≡ []
none_drained session Drain other = absurd (other refl)
none_drained session _ other = refl

-- what holds whether a call answered Ok or not
pub on_err : {T E : Type 0} (P : Type 0) (r : Result T E) → P → OnErr r P
on_err P (Ok x) p = tt
on_err P (Err e) p = p
