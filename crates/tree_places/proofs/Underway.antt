-- A transaction's operations on a disk, one after the other: a lemma for each kind of step.
use Rattle.std.proofs.Common.{◌≡◌, ◌≢◌, inl, inr, ⊎_elim, ℕ, ◌+◌, ◌-◌, ◌<◌, ◌≤◌, false, List, [], ◌∷◌, length, sym, ◌∙◌, ap, subst, arith, Option, Some, None}
use Rattle.std.proofs.lemmas.Bool.{cases_lt}
use Rattle.std.proofs.lemmas.List.{get_or_past}
use Rattle.std.specs.Prelude.{slice_get}
use Rattle.fs_names.specs.declared.coll.Coll.{Coll}
use Rattle.fs_names.specs.declared.settings.Settings.{Settings}
use Rattle.fs_names.specs.Reading.{CollFits}
use Rattle.fs_model.specs.declared.op.Op.{Op}
use Rattle.fs_model.specs.declared.op.Op.TheVariants.{MkColl, RmColl}
use Rattle.fs_model.specs.Named.{colls_named, made}
use Rattle.tree_api.specs.Tree.{Version, Tree}
use Rattle.tree_api.specs.Disk.{Disk, Sound, Stays, Everywhere, Keeps, From, Moves}
use Rattle.tree_api.proofs.Moments.{started, goes_on, joined, weaker, now_from}
use Rattle.fs_cells.specs.declared.cell.Part.{Part}
use Rattle.fs_cells.specs.Parts.{CellAct}
use Rattle.lfn_index.specs.Maps.{content}
use Rattle.tree_stands.specs.Names.{Name}
use Rattle.tree_stands.specs.Shown.{Paired}
use Rattle.tree_stands.specs.Standing.{ObjectCrash}
use Rattle.tree_stands.specs.Trees.{dir_of, dir_guard, ForObject}
use Rattle.tree_stands.proofs.Trees.{maps, maps_are}
use Rattle.store_history.specs.History.{History, end_of}
use Rattle.store_turns.specs.declared.numbers.How.{How}
use Rattle.store_turns.specs.declared.numbers.How.TheVariants.{Live, Replay}
use Rattle.op_effects.specs.Clear.{KeepsClear, KeepsFree}
use Rattle.op_effects.specs.Ready.{HasColls, OffStays}
use Rattle.op_effects.specs.Collections.{Makes, Drops}
use Rattle.op_places.specs.Laws.{EditsOne}
use Rattle.op_places.specs.Places.{is_there}
use Rattle.op_places.proofs.Colls.{none_or}
use Rattle.tree_places.specs.Line.{ops_to, count_to, At}
use Rattle.tree_places.specs.Images.{AllCan, Image, reads}
use Rattle.tree_places.specs.Laws.{ComesNext}
use Rattle.tree_places.specs.Own.{OwnStays}
use Rattle.tree_places.specs.Underway.{last_of, IsTurn, Underway, OwnIs}
use Rattle.tree_places.proofs.Histories.{count_grows, wider}
use Rattle.tree_places.proofs.Operations.{history_law, edit_law, coll_law}
use Rattle.tree_places.proofs.Own.{own_law, own_dirs}

pub both_keep : (P Q R : Tree → Type 0) (old new : Disk) → Keeps P old new → Keeps Q old new → ((t : Tree) → P t → Q t → R t) → Keeps R old new
both_keep P Q R old new one two f = record {
  later = one.later;
  each = λ c left. f c (one.each c left) (two.each c left);
  before = λ t c le left. ⊎_elim (λ was. inl was) (λ p. ⊎_elim (λ was. inl was) (λ q. inr (f c p q)) (two.before t c le left)) (one.before t c le left);
}

-- what is the store's own stays where a step keeps it,
module _ (set : Settings) (h : History) (n lo hi : ℕ) (old new : Disk) (images : Everywhere old (Image set h n lo hi)) where
  -- with that nothing comes in the way told apart
  pub own_keeps : (R : Tree → Tree → Type 0) → ((e f : Tree) → KeepsClear e f → R e f → OwnStays e f) → Moves R old new → Moves KeepsClear old new → Keeps (OwnIs n) old new
  own_keeps R stays moves clear = both_keep (From old R) (From old KeepsClear) (OwnIs n) old new moves clear (λ f one two.
      let is = images one.0 one.1 in
      let clear_then = two.2 (images two.0 two.1).own.clear in
      own_law.stays one.0 f n (stays one.0 f (λ was. clear_then) one.2) is.own is.number)

  -- or that no directory does
  pub own_keeps_off : (c : Coll) → Moves (OffStays (dir_of c)) old new → Moves KeepsFree old new → Keeps (OwnIs n) old new
  own_keeps_off c off free = both_keep (From old (OffStays (dir_of c))) (From old KeepsFree) (OwnIs n) old new off free (λ f one two.
      let is = images one.0 one.1 in
      own_dirs c one.0 two.0 f n one.2 two.2 is.own (images two.0 two.1).own is.number)

  -- so images stay, where their places do
  pub image_keeps : h.base ≤ lo → AllCan h → Keeps (At set h (count_to h lo) hi) old new → Keeps (OwnIs n) old new → Keeps (Image set h n lo hi) old new
  image_keeps base fit places own = both_keep (At set h (count_to h lo) hi) (OwnIs n) (Image set h n lo hi) old new places own (λ t is mine. record { base = base; number = mine.1; own = mine.0; fit = fit; past = is })

module _ (set : Settings) (how : How) (h : History) (n lo hi seq : ℕ) (ops : List Op) (turn : IsTurn how h lo hi seq ops) where
  abbrev pub Now : ℕ → Disk → Disk → Type 0
  Now = Underway set how h n lo hi seq

  -- it begins
  first : (how : How) (t : Tree) → reads set how h (seq - 1) t → At set h (count_to h (seq - 1) + 0) (last_of how h seq) t
  first how t past = subst (λ (k : ℕ). At set h k (last_of how h seq) t) (add_none (count_to h (seq - 1))) (by how past)
    where
      add_none : (k : ℕ) → k ≡ k + 0
      add_none k = omega arith

      by : (how : How) → reads set how h (seq - 1) t → At set h (count_to h (seq - 1)) (last_of how h seq) t
      by Live past = wider set h (count_to h (seq - 1)) (seq - 1) seq t (omega arith) past
      by Replay past = past

  pub begins : (entry : Disk) → Sound entry → Everywhere entry (Image set h n lo hi) → reads set how h (seq - 1) entry.tree → Now 0 entry entry
  begins entry sound images past = record { keeps = started (Image set h n lo hi) entry sound images; images = images; reads = first how entry.tree past }

  -- and ends
  pub ends : (entry now : Disk) → h.base < seq → Now (length ops) entry now → reads set how h seq now.tree
  ends entry now above is = by how (subst (λ (k : ℕ). At set h k (last_of how h seq) now.tree) (sym (history_law.count h seq ops above turn.is)) is.reads)
    where
      by : (how : How) → At set h (count_to h seq) (last_of how h seq) now.tree → reads set how h seq now.tree
      by Live past = past
      by Replay past = past

  -- calls that change nothing
  pub looks_on : (i : ℕ) (entry old new : Disk) → Stays old new → Now i entry old → Now i entry new
  looks_on i entry old new stays is = record {
    keeps = goes_on (Image set h n lo hi) entry old new is.keeps stays.time (λ c may. is.images c (stays.image c may));
    images = λ c may. is.images c (stays.image c may);
    reads = subst (At set h (count_to h (seq - 1) + i) (last_of how h seq)) (sym stays.tree) is.reads;
  }

  -- the operation i of the transaction
  module _ (i : ℕ) (op : Op) (here : slice_get ops i ≡ Some op) (entry old : Disk) (sound : Sound old) (is : Now i entry old) where
    base : h.base ≤ lo
    base = (is.images old.tree sound.now).base

    fit : AllCan h
    fit = (is.images old.tree sound.now).fit

    is_known : seq ≤ end_of h
    is_known = ⊎_elim
        (λ lt. omega (arith, lt, turn.low, base))
        (λ past.
        let none : ops ≡ [] = sym turn.is ∙ get_or_past h.txns (seq - (h.base + 1)) [] past in
        absurd (none_or op (sym (ap (λ (l : List Op). slice_get l i) none) ∙ here)))
        (cases_lt (seq - (h.base + 1)) (length h.txns))

    within : (how : How) → seq ≤ last_of how h seq
    within Live = omega arith
    within Replay = is_known

    place_in : (m : ℕ) → seq ≤ m → slice_get (ops_to h m) (count_to h (seq - 1) + i) ≡ Some op
    place_in m le = history_law.place h m seq i ops op (omega (arith, turn.low, base)) le turn.is here

    -- for what reads, and for images
    own_next : ComesNext set h (last_of how h seq) (count_to h (seq - 1) + i) op old.tree
    own_next = record { is_op = place_in (last_of how h seq) (within how); reads = is.reads }

    image_next : ComesNext set h hi (count_to h (seq - 1) + i) op old.tree
    image_next = record { is_op = place_in hi turn.high; reads = wider set h (count_to h (seq - 1) + i) (last_of how h seq) hi old.tree turn.known is.reads }

    lower : count_to h lo ≤ count_to h (seq - 1) + i
    lower =
        let le : count_to h lo ≤ count_to h (seq - 1) = count_grows h lo (seq - 1) (omega (arith, turn.low)) in
        omega (arith, le)

    one_more : (t : Tree) → At set h (count_to h (seq - 1) + i + 1) (last_of how h seq) t → At set h (count_to h (seq - 1) + (i + 1)) (last_of how h seq) t
    one_more t past =
        let same : count_to h (seq - 1) + i + 1 ≡ count_to h (seq - 1) + (i + 1) = omega arith in
        subst (λ (k : ℕ). At set h k (last_of how h seq) t) same past

    -- it is left out, since its collection isn't there
    pub skips_on : (c : Coll) → colls_named op ≡ c ∷ [] → made op ≡ [] → is_there old.tree c ≡ false → Now (i + 1) entry old
    skips_on c named none isnt = record {
      keeps = is.keeps;
      images = is.images;
      reads = one_more old.tree (edit_law.skipped set h (last_of how h seq) (count_to h (seq - 1) + i) op c old.tree own_next named none isnt);
    }

    module _ (new : Disk) (sound_new : Sound new) where
      -- images at any moment, and the next operation
      done_on : Keeps (Image set h n lo hi) old new → At set h (count_to h (seq - 1) + i + 1) (last_of how h seq) new.tree → Now (i + 1) entry new
      done_on keeps past = record {
        keeps = joined (Image set h n lo hi) entry old new is.keeps keeps;
        images = now_from (Image set h n lo hi) old new sound_new keeps;
        reads = one_more new.tree past;
      }

      -- an operation on one object
      module _ (o : Name) (row : Part → CellAct) (F : Option Version → Option Version) (one : EditsOne op o row F old.tree) (colls : Everywhere old (HasColls old.tree))
          (crash : ObjectCrash set o F old new) (own : Keeps (OwnIs n) old new) where
        edit_keeps : Keeps (Image set h n lo hi) old new
        edit_keeps =
            let M = maps set old.tree is.reads.past.whole in
            image_keeps set h n lo hi old new is.images base fit
            (weaker (From old (ForObject set o (Paired (content (M o.coll) old.tree o.oid) (F (content (M o.coll) old.tree o.oid))))) (At set h (count_to h lo) hi) old new
            (crash M (maps_are set old.tree is.reads.past.whole)) (λ f from.
            edit_law.keeps set h hi (count_to h (seq - 1) + i) op o row F old.tree image_next one (count_to h lo) lower M (maps_are set old.tree is.reads.past.whole)
            from.0 f (is.images from.0 from.1).past (colls from.0 from.1) from.2))
            own

        pub edit_stops : Keeps (Image set h n lo hi) entry new
        edit_stops = joined (Image set h n lo hi) entry old new is.keeps edit_keeps

        pub edits_on : ForObject set o (λ x y. y ≡ F x) old.tree new.tree → Now (i + 1) entry new
        edits_on goes = done_on edit_keeps (edit_law.goes set h (last_of how h seq) (count_to h (seq - 1) + i) op o row F old.tree own_next one new.tree goes)

      -- a collection is made
      module _ (c : Coll) (fits : CollFits c) (makes : op ≡ MkColl c) (moves : Moves (Makes set c) old new) (own : Keeps (OwnIs n) old new) where
        make_keeps : Keeps (Image set h n lo hi) old new
        make_keeps = image_keeps set h n lo hi old new is.images base fit
            (weaker (From old (Makes set c)) (At set h (count_to h lo) hi) old new moves (λ f from.
            coll_law.makes set h hi (count_to h (seq - 1) + i) c fits (place_in hi turn.high ∙ ap Some makes) (count_to h lo) lower from.0 f (is.images from.0 from.1).past from.2))
            own

        pub make_stops : Keeps (Image set h n lo hi) entry new
        make_stops = joined (Image set h n lo hi) entry old new is.keeps make_keeps

        pub makes_on : Makes set c old.tree new.tree → dir_guard new.tree c ≢ None → Now (i + 1) entry new
        makes_on goes there = done_on make_keeps (coll_law.is_made set h (last_of how h seq) (count_to h (seq - 1) + i) c old.tree new.tree fits
            (subst (λ (p : Op). ComesNext set h (last_of how h seq) (count_to h (seq - 1) + i) p old.tree) makes own_next) goes there)

      -- a collection is taken away
      module _ (c : Coll) (takes : op ≡ RmColl c) (moves : Moves (Drops set c) old new) (own : Keeps (OwnIs n) old new) where
        drop_keeps : Keeps (Image set h n lo hi) old new
        drop_keeps = image_keeps set h n lo hi old new is.images base fit
            (weaker (From old (Drops set c)) (At set h (count_to h lo) hi) old new moves (λ f from.
            coll_law.drops set h hi (count_to h (seq - 1) + i) c (place_in hi turn.high ∙ ap Some takes) (count_to h lo) lower from.0 f (is.images from.0 from.1).past from.2))
            own

        pub drop_stops : Keeps (Image set h n lo hi) entry new
        drop_stops = joined (Image set h n lo hi) entry old new is.keeps drop_keeps

        pub drops_on : Drops set c old.tree new.tree → dir_guard new.tree c ≡ None → Now (i + 1) entry new
        drops_on goes none = done_on drop_keeps (coll_law.is_dropped set h (last_of how h seq) (count_to h (seq - 1) + i) c old.tree new.tree
            (subst (λ (p : Op). ComesNext set h (last_of how h seq) (count_to h (seq - 1) + i) p old.tree) takes own_next) goes none)
