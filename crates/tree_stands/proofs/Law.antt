-- An Apply turn on one object, from the files to what the store keeps.
use Rattle.std.proofs.Common.{◌≡◌, ℕ, ◌-◌, ◌≤◌, true, sym, ◌∙◌, subst, refl, arith, Option, None}
use Rattle.fs_names.specs.declared.settings.Settings.{Settings}
use Rattle.tree_api.specs.Tree.{Version, Tree}
use Rattle.lfn_index.specs.Maps.{content}
use Rattle.turn_core.specs.Groups.{among}
use Rattle.turn_core.specs.declared.turn.Turn.TheVariants as turn
use Rattle.turn_core.specs.declared.slots.Slot.{Slot}
use Rattle.turn_core.specs.declared.state.Core.{Core}
use Rattle.turn_core.specs.Phases.{target}
use Rattle.turn_core.specs.Table.{after}
use Rattle.turn_core.specs.Chain.{Chain}
use Rattle.turn_core.proofs.Chains.{turns_law}
use Rattle.replay_laws.specs.Places.{AtEach}
use Rattle.replay_laws.proofs.Places.{places_law}
use Rattle.slot_laws.proofs.Flat.{count_grows}
use Rattle.turn_history.specs.History.{Opens}
use Rattle.turn_history.proofs.Opening.{history_law}
use Rattle.fs_cells.specs.declared.cell.Cell.{Cell}
use Rattle.fs_cells.specs.declared.cell.Part.{Part}
use Rattle.fs_cells.specs.Parts.{CellAct}
use Rattle.fs_cells.specs.Values.{Value, raise, cells_of}
use Rattle.fs_cells.specs.Laws.{is_named}
use Rattle.fs_cells.specs.Standing.{group_at, history_of}
use Rattle.fs_cells.proofs.Replaying.{raise_laws}
use Rattle.tree_stands.specs.Names.{Name, name_of, cell_at}
use Rattle.tree_stands.specs.Shown.{Counts, Shown, Paired, cells_in, guards_in, with_file}
use Rattle.tree_stands.specs.Trees.{Maps, AreMaps, AllWhole, shown, TreeAt, ForObject}
use Rattle.tree_stands.specs.Standing.{History, line_of, place_of, count_to, slot_place, Image}
use Rattle.tree_stands.specs.Edits.{Edits}
use Rattle.tree_stands.specs.Laws.{AppliesTo, Before, ApplyLaw, EditLaw}
use Rattle.tree_stands.proofs.Names.{name_is_fit}
use Rattle.tree_stands.proofs.Next.{all_within, next_act, next_named}
use Rattle.tree_stands.proofs.Steps.{image_step, does}
use Rattle.tree_stands.proofs.Trees.{maps, maps_are, shows, shows_dir, comes, reads_next}

pub whole_on : (set : Settings) (n : Name) (K : Option Version → Option Version → Type 0) (e f : Tree) → ForObject set n K e f → AllWhole set e → AllWhole set f
whole_on set n K e f goes whole c fits = let w = whole c fits in let next = (goes c fits).objects w.0 w.1 in (next.0, next.1)

-- what reads is an image with any number that the running commit may take
back_to : (h : History) (core : Core) (number : ℕ) → number ≤ target core.committed core.phase → Chain core → Opens group_at h.base (history_of h.txns) core
    → (cells : Cell → Value) (guards passed : Cell → ℕ) → AtEach (line_of h core.started) (place_of h core) cells guards passed → AtEach (line_of h core.started) (λ x. count_to h number) cells guards passed
back_to h core number le chain opens cells guards passed reads =
    places_law.back (line_of h core.started) (λ x. count_to h (target core.committed core.phase)) (λ x. count_to h number) cells guards passed
    (history_law.synced raise (cells_of h.objects) group_at h.base (history_of h.txns) core chain opens cells guards passed reads)
    (λ x. count_grows (history_of h.txns) (number - h.base) (target core.committed core.phase - h.base) (omega (arith, le)))

module _ (set : Settings) (g : Counts) (h : History) (core : Core) (number : ℕ) (passed : Cell → ℕ) (i : ℕ) (slot : Slot) (n : Name) (row : Part → CellAct) (F : Option Version → Option Version) (t : Tree)
    (to : AppliesTo h core i slot n row) (edits : (a : Option Version) → Edits row a (F a)) (before : Before set g h core number passed slot n t) where
  abbrev then_core : Core
  then_core = after core (turn.Apply i) None

  then_chain : Chain (after core (turn.Apply i) None)
  then_chain = turns_law.keeps core (turn.Apply i) None to.chain to.ready

  then_opens : Opens group_at h.base (history_of h.txns) (after core (turn.Apply i) None)
  then_opens = history_law.keeps group_at h.base (history_of h.txns) core (turn.Apply i) None to.chain to.opens to.ready tt

  own : (x : Cell) → name_of x ≡ n → among slot.groups (group_at x) ≡ true
  own x at = next_named h core i slot to.op to.chain to.opens to.holding to.next x (subst (λ (o : Name). is_named to.op (cell_at o x.part) ≡ true) (sym at) (to.is_on.named x.part))

  module _ (M : Maps) (of_t : AreMaps set t M) where
    abbrev b : Option Version
    b = F ((shown M t).object n)

    next : AtEach (line_of h core.started) (place_of h (after core (turn.Apply i) None)) (cells_in (with_file n (F ((shown M t).object n)) (shown M t))) (guards_in g (with_file n (F ((shown M t).object n)) (shown M t))) passed
    next = history_law.apply raise raise_laws (cells_of h.objects) group_at h.base (history_of h.txns) (all_within h.txns) core i slot to.chain to.opens to.ready to.holding
        (cells_in (shown M t)) (cells_in (with_file n (F ((shown M t).object n)) (shown M t))) (guards_in g (shown M t)) (guards_in g (with_file n (F ((shown M t).object n)) (shown M t))) passed passed
        (does g (line_of h core.started) (slot_place h slot) (λ x. among slot.groups (group_at x)) passed (shown M t) n (F ((shown M t).object n)) row refl
        (λ x. next_act h core i slot to.op to.chain to.opens to.holding to.next x ∙ to.is_on.acts x) (edits ((shown M t).object n)) own (before.applies M of_t))
        (before.reads M of_t)

    here : (shown M t).object n ≡ content (M n.coll) t n.oid
    here = shows M t n (name_is_fit n to.fits)

    pub image : (e f : Tree) → Image set g h core.started number passed t e → ForObject set n (Paired (content (M n.coll) t n.oid) (F (content (M n.coll) t n.oid))) e f → Image set g h core.started number passed t f
    image e f is goes = record {
      at = λ W of_f.
          let E = maps set e is.whole in
          let of_e : AreMaps set e E = maps_are set e is.whole in
          let level : (shown E e).dir n.coll ≡ (shown M t).dir n.coll = shows_dir E e n.coll to.fits.coll ∙ is.dirs n.coll to.fits.coll before.there ∙ sym (shows_dir M t n.coll to.fits.coll) in
          let goes_on : ForObject set n (Paired ((shown M t).object n) (F ((shown M t).object n))) e f = subst (λ (a : Option Version). ForObject set n (Paired a (F a)) e f) (sym here) goes in
          image_step g (line_of h core.started) (count_to h number) passed (shown M t) n (F ((shown M t).object n))
          (back_to h core number before.taken to.chain to.opens _ _ passed (before.reads M of_t))
          (back_to h (after core (turn.Apply i) None) number before.taken then_chain then_opens _ _ passed next)
          (shown W f)
          (λ p. (shown E e, is.at E of_e, comes set n (shown M t) (F ((shown M t).object n)) e f goes_on E W of_e of_f to.fits level p));
      whole = whole_on set n _ e f goes is.whole;
      dirs = λ coll fits there. (goes coll fits).dir ∙ is.dirs coll fits there;
    }

    pub reads : (u : Tree) → ForObject set n (λ x y. y ≡ F x) t u → TreeAt set g (line_of h core.started) (place_of h (after core (turn.Apply i) None)) passed u
    reads u goes W of_u =
        subst (λ (s : Shown). AtEach (line_of h core.started) (place_of h (after core (turn.Apply i) None)) (cells_in s) (guards_in g s) passed) (sym (reads_next set n F t u goes M W of_t of_u to.fits)) next

  pub apply_law : ApplyLaw set g h core number passed i n F t
  apply_law = record {
    keeps = λ M of_t e f is goes. image M of_t e f is goes;
    goes = λ u goes. reads (maps set t before.itself.whole) (maps_are set t before.itself.whole) u goes;
    beside = λ u e goes is. record {
      at = is.at;
      whole = is.whole;
      dirs = λ coll fits there. is.dirs coll fits (λ none. there ((goes coll fits).dir ∙ none)) ∙ sym (goes coll fits).dir;
    };
  }

pub edit_law : EditLaw
edit_law set g h core number passed i slot n row F t to edits before = apply_law set g h core number passed i slot n row F t to edits before
