-- A store that was just made, and then mounted.
use Rattle.std.proofs.Common.{◌≡◌, inl, ℕ, ◌+◌, ◌-◌, List, [], ◌∷◌, drop, length, refl, sym, ◌∙◌, ap, subst, arith}
use Rattle.std.specs.Prelude.{Result, Ok, Err, IfErr, IfOk, Some}
use Rattle.std.specs.FinMap as fin
use Rattle.tree_api.specs.Tree.{Tree}
use Rattle.tree_api.specs.Disk.{Everywhere, Sound}
use Rattle.dev_api.specs.Disk.{Disk, IsImage}
use Rattle.ring_frame.specs.Frame.{Entry, size_of}
use Rattle.ring_images.specs.Readable.{Ring, NoChance}
use Rattle.ring_images.specs.Held.{IsSound, ReadsSound, readable, ring_of}
use Rattle.ring_images.specs.Turned.{turned}
use Rattle.ring_journal.specs.State.{IsSettled, IsUnspent, IsUnspentImage, first_head}
use Rattle.store_history.specs.Pair.{StandsAt}
use Rattle.store_files.specs.Steps.{IsBare}
use Rattle.store_files.specs.declared.reading.Identity.{Identity}
use Rattle.store_making.specs.Making.{IsMade, MakesEmpty, Unmade}
use Rattle.store_mount.proofs.Carried.{settled_sound}
use Rattle.tree_places.specs.Images.{StoreImage}
use Rattle.fs_session.specs.Answers.{Session, new_session}
use Rattle.script_store.specs.declared.store.ScriptStore.{ScriptStore}
use Rattle.filestore_cli.specs.declared.command.Command.TheVariants.{RunNew, Run}
use Rattle.filestore_cli.specs.declared.stop.Stop.{Stop}
use Rattle.filestore_cli.specs.declared.stop.Stop.TheVariants.{Usage, Tree as TreeStop, Device, Source, Sink, Memory, Refused}
use Rattle.filestore_cli.specs.Seen.{SeenSides, Sides, turns}
use Rattle.filestore_cli.specs.Opened.{Opens}
use Rattle.filestore_cli.specs.Run.{ReadsAs, Starts, Begun, CanStart, KeepsStore, Unstarted, IsStartStop, new_identity}
use Rattle.filestore_cli.proofs.Starts.{stands_first}

no_chance : (ring : Ring) (offset : ℕ) (xs ys : List ℕ) (es : List Entry) → NoChance ring offset xs ys xs es
no_chance ring offset xs ys [] = λ e is. inl is
no_chance ring offset xs ys (x ∷ es) = (λ e is. inl is, no_chance ring (offset + size_of x) (drop (size_of x) xs) (drop (size_of x) ys) es)

sound_stable : (d : Disk) → IsSound d d.stable
sound_stable d = record {
  first = λ h is. inl is;
  second = λ h is. inl is;
  entries = λ h is. no_chance (ring_of h (length d.stable)) 0 (turned h.start d.stable) (turned h.start d.asked) (readable d.stable);
}

image_reads : (d : Disk) → IsSettled d → IsImage d d.reads
image_reads d is = subst (λ (x : Disk). IsImage x x.reads) (sym is) (record { size = refl; same = λ i lt out. refl })

-- each pair of a tree with all its files and a made ring
made_pair : (id : Identity) (size : ℕ) (t : Tree) (d : Disk) → MakesEmpty id.fsid id.settings t d → IsMade id.fsid size d
    → (c : List ℕ) → IsImage d c → IsSound d c → StandsAt (StoreImage id) id.fsid t c fin.empty 0 0
made_pair id size t d closed ring c img sound = stands_first (StoreImage id) id.fsid size t c fin.empty (ring c img sound).header (closed c img sound)

-- what is left of a store that wasn't made to its end
pub unmade_keeps : (id : Identity) (size : ℕ) (w : SeenSides) → id ≡ new_identity
    → (Everywhere w.old.tree IsBare → Everywhere w.new.tree (λ t. Unmade id.fsid id.settings size t w.new.device.disk)) → KeepsStore RunNew w
unmade_keeps id size w e each = λ bare t may version c img sound unspent.
    let both = each bare t may version in
    subst (λ (i : Identity). StandsAt (StoreImage i) i.fsid t c fin.empty 0 0) e (made_pair id size t w.new.device.disk both.0 both.1 c img sound)

module _ (w : Sides) (id : Identity) (size : ℕ) (tree : Sound w.tree) (closed : Everywhere w.tree (λ t. MakesEmpty id.fsid id.settings t w.device.disk))
    (ring : IsMade id.fsid size w.device.disk) (is : IsSettled w.device.disk) (e : id ≡ new_identity) where
  pub made_sound : ReadsSound w.device.disk
  made_sound = settled_sound w.device.disk is (sound_stable w.device.disk)

  image : IsImage w.device.disk w.device.disk.reads
  image = image_reads w.device.disk is

  pub made_stands : (t : Tree) → w.tree.may t → (c : List ℕ) → IsImage w.device.disk c → IsSound w.device.disk c → StandsAt (StoreImage id) id.fsid t c fin.empty 0 0
  made_stands t may c img sound = made_pair id size t w.device.disk (closed t may) ring c img sound

  pub made_reads : ReadsAs id w fin.empty 0 0
  made_reads = made_stands w.tree.tree tree.now w.device.disk.reads image made_sound

  pub made_unspent : IsUnspentImage w.device.disk.reads
  made_unspent h is_head = subst IsUnspent (some_is (sym (ring w.device.disk.reads image made_sound).header ∙ is_head)) first
    where
      some_is : Some (first_head id.fsid size) ≡ Some h → first_head id.fsid size ≡ h
      some_is e = cc

      first : IsUnspent (first_head id.fsid size)
      first = record { generation = omega arith; epoch = omega arith }

  -- the session that a run begins with
  pub made_start : (room : ℕ) → w.device.size ≡ room → (i : Identity) (s : Session) → i ≡ new_identity → s ≡ new_session (room - 8192) → Starts Run w i s
  made_start room same i s same_id new = (
    fin.empty,
    0,
    0,
    subst (λ (j : Identity). ReadsAs j w fin.empty 0 0) (e ∙ sym same_id) made_reads,
    new ∙ ap (λ (k : ℕ). new_session (k - 8192)) (sym same),
  )

  pub made_can : CanStart Run w
  made_can = (id, new_session (w.device.size - 8192), made_start w.device.size refl id (new_session (w.device.size - 8192)) e refl, made_unspent)

  module _ (t u : Type 0) (old new : Sides) where
    pub remade_opens : (r : Result ScriptStore Stop) → w.device.size ≡ old.device.size → IfOk r (λ store. Begun Run (turns t w new) (Opens store new)) → IfOk r (λ store. Begun RunNew (turns u old new) (Opens store new))
    remade_opens (Ok store) same opens = λ i s starts. opens i s (made_start old.device.size same i s starts.0 starts.1)
    remade_opens (Err stop) same opens = tt

    -- each image stands for no collections
    keeps : KeepsStore Run (turns t w new) → KeepsStore RunNew (turns u old new)
    keeps kept = λ bare x may version c img sound unspent.
        let from = kept made_sound id made_reads.good.store x may c img sound unspent in
        subst (λ (i : Identity). StandsAt (StoreImage i) i.fsid x c fin.empty 0 0) e
        (from.same fin.empty 0 0 (made_stands from.tree from.may_be from.bytes from.is_image from.sound))

    unstarted : (stop : Stop) → IsStartStop stop → Unstarted Run (turns t w new) stop → Unstarted RunNew (turns u old new) stop
    unstarted TreeStop only h = keeps h
    unstarted Device only h = keeps h
    unstarted Memory only h = keeps h
    unstarted Usage only h = absurd only
    unstarted Source only h = absurd only
    unstarted Sink only h = absurd only
    unstarted (Refused refusal) only h = absurd only

    pub remade : (r : Result ScriptStore Stop) → IfErr r IsStartStop → IfErr r (Unstarted Run (turns t w new)) → IfErr r (Unstarted RunNew (turns u old new))
    remade (Ok store) only h = tt
    remade (Err stop) only h = unstarted stop only h
