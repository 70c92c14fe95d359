-- What a tree shows once all operations of a line are done.
use Rattle.std.proofs.Common.{◌≡◌, ◌≢◌, ⊎_elim, ℕ, true, List, length, sym, ◌∙◌, ap, subst, arith, Option, None}
use Rattle.std.proofs.Math.Seq.{take-length}
use Rattle.std.proofs.lemmas.List.{length-map}
use Rattle.std.specs.FinMap as fin
use Rattle.fs_names.specs.declared.coll.Coll.{Coll}
use Rattle.fs_names.specs.declared.oid.Oid.{Oid}
use Rattle.fs_names.specs.declared.settings.Settings.{Settings}
use Rattle.fs_names.specs.Reading.{OidFits, CollFits}
use Rattle.fs_model.specs.declared.op.Op.{Op}
use Rattle.fs_model.specs.Objects.{Objects, look}
use Rattle.fs_model.specs.Rows.{fold_ops}
use Rattle.tree_api.specs.Tree.{Version, Tree}
use Rattle.lfn_index.specs.Maps.{Map, IsMap, content}
use Rattle.replay_laws.specs.Keeps.{Copied}
use Rattle.replay_laws.specs.Settled.{Stands}
use Rattle.replay_laws.proofs.Settled.{stands_ends}
use Rattle.fs_cells.specs.declared.cell.Cell.{Cell}
use Rattle.fs_cells.specs.declared.cell.Part.{Part}
use Rattle.fs_cells.specs.Actions.{act_of}
use Rattle.fs_cells.specs.Values.{value_at, cells_of}
use Rattle.fs_cells.proofs.Rows.{fold_law}
use Rattle.tree_stands.specs.Names.{Name, name_fits, cell_at}
use Rattle.tree_stands.specs.Shown.{value_in, cells_in, guards_in}
use Rattle.tree_stands.specs.Trees.{dir_of, Maps, AreMaps, shown, name_at}
use Rattle.tree_stands.proofs.Names.{fit_cases, name_is_fit}
use Rattle.tree_stands.proofs.Trees.{maps, maps_are, one_content, shows, shows_none}
use Rattle.op_effects.specs.Collections.{CollStays}
use Rattle.op_places.specs.Line.{line_of, after_ops, counts_of, IsPlain}
use Rattle.op_places.specs.Places.{is_there, PastOps}
use Rattle.op_places.proofs.Shown.{there_same, whole_stays}
use Rattle.tree_shows.specs.Shows.{Matches, Shows}
use Rattle.tree_shows.proofs.Files.{matches, no_object}

module _ (set : Settings) (O : Objects) (ops : List Op) (t : Tree) (plain : IsPlain O ops) (past : PastOps set O ops (length ops) t) where
  abbrev M : Maps
  M = maps set t past.whole

  abbrev of_t : AreMaps set t M
  of_t = maps_are set t past.whole

  cell : (x : Cell) → cells_in (shown M t) x ≡ cells_of (fold_ops O ops) x
  cell x =
      stands_ends (line_of O ops) (Copied (line_of O ops) (λ y. 0)) (guards_in (counts_of ops) (shown M t) x) x (cells_in (shown M t) x)
      (subst (λ (k : ℕ). Stands (line_of O ops) (Copied (line_of O ops) (λ y. 0)) (guards_in (counts_of ops) (shown M t) x) k x (cells_in (shown M t) x)) (sym (length-map ops act_of)) ((past.cells M of_t).stands x))
      ∙ sym (fold_law O ops plain.allowed x)

  parts : (n : Name) (part : Part) → value_in ((shown M t).object n) part ≡ value_at (look (fold_ops O ops) n.coll n.oid) part
  parts n part = cell (cell_at n part)

  colls : (c : Coll) → is_there t c ≡ fin.contains_key (fold_ops O ops) c
  colls c =
      let at = past.colls c in
      let last : at.when ≡ length ops = omega (arith, at.from, at.to) in
      at.is ∙ ap (λ (k : ℕ). fin.contains_key (after_ops O ops k) c) last ∙ ap (λ (first : List Op). fin.contains_key (fold_ops O first) c) (take-length ops)

  files : (c : Coll) (m : Map) → CollFits c → IsMap set t (dir_of c) m → (o : Oid) → OidFits o → Matches (content m t o) (look (fold_ops O ops) c o)
  files c m fits of_m o of_o =
      let n : Name = name_at c o in
      let is : name_fits n ≡ true = name_is_fit n (record { coll = fits; oid = of_o }) in
      subst (λ (v : Option Version). Matches v (look (fold_ops O ops) c o))
      (one_content set t (dir_of c) (M c) m (of_t c fits) of_m o of_o)
      (matches (content (M c) t o) (look (fold_ops O ops) c o) (λ part. ap (λ (v : Option Version). value_in v part) (sym (shows M t n is)) ∙ parts n part))

  named : (c : Coll) (o : Oid) → look (fold_ops O ops) c o ≢ None → OidFits o
  named c o some = ⊎_elim
      (λ (is, fits). fits.oid)
      (λ not. absurd (some (no_object ((shown M t).object (name_at c o)) (look (fold_ops O ops) c o) (shows_none M t (name_at c o) not) (parts (name_at c o)))))
      (fit_cases (name_at c o))

  pub done : Shows set (fold_ops O ops) t
  done = record { whole = past.whole; colls = colls; files = files; named = named }

module _ (set : Settings) (O : Objects) (e f : Tree) (stays : (c : Coll) → CollFits c → CollStays set c e f) (shows_e : Shows set O e) where
  same_files : (c : Coll) (m : Map) → CollFits c → IsMap set f (dir_of c) m → (o : Oid) → OidFits o → Matches (content m f o) (look O c o)
  same_files c m fits of_m o of_o =
      let was = shows_e.whole c fits in
      let next = (stays c fits).objects was.0 was.1 in
      let same : content m f o ≡ content was.0 e o = one_content set f (dir_of c) m next.0 of_m next.1 o of_o ∙ next.2 o of_o in
      subst (λ (v : Option Version). Matches v (look O c o)) (sym same) (shows_e.files c was.0 fits was.1 o of_o)

  pub as_before : Shows set O f
  as_before = record {
    whole = λ c fits. whole_stays set c e f (stays c fits) (shows_e.whole c fits);
    colls = λ c. there_same e f c (λ fits. (stays c fits).dir) ∙ shows_e.colls c;
    files = same_files;
    named = shows_e.named;
  }
