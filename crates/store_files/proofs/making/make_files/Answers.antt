use Rattle.std.proofs.Common.{◌∙◌, ◌∷◌, [], refl, rules}
use Rattle.tree_api.specs.Tree.{file_of}
use Rattle.commit_point.specs.Number.{number_path, spelled}
use Rattle.store_files.specs.Stores.{version_path, fsid_path, settings_path}
use Rattle.store_files.specs.Texts.{version_text, fsid_text, settings_text}
use Rattle.store_files.specs.Steps.{dir_items, key_path, rest_paths}
use Rattle.store_files.proofs.Built.{so_far, next}
use Rattle.store_files.proofs.Files.{store_leaves, store_leaves_dirs, store_leaves_all, no_version, dirs_built, number_parent, key_parent, in_number, in_key, in_fsid, in_settings, version_keeps, version_stands, beside_as, stands_as}
use Rattle.store_files.proofs.making.make_files.Goals as goal

pub add_file-requires-clause-parent : goal.add_file-requires-clause-parent
add_file-requires-clause-parent g c = λ t.
    let disk = g.T.FileTree.disk in
    let sound = g.met.T.FileTree.sound in
    number_parent (disk c.make_dirs.new.tree) (sound c.make_dirs.new.tree (search rules)) (c.in_ok-make_dirs.ensures.stand (search rules)) c.in_ok-number.number c.in_ok-number.ensures

pub add_file-requires-2-clause-parent : goal.add_file-requires-2-clause-parent
add_file-requires-2-clause-parent g c = λ t.
    let disk = g.T.FileTree.disk in
    let sound = g.met.T.FileTree.sound in
    let b1 = dirs_built (disk c.args.tree.now) (disk c.make_dirs.new.tree) (c.make_dirs.ensures.leaves (search rules)) (c.in_ok-make_dirs.ensures.stand (search rules)) in
    let be1 = beside_as c.in_ok-number.number number_path (disk c.make_dirs.new.tree) (disk c.add_file.new.tree) c.in_ok-number.ensures (c.add_file.ensures.beside (search rules)) in
    let st1 = stands_as c.in_ok-number.number number_path c.deref.result.now (spelled 0) (disk c.add_file.new.tree) c.in_ok-number.ensures (c.deref.ensures.value ∙ c.in_ok-zero.ensures) (c.in_ok-add_file.ensures.stands (search rules)) in
    let b2 = next rest_paths dir_items number_path (disk c.args.tree.now) (disk c.make_dirs.new.tree) (disk c.add_file.new.tree) (sound c.make_dirs.new.tree (search rules)) b1 in_number be1 (file_of (spelled 0)) (sound c.add_file.new.tree (search rules)) refl st1 in
    key_parent (disk c.add_file.new.tree) (sound c.add_file.new.tree (search rules)) b2.stand c.in_ok-key.key c.in_ok-key.ensures

pub returns-in_err-add_file-clause-each : goal.returns-in_err-add_file-clause-each
returns-in_err-add_file-clause-each g c = λ t bare.
    let disk = g.T.FileTree.disk in
    let sound = g.met.T.FileTree.sound in
    let b1 = dirs_built (disk c.args.tree.now) (disk c.make_dirs.new.tree) (c.make_dirs.ensures.leaves (search rules)) (c.in_ok-make_dirs.ensures.stand (search rules)) in
    let be1 = beside_as c.in_ok-number.number number_path (disk c.make_dirs.new.tree) (disk c.add_file.new.tree) c.in_ok-number.ensures (c.add_file.ensures.beside (search rules)) in
    no_version c.args.fsid.now c.args.set.now (disk c.args.tree.now) (disk c.add_file.new.tree) bare (so_far rest_paths dir_items number_path (disk c.args.tree.now) (disk c.make_dirs.new.tree) (disk c.add_file.new.tree) (sound c.make_dirs.new.tree (search rules)) b1 in_number be1)

pub returns-in_err-add_file-2-clause-each : goal.returns-in_err-add_file-2-clause-each
returns-in_err-add_file-2-clause-each g c = λ t bare.
    let disk = g.T.FileTree.disk in
    let sound = g.met.T.FileTree.sound in
    let b1 = dirs_built (disk c.args.tree.now) (disk c.make_dirs.new.tree) (c.make_dirs.ensures.leaves (search rules)) (c.in_ok-make_dirs.ensures.stand (search rules)) in
    let be1 = beside_as c.in_ok-number.number number_path (disk c.make_dirs.new.tree) (disk c.add_file.new.tree) c.in_ok-number.ensures (c.add_file.ensures.beside (search rules)) in
    let st1 = stands_as c.in_ok-number.number number_path c.deref.result.now (spelled 0) (disk c.add_file.new.tree) c.in_ok-number.ensures (c.deref.ensures.value ∙ c.in_ok-zero.ensures) (c.in_ok-add_file.ensures.stands (search rules)) in
    let b2 = next rest_paths dir_items number_path (disk c.args.tree.now) (disk c.make_dirs.new.tree) (disk c.add_file.new.tree) (sound c.make_dirs.new.tree (search rules)) b1 in_number be1 (file_of (spelled 0)) (sound c.add_file.new.tree (search rules)) refl st1 in
    let be2 = beside_as c.in_ok-key.key key_path (disk c.add_file.new.tree) (disk c.add_file-2.new.tree) c.in_ok-key.ensures (c.add_file-2.ensures.beside (search rules)) in
    no_version c.args.fsid.now c.args.set.now (disk c.args.tree.now) (disk c.add_file-2.new.tree) bare (so_far rest_paths ((number_path, file_of (spelled 0)) ∷ dir_items) key_path (disk c.args.tree.now) (disk c.add_file.new.tree) (disk c.add_file-2.new.tree) (sound c.add_file.new.tree (search rules)) b2 in_key be2)

pub returns-in_err-add_file-3-clause-each : goal.returns-in_err-add_file-3-clause-each
returns-in_err-add_file-3-clause-each g c = λ t bare.
    let disk = g.T.FileTree.disk in
    let sound = g.met.T.FileTree.sound in
    let b1 = dirs_built (disk c.args.tree.now) (disk c.make_dirs.new.tree) (c.make_dirs.ensures.leaves (search rules)) (c.in_ok-make_dirs.ensures.stand (search rules)) in
    let be1 = beside_as c.in_ok-number.number number_path (disk c.make_dirs.new.tree) (disk c.add_file.new.tree) c.in_ok-number.ensures (c.add_file.ensures.beside (search rules)) in
    let st1 = stands_as c.in_ok-number.number number_path c.deref.result.now (spelled 0) (disk c.add_file.new.tree) c.in_ok-number.ensures (c.deref.ensures.value ∙ c.in_ok-zero.ensures) (c.in_ok-add_file.ensures.stands (search rules)) in
    let b2 = next rest_paths dir_items number_path (disk c.args.tree.now) (disk c.make_dirs.new.tree) (disk c.add_file.new.tree) (sound c.make_dirs.new.tree (search rules)) b1 in_number be1 (file_of (spelled 0)) (sound c.add_file.new.tree (search rules)) refl st1 in
    let be2 = beside_as c.in_ok-key.key key_path (disk c.add_file.new.tree) (disk c.add_file-2.new.tree) c.in_ok-key.ensures (c.add_file-2.ensures.beside (search rules)) in
    let st2 = stands_as c.in_ok-key.key key_path [] [] (disk c.add_file-2.new.tree) c.in_ok-key.ensures refl (c.in_ok-add_file-2.ensures.stands (search rules)) in
    let b3 = next rest_paths ((number_path, file_of (spelled 0)) ∷ dir_items) key_path (disk c.args.tree.now) (disk c.add_file.new.tree) (disk c.add_file-2.new.tree) (sound c.add_file.new.tree (search rules)) b2 in_key be2 (file_of []) (sound c.add_file-2.new.tree (search rules)) refl st2 in
    let be3 = beside_as c.in_ok-fsid_file.fsid_file fsid_path (disk c.add_file-2.new.tree) (disk c.add_file-3.new.tree) c.in_ok-fsid_file.ensures (c.add_file-3.ensures.beside (search rules)) in
    no_version c.args.fsid.now c.args.set.now (disk c.args.tree.now) (disk c.add_file-3.new.tree) bare (so_far rest_paths ((key_path, file_of []) ∷ ((number_path, file_of (spelled 0)) ∷ dir_items)) fsid_path (disk c.args.tree.now) (disk c.add_file-2.new.tree) (disk c.add_file-3.new.tree) (sound c.add_file-2.new.tree (search rules)) b3 in_fsid be3)

pub returns-in_err-add_file-4-clause-each : goal.returns-in_err-add_file-4-clause-each
returns-in_err-add_file-4-clause-each g c = λ t bare.
    let disk = g.T.FileTree.disk in
    let sound = g.met.T.FileTree.sound in
    let b1 = dirs_built (disk c.args.tree.now) (disk c.make_dirs.new.tree) (c.make_dirs.ensures.leaves (search rules)) (c.in_ok-make_dirs.ensures.stand (search rules)) in
    let be1 = beside_as c.in_ok-number.number number_path (disk c.make_dirs.new.tree) (disk c.add_file.new.tree) c.in_ok-number.ensures (c.add_file.ensures.beside (search rules)) in
    let st1 = stands_as c.in_ok-number.number number_path c.deref.result.now (spelled 0) (disk c.add_file.new.tree) c.in_ok-number.ensures (c.deref.ensures.value ∙ c.in_ok-zero.ensures) (c.in_ok-add_file.ensures.stands (search rules)) in
    let b2 = next rest_paths dir_items number_path (disk c.args.tree.now) (disk c.make_dirs.new.tree) (disk c.add_file.new.tree) (sound c.make_dirs.new.tree (search rules)) b1 in_number be1 (file_of (spelled 0)) (sound c.add_file.new.tree (search rules)) refl st1 in
    let be2 = beside_as c.in_ok-key.key key_path (disk c.add_file.new.tree) (disk c.add_file-2.new.tree) c.in_ok-key.ensures (c.add_file-2.ensures.beside (search rules)) in
    let st2 = stands_as c.in_ok-key.key key_path [] [] (disk c.add_file-2.new.tree) c.in_ok-key.ensures refl (c.in_ok-add_file-2.ensures.stands (search rules)) in
    let b3 = next rest_paths ((number_path, file_of (spelled 0)) ∷ dir_items) key_path (disk c.args.tree.now) (disk c.add_file.new.tree) (disk c.add_file-2.new.tree) (sound c.add_file.new.tree (search rules)) b2 in_key be2 (file_of []) (sound c.add_file-2.new.tree (search rules)) refl st2 in
    let be3 = beside_as c.in_ok-fsid_file.fsid_file fsid_path (disk c.add_file-2.new.tree) (disk c.add_file-3.new.tree) c.in_ok-fsid_file.ensures (c.add_file-3.ensures.beside (search rules)) in
    let st3 = stands_as c.in_ok-fsid_file.fsid_file fsid_path c.deref-2.result.now (fsid_text c.args.fsid.now) (disk c.add_file-3.new.tree) c.in_ok-fsid_file.ensures (c.deref-2.ensures.value ∙ c.in_ok-fsid_bytes.ensures) (c.in_ok-add_file-3.ensures.stands (search rules)) in
    let b4 = next rest_paths ((key_path, file_of []) ∷ ((number_path, file_of (spelled 0)) ∷ dir_items)) fsid_path (disk c.args.tree.now) (disk c.add_file-2.new.tree) (disk c.add_file-3.new.tree) (sound c.add_file-2.new.tree (search rules)) b3 in_fsid be3 (file_of (fsid_text c.args.fsid.now)) (sound c.add_file-3.new.tree (search rules)) refl st3 in
    let be4 = beside_as c.in_ok-settings_file.settings_file settings_path (disk c.add_file-3.new.tree) (disk c.add_file-4.new.tree) c.in_ok-settings_file.ensures (c.add_file-4.ensures.beside (search rules)) in
    no_version c.args.fsid.now c.args.set.now (disk c.args.tree.now) (disk c.add_file-4.new.tree) bare (so_far rest_paths ((fsid_path, file_of (fsid_text c.args.fsid.now)) ∷ ((key_path, file_of []) ∷ ((number_path, file_of (spelled 0)) ∷ dir_items))) settings_path (disk c.args.tree.now) (disk c.add_file-3.new.tree) (disk c.add_file-4.new.tree) (sound c.add_file-3.new.tree (search rules)) b4 in_settings be4)

pub returns-in_err-add_file-5-clause-each : goal.returns-in_err-add_file-5-clause-each
returns-in_err-add_file-5-clause-each g c = λ t bare.
    let disk = g.T.FileTree.disk in
    let sound = g.met.T.FileTree.sound in
    let b1 = dirs_built (disk c.args.tree.now) (disk c.make_dirs.new.tree) (c.make_dirs.ensures.leaves (search rules)) (c.in_ok-make_dirs.ensures.stand (search rules)) in
    let be1 = beside_as c.in_ok-number.number number_path (disk c.make_dirs.new.tree) (disk c.add_file.new.tree) c.in_ok-number.ensures (c.add_file.ensures.beside (search rules)) in
    let st1 = stands_as c.in_ok-number.number number_path c.deref.result.now (spelled 0) (disk c.add_file.new.tree) c.in_ok-number.ensures (c.deref.ensures.value ∙ c.in_ok-zero.ensures) (c.in_ok-add_file.ensures.stands (search rules)) in
    let b2 = next rest_paths dir_items number_path (disk c.args.tree.now) (disk c.make_dirs.new.tree) (disk c.add_file.new.tree) (sound c.make_dirs.new.tree (search rules)) b1 in_number be1 (file_of (spelled 0)) (sound c.add_file.new.tree (search rules)) refl st1 in
    let be2 = beside_as c.in_ok-key.key key_path (disk c.add_file.new.tree) (disk c.add_file-2.new.tree) c.in_ok-key.ensures (c.add_file-2.ensures.beside (search rules)) in
    let st2 = stands_as c.in_ok-key.key key_path [] [] (disk c.add_file-2.new.tree) c.in_ok-key.ensures refl (c.in_ok-add_file-2.ensures.stands (search rules)) in
    let b3 = next rest_paths ((number_path, file_of (spelled 0)) ∷ dir_items) key_path (disk c.args.tree.now) (disk c.add_file.new.tree) (disk c.add_file-2.new.tree) (sound c.add_file.new.tree (search rules)) b2 in_key be2 (file_of []) (sound c.add_file-2.new.tree (search rules)) refl st2 in
    let be3 = beside_as c.in_ok-fsid_file.fsid_file fsid_path (disk c.add_file-2.new.tree) (disk c.add_file-3.new.tree) c.in_ok-fsid_file.ensures (c.add_file-3.ensures.beside (search rules)) in
    let st3 = stands_as c.in_ok-fsid_file.fsid_file fsid_path c.deref-2.result.now (fsid_text c.args.fsid.now) (disk c.add_file-3.new.tree) c.in_ok-fsid_file.ensures (c.deref-2.ensures.value ∙ c.in_ok-fsid_bytes.ensures) (c.in_ok-add_file-3.ensures.stands (search rules)) in
    let b4 = next rest_paths ((key_path, file_of []) ∷ ((number_path, file_of (spelled 0)) ∷ dir_items)) fsid_path (disk c.args.tree.now) (disk c.add_file-2.new.tree) (disk c.add_file-3.new.tree) (sound c.add_file-2.new.tree (search rules)) b3 in_fsid be3 (file_of (fsid_text c.args.fsid.now)) (sound c.add_file-3.new.tree (search rules)) refl st3 in
    let be4 = beside_as c.in_ok-settings_file.settings_file settings_path (disk c.add_file-3.new.tree) (disk c.add_file-4.new.tree) c.in_ok-settings_file.ensures (c.add_file-4.ensures.beside (search rules)) in
    let st4 = stands_as c.in_ok-settings_file.settings_file settings_path c.deref-3.result.now (settings_text c.args.set.now) (disk c.add_file-4.new.tree) c.in_ok-settings_file.ensures (c.deref-3.ensures.value ∙ c.in_ok-settings_bytes.ensures) (c.in_ok-add_file-4.ensures.stands (search rules)) in
    let b5 = next rest_paths ((fsid_path, file_of (fsid_text c.args.fsid.now)) ∷ ((key_path, file_of []) ∷ ((number_path, file_of (spelled 0)) ∷ dir_items))) settings_path (disk c.args.tree.now) (disk c.add_file-3.new.tree) (disk c.add_file-4.new.tree) (sound c.add_file-3.new.tree (search rules)) b4 in_settings be4 (file_of (settings_text c.args.set.now)) (sound c.add_file-4.new.tree (search rules)) refl st4 in
    let be5 = beside_as c.in_ok-version_file.version_file version_path (disk c.add_file-4.new.tree) (disk c.add_file-5.new.tree) c.in_ok-version_file.ensures (c.add_file-5.ensures.beside (search rules)) in
    version_keeps c.args.fsid.now c.args.set.now (disk c.args.tree.now) (disk c.add_file-4.new.tree) (disk c.add_file-5.new.tree) bare b5 be5

pub returns-clause-each : goal.returns-clause-each
returns-clause-each g c = λ t bare.
    let disk = g.T.FileTree.disk in
    let sound = g.met.T.FileTree.sound in
    let b1 = dirs_built (disk c.args.tree.now) (disk c.make_dirs.new.tree) (c.make_dirs.ensures.leaves (search rules)) (c.in_ok-make_dirs.ensures.stand (search rules)) in
    let be1 = beside_as c.in_ok-number.number number_path (disk c.make_dirs.new.tree) (disk c.add_file.new.tree) c.in_ok-number.ensures (c.add_file.ensures.beside (search rules)) in
    let st1 = stands_as c.in_ok-number.number number_path c.deref.result.now (spelled 0) (disk c.add_file.new.tree) c.in_ok-number.ensures (c.deref.ensures.value ∙ c.in_ok-zero.ensures) (c.in_ok-add_file.ensures.stands (search rules)) in
    let b2 = next rest_paths dir_items number_path (disk c.args.tree.now) (disk c.make_dirs.new.tree) (disk c.add_file.new.tree) (sound c.make_dirs.new.tree (search rules)) b1 in_number be1 (file_of (spelled 0)) (sound c.add_file.new.tree (search rules)) refl st1 in
    let be2 = beside_as c.in_ok-key.key key_path (disk c.add_file.new.tree) (disk c.add_file-2.new.tree) c.in_ok-key.ensures (c.add_file-2.ensures.beside (search rules)) in
    let st2 = stands_as c.in_ok-key.key key_path [] [] (disk c.add_file-2.new.tree) c.in_ok-key.ensures refl (c.in_ok-add_file-2.ensures.stands (search rules)) in
    let b3 = next rest_paths ((number_path, file_of (spelled 0)) ∷ dir_items) key_path (disk c.args.tree.now) (disk c.add_file.new.tree) (disk c.add_file-2.new.tree) (sound c.add_file.new.tree (search rules)) b2 in_key be2 (file_of []) (sound c.add_file-2.new.tree (search rules)) refl st2 in
    let be3 = beside_as c.in_ok-fsid_file.fsid_file fsid_path (disk c.add_file-2.new.tree) (disk c.add_file-3.new.tree) c.in_ok-fsid_file.ensures (c.add_file-3.ensures.beside (search rules)) in
    let st3 = stands_as c.in_ok-fsid_file.fsid_file fsid_path c.deref-2.result.now (fsid_text c.args.fsid.now) (disk c.add_file-3.new.tree) c.in_ok-fsid_file.ensures (c.deref-2.ensures.value ∙ c.in_ok-fsid_bytes.ensures) (c.in_ok-add_file-3.ensures.stands (search rules)) in
    let b4 = next rest_paths ((key_path, file_of []) ∷ ((number_path, file_of (spelled 0)) ∷ dir_items)) fsid_path (disk c.args.tree.now) (disk c.add_file-2.new.tree) (disk c.add_file-3.new.tree) (sound c.add_file-2.new.tree (search rules)) b3 in_fsid be3 (file_of (fsid_text c.args.fsid.now)) (sound c.add_file-3.new.tree (search rules)) refl st3 in
    let be4 = beside_as c.in_ok-settings_file.settings_file settings_path (disk c.add_file-3.new.tree) (disk c.add_file-4.new.tree) c.in_ok-settings_file.ensures (c.add_file-4.ensures.beside (search rules)) in
    let st4 = stands_as c.in_ok-settings_file.settings_file settings_path c.deref-3.result.now (settings_text c.args.set.now) (disk c.add_file-4.new.tree) c.in_ok-settings_file.ensures (c.deref-3.ensures.value ∙ c.in_ok-settings_bytes.ensures) (c.in_ok-add_file-4.ensures.stands (search rules)) in
    let b5 = next rest_paths ((fsid_path, file_of (fsid_text c.args.fsid.now)) ∷ ((key_path, file_of []) ∷ ((number_path, file_of (spelled 0)) ∷ dir_items))) settings_path (disk c.args.tree.now) (disk c.add_file-3.new.tree) (disk c.add_file-4.new.tree) (sound c.add_file-3.new.tree (search rules)) b4 in_settings be4 (file_of (settings_text c.args.set.now)) (sound c.add_file-4.new.tree (search rules)) refl st4 in
    let be5 = beside_as c.in_ok-version_file.version_file version_path (disk c.add_file-4.new.tree) (disk c.add_file-5.new.tree) c.in_ok-version_file.ensures (c.add_file-5.ensures.beside (search rules)) in
    version_keeps c.args.fsid.now c.args.set.now (disk c.args.tree.now) (disk c.add_file-4.new.tree) (disk c.add_file-5.new.tree) bare b5 be5

pub returns-clause-stand : goal.returns-clause-stand
returns-clause-stand g c = λ t.
    let disk = g.T.FileTree.disk in
    let sound = g.met.T.FileTree.sound in
    let b1 = dirs_built (disk c.args.tree.now) (disk c.make_dirs.new.tree) (c.make_dirs.ensures.leaves (search rules)) (c.in_ok-make_dirs.ensures.stand (search rules)) in
    let be1 = beside_as c.in_ok-number.number number_path (disk c.make_dirs.new.tree) (disk c.add_file.new.tree) c.in_ok-number.ensures (c.add_file.ensures.beside (search rules)) in
    let st1 = stands_as c.in_ok-number.number number_path c.deref.result.now (spelled 0) (disk c.add_file.new.tree) c.in_ok-number.ensures (c.deref.ensures.value ∙ c.in_ok-zero.ensures) (c.in_ok-add_file.ensures.stands (search rules)) in
    let b2 = next rest_paths dir_items number_path (disk c.args.tree.now) (disk c.make_dirs.new.tree) (disk c.add_file.new.tree) (sound c.make_dirs.new.tree (search rules)) b1 in_number be1 (file_of (spelled 0)) (sound c.add_file.new.tree (search rules)) refl st1 in
    let be2 = beside_as c.in_ok-key.key key_path (disk c.add_file.new.tree) (disk c.add_file-2.new.tree) c.in_ok-key.ensures (c.add_file-2.ensures.beside (search rules)) in
    let st2 = stands_as c.in_ok-key.key key_path [] [] (disk c.add_file-2.new.tree) c.in_ok-key.ensures refl (c.in_ok-add_file-2.ensures.stands (search rules)) in
    let b3 = next rest_paths ((number_path, file_of (spelled 0)) ∷ dir_items) key_path (disk c.args.tree.now) (disk c.add_file.new.tree) (disk c.add_file-2.new.tree) (sound c.add_file.new.tree (search rules)) b2 in_key be2 (file_of []) (sound c.add_file-2.new.tree (search rules)) refl st2 in
    let be3 = beside_as c.in_ok-fsid_file.fsid_file fsid_path (disk c.add_file-2.new.tree) (disk c.add_file-3.new.tree) c.in_ok-fsid_file.ensures (c.add_file-3.ensures.beside (search rules)) in
    let st3 = stands_as c.in_ok-fsid_file.fsid_file fsid_path c.deref-2.result.now (fsid_text c.args.fsid.now) (disk c.add_file-3.new.tree) c.in_ok-fsid_file.ensures (c.deref-2.ensures.value ∙ c.in_ok-fsid_bytes.ensures) (c.in_ok-add_file-3.ensures.stands (search rules)) in
    let b4 = next rest_paths ((key_path, file_of []) ∷ ((number_path, file_of (spelled 0)) ∷ dir_items)) fsid_path (disk c.args.tree.now) (disk c.add_file-2.new.tree) (disk c.add_file-3.new.tree) (sound c.add_file-2.new.tree (search rules)) b3 in_fsid be3 (file_of (fsid_text c.args.fsid.now)) (sound c.add_file-3.new.tree (search rules)) refl st3 in
    let be4 = beside_as c.in_ok-settings_file.settings_file settings_path (disk c.add_file-3.new.tree) (disk c.add_file-4.new.tree) c.in_ok-settings_file.ensures (c.add_file-4.ensures.beside (search rules)) in
    let st4 = stands_as c.in_ok-settings_file.settings_file settings_path c.deref-3.result.now (settings_text c.args.set.now) (disk c.add_file-4.new.tree) c.in_ok-settings_file.ensures (c.deref-3.ensures.value ∙ c.in_ok-settings_bytes.ensures) (c.in_ok-add_file-4.ensures.stands (search rules)) in
    let b5 = next rest_paths ((fsid_path, file_of (fsid_text c.args.fsid.now)) ∷ ((key_path, file_of []) ∷ ((number_path, file_of (spelled 0)) ∷ dir_items))) settings_path (disk c.args.tree.now) (disk c.add_file-3.new.tree) (disk c.add_file-4.new.tree) (sound c.add_file-3.new.tree (search rules)) b4 in_settings be4 (file_of (settings_text c.args.set.now)) (sound c.add_file-4.new.tree (search rules)) refl st4 in
    let be5 = beside_as c.in_ok-version_file.version_file version_path (disk c.add_file-4.new.tree) (disk c.add_file-5.new.tree) c.in_ok-version_file.ensures (c.add_file-5.ensures.beside (search rules)) in
    let st5 = stands_as c.in_ok-version_file.version_file version_path c.deref-4.result.now (version_text 1) (disk c.add_file-5.new.tree) c.in_ok-version_file.ensures (c.deref-4.ensures.value ∙ c.in_ok-version_bytes.ensures) (c.in_ok-add_file-5.ensures.stands (search rules)) in
    version_stands c.args.fsid.now c.args.set.now (disk c.args.tree.now) (disk c.add_file-4.new.tree) (disk c.add_file-5.new.tree) b5 be5 (sound c.add_file-5.new.tree (search rules)) st5

pub returns-in_err-add_file-clause-leaves : goal.returns-in_err-add_file-clause-leaves
returns-in_err-add_file-clause-leaves g c = λ t.
    let disk = g.T.FileTree.disk in
    let sound = g.met.T.FileTree.sound in
    let b1 = dirs_built (disk c.args.tree.now) (disk c.make_dirs.new.tree) (c.make_dirs.ensures.leaves (search rules)) (c.in_ok-make_dirs.ensures.stand (search rules)) in
    let be1 = beside_as c.in_ok-number.number number_path (disk c.make_dirs.new.tree) (disk c.add_file.new.tree) c.in_ok-number.ensures (c.add_file.ensures.beside (search rules)) in
    store_leaves (disk c.args.tree.now) (disk c.add_file.new.tree) (so_far rest_paths dir_items number_path (disk c.args.tree.now) (disk c.make_dirs.new.tree) (disk c.add_file.new.tree) (sound c.make_dirs.new.tree (search rules)) b1 in_number be1)

pub returns-in_err-add_file-2-clause-leaves : goal.returns-in_err-add_file-2-clause-leaves
returns-in_err-add_file-2-clause-leaves g c = λ t.
    let disk = g.T.FileTree.disk in
    let sound = g.met.T.FileTree.sound in
    let b1 = dirs_built (disk c.args.tree.now) (disk c.make_dirs.new.tree) (c.make_dirs.ensures.leaves (search rules)) (c.in_ok-make_dirs.ensures.stand (search rules)) in
    let be1 = beside_as c.in_ok-number.number number_path (disk c.make_dirs.new.tree) (disk c.add_file.new.tree) c.in_ok-number.ensures (c.add_file.ensures.beside (search rules)) in
    let st1 = stands_as c.in_ok-number.number number_path c.deref.result.now (spelled 0) (disk c.add_file.new.tree) c.in_ok-number.ensures (c.deref.ensures.value ∙ c.in_ok-zero.ensures) (c.in_ok-add_file.ensures.stands (search rules)) in
    let b2 = next rest_paths dir_items number_path (disk c.args.tree.now) (disk c.make_dirs.new.tree) (disk c.add_file.new.tree) (sound c.make_dirs.new.tree (search rules)) b1 in_number be1 (file_of (spelled 0)) (sound c.add_file.new.tree (search rules)) refl st1 in
    let be2 = beside_as c.in_ok-key.key key_path (disk c.add_file.new.tree) (disk c.add_file-2.new.tree) c.in_ok-key.ensures (c.add_file-2.ensures.beside (search rules)) in
    store_leaves (disk c.args.tree.now) (disk c.add_file-2.new.tree) (so_far rest_paths ((number_path, file_of (spelled 0)) ∷ dir_items) key_path (disk c.args.tree.now) (disk c.add_file.new.tree) (disk c.add_file-2.new.tree) (sound c.add_file.new.tree (search rules)) b2 in_key be2)

pub returns-in_err-add_file-3-clause-leaves : goal.returns-in_err-add_file-3-clause-leaves
returns-in_err-add_file-3-clause-leaves g c = λ t.
    let disk = g.T.FileTree.disk in
    let sound = g.met.T.FileTree.sound in
    let b1 = dirs_built (disk c.args.tree.now) (disk c.make_dirs.new.tree) (c.make_dirs.ensures.leaves (search rules)) (c.in_ok-make_dirs.ensures.stand (search rules)) in
    let be1 = beside_as c.in_ok-number.number number_path (disk c.make_dirs.new.tree) (disk c.add_file.new.tree) c.in_ok-number.ensures (c.add_file.ensures.beside (search rules)) in
    let st1 = stands_as c.in_ok-number.number number_path c.deref.result.now (spelled 0) (disk c.add_file.new.tree) c.in_ok-number.ensures (c.deref.ensures.value ∙ c.in_ok-zero.ensures) (c.in_ok-add_file.ensures.stands (search rules)) in
    let b2 = next rest_paths dir_items number_path (disk c.args.tree.now) (disk c.make_dirs.new.tree) (disk c.add_file.new.tree) (sound c.make_dirs.new.tree (search rules)) b1 in_number be1 (file_of (spelled 0)) (sound c.add_file.new.tree (search rules)) refl st1 in
    let be2 = beside_as c.in_ok-key.key key_path (disk c.add_file.new.tree) (disk c.add_file-2.new.tree) c.in_ok-key.ensures (c.add_file-2.ensures.beside (search rules)) in
    let st2 = stands_as c.in_ok-key.key key_path [] [] (disk c.add_file-2.new.tree) c.in_ok-key.ensures refl (c.in_ok-add_file-2.ensures.stands (search rules)) in
    let b3 = next rest_paths ((number_path, file_of (spelled 0)) ∷ dir_items) key_path (disk c.args.tree.now) (disk c.add_file.new.tree) (disk c.add_file-2.new.tree) (sound c.add_file.new.tree (search rules)) b2 in_key be2 (file_of []) (sound c.add_file-2.new.tree (search rules)) refl st2 in
    let be3 = beside_as c.in_ok-fsid_file.fsid_file fsid_path (disk c.add_file-2.new.tree) (disk c.add_file-3.new.tree) c.in_ok-fsid_file.ensures (c.add_file-3.ensures.beside (search rules)) in
    store_leaves (disk c.args.tree.now) (disk c.add_file-3.new.tree) (so_far rest_paths ((key_path, file_of []) ∷ ((number_path, file_of (spelled 0)) ∷ dir_items)) fsid_path (disk c.args.tree.now) (disk c.add_file-2.new.tree) (disk c.add_file-3.new.tree) (sound c.add_file-2.new.tree (search rules)) b3 in_fsid be3)

pub returns-in_err-add_file-4-clause-leaves : goal.returns-in_err-add_file-4-clause-leaves
returns-in_err-add_file-4-clause-leaves g c = λ t.
    let disk = g.T.FileTree.disk in
    let sound = g.met.T.FileTree.sound in
    let b1 = dirs_built (disk c.args.tree.now) (disk c.make_dirs.new.tree) (c.make_dirs.ensures.leaves (search rules)) (c.in_ok-make_dirs.ensures.stand (search rules)) in
    let be1 = beside_as c.in_ok-number.number number_path (disk c.make_dirs.new.tree) (disk c.add_file.new.tree) c.in_ok-number.ensures (c.add_file.ensures.beside (search rules)) in
    let st1 = stands_as c.in_ok-number.number number_path c.deref.result.now (spelled 0) (disk c.add_file.new.tree) c.in_ok-number.ensures (c.deref.ensures.value ∙ c.in_ok-zero.ensures) (c.in_ok-add_file.ensures.stands (search rules)) in
    let b2 = next rest_paths dir_items number_path (disk c.args.tree.now) (disk c.make_dirs.new.tree) (disk c.add_file.new.tree) (sound c.make_dirs.new.tree (search rules)) b1 in_number be1 (file_of (spelled 0)) (sound c.add_file.new.tree (search rules)) refl st1 in
    let be2 = beside_as c.in_ok-key.key key_path (disk c.add_file.new.tree) (disk c.add_file-2.new.tree) c.in_ok-key.ensures (c.add_file-2.ensures.beside (search rules)) in
    let st2 = stands_as c.in_ok-key.key key_path [] [] (disk c.add_file-2.new.tree) c.in_ok-key.ensures refl (c.in_ok-add_file-2.ensures.stands (search rules)) in
    let b3 = next rest_paths ((number_path, file_of (spelled 0)) ∷ dir_items) key_path (disk c.args.tree.now) (disk c.add_file.new.tree) (disk c.add_file-2.new.tree) (sound c.add_file.new.tree (search rules)) b2 in_key be2 (file_of []) (sound c.add_file-2.new.tree (search rules)) refl st2 in
    let be3 = beside_as c.in_ok-fsid_file.fsid_file fsid_path (disk c.add_file-2.new.tree) (disk c.add_file-3.new.tree) c.in_ok-fsid_file.ensures (c.add_file-3.ensures.beside (search rules)) in
    let st3 = stands_as c.in_ok-fsid_file.fsid_file fsid_path c.deref-2.result.now (fsid_text c.args.fsid.now) (disk c.add_file-3.new.tree) c.in_ok-fsid_file.ensures (c.deref-2.ensures.value ∙ c.in_ok-fsid_bytes.ensures) (c.in_ok-add_file-3.ensures.stands (search rules)) in
    let b4 = next rest_paths ((key_path, file_of []) ∷ ((number_path, file_of (spelled 0)) ∷ dir_items)) fsid_path (disk c.args.tree.now) (disk c.add_file-2.new.tree) (disk c.add_file-3.new.tree) (sound c.add_file-2.new.tree (search rules)) b3 in_fsid be3 (file_of (fsid_text c.args.fsid.now)) (sound c.add_file-3.new.tree (search rules)) refl st3 in
    let be4 = beside_as c.in_ok-settings_file.settings_file settings_path (disk c.add_file-3.new.tree) (disk c.add_file-4.new.tree) c.in_ok-settings_file.ensures (c.add_file-4.ensures.beside (search rules)) in
    store_leaves (disk c.args.tree.now) (disk c.add_file-4.new.tree) (so_far rest_paths ((fsid_path, file_of (fsid_text c.args.fsid.now)) ∷ ((key_path, file_of []) ∷ ((number_path, file_of (spelled 0)) ∷ dir_items))) settings_path (disk c.args.tree.now) (disk c.add_file-3.new.tree) (disk c.add_file-4.new.tree) (sound c.add_file-3.new.tree (search rules)) b4 in_settings be4)

pub returns-in_err-add_file-5-clause-leaves : goal.returns-in_err-add_file-5-clause-leaves
returns-in_err-add_file-5-clause-leaves g c = λ t.
    let disk = g.T.FileTree.disk in
    let sound = g.met.T.FileTree.sound in
    let b1 = dirs_built (disk c.args.tree.now) (disk c.make_dirs.new.tree) (c.make_dirs.ensures.leaves (search rules)) (c.in_ok-make_dirs.ensures.stand (search rules)) in
    let be1 = beside_as c.in_ok-number.number number_path (disk c.make_dirs.new.tree) (disk c.add_file.new.tree) c.in_ok-number.ensures (c.add_file.ensures.beside (search rules)) in
    let st1 = stands_as c.in_ok-number.number number_path c.deref.result.now (spelled 0) (disk c.add_file.new.tree) c.in_ok-number.ensures (c.deref.ensures.value ∙ c.in_ok-zero.ensures) (c.in_ok-add_file.ensures.stands (search rules)) in
    let b2 = next rest_paths dir_items number_path (disk c.args.tree.now) (disk c.make_dirs.new.tree) (disk c.add_file.new.tree) (sound c.make_dirs.new.tree (search rules)) b1 in_number be1 (file_of (spelled 0)) (sound c.add_file.new.tree (search rules)) refl st1 in
    let be2 = beside_as c.in_ok-key.key key_path (disk c.add_file.new.tree) (disk c.add_file-2.new.tree) c.in_ok-key.ensures (c.add_file-2.ensures.beside (search rules)) in
    let st2 = stands_as c.in_ok-key.key key_path [] [] (disk c.add_file-2.new.tree) c.in_ok-key.ensures refl (c.in_ok-add_file-2.ensures.stands (search rules)) in
    let b3 = next rest_paths ((number_path, file_of (spelled 0)) ∷ dir_items) key_path (disk c.args.tree.now) (disk c.add_file.new.tree) (disk c.add_file-2.new.tree) (sound c.add_file.new.tree (search rules)) b2 in_key be2 (file_of []) (sound c.add_file-2.new.tree (search rules)) refl st2 in
    let be3 = beside_as c.in_ok-fsid_file.fsid_file fsid_path (disk c.add_file-2.new.tree) (disk c.add_file-3.new.tree) c.in_ok-fsid_file.ensures (c.add_file-3.ensures.beside (search rules)) in
    let st3 = stands_as c.in_ok-fsid_file.fsid_file fsid_path c.deref-2.result.now (fsid_text c.args.fsid.now) (disk c.add_file-3.new.tree) c.in_ok-fsid_file.ensures (c.deref-2.ensures.value ∙ c.in_ok-fsid_bytes.ensures) (c.in_ok-add_file-3.ensures.stands (search rules)) in
    let b4 = next rest_paths ((key_path, file_of []) ∷ ((number_path, file_of (spelled 0)) ∷ dir_items)) fsid_path (disk c.args.tree.now) (disk c.add_file-2.new.tree) (disk c.add_file-3.new.tree) (sound c.add_file-2.new.tree (search rules)) b3 in_fsid be3 (file_of (fsid_text c.args.fsid.now)) (sound c.add_file-3.new.tree (search rules)) refl st3 in
    let be4 = beside_as c.in_ok-settings_file.settings_file settings_path (disk c.add_file-3.new.tree) (disk c.add_file-4.new.tree) c.in_ok-settings_file.ensures (c.add_file-4.ensures.beside (search rules)) in
    let st4 = stands_as c.in_ok-settings_file.settings_file settings_path c.deref-3.result.now (settings_text c.args.set.now) (disk c.add_file-4.new.tree) c.in_ok-settings_file.ensures (c.deref-3.ensures.value ∙ c.in_ok-settings_bytes.ensures) (c.in_ok-add_file-4.ensures.stands (search rules)) in
    let b5 = next rest_paths ((fsid_path, file_of (fsid_text c.args.fsid.now)) ∷ ((key_path, file_of []) ∷ ((number_path, file_of (spelled 0)) ∷ dir_items))) settings_path (disk c.args.tree.now) (disk c.add_file-3.new.tree) (disk c.add_file-4.new.tree) (sound c.add_file-3.new.tree (search rules)) b4 in_settings be4 (file_of (settings_text c.args.set.now)) (sound c.add_file-4.new.tree (search rules)) refl st4 in
    let be5 = beside_as c.in_ok-version_file.version_file version_path (disk c.add_file-4.new.tree) (disk c.add_file-5.new.tree) c.in_ok-version_file.ensures (c.add_file-5.ensures.beside (search rules)) in
    store_leaves_all (disk c.args.tree.now) (disk c.add_file-4.new.tree) (disk c.add_file-5.new.tree) (sound c.add_file-4.new.tree (search rules)) b5.leaves be5

pub returns-clause-leaves : goal.returns-clause-leaves
returns-clause-leaves g c = λ t.
    let disk = g.T.FileTree.disk in
    let sound = g.met.T.FileTree.sound in
    let b1 = dirs_built (disk c.args.tree.now) (disk c.make_dirs.new.tree) (c.make_dirs.ensures.leaves (search rules)) (c.in_ok-make_dirs.ensures.stand (search rules)) in
    let be1 = beside_as c.in_ok-number.number number_path (disk c.make_dirs.new.tree) (disk c.add_file.new.tree) c.in_ok-number.ensures (c.add_file.ensures.beside (search rules)) in
    let st1 = stands_as c.in_ok-number.number number_path c.deref.result.now (spelled 0) (disk c.add_file.new.tree) c.in_ok-number.ensures (c.deref.ensures.value ∙ c.in_ok-zero.ensures) (c.in_ok-add_file.ensures.stands (search rules)) in
    let b2 = next rest_paths dir_items number_path (disk c.args.tree.now) (disk c.make_dirs.new.tree) (disk c.add_file.new.tree) (sound c.make_dirs.new.tree (search rules)) b1 in_number be1 (file_of (spelled 0)) (sound c.add_file.new.tree (search rules)) refl st1 in
    let be2 = beside_as c.in_ok-key.key key_path (disk c.add_file.new.tree) (disk c.add_file-2.new.tree) c.in_ok-key.ensures (c.add_file-2.ensures.beside (search rules)) in
    let st2 = stands_as c.in_ok-key.key key_path [] [] (disk c.add_file-2.new.tree) c.in_ok-key.ensures refl (c.in_ok-add_file-2.ensures.stands (search rules)) in
    let b3 = next rest_paths ((number_path, file_of (spelled 0)) ∷ dir_items) key_path (disk c.args.tree.now) (disk c.add_file.new.tree) (disk c.add_file-2.new.tree) (sound c.add_file.new.tree (search rules)) b2 in_key be2 (file_of []) (sound c.add_file-2.new.tree (search rules)) refl st2 in
    let be3 = beside_as c.in_ok-fsid_file.fsid_file fsid_path (disk c.add_file-2.new.tree) (disk c.add_file-3.new.tree) c.in_ok-fsid_file.ensures (c.add_file-3.ensures.beside (search rules)) in
    let st3 = stands_as c.in_ok-fsid_file.fsid_file fsid_path c.deref-2.result.now (fsid_text c.args.fsid.now) (disk c.add_file-3.new.tree) c.in_ok-fsid_file.ensures (c.deref-2.ensures.value ∙ c.in_ok-fsid_bytes.ensures) (c.in_ok-add_file-3.ensures.stands (search rules)) in
    let b4 = next rest_paths ((key_path, file_of []) ∷ ((number_path, file_of (spelled 0)) ∷ dir_items)) fsid_path (disk c.args.tree.now) (disk c.add_file-2.new.tree) (disk c.add_file-3.new.tree) (sound c.add_file-2.new.tree (search rules)) b3 in_fsid be3 (file_of (fsid_text c.args.fsid.now)) (sound c.add_file-3.new.tree (search rules)) refl st3 in
    let be4 = beside_as c.in_ok-settings_file.settings_file settings_path (disk c.add_file-3.new.tree) (disk c.add_file-4.new.tree) c.in_ok-settings_file.ensures (c.add_file-4.ensures.beside (search rules)) in
    let st4 = stands_as c.in_ok-settings_file.settings_file settings_path c.deref-3.result.now (settings_text c.args.set.now) (disk c.add_file-4.new.tree) c.in_ok-settings_file.ensures (c.deref-3.ensures.value ∙ c.in_ok-settings_bytes.ensures) (c.in_ok-add_file-4.ensures.stands (search rules)) in
    let b5 = next rest_paths ((fsid_path, file_of (fsid_text c.args.fsid.now)) ∷ ((key_path, file_of []) ∷ ((number_path, file_of (spelled 0)) ∷ dir_items))) settings_path (disk c.args.tree.now) (disk c.add_file-3.new.tree) (disk c.add_file-4.new.tree) (sound c.add_file-3.new.tree (search rules)) b4 in_settings be4 (file_of (settings_text c.args.set.now)) (sound c.add_file-4.new.tree (search rules)) refl st4 in
    let be5 = beside_as c.in_ok-version_file.version_file version_path (disk c.add_file-4.new.tree) (disk c.add_file-5.new.tree) c.in_ok-version_file.ensures (c.add_file-5.ensures.beside (search rules)) in
    store_leaves_all (disk c.args.tree.now) (disk c.add_file-4.new.tree) (disk c.add_file-5.new.tree) (sound c.add_file-4.new.tree (search rules)) b5.leaves be5

pub returns-in_err-make_dirs-clause-leaves : goal.returns-in_err-make_dirs-clause-leaves
returns-in_err-make_dirs-clause-leaves g c = λ t.
    let disk = g.T.FileTree.disk in
    store_leaves_dirs (disk c.args.tree.now) (disk c.make_dirs.new.tree) (c.make_dirs.ensures.leaves (search rules))
