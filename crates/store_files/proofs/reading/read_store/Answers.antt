use Rattle.std.proofs.Common.{◌≡◌, ◌∙◌, inr, subst, rules}
use Rattle.store_files.specs.Stores.{HasNone, HasSettings, StoreDirs}
use Rattle.store_files.proofs.Spelling.{versioned, none_of}
use Rattle.store_files.proofs.reading.read_store.Goals as goal

pub returns-in_default-3-clause-tells : goal.returns-in_default-3-clause-tells
returns-in_default-3-clause-tells g c = λ t.
    let disk = g.T.FileTree.disk in
    let one : (disk c.read_version.new.tree).tree ≡ (disk c.args.tree.now).tree = (c.read_version.ensures.still (search rules)).stays.tree in
    let two : (disk c.read_fsid.new.tree).tree ≡ (disk c.read_version.new.tree).tree = (c.read_fsid.ensures.still (search rules)).stays.tree in
    let none = none_of (HasSettings (disk c.read_fsid.new.tree).tree) c.in_ok-settings.field-0 (c.in_ok-settings.ensures.settings t) c.in_default-3.not-Some in
    (versioned (disk c.args.tree.now).tree c.in-Some.version (search rules) c.if-version-ne1.false c.in-Some-2.fsid (search rules), subst (λ d. HasNone (HasSettings d)) (two ∙ one) none)

pub returns-then-not-branch-clause-tells : goal.returns-then-not-branch-clause-tells
returns-then-not-branch-clause-tells g c = λ t.
    inr (inr (
      versioned (g.T.FileTree.disk c.args.tree.now).tree c.in-Some.version (search rules) c.if-version-ne1.false c.in-Some-2.fsid (search rules),
      (c.in-Some-3.settings, search rules),
      search rules,
    ))

pub returns-clause-tells : goal.returns-clause-tells
returns-clause-tells g c = λ t.
    let disk = g.T.FileTree.disk in
    let one : (disk c.read_version.new.tree).tree ≡ (disk c.args.tree.now).tree = (c.read_version.ensures.still (search rules)).stays.tree in
    let two : (disk c.read_fsid.new.tree).tree ≡ (disk c.read_version.new.tree).tree = (c.read_fsid.ensures.still (search rules)).stays.tree in
    let three : (disk c.read_settings.new.tree).tree ≡ (disk c.read_fsid.new.tree).tree = (c.read_settings.ensures.still (search rules)).stays.tree in
    let there : StoreDirs (disk c.read_settings.new.tree).tree = search rules in
    record {
      version = (versioned (disk c.args.tree.now).tree c.in-Some.version (search rules) c.if-version-ne1.false c.in-Some-2.fsid (search rules)).0;
      identity = search rules;
      settings = search rules;
      dirs = subst StoreDirs (three ∙ (two ∙ one)) there;
    }
