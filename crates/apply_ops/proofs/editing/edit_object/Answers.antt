-- Each arm speaks of the object that its operation names.
use Rattle.std.proofs.Common.{◌≡◌, ℕ, List, OnOk, ap, refl, subst}
use Rattle.fs_names.specs.Text.{oid_text}
use Rattle.fs_model.specs.declared.pair.Pair.{Pair}
use Rattle.tree_stands.specs.Files.{written_file, attrs_file, attr_gone_file}
use Rattle.tree_stands.specs.Standing.{ObjectCrash}
use Rattle.tree_stands.specs.Trees.{name_at, ForObject}
use Rattle.apply_ops.specs.Editing.{edited}
use Rattle.apply_ops.proofs.Rows.{on_its_name}
use Rattle.apply_ops.proofs.editing.edit_object.Goals as goal

pub touch-requires-clause-there : goal.touch-requires-clause-there
touch-requires-clause-there g c = λ tells. c.requires.there tells (name_at c.in-Touch.c c.in-Touch.o) (ap edited c.in-Touch.is)

pub write-requires-clause-there : goal.write-requires-clause-there
write-requires-clause-there g c = λ tells. c.requires.there tells (name_at c.in-Write.c c.in-Write.o) (ap edited c.in-Write.is)

pub zero-requires-clause-there : goal.zero-requires-clause-there
zero-requires-clause-there g c = λ tells. c.requires.there tells (name_at c.in-Zero.c c.in-Zero.o) (ap edited c.in-Zero.is)

pub truncate-requires-clause-there : goal.truncate-requires-clause-there
truncate-requires-clause-there g c = λ tells. c.requires.there tells (name_at c.in-Truncate.c c.in-Truncate.o) (ap edited c.in-Truncate.is)

pub remove-requires-clause-there : goal.remove-requires-clause-there
remove-requires-clause-there g c = λ tells. c.requires.there tells (name_at c.in-Remove.c c.in-Remove.o) (ap edited c.in-Remove.is)

pub set_attrs-requires-clause-there : goal.set_attrs-requires-clause-there
set_attrs-requires-clause-there g c = λ tells. c.requires.there tells (name_at c.in-SetAttrs.c c.in-SetAttrs.o) (ap edited c.in-SetAttrs.is)

pub rm_attr-requires-clause-there : goal.rm_attr-requires-clause-there
rm_attr-requires-clause-there g c = λ tells. c.requires.there tells (name_at c.in-RmAttr.c c.in-RmAttr.o) (ap edited c.in-RmAttr.is)

pub rm_attrs-requires-clause-there : goal.rm_attrs-requires-clause-there
rm_attrs-requires-clause-there g c = λ tells. c.requires.there tells (name_at c.in-RmAttrs.c c.in-RmAttrs.o) (ap edited c.in-RmAttrs.is)

pub returns-in-Touch-clause-crash : goal.returns-in-Touch-clause-crash
returns-in-Touch-clause-crash g c = λ tells n is.
    on_its_name c.args.op.now _ (name_at c.in-Touch.c c.in-Touch.o) n c.in-Touch.is refl is (λ m F. ObjectCrash c.args.set.now m F (g.T.FileTree.disk c.args.tree.now) (g.T.FileTree.disk c.touch.new.tree))
    (c.touch.ensures.crash tells)

pub returns-in-Write-clause-crash : goal.returns-in-Write-clause-crash
returns-in-Write-clause-crash g c = λ tells n is.
    on_its_name c.args.op.now _ (name_at c.in-Write.c c.in-Write.o) n c.in-Write.is refl is (λ m F. ObjectCrash c.args.set.now m F (g.T.FileTree.disk c.args.tree.now) (g.T.FileTree.disk c.write.new.tree))
    (subst (λ (b : List ℕ). ObjectCrash c.args.set.now (name_at c.in-Write.c c.in-Write.o) (written_file (oid_text c.in-Write.o) c.in-Write.at b) (g.T.FileTree.disk c.args.tree.now) (g.T.FileTree.disk c.write.new.tree)) c.slice.ensures (c.write.ensures.crash tells))

pub returns-in-Zero-clause-crash : goal.returns-in-Zero-clause-crash
returns-in-Zero-clause-crash g c = λ tells n is.
    on_its_name c.args.op.now _ (name_at c.in-Zero.c c.in-Zero.o) n c.in-Zero.is refl is (λ m F. ObjectCrash c.args.set.now m F (g.T.FileTree.disk c.args.tree.now) (g.T.FileTree.disk c.zero.new.tree))
    (c.zero.ensures.crash tells)

pub returns-in-Truncate-clause-crash : goal.returns-in-Truncate-clause-crash
returns-in-Truncate-clause-crash g c = λ tells n is.
    on_its_name c.args.op.now _ (name_at c.in-Truncate.c c.in-Truncate.o) n c.in-Truncate.is refl is (λ m F. ObjectCrash c.args.set.now m F (g.T.FileTree.disk c.args.tree.now) (g.T.FileTree.disk c.truncate.new.tree))
    (c.truncate.ensures.crash tells)

pub returns-in-Remove-clause-crash : goal.returns-in-Remove-clause-crash
returns-in-Remove-clause-crash g c = λ tells n is.
    on_its_name c.args.op.now _ (name_at c.in-Remove.c c.in-Remove.o) n c.in-Remove.is refl is (λ m F. ObjectCrash c.args.set.now m F (g.T.FileTree.disk c.args.tree.now) (g.T.FileTree.disk c.remove.new.tree))
    (c.remove.ensures.crash tells)

pub returns-in-SetAttrs-clause-crash : goal.returns-in-SetAttrs-clause-crash
returns-in-SetAttrs-clause-crash g c = λ tells n is.
    on_its_name c.args.op.now _ (name_at c.in-SetAttrs.c c.in-SetAttrs.o) n c.in-SetAttrs.is refl is (λ m F. ObjectCrash c.args.set.now m F (g.T.FileTree.disk c.args.tree.now) (g.T.FileTree.disk c.set_attrs.new.tree))
    (subst (λ (b : List Pair). ObjectCrash c.args.set.now (name_at c.in-SetAttrs.c c.in-SetAttrs.o) (attrs_file (oid_text c.in-SetAttrs.o) b) (g.T.FileTree.disk c.args.tree.now) (g.T.FileTree.disk c.set_attrs.new.tree)) c.slice-in-SetAttrs.ensures (c.set_attrs.ensures.crash tells))

pub returns-in-RmAttr-clause-crash : goal.returns-in-RmAttr-clause-crash
returns-in-RmAttr-clause-crash g c = λ tells n is.
    on_its_name c.args.op.now _ (name_at c.in-RmAttr.c c.in-RmAttr.o) n c.in-RmAttr.is refl is (λ m F. ObjectCrash c.args.set.now m F (g.T.FileTree.disk c.args.tree.now) (g.T.FileTree.disk c.rm_attr.new.tree))
    (subst (λ (b : List ℕ). ObjectCrash c.args.set.now (name_at c.in-RmAttr.c c.in-RmAttr.o) (attr_gone_file (oid_text c.in-RmAttr.o) b) (g.T.FileTree.disk c.args.tree.now) (g.T.FileTree.disk c.rm_attr.new.tree)) c.slice-in-RmAttr.ensures (c.rm_attr.ensures.crash tells))

pub returns-in-RmAttrs-clause-crash : goal.returns-in-RmAttrs-clause-crash
returns-in-RmAttrs-clause-crash g c = λ tells n is.
    on_its_name c.args.op.now _ (name_at c.in-RmAttrs.c c.in-RmAttrs.o) n c.in-RmAttrs.is refl is (λ m F. ObjectCrash c.args.set.now m F (g.T.FileTree.disk c.args.tree.now) (g.T.FileTree.disk c.rm_attrs.new.tree))
    (c.rm_attrs.ensures.crash tells)

pub returns-in-Touch-clause-done : goal.returns-in-Touch-clause-done
returns-in-Touch-clause-done g c = λ tells n is.
    on_its_name c.args.op.now _ (name_at c.in-Touch.c c.in-Touch.o) n c.in-Touch.is refl is (λ m F. OnOk c.touch.result (ForObject c.args.set.now m (λ x y. y ≡ F x) (g.T.FileTree.disk c.args.tree.now).tree (g.T.FileTree.disk c.touch.new.tree).tree))
    (c.touch.ensures.done tells)

pub returns-in-Write-clause-done : goal.returns-in-Write-clause-done
returns-in-Write-clause-done g c = λ tells n is.
    on_its_name c.args.op.now _ (name_at c.in-Write.c c.in-Write.o) n c.in-Write.is refl is (λ m F. OnOk c.write.result (ForObject c.args.set.now m (λ x y. y ≡ F x) (g.T.FileTree.disk c.args.tree.now).tree (g.T.FileTree.disk c.write.new.tree).tree))
    (subst (λ (b : List ℕ). OnOk c.write.result (ForObject c.args.set.now (name_at c.in-Write.c c.in-Write.o) (λ x y. y ≡ written_file (oid_text c.in-Write.o) c.in-Write.at b x) (g.T.FileTree.disk c.args.tree.now).tree (g.T.FileTree.disk c.write.new.tree).tree)) c.slice.ensures (c.write.ensures.done tells))

pub returns-in-Zero-clause-done : goal.returns-in-Zero-clause-done
returns-in-Zero-clause-done g c = λ tells n is.
    on_its_name c.args.op.now _ (name_at c.in-Zero.c c.in-Zero.o) n c.in-Zero.is refl is (λ m F. OnOk c.zero.result (ForObject c.args.set.now m (λ x y. y ≡ F x) (g.T.FileTree.disk c.args.tree.now).tree (g.T.FileTree.disk c.zero.new.tree).tree))
    (c.zero.ensures.done tells)

pub returns-in-Truncate-clause-done : goal.returns-in-Truncate-clause-done
returns-in-Truncate-clause-done g c = λ tells n is.
    on_its_name c.args.op.now _ (name_at c.in-Truncate.c c.in-Truncate.o) n c.in-Truncate.is refl is (λ m F. OnOk c.truncate.result (ForObject c.args.set.now m (λ x y. y ≡ F x) (g.T.FileTree.disk c.args.tree.now).tree (g.T.FileTree.disk c.truncate.new.tree).tree))
    (c.truncate.ensures.done tells)

pub returns-in-Remove-clause-done : goal.returns-in-Remove-clause-done
returns-in-Remove-clause-done g c = λ tells n is.
    on_its_name c.args.op.now _ (name_at c.in-Remove.c c.in-Remove.o) n c.in-Remove.is refl is (λ m F. OnOk c.remove.result (ForObject c.args.set.now m (λ x y. y ≡ F x) (g.T.FileTree.disk c.args.tree.now).tree (g.T.FileTree.disk c.remove.new.tree).tree))
    (c.remove.ensures.done tells)

pub returns-in-SetAttrs-clause-done : goal.returns-in-SetAttrs-clause-done
returns-in-SetAttrs-clause-done g c = λ tells n is.
    on_its_name c.args.op.now _ (name_at c.in-SetAttrs.c c.in-SetAttrs.o) n c.in-SetAttrs.is refl is (λ m F. OnOk c.set_attrs.result (ForObject c.args.set.now m (λ x y. y ≡ F x) (g.T.FileTree.disk c.args.tree.now).tree (g.T.FileTree.disk c.set_attrs.new.tree).tree))
    (subst (λ (b : List Pair). OnOk c.set_attrs.result (ForObject c.args.set.now (name_at c.in-SetAttrs.c c.in-SetAttrs.o) (λ x y. y ≡ attrs_file (oid_text c.in-SetAttrs.o) b x) (g.T.FileTree.disk c.args.tree.now).tree (g.T.FileTree.disk c.set_attrs.new.tree).tree)) c.slice-in-SetAttrs.ensures (c.set_attrs.ensures.done tells))

pub returns-in-RmAttr-clause-done : goal.returns-in-RmAttr-clause-done
returns-in-RmAttr-clause-done g c = λ tells n is.
    on_its_name c.args.op.now _ (name_at c.in-RmAttr.c c.in-RmAttr.o) n c.in-RmAttr.is refl is (λ m F. OnOk c.rm_attr.result (ForObject c.args.set.now m (λ x y. y ≡ F x) (g.T.FileTree.disk c.args.tree.now).tree (g.T.FileTree.disk c.rm_attr.new.tree).tree))
    (subst (λ (b : List ℕ). OnOk c.rm_attr.result (ForObject c.args.set.now (name_at c.in-RmAttr.c c.in-RmAttr.o) (λ x y. y ≡ attr_gone_file (oid_text c.in-RmAttr.o) b x) (g.T.FileTree.disk c.args.tree.now).tree (g.T.FileTree.disk c.rm_attr.new.tree).tree)) c.slice-in-RmAttr.ensures (c.rm_attr.ensures.done tells))

pub returns-in-RmAttrs-clause-done : goal.returns-in-RmAttrs-clause-done
returns-in-RmAttrs-clause-done g c = λ tells n is.
    on_its_name c.args.op.now _ (name_at c.in-RmAttrs.c c.in-RmAttrs.o) n c.in-RmAttrs.is refl is (λ m F. OnOk c.rm_attrs.result (ForObject c.args.set.now m (λ x y. y ≡ F x) (g.T.FileTree.disk c.args.tree.now).tree (g.T.FileTree.disk c.rm_attrs.new.tree).tree))
    (c.rm_attrs.ensures.done tells)
