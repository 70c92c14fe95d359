use Rattle.std.proofs.Common.{rules, sym, ◌∙◌, subst, Some, IsOk, ℕ, List}
use Rattle.tree_api.specs.Tree.{AttrIs}
use Rattle.object_file.specs.Attrs.{attr_name}
use Rattle.object_file.specs.Passing.{FileGoes}
use Rattle.object_file.proofs.Passing.{way_same, when_ok}
use Rattle.object_ops.proofs.Pairs.{set_later, set_way, set_next}
use Rattle.object_ops.proofs.attributes.set_one.Goals as goal

pub returns-then-has_key-clause-way : goal.returns-then-has_key-clause-way
returns-then-has_key-clause-way g c = λ t n a b setting.
    let d0 = g.T.FileTree.disk c.args.tree.now in (
      way_same n a b d0 (g.met.T.FileTree.sound c.args.tree.now (search rules)),
      set_later c.args.path.now n a b c.args.pair.now c.args.later.now d0 setting (sym c.has_key.ensures ∙ c.if-has_key.true),
    )

pub returns-clause-way : goal.returns-clause-way
returns-clause-way g c = λ t n a b setting.
    let d0 = g.T.FileTree.disk c.args.tree.now in
    let d1 = g.T.FileTree.disk c.set_attr.new.tree in
    let never = sym c.has_key.ensures ∙ c.if-has_key.false in
    let goes = subst (λ (k : List ℕ). FileGoes c.args.path.now (AttrIs (attr_name k) (Some c.args.pair.now.value)) d0 d1 (IsOk c.set_attr.result)) c.slice.ensures
    (subst (λ (x : List ℕ). FileGoes c.args.path.now (AttrIs (attr_name c.slice.result.now) (Some x)) d0 d1 (IsOk c.set_attr.result)) c.slice-2.ensures (c.set_attr.ensures.goes (search rules))) in (
      set_way c.args.path.now n a b c.args.pair.now c.args.later.now d0 setting never d1 (IsOk c.set_attr.result) goes,
      when_ok _ c.set_attr.result (λ ok. set_next c.args.path.now n a b c.args.pair.now c.args.later.now d0 setting never d1 (IsOk c.set_attr.result) goes ok),
    )
