-- What is read of an object's file.
use Rattle.std.proofs.Common.{◌≡◌, ℕ, sym, ◌∙◌, ap, subst, Option, Some, None}
use Rattle.std.specs.Option.{option_map}
use Rattle.fs_names.specs.declared.coll.Coll.{Coll}
use Rattle.fs_names.specs.declared.oid.Oid.{Oid}
use Rattle.fs_model.specs.Objects.{Object, Objects, look}
use Rattle.tree_api.specs.Tree.{Path, Version, Tree}
use Rattle.object_file.specs.Passing.{Here}
use Rattle.tree_shows.specs.Shows.{IsFileOf}
use Rattle.file_readings.specs.Finding.{IsPathOf}

-- of a missing object nothing
pub none_read : {A : Type 0} (O : Objects) (c : Coll) (o : Oid) (t : Tree) (p : Option Path) (f : Object → A) → p ≡ None → IsPathOf O c o t p → None ≡ option_map f (look O c o)
none_read O c o t None f missing is = sym (ap (option_map f) is)
none_read O c o t (Some q) f missing is = cc

-- what the file has
pub one_read : {A : Type 0} (O : Objects) (c : Coll) (o : Oid) (t : Tree) (p : Path) (f : Object → A) (r : A) (P : Version → Type 0) → IsPathOf O c o t (Some p) → Here t p P
    → ((v : Version) (x : Object) → IsFileOf v x → P v → r ≡ f x) → Some r ≡ option_map f (look O c o)
one_read O c o t p f r P is here then_ =
    let e : Some is.0 ≡ Some here.0 = sym is.2 ∙ here.1 in
    let same : is.0 ≡ here.0 = cc in
    ap Some (then_ (t.node here.0) is.1 (subst (λ (n : ℕ). IsFileOf (t.node n) is.1) same is.4) here.2) ∙ sym (ap (option_map f) is.3)
