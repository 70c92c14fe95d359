use Rattle.std.proofs.Common.{◌≡◌, ◌≤◌, ◌++◌, length, Ok, sym, ap, subst, ◌∙◌}
use Rattle.fs_names.proofs.Six.{there}
use Rattle.fs_names.specs.Units.{name_of}
use Rattle.fs_names.proofs.oid_reading.read_name.Goals as goal

pub of-requires : goal.of-requires
of-requires c =
    let name = there (name_of c.args.text.now) (λ name. length name ≤ 1024) c.requires in
    let is : c.push_name.new.out.items ≡ name.0 = c.in_ok-push_name.ensures name.0 name.1 ∙ ap (λ l. l ++ name.0) c.in_ok-bytes.ensures.items in
    subst (λ l. length l ≤ 1024) (sym is) name.2

pub returns : goal.returns
returns c =
    let name = there (name_of c.args.text.now) (λ name. length name ≤ 1024) c.requires in
    let is : c.push_name.new.out.items ≡ name.0 = c.in_ok-push_name.ensures name.0 name.1 ∙ ap (λ l. l ++ name.0) c.in_ok-bytes.ensures.items in
    name.1 ∙ ap Ok (sym (c.of.ensures ∙ is))
