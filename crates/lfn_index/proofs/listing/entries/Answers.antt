use Rattle.std.proofs.Common.{rules, subst}
use Rattle.tree_api.specs.Tree.{Tree}
use Rattle.index_fault.specs.declared.IndexFault.TheVariants.{Damaged}
use Rattle.lfn_index.specs.Listing.{IsFirstDamage}
use Rattle.lfn_index.specs.Maps.{IsMap, map_of}
use Rattle.lfn_index.specs.Subdirs.{AreDigits}
use Rattle.lfn_index.proofs.Known.{handed_on}
use Rattle.lfn_index.proofs.Subdigits.{digits_there}
use Rattle.lfn_index.proofs.listing.entries.Goals as goal

pub returns-clause-maps : goal.returns-clause-maps
returns-clause-maps g c = λ t.
    subst (λ (x : Tree). IsMap c.args.set.now x c.args.dir.now (map_of x c.in_ok-files.files.items)) ((c.list.ensures.still (search rules)).stays).tree (c.in_ok-files.ensures.maps (search rules))

pub returns-clause-subdirs : goal.returns-clause-subdirs
returns-clause-subdirs g c = λ t.
    digits_there (g.T.FileTree.disk c.args.tree.now).tree c.args.dir.now c.in_ok-entries.entries.items c.in_ok-subdirs.subdirs.items (c.in_ok-entries.ensures.entries (search rules))
    (subst (λ (es : _). AreDigits es c.in_ok-subdirs.subdirs.items) c.deref-2.ensures.value c.in_ok-subdirs.ensures)

pub returns-in_err-files-clause-damaged : goal.returns-in_err-files-clause-damaged
returns-in_err-files-clause-damaged g c = λ t p is.
    subst (λ (x : Tree). IsFirstDamage c.args.set.now x c.args.dir.now p) ((c.list.ensures.still (search rules)).stays).tree (c.find_all.ensures.damaged (search rules) p
    (handed_on c.find_all.result c.from_residual-in_err-files.result c.in_err-files.field-0.0 (Damaged p) c.in_err-files.was c.from_residual-in_err-files.ensures.1 is))
