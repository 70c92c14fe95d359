use Rattle.std.proofs.Common.{ℕ, ⊎_elim, All, Contains, subst, sym, take}
use Rattle.std.proofs.lemmas.List.{take_all}
use Rattle.std.proofs.lemmas.List.Elements.{All-more, All-weaker, Contains-get_or}
use Rattle.tree_api.specs.declared.tree.Entry.{Entry}
use Rattle.lfn_index.specs.Subdirs.{HasDigit}
use Rattle.lfn_index.proofs.subdirs.subdir_digits.Goals as goal

pub loop-entry-preserved : goal.loop-entry-preserved
loop-entry-preserved c =
    let adds = c.in_ok-add_digit.ensures in
    let e = c.entry-item.result in
    let es = c.args.entries.now in
    let i = c.loop-entry.entry-index in
    let P = λ (x : Entry). (digit : ℕ) → HasDigit x digit → Contains c.loop-entry.digits.items digit in
    let Q = λ (x : Entry). (digit : ℕ) → HasDigit x digit → Contains c.add_digit.new.digits.items digit in
    record {
      each = λ digit has.
          ⊎_elim (λ was. c.loop-entry.invariant.each digit was) (λ is. (e, subst (Contains es) (sym c.entry-item.is) (Contains-get_or es i e c.loop-entry-test.true), is)) (adds.each digit has);
      whole = All-more Q es i e c.loop-entry-test.true
          (All-weaker P Q (λ x p digit is. adds.kept digit (p digit is)) (take i es) c.loop-entry.invariant.whole)
          (subst Q c.entry-item.is (λ digit is. adds.added digit is));
    }

pub returns : goal.returns
returns c = record {
  each = c.loop-entry.invariant.each;
  whole = subst (All (λ (x : Entry). (digit : ℕ) → HasDigit x digit → Contains c.loop-entry.digits.items digit)) (take_all c.loop-entry.entry-index c.args.entries.now c.loop-entry-test.false) c.loop-entry.invariant.whole;
}
