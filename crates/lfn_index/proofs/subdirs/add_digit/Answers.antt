use Rattle.lfn_index.proofs.Subdigits.{some_digit}
use Rattle.lfn_index.proofs.subdirs.add_digit.Goals as goal

pub returns : goal.returns
returns c = some_digit c.args.entry.now c.args.digits.now.items c.push.new.self.items c.in-Some.digit c.in_ok-push.ensures.items c.in-Some.ensures
