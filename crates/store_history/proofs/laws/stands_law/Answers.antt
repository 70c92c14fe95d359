use Rattle.store_history.proofs.Unique.{unique, numbers, closed}
use Rattle.store_history.proofs.laws.stands_law.Goals as goal

pub returns-clause-unique : goal.returns-clause-unique
returns-clause-unique g c = λ laws fsid t b o o2 x y. unique g.S.TreeImages.image laws fsid t b o o2 x y

pub returns-clause-numbers : goal.returns-clause-numbers
returns-clause-numbers g c = λ laws fsid t b o o2 n m last last2 x y. numbers g.S.TreeImages.image laws fsid t b o o2 n m last last2 x y

pub returns-clause-closed : goal.returns-clause-closed
returns-clause-closed g c = λ fsid t b o x. closed g.S.TreeImages.image fsid t b o x
