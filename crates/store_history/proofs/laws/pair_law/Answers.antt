use Rattle.store_history.proofs.Join.{pair_stands_for}
use Rattle.store_history.proofs.laws.pair_law.Goals as goal

pub returns : goal.returns
returns g c = λ laws fsid h n lo hi p synced top acked t b im j base behind from within written fits small le.
    pair_stands_for g.S.TreeImages.image laws fsid h n lo hi p synced top t b im j base behind from within written fits small acked le
