use Rattle.std.proofs.Common.{◌≡◌, ◌<◌, List, length, get_or, true, sym, ap, subst, eq-eqb, ◌∙◌, arith}
use Rattle.tree_memory.specs.declared.event.Call.{Call}
use Rattle.tree_memory.specs.History.{History}
use Rattle.tree_memory.specs.Leaves.{settle}
use Rattle.tree_memory.specs.Snaps.{snaps_of}
use Rattle.tree_memory.specs.Oldest.{oldest, IsOldest}
use Rattle.tree_memory.proofs.Replays.{at_call, followed_first, followed_low, followed_ran, followed_more, followed_left, followed_last, followed_snaps, ran_to}
use Rattle.tree_memory.proofs.Oldests.{start_oldest, oldest_tree}
use Rattle.tree_memory.proofs.memory.MemoryTree.image.Goals as goal

pub loop-call-init : goal.loop-call-init
loop-call-init c =
    let m = c.args.self.now in
    record {
      followed = followed_first m.origin m.log.items c.in_ok-now.now c.in_ok-image.image c.in_ok-now.ensures.tree c.in_ok-now.ensures.count c.in_ok-image.ensures.tree c.in_ok-image.ensures.count m.tied.suit;
      chooser = c.new-chooser.ensures;
      oldest = λ never. start_oldest m.origin c.in_ok-image.image c.in_ok-image.ensures.tree;
    }

pub apply-requires-clause-low : goal.apply-requires-clause-low
apply-requires-clause-low c =
    let m = c.args.self.now in
    followed_low m.origin m.store c.loop-call.now c.loop-call.image m.log.items m.synced c.loop-call.call-index m.tied c.loop-call.invariant.followed

pub loop-call-preserved : goal.loop-call-preserved
loop-call-preserved c =
    let m = c.args.self.now in
    let i = c.loop-call.call-index in
    let log = m.log.items in
    let call = c.call-item.result in
    let lt : i < length log = omega (arith, ap length c.deref-call-items.ensures.value) in
    let read : call ≡ get_or log i call = c.call-item.is ∙ ap (λ (l : List Call). get_or l i call) c.deref-call-items.ensures.value in
    let tree = c.in_ok-apply.ensures.ok in
    let h = at_call m.origin log i in
    let ran = followed_ran m.origin m.store c.loop-call.now c.loop-call.image log m.synced i m.tied c.loop-call.invariant.followed call lt read c.apply.new.self tree in
    let left = c.in_ok-follow.ensures.image (settle call.synced h) ran (c.in_ok-flush.ensures.image h c.loop-call.invariant.followed.reads c.loop-call.invariant.followed.left) in
    let to = ran_to m.origin m.store c.loop-call.now c.loop-call.image log m.synced i m.tied c.loop-call.invariant.followed call lt read in
    record {
      followed = followed_more m.origin m.store c.loop-call.now c.loop-call.image log m.synced i m.tied c.loop-call.invariant.followed call lt read c.apply.new.self c.follow.new.image tree c.in_ok-apply.ensures.count c.in_ok-follow.ensures.count left;
      chooser = c.in_ok-follow.ensures.chooser ∙ c.loop-call.invariant.chooser;
      oldest = λ never.
          let was = sym c.in_ok-follow.ensures.chooser ∙ never in
          subst (λ (x : History). IsOldest x c.follow.new.image) (sym to)
          (c.in_ok-follow.ensures.oldest was (settle call.synced h) ran (c.in_ok-flush.ensures.oldest h c.loop-call.invariant.followed.reads (c.loop-call.invariant.oldest was)));
    }

pub returns-clause-image : goal.returns-clause-image
returns-clause-image c =
    let m = c.args.self.now in
    let i = c.loop-call.call-index in
    let log = m.log.items in
    let end : length log ≡ i = omega (arith, ap length c.deref-call-items.ensures.value) in
    let left = c.in_ok-flush-2.ensures.image (at_call m.origin log i) c.loop-call.invariant.followed.reads c.loop-call.invariant.followed.left in
    followed_left m.origin m.store c.loop-call.now c.loop-call.image log m.synced i m.tied c.loop-call.invariant.followed end c.flush-2.new.image left

pub returns-clause-oldest : goal.returns-clause-oldest
returns-clause-oldest c = λ one.
    let m = c.args.self.now in
    let i = c.loop-call.call-index in
    let log = m.log.items in
    let end : length log ≡ i = omega (arith, ap length c.deref-call-items.ensures.value) in
    let never : c.loop-call.chooser.oldest ≡ true = c.loop-call.invariant.chooser ∙ eq-eqb c.args.choice 1 one in
    let h = at_call m.origin log i in
    let is = c.in_ok-flush-2.ensures.oldest h c.loop-call.invariant.followed.reads (c.loop-call.invariant.oldest never) in
    let left = c.flush-2.new.image in
    let last = followed_last m.origin m.store c.loop-call.now c.loop-call.image log m.synced i m.tied c.loop-call.invariant.followed end in
    let snaps = followed_snaps m.origin m.store c.loop-call.now c.loop-call.image log m.synced i m.tied c.loop-call.invariant.followed in
    oldest_tree (settle m.synced h) left (snaps_of c.loop-call.now.snaps) is (sym snaps) ∙ ap oldest last
