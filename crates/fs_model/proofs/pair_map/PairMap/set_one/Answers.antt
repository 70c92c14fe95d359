use Rattle.std.proofs.Common.{◌≡◌, sym, ap, subst, ◌∙◌}
use Rattle.std.specs.FinMap as map
use Rattle.fs_model.specs.declared.pair_map.Undo.{Undo}
use Rattle.fs_model.specs.Plain.{put_back, undone, IsUndoOf}
use Rattle.fs_model.proofs.Maps.{bytes_suit, has-inserted}
use Rattle.fs_model.proofs.Undoing.{back, back_noted, is_undo_noted}
use Rattle.fs_model.proofs.pair_map.PairMap.set_one.Goals as goal

pub put_back-requires : goal.put_back-requires
put_back-requires c =
    let m = c.args.self.now in
    let us = c.args.undo.now.items in
    let u : Undo = record { key = c.in_ok-name.name; old = c.in_ok-old.old } in
    let value = c.in_ok-value.value in
    let key : c.in_ok-key.key ≡ u.key = c.in_ok-key.ensures ∙ sym c.in_ok-name.ensures in
    let is : u.old ≡ map.get m u.key = c.in_ok-old.ensures.ok ∙ ap (map.get m) key in
    let same : c.set.new.self ≡ map.insert m u.key value = c.in_ok-old.ensures.set ∙ ap (λ k. map.insert m k value) key in
    let returned : c.in-Err.failed.value ≡ u = c.in-Err.ensures.value_returned in
    ap (λ n. map.contains_key n c.in-Err.failed.value.key) same
    ∙ ap (λ (x : Undo). map.contains_key (map.insert m u.key value) x.key) returned
    ∙ has-inserted bytes_suit m u.key value

pub returns-in-Ok-clause-ok : goal.returns-in-Ok-clause-ok
returns-in-Ok-clause-ok c =
    let m = c.args.self.now in
    c.in_ok-old.ensures.set ∙ ap (λ k. map.insert m k c.in_ok-value.value) c.in_ok-key.ensures ∙ ap (map.insert m c.args.pair.now.key) c.in_ok-value.ensures

pub returns-in-Ok-clause-noted : goal.returns-in-Ok-clause-noted
returns-in-Ok-clause-noted c = λ h.
    let m = c.args.self.now in
    let us = c.args.undo.now.items in
    let u : Undo = record { key = c.in_ok-name.name; old = c.in_ok-old.old } in
    let value = c.in_ok-value.value in
    let key : c.in_ok-key.key ≡ u.key = c.in_ok-key.ensures ∙ sym c.in_ok-name.ensures in
    let is : u.old ≡ map.get m u.key = c.in_ok-old.ensures.ok ∙ ap (map.get m) key in
    let same : c.set.new.self ≡ map.insert m u.key value = c.in_ok-old.ensures.set ∙ ap (λ k. map.insert m k value) key in
    subst (λ n. IsUndoOf n c.push.new.self.items) (sym same)
    (subst (IsUndoOf (map.insert m u.key value)) (sym c.in-Ok.ensures.items) (is_undo_noted m us u value is h))

pub returns-in-Ok-clause-back : goal.returns-in-Ok-clause-back
returns-in-Ok-clause-back c =
    let m = c.args.self.now in
    let us = c.args.undo.now.items in
    let u : Undo = record { key = c.in_ok-name.name; old = c.in_ok-old.old } in
    let value = c.in_ok-value.value in
    let key : c.in_ok-key.key ≡ u.key = c.in_ok-key.ensures ∙ sym c.in_ok-name.ensures in
    let is : u.old ≡ map.get m u.key = c.in_ok-old.ensures.ok ∙ ap (map.get m) key in
    let same : c.set.new.self ≡ map.insert m u.key value = c.in_ok-old.ensures.set ∙ ap (λ k. map.insert m k value) key in
    ap (λ n. undone n c.push.new.self.items) same ∙ ap (undone (map.insert m u.key value)) c.in-Ok.ensures.items ∙ back_noted m us u value is

pub returns-in-Err-clause-noted : goal.returns-in-Err-clause-noted
returns-in-Err-clause-noted c = λ h.
    let m = c.args.self.now in
    let us = c.args.undo.now.items in
    let u : Undo = record { key = c.in_ok-name.name; old = c.in_ok-old.old } in
    let value = c.in_ok-value.value in
    let key : c.in_ok-key.key ≡ u.key = c.in_ok-key.ensures ∙ sym c.in_ok-name.ensures in
    let is : u.old ≡ map.get m u.key = c.in_ok-old.ensures.ok ∙ ap (map.get m) key in
    let same : c.set.new.self ≡ map.insert m u.key value = c.in_ok-old.ensures.set ∙ ap (λ k. map.insert m k value) key in
    let returned : c.in-Err.failed.value ≡ u = c.in-Err.ensures.value_returned in
    let before : c.put_back.new.self ≡ m =
    c.put_back.ensures ∙ ap (λ (x : Undo). put_back c.set.new.self x.key x.old) returned ∙ ap (λ n. put_back n u.key u.old) same ∙ back m u.key value u.old is in
    subst (λ n. IsUndoOf n c.push.new.self.items) (sym before) (subst (IsUndoOf m) (sym c.in-Err.ensures.items) h)

pub returns-in-Err-clause-back : goal.returns-in-Err-clause-back
returns-in-Err-clause-back c =
    let m = c.args.self.now in
    let us = c.args.undo.now.items in
    let u : Undo = record { key = c.in_ok-name.name; old = c.in_ok-old.old } in
    let value = c.in_ok-value.value in
    let key : c.in_ok-key.key ≡ u.key = c.in_ok-key.ensures ∙ sym c.in_ok-name.ensures in
    let is : u.old ≡ map.get m u.key = c.in_ok-old.ensures.ok ∙ ap (map.get m) key in
    let same : c.set.new.self ≡ map.insert m u.key value = c.in_ok-old.ensures.set ∙ ap (λ k. map.insert m k value) key in
    let returned : c.in-Err.failed.value ≡ u = c.in-Err.ensures.value_returned in
    let before : c.put_back.new.self ≡ m =
    c.put_back.ensures ∙ ap (λ (x : Undo). put_back c.set.new.self x.key x.old) returned ∙ ap (λ n. put_back n u.key u.old) same ∙ back m u.key value u.old is in
    ap (λ n. undone n c.push.new.self.items) before ∙ ap (undone m) c.in-Err.ensures.items
