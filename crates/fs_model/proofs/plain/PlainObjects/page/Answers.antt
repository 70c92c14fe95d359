use Rattle.std.proofs.Common.{Option, Some, sym, ap, ◌∙◌}
use Rattle.std.specs.Option.{option_copied, option_map}
use Rattle.fs_model.specs.Objects.{Shelf}
use Rattle.fs_model.specs.Listing.{page_of, from_cursor}
use Rattle.fs_model.proofs.Maps.{colls_suit, get-view}
use Rattle.fs_model.proofs.plain.PlainObjects.page.Goals as goal

pub returns-in-None : goal.returns-in-None
returns-in-None c =
    rw (← c.self.view_is)
    (ap (λ (m : Option Shelf). option_map (λ s. page_of (from_cursor s (option_copied c.args.from)) c.args.max) m) (c.in-None.ensures.value ∙ sym (get-view colls_suit _ _)))

pub returns-in_ok-page-in-Some : goal.returns-in_ok-page-in-Some
returns-in_ok-page-in-Some c =
    rw (← c.self.view_is)
    (ap Some c.in_ok-page-in-Some.ensures
    ∙ ap (λ (m : Option Shelf). option_map (λ s. page_of (from_cursor s (option_copied c.args.from)) c.args.max) m) (c.in-Some.ensures.value ∙ sym (get-view colls_suit _ _)))
