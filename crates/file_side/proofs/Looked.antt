-- What a look over a tree finds is that it is laid out.
use Rattle.fs_names.specs.declared.settings.Settings.{Settings}
use Rattle.tree_api.specs.Tree.{Tree}
use Rattle.tree_places.specs.Images.{IsLaid}
use Rattle.store_walk.specs.Walked.{IsWalked}

pub walked_laid : (set : Settings) (t : Tree) → IsWalked set t → IsLaid set t
walked_laid set t is = record { own = record { building = is.building; places = is.places; removed = is.removed; target = is.target; clear = is.clear }; whole = is.whole }

pub laid_walked : (set : Settings) (t : Tree) → IsLaid set t → IsWalked set t
laid_walked set t is = record {
  building = is.own.building;
  places = is.own.places;
  removed = is.own.removed;
  target = is.own.target;
  clear = is.own.clear;
  whole = is.whole;
}
