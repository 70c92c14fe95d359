-- Name maps, and changes of names.
use Rattle.std.specs.Prelude.{◌≡◌, ℕ, suc, List, [], ◌∷◌, ◌++◌, ◌&&◌, if◌then◌else◌, map, All, Bool, true, nat_lt, Option, Some, None}
use Rattle.std.specs.BTreeMap.{get}
use Rattle.std.specs.List.Sorted.{IsStrictlySortedBy}
use Rattle.tree_api.specs.Tree.{Path, Names}
use Rattle.tree_memory.specs.Paths.{path_cmp, same_path}
use Rattle.tree_memory.specs.declared.names.NameMap.{NameMap}
use Rattle.tree_memory.specs.declared.names.Name.{Name}
use Rattle.tree_memory.specs.declared.event.Edit.{Edit}
use Rattle.tree_memory.specs.declared.event.Edit.TheVariants.{Link, Unlink}

abbrev pub names_at : NameMap → Names
names_at m q = get path_cmp m.map q

abbrev pub no_names : Names
no_names q = None

-- with this node at p
abbrev pub put_at : Path → ℕ → Names → Names
put_at p n at q = if same_path p q then Some n else at q

-- with nothing at p
abbrev pub gone_at : Path → Names → Names
gone_at p at q = if same_path p q then None else at q

abbrev pub edited_once : Edit → Names → Names
edited_once (Link p n) at = put_at p n at
edited_once (Unlink p) at = gone_at p at

abbrev pub edited : List Edit → Names → Names
edited [] at = at
edited (e ∷ es) at = edited es (edited_once e at)

abbrev pub find_name : List Name → Path → Option ℕ
find_name [] r = None
find_name (x ∷ xs) r = if same_path r x.rest then Some x.node else find_name xs r

-- the list of all that stands below d, by what follows d, in the order of paths
pub record IsBelow (at : Names) (d : Path) (l : List Name) : Type 0 where
  pub find : (r : Path) → find_name l r ≡ at (d ++ r)
  pub each : All (λ x. at (d ++ x.rest) ≡ Some x.node) l
  pub rises : IsStrictlySortedBy path_cmp (map (λ x. x.rest) l)

-- changes by which all these below d go, and come
abbrev pub unlinks : Path → List Name → List Edit
unlinks d [] = []
unlinks d (x ∷ xs) = Unlink (d ++ x.rest) ∷ unlinks d xs

abbrev pub links : Path → List Name → List Edit
links d [] = []
links d (x ∷ xs) = Link (d ++ x.rest) x.node ∷ links d xs

-- these paths with numbers, the first getting this one
abbrev pub numbered : ℕ → List Path → List Name
numbered first [] = []
numbered first (p ∷ ps) = record { rest = p; node = first } ∷ numbered (suc first) ps

-- all links lead to numbers below k
abbrev pub links_below : ℕ → List Edit → Bool
links_below k [] = true
links_below k (Link p n ∷ es) = nat_lt n k && links_below k es
links_below k (Unlink p ∷ es) = links_below k es
