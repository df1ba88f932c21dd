-- The cached names, as contracts see them.
use Rattle.std.specs.Prelude.{ℕ, Bool, ◌||◌, Option, Some, None, IsSome, nat_eq, refl}
use Rattle.std.specs.Coded.{Coded, code_by, coded×, coded_ℕ, coded_list, coded_option}
use Rattle.std.specs.List.{list_any}
use Rattle.fuse_spec.specs.declared.Dentry.{Dentry}
use Rattle.fuse_spec.specs.contracts.Dentry.{the_row}
use Rattle.fuse_spec.specs.Values.Maps.{Place, NameMap, get_name, put_name, remove_name}
use Rattle.fuse_spec.specs.Kernel.Kernel.{leads_to}
use Rattle.fk_dentry.specs.declared.found.Found.{Found}
use Rattle.fk_dentry.specs.declared.found.Found.TheVariants.{Node, Missing, Unknown}

-- The names that are bound; and each name that has room, with its dentry if it has one.
pub record NamesInForce : Type 0 where
  pub names : NameMap Dentry
  pub slots : NameMap (Option Dentry)

abbrev pub place_code : Coded Place
place_code = coded× coded_ℕ (coded_list coded_ℕ)

abbrev dentry_code : Coded Dentry
dentry_code = the_row.coded

-- the names are stored as the pair of these fields
abbrev pub names_code : Coded NamesInForce
names_code =
    code_by
    (NameMap Dentry × NameMap (Option Dentry))
    (coded× (coded_list (coded× place_code dentry_code)) (coded_list (coded× place_code (coded_option dentry_code))))
    (λ n. (n.names, n.slots))
    (λ p. record { names = p.0; slots = p.1 })
    (λ _. refl)

-- To bind the name takes no memory.
abbrev pub HasRoom : NamesInForce → Place → Type 0
HasRoom names place = IsSome (get_name names.slots place)

-- The names once this stands under a name, or nothing.
abbrev pub restored : NameMap Dentry → Place → Option Dentry → NameMap Dentry
restored names place None = remove_name names place
restored names place (Some dentry) = put_name names place dentry

-- What a name that is valid leads to.
abbrev pub found_by : Option (Option ℕ) → Found
found_by None = Unknown
found_by (Some None) = Missing
found_by (Some (Some node)) = Node node

-- A dentry stands in the node or leads to it.
abbrev pub names_the_node : ℕ → NameMap Dentry → Bool
names_the_node node names = list_any (λ (e : Place × Dentry). nat_eq e.0.0 node || leads_to node e.1.target) names
