-- The cached names once a new one is bound.
use Rattle.std.specs.Prelude.{Some}
use Rattle.fuse_spec.specs.declared.Dentry.{Dentry}
use Rattle.fuse_spec.specs.Values.Maps.{Place, NameMap, put_name}
use Rattle.fk_syscalls.specs.declared.new_name.NewName.{NewName}

abbrev pub new_place_of : NewName → Place
new_place_of new = (new.directory, new.name.now)

abbrev pub with_new_name : NameMap Dentry → NewName → NameMap Dentry
with_new_name names new = put_name names (new_place_of new) (record { target = Some new.node; until = new.until })
