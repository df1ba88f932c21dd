-- How INTERRUPTs are taken.
use Rattle.std.specs.Prelude.{◌≡◌, ℕ, Some}
use Rattle.fuse_spec.specs.Values.Numbers.{eagain}
use Rattle.fuse_spec.specs.Files.Operations.{failed}
use Rattle.fuse_spec.specs.Kernel.Messages.{interrupt}
use Rattle.fuse_spec.specs.Server.Server.{Server, sending}
use Rattle.fuse_spec.specs.Server.Taking.{taking}
use Rattle.fuse_spec.specs.declared.Taken.TheVariants.{Again}
use Rattle.fs_server.specs.declared.server.Taken.{Taken}
use Rattle.fs_server.specs.Effects.{copy_of}

-- An INTERRUPT is taken so.
pub record Interrupts {A : Type 0} (old : Server) (unique original : ℕ) (taken : Taken A) (new : Server) : Type 0 where
  pub under : taken.unique ≡ unique
  pub word : taken.word ≡ (taking old unique (interrupt original)).word
  pub after : new ≡ (taking old unique (interrupt original)).server
  pub copy : taken.sent ≡ copy_of old.next_copy unique (taking old unique (interrupt original)).reply

-- An INTERRUPT is answered EAGAIN so.
pub record AsksAgain {A : Type 0} (old : Server) (unique : ℕ) (taken : Taken A) (new : Server) : Type 0 where
  pub under : taken.unique ≡ unique
  pub word : taken.word ≡ Again
  pub after : new ≡ sending old unique (failed eagain) old.next_copy
  pub copy : taken.sent ≡ Some (record { number = old.next_copy; unique = unique; wire = failed eagain })
