-- That each place of a row lies in the struct.
use Rattle.std.proofs.Common.{◌≡◌, ℕ, ◌+◌, ◌≤◌, Bool, true, false, leb, refl, arith}
use Rattle.std.specs.Prelude.{◌&&◌}
use Rattle.std.proofs.lemmas.Bool.Decides.{nat_tests}
use Rattle.fuse_protocol.specs.declared.opcode.Opcode.{Opcode}
use Rattle.fuse_protocol.specs.declared.opcode.Opcode.TheVariants as op
use Rattle.fuse_protocol.specs.declared.row.Row.{Row}
use Rattle.fuse_protocol.specs.Requests.{least_size, node_end, handle_end, asked_end, tail_end}
use Rattle.fuse_protocol.specs.Table.{row_at}

-- Each place of a row ends within the struct.
pub record LieInStruct (r : Row) : Type 0 where
  pub node : node_end r.node ≤ 40 + least_size r.fixed
  pub handle : handle_end r.handle ≤ 40 + least_size r.fixed
  pub asked : asked_end r.reply ≤ 40 + least_size r.fixed
  pub tail : tail_end r.tail ≤ 40 + least_size r.fixed

-- the same as a test, which computes at each row
abbrev lie_in_struct : Row → Bool
lie_in_struct r = (leb (node_end r.node) (40 + least_size r.fixed) && leb (handle_end r.handle) (40 + least_size r.fixed))
    && (leb (asked_end r.reply) (40 + least_size r.fixed) && leb (tail_end r.tail) (40 + least_size r.fixed))

first : (a b : Bool) → (a && b) ≡ true → a ≡ true
first true b both = refl
first false b both = both

second : (a b : Bool) → (a && b) ≡ true → b ≡ true
second true b both = both
second false b both = cc

is_below : (a b : ℕ) → leb a b ≡ true → a ≤ b
is_below a b below = grind (arith, nat_tests)

by_test : (r : Row) → lie_in_struct r ≡ true → LieInStruct r
by_test r lie = record {
  node = is_below _ _ (first _ _ (first _ _ lie));
  handle = is_below _ _ (second _ _ (first _ _ lie));
  asked = is_below _ _ (first _ _ (second _ _ lie));
  tail = is_below _ _ (second _ _ (second _ _ lie));
}

-- each line of the table passes it
at_each : (o : Opcode) → lie_in_struct (row_at o) ≡ true
at_each op.Lookup = refl
at_each op.Forget = refl
at_each op.Getattr = refl
at_each op.Setattr = refl
at_each op.Readlink = refl
at_each op.Symlink = refl
at_each op.Mknod = refl
at_each op.Mkdir = refl
at_each op.Unlink = refl
at_each op.Rmdir = refl
at_each op.Rename = refl
at_each op.Link = refl
at_each op.Open = refl
at_each op.Read = refl
at_each op.Write = refl
at_each op.Statfs = refl
at_each op.Release = refl
at_each op.Fsync = refl
at_each op.Setxattr = refl
at_each op.Getxattr = refl
at_each op.Listxattr = refl
at_each op.Removexattr = refl
at_each op.Flush = refl
at_each op.Init = refl
at_each op.Opendir = refl
at_each op.Readdir = refl
at_each op.Releasedir = refl
at_each op.Fsyncdir = refl
at_each op.Getlk = refl
at_each op.Setlk = refl
at_each op.Setlkw = refl
at_each op.Access = refl
at_each op.Create = refl
at_each op.Interrupt = refl
at_each op.Bmap = refl
at_each op.Destroy = refl
at_each op.Ioctl = refl
at_each op.Poll = refl
at_each op.NotifyReply = refl
at_each op.BatchForget = refl
at_each op.Fallocate = refl
at_each op.Readdirplus = refl
at_each op.Rename2 = refl
at_each op.Lseek = refl
at_each op.CopyFileRange = refl
at_each op.Setupmapping = refl
at_each op.Removemapping = refl
at_each op.Syncfs = refl
at_each op.Tmpfile = refl
at_each op.Statx = refl
at_each op.CopyFileRange64 = refl

pub places_in_struct : (o : Opcode) → LieInStruct (row_at o)
places_in_struct o = by_test (row_at o) (at_each o)
