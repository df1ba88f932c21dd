-- The opcode of a number.
use Rattle.std.proofs.Common.{◌≡◌, ◌≢◌, ℕ, Bool, true, false, cond, List, [], ◌∷◌, Some, None, refl, sym, ◌∙◌, ap, arith, rules, nat_eq}
use Rattle.std.specs.List.{find}
use Rattle.fuse_protocol.specs.declared.opcode.Opcode.{Opcode}
use Rattle.fuse_protocol.specs.declared.opcode.Opcode.TheVariants as op
use Rattle.fuse_protocol.specs.Table.{code_of}
use Rattle.fw_check.specs.Summary.{known_code, opcode_at, opcodes}

other : (a b : ℕ) → a ≢ b → nat_eq a b ≡ false
other a b apart = by (nat_eq a b) refl
  where
    by : (b' : Bool) → nat_eq a b ≡ b' → b' ≡ false
    by true e = absurd (apart (grind (arith, rules)))
    by false e = refl

none_in : (code : ℕ) → ((o : Opcode) → code_of o ≢ code) → (os : List Opcode) → find (λ o. nat_eq (code_of o) code) os ≡ None
none_in code apart [] = refl
none_in code apart (o ∷ os) =
    ap (λ b. cond b (Some o) (find (λ p. nat_eq (code_of p) code) os)) (other (code_of o) code (apart o)) ∙ none_in code apart os

-- no opcode has the number
pub opcode_none : (code : ℕ) → ((o : Opcode) → code_of o ≢ code) → opcode_at code ≡ None
opcode_none code apart = none_in code apart opcodes

-- each opcode is found by its number
found : (o : Opcode) → opcode_at (code_of o) ≡ Some o
found op.Lookup = refl
found op.Forget = refl
found op.Getattr = refl
found op.Setattr = refl
found op.Readlink = refl
found op.Symlink = refl
found op.Mknod = refl
found op.Mkdir = refl
found op.Unlink = refl
found op.Rmdir = refl
found op.Rename = refl
found op.Link = refl
found op.Open = refl
found op.Read = refl
found op.Write = refl
found op.Statfs = refl
found op.Release = refl
found op.Fsync = refl
found op.Setxattr = refl
found op.Getxattr = refl
found op.Listxattr = refl
found op.Removexattr = refl
found op.Flush = refl
found op.Init = refl
found op.Opendir = refl
found op.Readdir = refl
found op.Releasedir = refl
found op.Fsyncdir = refl
found op.Getlk = refl
found op.Setlk = refl
found op.Setlkw = refl
found op.Access = refl
found op.Create = refl
found op.Interrupt = refl
found op.Bmap = refl
found op.Destroy = refl
found op.Ioctl = refl
found op.Poll = refl
found op.NotifyReply = refl
found op.BatchForget = refl
found op.Fallocate = refl
found op.Readdirplus = refl
found op.Rename2 = refl
found op.Lseek = refl
found op.CopyFileRange = refl
found op.Setupmapping = refl
found op.Removemapping = refl
found op.Syncfs = refl
found op.Tmpfile = refl
found op.Statx = refl
found op.CopyFileRange64 = refl

pub opcode_some : (code : ℕ) (o : Opcode) → code_of o ≡ code → opcode_at code ≡ Some o
opcode_some code o is = ap opcode_at (sym is) ∙ found o
