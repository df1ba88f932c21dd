-- What is known of a session as a whole.
use Rattle.std.specs.Prelude.{◌≡◌, ℕ, Bool, false, not, nat_lt, max, Option, Some, None}
use Rattle.fuse_sessions.specs.declared.act.OpenKind.TheVariants as kind
use Rattle.fuse_sessions.specs.declared.act.Act.{Act}
use Rattle.fuse_sessions.specs.Sessions.{Session, latest}
use Rattle.fuse_sessions.specs.Numbers.{was_anything_read, has_agreed, has_several_readers, has_several_writers, has_resent, has_ended, is_out_of_order, is_reading, is_agreement, is_of_several, is_of_writers, is_resend, reads_request_from}
use Rattle.fuse_sessions.specs.OpenFiles.{has_none, opens_none}
use Rattle.fuse_sessions.specs.Faults.{agreed_write}
use Rattle.fuse_judge.specs.declared.flags.Flags.{Flags}

-- the highest number is this one or a higher one
abbrev pub is_from : ℕ → Option ℕ → Bool
is_from unique None = false
is_from unique (Some highest) = not (nat_lt highest unique)

-- the higher of two, where there are any
abbrev pub highest_with : Option ℕ → Option ℕ → Option ℕ
highest_with (Some a) (Some b) = Some (max a b)
highest_with (Some a) None = Some a
highest_with None b = b

-- An act leaves what is known as it is, if it does not show the connection's end.
pub record LeavesFlags (a : Act) : Type 0 where
  pub began : is_reading a ≡ false
  pub agreed : is_agreement a ≡ false
  pub max_write : agreed_write a ≡ None
  pub several : is_of_several a ≡ false
  pub writers : is_of_writers a ≡ false
  pub resent : is_resend a ≡ false
  pub no_files : opens_none kind.File a ≡ false
  pub no_directories : opens_none kind.Directory a ≡ false
  pub highest : (unique : ℕ) → reads_request_from unique a ≡ false

-- This is true of the session.
pub record AreFlags (s : Session) (flags : Flags) : Type 0 where
  pub began : flags.began ≡ was_anything_read s
  pub agreed : flags.agreed ≡ has_agreed s
  pub max_write : flags.max_write ≡ latest agreed_write s
  pub several : flags.has_several_readers ≡ has_several_readers s
  pub writers : flags.has_several_writers ≡ has_several_writers s
  pub resent : flags.has_resent ≡ has_resent s
  pub ended : flags.ended ≡ has_ended s
  pub no_files : flags.opens_no_files ≡ has_none s kind.File
  pub no_directories : flags.opens_no_directories ≡ has_none s kind.Directory
  pub highest : (unique : ℕ) → is_out_of_order s unique ≡ is_from unique flags.highest
