-- Which bodies of replies the device is to accept: it looks at sizes alone. (linux/fs/fuse/dev.c, `fuse_copy_out_args`)
use Rattle.std.specs.Prelude.{ℕ, ◌-◌, ◌==◌, Bool, nat_le, nat_lt, if◌then◌else◌, List, length}
use Rattle.fk_fields.specs.Fields.{number_at}
use Rattle.fuse_protocol.specs.declared.row.ReplyShape.{ReplyShape}
use Rattle.fuse_protocol.specs.declared.row.ReplyShape.TheVariants as reply
use Rattle.fuse_sessions.specs.declared.act.Fit.{Fit}
use Rattle.fuse_sessions.specs.declared.act.Fit.TheVariants.{Fits, FitsNot, MayFit}

-- a body that fits, or does not
abbrev pub fits_if : Bool → Fit
fits_if fits = if fits then Fits else FitsNot

-- one that fits, or may where pages are larger than 4,096 bytes or the caller has room for more
abbrev pub may_unless : Bool → Fit
may_unless fits = if fits then Fits else MayFit

-- A body of so many bytes behind no error, where so many were asked for. An INIT's reply may be shorter than its struct.
abbrev pub fit_of : ReplyShape → (asked size : ℕ) → Fit
fit_of reply.None asked size = MayFit
fit_of reply.Empty asked size = fits_if (size == 0)
fit_of reply.Entry asked size = fits_if (size == 128)
fit_of reply.Attributes asked size = fits_if (size == 104)
fit_of reply.Open asked size = fits_if (size == 16)
fit_of reply.EntryAndOpen asked size = fits_if (size == 144)
fit_of (reply.Number width) asked size = fits_if (size == 8)
fit_of (reply.Fixed count) asked size = fits_if (size == count)
fit_of (reply.AtMost place) asked size = fits_if (nat_le size asked)
fit_of (reply.Records place) asked size = fits_if (nat_le size asked)
fit_of (reply.EntryRecords place) asked size = fits_if (nat_le size asked)
fit_of (reply.Sized place) asked size = fits_if (if asked == 0 then size == 8 else nat_le size asked)
fit_of reply.Target asked size = may_unless (nat_lt size 4096)
-- `struct fuse_ioctl_out`, and a page or more
fit_of reply.Ioctl asked size = if nat_lt size 16 then FitsNot else may_unless (nat_le size 4112)
fit_of reply.Init asked size = fits_if (nat_le size 64)

-- the body of a frame: behind an error there is none
abbrev pub fit_in : ReplyShape → (asked : ℕ) → List ℕ → Fit
fit_in shape asked bytes =
    if number_at 4 4 bytes == 0 then fit_of shape asked (length bytes - 16) else fits_if (length bytes == 16)

-- The device may refuse what is no reply to the request, also where its size fits.
abbrev pub fit_of_another : Fit → Fit
fit_of_another Fits = MayFit
fit_of_another body = body
