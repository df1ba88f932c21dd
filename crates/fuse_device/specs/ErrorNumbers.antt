-- What the error numbers of reads and writes say. (errno.h; linux/fs/fuse/dev.c)
use Rattle.std.specs.Prelude.{ℤ, pos, Bool, Result, Ok, Err, if◌then◌else◌, ◌||◌, ◌&&◌}
use Rattle.std.specs.Ordering.{int_eq}
use Rattle.fuse_spec.specs.declared.WriteResult.{WriteResult}
use Rattle.fuse_spec.specs.declared.WriteResult.TheVariants.{NoEntry, Invalid}
use Rattle.fuse_device.specs.declared.device.DeviceEnd.{DeviceEnd}
use Rattle.fuse_device.specs.declared.device.DeviceEnd.TheVariants.{Ended, Failed}

-- whether a read that fails so is tried again: EINTR, EAGAIN, and ENOENT, as the request went before it was read
abbrev pub is_read_again : ℤ → Bool
is_read_again number = int_eq number (pos 4) || (int_eq number (pos 11) || int_eq number (pos 2))

-- whether a read that fails so says that no frame came in time: EAGAIN, where the device times out
abbrev pub is_time_over : (times_out : Bool) → ℤ → Bool
is_time_over times_out number = times_out && int_eq number (pos 11)

-- whether a write that fails so is tried again: EINTR
abbrev pub is_written_again : ℤ → Bool
is_written_again number = int_eq number (pos 4)

-- The end of a device a call of which failed so: ENODEV, EPIPE, ECONNABORTED and ECONNRESET are the other side's end.
abbrev pub end_of : ℤ → DeviceEnd
end_of number =
    if int_eq number (pos 19) || (int_eq number (pos 32) || (int_eq number (pos 103) || int_eq number (pos 104)))
    then Ended else Failed

-- The result of a packet whose write failed so: ENOENT and EINVAL refuse it.
abbrev pub result_of : ℤ → Result WriteResult DeviceEnd
result_of number =
    if int_eq number (pos 2) then Ok NoEntry else (if int_eq number (pos 22) then Ok Invalid else Err (end_of number))
