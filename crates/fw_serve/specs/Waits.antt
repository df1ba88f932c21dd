-- Calls that would have to wait.
use Rattle.std.specs.Prelude.{◌≢◌, pos, unwrap_or}
use Rattle.std.specs.IoError.{raw_os_error}
use Rattle.std.specs.declared.io.Error.{Error}

-- The call did not fail because it would have to wait (EAGAIN).
abbrev pub WouldNotWait : Error → Type 0
WouldNotWait error = unwrap_or (raw_os_error error) (pos 0) ≢ pos 11
