use Rattle.served_sessions.proofs.Never.{bodies_never, counts_never, entries_never, files_never, flags_never, generations_never, heads_never, notices_never, numbers_never, pairs_never, server_never}
use Rattle.served_sessions.proofs.never_accused.served_is_unaccused.Goals as goal

pub returns : goal.returns
returns c = λ old log new serves. record {
  frames = heads_never old log new serves;
  notifications = notices_never old log new serves;
  replies = numbers_never old log new serves;
  flags = flags_never old log new serves;
  bodies = bodies_never old log new serves;
  counts = counts_never old log new serves;
  entries = entries_never old log new serves;
  generations = generations_never old log new serves;
  files = files_never old log new serves;
  pairs = pairs_never old log new serves;
  all = server_never old log new serves;
}
