-- The table of opcodes: how many requests of each were read, how many replies they had, and how long these took.
use Rattle.std.specs.Prelude.{◌≡◌, ℕ, zero, suc, ◌+◌, ◌-◌, ◌/◌, Bool, true, false, not, ◌&&◌, ◌||◌, if◌then◌else◌, List, [], ◌∷◌, ◌++◌, filter, Option, Some, None, codes, decimal, is_some, length, min, nat_eq, nat_le, nat_lt, unwrap_or}
use Rattle.std.specs.BTreeMap.{insert_entry, is_at}
use Rattle.std.specs.List.{count_by, filter_map, find}
use Rattle.std.specs.Map.{lookup, remove_entry}
use Rattle.std.specs.Option.{option_map_or}
use Rattle.std.specs.Ordering.{nat_cmp}
use Rattle.fk_fields.specs.Fields.{number_at}
use Rattle.fuse_protocol.specs.declared.opcode.Opcode.{Opcode}
use Rattle.fuse_protocol.specs.declared.opcode.Opcode.TheVariants as op
use Rattle.fuse_protocol.specs.Table.{code_of, name_of}
use Rattle.fuse_sessions.specs.declared.act.Taken.{Taken}
use Rattle.fuse_sessions.specs.declared.transfer.Transfer.{Transfer}
use Rattle.fuse_sessions.specs.declared.transfer.Transfer.TheVariants as transfer
use Rattle.fuse_sessions.specs.Frames.{error_in, number_in}
use Rattle.fuse_sessions.specs.Waiting.{reaches}
use Rattle.fuse_capture.specs.declared.line.CaptureLine.{CaptureLine}
use Rattle.fuse_capture.specs.declared.line.CaptureLine.TheVariants as line
use Rattle.fuse_capture.specs.Lines.{IsTextOf}
use Rattle.fuse_text.specs.Words.{words_of}
use Rattle.fuse_capture.specs.Readings.{IsTimeOf}
use Rattle.fw_check.specs.declared.exchanges.Exchanges.{Exchanges}
use Rattle.fw_check.specs.declared.exchanges.OpcodeCounts.{OpcodeCounts}
use Rattle.fw_check.specs.declared.exchanges.ReplyTime.{ReplyTime}
use Rattle.fw_check.specs.declared.exchanges.WaitingRequest.{WaitingRequest}
use Rattle.fw_check.specs.declared.heads.ReplyHead.{ReplyHead}
use Rattle.fw_check.specs.declared.options.CheckForm.{CheckForm}
use Rattle.fw_check.specs.declared.options.CheckForm.TheVariants as forms
use Rattle.fw_check.specs.declared.percentile.Percentiles.{Percentiles}
use Rattle.fw_check.specs.declared.rows.Row.{Row}
use Rattle.fw_check.specs.Json.{key_text, number_field, option_field, text_field}
use Rattle.fw_check.specs.Tallies.{one_if}

-- ---- times of lines

-- the time in nanoseconds that stands in the words of a transfer, or none
abbrev pub TimeIs : List (List ℕ) → Transfer → Option ℕ → Type 0
TimeIs words (transfer.Request bytes) time = (first : List ℕ) (rest : List (List ℕ)) → words ≡ first ∷ rest → IsTimeOf rest time
TimeIs words (transfer.Written bytes t) time = (first : List ℕ) (rest : List (List ℕ)) → words ≡ first ∷ rest → IsTimeOf rest time
TimeIs words t time = time ≡ None

-- the same, of a line that says the transfer
abbrev pub LineTimeIs : (line : List ℕ) → Transfer → Option ℕ → Type 0
LineTimeIs line t time = (text : List ℕ) → IsTextOf line text → TimeIs (words_of text) t time

-- ---- headers

-- all opcodes, in the order of their numbers
abbrev pub opcodes : List Opcode
opcodes = op.Lookup ∷ op.Forget ∷ op.Getattr ∷ op.Setattr ∷ op.Readlink ∷ op.Symlink ∷ op.Mknod ∷ op.Mkdir ∷ op.Unlink
    ∷ op.Rmdir ∷ op.Rename ∷ op.Link ∷ op.Open ∷ op.Read ∷ op.Write ∷ op.Statfs ∷ op.Release ∷ op.Fsync ∷ op.Setxattr
    ∷ op.Getxattr ∷ op.Listxattr ∷ op.Removexattr ∷ op.Flush ∷ op.Init ∷ op.Opendir ∷ op.Readdir ∷ op.Releasedir
    ∷ op.Fsyncdir ∷ op.Getlk ∷ op.Setlk ∷ op.Setlkw ∷ op.Access ∷ op.Create ∷ op.Interrupt ∷ op.Bmap ∷ op.Destroy
    ∷ op.Ioctl ∷ op.Poll ∷ op.NotifyReply ∷ op.BatchForget ∷ op.Fallocate ∷ op.Readdirplus ∷ op.Rename2 ∷ op.Lseek
    ∷ op.CopyFileRange ∷ op.Setupmapping ∷ op.Removemapping ∷ op.Syncfs ∷ op.Tmpfile ∷ op.Statx ∷ op.CopyFileRange64 ∷ []

-- the opcode of a number, if there is one
abbrev pub opcode_at : ℕ → Option Opcode
opcode_at code = find (λ o. nat_eq (code_of o) code) opcodes

-- 0 stands for all opcodes that are not known
abbrev pub known_code : ℕ → ℕ
known_code code = if is_some (opcode_at code) then code else 0

-- the number of a request's opcode; it is not known where the header is cut
abbrev pub code_in : List ℕ → ℕ
code_in bytes = if nat_lt (length bytes) 40 then 0 else known_code (number_at 4 4 bytes)

-- FORGET, NOTIFY_REPLY and BATCH_FORGET take no reply (`Table.table`)
abbrev pub takes_reply : (code : ℕ) → Bool
takes_reply code = not (nat_eq code 2) && (not (nat_eq code 41) && not (nat_eq code 42))

-- the number under which a request waits, if it takes a reply
abbrev pub waiting_number : List ℕ → Option ℕ
waiting_number bytes = if nat_lt (length bytes) 40 then None
    else if takes_reply (number_at 4 4 bytes) then Some (number_in bytes) else None

-- 0, or -1 to -511 in 32 bits
abbrev pub is_error_word : ℕ → Bool
is_error_word word = nat_eq word 0 || nat_le 4294966785 word

-- the header is that of a reply and no notification's, as `Frames.IsHead` has it
abbrev pub is_reply_of : (length stated error unique : ℕ) → Bool
is_reply_of size stated error unique = nat_eq stated size && (is_error_word error && not (nat_eq unique 0))

-- what the header of a reply says, by which a request waits no more, unless the device found none
abbrev pub reply_head : List ℕ → Taken → Option ReplyHead
reply_head bytes t = if nat_lt (length bytes) 16 || not (reaches t) then None
    else if is_reply_of (length bytes) (number_at 0 4 bytes) (error_in bytes) (number_in bytes)
    then Some (record { unique = number_in bytes; is_error = not (nat_eq (error_in bytes) 0) }) else None

-- ---- requests and replies

-- The requests that wait, by number; the counts of the opcodes that were read, by their numbers; and how long replies took.
pub record ExchangeState : Type 0 where
  pub waiting : List (ℕ × WaitingRequest)
  pub counts : List (ℕ × OpcodeCounts)
  pub times : List ReplyTime

abbrev pub exchanges_of : {A : Type 0} → Exchanges A → ExchangeState
exchanges_of e = record { waiting = e.waiting.entries; counts = e.counts.entries; times = e.times.items }

abbrev pub nothing_exchanged : ExchangeState
nothing_exchanged = record { waiting = []; counts = []; times = [] }

abbrev pub no_counts : OpcodeCounts
no_counts = record { requests = 0; replies = 0; errors = 0 }

-- the counts of an opcode
abbrev pub counts_at : (code : ℕ) → List (ℕ × OpcodeCounts) → OpcodeCounts
counts_at code counts = unwrap_or (lookup (is_at (nat_cmp code)) counts) no_counts

abbrev pub one_request : OpcodeCounts → OpcodeCounts
one_request n = record { requests = n.requests + 1; replies = n.replies; errors = n.errors }

abbrev pub one_reply : (is_error : Bool) → OpcodeCounts → OpcodeCounts
one_reply is_error n = record { requests = n.requests; replies = n.replies + 1; errors = n.errors + one_if is_error }

abbrev pub with_request : (code : ℕ) → List (ℕ × OpcodeCounts) → List (ℕ × OpcodeCounts)
with_request code counts = insert_entry nat_cmp counts code (one_request (counts_at code counts))

abbrev pub with_reply : (code : ℕ) → (is_error : Bool) → List (ℕ × OpcodeCounts) → List (ℕ × OpcodeCounts)
with_reply code is_error counts = insert_entry nat_cmp counts code (one_reply is_error (counts_at code counts))

-- how long a reply took, if both lines have a time; none, if it is the earlier
abbrev pub time_between : (from to : Option ℕ) → Option ℕ
time_between (Some from) (Some to) = Some (to - from)
time_between from to = None

abbrev pub with_time : (code : ℕ) → Option ℕ → List ReplyTime → List ReplyTime
with_time code None times = times
with_time code (Some n) times = times ++ record { code = code; nanoseconds = n } ∷ []

-- the request under a number waits from now on, if it has one
abbrev pub waiting_after : Option ℕ → WaitingRequest → List (ℕ × WaitingRequest) → List (ℕ × WaitingRequest)
waiting_after None request waiting = waiting
waiting_after (Some unique) request waiting = insert_entry nat_cmp waiting unique request

-- a request was read
abbrev pub after_request : ExchangeState → (bytes : List ℕ) → (time : Option ℕ) → ExchangeState
after_request e bytes time = record {
  waiting = waiting_after (waiting_number bytes) (record { code = code_in bytes; time = time }) e.waiting;
  counts = with_request (code_in bytes) e.counts;
  times = e.times;
}

-- this request has its reply
abbrev pub after_reply : ExchangeState → WaitingRequest → (is_error : Bool) → (time : Option ℕ) → ExchangeState
after_reply e request is_error time = record {
  waiting = e.waiting;
  counts = with_reply request.code is_error e.counts;
  times = with_time request.code (time_between request.time time) e.times;
}

abbrev pub without_request : ExchangeState → (unique : ℕ) → ExchangeState
without_request e unique = record {
  waiting = remove_entry (is_at (nat_cmp unique)) e.waiting;
  counts = e.counts;
  times = e.times;
}

-- a reply was written, to the request that waits under its number, if one does
abbrev pub replied_after : ExchangeState → ReplyHead → (time : Option ℕ) → Option WaitingRequest → ExchangeState
replied_after e head time None = e
replied_after e head time (Some request) = after_reply (without_request e head.unique) request head.is_error time

abbrev pub after_head : ExchangeState → ReplyHead → (time : Option ℕ) → ExchangeState
after_head e head time = replied_after e head time (lookup (is_at (nat_cmp head.unique)) e.waiting)

abbrev pub after_written : ExchangeState → Option ReplyHead → (time : Option ℕ) → ExchangeState
after_written e None time = e
after_written e (Some head) time = after_head e head time

-- with one transfer more, at its time
abbrev pub after_transfer : ExchangeState → Transfer → (time : Option ℕ) → ExchangeState
after_transfer e (transfer.Request bytes) time = after_request e bytes.now time
after_transfer e (transfer.Written bytes t) time = after_written e (reply_head bytes.now t) time
after_transfer e t time = e

-- the same, if the table is asked for
abbrev pub after_asked : (is_summary : Bool) → ExchangeState → Transfer → (time : Option ℕ) → ExchangeState
after_asked is_summary e t time = if is_summary then after_transfer e t time else e

-- ---- rows

-- how many of the times are no longer than this one
abbrev pub no_longer : (times : List ℕ) → ℕ → ℕ
no_longer times t = count_by (λ n. nat_le n t) times

abbrev pub smallest : List ℕ → Option ℕ
smallest [] = None
smallest (n ∷ ns) = Some (option_map_or (min n) (smallest ns) n)

-- the smallest of the times such that so many are no longer, if there is one
abbrev pub at_rank : (rank : ℕ) → (times : List ℕ) → Option ℕ
at_rank rank times = smallest (filter (λ t. nat_le rank (no_longer times t)) times)

-- The smallest times such that at least half, at least 90 of 100, and all are no longer.
abbrev pub percentiles_of : (times : List ℕ) → Percentiles
percentiles_of times = record {
  median = at_rank (length times - length times / 2) times;
  p90 = at_rank (length times - length times / 10) times;
  max = at_rank (length times) times;
}

-- how long the replies of an opcode took
abbrev pub times_of : (code : ℕ) → List ReplyTime → List ℕ
times_of code times = filter_map (λ t. if nat_eq t.code code then Some t.nanoseconds else None) times

abbrev pub row_of : (code : ℕ) → ExchangeState → Row
row_of code e = record { code = code; counts = counts_at code e.counts; times = percentiles_of (times_of code e.times) }

-- ---- text

abbrev pub name_of_code : ℕ → List ℕ
name_of_code code = option_map_or name_of (opcode_at code) (codes "unknown")

abbrev pub spaced : ℕ → List ℕ
spaced n = codes " " ++ decimal n

abbrev pub time_word : Option ℕ → List ℕ
time_word None = codes " -"
time_word (Some n) = spaced n

abbrev pub counts_words : OpcodeCounts → List ℕ
counts_words n = spaced n.requests ++ spaced n.replies ++ spaced n.errors

abbrev pub times_words : Percentiles → List ℕ
times_words p = time_word p.median ++ time_word p.p90 ++ time_word p.max

abbrev pub row_line : Row → List ℕ
row_line r = name_of_code r.code ++ counts_words r.counts ++ times_words r.times ++ codes "\n"

abbrev pub counts_keys : OpcodeCounts → List ℕ
counts_keys n = number_field (codes "requests") n.requests ++ number_field (codes "replies") n.replies
    ++ number_field (codes "errors") n.errors

abbrev pub times_keys : Percentiles → List ℕ
times_keys p = option_field (codes "median") p.median ++ option_field (codes "p90") p.p90 ++ option_field (codes "max") p.max

abbrev pub row_keys : Row → List ℕ
row_keys r = text_field (codes "opcode") (name_of_code r.code) ++ counts_keys r.counts ++ times_keys r.times

abbrev pub row_object : Row → List ℕ
row_object r = codes "{\"event\":\"opcode\"" ++ row_keys r ++ codes "}\n"

abbrev pub row_text : CheckForm → Row → List ℕ
row_text forms.Words r = row_line r
row_text forms.Json r = row_object r

-- the row of an opcode, if it was read
abbrev pub text_of_code : CheckForm → ExchangeState → (code : ℕ) → List ℕ
text_of_code form e code = if nat_eq (counts_at code e.counts).requests 0 then [] else row_text form (row_of code e)

abbrev pub heading : CheckForm → List ℕ
heading forms.Words = codes "opcode requests replies errors median p90 max\n"
heading forms.Json = []

-- the rows of the opcodes from 1 up to a number
abbrev pub rows_to : CheckForm → ExchangeState → ℕ → List ℕ
rows_to form e zero = []
rows_to form e (suc last) = rows_to form e last ++ text_of_code form e (suc last)

-- The table: a row for each opcode that was read, in the order of their numbers, and then one for all that are not known.
abbrev pub table_text : CheckForm → ExchangeState → List ℕ
table_text form e = heading form ++ rows_to form e 53 ++ text_of_code form e 0

-- ---- as lines are read

-- the time of a line's frame
abbrev pub line_time : CaptureLine → Option ℕ
line_time (line.Request f) = f.time
line_time (line.Written f t) = f.time
line_time l = None
