-- The groups of faults of which the kernel that `drive` is never accused.
use Rattle.std.specs.Prelude.{Bool, true, false}
use Rattle.fuse_sessions.specs.declared.fault.Fault.{Fault}
use Rattle.fuse_sessions.specs.declared.fault.Fault.TheVariants as fault

-- A request that is no INTERRUPT has an odd number.
abbrev pub is_of_odd_numbers : Fault → Bool
is_of_odd_numbers fault.OddNumber = true
is_of_odd_numbers f = false

-- A request has the number of another.
abbrev pub is_of_used_numbers : Fault → Bool
is_of_used_numbers fault.NumberUsedTwice = true
is_of_used_numbers f = false

-- An INTERRUPT has not its request's number with the lowest bit set.
abbrev pub is_of_interrupt_numbers : Fault → Bool
is_of_interrupt_numbers fault.InterruptUnderAnotherNumber = true
is_of_interrupt_numbers f = false

-- The root is forgotten, or no lookup of a node.
abbrev pub is_of_empty_forgets : Fault → Bool
is_of_empty_forgets fault.ForgetOfTheRoot = true
is_of_empty_forgets fault.ForgetOfNoLookup = true
is_of_empty_forgets f = false

-- A request is none of a row.
abbrev pub is_of_shapes : Fault → Bool
is_of_shapes fault.MalformedRequest = true
is_of_shapes f = false

-- It is one where one thread uses the device: a number that does not rise, an INTERRUPT of nothing that waits, or one more
-- than is asked for.
abbrev pub is_of_one_thread : Fault → Bool
is_of_one_thread fault.NumberOutOfOrder = true
is_of_one_thread fault.InterruptOfNothing = true
is_of_one_thread fault.InterruptTooOften = true
is_of_one_thread f = false

-- A request is read once more, and nothing waits under its number.
abbrev pub is_of_resends : Fault → Bool
is_of_resends fault.ResendOfNothing = true
is_of_resends f = false

-- An INIT comes after another request.
abbrev pub is_of_late_inits : Fault → Bool
is_of_late_inits fault.InitNotFirst = true
is_of_late_inits f = false

-- A WRITE has more bytes than were agreed on.
abbrev pub is_of_large_writes : Fault → Bool
is_of_large_writes fault.WriteTooLarge = true
is_of_large_writes f = false

-- A request comes before INIT's reply is accepted.
abbrev pub is_of_early_requests : Fault → Bool
is_of_early_requests fault.RequestBeforeInit = true
is_of_early_requests f = false

-- A forget is of more lookups than are counted.
abbrev pub is_of_large_forgets : Fault → Bool
is_of_large_forgets fault.ForgetOfMoreThanIsCounted = true
is_of_large_forgets f = false

-- A request names a node that is not counted.
abbrev pub is_of_uncounted_nodes : Fault → Bool
is_of_uncounted_nodes fault.NodeNotCounted = true
is_of_uncounted_nodes f = false
