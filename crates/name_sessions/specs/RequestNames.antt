-- The name acts of a request.
use Rattle.std.specs.Prelude.{ℕ, ◌-◌, ◌==◌, not, Bool, true, false, List, [], ◌∷◌, ◌++◌, Option, Some, None, slice_get, nat_le, bit_and, if◌then◌else◌}
use Rattle.std.specs.Option.{option_map}
use Rattle.fuse_protocol.specs.declared.opcode.Opcode.{Opcode}
use Rattle.fuse_protocol.specs.declared.opcode.Opcode.TheVariants as op
use Rattle.fuse_protocol.specs.Places.{number_in, places_at}
use Rattle.fuse_protocol.specs.Requests.{RequestMessage}
use Rattle.fuse_sessions.specs.RequestActs.{or_none, resend_bit}
use Rattle.name_sessions.specs.Names.{Name}
use Rattle.name_sessions.specs.NameActs.{NameAct, NamesAsked, Asks, Ends, Removes}

-- a name in a directory
abbrev pub name_in : (parent : ℕ) → Option (List ℕ) → Option Name
name_in parent bytes = option_map (λ bs. (parent, bs)) bytes

-- The first name of a request is in the directory of its header, and RENAME's second in the further one. (linux/fuse.h)
abbrev pub first_name : RequestMessage → Option Name
first_name m = name_in m.nodeid (slice_get m.names 0)

abbrev pub second_name : RequestMessage → Option Name
second_name m = name_in (or_none m.node) (slice_get m.names 1)

-- RENAME_EXCHANGE, 2, and RENAME_WHITEOUT, 4, leave a file at the old name. (rename(2))
abbrev pub leaves_a_file : RequestMessage → Bool
leaves_a_file m = not (bit_and (or_none (number_in (places_at op.Rename2).flags m.fixed)) 6 == 0)

abbrev pub making : Option Name → Option NamesAsked
making name = Some (record { removed = None; made = name; listed = None })

abbrev pub removing : Option Name → Option NamesAsked
removing name = Some (record { removed = name; made = None; listed = None })

abbrev pub renaming : (old new : Option Name) → Option NamesAsked
renaming old new = Some (record { removed = old; made = new; listed = None })

abbrev pub listing : (parent : ℕ) → Option NamesAsked
listing parent = Some (record { removed = None; made = None; listed = Some parent })

-- what a request asks of names, if anything
abbrev pub names_asked : Opcode → RequestMessage → Option NamesAsked
names_asked op.Lookup m = making (first_name m)
names_asked op.Mknod m = making (first_name m)
names_asked op.Mkdir m = making (first_name m)
names_asked op.Symlink m = making (first_name m)
names_asked op.Link m = making (first_name m)
names_asked op.Create m = making (first_name m)
names_asked op.Unlink m = removing (first_name m)
names_asked op.Rmdir m = removing (first_name m)
names_asked op.Rename m = renaming (first_name m) (second_name m)
names_asked op.Rename2 m = if leaves_a_file m then making (second_name m) else renaming (first_name m) (second_name m)
names_asked op.Readdirplus m = listing m.nodeid
names_asked o m = None

-- These are to take their first name away, or to give it to another file.
abbrev pub is_removal : Opcode → Bool
is_removal op.Unlink = true
is_removal op.Rmdir = true
is_removal op.Rename = true
is_removal op.Rename2 = true
is_removal o = false

abbrev pub removed_name : Opcode → RequestMessage → Option Name
removed_name o m = if is_removal o then first_name m else None

abbrev pub removal : Option Name → List NameAct
removal None = []
removal (Some name) = Removes name ∷ []

-- the request waits, or another that waited under its number does so no more
abbrev pub waiting : ℕ → Option NamesAsked → List NameAct
waiting unique None = Ends unique ∷ []
waiting unique (Some asked) = Asks unique asked ∷ []

-- A request that is read once more was judged before, under its first number. (FUSE_NOTIFY_RESEND)
abbrev pub beginning : Opcode → RequestMessage → List NameAct
beginning o m = if nat_le resend_bit m.unique then Ends (m.unique - resend_bit) ∷ [] else removal (removed_name o m)

-- The number of an INTERRUPT and of a NOTIFY_REPLY is none of a request that waits. (linux/fuse.h)
abbrev pub takes_no_reply : Opcode → Bool
takes_no_reply op.Forget = true
takes_no_reply op.BatchForget = true
takes_no_reply op.Interrupt = true
takes_no_reply op.NotifyReply = true
takes_no_reply o = false

-- The name acts of a request that its frame is: none, where it takes no reply.
abbrev pub request_acts : Opcode → RequestMessage → List NameAct
request_acts o m = if takes_no_reply o then [] else beginning o m ++ waiting m.unique (names_asked o m)
