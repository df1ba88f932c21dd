-- The two worlds side by side, moved by the same events.
use Rattle.std.specs.Prelude.{◌≡◌, ℕ, ◌+◌, cond, List, [], ◌∷◌, ◌++◌, Option, Some, None, Ok, Err, map, nat_eq, find, option_map}
use Rattle.fuse_spec.specs.Server.Nodes.{HeldNode, file_of}
use Rattle.fuse_spec.specs.Kernel.Kernel.{request_of}
use Rattle.fuse_spec.specs.World.Worlds.{World, first_world}
use Rattle.fuse_spec.specs.World.Events.{Event, Outcome}
use Rattle.fuse_spec.specs.World.Records.{Record, outcome, refused, answers_of, collected}
use Rattle.fuse_spec.specs.World.Steps.{Stepped, step}
use Rattle.fuse_spec.specs.Reference.Plain.{Plain, first_plain}
use Rattle.fuse_spec.specs.Reference.PlainSteps.{takes}
use Rattle.fuse_spec.specs.Claim.Runs.{plain_collected}
use Rattle.fuse_spec.specs.World.Events as event
use Rattle.fuse_spec.specs.declared.Counted.{Counted}

-- The least id from this one up that isn't among the rows, which stand in rising id from there.
abbrev pub least_free : List (ℕ × HeldNode) → ℕ → ℕ
least_free [] id = id
least_free (e ∷ rows) id = cond (nat_eq e.0 id) (least_free rows (id + 1)) id

-- The id of a row, if there is one, and else this free one.
abbrev pub id_or : ℕ → Option (ℕ × HeldNode) → ℕ
id_or free None = free
id_or free (Some e) = e.0

-- The id that the file has, or else the least free one.
abbrev pub chosen : World → ℕ → ℕ
chosen w file = id_or (least_free w.server.nodes.rows 2)
    (find (λ (e : ℕ × HeldNode). nat_eq e.1.file file) w.server.nodes.rows)

-- The two worlds, and what each has recorded. The plain world is gone once it can't take the steps of an outcome.
pub record Both : Type 0 where
  pub world : World
  pub plain : Option Plain
  pub records : List Record
  pub plain_records : List Record

-- This number, if there is one, and else the other.
abbrev pub number_or : ℕ → Option ℕ → ℕ
number_or other None = other
number_or other (Some n) = n

-- The label that the plain world's step takes: the unique that the kernel gives next, that of the request of the call
-- that is signalled, or the file of a dropped name's directory.
abbrev pub label : World → Event → ℕ
label w (event.drop_name node name) = file_of w.server.nodes node
label w (event.intr call fatal) = number_or 0 (request_of w.kernel call)
label w other = w.kernel.queues.next

-- The plain world after an event with this outcome, if it takes the step.
abbrev pub taken : World → Event → Outcome → Option Plain → Option Plain
taken w e o None = None
taken w e o (Some p) = takes (label w e) p e o

-- The answers that the plain world gave.
abbrev pub plain_answers : Option Plain → List Record
plain_answers None = []
plain_answers (Some p) = answers_of p.vfs.answers

-- Both worlds after an event, with what each records and with the answers collected; a refused event is recorded alone.
abbrev pub moved : Both → Event → Stepped → Both
moved b e (Err refusal) = record b {
  records = b.records ++ refused refusal ∷ [];
  plain_records = b.plain_records ++ refused refusal ∷ [];
}
moved b e (Ok parts) =
    let p = taken b.world e parts.0 b.plain in
    record {
      world = collected parts.1;
      plain = option_map plain_collected p;
      records = b.records ++ (outcome parts.0 ∷ answers_of parts.1.kernel.vfs.answers);
      plain_records = b.plain_records ++ (outcome parts.0 ∷ plain_answers p);
    }

-- Both worlds after a list of events, one after another.
abbrev pub after_all : Both → List Event → Both
after_all b [] = b
after_all b (e ∷ events) = after_all (moved b e (step (chosen b.world) b.world e)) events

-- Both worlds, with nothing recorded.
abbrev pub emptied : Both → Both
emptied b = record b { records = []; plain_records = [] }

-- Both worlds before the first event.
abbrev pub start : Both
start = record { world = first_world; plain = Some first_plain; records = []; plain_records = [] }

-- Both worlds recorded this.
abbrev pub IsRecorded : Both → List Record → Type 0
IsRecorded b expected = (b.records ≡ expected) × (b.plain_records ≡ expected)

-- The kernel's nodes and the server's: id, generation and count.
abbrev pub nodes_shown : Both → List (ℕ × ℕ × ℕ) × List (ℕ × ℕ × ℕ)
nodes_shown b = (
  map (λ (e : ℕ × Counted). (e.0, e.1.generation, e.1.count)) b.world.kernel.nodes,
  map (λ (e : ℕ × HeldNode). (e.0, e.1.generation, e.1.count)) b.world.server.nodes.rows,
)
