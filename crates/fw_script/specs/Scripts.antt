-- What a script is, which events it has, and what its run prints.
use Rattle.std.specs.Prelude.{◌≡◌, ◌+◌, ◌⊎◌, ◌++◌, ◌∷◌, [], ℕ, Bool, true, false, List, All, Option, None, length, slice_index, codes, map}
use Rattle.std.specs.Prelude.{IfSome}
use Rattle.std.specs.Io.KnownBytes.{Appends}
use Rattle.fuse_spec.specs.World.Worlds.{World, first_world}
use Rattle.fuse_spec.specs.declared.NodeCount.{NodeCount}
use Rattle.fk_lookup_count.specs.CountedNodes.{listed_counts}
use Rattle.fs_nodes.specs.Rows.{listed_nodes}
use Rattle.fw_link.specs.Traffic.{Traffic}
use Rattle.fw_script.specs.Lines.{WordsFaultIs, LineHasWords}
use Rattle.fuse_text.specs.Lines.{lines_of}
use Rattle.fuse_text.specs.Nodes.{nodes_text}
use Rattle.fuse_text.specs.Outputs.{AppendsSome}
use Rattle.fw_script.specs.Records.{event_text}
use Rattle.fuse_text.specs.Words.{words_of}
use Rattle.fw_script.specs.declared.line.LineFault.{LineFault}
use Rattle.fw_script.specs.declared.line.Line.{Line}
use Rattle.fw_script.specs.declared.line.Line.TheVariants as lines
use Rattle.fw_world.specs.declared.event.Event.{Event}
use Rattle.fw_world.specs.declared.event.Outcome.{Outcome}
use Rattle.fw_world.specs.declared.record.Record.{Record}
use Rattle.fw_world.specs.declared.record.Record.TheVariants as records
use Rattle.fw_world.specs.Frames.{IsFrameOf}
use Rattle.fw_world.specs.OverLinks.{RunsOver, RunsOneOver, session_of}
use Rattle.fw_world.specs.Runs.{RunsAs, RunsOne}
use Rattle.fw_world.specs.Values.{event_of, run_record_of}

-- ---- lines

-- a line with no event: an empty one, or one that begins with `#`
abbrev pub IsPassedOver : List ℕ → Type 0
IsPassedOver line = (length line ≡ 0) ⊎ (slice_index line 0 ≡ 35)

-- a line of a good script
abbrev pub IsGoodLine : List ℕ → Type 0
IsGoodLine line = IsPassedOver line ⊎ ((l : Line) × LineHasWords l (words_of line))

-- a script that is run
abbrev pub IsGoodScript : List ℕ → Type 0
IsGoodScript script = All IsGoodLine (lines_of script)

-- what is wrong with a line
abbrev pub LineFaultIs : List ℕ → LineFault → Type 0
LineFaultIs line fault = ¬ (IsPassedOver line) × WordsFaultIs (words_of line) fault

-- the first line with a fault, by its number from 1 on
abbrev pub FirstFaultIs : List ℕ → ℕ → LineFault → Type 0
FirstFaultIs script number fault =
    (before : List (List ℕ)) × (line : List ℕ) × (after : List (List ℕ)) × (lines_of script ≡ before ++ line ∷ after)
    × All IsGoodLine before × (number ≡ length before + 1) × LineFaultIs line fault

-- the event that a line says
abbrev pub LineSaysEvent : List ℕ → Event → Type 0
LineSaysEvent line event = LineHasWords (lines.Event event) (words_of line)

-- a line that asks for the nodes of kernel and server
abbrev pub SaysShow : List ℕ → Type 0
SaysShow line = words_of line ≡ codes "show" ∷ []

-- ---- what is printed

-- What runs a script, by its states: one event with its records leads from one state to another, a state has this frame
-- of an outcome, and these nodes are counted by its kernel and held by its server.
pub record Machine (S A : Type 0) : Type 1 where
  pub runs : S → Event → List (Record A) → S → Type 0
  pub puts : S → Outcome → Option (List ℕ) → Type 0
  pub counted : S → List NodeCount
  pub held : S → List NodeCount

-- The frame that is printed after an event with these records: under hex that of its outcome in the state after it.
abbrev pub IsPut : {S A : Type 0} → Machine S A → Bool → S → List (Record A) → Option (List ℕ) → Type 0
IsPut m true new (records.Outcome o ∷ answers) put = m.puts new o put
IsPut m hex new added put = put ≡ None

-- What one line prints, with the events and the records that it results in.
pub data PrintsLine {S A : Type 0} (m : Machine S A) (hex : Bool) (old : S) (line : List ℕ) : List Event
    → List (Record A) → List ℕ → S → Type 0 where
  nothing : IsPassedOver line → PrintsLine m hex old line [] [] [] old
  event : (e : Event) (added : List (Record A)) (put : Option (List ℕ)) (new : S) → LineSaysEvent line e
      → m.runs old e added new → IsPut m hex new added put
      → PrintsLine m hex old line (e ∷ []) added (event_text added put) new
  nodes : SaysShow line
      → PrintsLine m hex old line [] []
      (nodes_text (codes "kernel") (m.counted old) ++ nodes_text (codes "server") (m.held old)) old

-- What lines print, one after another, with all their events and records.
pub data Prints {S A : Type 0} (m : Machine S A) (hex : Bool) (first : S) : List (List ℕ) → List Event
    → List (Record A) → List ℕ → S → Type 0 where
  no_line : Prints m hex first [] [] [] [] first
  next_line : (lines : List (List ℕ)) (events : List Event) (records : List (Record A)) (text : List ℕ) (mid : S)
      → Prints m hex first lines events records text mid → (line : List ℕ) (more : List Event)
      (added : List (Record A)) (printed : List ℕ) (last : S) → PrintsLine m hex mid line more added printed last
      → Prints m hex first (lines ++ line ∷ []) (events ++ more) (records ++ added) (text ++ printed) last

-- ---- the two machines

-- A world.
abbrev pub world_machine : (A : Type 0) → Machine World A
world_machine A = record {
  runs = RunsOne;
  puts = IsFrameOf;
  counted = λ w. listed_counts w.kernel.nodes;
  held = λ w. listed_nodes w.server.nodes.rows;
}

-- A session over a link: its world, whether the link is lost, and the link.
abbrev pub session_machine : (A L : Type 0) → (L → L → Traffic → Type 0) → (L → ℕ) → Machine (World × Bool × L) A
session_machine A L carries failed = record {
  runs =
      λ old event added new. RunsOneOver carries failed (session_of old.0 old.1, old.2) event added
      (session_of new.0 new.1, new.2);
  puts = λ s. IsFrameOf s.0;
  counted = λ s. listed_counts s.0.kernel.nodes;
  held = λ s. listed_nodes s.0.server.nodes.rows;
}

-- This is printed of these lines, and the records that it has are those of one run of their events on a first world.
pub record IsRunOf (A : Type 0) (hex : Bool) (lines : List (List ℕ)) (text : List ℕ) : Type 0 where
  pub events : List Event
  pub records : List (Record A)
  pub last : World
  pub prints : Prints (world_machine A) hex first_world lines events records text last
  pub runs : RunsAs first_world (map event_of events) (map run_record_of records) last

-- A script runs so over a link, which is lost in the end or is not.
pub record IsRunOver (A : Type 0) {L : Type 0} (carries : L → L → Traffic → Type 0) (failed : L → ℕ) (link : L)
    (hex is_lost : Bool) (lines : List (List ℕ)) (text : List ℕ) : Type 0 where
  pub events : List Event
  pub records : List (Record A)
  pub world : World
  pub last : L
  pub prints : Prints (session_machine A L carries failed) hex (first_world, false, link) lines events records text
      (world, is_lost, last)
  pub runs : RunsOver carries failed (session_of first_world false) link (map event_of events) (map run_record_of records)
      (session_of world is_lost) last

-- ---- what an output gets, where the script and its bytes are known

-- all that is printed of a script
abbrev pub PrintsAll : (List (List ℕ) → List ℕ → Type 0) → Option (List ℕ) → (old new : Option (List ℕ)) → Type 0
PrintsAll IsRun script old new =
    IfSome script (λ s. (text : List ℕ) × IsRun (lines_of s) text × Appends old new text)

-- all that is printed of the first lines of a script
abbrev pub PrintsFirst : (List (List ℕ) → List ℕ → Type 0) → Option (List ℕ) → (old new : Option (List ℕ)) → Type 0
PrintsFirst IsRun script old new =
    IfSome script (λ s. (done : List (List ℕ)) × (rest : List (List ℕ)) × (lines_of s ≡ done ++ rest)
    × (text : List ℕ) × IsRun done text × Appends old new text)

-- a beginning of that
abbrev pub PrintsSome : (List (List ℕ) → List ℕ → Type 0) → Option (List ℕ) → (old new : Option (List ℕ)) → Type 0
PrintsSome IsRun script old new =
    IfSome script (λ s. (done : List (List ℕ)) × (rest : List (List ℕ)) × (lines_of s ≡ done ++ rest)
    × (text : List ℕ) × IsRun done text × AppendsSome old new text)
