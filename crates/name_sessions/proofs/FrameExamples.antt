-- Frames worked out: what replies say of names, and what a FORGET leaves.
use Rattle.std.proofs.Common.{◌≡◌, ℕ, true, List, [], ◌∷◌, ◌++◌, Some, None, refl}
use Rattle.std.specs.Prelude.{replicate}
use Rattle.std.specs.List.{flat_map}
use Rattle.fk_fields.specs.Fields.{number_at}
use Rattle.fuse_sessions.specs.declared.act.Act.{Act}
use Rattle.fuse_sessions.specs.declared.act.Act.TheVariants as act
use Rattle.fuse_sessions.specs.declared.act.File.{File}
use Rattle.fuse_sessions.specs.declared.act.Taken.TheVariants as taken
use Rattle.name_sessions.specs.Names.{Name}
use Rattle.name_sessions.specs.NameActs.{NamesAsked, Ends, Gives, Loses, Leaves}
use Rattle.name_sessions.specs.ReplyNames.{written_acts}
use Rattle.name_sessions.specs.NameFrames.{leaves}

abbrev a : Name
a = (1, 97 ∷ [])

abbrev b : Name
b = (1, 98 ∷ [])

abbrev makes : NamesAsked
makes = record { removed = None; made = Some a; listed = None }

abbrev removes : NamesAsked
removes = record { removed = Some a; made = None; listed = None }

abbrev renames : NamesAsked
renames = record { removed = Some a; made = Some b; listed = None }

-- a reply under number 4, with this error
abbrev header : (size error : ℕ) → List ℕ
header size error = size ∷ 0 ∷ 0 ∷ 0 ∷ error ∷ error ∷ error ∷ error ∷ 4 ∷ replicate 7 0

-- an entry of a node
abbrev entry : ℕ → List ℕ
entry node = header 144 0 ++ (node ∷ replicate 127 0)

found : written_acts (Some makes) (entry 5) taken.Accepted ≡ Ends 4 ∷ Gives a ∷ []
unfolding number_at
found = refl

negative : written_acts (Some makes) (entry 0) taken.Accepted ≡ Ends 4 ∷ []
unfolding number_at
negative = refl

removed : written_acts (Some removes) (header 16 0) taken.Accepted ≡ Ends 4 ∷ Loses a ∷ []
unfolding number_at
removed = refl

renamed : written_acts (Some renames) (header 16 0) taken.Accepted ≡ Ends 4 ∷ Loses a ∷ Gives b ∷ []
unfolding number_at
renamed = refl

-- -1, EPERM
refused : written_acts (Some removes) (header 16 255) taken.Accepted ≡ Ends 4 ∷ []
unfolding number_at
refused = refl

-- the device finds no request for it
not_waiting : written_acts (Some removes) (header 16 0) taken.NoEntry ≡ []
unfolding number_at
not_waiting = refl

-- nothing that has names waits under its number
of_no_names : written_acts None (header 16 0) taken.Accepted ≡ Ends 4 ∷ []
unfolding number_at
of_no_names = refl

-- ---- what a FORGET leaves

abbrev directory : File
directory = record { generation = 0; kind = 16384; ino = 2 }

-- the session with a FORGET of one lookup
abbrev forgotten_after : (given : List Act) → List Act
forgotten_after given = given ++ act.Forgets 2 1 ∷ []

forgotten : leaves (forgotten_after (act.Gives 2 directory true ∷ [])) (act.Forgets 2 1) ≡ Leaves 2 ∷ []
forgotten = refl

-- it was looked up once more
forgotten_in_part : leaves (forgotten_after (act.Gives 2 directory true ∷ act.Gives 2 directory true ∷ [])) (act.Forgets 2 1)
    ≡ []
forgotten_in_part = refl

the_root : leaves (act.Forgets 1 1 ∷ []) (act.Forgets 1 1) ≡ []
the_root = refl

-- a BATCH_FORGET of a node in two parts, of which each leaves it
abbrev parts : List Act
parts = act.Forgets 2 1 ∷ act.Forgets 2 1 ∷ []

forgotten_in_parts : flat_map (leaves (act.Gives 2 directory true ∷ act.Gives 2 directory true ∷ parts)) parts
    ≡ Leaves 2 ∷ Leaves 2 ∷ []
forgotten_in_parts = refl
