-- What performing a request and delivering its reply make of the nodes that a server counts.
use Rattle.std.proofs.Common.{◌≡◌, ◌≤◌, inl, inr, ℕ, ◌+◌, Bool, true, false, cond, List, [], ◌∷◌, Option, Some, None, refl, sym, ◌∙◌, ap, subst, subst₂, arith}
use Rattle.fuse_spec.specs.declared.Opened.{Opened}
use Rattle.fuse_spec.specs.declared.WriteResult.{WriteResult}
use Rattle.fuse_spec.specs.declared.WriteResult.TheVariants.{Accepted, Invalid, NoEntry}
use Rattle.fuse_spec.specs.Values.Maps.{get, put, remove}
use Rattle.fuse_spec.specs.Claim.Counts.{times_named}
use Rattle.fuse_spec.specs.Files.Operations.{files_in_reply}
use Rattle.fuse_spec.specs.Kernel.Messages.{WireReply, release}
use Rattle.fuse_spec.specs.Server.Copies.{settled}
use Rattle.fuse_spec.specs.Server.Nodes.{NodeTable}
use Rattle.fuse_spec.specs.Server.Performs.{performed, served}
use Rattle.fuse_spec.specs.Server.Server.{Copy, Server}
use Rattle.fuse_spec.specs.Server.Taking.{taking}
use Rattle.fuse_spec.specs.World.Worlds.{Sent}
use Rattle.fuse_spec.proofs.Tables.{get_put_here}
use Rattle.fuse_theorem.specs.Lookups.{IsHeldAs}
use Rattle.fuse_theorem.proofs.Lookups.PerformedCounts.{Counts, performed_counts}
use Rattle.fuse_theorem.proofs.Lookups.RowCounts.{count_of}
use Rattle.fuse_theorem.proofs.Replies.CopiesSound.{served_copies}
use Rattle.fuse_device.specs.Transfers.{Transfer, sent, unsent}
use Rattle.fuse_device.specs.declared.device.DeviceEnd.{DeviceEnd}
use Rattle.fs_server.specs.Effects.{PerformsHeld, first_copy}
use Rattle.fs_server.specs.Releasing.{Releases, SettlesAnyhow, release_copy}
use Rattle.fs_serve.specs.Sending.{Delivers, IsSettled, unsettled}
use Rattle.fs_serve.specs.Sending as sending
use Rattle.fs_serve.specs.Serving.{ServesHeld, dropped, replied, unreplied}
use Rattle.served_sessions.proofs.Fine.{IsFine, held_fine}
use Rattle.served_sessions.proofs.HeldFiles.{file_there}
use Rattle.served_sessions.proofs.Shown.{served_shows}
use Rattle.served_sessions.proofs.Turned.{Turns, WireGains, back_counts, back_held, nothing_back, same_turns}

-- ---- a copy is delivered

-- As many lookups go at most as the copy names, and what is still counted is held.
pub record Delivered (t u : NodeTable) (wire : WireReply) : Type 0 where
  pub counts : (n : ℕ) → count_of t n ≤ count_of u n + times_named n wire
  pub held : (n g : ℕ) → 2 ≤ n → IsHeldAs t n g → 1 ≤ count_of u n → IsHeldAs u n g

kept_as : (t : NodeTable) (wire : WireReply) → Delivered t t wire
kept_as t wire = record { counts = λ n. omega arith; held = λ n g low held some. held }

some_copy : (a b : Copy) → ◌≡◌ {A = Option Copy} (Some a) (Some b) → a ≡ b
some_copy a b same = ap of same
  where
    of : Option Copy → Copy
    of None = a
    of (Some x) = x

module _ (copy : Sent) (old : Server) (known : Copy) (there : get old.copies copy.number ≡ Some known)
    (alike : known.wire ≡ copy.wire) where
  result_delivered : (number : ℕ) (result : WriteResult)
      → Delivered old.nodes (settled old number known result).nodes known.wire
  result_delivered number Accepted = kept_as old.nodes known.wire
  result_delivered number NoEntry = record {
    counts = λ n. back_counts (files_in_reply known.wire) old.nodes n;
    held = λ n g low held some. back_held (files_in_reply known.wire) old.nodes n g low held some;
  }
  result_delivered number Invalid = record {
    counts = λ n. back_counts (files_in_reply known.wire) old.nodes n;
    held = λ n g low held some. back_held (files_in_reply known.wire) old.nodes n g low held some;
  }

  settled_delivered : (result : WriteResult) (new : Server) → IsSettled old copy.number result new
      → Delivered old.nodes new.nodes copy.wire
  settled_delivered result new (inl settles) =
      let is : settles.copy ≡ known = some_copy settles.copy known (sym settles.there ∙ there) in
      let after : new ≡ settled old copy.number known result =
      settles.after ∙ ap (λ (c : Copy). settled old copy.number c result) is in
      subst (λ (s : Server). Delivered old.nodes s.nodes copy.wire) (sym after)
      (subst (Delivered old.nodes (settled old copy.number known result).nodes) alike (result_delivered copy.number result))
  settled_delivered result new (inr (refusal, absent, same)) =
      subst (λ (s : Server). Delivered old.nodes s.nodes copy.wire) (sym same) (kept_as old.nodes copy.wire)

  pub delivered : (log : List Transfer) (new : Server) → Delivers copy old log new → Delivered old.nodes new.nodes copy.wire
  delivered log new (sending.settled opcode bytes frame result new' is) = settled_delivered result new is
  delivered log new (unsettled opcode bytes frame end) = kept_as old.nodes copy.wire

-- ---- a request is performed

module _ (taken : Server) (fine : IsFine taken) (unique errno : ℕ) (copy : Option Sent) (did : Server)
    (p : PerformsHeld taken unique errno copy did) where
  less : Server
  less = record taken { held = remove taken.held unique }

  counted : Counts (record taken { held = remove taken.held unique })
      (performed p.choice (record taken { held = remove taken.held unique }) p.held)
  counted = performed_counts p.choice (record taken { held = remove taken.held unique }) fine.sound.nodes p.held p.may

  did_nodes : did.nodes ≡ (performed p.choice (record taken { held = remove taken.held unique }) p.held).server.nodes
  did_nodes = ap (λ (s : Server). s.nodes) p.server_is

  pub performed_held : (n g : ℕ) → IsHeldAs taken.nodes n g → IsHeldAs did.nodes n g
  performed_held n g held =
      subst (λ (t : NodeTable). IsHeldAs t n g) (sym did_nodes) (held.0, counted.more n g held.0 held.1)

  pub performed_more : (n : ℕ) → count_of taken.nodes n ≤ count_of did.nodes n
  performed_more n = by taken.aborted refl
    where
      same : count_of did.nodes n
          ≡ count_of (performed p.choice (record taken { held = remove taken.held unique }) p.held).server.nodes n
      same = ap (λ (t : NodeTable). count_of t n) did_nodes

      by : (b : Bool) → taken.aborted ≡ b → count_of taken.nodes n ≤ count_of did.nodes n
      by true dead =
          let as_before = ap (λ (t : NodeTable). count_of t n) (counted.same dead) in omega (arith, as_before, same)
      by false live = let more = counted.counts live n in omega (arith, more, same)

-- the copy that is sent is of what was replied
module _ (taken : Server) (unique errno : ℕ) (copy : Sent) (did : Server)
    (p : PerformsHeld taken unique errno (Some copy) did) where
  wire : WireReply
  wire = (served p.choice taken unique p.held).wire

  record IsFirst : Type 0 where
    live : taken.aborted ≡ false
    number : copy.number ≡ taken.next_copy
    wire_is : copy.wire ≡ (served p.choice taken unique p.held).wire

  is_first : IsFirst
  is_first = by taken.aborted refl p.copy_is
    where
      by : (b : Bool) → taken.aborted ≡ b
          → Some copy ≡ first_copy b taken.next_copy unique (served p.choice taken unique p.held).wire → IsFirst
      by true dead is = let no : ◌≡◌ {A = Option Sent} (Some copy) None = is in cc
      by false live is =
          let same : copy ≡ record {
            number = taken.next_copy;
            unique = unique;
            wire = (served p.choice taken unique p.held).wire;
          } = some_sent copy _ is in
          record { live = live; number = ap (λ (c : Sent). c.number) same; wire_is = ap (λ (c : Sent). c.wire) same }
        where
          some_sent : (a b : Sent) → ◌≡◌ {A = Option Sent} (Some a) (Some b) → a ≡ b
          some_sent a b e = ap of e
            where
              of : Option Sent → Sent
              of None = a
              of (Some x) = x

  known : Copy
  known = record { unique = unique; wire = (served p.choice taken unique p.held).wire; first = taken.next_copy }

  known_there : get did.copies copy.number
      ≡ Some (record { unique = unique; wire = (served p.choice taken unique p.held).wire; first = taken.next_copy })
  known_there =
      let k : Copy = record { unique = unique; wire = (served p.choice taken unique p.held).wire; first = taken.next_copy } in
      ap (λ (s : Server). get s.copies copy.number) p.server_is
      ∙ ap (λ m. get m copy.number) (served_copies p.choice taken unique p.held
      ∙ ap (λ (b : Bool). cond b taken.copies (put taken.copies taken.next_copy k)) is_first.live)
      ∙ ap (get (put taken.copies taken.next_copy k)) is_first.number ∙ get_put_here taken.copies taken.next_copy k

pub held_turns : (taken : Server) → IsFine taken → (unique : ℕ) (log : List Transfer) (new : Server)
    → ServesHeld taken unique log new → Turns taken.nodes new.nodes nothing_back
held_turns taken fine unique log new (replied errno copy did p log' new' delivers) =
    let first = is_first taken unique errno copy did p in
    let after = delivered copy did (record {
      unique = unique;
      wire = (served p.choice taken unique p.held).wire;
      first = taken.next_copy;
    }) (known_there taken unique errno copy did p) (sym first.wire_is) log new delivers in
    let counts = (counted taken fine unique errno (Some copy) did p).counts first.live in
    record {
      counts = λ n.
          let more = counts n in
          let same = ap (λ (t : NodeTable). count_of t n) (did_nodes taken fine unique errno (Some copy) did p) in
          let less = after.counts n in
          let times = ap (λ (w : WireReply). times_named n w) first.wire_is in
          omega (arith, more, same, less, times);
      held = λ n g low held some. after.held n g low
          (performed_held taken fine unique errno (Some copy) did p n g held) some;
    }
held_turns taken fine unique log new (unreplied errno new' p) = record {
  counts = λ n. let more = performed_more taken fine unique errno None new p n in omega (arith, more);
  held = λ n g low held some. performed_held taken fine unique errno None new p n g held;
}
held_turns taken fine unique log new (dropped refusal why log' sends) = same_turns taken.nodes

-- ---- an accepted reply

wrong_end : (bytes reply : List ℕ) (end : DeviceEnd)
    → ◌≡◌ {A = List Transfer} (unsent bytes end ∷ []) (sent reply Accepted ∷ []) → ⊥
wrong_end bytes reply end e = cc

result_of : (bytes reply : List ℕ) (result : WriteResult)
    → ◌≡◌ {A = List Transfer} (sent bytes result ∷ []) (sent reply Accepted ∷ []) → result ≡ Accepted
result_of bytes reply result e = ap of e
  where
    of : List Transfer → WriteResult
    of (sent b r ∷ log) = r
    of log = Accepted

-- nodes and files are as they were
abbrev pub IsAsBefore : Server → Server → Type 0
IsAsBefore old new = (new.nodes ≡ old.nodes) × (new.tree ≡ old.tree)

settled_same : (copy : Sent) (old : Server) (result : WriteResult) (new : Server) → result ≡ Accepted
    → IsSettled old copy.number result new → IsAsBefore old new
settled_same copy old result new accepted (inl settles) =
    let after : new ≡ settled old copy.number settles.copy Accepted =
    settles.after ∙ ap (λ (r : WriteResult). settled old copy.number settles.copy r) accepted in
    (ap (λ (s : Server). s.nodes) after, ap (λ (s : Server). s.tree) after)
settled_same copy old result new accepted (inr (refusal, absent, same)) =
    (ap (λ (s : Server). s.nodes) same, ap (λ (s : Server). s.tree) same)

pub accepted_same : (copy : Sent) (old : Server) (log : List Transfer) (new : Server) → Delivers copy old log new
    → (reply : List ℕ) → log ≡ sent reply Accepted ∷ [] → IsAsBefore old new
accepted_same copy old log new (sending.settled opcode bytes frame result new' is) reply accepted =
    settled_same copy old result new (result_of bytes reply result accepted) is
accepted_same copy old log new (unsettled opcode bytes frame end) reply accepted = absurd (wrong_end bytes reply end accepted)

-- What an accepted reply says is so, and what it names is counted.
pub performed_gains : (taken : Server) → IsFine taken → (unique errno : ℕ) (copy : Sent) (did : Server)
    → (p : PerformsHeld taken unique errno (Some copy) did)
    → WireGains taken.nodes did (let held = p.held in held.body) copy.wire
performed_gains taken fine unique errno copy did p =
    let first = is_first taken unique errno copy did p in
    let all = counted taken fine unique errno (Some copy) did p in
    let sound = fine.sound in
    subst₂ (λ (x : Server) (w : WireReply). WireGains taken.nodes x (let held = p.held in held.body) w) (sym p.server_is)
    (sym first.wire_is) (record {
      shows = served_shows p.choice taken sound.nodes sound.tree fine.stands
          (file_there p.choice taken sound.tree fine.stands fine.firm) unique p.held p.may;
      counts = λ n. let more = all.counts first.live n in omega (arith, more);
    })

-- ---- a RELEASE

bare_nodes : (did : Server) (copy : Option Sent) (new : Server) → SettlesAnyhow did copy new → new.nodes ≡ did.nodes
bare_nodes did None new same = ap (λ (s : Server). s.nodes) same
bare_nodes did (Some copy) new settles = ap (λ (s : Server). s.nodes) (settles Accepted).after

-- Of a RELEASE no node is counted less, and each stays held.
pub released_turns : (old : Server) → IsFine old → (unique : ℕ) (opened : Opened) (errno : ℕ) (new : Server)
    → Releases old unique opened errno new → Turns old.nodes new.nodes nothing_back
released_turns old fine unique opened errno new releases =
    let taken : Server = (taking old unique (release opened)).server in
    let taken_fine = held_fine old fine unique (release opened) in
    let same = bare_nodes releases.did (release_copy old unique errno) new releases.settles in
    subst (λ (x : NodeTable). Turns old.nodes x nothing_back) (sym same) (record {
      counts = λ n.
          let more = performed_more taken taken_fine unique errno (release_copy old unique errno) releases.did
          releases.performs n in omega (arith, more);
      held = λ n g low held some.
          performed_held taken taken_fine unique errno (release_copy old unique errno) releases.did releases.performs n g held;
    })

pub released_more : (old : Server) → IsFine old → (unique : ℕ) (opened : Opened) (errno : ℕ) (new : Server)
    → Releases old unique opened errno new → {t u : NodeTable} → t ≡ old.nodes → u ≡ new.nodes → (n : ℕ)
    → count_of t n ≤ count_of u n
released_more old fine unique opened errno new releases before later n =
    let turns = released_turns old fine unique opened errno new releases in
    let few = turns.counts n in
    let one = ap (λ (x : NodeTable). count_of x n) before in
    let two = ap (λ (x : NodeTable). count_of x n) later in
    omega (arith, few, one, two)
