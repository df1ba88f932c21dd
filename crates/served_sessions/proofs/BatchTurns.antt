-- A long BATCH_FORGET, served in parts, leaves the nodes that a server counts as they were, but for what it gives back.
use Rattle.std.proofs.Common.{◌≡◌, ◌≤◌, inl, inr, ℕ, ◌+◌, ◌-◌, ◌*◌, ◌/◌, List, ◌++◌, length, drop, min, Option, None, Some, refl, sym, ◌∙◌, ap, subst, arith, length-append, length-drop, length-take}
use Rattle.fuse_spec.specs.declared.Opened.{Opened}
use Rattle.fuse_spec.specs.declared.Taken.TheVariants.{Held}
use Rattle.fuse_spec.specs.Files.Operations as operation
use Rattle.fuse_spec.specs.Kernel.Messages.{Forget, Request, RequestBody, asks, batch_forget, release}
use Rattle.fuse_spec.specs.Server.Nodes.{NodeTable}
use Rattle.fuse_spec.specs.Server.Server.{Server, forgotten}
use Rattle.fuse_spec.specs.Server.Taking.{taking}
use Rattle.fuse_spec.specs.Claim.Denotes.{Denotes}
use Rattle.fuse_spec.specs.World.Worlds.{Sent}
use Rattle.fuse_theorem.proofs.Lookups.Lookups.{held_still}
use Rattle.fuse_theorem.proofs.Lookups.RowCounts.{count_of}
use Rattle.fuse_theorem.proofs.Refining.Forgetting.{all_less_denotes}
use Rattle.fk_fields.specs.Fields.{number_at}
use Rattle.fk_wire.specs.Opcodes.{code_of}
use Rattle.fuse_frames.specs.RequestTies.{SaysRequest, asked_opcode}
use Rattle.fuse_device.specs.Transfers.{Transfer}
use Rattle.fs_server.specs.Effects.{copy_of}
use Rattle.fs_serve.specs.LongBatches.{IsLongBatch, first_pairs, part_of}
use Rattle.fs_serve.specs.Serving.{ServesBatch, ServesFrame, ServesPairs, done_at_once, more_pairs, name_too_long, no_pairs, performed as is_performed, refused, released, replied_at_once, uninterrupted, unreleased, untaken}
use Rattle.fuse_protocol.specs.Pairs.{pairs_from}
use Rattle.fuse_sessions.specs.UnreadRequests.{opcode_in}
use Rattle.served_sessions.proofs.Batches.{forgotten_split, part_forgets}
use Rattle.served_sessions.proofs.Fine.{IsFine, frame_fine}
use Rattle.served_sessions.proofs.Onward.{Onward, frame_onward, same_onward, then_onward}
use Rattle.served_sessions.proofs.Placed.{same_opcode_of_part}
use Rattle.served_sessions.proofs.Requests.{frame_opcode}
use Rattle.served_sessions.proofs.Turned.{Turns}
use Rattle.served_sessions.proofs.Turns.{GivesBack, Turned, frame_turns}

-- ---- a part

of_batch : (body : RequestBody) → code_of (asked_opcode body) ≡ 42 → (fs : List Forget) × (body ≡ batch_forget fs)
of_batch (batch_forget fs) e = (fs, refl)
of_batch (asks (operation.lookup d name)) e = absurd (omega (arith, e))
of_batch (asks operation') e = absurd (omega (arith, e))
of_batch body e = absurd (omega (arith, e))

-- What it leaves was there.
abbrev IsFewer : NodeTable → NodeTable → Type 0
IsFewer old new = (i generation file : ℕ) → Denotes new i generation file → Denotes old i generation file

module _ (old : Server) (frame : List ℕ) (code : opcode_in frame ≡ 42) where
  body_of : (request : Request) → SaysRequest frame request → (fs : List Forget) × (request.body ≡ batch_forget fs)
  body_of request says = of_batch request.body (sym (frame_opcode frame request says) ∙ code)

  no_release : (unique : ℕ) (opened : Opened) → SaysRequest frame (record { unique = unique; body = release opened }) → ⊥
  no_release unique opened says =
      let other = frame_opcode frame (record { unique = unique; body = release opened }) says in omega (arith, other, code)

  none_sent : (copy : Sent) → ◌≡◌ {A = Option Sent} (Some copy) None → ⊥
  none_sent copy e = cc

  batch_fewer : (log : List Transfer) (new : Server) → ServesFrame old frame log new → IsFewer old.nodes new.nodes
  batch_fewer log new (done_at_once request new' took silent not_held) =
      let of : (fs : List Forget) × (request.body ≡ batch_forget fs) = body_of request took.says in
      subst (λ (s : Server). IsFewer old.nodes s.nodes) (sym took.after)
      (subst (λ (b : RequestBody). IsFewer old.nodes (taking old request.unique b).server.nodes) (sym of.1)
      (all_less_denotes of.0 old.nodes))
  batch_fewer log new (replied_at_once request taken took copy is log' new' delivers) =
      let of : (fs : List Forget) × (request.body ≡ batch_forget fs) = body_of request took.says in
      absurd (none_sent copy (is
      ∙ ap (λ (b : RequestBody). copy_of old.next_copy request.unique (taking old request.unique b).reply) of.1))
  batch_fewer log new (released unique opened says errno new' releases log' replies) = absurd (no_release unique opened says)
  batch_fewer log new (unreleased unique opened says refuses log' sends) = λ i generation file d. d
  batch_fewer log new (is_performed request taken took held other log' new' serves) =
      let of : (fs : List Forget) × (request.body ≡ batch_forget fs) = body_of request took.says in
      absurd (not_held of.0 (ap (λ (b : RequestBody). (taking old request.unique b).word) (sym of.1) ∙ held))
    where
      not_held : (fs : List Forget) → (taking old request.unique (batch_forget fs)).word ≡ Held → ⊥
      not_held fs e = cc
  batch_fewer log new (untaken can wants other not_interrupt log' sends) = λ i generation file d. d
  batch_fewer log new (uninterrupted can wants is) = λ i generation file d. d
  batch_fewer log new (name_too_long refuses long low log' sends) = λ i generation file d. d
  batch_fewer log new (refused fault refuses not_memory other low log' sends) = λ i generation file d. d

-- ---- part after part

-- Some of the pairs are served.
pub record PartsServed (old new : Server) (bytes pairs : List ℕ) : Type 0 where
  pub fine : IsFine new
  pub on : Onward old new
  pub count : ℕ
  pub length_is : length pairs ≡ 16 * count
  pub within : length pairs ≤ length (drop 48 bytes)
  pub back : ℕ → ℕ
  pub back_few : (n : ℕ) → back n ≤ forgotten n (pairs_from count 0 (drop 48 bytes))
  pub counts : (n : ℕ) → count_of old.nodes n ≤ count_of new.nodes n + back n
  pub fewer : (i generation file : ℕ) → Denotes new.nodes i generation file → Denotes old.nodes i generation file

module _ (bytes : List ℕ) (is : IsLongBatch bytes) where
  whole_pairs : length (drop 48 bytes) ≡ 16 * number_at 40 4 bytes
  whole_pairs = let counted = is.counted in omega (arith, counted, length-drop 48 bytes)

  module _ (old mid new : Server) (pairs left : List ℕ) (split : drop 48 bytes ≡ pairs ++ left)
      (so_far : PartsServed old mid bytes pairs) (log : List Transfer)
      (serves : ServesFrame mid (part_of bytes (first_pairs left)) log new) where
    abbrev part : List ℕ
    part = part_of bytes (first_pairs left)

    abbrev more : ℕ
    more = min (length left / 16) 64

    all_long : length (drop 48 bytes) ≡ length pairs + length left
    all_long = ap (λ (l : List ℕ). length l) split ∙ length-append pairs left

    part_long : length (first_pairs left) ≡ 16 * more
    part_long =
        let before = so_far.length_is in
        omega (arith, whole_pairs, all_long, before, length-take (min (length left) 1024) left)

    part_code : opcode_in (part_of bytes (first_pairs left)) ≡ 42
    part_code =
        let header = is.header in
        same_opcode_of_part (48 + length (first_pairs left)) (length (first_pairs left) / 16) bytes (first_pairs left)
        header.0 ∙ is.opcode

    turned : Turned mid new (part_of bytes (first_pairs left))
    turned = frame_turns mid so_far.fine (part_of bytes (first_pairs left)) log new serves

    part_back : (n : ℕ) → GivesBack (part_of bytes (first_pairs left)) turned.back
        → turned.back n ≤ forgotten n (pairs_from more (16 * so_far.count) (drop 48 bytes))
    part_back n (inl none) = let no_back = none n in omega (arith, no_back)
    part_back n (inr (request, says, back_is)) =
        let same = back_is n in
        let few = part_forgets bytes pairs left is split so_far.count more so_far.length_is part_long request says n in
        omega (arith, same, few)

    one_part : PartsServed old new bytes (pairs ++ first_pairs left)
    one_part = record {
      fine = frame_fine mid so_far.fine (part_of bytes (first_pairs left)) log new serves;
      on = then_onward old mid new so_far.on
          (frame_onward mid so_far.fine (part_of bytes (first_pairs left)) log new serves);
      count = so_far.count + more;
      length_is =
          let before = so_far.length_is in
          omega (arith, length-append pairs (first_pairs left), before, part_long);
      within =
          omega (arith, length-append pairs (first_pairs left), all_long, length-take (min (length left) 1024) left);
      back = λ n. so_far.back n + turned.back n;
      back_few = λ n.
          let before = so_far.back_few n in
          let now = part_back n turned.backs in
          let both = forgotten_split n so_far.count more (drop 48 bytes) in
          omega (arith, before, now, both);
      counts = λ n.
          let before = so_far.counts n in
          let turns = turned.turns in
          let now = turns.counts n in
          omega (arith, before, now);
      fewer = λ i generation file d. so_far.fewer i generation file
          (batch_fewer mid (part_of bytes (first_pairs left)) part_code log new serves i generation file d);
    }

  parts_served : (old : Server) → IsFine old → (pairs : List ℕ) (log : List Transfer) (new : Server)
      → ServesPairs bytes old pairs log new → PartsServed old new bytes pairs
  parts_served old fine pairs log new no_pairs = record {
    fine = fine;
    on = same_onward old;
    count = 0;
    length_is = refl;
    within = omega arith;
    back = λ n. 0;
    back_few = λ n. omega arith;
    counts = λ n. omega arith;
    fewer = λ i generation file d. d;
  }
  parts_served old fine pairs log new (more_pairs served before mid serves going left split log' new' now) =
      one_part old mid new served left split (parts_served old fine served before mid serves) log' now

-- What a long BATCH_FORGET gives back is what its pairs forget, or less.
abbrev pub GivesPairsBack : List ℕ → (ℕ → ℕ) → Type 0
GivesPairsBack frame back = IsLongBatch frame
    × ((n : ℕ) → back n ≤ forgotten n (pairs_from (length (drop 48 frame) / 16) 0 (drop 48 frame)))

pub record BatchTurned (old new : Server) (bytes : List ℕ) : Type 0 where
  pub back : ℕ → ℕ
  pub backs : GivesPairsBack bytes back
  pub turns : Turns old.nodes new.nodes back
  pub fine : IsFine new
  pub on : Onward old new

pub batch_turns : (old : Server) → IsFine old → (bytes : List ℕ) → IsLongBatch bytes → (log : List Transfer) (new : Server)
    → ServesBatch bytes old log new → BatchTurned old new bytes
batch_turns old fine bytes is log new serves =
    let all = parts_served bytes is old fine serves.pairs log new serves.serves in
    let rest : ℕ = length (drop 48 bytes) / 16 - all.count in
    record {
      back = all.back;
      backs = (
        is,
        λ n.
            let few = all.back_few n in
            let length_is = all.length_is in
            let within = all.within in
            let both = forgotten_split n all.count rest (drop 48 bytes) in
            let count : all.count + rest ≡ length (drop 48 bytes) / 16 = omega (arith, length_is, within) in
            let same : forgotten n (pairs_from (all.count + rest) 0 (drop 48 bytes))
            ≡ forgotten n (pairs_from (length (drop 48 bytes) / 16) 0 (drop 48 bytes)) =
            ap (λ (k : ℕ). forgotten n (pairs_from k 0 (drop 48 bytes))) count in
            omega (arith, few, both, same),
      );
      turns = record {
        counts = all.counts;
        held = λ n g low held some. held_still old.nodes new.nodes all.fewer n g low held some;
      };
      fine = all.fine;
      on = all.on;
    }
