-- What a server does for a frame leaves the nodes that it counts as they were, but for what the frame gives back.
use Rattle.std.proofs.Common.{◌≡◌, ◌⊎◌, inl, inr, ℕ, List, [], ◌∷◌, Option, Some, None, refl, sym, ◌∙◌, ap, subst, arith}
use Rattle.fuse_spec.specs.Values.Maps.{get, put}
use Rattle.fuse_spec.specs.Values.Numbers.{eagain}
use Rattle.fuse_spec.specs.Claim.Counts.{times_named}
use Rattle.fuse_spec.specs.Files.Operations.{failed}
use Rattle.fuse_spec.specs.Kernel.Messages.{Request, RequestBody, WireReply, asks, batch_forget, forget, init, interrupt, release}
use Rattle.fuse_spec.specs.Server.Nodes.{NodeTable}
use Rattle.fuse_spec.specs.Server.Server.{Copy, HeldRequest, Kept, Server, forgets_of, forgotten, holding}
use Rattle.fuse_spec.specs.Server.Taking.{interrupting, taking}
use Rattle.fuse_spec.specs.World.Worlds.{Sent}
use Rattle.fuse_spec.proofs.Tables.{get_put_here}
use Rattle.fuse_frames.specs.RequestTies.{SaysRequest}
use Rattle.fuse_device.specs.Transfers.{Transfer}
use Rattle.fs_server.specs.Effects.{copy_of}
use Rattle.fs_serve.specs.Sending.{Delivers}
use Rattle.fs_serve.specs.Serving.{ServesFrame, done_at_once, name_too_long, performed as is_performed, refused, released, replied_at_once, uninterrupted, unreleased, untaken}
use Rattle.served_sessions.proofs.Answered.{held_server}
use Rattle.served_sessions.proofs.Fine.{IsFine, held_fine}
use Rattle.served_sessions.proofs.Performed.{delivered, held_turns, released_turns}
use Rattle.served_sessions.proofs.Turned.{Turns, nothing_back, same_turns, taken_turns}

-- What is given back is what the frame's request forgets, or nothing.
abbrev pub GivesBack : List ℕ → (ℕ → ℕ) → Type 0
GivesBack frame back = ((n : ℕ) → back n ≡ 0)
    ⊎ ((r : Request) × SaysRequest frame r × ((n : ℕ) → back n ≡ forgotten n (forgets_of r.body)))

pub record Turned (old new : Server) (frame : List ℕ) : Type 0 where
  pub back : ℕ → ℕ
  pub backs : GivesBack frame back
  pub turns : Turns old.nodes new.nodes back

unturned : (s : Server) (frame : List ℕ) → Turned s s frame
unturned s frame = record { back = nothing_back; backs = inl (λ n. refl); turns = same_turns s.nodes }

-- ---- a request is taken

taking_turns : (s : Server) (unique : ℕ) (body : RequestBody)
    → Turns s.nodes (taking s unique body).server.nodes (λ n. forgotten n (forgets_of body))
taking_turns s unique (init flags) = same_turns s.nodes
taking_turns s unique (asks operation) = same_turns s.nodes
taking_turns s unique (release o) = same_turns s.nodes
taking_turns s unique (forget f) = taken_turns (f ∷ []) s.nodes
taking_turns s unique (batch_forget fs) = taken_turns fs s.nodes
taking_turns s unique (interrupt original) = by (get s.held original) (get s.kept original)
  where
    by : (h : Option HeldRequest) (k : Option Kept)
        → Turns s.nodes (interrupting s unique original h k).server.nodes (λ n. 0)
    by (Some taken) k = same_turns s.nodes
    by None (Some kept) = same_turns s.nodes
    by None None = same_turns s.nodes

-- ---- an INTERRUPT is answered at once

no_copy : (a : Sent) → ◌≡◌ {A = Option Sent} (Some a) None → ⊥
no_copy a e = cc

some_sent : (a b : Sent) → ◌≡◌ {A = Option Sent} (Some a) (Some b) → a ≡ b
some_sent a b e = ap of e
  where
    of : Option Sent → Sent
    of None = a
    of (Some x) = x

-- its reply names no node
bare_turns : (copy : Sent) (old : Server) (known : Copy) → get old.copies copy.number ≡ Some known
    → known.wire ≡ copy.wire → copy.wire ≡ failed eagain → (log : List Transfer) (new : Server)
    → Delivers copy old log new → Turns old.nodes new.nodes nothing_back
bare_turns copy old known there alike bare log new delivers =
    let after = delivered copy old known there alike log new delivers in
    record {
      counts = λ n.
          let few = after.counts n in
          let none = ap (λ (w : WireReply). times_named n w) bare in
          omega (arith, few, none);
      held = λ n g low held some. after.held n g low held some;
    }

at_once_turns : (s : Server) (unique : ℕ) (copy : Sent) (body : RequestBody)
    → Some copy ≡ copy_of s.next_copy unique (taking s unique body).reply → (log : List Transfer) (new : Server)
    → Delivers copy (taking s unique body).server log new → Turns s.nodes new.nodes nothing_back
at_once_turns s unique copy (init flags) is log new delivers = absurd (no_copy copy is)
at_once_turns s unique copy (asks operation) is log new delivers = absurd (no_copy copy is)
at_once_turns s unique copy (release o) is log new delivers = absurd (no_copy copy is)
at_once_turns s unique copy (forget f) is log new delivers = absurd (no_copy copy is)
at_once_turns s unique copy (batch_forget fs) is log new delivers = absurd (no_copy copy is)
at_once_turns s unique copy (interrupt original) is log new delivers =
    by (get s.held original) (get s.kept original) is delivers
  where
    by : (h : Option HeldRequest) (k : Option Kept)
        → Some copy ≡ copy_of s.next_copy unique (interrupting s unique original h k).reply
        → Delivers copy (interrupting s unique original h k).server log new → Turns s.nodes new.nodes nothing_back
    by (Some h) k e d = absurd (no_copy copy e)
    by None (Some k) e d = absurd (no_copy copy e)
    by None None e d =
        let same = some_sent copy (record { number = s.next_copy; unique = unique; wire = failed eagain }) e in
        let known : Copy = record { unique = unique; wire = failed eagain; first = s.next_copy } in
        bare_turns copy (interrupting s unique original None None).server known
        (ap (get (put s.copies s.next_copy known)) (ap (λ (c : Sent). c.number) same)
        ∙ get_put_here s.copies s.next_copy known) (sym (ap (λ (c : Sent). c.wire) same))
        (ap (λ (c : Sent). c.wire) same) log new d

-- ---- a frame is served

from_nothing : (old new : Server) (frame : List ℕ) → Turns old.nodes new.nodes nothing_back → Turned old new frame
from_nothing old new frame turns = record { back = nothing_back; backs = inl (λ n. refl); turns = turns }

pub frame_turns : (old : Server) → IsFine old → (frame : List ℕ) (log : List Transfer) (new : Server)
    → ServesFrame old frame log new → Turned old new frame
frame_turns old fine frame log new (done_at_once request new' took silent not_held) = record {
  back = λ n. forgotten n (forgets_of request.body);
  backs = inr (request, took.says, λ n. refl);
  turns = subst (λ (s : Server). Turns old.nodes s.nodes (λ n. forgotten n (forgets_of request.body))) (sym took.after)
      (taking_turns old request.unique request.body);
}
frame_turns old fine frame log new (replied_at_once request taken took copy is log' new' delivers) =
    from_nothing old new frame (at_once_turns old request.unique copy request.body is log new
    (subst (λ (s : Server). Delivers copy s log new) took.after delivers))
frame_turns old fine frame log new (released unique opened says errno new' releases log' replies) =
    from_nothing old new frame (released_turns old fine unique opened errno new releases)
frame_turns old fine frame log new (unreleased unique opened says refuses log' sends) = unturned old frame
frame_turns old fine frame log new (is_performed request taken took held other log' new' serves) =
    let now : taken ≡ holding old request.unique request.body =
    took.after ∙ held_server old request.unique request.body held in
    let here : IsFine taken = subst IsFine (sym now) (held_fine old fine request.unique request.body) in
    from_nothing old new frame (subst (λ (x : NodeTable). Turns x new.nodes nothing_back)
    (ap (λ (s : Server). s.nodes) now) (held_turns taken here request.unique log new serves))
frame_turns old fine frame log new (untaken can wants other not_interrupt log' sends) = unturned old frame
frame_turns old fine frame log new (uninterrupted can wants is) = unturned old frame
frame_turns old fine frame log new (name_too_long refuses long low log' sends) = unturned old frame
frame_turns old fine frame log new (refused fault refuses not_memory other low log' sends) = unturned old frame
