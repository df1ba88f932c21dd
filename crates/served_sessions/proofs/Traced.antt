-- What goes over a server's device, with the nodes that the server counts between its frames.
use Rattle.std.proofs.Common.{◌≡◌, ◌≢◌, ◌⊎◌, inl, inr, ℕ, Bool, true, false, List, [], ◌∷◌, ◌++◌, refl, sym, ◌∙◌, ap, subst, nat_eq, arith, rules}
use Rattle.fuse_spec.specs.declared.WriteResult.{WriteResult}
use Rattle.fuse_spec.specs.declared.WriteResult.TheVariants.{Accepted}
use Rattle.fuse_spec.specs.Kernel.Messages.{RequestBody, init}
use Rattle.fuse_spec.specs.Server.Server.{Server, forgets_of, forgotten}
use Rattle.fuse_frames.specs.RequestTies.{SaysRequest}
use Rattle.fuse_device.specs.Transfers.{Transfer, received, sent, stopped, unsent}
use Rattle.fuse_device.specs.declared.device.DeviceEnd.{DeviceEnd}
use Rattle.fs_serve.specs.LookupCounts.{IsFresh}
use Rattle.fs_serve.specs.Sending.{SendsBytes, at_end, with_result}
use Rattle.fs_serve.specs.Serving.{Serves, ServesFrame, ServesNext, ServesPairs, batch, next, none, one}
use Rattle.fs_serve.specs.Serving as serving
use Rattle.fuse_sessions.specs.UnreadRequests.{opcode_in}
use Rattle.served_sessions.specs.Exchanges.{IsAnswer}
use Rattle.served_sessions.proofs.Answered.{IsHeadedAs, SendsAnswer, of_init, serves_answer}
use Rattle.served_sessions.proofs.Exchanged.{pairs_silent, read_as}
use Rattle.served_sessions.proofs.Fine.{IsFine, frame_fine, fresh_fine, serves_fine}
use Rattle.served_sessions.proofs.Gained.{GainsIn}
use Rattle.served_sessions.proofs.Onward.{Onward, frame_onward}
use Rattle.served_sessions.proofs.Requests.{frame_opcode}
use Rattle.served_sessions.proofs.BatchTurns.{GivesPairsBack, batch_turns}
use Rattle.served_sessions.proofs.Turned.{Turns}
use Rattle.served_sessions.proofs.Turns.{GivesBack, frame_turns}

-- What a frame makes of a server: counts fall by what it gives back, and nodes stay of their files.
pub record Moved (old new : Server) (frame : List ℕ) : Type 0 where
  pub back : ℕ → ℕ
  pub backs : GivesBack frame back ⊎ GivesPairsBack frame back
  pub turns : Turns old.nodes new.nodes back
  pub old_fine : IsFine old
  pub new_fine : IsFine new
  pub on : Onward old new

-- From one server on to another. Behind each frame at most one is sent, which answers it. Each node that is counted stays
-- as it was, but for what the frame gives back and what an accepted reply gives.
pub data Trace : Server → List Transfer → Server → Type 0 where
  ready : (s : Server) → Trace s [] s
  silent : (s mid last : Server) (request : List ℕ) (later : List Transfer) → Moved s mid request → Trace mid later last
      → Trace s (received request ∷ later) last
  replied : (s mid last : Server) (request reply : List ℕ) (result : WriteResult) (later : List Transfer)
      → IsAnswer request reply → Moved s mid request
      → (result ≡ Accepted → GainsIn s.nodes mid request reply) → Trace mid later last
      → Trace s (received request ∷ sent reply result ∷ later) last
  cut : (s mid last : Server) (request reply : List ℕ) (end : DeviceEnd) (later : List Transfer) → Moved s mid request
      → Trace mid later last → Trace s (received request ∷ unsent reply end ∷ later) last
  stop : (s last : Server) (end : DeviceEnd) (later : List Transfer) → Trace s later last
      → Trace s (stopped end ∷ later) last

then_trace : (s mid last : Server) (before later : List Transfer) → Trace s before mid → Trace mid later last
    → Trace s (before ++ later) last
then_trace s mid last before later (ready s') more = more
then_trace s mid last before later (silent s' m l request rest turned trace) more =
    silent s m last request (rest ++ later) turned (then_trace m mid last rest later trace more)
then_trace s mid last before later (replied s' m l request reply result rest answers turned gains trace) more =
    replied s m last request reply result (rest ++ later) answers turned gains (then_trace m mid last rest later trace more)
then_trace s mid last before later (cut s' m l request reply end rest turned trace) more =
    cut s m last request reply end (rest ++ later) turned (then_trace m mid last rest later trace more)
then_trace s mid last before later (stop s' l end rest trace) more =
    stop s last end (rest ++ later) (then_trace s mid last rest later trace more)

-- ---- by the bytes that are received

-- what a frame gives back, its bytes give back
same_back : (bytes frame : List ℕ) → IsHeadedAs bytes frame → (back : ℕ → ℕ) → GivesBack frame back → GivesBack bytes back
same_back bytes frame as_read back (inl no_back) = inl no_back
same_back bytes frame as_read back (inr (request, says, is)) = by (nat_eq (opcode_in frame) 26) refl
  where
    of_code : nat_eq (opcode_in frame) 26 ≡ true → opcode_in frame ≡ 26
    of_code e = grind (arith, rules)

    no_code : nat_eq (opcode_in frame) 26 ≡ false → opcode_in frame ≢ 26
    no_code e same = grind (arith, rules)

    by : (b : Bool) → nat_eq (opcode_in frame) 26 ≡ b → GivesBack bytes back
    by true e =
        let found : (flags : ℕ) × (request.body ≡ init flags) =
        of_init request.body (sym (frame_opcode frame request says) ∙ of_code e) in
        inl (λ n. is n ∙ ap (λ (b : RequestBody). forgotten n (forgets_of b)) found.1)
    by false e = inr (
      request,
      subst (λ (b : List ℕ). SaysRequest b request) (sym (as_read.whole (no_code e))) says,
      is,
    )

module _ (old new : Server) (bytes : List ℕ) where
  sends_trace : (reply : List ℕ) (log : List Transfer) → IsAnswer bytes reply → Moved old new bytes
      → (log ≡ sent reply Accepted ∷ [] → GainsIn old.nodes new bytes reply) → SendsBytes reply log
      → Trace old (received bytes ∷ log) new
  sends_trace reply log answers turned gains (with_result result) = replied old new new bytes reply result [] answers turned
      (λ accepted. gains (ap (λ (r : WriteResult). sent reply r ∷ []) accepted)) (ready new)
  sends_trace reply log answers turned gains (at_end end) = cut old new new bytes reply end [] turned (ready new)

  frame_trace : (log : List Transfer) → Moved old new bytes
      → (log ≡ []) ⊎ SendsAnswer (Unit {0}) old.nodes new bytes log → Trace old (received bytes ∷ log) new
  frame_trace log turned (inl quiet) = subst (λ (l : List Transfer). Trace old (received bytes ∷ l) new) (sym quiet)
      (silent old new new bytes [] turned (ready new))
  frame_trace log turned (inr a) = sends_trace a.reply log a.answers turned (a.gains tt) a.sends

-- ---- one after another

next_trace : (old : Server) → IsFine old → (log : List Transfer) (new : Server) → ServesNext old log new
    → Trace old log new
next_trace old fine log new (one bytes frame read log' new' serves) =
    let turned = frame_turns old fine frame log' new serves in
    frame_trace old new bytes log' (record {
      back = turned.back;
      backs = inl (same_back bytes frame (read_as bytes frame read) turned.back turned.backs);
      turns = turned.turns;
      old_fine = fine;
      new_fine = frame_fine old fine frame log' new serves;
      on = frame_onward old fine frame log' new serves;
    }) (serves_answer (Unit {0}) old.nodes new bytes frame (read_as bytes frame read) old (λ sound. fine) log' new serves
    refl refl)
next_trace old fine log new (batch bytes is log' new' serves) =
    let turned = batch_turns old fine bytes is log' new serves in
    frame_trace old new bytes log' (record {
      back = turned.back;
      backs = inr turned.backs;
      turns = turned.turns;
      old_fine = fine;
      new_fine = turned.fine;
      on = turned.on;
    }) (inl (pairs_silent bytes is old serves.pairs log' new serves.serves))
next_trace old fine log new (none end) = stop old old end [] (ready old)

all_trace : (start : Server) → IsFine start → (log : List Transfer) (new : Server) → Serves start log new
    → Trace start log new
all_trace start fine log new serving.nothing = ready start
all_trace start fine log new (next before mid serves going log' new' more) = then_trace start mid new before log'
    (all_trace start fine before mid serves) (next_trace mid (serves_fine start fine before mid serves) log' new more)

pub traces : (old : Server) → IsFresh old → (log : List Transfer) (new : Server) → Serves old log new → Trace old log new
traces old mounted log new serves = all_trace old (fresh_fine old mounted) log new serves
