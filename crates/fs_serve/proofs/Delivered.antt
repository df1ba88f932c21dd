-- What the delivery of a copy makes of the lookup counts.
use Rattle.std.proofs.Common.{◌≡◌, ℕ, ◌+◌, false, List, [], ◌∷◌, Option, Some, None, refl, ap, sym, subst, ◌∙◌, arith, inl, inr}
use Rattle.fuse_spec.specs.declared.Minor.{Minor}
use Rattle.fuse_spec.specs.declared.WriteResult.{WriteResult}
use Rattle.fuse_spec.specs.declared.WriteResult.TheVariants.{Accepted, NoEntry, Invalid}
use Rattle.fuse_spec.specs.Values.Maps.{Map, get, put, remove}
use Rattle.fuse_spec.specs.Files.Operations.{files_in_reply}
use Rattle.fuse_spec.specs.Server.Server.{Server, Copy, count_in}
use Rattle.fuse_spec.specs.Server.Copies.{settled, after_result, kept_after, rows_back}
use Rattle.fuse_spec.specs.Claim.Counts.{times_named}
use Rattle.fuse_spec.specs.World.Worlds.{Sent}
use Rattle.fuse_spec.proofs.Tables.{get_put_here}
use Rattle.fuse_theorem.specs.Lookups.{EntriesHeld}
use Rattle.fuse_theorem.specs.ServerTables.{ServerSound}
use Rattle.fuse_theorem.proofs.Calls.Finding.{same_is}
use Rattle.fuse_theorem.proofs.Lookups.WireCounts.{back_counts}
use Rattle.fuse_theorem.proofs.Nodes.NodesSound.{left_none}
use Rattle.fuse_theorem.proofs.Nodes.ServerSound.{result_sound}
use Rattle.fs_server.specs.Effects.{Settles}
use Rattle.fuse_device.specs.Transfers.{Transfer, sent, unsent, ended_in}
use Rattle.fuse_device.specs.declared.device.DeviceEnd.{DeviceEnd}
use Rattle.fs_serve.specs.LookupCounts.{GivesLookups, RepliesWith, cut_off, lookup_count, refused, reply_accepted}
use Rattle.fs_serve.specs.Sending.{Delivers, IsFilledFrame, IsSettled, framed_of, settled as is_settled, unsettled}
use Rattle.fk_wire.specs.declared.opcode.Opcode.{Opcode}
use Rattle.fuse_frames.specs.RequestTies.{SaysRequest, asked_opcode}
use Rattle.fuse_spec.specs.Kernel.Messages.{Request}
use Rattle.fs_serve.proofs.BetweenFrames.{IsBetween}
use Rattle.fs_serve.proofs.FilledReplies.{filled_frame}
use Rattle.fs_serve.proofs.ReplyKinds.{GoesFor, frame_for}

-- After what was sent, the counts have risen by what was given, and the server is between frames again.
pub record Delivered (minor : Minor) (counts : ℕ → ℕ) (frame : List ℕ) (log : List Transfer) (new : Server)
    : Type 0 where
  pub more : ℕ → ℕ
  pub tells : GivesLookups frame log more
  pub balance : (id : ℕ) → lookup_count new id ≡ counts id + more id
  pub between : ended_in log ≡ None → IsBetween minor new

pub some_same : {X : Type 0} (x y : X) → Some x ≡ Some y → x ≡ y
some_same {X} x y same = ap of same
  where
    of : Option X → X
    of None = x
    of (Some z) = z

-- A map of one entry without it.
pub alone_gone : {X : Type 0} (k : ℕ) (x : X) → remove (put [] k x) k ≡ []
alone_gone k x = rw (same_is k) refl

-- The server that sends its one copy, which counted what the copy names.
pub record SendsOne (minor : Minor) (counts : ℕ → ℕ) (copy : Sent) (s : Server) : Type 0 where
  pub sound : ServerSound s
  pub held : s.held ≡ []
  pub first : ℕ
  pub copies : s.copies ≡ put [] copy.number (record { unique = copy.unique; wire = copy.wire; first = first })
  pub kept : kept_after s.kept (record { unique = copy.unique; wire = copy.wire; first = first })
      (get s.kept copy.unique) ≡ []
  pub live : s.aborted ≡ false
  pub for_minor : s.minor ≡ minor
  pub entries : EntriesHeld s.nodes copy.wire
  pub counted : (id : ℕ) → lookup_count s id ≡ counts id + times_named id copy.wire

module _ (minor : Minor) (counts : ℕ → ℕ) (asked : List ℕ) (request : Request) (asks_it : SaysRequest asked request)
    (copy : Sent) (s : Server) (sends : SendsOne minor counts copy s) (under : copy.unique ≡ request.unique)
    (goes : GoesFor request.body copy.wire) where
  abbrev known : Copy
  known = record { unique = copy.unique; wire = copy.wire; first = sends.first }

  abbrev without_it : Server
  without_it = record s {
    copies = remove s.copies copy.number;
    kept = kept_after s.kept known (get s.kept known.unique);
  }

  there : get s.copies copy.number ≡ Some known
  there = ap (λ (m : Map Copy). get m copy.number) sends.copies ∙ get_put_here [] copy.number known

  without_sound : ServerSound without_it
  without_sound =
      let sound = sends.sound in
      record {
        tree = sound.tree;
        nodes = sound.nodes;
        handles = sound.handles;
        copies = λ number later. left_none s.copies copy.number number (sound.copies number later);
      }

  no_copies : remove s.copies copy.number ≡ []
  no_copies = ap (λ (m : Map Copy). remove m copy.number) sends.copies ∙ alone_gone copy.number known

  between : (result : WriteResult) → IsBetween minor (after_result without_it copy.wire result)
  between result = record {
    sound = result_sound without_it without_sound copy.wire result;
    held = by_held result;
    kept = by_kept result;
    copies = by_copies result;
    live = by_live result;
    for_minor = by_minor result;
  }
    where
      by_held : (r : WriteResult) → (after_result without_it copy.wire r).held ≡ []
      by_held Accepted = sends.held
      by_held NoEntry = sends.held
      by_held Invalid = sends.held

      by_kept : (r : WriteResult) → (after_result without_it copy.wire r).kept ≡ []
      by_kept Accepted = sends.kept
      by_kept NoEntry = sends.kept
      by_kept Invalid = sends.kept

      by_copies : (r : WriteResult) → (after_result without_it copy.wire r).copies ≡ []
      by_copies Accepted = no_copies
      by_copies NoEntry = no_copies
      by_copies Invalid = no_copies

      by_live : (r : WriteResult) → (after_result without_it copy.wire r).aborted ≡ false
      by_live Accepted = sends.live
      by_live NoEntry = sends.live
      by_live Invalid = sends.live

      by_minor : (r : WriteResult) → (after_result without_it copy.wire r).minor ≡ minor
      by_minor Accepted = sends.for_minor
      by_minor NoEntry = sends.for_minor
      by_minor Invalid = sends.for_minor

  -- a refused copy's lookups are given back
  back : (id : ℕ) → count_in (get (rows_back s.nodes (files_in_reply copy.wire)).rows id) ≡ counts id
  back id =
      let counted = sends.counted id in
      let less = back_counts s.nodes copy.wire sends.entries id (omega (arith, counted)) in
      omega (arith, counted, less)

  module _ (opcode : Opcode) (bytes : List ℕ)
      (frame : IsFilledFrame opcode bytes (framed_of copy)) where
    -- the copy's frame is one of a reply to the request
    replies : RepliesWith asked bytes copy.wire
    replies = record {
      request = request;
      says = asks_it;
      framed = subst (λ (u : ℕ). IsFilledFrame (asked_opcode request.body) bytes
          (record { unique = u; wire = copy.wire })) under
          (filled_frame (asked_opcode request.body) frame.written bytes (framed_of copy)
          (frame_for opcode request.body copy.unique copy.wire frame.written goes frame.frame) frame.filled);
    }

    by_result : (result : WriteResult)
        → Delivered minor counts asked (sent bytes result ∷ []) (after_result without_it copy.wire result)
    by_result Accepted = record {
      more = λ id. times_named id copy.wire;
      tells = reply_accepted copy.wire bytes replies;
      balance = sends.counted;
      between = λ none. between Accepted;
    }
    by_result NoEntry = record {
      more = λ id. 0;
      tells = refused bytes NoEntry (λ same. let no : ◌≡◌ {A = WriteResult} NoEntry Accepted = same in cc);
      balance = λ id. let less = back id in omega (arith, less);
      between = λ none. between NoEntry;
    }
    by_result Invalid = record {
      more = λ id. 0;
      tells = refused bytes Invalid (λ same. let no : ◌≡◌ {A = WriteResult} Invalid Accepted = same in cc);
      balance = λ id. let less = back id in omega (arith, less);
      between = λ none. between Invalid;
    }

    by_settled : (result : WriteResult) (new : Server) → IsSettled s copy.number result new
        → Delivered minor counts asked (sent bytes result ∷ []) new
    by_settled result new (inl settles) =
        let is : settles.copy ≡ known = some_same settles.copy known (sym settles.there ∙ there) in
        subst (Delivered minor counts asked (sent bytes result ∷ []))
        (sym (settles.after ∙ ap (λ (c : Copy). settled s copy.number c result) is)) (by_result result)
    by_settled result new (inr (refusal, absent, same)) =
        let no : ◌≡◌ {A = Option Copy} (Some known) None = sym there ∙ absent.absent in cc

    by_end : (end : DeviceEnd) → Delivered minor counts asked (unsent bytes end ∷ []) s
    by_end end = record {
      more = λ id. times_named id copy.wire;
      tells = cut_off copy.wire bytes replies end;
      balance = sends.counted;
      between = λ none. let no : ◌≡◌ {A = Option DeviceEnd} (Some end) None = none in cc;
    }

  pub delivered : (log : List Transfer) (new : Server) → Delivers copy s log new → Delivered minor counts asked log new
  delivered log new (is_settled opcode bytes frame result after settles) =
      by_settled opcode bytes frame result after settles
  delivered log new (unsettled opcode bytes frame end) = by_end opcode bytes frame end

  -- one that names nothing is settled before it is sent
  pub delivered_bare : ((id : ℕ) → times_named id copy.wire ≡ 0) → (new : Server) → Settles s copy.number Accepted new
      → (log : List Transfer) → GivesLookups asked log (λ id. 0) → Delivered minor counts asked log new
  delivered_bare bare new settles log tells =
      let is : settles.copy ≡ known = some_same settles.copy known (sym settles.there ∙ there) in
      subst (Delivered minor counts asked log)
      (sym (settles.after ∙ ap (λ (c : Copy). settled s copy.number c Accepted) is)) (record {
        more = λ id. 0;
        tells = tells;
        balance = λ id. let counted = sends.counted id in let none = bare id in omega (arith, counted, none);
        between = λ ended. between Accepted;
      })
