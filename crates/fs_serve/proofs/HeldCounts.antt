-- What performing a held request makes of the lookup counts.
use Rattle.std.proofs.Common.{◌≡◌, ℕ, ◌+◌, Bool, false, cond, List, [], Option, Some, None, nat_eq, refl, ap, sym, subst, ◌∙◌, arith}
use Rattle.fuse_spec.specs.declared.Minor.{Minor}
use Rattle.fuse_spec.specs.declared.WriteResult.TheVariants.{Accepted}
use Rattle.fuse_spec.specs.Values.Maps.{Map, get, put, remove}
use Rattle.fuse_spec.specs.Server.Server.{Copy, HeldRequest, Kept, Server}
use Rattle.fuse_spec.specs.Server.Copies.{kept_after}
use Rattle.fuse_spec.specs.Server.Performs.{PerformResult, performed, served}
use Rattle.fuse_spec.specs.Claim.Counts.{times_named}
use Rattle.fuse_spec.specs.World.Worlds.{Sent}
use Rattle.fuse_spec.proofs.Tables.{get_put_here}
use Rattle.fuse_theorem.specs.ServerTables.{ServerSound}
use Rattle.fuse_theorem.proofs.Calls.Finding.{same_is}
use Rattle.fuse_theorem.proofs.Lookups.PerformedCounts.{Counts, performed_counts}
use Rattle.fuse_theorem.proofs.Nodes.ServerSound.{served_sound}
use Rattle.fuse_theorem.proofs.Replies.CopiesSound.{served_copies}
use Rattle.fuse_theorem.proofs.Requests.PerformedRest.{SameRest, performed_rest}
use Rattle.fs_server.specs.Effects.{PerformsHeld, Settles, first_copy}
use Rattle.fuse_device.specs.Transfers.{Transfer}
use Rattle.fs_serve.specs.LookupCounts.{GivesLookups, error, lookup_count}
use Rattle.fs_serve.specs.Serving.{ServesHeld, replied, unreplied, dropped, error_for}
use Rattle.fuse_frames.specs.RequestTies.{SaysRequest}
use Rattle.fuse_spec.specs.Kernel.Messages.{Request, RequestBody}
use Rattle.fs_serve.proofs.ReplyKinds.{GoesFor, IsRepliedTo, served_goes}
use Rattle.fs_serve.proofs.Delivered.{Delivered, SendsOne, alone_gone, delivered, delivered_bare, some_same}

-- The server that holds this request alone, which has replies, and whose counts are these.
pub record HoldsOne (minor : Minor) (counts : ℕ → ℕ) (request : Request) (s : Server) : Type 0 where
  pub sound : ServerSound s
  pub alone : remove s.held request.unique ≡ []
  pub body : (held : HeldRequest) → get s.held request.unique ≡ Some held → held.body ≡ request.body
  pub has_reply : IsRepliedTo request.body
  pub kept : s.kept ≡ []
  pub copies : s.copies ≡ []
  pub live : s.aborted ≡ false
  pub for_minor : s.minor ≡ minor
  pub counted : (id : ℕ) → lookup_count s id ≡ counts id

module _ (minor : Minor) (counts : ℕ → ℕ) (asked : List ℕ) (request : Request) (asks_it : SaysRequest asked request)
    (s : Server) (holds : HoldsOne minor counts request s) where
  abbrev unique : ℕ
  unique = request.unique

  -- the reply whose one copy is sent isn't kept any longer
  not_kept : (kept : Kept) (copy : Copy) → kept.first ≡ copy.first → copy.unique ≡ unique → (all : Map Kept)
      → all ≡ put [] unique kept → kept_after all copy (get all copy.unique) ≡ []
  not_kept kept copy first under all is =
      ap (λ (m : Map Kept). kept_after m copy (get m copy.unique)) is
      ∙ ap (λ (u : ℕ). kept_after (put [] unique kept) copy (get (put [] unique kept) u)) under
      ∙ ap (kept_after (put [] unique kept) copy) (get_put_here [] unique kept)
      ∙ ap (λ (n : ℕ). cond (nat_eq n copy.first) (remove (put [] unique kept) copy.unique) (put [] unique kept)) first
      ∙ ap (λ (b : Bool). cond b (remove (put [] unique kept) copy.unique) (put [] unique kept)) (same_is copy.first)
      ∙ ap (remove (put [] unique kept)) under
      ∙ alone_gone unique kept

  module _ (errno : ℕ) (o : Option Sent) (did : Server) (performs : PerformsHeld s unique errno o did) where
    abbrev less : Server
    less = record s { held = remove s.held unique }

    abbrev one : PerformResult
    one = performed performs.choice less performs.held

    abbrev all : PerformResult
    all = served performs.choice s unique performs.held

    abbrev first_sent : Sent
    first_sent = record { number = s.next_copy; unique = unique; wire = all.wire }

    rest : SameRest less one.server
    rest = performed_rest performs.choice less performs.held

    counted : Counts less one
    counted =
        let sound = holds.sound in
        performed_counts performs.choice less sound.nodes performs.held performs.may

    kept_is : all.server.kept ≡ put [] unique (record { wire = all.wire; first = s.next_copy })
    kept_is =
        let same : all.server.kept ≡ cond s.aborted s.kept
        (put s.kept unique (record { wire = all.wire; first = s.next_copy })) =
        (λ i. cond (rest.aborted i) (rest.kept i)
        (put (rest.kept i) unique (record { wire = one.wire; first = rest.next_copy i }))) in
        same
        ∙ ap (λ (b : Bool). cond b s.kept (put s.kept unique (record { wire = all.wire; first = s.next_copy }))) holds.live
        ∙ ap (λ (m : Map Kept). put m unique (record { wire = all.wire; first = s.next_copy })) holds.kept

    copies_are : all.server.copies
        ≡ put [] s.next_copy (record { unique = unique; wire = all.wire; first = s.next_copy })
    copies_are =
        served_copies performs.choice s unique performs.held
        ∙ ap (λ (b : Bool). cond b s.copies (put s.copies s.next_copy
        (record { unique = unique; wire = all.wire; first = s.next_copy }))) holds.live
        ∙ ap (λ (m : Map Copy). put m s.next_copy
        (record { unique = unique; wire = all.wire; first = s.next_copy })) holds.copies

    sends : SendsOne minor counts first_sent all.server
    sends = record {
      sound = served_sound performs.choice s holds.sound unique performs.held performs.may;
      held = rest.held ∙ holds.alone;
      first = s.next_copy;
      copies = copies_are;
      kept = not_kept (record { wire = all.wire; first = s.next_copy })
          (record { unique = unique; wire = all.wire; first = s.next_copy }) refl refl all.server.kept kept_is;
      live = rest.aborted ∙ holds.live;
      for_minor = rest.minor ∙ holds.for_minor;
      entries = counted.held;
      counted = λ id. counted.counts holds.live id
          ∙ ap (λ (n : ℕ). n + times_named id all.wire) (holds.counted id);
    }

    -- its reply goes with the request
    goes : GoesFor request.body all.wire
    goes =
        let same = holds.body performs.held performs.there in
        subst (λ (b : RequestBody). GoesFor b all.wire) same
        (served_goes performs.choice s unique performs.held (subst IsRepliedTo (sym same) holds.has_reply))

    -- there is a copy, and it is this
    copy_is : o ≡ Some first_sent
    copy_is = performs.copy_is ∙ ap (λ (b : Bool). first_copy b s.next_copy unique all.wire) holds.live

  -- the server that performed it sends its one copy
  module _ (errno : ℕ) (copy : Sent) (did : Server) (performs : PerformsHeld s unique errno (Some copy) did) where
    is_first : copy ≡ first_sent errno (Some copy) did performs
    is_first = some_same copy (first_sent errno (Some copy) did performs) (copy_is errno (Some copy) did performs)

    sends_it : SendsOne minor counts copy did
    sends_it = subst (SendsOne minor counts copy) (sym performs.server_is)
        (subst (λ (c : Sent). SendsOne minor counts c (all errno (Some copy) did performs).server) (sym is_first)
        (sends errno (Some copy) did performs))

    goes_for_it : GoesFor request.body copy.wire
    goes_for_it = subst (λ (c : Sent). GoesFor request.body c.wire) (sym is_first) (goes errno (Some copy) did performs)

    -- The counts follow what is sent for a RELEASE.
    pub release_follows : ((id : ℕ) → times_named id copy.wire ≡ 0) → (new : Server)
        → Settles did copy.number Accepted new → (log : List Transfer) → GivesLookups asked log (λ id. 0)
        → Delivered minor counts asked log new
    release_follows bare new settles log tells = delivered_bare minor counts asked request asks_it copy did sends_it
        (ap (λ (c : Sent). c.unique) is_first) goes_for_it bare new settles log tells

  -- The counts follow what is sent for it.
  pub held_follows : (log : List Transfer) (new : Server) → ServesHeld s unique log new
      → Delivered minor counts asked log new
  held_follows log new (replied errno copy did performs log' new' delivers) =
      delivered minor counts asked request asks_it copy did (sends_it errno copy did performs)
      (ap (λ (c : Sent). c.unique) (is_first errno copy did performs)) (goes_for_it errno copy did performs)
      log new delivers
  held_follows log new (unreplied errno new' performs) =
      let no : ◌≡◌ {A = Option Sent} None (Some (first_sent errno None new performs)) = copy_is errno None new performs in
      cc
  held_follows log new (dropped refusal refuses log' sends) =
      let sound = holds.sound in
      record {
        more = λ id. 0;
        tells = error unique (error_for refusal) sends.bytes sends.written log sends.sends;
        balance = λ id. let same = holds.counted id in omega (arith, same);
        between = λ none. record {
          sound = record {
            tree = sound.tree;
            nodes = sound.nodes;
            handles = sound.handles;
            copies = sound.copies;
          };
          held = holds.alone;
          kept = holds.kept;
          copies = holds.copies;
          live = holds.live;
          for_minor = holds.for_minor;
        };
      }
