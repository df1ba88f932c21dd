-- The server performs a request: it is held no longer, and what it is replied is kept and sent.
use Rattle.std.proofs.Common.{◌≡◌, ℕ, true, [], ◌∷◌, ◌++◌, Some, ap, sym, subst, ◌∙◌, inl, inr}
use Rattle.std.proofs.lemmas.Bool.{cases_eq}
use Rattle.std.proofs.lemmas.List.Elements.{All-push}
use Rattle.fuse_spec.specs.Values.Maps.{Map, get, put, remove}
use Rattle.fuse_spec.specs.Kernel.Messages.{WireReply}
use Rattle.fuse_spec.specs.Kernel.Kernel.{is_live}
use Rattle.fuse_spec.specs.Server.Server.{Kept, Copy}
use Rattle.fuse_spec.specs.World.Worlds.{World, Sent}
use Rattle.fuse_spec.specs.Reference.Plain.{Plain, Ask}
use Rattle.fuse_spec.specs.Claim.Alike.{IsStageReplied, Alike}
use Rattle.fuse_spec.proofs.Tables.{get_put_here, get_put_there, get_gone_here, get_gone_there}

module _ (w : World) (p : Plain) (same : Alike w p) where
  -- A request is held no longer.
  pub unheld_alike : (unique : ℕ) → Alike (record w {
    server =
        record w.server { held = remove w.server.held unique };
  }) p
  unheld_alike unique = record {
    tree = record {
      names = same.tree.names;
      next_inode = same.tree.next_inode;
      next_cookie = same.tree.next_cookie;
      files = same.tree.files;
    };
    vfs = same.vfs;
    requests = record {
      pending = same.requests.pending;
      sent = same.requests.sent;
      held = λ u t at. elim (cases_eq u unique) [
        | inl e ↦ absurd (cc (
          subst (λ (n : ℕ). get (remove w.server.held unique) n ≡ Some t) e at,
          get_gone_here w.server.held unique,
        ))
        | inr ne ↦ same.requests.held u t (sym (get_gone_there w.server.held unique u ne) ∙ at)
      ];
    };
    asks = λ live.
        let old = same.asks live in
        record {
          of_calls = λ q state is.
              let pair = old.of_calls q state is in
              record {
                unique = pair.unique;
                ask = pair.ask;
                request = pair.request;
                there = pair.there;
                by = pair.by;
                same = pair.same;
              };
          no_other = old.no_other;
          signalled = old.signalled;
          kept = old.kept;
          copies = old.copies;
        };
    validity = same.validity;
    minor = same.minor;
    agreed = same.agreed;
    aborted = same.aborted;
  }

  -- A reply is kept under a number, and a copy of it goes out. It says what the ask under that number came to.
  pub replied_alike : (unique number next : ℕ) (wire : WireReply) (kept : Kept) (copies : Map Copy) → kept.wire ≡ wire
      → (is_live w.kernel.phase ≡ true → (ask : Ask) → get p.asks unique ≡ Some ask
      → IsStageReplied w.server.nodes w.server.handles ask.stage wire)
      → Alike (record w {
        server = record w.server {
          kept = put w.server.kept unique kept;
          copies = copies;
          next_copy = next;
        };
        replies = w.replies ++ record { number = number; unique = unique; wire = wire } ∷ [];
      }) p
  replied_alike unique number next wire kept copies is_wire reply_matches = record {
    tree = record {
      names = same.tree.names;
      next_inode = same.tree.next_inode;
      next_cookie = same.tree.next_cookie;
      files = same.tree.files;
    };
    vfs = same.vfs;
    requests = record { pending = same.requests.pending; sent = same.requests.sent; held = same.requests.held };
    asks = λ live.
        let old = same.asks live in
        record {
          of_calls = λ q state is.
              let pair = old.of_calls q state is in
              record {
                unique = pair.unique;
                ask = pair.ask;
                request = pair.request;
                there = pair.there;
                by = pair.by;
                same = pair.same;
              };
          no_other = old.no_other;
          signalled = old.signalled;
          kept = λ u k ask at there. elim (cases_eq u unique) [
            | inl e ↦
                let is_kept : kept ≡ k = cc (
                  get_put_here w.server.kept unique kept,
                  subst (λ (n : ℕ). get (put w.server.kept unique kept) n ≡ Some k) e at,
                ) in
                subst (λ (x : WireReply). IsStageReplied w.server.nodes w.server.handles ask.stage x)
                (sym is_wire ∙ ap (λ (x : Kept). x.wire) is_kept)
                (reply_matches live ask (subst (λ (n : ℕ). get p.asks n ≡ Some ask) e there))
            | inr ne ↦ old.kept u k ask (sym (get_put_there w.server.kept unique kept u ne) ∙ at) there
          ];
          copies = All-push (λ (sent : Sent). (ask : Ask) → get p.asks sent.unique ≡ Some ask
              → IsStageReplied w.server.nodes w.server.handles ask.stage sent.wire) w.replies
              (record { number = number; unique = unique; wire = wire }) old.copies
              (reply_matches live);
        };
    validity = same.validity;
    minor = same.minor;
    agreed = same.agreed;
    aborted = same.aborted;
  }

  -- One more copy goes out. It says what the ask under its number came to.
  pub copied_alike : (unique number next : ℕ) (wire : WireReply) (copies : Map Copy)
      → (is_live w.kernel.phase ≡ true → (ask : Ask) → get p.asks unique ≡ Some ask
      → IsStageReplied w.server.nodes w.server.handles ask.stage wire)
      → Alike (record w {
        server = record w.server { copies = copies; next_copy = next };
        replies = w.replies ++ record { number = number; unique = unique; wire = wire } ∷ [];
      }) p
  copied_alike unique number next wire copies reply_matches = record {
    tree = record {
      names = same.tree.names;
      next_inode = same.tree.next_inode;
      next_cookie = same.tree.next_cookie;
      files = same.tree.files;
    };
    vfs = same.vfs;
    requests = record { pending = same.requests.pending; sent = same.requests.sent; held = same.requests.held };
    asks = λ live.
        let old = same.asks live in
        record {
          of_calls = λ q state is.
              let pair = old.of_calls q state is in
              record {
                unique = pair.unique;
                ask = pair.ask;
                request = pair.request;
                there = pair.there;
                by = pair.by;
                same = pair.same;
              };
          no_other = old.no_other;
          signalled = old.signalled;
          kept = old.kept;
          copies = All-push (λ (sent : Sent). (ask : Ask) → get p.asks sent.unique ≡ Some ask
              → IsStageReplied w.server.nodes w.server.handles ask.stage sent.wire) w.replies
              (record { number = number; unique = unique; wire = wire }) old.copies
              (reply_matches live);
        };
    validity = same.validity;
    minor = same.minor;
    agreed = same.agreed;
    aborted = same.aborted;
  }
