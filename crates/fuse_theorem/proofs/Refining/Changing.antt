-- One ask changes, and stays the ask of the same call and the same operation.
use Rattle.std.proofs.Common.{◌≡◌, ℕ, true, false, Some, get_or, ap, sym, subst, ◌∙◌, inl, inr, All}
use Rattle.std.proofs.lemmas.Bool.{cases_eq}
use Rattle.fuse_spec.specs.declared.Purpose.{Purpose}
use Rattle.fuse_spec.specs.declared.QueuedRequest.{QueuedRequest}
use Rattle.fuse_spec.specs.Values.Maps.{get, put}
use Rattle.fuse_spec.specs.Files.Operations.{Operation, OperationAlike}
use Rattle.fuse_spec.specs.Kernel.Queues.{pending, request_under, is_signalled}
use Rattle.fuse_spec.specs.Kernel.Messages.{Request}
use Rattle.fuse_spec.specs.Kernel.Kernel.{body_of, request_of}
use Rattle.fuse_spec.specs.Calls.Vfs.{asked}
use Rattle.fuse_spec.specs.Server.Server.{HeldRequest, Kept}
use Rattle.fuse_spec.specs.World.Worlds.{World, Sent}
use Rattle.fuse_spec.specs.Reference.Plain.{Plain, Ask}
use Rattle.fuse_spec.specs.Claim.Denotes.{NodeDenotesIn, OpenDenotesIn}
use Rattle.fuse_spec.specs.Claim.Alike.{RequestBodyAsked, PurposeAsked, StillDenotes, OpenStillDenotes, IsStageReplied, Alike}
use Rattle.fuse_spec.proofs.Tables.{get_put_here, get_put_there}
use Rattle.fuse_theorem.proofs.Refining.Asking.{match_more, asked_beside}

-- The plain world with another ask under a label.
abbrev pub with_ask : Plain → ℕ → Ask → Plain
with_ask p label ask = record p { asks = put p.asks label ask }

-- What has to hold of an ask that takes the place of another.
pub record MayReplace (w : World) (p : Plain) (label : ℕ) (new : Ask) : Type 0 where
  pub old : Ask
  pub there : get p.asks label ≡ Some old
  pub same_call : new.call ≡ old.call
  pub same_operation : new.operation ≡ old.operation
  pub pending : All (λ (e : ℕ × QueuedRequest Purpose). e.0 ≡ label → PurposeAsked w (with_ask p label new) e)
      (pending w.kernel.queues)
  pub sent : All (λ (r : Request). r.unique ≡ label
      → RequestBodyAsked (put p.asks label new) r.unique false false (NodeDenotesIn w) (OpenDenotesIn w) r.body) w.requests
  pub held : (t : HeldRequest) → get w.server.held label ≡ Some t
      → RequestBodyAsked (put p.asks label new) label false t.marked (StillDenotes w.server.nodes t.generations)
      (OpenStillDenotes w.server.nodes w.server.handles t.generations) t.body
  pub noted : (request : QueuedRequest Purpose) → request_under w.kernel.queues label ≡ Some request
      → is_signalled request.mark ≡ true → old.noted ≡ true → new.noted ≡ true
  pub kept : (kept : Kept) → get w.server.kept label ≡ Some kept
      → IsStageReplied w.server.nodes w.server.handles old.stage kept.wire
      → IsStageReplied w.server.nodes w.server.handles new.stage kept.wire
  pub copies : All (λ (sent : Sent). sent.unique ≡ label
      → IsStageReplied w.server.nodes w.server.handles old.stage sent.wire
      → IsStageReplied w.server.nodes w.server.handles new.stage sent.wire) w.replies

module _ (w : World) (p : Plain) (same : Alike w p) (label : ℕ) (new : Ask) (may : MayReplace w p label new) where
  there_now : get (put p.asks label new) label ≡ Some new
  there_now = get_put_here p.asks label new

  -- The two stay alike.
  pub ask_changed : Alike w (with_ask p label new)
  ask_changed = record {
    tree = same.tree;
    vfs = same.vfs;
    requests = record {
      pending = λ i e lt.
          let entry = get_or (pending w.kernel.queues) i e in
          elim (cases_eq entry.0 label) [
            | inl here ↦ may.pending i e lt here
            | inr ne ↦
                match_more (body_of w.kernel entry.1.kept) (λ body h. asked_beside (NodeDenotesIn w)
                (OpenDenotesIn w) p.asks label new entry.0 (is_signalled entry.1.mark) false body ne h)
                (same.requests.pending i e lt)
          ];
      sent = λ i r lt.
          let request = get_or w.requests i r in
          elim (cases_eq request.unique label) [
            | inl here ↦ may.sent i r lt here
            | inr ne ↦ asked_beside (NodeDenotesIn w)
                (OpenDenotesIn w) p.asks label new request.unique false false request.body ne (same.requests.sent i r lt)
          ];
      held = λ u t at. elim (cases_eq u label) [
        | inl here ↦
            subst (λ (n : ℕ). RequestBodyAsked (put p.asks label new) n false t.marked
            (StillDenotes w.server.nodes t.generations) (OpenStillDenotes w.server.nodes w.server.handles t.generations) t.body)
            (sym here)
            (may.held t (subst (λ (n : ℕ). get w.server.held n ≡ Some t) here at))
        | inr ne ↦ asked_beside _ _ p.asks label new u false t.marked t.body ne (same.requests.held u t at)
      ];
    };
    asks = λ live.
        let old = same.asks live in
        record {
          of_calls = λ q state at.
              let pair = old.of_calls q state at in
              elim (cases_eq pair.unique label) [
                | inl here ↦
                    let is_old : pair.ask ≡ may.old = cc (
                      may.there,
                      subst (λ (n : ℕ). get p.asks n ≡ Some pair.ask) here pair.there,
                    ) in
                    record {
                      unique = label;
                      ask = new;
                      request = subst (λ (n : ℕ). request_of w.kernel q ≡ Some n) here pair.request;
                      there = there_now;
                      by = may.same_call ∙ ap (λ (a : Ask). a.call) (sym is_old) ∙ pair.by;
                      same = subst (λ (o : Operation ℕ ℕ). OperationAlike (NodeDenotesIn w) (OpenDenotesIn w) (asked state) o)
                          (ap (λ (a : Ask). a.operation) is_old ∙ sym may.same_operation) pair.same;
                    }
                | inr ne ↦
                    record {
                      unique = pair.unique;
                      ask = pair.ask;
                      request = pair.request;
                      there = get_put_there p.asks label new pair.unique ne ∙ pair.there;
                      by = pair.by;
                      same = pair.same;
                    }
              ];
          no_other = λ u x at. elim (cases_eq u label) [
            | inl here ↦
                let is_new : new ≡ x = cc (
                  there_now,
                  subst (λ (n : ℕ). get (put p.asks label new) n
                      ≡ Some x) here at,
                ) in
                subst (λ (n : ℕ). request_of w.kernel x.call ≡ Some n) (sym here)
                (subst (λ (c : ℕ). request_of w.kernel c ≡ Some label)
                (sym may.same_call ∙ ap (λ (a : Ask). a.call) is_new) (old.no_other label may.old may.there))
            | inr ne ↦ old.no_other u x (sym (get_put_there p.asks label new u ne) ∙ at)
          ];
          signalled = λ u request x under at bears. elim (cases_eq u label) [
            | inl here ↦
                let is_new : new ≡ x = cc (
                  there_now,
                  subst (λ (n : ℕ). get (put p.asks label new) n
                      ≡ Some x) here at,
                ) in
                let mine : request_under w.kernel.queues label ≡ Some request =
                subst (λ (n : ℕ). request_under w.kernel.queues n ≡ Some request) here under in
                subst (λ (a : Ask). a.noted ≡ true) is_new (may.noted request mine bears
                (old.signalled label request may.old mine may.there bears))
            | inr ne ↦ old.signalled u request x under (sym (get_put_there p.asks label new u ne) ∙ at) bears
          ];
          kept = λ u kept x stored at. elim (cases_eq u label) [
            | inl here ↦
                let is_new : new ≡ x = cc (
                  there_now,
                  subst (λ (n : ℕ). get (put p.asks label new) n
                      ≡ Some x) here at,
                ) in
                let mine : get w.server.kept label ≡ Some kept =
                subst (λ (n : ℕ). get w.server.kept n ≡ Some kept) here stored in
                subst (λ (a : Ask). IsStageReplied w.server.nodes w.server.handles a.stage kept.wire) is_new
                (may.kept kept mine (old.kept label kept may.old mine may.there))
            | inr ne ↦ old.kept u kept x stored (sym (get_put_there p.asks label new u ne) ∙ at)
          ];
          copies = λ i s lt x at.
              let sent = get_or w.replies i s in
              elim (cases_eq sent.unique label) [
                | inl here ↦
                    let is_new : new ≡ x = cc (
                      there_now,
                      subst (λ (n : ℕ). get (put p.asks label new) n
                          ≡ Some x) here at,
                    ) in
                    subst (λ (a : Ask). IsStageReplied w.server.nodes w.server.handles a.stage sent.wire) is_new
                    (may.copies i s lt here (old.copies i s lt may.old
                    (subst (λ (n : ℕ). get p.asks n ≡ Some may.old) (sym here) may.there)))
                | inr ne ↦ old.copies i s lt x (sym (get_put_there p.asks label new sent.unique ne) ∙ at)
              ];
        };
    validity = same.validity;
    minor = same.minor;
    agreed = same.agreed;
    aborted = same.aborted;
  }
