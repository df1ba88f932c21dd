-- What the kernel of a world takes as a reply a driven kernel takes.
use Rattle.std.proofs.Common.{◌≡◌, ◌≢◌, inl, inr, ℕ, ◌+◌, ◌-◌, ◌%◌, Bool, true, false, cond, List, [], ◌∷◌, ◌++◌, Option, Some, None, nat_eq, append-nil, refl, ap, sym, subst, ◌∙◌, arith}
use Rattle.std.proofs.lemmas.Int.{ints}
use Rattle.std.proofs.lemmas.List.Elements.{All-nil}
use Rattle.fuse_device.specs.Transfers.{Transfer, received}
use Rattle.fuse_spec.specs.declared.Opened.{Opened}
use Rattle.fuse_spec.specs.declared.Purpose.{Purpose}
use Rattle.fuse_spec.specs.declared.Purpose.TheVariants as purpose
use Rattle.fuse_spec.specs.declared.WriteResult.{WriteResult}
use Rattle.fuse_spec.specs.declared.WriteResult.TheVariants.{NoEntry}
use Rattle.fuse_spec.specs.Calls.Vfs.{CallState, asked}
use Rattle.fuse_spec.specs.Files.Operations.{Operation, lookup}
use Rattle.fuse_spec.specs.Values.Maps.{get}
use Rattle.fuse_spec.specs.Kernel.Kernel.{Kernel}
use Rattle.fuse_spec.specs.Kernel.Messages.{WireReply, asks}
use Rattle.fuse_spec.specs.Kernel.QueueCalls.{waiting}
use Rattle.fuse_spec.specs.Kernel.Refusals.{is_kernel_past_end}
use Rattle.fuse_spec.specs.Kernel.Replies.{interrupt_reply_written, reply_written, request_reply_written}
use Rattle.fuse_frames.specs.RequestTies.{asked_opcode}
use Rattle.fk_kernel.specs.AwaitedReplies.{IsAwaited, IsJudged, IsReplyWritten, awaited, awaited_by, awaited_by_call, awaited_by_interrupt, head_unique, nothing}
use Rattle.fk_drive_frames.specs.Asides.{IsOtherFrame}
use Rattle.fk_drive_frames.specs.OwnRequests.{first_opendir_unique}
use Rattle.fk_drive.specs.Driving.{Driven, first_driven, idle, waits, writes, releases_none}
use Rattle.fk_drive.specs.KernelSteps.{IsReplyTaken}
use Rattle.fk_drive_theorem.proofs.RunsTally.{said_is}
use Rattle.world_sessions.specs.WorldTransfers.{IsReplyOf}
use Rattle.world_sessions.proofs.Reading.{DrivesPlainly, driven_by, plain_next}

judged_of : (o : Operation ℕ Opened) → IsJudged (asked_opcode (asks o))
judged_of (lookup d name) = tt
judged_of o = tt

-- ---- where nothing awaits it

module _ (k : Kernel) (u : ℕ) (wire : WireReply)
    (served : (call : ℕ) → waiting k.queues u ≡ Some (purpose.Call call) → get k.vfs.calls call ≡ None → ⊥) where
  odd_none : (o : Option Purpose) → awaited_by_interrupt o ≡ nothing → interrupt_reply_written k u wire o ≡ (NoEntry, k)
  odd_none None none = refl
  odd_none (Some p) none = absurd (cc none)

  even_none : (o : Option Purpose) → waiting k.queues u ≡ o → awaited_by k o ≡ nothing
      → request_reply_written k u wire o ≡ (NoEntry, k)
  even_none None is none = refl
  even_none (Some purpose.Init) is none = absurd (cc none)
  even_none (Some (purpose.Release o)) is none = absurd (cc none)
  even_none (Some (purpose.Call call)) is none = by (get k.vfs.calls call) refl none
    where
      by : (x : Option (CallState Opened)) → get k.vfs.calls call ≡ x → awaited_by_call x ≡ nothing
          → request_reply_written k u wire (Some (purpose.Call call)) ≡ (NoEntry, k)
      by None gone none = absurd (served call is gone)
      by (Some state) there none = absurd (cc none)

  none_awaits : awaited k u ≡ nothing → reply_written k u wire ≡ (NoEntry, k)
  none_awaits none = by (nat_eq (u % 2) 1) none
    where
      by : (b : Bool) → cond b (awaited_by_interrupt (waiting k.queues (u - 1))) (awaited_by k (waiting k.queues u)) ≡ nothing
          → cond b (interrupt_reply_written k u wire (waiting k.queues (u - 1))) (request_reply_written k u wire (waiting k.queues u))
          ≡ (NoEntry, k)
      by true none = odd_none (waiting k.queues (u - 1)) none
      by false none = even_none (waiting k.queues u) refl none

pub kinds_of : (k : Kernel) (u : ℕ) → IsAwaited (awaited k u)
kinds_of k u = by (nat_eq (u % 2) 1)
  where
    odd : (o : Option Purpose) → IsAwaited (awaited_by_interrupt o)
    odd None = tt
    odd (Some p) = tt

    of_call : (o : Option (CallState Opened)) → IsAwaited (awaited_by_call o)
    of_call None = tt
    of_call (Some state) = judged_of (asked state)

    even : (o : Option Purpose) → IsAwaited (awaited_by k o)
    even None = tt
    even (Some purpose.Init) = tt
    even (Some (purpose.Release o)) = tt
    even (Some (purpose.Call call)) = of_call (get k.vfs.calls call)

    by : (b : Bool) → IsAwaited (cond b (awaited_by_interrupt (waiting k.queues (u - 1))) (awaited_by k (waiting k.queues u)))
    by true = odd (waiting k.queues (u - 1))
    by false = even (waiting k.queues u)

-- ---- a reply

module _ (k : Kernel) (bytes : List ℕ) (unique : ℕ) (wire : WireReply) (is : IsReplyOf k bytes unique wire)
    (served : (call : ℕ) → waiting k.queues unique ≡ Some (purpose.Call call) → get k.vfs.calls call ≡ None → ⊥)
    (within : is_kernel_past_end (reply_written k unique wire).1 ≡ false) where
  taken_at : (u : ℕ) → unique ≡ u → head_unique bytes ≡ u
      → IsReplyTaken k bytes (reply_written k unique wire).0 (reply_written k unique wire).1
  taken_at u same under =
      let at : head_unique bytes ≡ unique = under ∙ sym same in record {
        headless = λ none. absurd (none is.head);
        unawaited = λ head none.
            let e = none_awaits k unique wire served (ap (awaited k) (sym at) ∙ none) in
            (ap (λ (r : WriteResult × Kernel). r.0) e, ap (λ (r : WriteResult × Kernel). r.1) e);
        taken = λ head. subst (λ (n : ℕ). IsReplyWritten k n bytes (awaited k n) (reply_written k unique wire).0
            (reply_written k unique wire).1) (sym at) (record {
              kinds = kinds_of k unique;
              said = λ o judged awaits other says. ap (reply_written k unique) (sym (said_is o bytes other says) ∙ said_is o bytes wire (is.says o awaits));
              unsaid = λ o judged awaits none. absurd (none wire (is.says o awaits));
            });
        within = within;
      }

  not_other : IsOtherFrame first_opendir_unique bytes → ⊥
  not_other (inl notice) =
      let some = notice.code in
      let positive = notice.positive in
      let error = is.head.1 in
      omega (arith, ints, some, positive, error.0)
  not_other (inr own) =
      let low = own.own in
      let less = own.allocated in
      omega (arith, low, less)

  pub comes_over : (n : ℕ) (before : List Transfer) → DrivesPlainly n (first_driven false) before (driven_by k)
      → DrivesPlainly (n + 0) (first_driven false) (before ++ received bytes ∷ []) (driven_by (reply_written k unique wire).1)
  comes_over n before run =
      let l : Kernel = (reply_written k unique wire).1 in
      let mid : Driven = record (driven_by k) { waiting = bytes ∷ [] } in
      let waited : DrivesPlainly (n + 0) (first_driven false) (before ++ received bytes ∷ []) mid =
      plain_next n (first_driven false) before (driven_by k) run (received bytes ∷ []) mid (waits bytes not_other) is.known in
      let behind : DrivesPlainly (n + 0 + 0) (first_driven false) ((before ++ received bytes ∷ []) ++ []) (driven_by l) =
      plain_next (n + 0) (first_driven false) (before ++ received bytes ∷ []) mid waited [] (driven_by l)
      (writes refl bytes [] refl bytes (inr (is.known, refl)) (reply_written k unique wire).0 l
      (taken_at unique refl is.under) [] first_opendir_unique [] idle
      (releases_none (λ head less. All-nil (λ (d : ℕ × Opened). d.0 ≢ head_unique bytes)))) tt in
      subst (λ (m : ℕ). DrivesPlainly m (first_driven false) (before ++ received bytes ∷ []) (driven_by l)) (omega arith)
      (subst (λ (log : List Transfer). DrivesPlainly (n + 0 + 0) (first_driven false) log (driven_by l))
      (append-nil (before ++ received bytes ∷ [])) behind)
