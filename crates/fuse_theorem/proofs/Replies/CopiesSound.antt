-- The copies of replies stay as the server knows them, whatever happens.
use Rattle.std.proofs.Common.{◌≡◌, ◌≢◌, ℕ, ◌+◌, ◌≤◌, Bool, true, false, true≢false, cond, List, [], ◌∷◌, ◌++◌, Option, Some, None, nat_eq, get_or, slice_get, count_by, refl, ap, sym, subst, ◌∙◌, arith, inl, inr, All}
use Rattle.std.specs.List.{remove as without_at}
use Rattle.std.proofs.lemmas.Bool.{cases_eq}
use Rattle.std.proofs.lemmas.List.Elements.{All-nil, All-push}
use Rattle.fuse_spec.specs.declared.ReplyResult.{ReplyResult}
use Rattle.fuse_spec.specs.declared.WriteResult.{WriteResult}
use Rattle.fuse_spec.specs.declared.WriteResult.TheVariants.{Accepted, NoEntry, Invalid}
use Rattle.fuse_spec.specs.Values.Maps.{Map, get, put, remove}
use Rattle.fuse_spec.specs.Kernel.Messages.{Request, RequestBody, init, asks, release, forget, batch_forget, interrupt}
use Rattle.fuse_spec.specs.Files.Operations.{failed}
use Rattle.fuse_spec.specs.Kernel.Kernel.{Kernel}
use Rattle.fuse_spec.specs.Server.Server.{Server, HeldRequest, Kept, Copy}
use Rattle.fuse_spec.specs.Server.Taking.{taking, interrupting}
use Rattle.fuse_spec.specs.Server.Performs.{performed, served}
use Rattle.fuse_spec.specs.Server.Copies.{kept_after, after_result}
use Rattle.fuse_spec.specs.Kernel.Replies.{reply_written}
use Rattle.fuse_spec.specs.World.Worlds.{World, Sent, copy_put, first_world, after_take, after_perform, after_again, after_write, after_settle}
use Rattle.fuse_spec.specs.World.Events.{Event, Outcome}
use Rattle.fuse_spec.proofs.QueueCounts.{count_by-push}
use Rattle.fuse_spec.proofs.Tables.{get_put_here, get_put_there, get_gone_there}
use Rattle.fuse_theorem.specs.Copies.{IsKnownCopy, CopiesSound}
use Rattle.fuse_theorem.specs.ServerTables.{ServerSound}
use Rattle.fuse_theorem.proofs.Calls.Finding.{same_is, other_is, none_passes, all_fail}
use Rattle.fuse_theorem.proofs.RefusalCases.Happened.{Happened, by_mount, by_call, by_read_interrupt, by_read_forgets, by_read_pending, by_take, by_perform, by_again, by_write, by_settle, by_signal, by_tick, by_drop, by_evict, by_abort}
use Rattle.fuse_theorem.proofs.Lists.LinkSums.{sum_removed}
use Rattle.fuse_theorem.proofs.Requests.PerformedRest.{performed_rest}
use Rattle.fuse_theorem.proofs.Refining.Queuing.{All-without, All-at}

-- How often a number stands on the reply link, and on the result link.
abbrev sent_under : ℕ → List Sent → ℕ
sent_under number replies = count_by (λ (s : Sent). nat_eq number s.number) replies

abbrev results_under : ℕ → List ReplyResult → ℕ
results_under number results = count_by (λ (r : ReplyResult). nat_eq number r.number) results

-- What a served request leaves of the copies: one more, unless the mount is aborted.
pub served_copies : (choice : ℕ → ℕ) (s : Server) (unique : ℕ) (t : HeldRequest)
    → (served choice s unique t).server.copies ≡ cond s.aborted s.copies
    (put s.copies s.next_copy (record {
      unique = unique;
      wire = (served choice s unique t).wire;
      first = s.next_copy;
    }))
served_copies choice s unique t =
    let less = record s { held = remove s.held unique } in
    let rest = performed_rest choice less t in
    λ i. cond (rest.aborted i) (rest.copies i) (put (rest.copies i) (rest.next_copy i)
    (record { unique = unique; wire = (performed choice less t).wire; first = rest.next_copy i }))

-- Nothing is on the links.
nothing_sent : (w : World) → w.replies ≡ [] → w.results ≡ [] → CopiesSound w
nothing_sent w replies results = record {
  sent = subst (λ (xs : List Sent). All (IsKnownCopy w.server.copies) xs) (sym replies)
      (All-nil (IsKnownCopy w.server.copies));
  results = subst (λ (xs : List ReplyResult). All (λ (r : ReplyResult). get w.server.copies r.number ≢ None) xs)
      (sym results) (All-nil (λ (r : ReplyResult). get w.server.copies r.number ≢ None));
  once = λ number.
      subst (λ (xs : List Sent). sent_under number xs + results_under number w.results ≤ 1) (sym replies)
      (subst (λ (xs : List ReplyResult). 0 + results_under number xs ≤ 1) (sym results) (omega arith));
}

module _ (w : World) (sound : CopiesSound w) where
  -- The copies and the links are the same.
  copies_same : (v : World) → v.server.copies ≡ w.server.copies → v.replies ≡ w.replies → v.results ≡ w.results
      → CopiesSound v
  copies_same v copies replies results = record {
    sent = subst (λ (xs : List Sent). All (IsKnownCopy v.server.copies) xs) (sym replies)
        (subst (λ (m : Map Copy). All (IsKnownCopy m) w.replies) (sym copies) sound.sent);
    results = subst (λ (xs : List ReplyResult). All (λ (r : ReplyResult). get v.server.copies r.number ≢ None) xs)
        (sym results) (subst (λ (m : Map Copy). All (λ (r : ReplyResult). get m r.number ≢ None) w.results)
        (sym copies) sound.results);
    once = λ number. subst (λ (xs : List Sent). sent_under number xs + results_under number v.results ≤ 1)
        (sym replies) (subst (λ (xs : List ReplyResult). sent_under number w.replies + results_under number xs ≤ 1)
        (sym results) (sound.once number));
  }

  module _ (server : ServerSound w.server) where
    abbrev new : ℕ
    new = w.server.next_copy

    no_copy : get w.server.copies new ≡ None
    no_copy = server.copies new (omega arith)

    -- no copy on its way has the coming number
    sent_other : All (λ (s : Sent). nat_eq new s.number ≡ false) w.replies
    sent_other i s lt =
        let known = sound.sent i s lt in
        other_is new (get_or w.replies i s).number (λ e. absurd
        (cc (known.there, subst (λ (n : ℕ). get w.server.copies n ≡ None) e no_copy)))

    results_other : All (λ (r : ReplyResult). nat_eq new r.number ≡ false) w.results
    results_other i r lt = other_is new (get_or w.results i r).number
        (λ e. sound.results i r lt (subst (λ (n : ℕ). get w.server.copies n ≡ None) e no_copy))

    module _ (copy : Copy) where
      abbrev sent : Sent
      sent = record { number = w.server.next_copy; unique = copy.unique; wire = copy.wire }

      abbrev more : Map Copy
      more = put w.server.copies w.server.next_copy copy

      apart : (n : ℕ) → get w.server.copies n ≢ None → n ≢ w.server.next_copy
      apart n there e = there (subst (λ (m : ℕ). get w.server.copies m ≡ None) (sym e) no_copy)

      known_still : All (IsKnownCopy more) w.replies
      known_still i s lt =
          let known = sound.sent i s lt in
          let n = (get_or w.replies i s).number in
          record {
            copy = known.copy;
            there = get_put_there w.server.copies w.server.next_copy copy n
                (apart n (λ e. absurd (cc (known.there, e)))) ∙ known.there;
            same_unique = known.same_unique;
            same_wire =
                known.same_wire;
          }

      there_still : All (λ (r : ReplyResult). get more r.number ≢ None) w.results
      there_still i r lt e = let n = (get_or w.results i r).number in
          sound.results i r lt (sym (get_put_there w.server.copies w.server.next_copy copy n
          (apart n (sound.results i r lt))) ∙ e)

      at_new : sent_under w.server.next_copy (w.replies ++ sent ∷ []) + results_under w.server.next_copy w.results ≤ 1
      at_new =
          let pushed = count_by-push (λ (s : Sent). nat_eq w.server.next_copy s.number) w.replies sent in
          let none_sent = all_fail (λ (s : Sent). nat_eq w.server.next_copy s.number) w.replies sent_other in
          let none_back = all_fail (λ (r : ReplyResult). nat_eq w.server.next_copy r.number) w.results results_other in
          rw (pushed, none_sent, none_back, same_is w.server.next_copy) (omega arith)

      once_more : (number : ℕ) → sent_under number (w.replies ++ sent ∷ []) + results_under number w.results ≤ 1
      once_more number = elim (cases_eq number w.server.next_copy) [
        | inl e ↦ subst (λ (n : ℕ). sent_under n (w.replies ++ sent ∷ []) + results_under n w.results ≤ 1)
            (sym e) at_new
        | inr ne ↦
            let pushed = count_by-push (λ (s : Sent). nat_eq number s.number) w.replies sent in
            let other = other_is number w.server.next_copy ne in
            let old = sound.once number in
            rw (pushed, other) (omega (arith, old))
      ]

      -- A result's copy is the same one still.
      pub results_still : All (λ (r : ReplyResult). get more r.number ≡ get w.server.copies r.number) w.results
      results_still i r lt = let n = (get_or w.results i r).number in
          get_put_there w.server.copies w.server.next_copy copy n (apart n (sound.results i r lt))

      -- One more copy goes out.
      copy_sent : (v : World) → v.server.copies ≡ more → v.replies ≡ w.replies ++ sent ∷ [] → v.results ≡ w.results
          → CopiesSound v
      copy_sent v copies replies results = record {
        sent = subst (λ (xs : List Sent). All (IsKnownCopy v.server.copies) xs) (sym replies)
            (subst (λ (m : Map Copy). All (IsKnownCopy m) (w.replies ++ sent ∷ [])) (sym copies)
            (All-push (IsKnownCopy more) w.replies sent known_still
            (record {
              copy = copy;
              there = get_put_here w.server.copies w.server.next_copy copy;
              same_unique = refl;
              same_wire = refl;
            })));
        results = subst (λ (xs : List ReplyResult). All (λ (r : ReplyResult). get v.server.copies r.number ≢ None) xs)
            (sym results) (subst (λ (m : Map Copy). All (λ (r : ReplyResult). get m r.number ≢ None) w.results)
            (sym copies) there_still);
        once = λ number. subst (λ (xs : List Sent). sent_under number xs + results_under number v.results ≤ 1)
            (sym replies) (subst (λ (xs : List ReplyResult). sent_under number
            (w.replies ++ sent ∷ []) + results_under number xs ≤ 1) (sym results) (once_more number));
      }

  -- ---- events

  taken_copies : ServerSound w.server → (k : ℕ) (r : Request)
      → CopiesSound (after_take w k r.unique (taking w.server r.unique r.body))
  taken_copies server k r = by r.body
    where
      interrupts : (original : ℕ) (h : Option HeldRequest) (o : Option Kept)
          → CopiesSound (after_take w k r.unique (interrupting w.server r.unique original h o))
      interrupts original (Some t) o = copies_same _ refl refl refl
      interrupts original None (Some x) = copies_same _ refl refl refl
      interrupts original None None = copy_sent server
          (record { unique = r.unique; wire = failed 11; first = w.server.next_copy }) _ refl refl refl

      by : (body : RequestBody) → CopiesSound (after_take w k r.unique (taking w.server r.unique body))
      by (init flags) = copies_same _ refl refl refl
      by (asks operation) = copies_same _ refl refl refl
      by (release o) = copies_same _ refl refl refl
      by (forget f) = copies_same _ refl refl refl
      by (batch_forget fs) = copies_same _ refl refl refl
      by (interrupt original) = interrupts original (get w.server.held original) (get w.server.kept original)

  performed_copies : ServerSound w.server → (choice : ℕ → ℕ) (unique : ℕ) (t : HeldRequest)
      → CopiesSound (after_perform w unique (served choice w.server unique t))
  performed_copies server choice unique t = by w.server.aborted (served_copies choice w.server unique t)
    where
      by : (b : Bool) → (served choice w.server unique t).server.copies
          ≡ cond b w.server.copies (put w.server.copies w.server.next_copy
          (record { unique = unique; wire = (served choice w.server unique t).wire; first = w.server.next_copy }))
          → CopiesSound (copy_put (record w {
            server =
                (served choice w.server unique t).server;
          }) w.server.next_copy unique
          (cond b None (Some (served choice w.server unique t).wire)))
      by true copies = copies_same (record w { server = (served choice w.server unique t).server }) copies refl refl
      by false copies = copy_sent server (record {
        unique = unique;
        wire = (served choice w.server unique t).wire;
        first = w.server.next_copy;
      }) (copy_put (record w {
        server =
            (served choice w.server unique t).server;
      }) w.server.next_copy unique
          (Some (served choice w.server unique t).wire)) copies refl refl

  again_copies : ServerSound w.server → (unique : ℕ) (kept : Kept) → CopiesSound (after_again w unique kept)
  again_copies server unique kept = copy_sent server (record { unique = unique; wire = kept.wire; first = kept.first })
      (after_again w unique kept) refl refl refl

  written_copies : (k : ℕ) (sent : Sent) → slice_get w.replies k ≡ Some sent → (taken : WriteResult × Kernel)
      → CopiesSound (after_write w k sent taken)
  written_copies k sent there taken = record {
    sent = All-without (IsKnownCopy w.server.copies) w.replies k sound.sent;
    results = All-push (λ (r : ReplyResult). get w.server.copies r.number ≢ None) w.results
        (record { number = sent.number; unique = sent.unique; result = taken.0 }) sound.results
        (let known = All-at (IsKnownCopy w.server.copies) w.replies k sent sound.sent there in
        λ e. absurd (cc (known.there, e)));
    once = λ number.
        let gone = sum_removed (λ (s : Sent). cond (nat_eq number s.number) 1 0) w.replies k sent there in
        let pushed = count_by-push (λ (r : ReplyResult). nat_eq number r.number) w.results
        (record { number = sent.number; unique = sent.unique; result = taken.0 }) in
        let old = sound.once number in
        omega (arith, gone, pushed, old);
  }

  -- A copy is settled: no other result, and no copy on the reply link, has its number.
  module _ (k : ℕ) (result : ReplyResult) (there : slice_get w.results k ≡ Some result) where
    gone_here : results_under result.number (without_at w.results k) + 1 ≡ results_under result.number w.results
    gone_here = subst (λ (b : Bool). results_under result.number (without_at w.results k) + cond b 1 0
        ≡ results_under result.number w.results) (same_is result.number)
        (sum_removed (λ (r : ReplyResult). cond (nat_eq result.number r.number) 1 0) w.results k result there)

    apart_from : (n : ℕ) → nat_eq result.number n ≡ false → n ≢ result.number
    apart_from n no_tie e = true≢false (sym (same_is result.number) ∙ ap (nat_eq result.number) (sym e) ∙ no_tie)

    sent_apart : All (λ (s : Sent). s.number ≢ result.number) w.replies
    sent_apart i s lt =
        let old = sound.once result.number in
        let gone = gone_here in
        apart_from (get_or w.replies i s).number (none_passes (λ (x : Sent). nat_eq result.number x.number) w.replies
        (omega (arith, gone, old)) i s lt)

    pub results_apart : All (λ (r : ReplyResult). r.number ≢ result.number) (without_at w.results k)
    results_apart i r lt =
        let old = sound.once result.number in
        let gone = gone_here in
        apart_from (get_or (without_at w.results k) i r).number
        (none_passes (λ (x : ReplyResult). nat_eq result.number x.number) (without_at w.results k)
        (omega (arith, gone, old)) i r lt)

    fewer : (number : ℕ) → sent_under number w.replies + results_under number (without_at w.results k) ≤ 1
    fewer number =
        let gone = sum_removed (λ (r : ReplyResult). cond (nat_eq number r.number) 1 0) w.results k result there in
        let old = sound.once number in
        omega (arith, gone, old)

    copy_settled : (v : World) → v.server.copies ≡ remove w.server.copies result.number → v.replies ≡ w.replies
        → v.results ≡ without_at w.results k → CopiesSound v
    copy_settled v copies replies results = record {
      sent = subst (λ (xs : List Sent). All (IsKnownCopy v.server.copies) xs) (sym replies)
          (subst (λ (m : Map Copy). All (IsKnownCopy m) w.replies) (sym copies)
          (λ i s lt.
          let known = sound.sent i s lt in
          record {
            copy = known.copy;
            there = get_gone_there w.server.copies result.number
                (get_or w.replies i s).number (sent_apart i s lt) ∙ known.there;
            same_unique =
                known.same_unique;
            same_wire = known.same_wire;
          }));
      results = subst (λ (xs : List ReplyResult). All (λ (r : ReplyResult). get v.server.copies r.number ≢ None) xs)
          (sym results)
          (subst (λ (m : Map Copy). All (λ (r : ReplyResult). get m r.number ≢ None) (without_at w.results k))
          (sym copies)
          (λ i r lt e.
          All-without (λ (x : ReplyResult). get w.server.copies x.number ≢ None) w.results k sound.results i r lt
          (sym (get_gone_there w.server.copies result.number (get_or (without_at w.results k) i r).number
          (results_apart i r lt)) ∙ e)));
      once = λ number. subst (λ (xs : List Sent). sent_under number xs + results_under number v.results ≤ 1)
          (sym replies) (subst (λ (xs : List ReplyResult). sent_under number w.replies + results_under number xs ≤ 1)
          (sym results) (fewer number));
    }

  settled_copies : (k : ℕ) (result : ReplyResult) → slice_get w.results k ≡ Some result → (o : Option Copy)
      → CopiesSound (after_settle w k result o)
  settled_copies k result there None = record {
    sent = sound.sent;
    results = All-without (λ (r : ReplyResult). get w.server.copies r.number ≢ None) w.results k sound.results;
    once = λ number.
        let gone = sum_removed (λ (r : ReplyResult). cond (nat_eq number r.number) 1 0) w.results k result there in
        let old = sound.once number in
        omega (arith, gone, old);
  }
  settled_copies k result there (Some copy) = by result.result
    where
      by : (r : WriteResult) → CopiesSound (record w {
        results = without_at w.results k;
        server = after_result (record w.server {
          copies = remove w.server.copies result.number;
          kept = kept_after w.server.kept copy (get w.server.kept copy.unique);
        }) copy.wire r;
      })
      by Accepted = copy_settled k result there _ refl refl refl
      by NoEntry = copy_settled k result there _ refl refl refl
      by Invalid = copy_settled k result there _ refl refl refl

-- The copies of replies stay as the server knows them, whatever the event.
pub copies_stay : (w : World) → CopiesSound w → ServerSound w.server
    → (choice : ℕ → ℕ) (e : Event) (o : Outcome) (after : World) → Happened choice w e o after → CopiesSound after
copies_stay w sound server choice e o after (by_mount f m v idle) = nothing_sent after refl refl
copies_stay w sound server choice e o after (by_call call ready room within) = copies_same w sound after refl refl refl
copies_stay w sound server choice e o after (by_read_interrupt original rest live there within) =
    copies_same w sound after refl refl refl
copies_stay w sound server choice e o after (by_read_forgets n live free can within few) =
    copies_same w sound after refl refl refl
copies_stay w sound server choice e o after (by_read_pending k unique kept body live free there says within) =
    copies_same w sound after refl refl refl
copies_stay w sound server choice e o after (by_take k r there within) = taken_copies w sound server k r
copies_stay w sound server choice e o after (by_perform unique t there within) =
    performed_copies w sound server choice unique t
copies_stay w sound server choice e o after (by_again unique kept there current within) =
    again_copies w sound server unique kept
copies_stay w sound server choice e o after (by_write k sent there within) =
    written_copies w sound k sent there (reply_written w.kernel sent.unique sent.wire)
copies_stay w sound server choice e o after (by_settle k result there) =
    settled_copies w sound k result there (get w.server.copies result.number)
copies_stay w sound server choice e o after (by_signal call fatal state live there within) =
    copies_same w sound after refl refl refl
copies_stay w sound server choice e o after (by_tick ms timely) = copies_same w sound after refl refl refl
copies_stay w sound server choice e o after (by_drop directory name bound live there) =
    copies_same w sound after refl refl refl
copies_stay w sound server choice e o after (by_evict node counted live there unused) =
    copies_same w sound after refl refl refl
copies_stay w sound server choice e o after (by_abort live) = nothing_sent after refl refl

pub first_copies : CopiesSound first_world
first_copies = nothing_sent first_world refl refl
