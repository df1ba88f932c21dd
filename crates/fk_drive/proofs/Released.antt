-- What awaiting the reply to RELEASEDIR results in.
use Rattle.std.proofs.Common.{◌≡◌, ◌≤◌, ℕ, List, [], ◌∷◌, ◌++◌, Option, Some, None, inl, inr, refl, sym, subst, vec_len, append-nil, ◌∙◌}
use Rattle.std.specs.Prelude.{Result, Ok, Err}
use Rattle.std.specs.Result.{result_err}
use Rattle.std.proofs.lemmas.List.{length-map}
use Rattle.fuse_spec.specs.Kernel.Kernel.{Kernel}
use Rattle.fuse_device.specs.Transfers.{Transfer, stopped}
use Rattle.fk_drive.specs.Driven.{KeepsWaiting, directories_in, driven, waiting_in}
use Rattle.fk_drive.specs.Driving.{Driven, DriveStep, ReleasesBehind, Runs, ends as ends_step, idle, nothing, releasing, sets_aside, waits}
use Rattle.fk_drive.specs.Exchanges.{Ends, EndsAs, StopsAt, WentOver}
use Rattle.fk_drive.specs.Releasing.{AwaitsRelease, EndsBehind, IsReleasing, IsStillReleasing, ReleaseStep, Releases, turn_awaited, turn_behind}
use Rattle.fk_drive.specs.Rooms.{IsNoRoom, most_waiting}
use Rattle.fk_drive.specs.Steps.{IsKept}
use Rattle.fk_drive.specs.declared.connection.Connection.{Connection}
use Rattle.fk_drive.specs.declared.end.DriveEnd.{DriveEnd}
use Rattle.fk_drive.specs.declared.end.DriveEnd.TheVariants as at
use Rattle.fk_drive.proofs.Changes.{bytes}
use Rattle.fk_drive.proofs.Drivings.{ends_on, one_run}

-- while it is awaited, and the frame is another
pub kept_releases : (old : Driven) (log : List Transfer) (new : Driven) (frame : List ℕ) → IsStillReleasing old.turn frame
    → (step : DriveStep old log new) × IsKept frame step → ReleaseStep old log new
kept_releases old _ _ frame another (waits kept is, same) =
    (waits kept is, subst (λ (l : List ℕ). IsStillReleasing old.turn l) (sym same) another)
kept_releases old _ _ frame another (sets_aside kept is, same) =
    (sets_aside kept is, subst (λ (l : List ℕ). IsStillReleasing old.turn l) (sym same) another)
kept_releases old _ _ frame another (step, same) = absurd same

-- the device came to its end as that was to come
pub release_stopped : (T : Type 0) (end : DriveEnd) (log : List Transfer) → StopsAt end log → (a : Driven)
    → IsReleasing a.turn → (waiting : List (List ℕ))
    → AwaitsRelease {T = T} (Err end) waiting log × Runs ReleaseStep a log a
release_stopped T (at.Device end) log is a awaits waiting =
    subst (λ (l : List Transfer). AwaitsRelease {T = T} (Err (at.Device end)) waiting l × Runs ReleaseStep a l a) (sym is)
    ((refl, refl), one_run ReleaseStep a a (stopped end ∷ []) (ends_step end, awaits))
release_stopped T at.Memory log is a awaits waiting =
    subst (λ (l : List Transfer). AwaitsRelease {T = T} (Err at.Memory) waiting l × Runs ReleaseStep a l a) (sym is)
    (refl, nothing)
release_stopped T at.TooMany log is a awaits waiting = absurd is
release_stopped T (at.Refused refusal) log is a awaits waiting = absurd is

-- there was no room for a frame, and none was received
pub no_room_releases : {A : Type 0} (T : Type 0) (old new : Connection A) (end : DriveEnd) → IsNoRoom old end
    → vec_len new.waiting ≡ vec_len old.waiting → AwaitsRelease {T = T} (Err end) (waiting_in new) []
no_room_releases T old new end (inl memory) long =
    subst (λ (e : DriveEnd). AwaitsRelease {T = T} (Err e) (waiting_in new) []) (sym memory) refl
no_room_releases T old new end (inr (many, wait)) long =
    subst (λ (e : DriveEnd). AwaitsRelease {T = T} (Err e) (waiting_in new) []) (sym many)
    (refl, subst (λ (n : ℕ). most_waiting ≤ n) (sym long ∙ new.waiting.ok.0 ∙ sym (length-map new.waiting.items bytes)) wait)

-- behind what was received before
pub awaits_release_on : {T : Type 0} (r : Result T DriveEnd) (waiting : List (List ℕ)) (h k : List Transfer) → Ends None h
    → AwaitsRelease r waiting k → AwaitsRelease r waiting (h ++ k)
awaits_release_on (Ok _) waiting h k none ends = ends_on None h k none ends
awaits_release_on (Err (at.Device end)) waiting h k none ends = ends_on (Some end) h k none ends
awaits_release_on (Err at.Memory) waiting h k none ends = ends_on None h k none ends
awaits_release_on (Err at.TooMany) waiting h k none ends = (ends_on None h k none ends.0, ends.1)
awaits_release_on (Err (at.Refused refusal)) waiting h k none ends = ends

awaited_ends : {A T : Type 0} (r : Result T DriveEnd) (kernel : Kernel) (new : Connection A) (own : ℕ) (log : List Transfer)
    → AwaitsRelease r (waiting_in new) log → EndsBehind (result_err r) (driven kernel new (turn_awaited r own)) log
awaited_ends (Ok _) kernel new own log ends = (ends, refl)
awaited_ends (Err (at.Device end)) kernel new own log ends = (ends, tt)
awaited_ends (Err at.Memory) kernel new own log ends = (ends, tt)
awaited_ends (Err at.TooMany) kernel new own log ends = (ends.0, tt, ends.1)
awaited_ends (Err (at.Refused refusal)) kernel new own log ends = ends

failed_ends : {A : Type 0} (end : DriveEnd) (kernel : Kernel) (new : Connection A) (next : ℕ) (log : List Transfer)
    → EndsAs {T = Option ℕ} (Err end) log → EndsBehind (Some end) (driven kernel new (releasing next)) (log ++ [])
failed_ends (at.Device end) kernel new next log ends =
    (subst (λ (l : List Transfer). Ends (Some end) l) (sym (append-nil log)) ends, tt)
failed_ends at.Memory kernel new next log ends = absurd ends
failed_ends at.TooMany kernel new next log ends = absurd ends
failed_ends (at.Refused refusal) kernel new next log ends = absurd ends

-- the run came to its end behind the frame, or it did not
pub ends_behind : (end : Option DriveEnd) (new : Driven) (h k : List Transfer) → Ends None h → EndsBehind end new k
    → EndsBehind end new (h ++ k)
ends_behind None new h k none ends = (ends_on None h k none ends.0, ends.1)
ends_behind (Some (at.Device end)) new h k none ends = (ends_on (Some end) h k none ends.0, ends.1)
ends_behind (Some at.Memory) new h k none ends = (ends_on None h k none ends.0, ends.1)
ends_behind (Some at.TooMany) new h k none ends = (ends_on None h k none ends.0, ends.1, ends.2)
ends_behind (Some (at.Refused refusal)) new h k none ends = ends

module _ {A D : Type 0} (kernel : Kernel) (logs : D → D → List Transfer → Type 0)
    (goes_on : (first mid last : D) (h k : List Transfer) → logs first mid h → logs mid last k → logs first last (h ++ k))
    (d e : D) (frame : List ℕ) (old mid : Connection A) (keeps : KeepsWaiting old mid) where
  -- RELEASEDIR was sent, or none was
  abbrev pub Behind : Result (Option ℕ) DriveEnd → Type 0
  Behind r = WentOver logs d e (EndsAs r) (λ log. ReleasesBehind frame old.next (directories_in old) log mid.next
      (directories_in mid) (turn_behind r old.next))

  -- and its reply was awaited
  pub releases_awaiting : {T : Type 0} (f : D) (new : Connection A) (own : ℕ) (r : Result T DriveEnd)
      → Behind (Ok (Some own)) → WentOver logs e f (AwaitsRelease r (waiting_in new))
      (λ log. Runs ReleaseStep (driven kernel mid (releasing own)) log (driven kernel new (turn_awaited r own)))
      → Releases kernel logs d f frame r old new
  releases_awaiting f new own r (h, one, none, behind) (k, two, ends, runs) = record {
    mid = mid;
    keeps = keeps;
    log = h;
    turn = releasing own;
    behind = behind;
    more = k;
    over = goes_on d e f h k one two;
    last = turn_awaited r own;
    awaits = runs;
    ends =
        ends_behind (result_err r) (driven kernel new (turn_awaited r own)) h k none (awaited_ends r kernel new own k ends);
  }

  pub releases_no : {T : Type 0} (value : T) → Behind (Ok None) → Releases kernel logs d e frame (Ok value) old mid
  releases_no value (log, over, none, behind) = record {
    mid = mid;
    keeps = keeps;
    log = log;
    turn = idle;
    behind = behind;
    more = [];
    over = subst (λ (l : List Transfer). logs d e l) (sym (append-nil log)) over;
    last = idle;
    awaits = nothing;
    ends = (subst (λ (l : List Transfer). Ends None l) (sym (append-nil log)) none, refl);
  }

  -- the device ended as it was sent
  pub releases_failed : {T : Type 0} (end : DriveEnd) → Behind (Err end)
      → Releases {T = T} kernel logs d e frame (Err end) old mid
  releases_failed {T} end (log, over, ends, behind) = record {
    mid = mid;
    keeps = keeps;
    log = log;
    turn = releasing old.next;
    behind = behind;
    more = [];
    over = subst (λ (l : List Transfer). logs d e l) (sym (append-nil log)) over;
    last = releasing old.next;
    awaits = nothing;
    ends = failed_ends end kernel mid old.next log ends;
  }
