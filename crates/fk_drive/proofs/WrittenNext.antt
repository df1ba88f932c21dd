-- What writing a frame to the kernel results in.
use Rattle.std.proofs.Common.{◌≡◌, ℕ, Bool, List, [], ◌∷◌, ◌++◌, Option, None, length, map, refl, sym, ap, subst, ◌∙◌, arith}
use Rattle.std.specs.Prelude.{Result, Ok, Err}
use Rattle.std.specs.Result.{result_err}
use Rattle.fuse_spec.specs.declared.Opened.{Opened}
use Rattle.fuse_spec.specs.declared.Refusal.{Refusal}
use Rattle.fuse_spec.specs.Kernel.Kernel.{Kernel}
use Rattle.fuse_device.specs.Transfers.{Transfer}
use Rattle.fk_drive.specs.Driven.{KeepsWaiting, directories_in, driven, waiting_in}
use Rattle.fk_drive.specs.Driving.{Driven, Drives, DrivesOver, DriveStep, ReleasesBehind, Runs, Turn, idle, writes}
use Rattle.fk_drive.specs.Exchanges.{Ends, WentOver}
use Rattle.fk_drive.specs.Receiving.{ReceivesUntil}
use Rattle.fk_drive.specs.Releasing.{EndsBehind, ReleaseStep, Releases}
use Rattle.fk_drive.specs.Steps.{ReceiveStep}
use Rattle.fk_drive.specs.Writing.{IsWriteOf, WritesFirst, WritesFrame, WritesNext, writes_frame}
use Rattle.fk_drive.specs.declared.connection.Connection.{Connection}
use Rattle.fk_drive.specs.declared.end.DriveEnd.{DriveEnd}
use Rattle.fk_drive.specs.declared.writing.Written.{Written}
use Rattle.fk_drive.proofs.Changes.{state}
use Rattle.fk_drive.proofs.Drivings.{as_drives, drives_on, one_step}
use Rattle.fk_drive.proofs.Released.{ends_behind}

-- the first frame that waits is written, and the kernel's directories are released behind it
module _ {A : Type 0} (kernel after : Kernel) (mid first : Connection A) (written : Written A) where
  abbrev Writing : List Transfer → Driven → Driven → Type 0
  Writing log a b = (step : DriveStep a log b) × IsWriteOf written step

  write_step : (new : Connection A) (turn : Turn) → WritesFirst kernel mid after first written → KeepsWaiting first new
      → (log : List Transfer)
      → ReleasesBehind written.frame.items first.next (directories_in first) log new.next (directories_in new) turn
      → Writing log (driven kernel mid idle) (driven after new turn)
  write_step new turn done keeps log behind =
      let asks : first.asks ≡ mid.asks = ap (λ (c : Connection A). c.asks) done.same in
      let next : first.next ≡ mid.next = ap (λ (c : Connection A). c.next) done.same in
      let directories : directories_in first ≡ directories_in mid = ap directories_in done.same in
      let to : driven after new turn ≡ state after (waiting_in first) new.next mid.asks (directories_in new) turn =
      ap (λ (c : Connection A). driven after c turn) keeps
      ∙ ap (λ (b : Bool). state after (waiting_in first) new.next b (directories_in new) turn) asks in
      let released = subst (λ (ds : List (ℕ × Opened)). ReleasesBehind written.frame.items mid.next ds log new.next
      (directories_in new) turn) directories
      (subst (λ (n : ℕ). ReleasesBehind written.frame.items n (directories_in first) log new.next (directories_in new) turn)
      next behind) in
      subst (λ (s : Driven). Writing log (driven kernel mid idle) s) (sym to) (
        writes refl written.frame.items (waiting_in first) done.first done.handed done.on written.result after done.taken log
            new.next (directories_in new) turn released,
        (refl, refl, done.raised),
      )

  -- behind the frames that were received before
  pub wrote : {D T : Type 0} (logs : D → D → List Transfer → Type 0)
      (goes_on : (first mid last : D) (h k : List Transfer) → logs first mid h → logs mid last k → logs first last (h ++ k))
      (d e f : D) (old : Driven) (r : Result T DriveEnd) (end : Option DriveEnd) → end ≡ result_err r
      → WentOver logs d e (Ends None) (λ log. Runs ReceiveStep old log (driven kernel mid idle))
      → WritesFirst kernel mid after first written → (new : Connection A)
      → Releases after logs e f written.frame.items r first new
      → (turn : Turn) × (log : List Transfer) × logs d f log
      × WritesNext (Ok (Ok (record written { end = end }))) old log (driven after new turn)
  wrote logs goes_on d e f old r end came (h, one, none, runs) writing new releases =
      let (step, is) = write_step releases.mid releases.turn writing releases.keeps releases.log releases.behind in
      let k = releases.log ++ releases.more in
      let last = driven after new releases.last in (
        releases.last,
        h ++ k,
        goes_on d e f h k one releases.over,
        (
          writes_frame h (driven kernel mid idle) runs releases.log (driven after releases.mid releases.turn) step is
              releases.more last releases.awaits,
          subst (λ (o : Option DriveEnd). EndsBehind o last (h ++ k)) (sym came)
              (ends_behind (result_err r) last h k none releases.ends),
        ),
      )

module _ (A : Type 0) {D : Type 0} (logs : D → D → List Transfer → Type 0) (d e : D) (old : Driven) where
  -- the kernel refused the frame that waits
  pub refused_next : (kernel k : Kernel) (mid n : Connection A) (turn : Turn) (refusal : Refusal)
      → WentOver logs d e (Ends None) (λ log. Runs ReceiveStep old log (driven kernel mid turn)) → k ≡ kernel → n ≡ mid
      → turn ≡ old.turn
      → (turn : Turn) × (log : List Transfer) × logs d e log × WritesNext {A = A} (Ok (Err refusal)) old log (driven k n turn)
  refused_next kernel k mid n turn refusal (log, over, ends, runs) same_kernel same between = (
    turn,
    log,
    over,
    (
      subst (λ (l : Kernel). Runs ReceiveStep old log (driven l n turn)) (sym same_kernel)
          (subst (λ (c : Connection A). Runs ReceiveStep old log (driven kernel c turn)) (sym same) runs),
      ends,
      between,
    ),
  )

  -- none came
  pub none_next : (kernel : Kernel) (new : Connection A) (turn : Turn) (end : DriveEnd)
      → WentOver logs d e (ReceivesUntil {T = Unit {0}} (Err end) (driven kernel new turn))
      (λ log. Runs ReceiveStep old log (driven kernel new turn)) → turn ≡ old.turn
      → (turn : Turn) × (log : List Transfer) × logs d e log × WritesNext {A = A} (Err end) old log (driven kernel new turn)
  none_next kernel new turn end (log, over, ends, runs) between = (turn, log, over, (runs, ends, between))

-- frames that are received are driven
received_drives : (old : Driven) (log : List Transfer) (new : Driven) → Runs ReceiveStep old log new → Drives old log new
received_drives old log new runs = as_drives ReceiveStep (λ s. s) (λ a l b step. step.1) old log new runs

released_drives : (old : Driven) (log : List Transfer) (new : Driven) → Runs ReleaseStep old log new → Drives old log new
released_drives old log new runs = as_drives ReleaseStep (λ s. s) (λ a l b step. step.0) old log new runs

written_drives : {A : Type 0} (written : Written A) (old : Driven) (log : List Transfer) (new : Driven)
    → WritesFrame written old log new → Drives old log new
written_drives written old _ _ (writes_frame before mid runs log done step is more new awaits) =
    drives_on old mid new before (log ++ more) (received_drives old before mid runs)
    (drives_on mid done new log more (one_step mid done log step) (released_drives done more new awaits))

-- whatever came of a call that writes the next frame, it is driven
pub next_drives : {A : Type 0} (r : Result (Result (Written A) Refusal) DriveEnd) (old : Driven) (log : List Transfer) (new : Driven)
    → WritesNext r old log new → Drives old log new
next_drives (Ok (Ok written)) old log new is = written_drives written old log new is.0
next_drives (Ok (Err refusal)) old log new is = received_drives old log new is.0
next_drives (Err end) old log new is = received_drives old log new is.0

pub over_next : {A D : Type 0} (logs : D → D → List Transfer → Type 0) (d e : D)
    (r : Result (Result (Written A) Refusal) DriveEnd) (old : Driven) (new : Turn → Driven)
    → (turn : Turn) × (log : List Transfer) × logs d e log × WritesNext r old log (new turn)
    → (turn : Turn) × DrivesOver logs d e old (new turn)
over_next logs d e r old new (turn, log, over, is) = (turn, (log, over, next_drives r old log (new turn) is))

-- a list with no element
pub no_items : {X Y : Type 0} (f : X → Y) (xs : List X) → length xs ≡ 0 → map f xs ≡ []
no_items f [] none = refl
no_items f (x ∷ xs) none = absurd (omega (arith, none))
