-- How often the kernel mounts in the moves of a driven run.
use Rattle.std.proofs.Common.{◌≡◌, ◌+◌, ◌∷◌, ◌++◌, [], ℕ, Bool, List, Result, Ok, Err, refl, sym, subst, arith}
use Rattle.fuse_spec.specs.declared.Refusal.{Refusal}
use Rattle.fuse_spec.specs.Kernel.Kernel.{Kernel}
use Rattle.fuse_spec.specs.Kernel.Messages.{Request}
use Rattle.fuse_device.specs.Transfers.{Transfer}
use Rattle.fk_syscalls.specs.Values.{call_of}
use Rattle.fk_kernel.specs.Picks.{after_pick}
use Rattle.fk_kernel.specs.declared.read.Pick.{Pick}
use Rattle.fk_drive_frames.specs.declared.filling.FreeFields.{FreeFields}
use Rattle.fk_drive.specs.Driving.{Driven, DriveStep, Runs, alone, first_driven, idle, nothing, picked, reads}
use Rattle.fk_drive.specs.KernelSteps.{ActsAlone, mounts, begins, is_signalled, ticks, drops_name, evicts, aborts, gives_answer}
use Rattle.fk_drive.specs.Releasing.{IsAwaitingRelease, ReleaseStep}
use Rattle.fk_drive.specs.Sending.{SendsPicked}
use Rattle.fk_drive.specs.Steps.{IsReceiving, IsSending, ReceiveStep, SendStep}
use Rattle.fk_drive.specs.Writing.{IsWriteOf, WritesFrame, WritesNext, writes_frame}
use Rattle.fk_drive.specs.declared.end.DriveEnd.{DriveEnd}
use Rattle.fk_drive.specs.declared.end.NotSent.TheVariants.{Refused, Ended}
use Rattle.fk_drive.specs.declared.writing.Written.{Written}
use Rattle.fk_drive_theorem.specs.TakenOnce.{mounts_alone, mounts_at}
use Rattle.driven_sessions.proofs.Mounts.{DrivesMounting, both_mount, mounts_next, none_mount}
use Rattle.driven_sessions.proofs.Rules.{keeps_in}
use Rattle.fw_world.specs.declared.event.Event.{Event}
use Rattle.fw_world.specs.declared.event.Event.TheVariants as event
use Rattle.fw_world.specs.declared.event.Outcome.{Outcome}
use Rattle.fw_world.specs.declared.event.Outcome.TheVariants as outcome
use Rattle.fw_world.specs.Acts.{Acts}
use Rattle.fw_drive.specs.Moves.{IsBetween, Move, Moves, MovesOn, acts, sends, writes, collects, shows, notes, no_move, next_move}
use Rattle.fw_drive.specs.MoveRules.{MovesKeepRules, mounts_among, mounts_of_move}

-- ---- steps that are no mount

sent_none : (free_fields : FreeFields) (a : Driven) (log : List Transfer) (b : Driven) (step : DriveStep a log b)
    → IsSending free_fields step → mounts_at step ≡ 0
sent_none free_fields a log b (alone k does) is = absurd is
sent_none free_fields a log b step is = refl

received_none : (a : Driven) (log : List Transfer) (b : Driven) (step : DriveStep a log b) → IsReceiving step
    → mounts_at step ≡ 0
received_none a log b (alone k does) is = absurd is
received_none a log b step is = refl

released_none : (a : Driven) (log : List Transfer) (b : Driven) (step : DriveStep a log b) → IsAwaitingRelease step
    → mounts_at step ≡ 0
released_none a log b (alone k does) is = absurd is
released_none a log b step is = refl

written_none : {A : Type 0} (written : Written A) (a : Driven) (log : List Transfer) (b : Driven) (step : DriveStep a log b)
    → IsWriteOf written step → mounts_at step ≡ 0
written_none written a log b (alone k does) is = absurd is
written_none written a log b step is = refl

one_mounts : (n : ℕ) (a : Driven) (log : List Transfer) (b : Driven) (step : DriveStep a log b) → mounts_at step ≡ n
    → DrivesMounting n a log b
one_mounts n a log b step is =
    let one : DrivesMounting (0 + mounts_at step) a log b = mounts_next 0 a [] a (nothing, refl) log b step in
    subst (λ (m : ℕ). DrivesMounting m a log b) (omega (arith, is)) one

-- ---- what is sent and written

sends_none : (pick : Pick) (free_fields : FreeFields) (request : Request) (old : Driven) (log : List Transfer) (new : Driven)
    → old.turn ≡ idle → SendsPicked pick free_fields request old log new → DrivesMounting 0 old log new
sends_none pick free_fields request old log new is gone =
    let mid : Driven = record old {
      kernel = record old.kernel { queues = after_pick old.kernel.queues pick };
      turn = picked request;
    } in
    both_mount 0 0 old mid new [] log (one_mounts 0 old [] mid (reads is pick gone.may request gone.is) refl)
    (none_mount (SendStep free_fields) (λ a l b step. (step.0, sent_none free_fields a l b step.0 step.1)) mid log new gone.sends)

receives_none : (old : Driven) (log : List Transfer) (new : Driven)
    → Runs ReceiveStep old log new → DrivesMounting 0 old log new
receives_none old log new runs =
    none_mount ReceiveStep (λ a l b step. (step.1, received_none a l b step.1 step.2)) old log new runs

writes_none : {A : Type 0} (written : Written A) (old : Driven) (log : List Transfer) (new : Driven)
    → WritesFrame written old log new → DrivesMounting 0 old log new
writes_none written old _ _ (writes_frame before mid runs log done step is more new awaits) =
    both_mount 0 0 old mid new before (log ++ more) (receives_none old before mid runs)
    (both_mount 0 0 mid done new log more (one_mounts 0 mid log done step (written_none written mid log done step is))
    (none_mount ReleaseStep (λ a l b step. (step.0, released_none a l b step.0 step.1)) done more new awaits))

next_none : {A : Type 0} (r : Result (Result (Written A) Refusal) DriveEnd) (old : Driven) (log : List Transfer) (new : Driven)
    → WritesNext r old log new → DrivesMounting 0 old log new
next_none (Ok (Ok written)) old log new is = writes_none written old log new is.0
next_none (Ok (Err refusal)) old log new is = receives_none old log new is.0
next_none (Err end) old log new is = receives_none old log new is.0

-- ---- events

-- It happens, and is so many mounts.
abbrev Mounting : ℕ → Kernel → Kernel → Type 0
Mounting n old new = (does : ActsAlone old new) × (mounts_alone does ≡ n)

to : (n : ℕ) (old new k : Kernel) → new ≡ k → Mounting n old k → Mounting n old new
to n old new k same does = subst (λ (l : Kernel). Mounting n old l) (sym same) does

acts_mount : (A : Type 0) (old : Kernel) (e : Event) (o : Outcome) (new : Kernel) → Acts old e o new
    → Mounting (mounts_of_move {A = A} (acts e (Ok o))) old new
acts_mount A old (event.Mount found missing minor) outcome.Mounted new (may, same) = to 1 old new _ same (mounts may, refl)
acts_mount A old (event.Call call) (outcome.Begun number) new (may, is, same) =
    to 0 old new _ same (begins (call_of call) may, refl)
acts_mount A old (event.Interrupt call fatal) (outcome.Interrupted signalled effect) new (may, is, signals) =
    (is_signalled call fatal effect new may signals, refl)
acts_mount A old (event.Tick ms) (outcome.Now clock) new (may, is, same) = to 0 old new _ same (ticks ms may, refl)
acts_mount A old (event.DropName directory name) outcome.Dropped new (may, same) =
    to 0 old new _ same (drops_name directory name.now may, refl)
acts_mount A old (event.Evict node) (outcome.Evicted evicted_node count) new (may, is, (counted, there, counts, same)) =
    to 0 old new _ same (evicts node counted may there, refl)
acts_mount A old event.Abort outcome.Aborted new (may, same) = to 0 old new _ same (aborts may, refl)
acts_mount A old e o new does = absurd does

-- ---- moves

alone_mounts : (n : ℕ) (old new : Driven) (k : Kernel) (log : List Transfer) → log ≡ [] → Mounting n old.kernel k
    → new ≡ record old { kernel = k } → DrivesMounting n old log new
alone_mounts n old new k log none does same =
    subst (λ (l : List Transfer). DrivesMounting n old l new) (sym none)
    (subst (λ (d : Driven). DrivesMounting n old [] d) (sym same)
    (one_mounts n old [] (record old { kernel = k }) (alone k does.0) does.1))

still_none : (old new : Driven) (log : List Transfer) → log ≡ [] → new ≡ old → DrivesMounting 0 old log new
still_none old new log none same =
    subst (λ (l : List Transfer). DrivesMounting 0 old l new) (sym none)
    (subst (λ (d : Driven). DrivesMounting 0 old [] d) (sym same) (nothing, refl))

move_mounts : {A : Type 0} (old : Driven) (move : Move A) (log : List Transfer) (new : Driven) → IsBetween old move
    → Moves old move log new → DrivesMounting (mounts_of_move move) old log new
move_mounts {A} old (acts e (Ok o)) log new is (none, does, same) =
    alone_mounts (mounts_of_move {A = A} (acts e (Ok o))) old new new.kernel log none (acts_mount A old.kernel e o new.kernel does) same
move_mounts old (acts (event.Mount found missing minor) (Err refusal)) log new is (none, same) = still_none old new log none same
move_mounts old (acts e (Err refusal)) log new is (none, same) = still_none old new log none same
move_mounts old (sends pick fields (Ok request)) log new is (picks, until) =
    sends_none pick fields request old log new is picks
move_mounts old (sends pick fields (Err (Refused refusal))) log new is (none, same) = still_none old new log none same
move_mounts old (sends pick fields (Err (Ended end))) log new is (request, picks, until) =
    sends_none pick fields request old log new is picks
move_mounts old (writes r) log new is goes = next_none r old log new goes
move_mounts old (collects call answer) log new is (none, first, same) =
    alone_mounts 0 old new _ log none (gives_answer call, refl) same
move_mounts old (shows nodes) log new is (none, counted, same) = still_none old new log none same
move_mounts old (notes note) log new is (none, same) = still_none old new log none same

among_append : {A : Type 0} (a b : List (Move A)) → mounts_among (a ++ b) ≡ mounts_among a + mounts_among b
among_append [] b = omega arith
among_append (move ∷ a) b = let rest = among_append a b in omega (arith, rest)

moves_mount : {A : Type 0} (old : Driven) (moves : List (Move A)) (log : List Transfer) (new : Driven)
    → MovesOn old moves log new → DrivesMounting (mounts_among moves) old log new
moves_mount old _ _ _ no_move = (nothing, refl)
moves_mount old _ _ _ (next_move moves before mid run move is due log new step) =
    let more : mounts_among (moves ++ move ∷ []) ≡ mounts_among moves + (mounts_of_move move + 0) =
    among_append moves (move ∷ []) in
    subst (λ (n : ℕ). DrivesMounting n old (before ++ log) new) (omega (arith, more))
    (both_mount (mounts_among moves) (mounts_of_move move) old mid new before log (moves_mount old moves before mid run)
    (move_mounts mid move log new is step))

pub moves_keep_rules : (A : Type 0) (asks : Bool) → MovesKeepRules A asks
moves_keep_rules A asks moves log new on =
    let (run, count) = moves_mount (first_driven asks) moves log new on in (run, count, keeps_in asks log new run)
