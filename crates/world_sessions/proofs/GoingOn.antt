-- A session of a world goes on, whatever happens.
use Rattle.std.proofs.Common.{◌≤◌, ◌+◌, ℕ, List, [], ◌++◌, append-nil, append_assoc, sym, subst, arith}
use Rattle.fuse_device.specs.Transfers.{Transfer}
use Rattle.fuse_spec.specs.World.Events.{Event, Outcome}
use Rattle.fuse_spec.specs.World.Steps.{Happens}
use Rattle.fuse_spec.specs.World.Worlds.{World}
use Rattle.world_sessions.specs.KernelRules.{IsDrivenTo, SessionGoesOn}
use Rattle.world_sessions.specs.WorldTransfers.{HasTransfers, HasTransfersAt, answer_collected, collects, mounts_at, next}
use Rattle.world_sessions.proofs.Driven.{kernel_rules}

with_rules : (mounts before count : ℕ) → count ≤ mounts → (log more : List Transfer) (w : World)
    → HasTransfers (before + count) (log ++ more) w
    → (c : ℕ) × (c ≤ mounts) × (m : List Transfer) × HasTransfers (before + c) (log ++ m) w
    × IsDrivenTo (before + c) (log ++ m) w.kernel
with_rules mounts before count few log more w has =
    (count, few, more, has, kernel_rules (before + count) (log ++ more) w has)

with_nothing : (before : ℕ) (log : List Transfer) (w : World) → HasTransfers before log w → HasTransfers (before + 0) (log ++ []) w
with_nothing before log w has =
    subst (λ (n : ℕ). HasTransfers n (log ++ []) w) (omega arith)
    (subst (λ (l : List Transfer). HasTransfers before l w) (sym (append-nil log)) has)

pub stays : (mounts : ℕ) (w : World) → SessionGoesOn mounts w w
stays mounts w before log has = with_rules mounts before 0 (omega arith) log [] w (with_nothing before log w has)

pub steps : (old new : World) (e : Event) (o : Outcome) → Happens old e o new → HasTransfersAt old e new
    → SessionGoesOn (mounts_at e) old new
steps old new e o happens over before log has =
    with_rules (mounts_at e) before (mounts_at e) (omega arith) log over.0 new
    (next before log old has e o new happens over.0 over.1)

pub collects_one : (old : World) (call : ℕ) → SessionGoesOn 0 old (answer_collected old call)
collects_one old call before log has = with_rules 0 before 0 (omega arith) log [] (answer_collected old call)
    (with_nothing before log (answer_collected old call) (collects before log old has call))

pub goes_further : (m n : ℕ) (first mid last : World) → SessionGoesOn m first mid → SessionGoesOn n mid last
    → SessionGoesOn (m + n) first last
goes_further m n first mid last one two before log has =
    let (c, few, more, goes, rules) = one before log has in
    let (d, fewer, rest, on, kept) = two (before + c) (log ++ more) goes in
    with_rules (m + n) before (c + d) (omega (arith, few, fewer)) log (more ++ rest) last
    (subst (λ (k : ℕ). HasTransfers k (log ++ (more ++ rest)) last) (omega arith)
    (subst (λ (l : List Transfer). HasTransfers (before + c + d) l last) (append_assoc log more rest) on))

-- No more than that.
pub goes_within : (m n : ℕ) → m ≤ n → (old new : World) → SessionGoesOn m old new → SessionGoesOn n old new
goes_within m n less old new one before log has =
    let (c, few, more, goes, rules) = one before log has in (c, omega (arith, few, less), more, goes, rules)
