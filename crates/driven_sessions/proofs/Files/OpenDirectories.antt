-- The directories that a driven kernel has open are open in the session, each for the request that lists it.
use Rattle.std.proofs.Common.{◌≡◌, ◌⊎◌, inl, inr, ℕ, ◌+◌, ◌≤◌, ◌<◌, ◌%◌, ◌^◌, ◌&&◌, Bool, true, false, cond, List, [], ◌∷◌, ◌++◌, Some, nat_eq, refl, ap, sym, subst, ◌∙◌, arith}
use Rattle.std.specs.Prelude.{sum_by}
use Rattle.std.proofs.lemmas.List.Sums.{sum_by-append, sum_by-cons}
use Rattle.fuse_spec.specs.declared.Opened.{Opened}
use Rattle.fuse_spec.specs.Files.Operations as operation
use Rattle.fuse_spec.specs.Kernel.Messages.{RequestBody, asks}
use Rattle.fuse_theorem.proofs.Calls.Finding.{same_is}
use Rattle.fk_drive_frames.specs.OwnRequests.{ListsNode, readdir, readdirplus}
use Rattle.fk_drive.specs.Driving.{Driven, Turn, opened as has_opened, opening}
use Rattle.fuse_protocol.specs.declared.opcode.Opcode.TheVariants as op
use Rattle.fuse_sessions.specs.declared.act.Asked.{Asked}
use Rattle.fuse_sessions.specs.declared.act.OpenKind.TheVariants as kind
use Rattle.fuse_sessions.specs.OpenFiles.{opened}
use Rattle.fuse_sessions.specs.Sessions.{Session}
use Rattle.fuse_sessions.specs.Waiting.{uses_file, waiting}
use Rattle.driven_sessions.proofs.Asks.{AllAsk, EachAsked}
use Rattle.driven_sessions.proofs.Directories.{EachIs}
use Rattle.driven_sessions.proofs.Frames.{is_interrupt}
use Rattle.driven_sessions.proofs.Listing.{lists_body}
use Rattle.driven_sessions.proofs.Files.Opened.{as_file, is_file}

-- ---- lists of open directories

-- how often a directory is open
abbrev pub times_open : Opened → List (ℕ × Opened) → ℕ
times_open o es = sum_by (λ (e : ℕ × Opened). is_file o e.1) es

-- It is open for the request under this number.
abbrev pub IsFor : ℕ → Opened → List (ℕ × Opened) → Type 0
IsFor u o [] = ⊥
IsFor u o (e ∷ es) = ((e.0 ≡ u) × (e.1 ≡ o)) ⊎ IsFor u o es

pub times_push : (o : Opened) (es : List (ℕ × Opened)) (e : ℕ × Opened) → times_open o (es ++ e ∷ []) ≡ times_open o es + is_file o e.1
times_push o es e =
    let sum = sum_by-append (λ (x : ℕ × Opened). is_file o x.1) es (e ∷ []) in
    let one = sum_by-cons (λ (x : ℕ × Opened). is_file o x.1) e [] in
    omega (arith, sum, one)

pub times_drop : (o : Opened) (before : List (ℕ × Opened)) (e : ℕ × Opened) (after : List (ℕ × Opened))
    → times_open o (before ++ e ∷ after) ≡ times_open o (before ++ after) + is_file o e.1
times_drop o before e after =
    let sum = sum_by-append (λ (x : ℕ × Opened). is_file o x.1) before (e ∷ after) in
    let one = sum_by-cons (λ (x : ℕ × Opened). is_file o x.1) e after in
    let rest = sum_by-append (λ (x : ℕ × Opened). is_file o x.1) before after in
    omega (arith, sum, one, rest)

pub for_push : (u : ℕ) (o : Opened) (es : List (ℕ × Opened)) (e : ℕ × Opened) → IsFor u o es → IsFor u o (es ++ e ∷ [])
for_push u o [] e is = absurd is
for_push u o (x ∷ es) e (inl is) = inl is
for_push u o (x ∷ es) e (inr is) = inr (for_push u o es e is)

pub for_last : (u : ℕ) (o : Opened) (es : List (ℕ × Opened)) → IsFor u o (es ++ (u, o) ∷ [])
for_last u o [] = inl (refl, refl)
for_last u o (x ∷ es) = inr (for_last u o es)

pub for_drop : (u : ℕ) (o : Opened) (before : List (ℕ × Opened)) (e : ℕ × Opened) (after : List (ℕ × Opened)) → (u ≡ e.0 → ⊥)
    → IsFor u o (before ++ e ∷ after) → IsFor u o (before ++ after)
for_drop u o [] e after apart (inl is) = absurd (apart (sym is.0))
for_drop u o [] e after apart (inr is) = is
for_drop u o (x ∷ before) e after apart (inl is) = inl is
for_drop u o (x ∷ before) e after apart (inr is) = inr (for_drop u o before e after apart is)

pub self_file : (o : Opened) → is_file o o ≡ 1
self_file o = ap (λ (b : Bool). cond {A = ℕ} (b && nat_eq o.fh o.fh) 1 0) (same_is o.nodeid)
    ∙ ap (λ (b : Bool). cond {A = ℕ} b 1 0) (same_is o.fh)

pub for_times : (u : ℕ) (o : Opened) (es : List (ℕ × Opened)) → IsFor u o es → 1 ≤ times_open o es
for_times u o [] is = absurd is
for_times u o (e ∷ es) (inl is) =
    let sum = sum_by-cons (λ (x : ℕ × Opened). is_file o x.1) e es in
    let one : is_file o e.1 ≡ 1 = ap (is_file o) is.1 ∙ self_file o in
    omega (arith, sum, one)
for_times u o (e ∷ es) (inr is) =
    let sum = sum_by-cons (λ (x : ℕ × Opened). is_file o x.1) e es in
    let rest = for_times u o es is in
    omega (arith, sum, rest)

-- ---- what is kept

-- What waits and uses a directory, the directory is open for.
abbrev pub UsesOpen : List (ℕ × Opened) → ℕ → Asked → Type 0
UsesOpen es u a = (o : Opened) → uses_file (as_file kind.Directory o) a ≡ true → IsFor u o es

-- OPENDIR of the node was asked under the number.
abbrev pub AsksOpendir : (unique node : ℕ) → ℕ → Asked → Type 0
AsksOpendir unique node u a = u ≡ unique → (a.opcode ≡ Some op.Opendir) × (a.nodeid ≡ node)

abbrev pub OpensFor : Session → Turn → List (ℕ × Opened) → Type 0
OpensFor s (has_opened r fh) es = (node : ℕ) × lists_body (Some r.body) node × IsFor r.unique (record { nodeid = node; fh = fh }) es
OpensFor s (opening r unique node) es = lists_body (Some r.body) node × (unique % 2 ≡ 0) × (2 ^ 62 ≤ unique)
    × AllAsk (AsksOpendir unique node) s
OpensFor s turn es = Unit {0}

-- a number of the kernel's
abbrev pub IsKernelNumber : ℕ → Type 0
IsKernelNumber u = (2 ≤ u) × (u % 2 ≡ 0) × (u < 2 ^ 62)

pub record OpenDirectories (d : Driven) (s : Session) : Type 0 where
  pub asks : d.asks ≡ true
  pub balance : (o : Opened) → times_open o d.directories ≤ opened s (as_file kind.Directory o)
  pub listed : EachAsked (UsesOpen d.directories) (waiting s)
  pub numbers : EachIs (λ e. IsKernelNumber e.0) d.directories
  pub turn : OpensFor s d.turn d.directories

-- ---- a request that lists a node

pub lists_node : (body : RequestBody) (node : ℕ) → lists_body (Some body) node → ListsNode body node
lists_node (asks (operation.readdir d after size)) node lists =
    subst (λ (n : ℕ). ListsNode (asks (operation.readdir d after size)) n) lists (readdir d after size)
lists_node (asks (operation.readdirplus d after size)) node lists =
    subst (λ (n : ℕ). ListsNode (asks (operation.readdirplus d after size)) n) lists (readdirplus d after size)
lists_node body node lists = absurd lists

pub lists_interrupts_none : (body : RequestBody) (node : ℕ) → lists_body (Some body) node → is_interrupt body ≡ false
lists_interrupts_none (asks op) node lists = refl
lists_interrupts_none body node lists = absurd lists
