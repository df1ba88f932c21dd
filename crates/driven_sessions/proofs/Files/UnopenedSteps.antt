-- As a forget is read, no directory is open of a node of which no lookup is left.
use Rattle.std.proofs.Common.{Bool, List, None, Some, [], ap, arith, cond, false, inl, inr, nat_eq, refl, subst, true, ℕ, ◌&&◌, ◌++◌, ◌+◌, ◌∙◌, ◌∷◌, ◌≡◌, ◌≤◌, ◌⊎◌}
use Rattle.std.proofs.lemmas.Bool.Decides.{nat_tests}
use Rattle.std.proofs.lemmas.List.Sums.{sum_by-cons}
use Rattle.fuse_device.specs.Transfers.{Transfer, received}
use Rattle.fuse_spec.specs.declared.Opened.{Opened}
use Rattle.fuse_spec.specs.Kernel.Messages.{Request}
use Rattle.fk_drive.specs.Driving.{DriveStep, Driven, ReleasesBehind, Turn, alone, answers, ends, idle, is_garbled, is_given, is_not_known, is_refused, is_released, opened as has_opened, opening, opens, picked, reads, releases, releases_none, releasing, sends, sends_opened, sets_aside, unopened, waits, writes}
use Rattle.protocol_law.specs.Law.{Carries}
use Rattle.fuse_sessions.specs.declared.act.OpenKind.TheVariants as kind
use Rattle.fuse_sessions.specs.declared.known.Known.{Known}
use Rattle.fuse_sessions.specs.declared.transfer.Transfer.{Transfer as Said}
use Rattle.fuse_sessions.specs.Frames.{AreAccepted, Lead, number_in}
use Rattle.fuse_sessions.specs.OpenFiles.{opened}
use Rattle.fuse_sessions.specs.Sessions.{Session}
use Rattle.driven_sessions.specs.Driven.{HaveAgreed}
use Rattle.driven_sessions.specs.Transfers.{AreSaid}
use Rattle.driven_sessions.proofs.Heard.{judged_before}
use Rattle.driven_sessions.proofs.Leading.{AreFree}
use Rattle.driven_sessions.proofs.Served.{added, is_of_server}
use Rattle.driven_sessions.proofs.Spent.{Keeps, held}
use Rattle.driven_sessions.proofs.Telling.{Tells}
use Rattle.driven_sessions.proofs.Files.ForgetSteps.{NamedKept, own_awaited}
use Rattle.driven_sessions.proofs.Files.OpenDirectories.{times_open}
use Rattle.driven_sessions.proofs.Files.Opened.{AreStill, as_file, is_file, still_opened}
use Rattle.driven_sessions.proofs.Files.Present.{Present}
use Rattle.fuse_spec.specs.Claim.Counts.{counted}
use Rattle.fuse_spec.specs.Kernel.Kernel.{is_live}
use Rattle.fuse_spec.specs.Server.Server.{forgotten}
use Rattle.fuse_spec.specs.Values.Maps.{get}
use Rattle.fuse_sessions.specs.Counts.{most_count}
use Rattle.driven_sessions.proofs.Counting.{back_of, held_back, none_grows, received_grows, stopped_grows}
use Rattle.driven_sessions.proofs.Forgetting.{Forgetting}
use Rattle.driven_sessions.proofs.KnownNodes.{Knowing}
use Rattle.driven_sessions.proofs.Listing.{lists_body, lists_forgets_none, lists_known, lists_of}
use Rattle.driven_sessions.proofs.PickedNodes.{known_counted}
use Rattle.driven_sessions.proofs.Reading.{picked_alive}
use Rattle.driven_sessions.proofs.Files.DirectoriesShown.{DirectoriesShown, awaited_opendir, heard_none, not_stuck, same_opened, stopped_opens_none}
use Rattle.driven_sessions.proofs.Files.ForgetFrames.{HasLast}
use Rattle.driven_sessions.proofs.Directories.{EachIs, Listed, OpensListed, Waiting}

-- No directory of the node is open.
abbrev pub IsUnopened : Session → ℕ → Type 0
IsUnopened s id = (fh : ℕ) → opened s (as_file kind.Directory (record { nodeid = id; fh = fh })) ≡ 0

pub unopened_on : (s acts : Session) → AreStill acts → (id : ℕ) → IsUnopened s id → IsUnopened (s ++ acts) id
unopened_on s acts are id none fh = still_opened s acts are (as_file kind.Directory (record { nodeid = id; fh = fh })) ∙ none fh

-- What is held beside a request of the kernel's own is nothing, or lists a directory.
own_holds_none : (turn : Turn) → OpensListed turn → (u : ℕ) → own_awaited turn ≡ Some u → (id : ℕ) → held_back id turn ≡ 0
own_holds_none (opening r unique node) lists u awaits id = ap (forgotten id) (lists_forgets_none r.body node lists)
own_holds_none (releasing unique) lists u awaits id = refl
own_holds_none idle lists u awaits id = absurd (cc awaits)
own_holds_none (picked r) lists u awaits id = absurd (cc awaits)
own_holds_none (has_opened r fh) lists u awaits id = absurd (cc awaits)
own_holds_none (unopened r error) lists u awaits id = absurd (cc awaits)

module _ (count : ℕ) (old : Driven) (k : Known) (s : Session) (was : HasLast IsUnopened old s) (shown : DirectoriesShown old s)
    (named : NamedKept old s) (present : Present old s) (tells : Tells count old s) (keeps : Keeps count old s)
    (listed : Listed count old s) (w : Knowing old.kernel) (f : Forgetting old.kernel) where
  none_listed : is_live old.kernel.phase ≡ true → (id : ℕ) → 2 ≤ id → counted (get old.kernel.nodes id) ≡ 0 → (fh : ℕ)
      → (es : List (ℕ × Opened)) → EachIs (Waiting old s) es → times_open (record { nodeid = id; fh = fh }) es ≡ 0
  none_listed live id low none fh [] each = refl
  none_listed live id low none fh (e ∷ es) each =
      let p : Opened = record { nodeid = id; fh = fh } in
      let sum = sum_by-cons (λ (x : ℕ × Opened). is_file p x.1) e es in
      let rest = none_listed live id low none fh es each.1 in
      let first = by (nat_eq e.1.nodeid id) refl in
      omega (arith, sum, rest, first)
    where
      counts : e.1.nodeid ≡ id → (e.1.nodeid ≡ 1) ⊎ ((2 ≤ e.1.nodeid) × (1 ≤ counted (get old.kernel.nodes e.1.nodeid))) → ⊥
      counts same (inl root) = omega (arith, same, root, low)
      counts same (inr some) =
          let one = some.1 in
          let equal = ap (λ (n : ℕ). counted (get old.kernel.nodes n)) same in
          omega (arith, one, equal, none)

      by : (b : Bool) → nat_eq e.1.nodeid id ≡ b → is_file (record { nodeid = id; fh = fh }) e.1 ≡ 0
      by true is =
          let same : e.1.nodeid ≡ id = grind (arith, nat_tests, is) in
          absurd (counts same (known_counted old.kernel w f e.1.nodeid (lists_known old.kernel w e.0 e.1.nodeid (each.0.0 live).1)))
      by false is = ap (λ (b : Bool). cond {A = ℕ} (b && nat_eq e.1.fh fh) 1 0) is

  picked_unopened : is_live old.kernel.phase ≡ true → old.turn ≡ idle → (id : ℕ) → 2 ≤ id → counted (get old.kernel.nodes id) ≡ 0
      → IsUnopened s id
  picked_unopened live idles id low none fh =
      let all = not_stuck count old k s shown named present tells keeps (ap own_awaited idles) (record { nodeid = id; fh = fh }) in
      let zero = none_listed live id low none fh old.directories listed.each in
      omega (arith, all, zero)

  module _ (ts : List Said) (later : Known) (whole : Session) (leads : Lead k s ts later whole)
      (agreed : HaveAgreed Carries k s ts later whole leads) where
    -- Nothing is given back.
    nothing_last : (new : Driven) → ((id : ℕ) → held_back id new.turn ≡ 0) → HasLast IsUnopened new whole
    nothing_last new none id low some last fh = let zero = none id in absurd (omega (arith, some, zero))

    -- The same is held, and no directory is opened.
    same_unopened : (new : Driven) → held new.turn ≡ held old.turn → ((id : ℕ) → most_count s id ≤ most_count whole id)
        → ((id : ℕ) → 1 ≤ held_back id old.turn → (p : Opened)
        → opened whole (as_file kind.Directory p) ≤ opened s (as_file kind.Directory p)) → HasLast IsUnopened new whole
    same_unopened new same grows less id low some last fh =
        let back : held_back id new.turn ≡ held_back id old.turn = ap (back_of id) same in
        let more = grows id in
        let zero = was id low (omega (arith, some, back)) (omega (arith, last, back, more)) fh in
        let fewer = less id (omega (arith, some, back)) (record { nodeid = id; fh = fh }) in
        omega (arith, zero, fewer)

    -- What lists a directory gives nothing back.
    lists_last : (new : Driven) (request : Request) (node : ℕ) → lists_body (Some request.body) node → held new.turn ≡ Some request
        → HasLast IsUnopened new whole
    lists_last new request node lists holds = nothing_last new (λ id. ap (back_of id) holds
        ∙ ap (forgotten id) (lists_forgets_none request.body node lists))

    opening_last : (request : Request) (unique node : ℕ) → old.turn ≡ opening request unique node → (new : Driven)
        → held new.turn ≡ Some request → HasLast IsUnopened new whole
    opening_last request unique node turn new holds = lists_last new request node (subst OpensListed turn listed.opens) holds

    module _ (judged : later.unjudged ≡ None) (accepted : AreAccepted ts) (free : AreFree is_of_server s (added k s ts later whole leads))
      where
        received_last : (frame : List ℕ) → AreSaid (received frame ∷ []) ts → (new : Driven) → new.turn ≡ old.turn
            → HasLast IsUnopened new whole
        received_last frame is new same = same_unopened new (ap held same) (λ id. received_grows id k s frame ts is later whole leads)
            (λ id some p. heard_none count old k s shown named present tells keeps ts later whole leads agreed judged accepted free frame is
            (λ a at asks.
            let zero = own_holds_none old.turn listed.opens (number_in frame)
            (awaited_opendir count old s named tells (number_in frame) a at asks) id in
            omega (arith, some, zero)) p)

        pub step_unopened : (log : List Transfer) (new : Driven) → DriveStep old log new → AreSaid log ts
            → ((id : ℕ) → 2 ≤ id → counted (get new.kernel.nodes id) + held_back id new.turn ≤ most_count whole id)
            → HasLast IsUnopened new whole
        step_unopened log new (alone l acts) is few = same_unopened new refl
            (λ id. let same = none_grows id k s ts is later whole leads in omega (arith, same))
            (λ id some p. same_opened count old k s shown named present tells keeps ts later whole leads agreed is p)
        step_unopened log new (reads idles pick may request picked_one) is few = λ id low some last fh.
            let le = few id low in
            let zero = picked_unopened (picked_alive old.kernel pick may) idles id low (omega (arith, le, last)) fh in
            let fewer = same_opened count old k s shown named present tells keeps ts later whole leads agreed is
            (record { nodeid = id; fh = fh }) in
            omega (arith, zero, fewer)
        step_unopened log new (sends request turn unlisted frame goes log' went) is few = nothing_last new (λ id. refl)
        step_unopened log new (sends_opened request fh turn frame goes handle log' went) is few = nothing_last new (λ id. refl)
        step_unopened log new (opens request turn asks_it below node lists frame mine log' went) is few =
            lists_last new request node (lists_of request.body node lists) refl
        step_unopened log new (is_given request unique node turn frame fh gives) is few = opening_last request unique node turn new refl
        step_unopened log new (is_not_known request unique node turn frame gives) is few = opening_last request unique node turn new refl
        step_unopened log new (is_refused request unique node turn frame error other gives) is few =
            opening_last request unique node turn new refl
        step_unopened log new (is_garbled request unique node turn frame head same gives) is few =
            opening_last request unique node turn new refl
        step_unopened log new (answers request error turn bytes reply result l took) is few = nothing_last new (λ id. refl)
        step_unopened log new (waits frame own_one) is few = received_last frame is new refl
        step_unopened log new (sets_aside frame other) is few = received_last frame is new refl
        step_unopened log new (writes idles frame rest there handed on result l took log' coming left turn behind_it) is few =
            by log' coming left turn behind_it
          where
            by : (log : List Transfer) (coming : ℕ) (left : List (ℕ × Opened)) (turn : Turn)
                → ReleasesBehind frame old.next old.directories log coming left turn
                → HasLast IsUnopened (record old { kernel = l; waiting = rest; next = coming; directories = left; turn = turn }) whole
            by log coming left turn (releases head below before after directory stands apart bytes mine over went) =
                nothing_last (record old { kernel = l; waiting = rest; next = coming; directories = left; turn = turn }) (λ id. refl)
            by log coming left turn (releases_none unlisted) =
                nothing_last (record old { kernel = l; waiting = rest; next = coming; directories = left; turn = turn }) (λ id. refl)
        step_unopened log new (is_released unique turn frame head same) is few = nothing_last new (λ id. refl)
        step_unopened log new (ends end) is few = same_unopened new refl (λ id. stopped_grows id k s end ts is later whole leads)
            (λ id some p. stopped_opens_none count old k s shown named present tells keeps ts later whole leads agreed
            (judged_before ts k s later whole leads judged) end is p)
