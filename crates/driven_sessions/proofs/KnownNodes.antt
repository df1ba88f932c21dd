-- The kernel of a run knows each node that its calls, its open files and its RELEASEs name, whatever its server does.
use Rattle.std.proofs.Common.{T, drop, ◌+◌, ◌≡◌, ℕ, ◌≤◌, ◌<◌, Bool, true, false, true≢false, ◌||◌, cond, not, List, [], Option, Some, None, nat_eq, nat_lt, get_or, slice_get, refl, ap, sym, subst, ◌∙◌, arith, All}
use Rattle.std.specs.List.{list_any}
use Rattle.std.specs.Ordering.{nat_cmp}
use Rattle.std.specs.FinMap.Entries.{is_sorted-where_key}
use Rattle.std.proofs.lemmas.Bool.Decides.{nat_tests}
use Rattle.std.proofs.lemmas.List.Elements.{All-nil, All-cons}
use Rattle.fuse_spec.specs.declared.Counted.{Counted}
use Rattle.fuse_spec.specs.declared.IntrEffect.{IntrEffect}
use Rattle.fuse_spec.specs.declared.Opened.{Opened}
use Rattle.fuse_spec.specs.declared.Purpose.{Purpose}
use Rattle.fuse_spec.specs.declared.Purpose.TheVariants as purpose
use Rattle.fuse_spec.specs.declared.QueuedRequest.{QueuedRequest}
use Rattle.fuse_spec.specs.declared.Refusal.TheVariants.{Busy, NotReady}
use Rattle.fuse_spec.specs.declared.WriteResult.{WriteResult}
use Rattle.fuse_spec.specs.Calls.Calls.{for_minor}
use Rattle.fuse_spec.specs.Calls.Vfs.{Vfs, abandoned, later}
use Rattle.fuse_spec.specs.Values.Maps.{Map, get, remove, remove_name, values}
use Rattle.fuse_spec.specs.Kernel.Kernel.{Kernel, evicted, is_bound, is_live, is_pinned, is_released_by, kernel_aborted, kernel_mounted}
use Rattle.fuse_spec.specs.Kernel.QueueCalls.{can_read_forgets}
use Rattle.fuse_spec.specs.Kernel.Queues.{pending}
use Rattle.fuse_spec.specs.Kernel.Refusals.{accepted, found, refusal_in, unless}
use Rattle.fuse_theorem.specs.ClosedFiles.{ClosedFiles, WasAnswered}
use Rattle.fuse_theorem.specs.EachEvent.{IsRooted}
use Rattle.fuse_theorem.specs.KnownNodes.{IsKnown, NodesKnown, VfsKnown}
use Rattle.fuse_theorem.specs.ReleasesKnown.{ReleaseKnown}
use Rattle.fuse_theorem.proofs.Calls.Finding.{same_is}
use Rattle.fuse_theorem.proofs.Calls.KnownWalks.{OpenKnown, StateKnown, unbound_known}
use Rattle.fuse_theorem.proofs.Nodes.NodesKnown.{call_known, empty_known, evict_known, first_known, signal_known, still_known, write_known}
use Rattle.fuse_theorem.proofs.Nodes.Rooted.{abandoned_rooted, begins_rooted, signalled_rooted, written_rooted}
use Rattle.fuse_theorem.proofs.Nodes.UnsentNodes.{each_fails}
use Rattle.fuse_theorem.proofs.OpenFiles.ClosedStay.{call_closes, first_closed, none_open, same_files, signal_closes, written_closes}
use Rattle.fuse_theorem.proofs.OpenFiles.ReleasesKept.{KeptReleases, begun_kept, none_kept, read_kept, signalled_kept, written_kept}
use Rattle.fuse_theorem.proofs.OpenFiles.ReleasesStay.{closing_known}
use Rattle.fuse_theorem.proofs.Refining.Evicting.{or_false}
use Rattle.fuse_device.specs.Transfers.{Transfer}
use Rattle.fk_kernel.specs.AwaitedReplies.{head_unique}
use Rattle.fk_kernel.specs.Picks.{after_pick}
use Rattle.fk_kernel.specs.Refused.{evict_refusal}
use Rattle.fk_kernel.specs.declared.read.Pick.{Pick}
use Rattle.fk_kernel.specs.declared.read.Pick.TheVariants.{Interrupt, Forgets, Pending}
use Rattle.fk_drive.specs.Driving.{Driven, DriveStep, Drives, first_driven, alone, reads, answers, writes, nothing, next as behind}
use Rattle.fk_drive.specs.KernelSteps.{ActsAlone, IsReplyTaken, mounts, begins, is_signalled, ticks, drops_name, evicts, aborts, gives_answer}
use Rattle.fk_drive_theorem.proofs.Stable.{Stable, is_nothing, same_list, same_number, same_truth}
use Rattle.fk_drive_theorem.proofs.Taken.{TakenAs, refused_whole, is_read, holds_as_taken}
use Rattle.driven_sessions.proofs.Forgetting.{Forgetting, run_forgetting}

-- The root is node 1, and the nodes of calls, names, open and closed files and RELEASEs are known.
pub record Knowing (k : Kernel) : Type 0 where
  pub rooted : IsRooted k.vfs
  pub nodes : NodesKnown k
  pub files : ClosedFiles k.vfs k.closing
  pub releases : KeptReleases k

-- ---- it holds as soon as it is not false

pub true_stable : (b : Bool) → Stable (T b)
true_stable true s = tt
true_stable false s = absurd (s (λ t. t))

pub less_stable : (a b : ℕ) → Stable (a < b)
less_stable a b s = by (nat_lt a b) refl
  where
    by : (t : Bool) → nat_lt a b ≡ t → a < b
    by true e = grind (arith, nat_tests, e)
    by false e = absurd (s (λ less. grind (arith, nat_tests, e, less)))

pub all_stable : {X : Type 0} (P : X → Type 0) → ((x : X) → Stable (P x)) → (xs : List X) → Stable (All P xs)
all_stable P each xs s = λ i d lt. each (get_or xs i d) (λ no. s (λ all. no (all i d lt)))

known_stable : (nodes : Map Counted) (id : ℕ) → Stable (IsKnown nodes id)
known_stable nodes id s none = s (λ known. known none)

release_stable : (nodes : Map Counted) (kept : Purpose) → Stable (ReleaseKnown nodes kept)
release_stable nodes purpose.Init s = tt
release_stable nodes (purpose.Release o) s = known_stable nodes o.nodeid s
release_stable nodes (purpose.Call call) s = tt

vfs_stable : (nodes : Map Counted) (c : Vfs Opened) → Stable (VfsKnown nodes c)
vfs_stable nodes c s = record {
  root = known_stable nodes c.root (λ no. s (λ v. no v.root));
  names = record {
    directories = λ id name b at. known_stable nodes id (λ no. s (λ v. no (v.names.directories id name b at)));
    targets = λ id name b at target is. known_stable nodes target (λ no. s (λ v. no (v.names.targets id name b at target is)));
  };
  calls = all_stable (StateKnown nodes) (λ state. all_stable (IsKnown nodes) (known_stable nodes) _) (values c.calls)
      (λ no. s (λ v. no v.calls));
  opens = all_stable (OpenKnown nodes) (λ o. known_stable nodes o.nodeid) (values c.opens) (λ no. s (λ v. no v.opens));
}

pub same_opened : (a b : Opened) → Stable (a ≡ b)
same_opened a b s =
    let node : a.nodeid ≡ b.nodeid = same_number _ _ (λ no. s (λ e. no (ap (λ (o : Opened). o.nodeid) e))) in
    let fh : a.fh ≡ b.fh = same_number _ _ (λ no. s (λ e. no (ap (λ (o : Opened). o.fh) e))) in
    λ i. record { nodeid = node i; fh = fh i }

answered_stable : (c : Vfs Opened) (call : ℕ) → Stable (WasAnswered c call)
answered_stable c call s = record {
  begun = less_stable _ _ (λ no. s (λ w. no w.begun));
  not_waiting = is_nothing _ (λ no. s (λ w. no w.not_waiting));
}

files_stable : (c : Vfs Opened) (closing : Map Opened) → Stable (ClosedFiles c closing)
files_stable c closing s = record {
  calls_in_order = true_stable _ (λ no. s (λ f. no f.calls_in_order));
  closing_in_order = true_stable _ (λ no. s (λ f. no f.closing_in_order));
  calls_below = λ call le. is_nothing _ (λ no. s (λ f. no (f.calls_below call le)));
  opens = λ h o at. answered_stable c h (λ no. s (λ f. no (f.opens h o at)));
  users = λ call h operation at. record {
    opener = answered_stable c h (λ no. s (λ f. no (f.users call h operation at).opener));
    of_open = λ o there. same_list same_opened _ _ (λ no. s (λ f. no ((f.users call h operation at).of_open o there)));
    of_closed = λ o there. same_list same_opened _ _ (λ no. s (λ f. no ((f.users call h operation at).of_closed o there)));
  };
  not_open = λ h o at. is_nothing _ (λ no. s (λ f. no (f.not_open h o at)));
  used = λ h o at. same_truth _ _ (λ no. s (λ f. no (f.used h o at)));
}

knowing_stable : (k : Kernel) → Stable (Knowing k)
knowing_stable k s = record {
  rooted = record {
    root = same_number _ _ (λ no. s (λ w. no w.rooted.root));
    answers = true_stable _ (λ no. s (λ w. no w.rooted.answers));
  };
  nodes = vfs_stable k.nodes k.vfs (λ no. s (λ w. no w.nodes));
  files = files_stable k.vfs k.closing (λ no. s (λ w. no w.files));
  releases = record {
    closing = all_stable (OpenKnown k.nodes) (λ o. known_stable k.nodes o.nodeid) (values k.closing)
        (λ no. s (λ w. no w.releases.closing));
    requests = all_stable (λ (e : ℕ × QueuedRequest Purpose). ReleaseKnown k.nodes e.1.kept) (λ e. release_stable k.nodes e.1.kept)
        k.queues.requests (λ no. s (λ w. no w.releases.requests));
  };
}

-- ---- the kernel by itself

-- An evicted node is not in use, and no name stands in it or leads to it.
unused : (k : Kernel) (node : ℕ) (counted : Counted) → get k.nodes node ≡ Some counted → evict_refusal k node ≡ None
    → (is_pinned k node || is_bound k node) ≡ false
unused k node counted there may = by (is_live k.phase) (is_pinned k node || is_bound k node) (get k.nodes node) there may
  where
    by : (l b : Bool) (o : Option Counted) → o ≡ Some counted
        → refusal_in (unless (not l) NotReady (found o (λ (c : Counted). unless b Busy accepted))) ≡ None → b ≡ false
    by l false o at may = refl
    by false true o at may = absurd (cc may)
    by true true None at may = absurd (cc at)
    by true true (Some c) at may = absurd (cc may)

-- The RELEASEs of other nodes are of known ones still.
unreleased : (k : Kernel) (node : ℕ) → list_any (λ (e : ℕ × QueuedRequest Purpose). is_released_by node e.1.kept) k.queues.requests ≡ false
    → All (λ (e : ℕ × QueuedRequest Purpose). ReleaseKnown k.nodes e.1.kept) k.queues.requests
    → All (λ (e : ℕ × QueuedRequest Purpose). ReleaseKnown (remove k.nodes node) e.1.kept) k.queues.requests
unreleased k node none all = λ i d lt. by (get_or k.queues.requests i d).1.kept
    (each_fails (λ (x : ℕ × QueuedRequest Purpose). is_released_by node x.1.kept) k.queues.requests none i d lt) (all i d lt)
  where
    by : (kept : Purpose) → is_released_by node kept ≡ false → ReleaseKnown k.nodes kept → ReleaseKnown (remove k.nodes node) kept
    by purpose.Init free h = tt
    by (purpose.Release o) free h = still_known k.nodes node o.nodeid
        (λ e. true≢false (sym (subst (λ (n : ℕ). nat_eq n node ≡ true) (sym e) (same_is node)) ∙ free)) h
    by (purpose.Call call) free h = tt

abandoned_knowing : (k l : Kernel) → Knowing k → l.vfs ≡ abandoned k.vfs → l.nodes ≡ [] → l.closing ≡ []
    → All (λ (e : ℕ × QueuedRequest Purpose). ReleaseKnown l.nodes e.1.kept) l.queues.requests → Knowing l
abandoned_knowing k l w vfs nodes closing requests = record {
  rooted = subst IsRooted (sym vfs) (abandoned_rooted k.vfs w.rooted);
  nodes = subst (λ (n : Map Counted). VfsKnown n l.vfs) (sym nodes)
      (subst (VfsKnown []) (sym vfs) (empty_known k.vfs w.rooted.root));
  files = subst (ClosedFiles l.vfs) (sym closing) (subst (λ (c : Vfs Opened). ClosedFiles c []) (sym vfs) (none_open k.vfs));
  releases = record {
    closing = subst (λ (m : Map Opened). All (OpenKnown l.nodes) (values m)) (sym closing) (All-nil (OpenKnown l.nodes));
    requests = requests;
  };
}

module _ (old : Kernel) (w : Knowing old) where
  mounted_knowing : Knowing (kernel_mounted old)
  mounted_knowing = abandoned_knowing old (kernel_mounted old) w refl refl refl
      (All-cons (λ (e : ℕ × QueuedRequest Purpose). ReleaseKnown [] e.1.kept) _ [] tt
      (All-nil (λ (e : ℕ × QueuedRequest Purpose). ReleaseKnown [] e.1.kept)))

  aborted_knowing : Knowing (kernel_aborted old)
  aborted_knowing = abandoned_knowing old (kernel_aborted old) w refl refl refl
      (All-nil (λ (e : ℕ × QueuedRequest Purpose). ReleaseKnown [] e.1.kept))

  evicted_knowing : Forgetting old → (node : ℕ) (counted : Counted) → evict_refusal old node ≡ None
      → get old.nodes node ≡ Some counted → Knowing (evicted old node counted)
  evicted_knowing f node counted may there =
      let parts = or_false (is_pinned old node) (is_bound old node) (unused old node counted there may) in
      let known = evict_known old w.nodes w.rooted.root node counted there (low (nat_lt node 2) refl) parts.0 parts.1 in
      let free = (or_false _ _ (or_false _ _ parts.0).1).1 in
      record {
        rooted = w.rooted;
        nodes = known;
        files = w.files;
        releases = record {
          closing = closing_known (remove old.nodes node) old.vfs old.closing w.files known;
          requests = unreleased old node free w.releases.requests;
        };
      }
    where
      low : (b : Bool) → nat_lt node 2 ≡ b → 2 ≤ node
      low true is = let below : node < 2 = grind (arith, nat_tests, is) in absurd (cc (f.nodes.none node below, there))
      low false is = grind (arith, nat_tests, is)

  alone_knowing : Forgetting old → (new : Kernel) → ActsAlone old new → Knowing new
  alone_knowing f new (mounts may) = mounted_knowing
  alone_knowing f new (begins call may) =
      let c = for_minor old.lists_files call in record {
        rooted = begins_rooted old c w.rooted;
        nodes = call_known old w.nodes c;
        files = call_closes old w.files c;
        releases = begun_kept old w.nodes w.releases c;
      }
  alone_knowing f new (is_signalled call fatal effect q may is) =
      subst (λ (r : IntrEffect × Kernel). Knowing r.1) is.signalled (record {
        rooted = signalled_rooted old call is.state fatal w.rooted;
        nodes = signal_known old w.nodes call is.state fatal;
        files = signal_closes old w.files call is.state fatal is.unanswered;
        releases = signalled_kept old w.releases call is.state fatal;
      })
  alone_knowing f new (ticks ms may) = record {
    rooted = record { root = w.rooted.root; answers = w.rooted.answers };
    nodes = record { root = w.nodes.root; names = w.nodes.names; calls = w.nodes.calls; opens = w.nodes.opens };
    files = same_files old.vfs (later old.vfs ms) old.closing refl refl refl w.files;
    releases = record { closing = w.releases.closing; requests = w.releases.requests };
  }
  alone_knowing f new (drops_name directory name may) =
      let gone = unbound_known old.nodes old.vfs w.nodes directory name in record {
        rooted = record { root = w.rooted.root; answers = w.rooted.answers };
        nodes = record { root = gone.root; names = gone.names; calls = gone.calls; opens = gone.opens };
        files = same_files old.vfs (record old.vfs { names = remove_name old.vfs.names (directory, name) }) old.closing refl refl refl
            w.files;
        releases = record { closing = w.releases.closing; requests = w.releases.requests };
      }
  alone_knowing f new (evicts node counted may there) = evicted_knowing f node counted may there
  alone_knowing f new (aborts may) = aborted_knowing
  alone_knowing f new (gives_answer call) = record {
    rooted = record {
      root = w.rooted.root;
      answers = is_sorted-where_key nat_cmp (λ (n : ℕ). not (nat_eq n call)) old.vfs.answers w.rooted.answers;
    };
    nodes = record { root = w.nodes.root; names = w.nodes.names; calls = w.nodes.calls; opens = w.nodes.opens };
    files = same_files old.vfs (record old.vfs { answers = remove old.vfs.answers call }) old.closing refl refl refl w.files;
    releases = record { closing = w.releases.closing; requests = w.releases.requests };
  }

  -- ---- a read, and a reply

  picked_knowing : (pick : Pick) → Knowing (record old { queues = after_pick old.queues pick })
  picked_knowing Interrupt =
      record { rooted = w.rooted; nodes = w.nodes; files = w.files; releases = record { closing = w.releases.closing; requests = w.releases.requests } }
  picked_knowing (Forgets count) = by (can_read_forgets old.queues count)
    where
      by : (b : Bool) → Knowing (record old {
        queues = cond b (record old.queues { forgets = drop count old.queues.forgets; next = old.queues.next + 2 }) old.queues;
      })
      by true = record { rooted = w.rooted; nodes = w.nodes; files = w.files; releases = record { closing = w.releases.closing; requests = w.releases.requests } }
      by false = record { rooted = w.rooted; nodes = w.nodes; files = w.files; releases = record { closing = w.releases.closing; requests = w.releases.requests } }
  picked_knowing (Pending place) = record {
    rooted = w.rooted;
    nodes = w.nodes;
    files = w.files;
    releases = record {
      closing = w.releases.closing;
      requests = read_kept old.nodes old.queues w.releases.requests (slice_get (pending old.queues) place);
    };
  }

  taken_knowing : (bytes : List ℕ) (result : WriteResult) (new : Kernel) → IsReplyTaken old bytes result new → Knowing new
  taken_knowing bytes result new taken = holds_as_taken old bytes result new taken (Knowing new) (knowing_stable new) by
    where
      by : TakenAs old bytes result new → Knowing new
      by (refused_whole refused no_entry same) = subst Knowing (sym same) w
      by (is_read o wire awaits means same) = subst (λ (r : WriteResult × Kernel). Knowing r.1) same (record {
        rooted = written_rooted old (head_unique bytes) wire w.rooted;
        nodes = write_known old w.nodes w.rooted.root (head_unique bytes) wire;
        files = written_closes old w.files (head_unique bytes) wire;
        releases = written_kept old w.releases (head_unique bytes) wire;
      })

-- ---- a run

step_knowing : (old : Driven) (log : List Transfer) (new : Driven) → DriveStep old log new → Forgetting old.kernel
    → Knowing old.kernel → Knowing new.kernel
step_knowing old log new (alone k acts) f w = alone_knowing old.kernel w f k acts
step_knowing old log new (reads idle pick may request is) f w = picked_knowing old.kernel w pick
step_knowing old log new (answers request error turn bytes written result k taken) f w = taken_knowing old.kernel w bytes result k taken
step_knowing old log new (writes idles frame rest there handed on result k taken log' coming left turn release) f w =
    taken_knowing old.kernel w handed result k taken
step_knowing old log new step f w = w

pub run_knowing : (asks : Bool) (log : List Transfer) (new : Driven) → Drives (first_driven asks) log new → Knowing new.kernel
run_knowing asks log new nothing = record {
  rooted = record { root = refl; answers = tt };
  nodes = first_known;
  files = first_closed;
  releases = none_kept new.kernel refl refl;
}
run_knowing asks log new (behind before mid run last end step) =
    step_knowing mid last end step (run_forgetting asks before mid run) (run_knowing asks before mid run)
