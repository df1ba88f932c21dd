-- The kernel has lookups of no root to forget, and never none of a node, in any run.
use Rattle.std.proofs.Common.{◌≡◌, ℕ, zero, suc, ◌+◌, ◌-◌, ◌≤◌, ◌<◌, ◌%◌, Bool, true, false, cond, List, [], ◌∷◌, ◌++◌, Option, Some, None, drop, take, nat_eq, nat_lt, slice_get, refl, ap, sym, subst, ◌∙◌, arith, rules}
use Rattle.std.proofs.lemmas.Bool.{false≢true}
use Rattle.std.proofs.lemmas.Bool.Decides.{nat_tests}
use Rattle.fuse_spec.specs.declared.Counted.{Counted}
use Rattle.fuse_spec.specs.declared.Entry.{Entry}
use Rattle.fuse_spec.specs.declared.IntrEffect.{IntrEffect}
use Rattle.fuse_spec.specs.declared.Opened.{Opened}
use Rattle.fuse_spec.specs.declared.Purpose.{Purpose}
use Rattle.fuse_spec.specs.declared.Purpose.TheVariants as purpose
use Rattle.fuse_spec.specs.declared.WriteResult.{WriteResult}
use Rattle.fuse_spec.specs.Calls.Answers as answer
use Rattle.fuse_spec.specs.Calls.Calls.{for_minor}
use Rattle.fuse_spec.specs.Calls.CallReplies.{call_replied}
use Rattle.fuse_spec.specs.Calls.Vfs.{asked, CallState, answered}
use Rattle.fuse_spec.specs.Files.Operations.{DirentPlus, done, failed, files_in_reply, files_listed, first_listed, listed_by, listed_plus}
use Rattle.fuse_spec.specs.Values.Maps.{Map, get, put, remove}
use Rattle.fuse_spec.specs.Kernel.Kernel.{Kernel, kernel_aborted, after_use, call_begun, call_signalled, evicted}
use Rattle.fuse_spec.specs.Kernel.Messages.{Forget, WireReply}
use Rattle.fuse_spec.specs.Kernel.Queues.{pending}
use Rattle.fuse_spec.specs.Kernel.QueueCalls.{can_read_forgets, waiting, without}
use Rattle.fuse_spec.specs.Kernel.Replies.{counted_more, first_use, forgets_with, kernel_reply, looked_up, looked_up_by, pair_judged, pairs_judged, stale_among, stale_in, stale_in_reply, use_counted, use_of, use_of_all, use_of_listed, Use, usable, unusable, stale, goes_with, is_agreement, judged, replied, replied_to_call, ended_by, request_reply_written, interrupt_reply_written, interrupt_replied, interrupt_reply_of, reply_written, reply_received, without_stale, reply_judged, use_of_reply, made_ready}
use Rattle.fuse_spec.proofs.Tables.{get_put_here, get_put_there, get_gone_here, get_gone_there}
use Rattle.fuse_theorem.proofs.Lookups.CountsStay.{SameCounts, advanced_same, used_same, begun_same, signalled_same, read_same, interrupt_reply_same}
use Rattle.fuse_device.specs.Transfers.{Transfer}
use Rattle.fk_kernel.specs.AwaitedReplies.{head_unique}
use Rattle.fk_kernel.specs.Picks.{after_pick}
use Rattle.fk_kernel.specs.declared.read.Pick.{Pick}
use Rattle.fk_kernel.specs.declared.read.Pick.TheVariants.{Interrupt, Forgets, Pending}
use Rattle.fk_drive.specs.Driving.{Driven, DriveStep, Drives, first_driven, alone, reads, answers, writes, nothing, next as behind}
use Rattle.fk_drive.specs.KernelSteps.{ActsAlone, IsReplyTaken, mounts, begins, is_signalled, ticks, drops_name, evicts, aborts, gives_answer}
use Rattle.fk_drive_theorem.proofs.Stable.{Stable, at_most, is_nothing}
use Rattle.fk_drive_theorem.proofs.Taken.{TakenAs, refused_whole, is_read, holds_as_taken}

-- Lookups of a node other than the root, and not none.
abbrev pub IsForget : Forget → Type 0
IsForget f = (2 ≤ f.0) × (1 ≤ f.1)

abbrev pub AreForgets : List Forget → Type 0
AreForgets [] = Unit {0}
AreForgets (f ∷ fs) = IsForget f × AreForgets fs

abbrev pub AreLow : List ℕ → Type 0
AreLow [] = Unit {0}
AreLow (n ∷ ns) = (2 ≤ n) × AreLow ns

-- The nodes that are counted are none below 2, and each is counted.
pub record AreCounted (nodes : Map Counted) : Type 0 where
  pub none : (id : ℕ) → id < 2 → get nodes id ≡ None
  pub some : (id : ℕ) (c : Counted) → get nodes id ≡ Some c → 1 ≤ c.count

pub record Forgetting (k : Kernel) : Type 0 where
  pub forgets : AreForgets k.queues.forgets
  pub nodes : AreCounted k.nodes

forgets_stable : (fs : List Forget) → Stable (AreForgets fs)
forgets_stable [] s = tt
forgets_stable (f ∷ fs) s = (
  (at_most _ _ (λ none. s (λ all. none all.0.0)), at_most _ _ (λ none. s (λ all. none all.0.1))),
  forgets_stable fs (λ none. s (λ all. none all.1)),
)

forgetting_stable : (k : Kernel) → Stable (Forgetting k)
forgetting_stable k s = record {
  forgets = forgets_stable k.queues.forgets (λ none. s (λ f. none f.forgets));
  nodes = record {
    none = λ id low. is_nothing (get k.nodes id) (λ none. s (λ f. none (f.nodes.none id low)));
    some = λ id c is. at_most 1 c.count (λ none. s (λ f. none (f.nodes.some id c is)));
  };
}

pub none_counted : AreCounted []
none_counted = record { none = λ id low. refl; some = λ id c is. absurd (cc is) }

forgets_push : (fs : List Forget) (f : Forget) → AreForgets fs → IsForget f → AreForgets (fs ++ f ∷ [])
forgets_push [] f all is = (is, tt)
forgets_push (g ∷ fs) f all is = (all.0, forgets_push fs f all.1 is)

each_forget : (nodes : List ℕ) (fs : List Forget) → AreForgets fs → AreLow nodes → AreForgets (forgets_with fs nodes)
each_forget [] fs all low = all
each_forget (node ∷ nodes) fs all low =
    each_forget nodes (fs ++ (node, 1) ∷ []) (forgets_push fs (node, 1) all (low.0, omega arith)) low.1

low_append : (ns ms : List ℕ) → AreLow ns → AreLow ms → AreLow (ns ++ ms)
low_append [] ms first last = last
low_append (n ∷ ns) ms first last = (first.0, low_append ns ms first.1 last)

-- ---- entries

abbrev EntriesLow : List Entry → Type 0
EntriesLow [] = Unit {0}
EntriesLow (g ∷ gs) = (2 ≤ g.nodeid) × EntriesLow gs

-- An entry that is usable, or stale, names a node from 2 on.
use_low : (nodes : Map Counted) (g : Entry) → (use_of nodes g ≡ unusable → ⊥) → 2 ≤ g.nodeid
use_low nodes g usable' = by (nat_lt g.nodeid 2) refl usable'
  where
    by : (b : Bool) → nat_lt g.nodeid 2 ≡ b → (cond b unusable (use_counted g (get nodes g.nodeid)) ≡ unusable → ⊥)
        → 2 ≤ g.nodeid
    by true is other = absurd (other refl)
    by false is other = grind (arith, nat_tests, is)

stale_of : (nodes : Map Counted) (g : Entry) (node : ℕ) → use_of nodes g ≡ stale node → node ≡ g.nodeid
stale_of nodes g node = by (nat_lt g.nodeid 2) (get nodes g.nodeid)
  where
    counted : (b : Bool) → cond b usable (stale g.nodeid) ≡ stale node → node ≡ g.nodeid
    counted true e = absurd (cc e)
    counted false e = cc e

    by : (b : Bool) (o : Option Counted) → cond b unusable (use_counted g o) ≡ stale node → node ≡ g.nodeid
    by true o e = absurd (cc e)
    by false None e = absurd (cc e)
    by false (Some c) e = counted (nat_eq c.generation g.generation) e

stale_low : (nodes : Map Counted) (gs : List Entry) (node : ℕ) → use_of_all nodes gs ≡ stale node → 2 ≤ node
stale_low nodes [] node e = absurd (cc e)
stale_low nodes (g ∷ gs) node e = by (use_of nodes g) refl e (stale_low nodes gs node)
  where
    by : (u : Use) → use_of nodes g ≡ u → first_use u (use_of_all nodes gs) ≡ stale node
        → (use_of_all nodes gs ≡ stale node → 2 ≤ node) → 2 ≤ node
    by usable is e rest = rest e
    by unusable is e rest = absurd (cc e)
    by (stale n) is e rest =
        let same : n ≡ node = cc e in
        let low = use_low nodes g (λ u. cc (sym is ∙ u)) in
        let of = stale_of nodes g n is in
        omega (arith, same, low, of)

all_low : (nodes : Map Counted) (gs : List Entry) → use_of_all nodes gs ≡ usable → EntriesLow gs
all_low nodes [] e = tt
all_low nodes (g ∷ gs) e = by (use_of nodes g) refl e (all_low nodes gs)
  where
    by : (u : Use) → use_of nodes g ≡ u → first_use u (use_of_all nodes gs) ≡ usable
        → (use_of_all nodes gs ≡ usable → EntriesLow gs) → (2 ≤ g.nodeid) × EntriesLow gs
    by usable is e rest = (use_low nodes g (λ u. cc (sym is ∙ u)), rest e)
    by unusable is e rest = absurd (cc e)
    by (stale n) is e rest = absurd (cc e)

-- ---- names in a list

pair_stale : (nodes : Map Counted) (o : Option Entry) → AreLow (stale_in (use_of_listed nodes o))
pair_stale nodes None = tt
pair_stale nodes (Some g) = by (use_of nodes g) refl
  where
    by : (u : Use) → use_of nodes g ≡ u → AreLow (stale_in u)
    by usable is = tt
    by unusable is = tt
    by (stale n) is =
        let low = use_low nodes g (λ u. cc (sym is ∙ u)) in
        let of = stale_of nodes g n is in
        (omega (arith, low, of), tt)

among_low : (pairs : List (DirentPlus Entry)) (nodes : Map Counted) → AreLow (stale_among nodes pairs)
among_low [] nodes = tt
among_low (pair ∷ pairs) nodes = low_append (stale_in (use_of_listed nodes (listed_by pair)))
    (stale_among (looked_up_by nodes pair) pairs) (pair_stale nodes (listed_by pair)) (among_low pairs (looked_up_by nodes pair))

in_reply_low : (nodes : Map Counted) (wire : WireReply) → AreLow (stale_in_reply nodes wire)
in_reply_low nodes (listed_plus pairs) = among_low pairs nodes
in_reply_low nodes wire = tt

both_none : (b : Bool) → cond {A = Option Entry} b None None ≡ None
both_none true = refl
both_none false = refl

no_file : (pair : DirentPlus Entry) → listed_by (record pair { file = None }) ≡ None
no_file pair = both_none _

-- the file of a name that was judged
judged_low : (nodes : Map Counted) (pair : DirentPlus Entry) (gs : List Entry) → EntriesLow gs
    → EntriesLow (first_listed (listed_by (pair_judged pair (use_of_listed nodes (listed_by pair)))) gs)
judged_low nodes pair gs rest = by (listed_by pair) refl
  where
    used : (g : Entry) → listed_by pair ≡ Some g → (u : Use) → use_of nodes g ≡ u
        → EntriesLow (first_listed (listed_by (pair_judged pair u)) gs)
    used g is usable e = subst (λ (o : Option Entry). EntriesLow (first_listed o gs)) (sym is)
        (use_low nodes g (λ u. cc (sym e ∙ u)), rest)
    used g is unusable e = subst (λ (o : Option Entry). EntriesLow (first_listed o gs)) (sym (no_file pair)) rest
    used g is (stale n) e = subst (λ (o : Option Entry). EntriesLow (first_listed o gs)) (sym (no_file pair)) rest

    by : (o : Option Entry) → listed_by pair ≡ o
        → EntriesLow (first_listed (listed_by (pair_judged pair (use_of_listed nodes o))) gs)
    by None is = subst (λ (o : Option Entry). EntriesLow (first_listed o gs)) (sym is) rest
    by (Some g) is = used g is (use_of nodes g) refl

pairs_low : (pairs : List (DirentPlus Entry)) (nodes : Map Counted) → EntriesLow (files_listed (pairs_judged nodes pairs))
pairs_low [] nodes = tt
pairs_low (pair ∷ pairs) nodes = judged_low nodes pair (files_listed (pairs_judged (looked_up_by nodes pair) pairs))
    (pairs_low pairs (looked_up_by nodes pair))

reply_low : (nodes : Map Counted) (wire : WireReply) → use_of_reply nodes wire ≡ usable
    → EntriesLow (files_in_reply (reply_judged nodes wire))
reply_low nodes (listed_plus pairs) e = pairs_low pairs nodes
reply_low nodes wire e = all_low nodes (files_in_reply wire) e

reply_stale : (nodes : Map Counted) (wire : WireReply) (node : ℕ) → use_of_reply nodes wire ≡ stale node → 2 ≤ node
reply_stale nodes (listed_plus pairs) node e = absurd (cc e)
reply_stale nodes wire node e = stale_low nodes (files_in_reply wire) node e

-- ---- the counts

some_counted : (a b : Counted) → ◌≡◌ {A = Option Counted} (Some a) (Some b) → a ≡ b
some_counted a b same = ap of same
  where
    of : Option Counted → Counted
    of None = a
    of (Some x) = x

put_counted : (nodes : Map Counted) (g : Entry) → 2 ≤ g.nodeid → AreCounted nodes
    → AreCounted (put nodes g.nodeid (counted_more g (get nodes g.nodeid)))
put_counted nodes g low old = record {
  none = λ id under. get_put_there nodes g.nodeid new id (λ e. absurd (omega (arith, low, under, e))) ∙ old.none id under;
  some = λ id c is. by id c (nat_eq id g.nodeid) refl is;
}
  where
    new : Counted
    new = counted_more g (get nodes g.nodeid)

    more : (o : Option Counted) → 1 ≤ (counted_more g o).count
    more None = omega arith
    more (Some c) = omega arith

    by : (id : ℕ) (c : Counted) (b : Bool) → nat_eq id g.nodeid ≡ b
        → get (put nodes g.nodeid (counted_more g (get nodes g.nodeid))) id ≡ Some c → 1 ≤ c.count
    by id c true same is =
        let equal : id ≡ g.nodeid = grind (arith, rules, same) in
        let here = subst (λ (n : ℕ). get (put nodes g.nodeid (counted_more g (get nodes g.nodeid))) n ≡ Some c) equal is in
        let is_new : counted_more g (get nodes g.nodeid) ≡ c =
        some_counted (counted_more g (get nodes g.nodeid)) c
        (sym (get_put_here nodes g.nodeid (counted_more g (get nodes g.nodeid))) ∙ here) in
        subst (λ (d : Counted). 1 ≤ d.count) is_new (more (get nodes g.nodeid))
    by id c false other is = old.some id c (sym (get_put_there nodes g.nodeid
        (counted_more g (get nodes g.nodeid)) id (λ e. false≢true (sym other ∙ grind (arith, rules, e)))) ∙ is)

looked_counted : (gs : List Entry) (nodes : Map Counted) → EntriesLow gs → AreCounted nodes → AreCounted (looked_up nodes gs)
looked_counted [] nodes low old = old
looked_counted (g ∷ gs) nodes low old =
    looked_counted gs (put nodes g.nodeid (counted_more g (get nodes g.nodeid))) low.1 (put_counted nodes g low.0 old)

gone_counted : (nodes : Map Counted) (node : ℕ) → AreCounted nodes → AreCounted (remove nodes node)
gone_counted nodes node old = record {
  none = λ id low. none_at id low (nat_eq id node) refl;
  some = λ id c is. some_at id c (nat_eq id node) refl is;
}
  where
    none_at : (id : ℕ) → id < 2 → (b : Bool) → nat_eq id node ≡ b → get (remove nodes node) id ≡ None
    none_at id low true same =
        let equal : id ≡ node = grind (arith, rules, same) in
        ap (get (remove nodes node)) equal ∙ get_gone_here nodes node
    none_at id low false other =
        get_gone_there nodes node id (λ e. false≢true (sym other ∙ grind (arith, rules, e))) ∙ old.none id low

    some_at : (id : ℕ) (c : Counted) (b : Bool) → nat_eq id node ≡ b → get (remove nodes node) id ≡ Some c → 1 ≤ c.count
    some_at id c true same is =
        let equal : id ≡ node = grind (arith, rules, same) in
        absurd (cc (is, ap (get (remove nodes node)) equal, get_gone_here nodes node))
    some_at id c false other is =
        old.some id c (sym (get_gone_there nodes node id (λ e. false≢true (sym other ∙ grind (arith, rules, e)))) ∙ is)

-- ---- the kernel

same_forgetting : (k l : Kernel) → SameCounts k l → Forgetting k → Forgetting l
same_forgetting k l same f = record {
  forgets = subst AreForgets (sym same.forgets) f.forgets;
  nodes = subst AreCounted (sym same.nodes) f.nodes;
}

abandoned_forgetting : (k : Kernel) → k.queues.forgets ≡ [] → k.nodes ≡ [] → Forgetting k
abandoned_forgetting k forgets nodes = record {
  forgets = subst AreForgets (sym forgets) tt;
  nodes = subst AreCounted (sym nodes) none_counted;
}

replied_forgetting : (k : Kernel) (call : ℕ) (wire : WireReply) (o : Option (CallState Opened)) → Forgetting k
    → Forgetting (replied_to_call k call wire o).1
replied_forgetting k call wire None f = f
replied_forgetting k call wire (Some state) f = by (goes_with (asked state) wire)
  where
    stale_forgetting : Forgetting (without_stale k wire)
    stale_forgetting = record {
      forgets = each_forget (stale_in_reply k.nodes wire) k.queues.forgets f.forgets (in_reply_low k.nodes wire);
      nodes = f.nodes;
    }

    judged_forgetting : (u : Use) → use_of_reply k.nodes wire ≡ u
        → Forgetting (judged (without_stale k wire) call state (reply_judged k.nodes wire) u)
    judged_forgetting usable is =
        let x = reply_judged k.nodes wire in
        let k1 = record (without_stale k wire) { nodes = looked_up k.nodes (files_in_reply x) } in
        let next = call_replied k.vfs call state (kernel_reply (asked state) x) in
        same_forgetting k1 _ (advanced_same k1 call next) (record {
          forgets = stale_forgetting.forgets;
          nodes = looked_counted (files_in_reply x) k.nodes (reply_low k.nodes wire is) f.nodes;
        })
    judged_forgetting unusable is = record { forgets = stale_forgetting.forgets; nodes = f.nodes }
    judged_forgetting (stale node) is = record {
      forgets = forgets_push (without_stale k wire).queues.forgets (node, 1) stale_forgetting.forgets
          (reply_stale k.nodes wire node is, omega arith);
      nodes = f.nodes;
    }

    by : (b : Bool) → Forgetting (replied k call state b wire).1
    by true =
        let l = reply_received k call state wire in
        same_forgetting l (after_use l state) (used_same l state) (judged_forgetting (use_of_reply k.nodes wire) refl)
    by false =
        let l = record k { vfs = answered k.vfs call (answer.failed 5) } in
        same_forgetting l (after_use l state) (used_same l state) (record { forgets = f.forgets; nodes = f.nodes })

written_forgetting : (k : Kernel) (unique : ℕ) (wire : WireReply) → Forgetting k → Forgetting (reply_written k unique wire).1
written_forgetting k unique wire f = by (nat_eq (unique % 2) 1)
  where
    k1 : Kernel
    k1 = record k { queues = without k.queues unique }

    agreed_or : (b : Bool) → Forgetting (cond b (made_ready k1 wire) (kernel_aborted k1))
    agreed_or true = record { forgets = f.forgets; nodes = f.nodes }
    agreed_or false = abandoned_forgetting (kernel_aborted k1) refl refl

    ended : (kept : Purpose) → Forgetting (ended_by k1 kept wire).1
    ended purpose.Init = agreed_or (is_agreement wire)
    ended (purpose.Release o) = record { forgets = f.forgets; nodes = f.nodes }
    ended (purpose.Call call) = replied_forgetting (record k { queues = without k.queues unique }) call wire
        (get k.vfs.calls call) (record { forgets = f.forgets; nodes = f.nodes })

    even : (o : Option Purpose) → Forgetting (request_reply_written k unique wire o).1
    even None = f
    even (Some kept) = ended kept

    interrupts : (x : WireReply) → Forgetting (interrupt_replied k (unique - 1) x).1
    interrupts (failed errno) = record {
      forgets = subst AreForgets (sym (interrupt_reply_same k.queues (unique - 1) (interrupt_reply_of errno))) f.forgets;
      nodes = f.nodes;
    }
    interrupts done = f
    interrupts x = f

    odd : (o : Option Purpose) → Forgetting (interrupt_reply_written k unique wire o).1
    odd None = f
    odd (Some kept) = interrupts wire

    by : (b : Bool) → Forgetting (cond b (interrupt_reply_written k unique wire (waiting k.queues (unique - 1)))
        (request_reply_written k unique wire (waiting k.queues unique))).1
    by true = odd (waiting k.queues (unique - 1))
    by false = even (waiting k.queues unique)

-- ---- a run

forgets_dropped : (n : ℕ) (fs : List Forget) → AreForgets fs → AreForgets (drop n fs)
forgets_dropped zero fs all = all
forgets_dropped (suc n) [] all = tt
forgets_dropped (suc n) (f ∷ fs) all = forgets_dropped n fs all.1

pub forgets_taken : (n : ℕ) (fs : List Forget) → AreForgets fs → AreForgets (take n fs)
forgets_taken zero fs all = tt
forgets_taken (suc n) [] all = tt
forgets_taken (suc n) (f ∷ fs) all = (all.0, forgets_taken n fs all.1)

picked_forgetting : (k : Kernel) (pick : Pick) → Forgetting k → Forgetting (record k { queues = after_pick k.queues pick })
picked_forgetting k Interrupt f = record { forgets = f.forgets; nodes = f.nodes }
picked_forgetting k (Forgets count) f = by (can_read_forgets k.queues count)
  where
    by : (b : Bool) → Forgetting (record k {
      queues = cond b (record k.queues { forgets = drop count k.queues.forgets; next = k.queues.next + 2 }) k.queues;
    })
    by true = record { forgets = forgets_dropped count k.queues.forgets f.forgets; nodes = f.nodes }
    by false = record { forgets = f.forgets; nodes = f.nodes }
picked_forgetting k (Pending place) f = record {
  forgets = subst AreForgets (sym (read_same k.queues (slice_get (pending k.queues) place))) f.forgets;
  nodes = f.nodes;
}

taken_forgetting : (old : Kernel) (bytes : List ℕ) (result : WriteResult) (new : Kernel) → IsReplyTaken old bytes result new
    → Forgetting old → Forgetting new
taken_forgetting old bytes result new taken f =
    holds_as_taken old bytes result new taken (Forgetting new) (forgetting_stable new) by
  where
    by : TakenAs old bytes result new → Forgetting new
    by (refused_whole refused no_entry same) = subst Forgetting (sym same) f
    by (is_read o wire awaits means same) =
        subst (λ (r : WriteResult × Kernel). Forgetting r.1) same (written_forgetting old (head_unique bytes) wire f)

-- a node that is evicted is counted, and not the root
evicted_forgetting : (k : Kernel) (node : ℕ) (c : Counted) → get k.nodes node ≡ Some c → Forgetting k
    → Forgetting (evicted k node c)
evicted_forgetting k node c there f = record {
  forgets = forgets_push k.queues.forgets (node, c.count) f.forgets (by (nat_lt node 2) refl, f.nodes.some node c there);
  nodes = gone_counted k.nodes node f.nodes;
}
  where
    by : (b : Bool) → nat_lt node 2 ≡ b → 2 ≤ node
    by true is =
        let low : node < 2 = grind (arith, nat_tests, is) in
        absurd (cc (f.nodes.none node low, there))
    by false is = grind (arith, nat_tests, is)

alone_forgetting : (old new : Kernel) → ActsAlone old new → Forgetting old → Forgetting new
alone_forgetting old new (mounts may) f = abandoned_forgetting new refl refl
alone_forgetting old new (begins call may) f =
    let c = for_minor old.lists_files call in same_forgetting old (call_begun old c) (begun_same old c) f
alone_forgetting old new (is_signalled call fatal effect q may is) f =
    subst (λ (r : IntrEffect × Kernel). Forgetting r.1) is.signalled
    (same_forgetting old (call_signalled old call is.state fatal).1 (signalled_same old call is.state fatal) f)
alone_forgetting old new (ticks ms may) f = record { forgets = f.forgets; nodes = f.nodes }
alone_forgetting old new (drops_name directory name may) f = record { forgets = f.forgets; nodes = f.nodes }
alone_forgetting old new (evicts node counted may there) f = evicted_forgetting old node counted there f
alone_forgetting old new (aborts may) f = abandoned_forgetting new refl refl
alone_forgetting old new (gives_answer call) f = record { forgets = f.forgets; nodes = f.nodes }

step_forgetting : (old : Driven) (log : List Transfer) (new : Driven) → DriveStep old log new → Forgetting old.kernel
    → Forgetting new.kernel
step_forgetting old log new (alone k acts) f = alone_forgetting old.kernel k acts f
step_forgetting old log new (reads idle pick may request is) f = picked_forgetting old.kernel pick f
step_forgetting old log new (answers request error turn bytes written result k taken) f =
    taken_forgetting old.kernel bytes result k taken f
step_forgetting old log new (writes idles frame rest there handed on result k taken log' coming left turn release) f =
    taken_forgetting old.kernel handed result k taken f
step_forgetting old log new step f = f

pub run_forgetting : (asks : Bool) (log : List Transfer) (new : Driven) → Drives (first_driven asks) log new
    → Forgetting new.kernel
run_forgetting asks log new nothing = abandoned_forgetting new.kernel refl refl
run_forgetting asks log new (behind before mid run last end step) =
    step_forgetting mid last end step (run_forgetting asks before mid run)
