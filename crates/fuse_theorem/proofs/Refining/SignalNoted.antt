-- A signal is noted on the ask of its call, and marks the call's request.
use Rattle.std.proofs.Common.{◌≡◌, ℕ, Bool, true, false, cond, List, [], ◌∷◌, Some, nat_eq, filter, get_or, refl, ap, sym, subst, ◌∙◌, arith, inl, inr, All}
use Rattle.std.specs.Map.{lookup}
use Rattle.std.proofs.lemmas.Bool.{cases_eq}
use Rattle.std.proofs.lemmas.Bool.Decides.{nat_tests}
use Rattle.std.proofs.lemmas.List.Elements.{All-cons, All-head, All-tail}
use Rattle.fuse_spec.specs.declared.Mark.{Mark}
use Rattle.fuse_spec.specs.declared.Mark.TheVariants.{Flagged, Interrupted}
use Rattle.fuse_spec.specs.declared.Opened.{Opened}
use Rattle.fuse_spec.specs.declared.Purpose.{Purpose}
use Rattle.fuse_spec.specs.declared.QueuedRequest.{QueuedRequest}
use Rattle.fuse_spec.specs.Values.Maps.{Map, get, put}
use Rattle.fuse_spec.specs.Kernel.Queues.{QueueState, pending, request_under, is_unread, is_signalled}
use Rattle.fuse_spec.specs.Kernel.QueueCalls.{set_mark, with_mark, with_interrupt}
use Rattle.fuse_spec.specs.Kernel.Messages.{RequestBody, init, asks, release, forget, batch_forget, interrupt}
use Rattle.fuse_spec.specs.Kernel.Kernel.{is_live, body_of}
use Rattle.fuse_spec.specs.World.Worlds.{World}
use Rattle.fuse_spec.specs.Reference.Plain.{Plain, Ask, ask_noted}
use Rattle.fuse_spec.specs.Claim.Denotes.{NodeDenotesIn, OpenDenotesIn}
use Rattle.fuse_spec.specs.Files.Operations.{OperationAlike}
use Rattle.fuse_spec.specs.Claim.Alike.{RequestBodyAsked, PurposeAsked, StillDenotes, OpenStillDenotes, Alike}
use Rattle.fuse_spec.proofs.Tables.{get_put_here}
use Rattle.fuse_spec.proofs.QueueReadings.{request_under-mark_other}
use Rattle.fuse_theorem.proofs.Refining.Asking.{match_more}
use Rattle.fuse_theorem.proofs.Refining.Changing.{MayReplace, ask_changed}
use Rattle.fuse_theorem.proofs.Calls.Finding.{other_is}
use Rattle.fuse_theorem.proofs.Refining.Queuing.{queues_alike, find_marked}

-- what is asked under a number is asked of its noted ask, with a signal or without
noted_asked : (R : ℕ → ℕ → Type 0) (S : Opened → ℕ → Type 0) (all : Map Ask) (unique : ℕ) (old now marked : Bool)
    (body : RequestBody) (ask : Ask) → get all unique ≡ Some ask
    → RequestBodyAsked all unique old marked R S body
    → RequestBodyAsked (put all unique (record ask { noted = true })) unique now marked R S body
noted_asked R S all unique old now marked (asks operation) ask there h =
    let same : h.ask ≡ ask = cc (h.there, there) in
    let waits = h.is_waiting in
    record {
      ask = record ask { noted = true };
      there = get_put_here all unique (record ask { noted = true });
      is_waiting = record {
        stage = ap (λ (a : Ask). a.stage) (sym same) ∙ waits.stage;
        noted = λ _. refl;
        marked_too = ap (λ (a : Ask). a.marked) (sym same) ∙ waits.marked_too;
      };
      same = subst (λ (a : Ask). OperationAlike R S operation a.operation) same h.same;
    }
noted_asked R S all unique old now marked (init flags) ask there h = absurd (cc (h, there))
noted_asked R S all unique old now marked (release o) ask there h = absurd (cc (h, there))
noted_asked R S all unique old now marked (forget f) ask there h = absurd (cc (h, there))
noted_asked R S all unique old now marked (batch_forget fs) ask there h = absurd (cc (h, there))
noted_asked R S all unique old now marked (interrupt original) ask there h = absurd (cc (h, there))

module _ (w : World) (p : Plain) (same : Alike w p) (unique : ℕ) (ask : Ask)
    (there : get p.asks unique ≡ Some ask) where
  may_note : MayReplace w p unique (record ask { noted = true })
  may_note = record {
    old = ask;
    there = there;
    same_call = refl;
    same_operation = refl;
    pending = λ i e lt here.
        let entry = get_or (pending w.kernel.queues) i e in
        match_more (body_of w.kernel entry.1.kept)
        (λ body h. subst (λ (n : ℕ). RequestBodyAsked (put p.asks unique (record ask { noted = true })) n
        (is_signalled entry.1.mark) false (NodeDenotesIn w) (OpenDenotesIn w) body) (sym here)
        (noted_asked (NodeDenotesIn w) (OpenDenotesIn w) p.asks unique (is_signalled entry.1.mark)
        (is_signalled entry.1.mark) false body ask there
        (subst (λ (n : ℕ). RequestBodyAsked p.asks n (is_signalled entry.1.mark) false (NodeDenotesIn w)
        (OpenDenotesIn w) body) here h)))
        (same.requests.pending i e lt);
    sent = λ i r lt here.
        let request = get_or w.requests i r in
        subst (λ (n : ℕ). RequestBodyAsked (put p.asks unique (record ask { noted = true })) n false false (NodeDenotesIn w)
        (OpenDenotesIn w) request.body) (sym here)
        (noted_asked (NodeDenotesIn w) (OpenDenotesIn w) p.asks unique false false false request.body ask there
        (subst (λ (n : ℕ). RequestBodyAsked p.asks n false false (NodeDenotesIn w) (OpenDenotesIn w) request.body) here
        (same.requests.sent i r lt)));
    held = λ t at.
        noted_asked (StillDenotes w.server.nodes t.generations)
        (OpenStillDenotes w.server.nodes w.server.handles t.generations) p.asks unique false false t.marked t.body ask there
        (same.requests.held unique t at);
    noted = λ r under bears noted. refl;
    kept = λ k at reply_matches. reply_matches;
    copies = λ i s lt here reply_matches. reply_matches;
  }

  -- The signal is noted.
  pub noted_alike : Alike w (ask_noted p unique ask)
  noted_alike = ask_changed w p same unique (record ask { noted = true }) may_note

-- ---- the mark of a request changes

-- the pending ones, where an unread one stays unread
All-flagged : (P : ℕ × QueuedRequest Purpose → Type 0) (u : ℕ) (m : Mark) (es : List (ℕ × QueuedRequest Purpose))
    (r : QueuedRequest Purpose) → lookup (nat_eq u) es ≡ Some r → is_unread r.mark ≡ true → is_unread m ≡ true
    → ((e : ℕ × QueuedRequest Purpose) → e.0 ≡ u → P e → P (e.0, record { mark = m; kept = e.1.kept }))
    → All P (filter (λ (e : ℕ × QueuedRequest Purpose). is_unread e.1.mark) es)
    → All P (filter (λ (e : ℕ × QueuedRequest Purpose). is_unread e.1.mark) (set_mark u es m))
All-flagged P u m [] r found unread still f h = absurd (cc)
All-flagged P u m (e ∷ es) r found unread still f h =
    by (nat_eq u e.0) refl found (λ g k. All-flagged P u m es r g unread still f k)
  where
    Pending : List (ℕ × QueuedRequest Purpose) → List (ℕ × QueuedRequest Purpose)
    Pending xs = filter (λ (x : ℕ × QueuedRequest Purpose). is_unread x.1.mark) xs

    later : (b : Bool) → is_unread e.1.mark ≡ b → (All P (Pending es) → All P (Pending (set_mark u es m)))
        → All P (Pending (e ∷ set_mark u es m))
    later true q rest = rw q (All-cons P e (Pending (set_mark u es m)) (All-head P e (Pending es) (rw q at h))
        (rest (All-tail P e (Pending es) (rw q at h))))
    later false q rest = rw q (rest (rw q at h))

    by : (b : Bool) → nat_eq u e.0 ≡ b → cond b (Some e.1) (lookup (nat_eq u) es) ≡ Some r
        → (lookup (nat_eq u) es ≡ Some r → All P (Pending es) → All P (Pending (set_mark u es m)))
        → All P (Pending (cond b ((e.0, record { mark = m; kept = e.1.kept }) ∷ es) (e ∷ set_mark u es m)))
    by true q g rest =
        let is : e.1 ≡ r = cc in
        let was : is_unread e.1.mark ≡ true = ap (λ (x : QueuedRequest Purpose). is_unread x.mark) is ∙ unread in
        let key : e.0 ≡ u = grind (arith, nat_tests, q) in
        let before : All P (e ∷ Pending es) = rw was at h in
        rw still (All-cons P (e.0, record { mark = m; kept = e.1.kept }) (Pending es)
        (f e key (All-head P e (Pending es) before)) (All-tail P e (Pending es) before))
    by false q g rest = later (is_unread e.1.mark) refl (rest g)

-- .. and where a read one stays read
pending_marked : (u : ℕ) (m : Mark) (es : List (ℕ × QueuedRequest Purpose)) (r : QueuedRequest Purpose)
    → lookup (nat_eq u) es ≡ Some r → is_unread r.mark ≡ false → is_unread m ≡ false
    → filter (λ (e : ℕ × QueuedRequest Purpose). is_unread e.1.mark) (set_mark u es m)
    ≡ filter (λ (e : ℕ × QueuedRequest Purpose). is_unread e.1.mark) es
pending_marked u m [] r found read still = refl
pending_marked u m (e ∷ es) r found read still = by (nat_eq u e.0) found (λ g. pending_marked u m es r g read still)
  where
    Pending : List (ℕ × QueuedRequest Purpose) → List (ℕ × QueuedRequest Purpose)
    Pending xs = filter (λ (x : ℕ × QueuedRequest Purpose). is_unread x.1.mark) xs

    by : (b : Bool) → cond b (Some e.1) (lookup (nat_eq u) es) ≡ Some r
        → (lookup (nat_eq u) es ≡ Some r → Pending (set_mark u es m) ≡ Pending es)
        → Pending (cond b ((e.0, record { mark = m; kept = e.1.kept }) ∷ es) (e ∷ set_mark u es m)) ≡ Pending (e ∷ es)
    by true g rest =
        let is : e.1 ≡ r = cc in
        let was : is_unread e.1.mark ≡ false = ap (λ (x : QueuedRequest Purpose). is_unread x.mark) is ∙ read in
        rw (still, was) refl
    by false g rest = ap (λ (xs : List (ℕ × QueuedRequest Purpose)). cond (is_unread e.1.mark) (e ∷ xs) xs) (rest g)

module _ (w : World) (p : Plain) (same : Alike w p) (unique : ℕ) (ask : Ask) (there : get p.asks unique ≡ Some ask)
    (noted : ask.noted ≡ true) (r : QueuedRequest Purpose) (under : request_under w.kernel.queues unique ≡ Some r) where
  abbrev q0 : QueueState Purpose
  q0 = w.kernel.queues

  bears_noted : (m : Mark) → is_live w.kernel.phase ≡ true → (u : ℕ) (request : QueuedRequest Purpose) (x : Ask)
      → request_under (with_mark q0 unique m) u ≡ Some request → get p.asks u ≡ Some x
      → is_signalled request.mark ≡ true → x.noted ≡ true
  bears_noted m live u request x at stands bears = elim (cases_eq u unique) [
    | inl e ↦
        let is_ask : ask ≡ x = cc (there, subst (λ (n : ℕ). get p.asks n ≡ Some x) e stands) in
        subst (λ (a : Ask). a.noted ≡ true) is_ask noted
    | inr ne ↦ (same.asks live).signalled u request x
        (sym (request_under-mark_other q0 u unique m (other_is u unique ne)) ∙ at) stands bears
  ]

  re_asked : (m : Mark) (e : ℕ × QueuedRequest Purpose) → e.0 ≡ unique → PurposeAsked w p e
      → PurposeAsked w p (e.0, record { mark = m; kept = e.1.kept })
  re_asked m e here asked = match_more (body_of w.kernel e.1.kept)
      (λ body h.
      let old = subst (λ (n : ℕ). RequestBodyAsked p.asks n (is_signalled e.1.mark) false (NodeDenotesIn w)
      (OpenDenotesIn w) body) here h in
      subst (λ (n : ℕ). RequestBodyAsked p.asks n (is_signalled m) false (NodeDenotesIn w) (OpenDenotesIn w) body) (sym here)
      (with_signal body (is_signalled e.1.mark) (is_signalled m) old)) asked
    where
      with_signal : (body : RequestBody) (a b : Bool) → RequestBodyAsked p.asks unique a false (NodeDenotesIn w)
          (OpenDenotesIn w) body → RequestBodyAsked p.asks unique b false (NodeDenotesIn w) (OpenDenotesIn w) body
      with_signal (asks operation) a b h =
          let is_ask : ask ≡ h.ask = cc (there, h.there) in
          let waits = h.is_waiting in
          record {
            ask = h.ask;
            there = h.there;
            is_waiting =
                record {
                  stage = waits.stage;
                  noted = λ _. subst (λ (x : Ask). x.noted ≡ true) is_ask noted;
                  marked_too = waits.marked_too;
                };
            same = h.same;
          }
      with_signal (init flags) a b h = h
      with_signal (release o) a b h = h
      with_signal (forget f) a b h = h
      with_signal (batch_forget fs) a b h = h
      with_signal (interrupt original) a b h = h

  -- An unread request is flagged.
  pub flagged_alike : is_unread r.mark ≡ true → Alike
      (record w { kernel = record w.kernel { queues = with_mark q0 unique Flagged } }) p
  flagged_alike unread =
      queues_alike w p same (with_mark q0 unique Flagged) w.requests
      (record {
        pending = All-flagged (PurposeAsked w p) unique Flagged q0.requests r under unread refl
            (λ e here h. re_asked Flagged e here h) same.requests.pending;
        same_request = λ call. find_marked call unique q0.requests Flagged;
        signalled = λ live u request x at stands bears. bears_noted Flagged live u request x at stands bears;
      }) same.requests.sent

  -- A read request is interrupted, and its INTERRUPT queued.
  pub interrupted_alike : is_unread r.mark ≡ false
      → Alike (record w {
        kernel = record w.kernel {
          queues =
              with_interrupt (with_mark q0 unique Interrupted) unique;
        };
      }) p
  interrupted_alike read =
      queues_alike w p same (with_interrupt (with_mark q0 unique Interrupted) unique) w.requests
      (record {
        pending = subst (All (PurposeAsked w p))
            (sym (pending_marked unique Interrupted q0.requests r under read refl)) same.requests.pending;
        same_request = λ call. find_marked call unique q0.requests Interrupted;
        signalled = λ live u request x at stands bears. bears_noted Interrupted live u request x at stands bears;
      }) same.requests.sent
