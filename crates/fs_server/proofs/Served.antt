-- A held request is performed.
use Rattle.std.proofs.Common.{◌≡◌, ℕ, ◌+◌, ◌≤◌, ◌<◌, ◌^◌, Bool, true, false, true≢false, cond, ◌||◌, List, [], ◌∷◌, T, Some, None, length, refl, sym, ap, subst, ◌∙◌, arith, inl, inr}
use Rattle.std.specs.Prelude.{nat_lt, ◌⊎◌}
use Rattle.std.specs.FinMap.{is_sorted}
use Rattle.std.specs.Ordering.{nat_cmp}
use Rattle.std.proofs.lemmas.Bool.{lt-ltb}
use Rattle.std.proofs.lemmas.Option.{same_Some}
use Rattle.fuse_spec.specs.declared.Minor.{Minor}
use Rattle.fuse_spec.specs.Values.Maps.{Map, get, put, remove}
use Rattle.fuse_spec.specs.Values.Numbers.{counter_end}
use Rattle.fuse_spec.specs.Files.Operations.{Reply, files_in_reply, opens_in_reply, errno_of}
use Rattle.fuse_spec.specs.declared.Validity.{Validity}
use Rattle.fuse_spec.specs.declared.Refusal.TheVariants.{Exhausted}
use Rattle.fuse_spec.specs.Kernel.Messages.{RequestBody, init, asks, release, forget, batch_forget, interrupt, WireReply}
use Rattle.fuse_spec.specs.Server.Nodes.{NodeTable, HandleTable, all_given, all_opened, count_overflows, handle_opened, handle_back, given, MayChoose, is_open, file_of}
use Rattle.fuse_spec.specs.Files.Trees.{Tree}
use Rattle.fuse_spec.specs.Server.Performs.{PerformResult, files_given, performed, served, replying, wire_of, is_still_held}
use Rattle.fuse_spec.specs.Server.Server.{Server, HeldRequest, Kept, Copy, without_unheld_files, is_file_held}
use Rattle.fuse_spec.specs.World.Worlds.{Sent}
use Rattle.fs_tree.specs.Outcomes.{without_unheld}
use Rattle.fs_files.specs.Bounds.{AreHeldBelow}
use Rattle.fs_files.specs.Giving.{generations_after}
use Rattle.fs_files.specs.Performing.{said, tree_said, handles_said, handles_by, numbering}
use Rattle.fs_files.specs.Plans.{LacksNumber, HasNumbers}
use Rattle.fs_files.specs.Replies.{SentReply, sent_wire}
use Rattle.fs_files.specs.Numbering.{GivesNumbers}
use Rattle.fs_files.specs.Values.{FilesState, server_at, server_of}
use Rattle.fs_files.proofs.Giving.{generations_given, none_out, sorted_given}
use Rattle.fs_files.proofs.Performed.{performed_is, performed_lost, files_are, no_files, same_said, same_tree, same_handles}
use Rattle.fs_server.specs.Values.{server_with}
use Rattle.fs_server.specs.Steps.{CanPerform}
use Rattle.fuse_spec.specs.Server.Refusals.{is_server_past_end}
use Rattle.fs_server.specs.Effects.{PerformsHeld, RefusesHeld, exhausted}
use Rattle.fs_server.proofs.Refused.{counted_too_often}

-- a server by its parts
abbrev pub whole : Tree → NodeTable → HandleTable → Map HeldRequest → Map Kept → Map Copy → ℕ → Validity → Minor → Bool
    → Server
whole t n h held kept copies next v m a = record {
  tree = t;
  nodes = n;
  handles = h;
  held = held;
  kept = kept;
  copies = copies;
  next_copy = next;
  validity = v;
  minor = m;
  aborted = a;
}

-- files that only have more room are the same to requests
pub same_bare : (start files : FilesState) (v : Validity) (m : Minor) → start.tree ≡ files.tree
    → start.nodes ≡ files.nodes → start.handles ≡ files.handles → server_at m start v ≡ server_at m files v
same_bare start files v m tree nodes handles = λ i. whole (tree i) (nodes i) (handles i) [] [] [] 1 v m false

module _ (files : FilesState) (held : Map HeldRequest) (kept : Map Kept) (copies : Map Copy) (next : ℕ) (v : Validity)
    (m : Minor) (unique : ℕ) (h : HeldRequest) where
  abbrev b : Server
  b = server_at m files v

  -- the server before, and without the request
  abbrev old : Bool → Server
  old a = server_with files held kept copies next v m a

  abbrev rest : Bool → Server
  rest a = server_with files (remove held unique) kept copies next v m a

  -- ---- while the mount is not aborted

  abbrev numbered : (ℕ → ℕ) → Tree → HandleTable → Reply ℕ ℕ → PerformResult
  numbered choice t hs reply =
      numbering choice (whole t files.nodes hs (remove held unique) kept copies next v m false) reply

  did : (choice : ℕ → ℕ) → performed choice (rest false) h
      ≡ numbered choice (tree_said b h) (handles_said b h) (said b h)
  did choice =
      performed_is choice (rest false) refl h
      ∙ (λ i. numbered choice (same_tree b (remove held unique) kept copies next false h i)
      (same_handles b (remove held unique) kept copies next false h i)
      (same_said b (remove held unique) kept copies next false h i))

  did_so : (choice : ℕ → ℕ) (t : Tree) (hs : HandleTable) (reply : Reply ℕ ℕ) → t ≡ tree_said b h
      → hs ≡ handles_said b h → reply ≡ said b h → performed choice (rest false) h ≡ numbered choice t hs reply
  did_so choice t hs reply tree handles says =
      did choice ∙ (λ i. numbered choice (sym tree i) (sym handles i) (sym says i))

  abbrev sent_as : WireReply → Copy
  sent_as wire = record { unique = unique; wire = wire; first = next }

  abbrev keeping : WireReply → Kept
  keeping wire = record { wire = wire; first = next }

  -- the server once the reply is sent
  abbrev after : FilesState → WireReply → Server
  after f wire = server_with f (remove held unique) (put kept unique (keeping wire)) (put copies next (sent_as wire))
      (next + 1) v m false

  module _ (there : get held unique ≡ Some h) where
    pub performs_live : {A : Type 0} (one two three : FilesState) (reply : Reply ℕ ℕ) (sent : SentReply A)
        (copy : Sent) (errno : ℕ)
        → count_overflows files.nodes (files_given (old false) h) ≡ false
        → one.tree ≡ tree_said b h → one.handles ≡ handles_said b h → one.nodes ≡ files.nodes → reply ≡ said b h
        → GivesNumbers one reply sent two
        → three.tree ≡ without_unheld (is_file_held (server_of two v)) two.tree → three.nodes ≡ two.nodes
        → three.handles ≡ two.handles
        → copy ≡ record { number = next; unique = unique; wire = sent_wire sent } → errno ≡ errno_of (sent_wire sent)
        → PerformsHeld (old false) unique errno (Some copy) (after three (sent_wire sent))
    performs_live one two three reply sent copy errno none tree handles nodes says gives left nodes_left handles_left copy_is errno_is = record {
      held = h;
      there = there;
      counts = none;
      choice = gives.choice;
      may = subst (MayChoose gives.choice files.nodes)
          (ap files_in_reply says ∙ ap files_in_reply (sym (same_said b held kept copies next false h)) ∙ sym
          (files_are (old false) h refl)) (subst (λ (n : NodeTable). MayChoose gives.choice n
          (files_in_reply reply)) nodes gives.may);
      server_is = (λ i. after (record three { tree = left i; nodes = nodes_left i; handles = handles_left i })
          (sent_wire sent)) ∙ sym (ap (λ (r : PerformResult). replying
          (without_unheld_files r.server) unique r.wire) same);
      copy_is = ap Some (copy_is ∙ ap (λ (r : PerformResult). record { number = next; unique = unique; wire = r.wire })
          (sym same));
      errno_is = errno_is ∙ ap (λ (r : PerformResult). errno_of r.wire) (sym same);
    }
      where
        choice : ℕ → ℕ
        choice = gives.choice

        now : Tree → NodeTable → HandleTable → WireReply → PerformResult
        now t n hs wire = record { server = whole t n hs (remove held unique) kept copies next v m false; wire = wire }

        given_now : all_given choice files.nodes (files_in_reply reply) ≡ two.nodes
        given_now = ap (λ (n : NodeTable). all_given choice n (files_in_reply reply)) (sym nodes) ∙ sym gives.nodes_is

        same : performed choice (rest false) h ≡ now two.tree two.nodes two.handles (sent_wire sent)
        same =
            did_so choice one.tree one.handles reply tree handles says
            ∙ (λ i. now one.tree (given_now i) (sym gives.handles_is i)
            (wire_of choice (given_now i) one.tree one.handles.next_fh reply))
            ∙ (λ i. now (sym gives.tree_is i) two.nodes two.handles (sym gives.wire_is i))

    -- the same from files that only have more room
    pub performs_from : {A : Type 0} (start one two three : FilesState) (reply : Reply ℕ ℕ) (sent : SentReply A)
        (copy : Sent) (errno : ℕ) → start.tree ≡ files.tree → start.nodes ≡ files.nodes → start.handles ≡ files.handles
        → count_overflows files.nodes (files_given (old false) h) ≡ false → one.tree ≡ tree_said (server_at m start v) h
        → one.handles ≡ handles_said (server_at m start v) h → one.nodes ≡ start.nodes
        → reply ≡ said (server_at m start v) h → GivesNumbers one reply sent two
        → three.tree ≡ without_unheld (is_file_held (server_of two v)) two.tree → three.nodes ≡ two.nodes
        → three.handles ≡ two.handles
        → copy ≡ record { number = next; unique = unique; wire = sent_wire sent } → errno ≡ errno_of (sent_wire sent)
        → PerformsHeld (old false) unique errno (Some copy) (after three (sent_wire sent))
    performs_from start one two three reply sent copy errno tree_start nodes_start handles_start none tree handles nodes says gives left nodes_left handles_left copy_is errno_is =
        let same : server_at m start v ≡ b = same_bare start files v m tree_start nodes_start handles_start in
        performs_live one two three reply sent copy errno none (tree ∙ ap (λ x. tree_said x h) same)
        (handles ∙ ap (λ x. handles_said x h) same) (nodes ∙ nodes_start)
        (says ∙ ap (λ x. said x h) same) gives left nodes_left handles_left copy_is errno_is

  -- ---- after an abort

  abbrev after_lost : FilesState → Server
  after_lost f = server_with f (remove held unique) kept copies next v m true

  module _ (there : get held unique ≡ Some h) where
    pub performs_lost : (one three : FilesState) (reply : Reply ℕ ℕ) (errno : ℕ)
        → count_overflows files.nodes (files_given (old true) h) ≡ false
        → one.tree ≡ tree_said b h → one.handles ≡ handles_said b h → one.nodes ≡ files.nodes → reply ≡ said b h
        → three.tree ≡ without_unheld (is_file_held (server_of one v)) one.tree → three.nodes ≡ one.nodes
        → three.handles ≡ one.handles
        → errno ≡ errno_of reply → PerformsHeld (old true) unique errno None (after_lost three)
    performs_lost one three reply errno none tree handles nodes says left nodes_left handles_left errno_is = record {
      held = h;
      there = there;
      counts = none;
      choice = λ n. n;
      may = subst (MayChoose (λ n. n) files.nodes) (sym (no_files (old true) h refl)) tt;
      server_is = (λ i. after_lost (record three {
        tree = left i;
        nodes = nodes_left i;
        handles = handles_left i;
      })) ∙ sym (ap (λ (s : Server). replying (without_unheld_files s) unique
          (performed (λ n. n) (rest true) h).wire) same);
      copy_is = refl;
      errno_is = errno_is ∙ ap errno_of (says ∙ sym (same_said b (remove held unique) kept copies next true h)) ∙ sym
          (performed_lost (λ n. n) (rest true) refl h).1;
    }
      where
        now : Tree → NodeTable → HandleTable → Server
        now t n hs = whole t n hs (remove held unique) kept copies next v m true

        same : (performed (λ n. n) (rest true) h).server ≡ now one.tree one.nodes one.handles
        same =
            (performed_lost (λ n. n) (rest true) refl h).0
            ∙ (λ i. now (same_tree b (remove held unique) kept copies next true h i) files.nodes
            (same_handles b (remove held unique) kept copies next true h i))
            ∙ (λ i. now (sym tree i) (sym nodes i) (sym handles i))

-- ---- counters at their end

any_past : (a b c d e : Bool) → (a ≡ true) ⊎ ((b ≡ true) ⊎ ((c ≡ true) ⊎ ((d ≡ true) ⊎ (e ≡ true))))
    → (a || b || c || d || e) ≡ true
any_past true b c d e h = refl
any_past false true c d e h = refl
any_past false false true d e h = refl
any_past false false false true e h = refl
any_past false false false false true h = refl
any_past false false false false false h = elim h [
  | inl x ↦ absurd (true≢false (sym x))
  | inr y ↦ elim y [
    | inl x ↦ absurd (true≢false (sym x))
    | inr z ↦ elim z [
      | inl x ↦ absurd
          (true≢false (sym x))
      | inr w ↦ elim w [
        | inl x ↦ absurd (true≢false (sym x))
        | inr x ↦ absurd
            (true≢false (sym x))
      ]
    ]
  ]
]

pub over : (n : ℕ) → 2 ^ 62 < n → nat_lt counter_end n ≡ true
over n lt = lt-ltb counter_end n (omega (arith, lt))

abbrev Past : Server → Type 0
Past s = (2 ^ 62 < s.tree.next_inode) ⊎ ((2 ^ 62 < s.tree.next_cookie)
    ⊎ ((2 ^ 62 < s.nodes.next_generation) ⊎ ((2 ^ 62 < s.handles.next_fh) ⊎ (2 ^ 62 < s.next_copy))))

pub past : (s : Server) → Past s → is_server_past_end s ≡ true
past s p =
    any_past (nat_lt counter_end s.tree.next_inode) (nat_lt counter_end s.tree.next_cookie)
    (nat_lt counter_end s.nodes.next_generation) (nat_lt counter_end s.handles.next_fh) (nat_lt counter_end s.next_copy)
    (elim p [
      | inl a ↦ inl (over s.tree.next_inode a)
      | inr q ↦ inr (elim q [
        | inl a ↦ inl (over s.tree.next_cookie a)
        | inr r ↦ inr (elim r [
          | inl a ↦ inl (over s.nodes.next_generation a)
          | inr t ↦ inr
              (elim t [ inl a ↦ inl (over s.handles.next_fh a) | inr a ↦ inr (over s.next_copy a) ])
        ])
      ])
    ])

-- the generation that is given next, once these files have nodes
pub all_generations : (choice : ℕ → ℕ) (t : NodeTable) (files : List ℕ) → T (is_sorted nat_cmp t.rows)
    → MayChoose choice t files → (all_given choice t files).next_generation ≡ generations_after t files
all_generations choice t [] rising may = omega arith
all_generations choice t (file ∷ files) rising may =
    all_generations choice (given t file (choice file)) files
    (sorted_given t file (choice file) rising) may.1 ∙ generations_given t file (choice file) files rising may.0

pub all_numbers : (t : HandleTable) (files : List ℕ) → (all_opened t files).next_fh ≡ t.next_fh + length files
all_numbers t [] = omega arith
all_numbers t (file ∷ files) = let rest = all_numbers (handle_opened t file) files in omega (arith, rest)

pub numbers_said : (s : Server) (h : HeldRequest) → (handles_said s h).next_fh ≡ s.handles.next_fh
numbers_said s h = by h.marked (is_still_held s.nodes h.generations)
  where
    of_body : (body : RequestBody) → (handles_by s body).next_fh ≡ s.handles.next_fh
    of_body (init flags) = refl
    of_body (asks operation) = refl
    of_body (release o) = released (is_open s.handles o.fh (file_of s.nodes o.nodeid))
      where
        released : (b : Bool) → (cond b (handle_back s.handles o.fh) s.handles).next_fh ≡ s.handles.next_fh
        released true = refl
        released false = refl
    of_body (forget f) = refl
    of_body (batch_forget fs) = refl
    of_body (interrupt original) = refl

    by : (m b : Bool) → (cond m s.handles (cond b (handles_by s h.body) s.handles)).next_fh ≡ s.handles.next_fh
    by true b = refl
    by false true = of_body h.body
    by false false = refl

module _ (files : FilesState) (held : Map HeldRequest) (kept : Map Kept) (copies : Map Copy) (next : ℕ) (v : Validity)
    (m : Minor) (unique : ℕ) (h : HeldRequest) (there : get held unique ≡ Some h) where
  abbrev pub bare : Server
  bare = server_at m files v

  -- the server once the request is performed
  abbrev pub end_live : (ℕ → ℕ) → Server
  end_live choice =
      replying (without_unheld_files (numbered files held kept copies next v m unique h choice (tree_said bare h)
      (handles_said bare h) (said bare h)).server) unique
      (numbered files held kept copies next v m unique h choice (tree_said bare h)
      (handles_said bare h) (said bare h)).wire

  abbrev pub end_lost : (ℕ → ℕ) → Server
  end_lost choice =
      replying (without_unheld_files (whole (tree_said bare h) files.nodes (handles_said bare h)
      (remove held unique) kept copies next v m true)) unique
      (performed choice (server_with files (remove held unique) kept copies next v m true) h).wire

  pub ends_live : (choice : ℕ → ℕ) → (served choice
      (server_with files held kept copies next v m false) unique h).server ≡ end_live choice
  ends_live choice = ap (λ (r : PerformResult). replying (without_unheld_files r.server) unique r.wire)
      (did files held kept copies next v m unique h choice)

  -- the files that get nodes
  pub files_listed : files_given (server_with files held kept copies next v m false) h ≡ files_in_reply (said bare h)
  files_listed = files_are (server_with files held kept copies next v m false) h refl ∙ ap files_in_reply
      (same_said bare held kept copies next false h)

  lacking_given : T (is_sorted nat_cmp files.nodes.rows)
      → (2 ^ 62 < generations_after files.nodes (files_in_reply (said bare h)))
      ⊎ ((count_overflows files.nodes (files_in_reply (said bare h)) ≡ true)
      ⊎ (2 ^ 62 < files.handles.next_fh + length (opens_in_reply (said bare h))))
      → RefusesHeld (server_with files held kept copies next v m false) unique Exhausted
  lacking_given rising lacks = elim lacks [
    | inl generations ↦ exhausted h there (λ choice may.
        let all = all_generations choice files.nodes (files_in_reply (said bare h)) rising
        (subst (MayChoose choice files.nodes) files_listed may) in
        ap is_server_past_end (ends_live choice) ∙ past (end_live choice) (inr (inr (inl (omega (arith, all, generations))))))
    | inr other ↦ elim other [
      | inl out ↦ counted_too_often _ _ h there (ap (count_overflows files.nodes) files_listed ∙ out)
      | inr numbers ↦ exhausted h there (λ choice may.
          let all = all_numbers (handles_said bare h) (opens_in_reply (said bare h)) in
          let start = numbers_said bare h in
          ap is_server_past_end (ends_live choice) ∙ past (end_live choice)
          (inr (inr (inr (inl (omega (arith, all, start, numbers)))))))
    ]
  ]

  lacking_live : T (is_sorted nat_cmp files.nodes.rows)
      → LacksNumber (tree_said bare h) files.nodes files.handles false (said bare h)
      → RefusesHeld (server_with files held kept copies next v m false) unique Exhausted
  lacking_live rising lacks = elim lacks [
    | inl inodes ↦ exhausted h there (λ choice may. ap is_server_past_end (ends_live choice) ∙ past (end_live choice)
        (inl inodes))
    | inr other ↦ elim other [
      | inl cookies ↦ exhausted h there (λ choice may. ap is_server_past_end (ends_live choice) ∙ past (end_live choice)
          (inr (inl cookies)))
      | inr numbered ↦ lacking_given rising numbered.1
    ]
  ]

  pub no_copy : 2 ^ 62 ≤ next → RefusesHeld (server_with files held kept copies next v m false) unique Exhausted
  no_copy le = exhausted h there (λ choice may. ap is_server_past_end (ends_live choice) ∙ past (end_live choice)
      (inr (inr (inr (inr (omega (arith, le)))))))

  pub lost_is : (choice : ℕ → ℕ) → (performed choice
      (server_with files (remove held unique) kept copies next v m true) h).server
      ≡ whole (tree_said bare h) files.nodes (handles_said bare h) (remove held unique) kept copies next v m true
  lost_is choice =
      (performed_lost choice (server_with files (remove held unique) kept copies next v m true) refl h).0
      ∙ (λ i. whole (same_tree bare (remove held unique) kept copies next true h i) files.nodes
      (same_handles bare (remove held unique) kept copies next true h i) (remove held unique) kept copies next v m true)

  pub lacking_lost : LacksNumber (tree_said bare h) files.nodes files.handles true (said bare h)
      → RefusesHeld (server_with files held kept copies next v m true) unique Exhausted
  lacking_lost lacks = exhausted h there (λ choice may.
      ap (λ (s : Server). is_server_past_end (replying (without_unheld_files s) unique
      (performed choice (server_with files (remove held unique) kept copies next v m true) h).wire))
      (lost_is choice)
      ∙ past (end_lost choice) (elim lacks [
        | inl inodes ↦ inl inodes
        | inr q ↦ elim q [
          | inl cookies ↦ inr
              (inl cookies)
          | inr r ↦ absurd (true≢false r.0)
        ]
      ]))

  pub lacking : (a : Bool) → T (is_sorted nat_cmp files.nodes.rows)
      → LacksNumber (tree_said bare h) files.nodes files.handles a (said bare h)
      → RefusesHeld (server_with files held kept copies next v m a) unique Exhausted
  lacking true rising lacks = lacking_lost lacks
  lacking false rising lacks = lacking_live rising lacks

  -- no node's lookups come to their end
  counts_given : (a : Bool) → T (is_sorted nat_cmp files.nodes.rows) → AreHeldBelow files.nodes
      → HasNumbers (tree_said bare h) files.nodes files.handles a (said bare h)
      → count_overflows files.nodes (files_given (server_with files held kept copies next v m a) h) ≡ false
  counts_given true rising below has = ap (count_overflows files.nodes)
      (no_files (server_with files held kept copies next v m true) h refl) ∙ none_out files.nodes [] rising below tt
  counts_given false rising below has = ap (count_overflows files.nodes) files_listed ∙ has.counts refl

  -- what the server says of a request is what its files say
  pub can : (a : Bool) → T (is_sorted nat_cmp files.nodes.rows) → AreHeldBelow files.nodes
      → (a ≡ false → next < 2 ^ 62) → HasNumbers (tree_said bare h) files.nodes files.handles a (said bare h)
      → CanPerform (server_with files held kept copies next v m a) unique
  can a rising below copy has = record {
    held = h;
    there = there;
    rising = rising;
    counts = counts_given a rising below has;
    copy = copy;
    numbers = subst (λ (t : Tree). HasNumbers t files.nodes files.handles a
        (said (server_with files held kept copies next v m a) h)) (sym (same_tree bare held kept copies next a h))
        (subst (λ (r : Reply ℕ ℕ). HasNumbers (tree_said bare h) files.nodes files.handles a r)
        (sym (same_said bare held kept copies next a h)) has);
  }

  pub numbers_of : (a : Bool) → CanPerform (server_with files held kept copies next v m a) unique
      → HasNumbers (tree_said bare h) files.nodes files.handles a (said bare h)
  numbers_of a c =
      subst (λ (t : Tree). HasNumbers t files.nodes files.handles a (said bare h))
      (same_tree bare held kept copies next a h)
      (subst (λ (r : Reply ℕ ℕ). HasNumbers (tree_said
      (server_with files held kept copies next v m a) h) files.nodes files.handles a r)
      (same_said bare held kept copies next a h)
      (subst (λ (x : HeldRequest). HasNumbers (tree_said
      (server_with files held kept copies next v m a) x) files.nodes files.handles a
      (said (server_with files held kept copies next v m a) x))
      (same_Some c.held h (sym c.there ∙ there)) c.numbers))

  pub counts_of : (a : Bool) → CanPerform (server_with files held kept copies next v m a) unique
      → count_overflows files.nodes (files_given (server_with files held kept copies next v m a) h) ≡ false
  counts_of a c = subst (λ (x : HeldRequest). count_overflows files.nodes
      (files_given (server_with files held kept copies next v m a) x) ≡ false)
      (same_Some c.held h (sym c.there ∙ there)) c.counts

  -- the files that are given nodes can be
  module _ (start one : FilesState) (reply : Reply ℕ ℕ) (tree_start : start.tree ≡ files.tree)
      (nodes_start : start.nodes ≡ files.nodes) (handles_start : start.handles ≡ files.handles)
      (nodes : one.nodes ≡ start.nodes)
      (says : reply ≡ said (server_at m start v) h) (has : HasNumbers
      (tree_said bare h) files.nodes files.handles false (said bare h)) where
    same_start : server_at m start v ≡ bare
    same_start = same_bare start files v m tree_start nodes_start handles_start

    same_reply : said bare h ≡ reply
    same_reply = sym (says ∙ ap (λ x. said x h) same_start)

    pub live_generations : generations_after one.nodes (files_in_reply reply) ≤ 2 ^ 62
    live_generations = subst (λ (r : Reply ℕ ℕ). generations_after one.nodes (files_in_reply r) ≤ 2 ^ 62) same_reply
        (subst (λ (t : NodeTable). generations_after t (files_in_reply (said bare h)) ≤ 2 ^ 62)
        (sym (nodes ∙ nodes_start)) (has.generations refl))

    pub live_counts : count_overflows files.nodes (files_in_reply reply) ≡ false
    live_counts = subst (λ (r : Reply ℕ ℕ). count_overflows files.nodes (files_in_reply r) ≡ false) same_reply
        (has.counts refl)

    pub live_numbers : one.handles ≡ handles_said (server_at m start v) h
        → one.handles.next_fh + length (opens_in_reply reply) ≤ 2 ^ 62
    live_numbers handles =
        let fh : one.handles.next_fh ≡ files.handles.next_fh =
        ap (λ (t : HandleTable). t.next_fh) (handles ∙ ap
        (λ x. handles_said x h) same_start) ∙ numbers_said bare h in
        let most = has.numbers refl in
        let len : length (opens_in_reply (said bare h)) ≡ length (opens_in_reply reply) =
        ap (λ (x : Reply ℕ ℕ). length (opens_in_reply x)) same_reply in
        omega (arith, fh, most, len)
