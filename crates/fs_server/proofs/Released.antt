-- A RELEASE is done at once: it is taken and performed, and the copy of its reply settled.
use Rattle.std.proofs.Common.{◌≡◌, ◌⊎◌, ℕ, ◌+◌, ◌≤◌, ◌<◌, ◌^◌, Bool, true, false, true≢false, ◌&&◌, cond, List, [], ◌∷◌, Option, Some, None, is_some, nat_eq, refl, sym, ap, subst, ◌∙◌, arith, inl, inr}
use Rattle.fuse_spec.specs.declared.Entry.{Entry}
use Rattle.fuse_spec.specs.declared.Minor.{Minor}
use Rattle.fuse_spec.specs.declared.Opened.{Opened}
use Rattle.fuse_spec.specs.declared.Validity.{Validity}
use Rattle.fuse_spec.specs.declared.WriteResult.{WriteResult}
use Rattle.fuse_spec.specs.declared.WriteResult.TheVariants.{Accepted, NoEntry, Invalid}
use Rattle.fuse_spec.specs.Values.Maps.{Map, get, put, remove}
use Rattle.fuse_spec.specs.Values.Numbers.{ebadf, eio}
use Rattle.fuse_spec.specs.Files.Operations.{Reply, done, errno_of, failed}
use Rattle.fuse_spec.specs.Files.Trees.{Tree}
use Rattle.fuse_spec.specs.Kernel.Messages.{RequestBody, WireReply, release}
use Rattle.fuse_spec.specs.Server.Copies.{after_result, kept_after, settled}
use Rattle.fuse_spec.specs.Server.Nodes.{HandleTable, HeldNode, MayChoose, NodeTable, count_overflows, file_of, handle_back, is_open, is_row_of, row_of}
use Rattle.fuse_spec.specs.Server.Performs.{PerformResult, files_given, is_still_held, performed, performing, refusing, replying, served}
use Rattle.fuse_spec.specs.Server.Server.{Copy, HeldRequest, Kept, Server, generation_in, is_file_held, is_known, without_unheld_files}
use Rattle.fuse_spec.proofs.Tables.{get_put_here}
use Rattle.fs_tree.specs.Outcomes.{without_unheld}
use Rattle.fs_files.specs.Bounds.{AreHeldBelow, AreNamed, AreUsed}
use Rattle.fs_files.specs.Performing.{body_reply, handles_by}
use Rattle.fs_files.specs.Values.{FilesState, server_of}
use Rattle.fs_files.proofs.Giving.{none_out}
use Rattle.fs_server.specs.Effects.{PerformsHeld, Settles, first_copy, request_fault}
use Rattle.fs_server.specs.Releasing.{RefusesRelease, Releases, SettlesAnyhow, bare_reply, no_number}
use Rattle.fs_server.specs.declared.server.ServerFault.TheVariants as fault
use Rattle.fs_server.specs.Sound.{IsSoundServer}
use Rattle.fs_server.specs.Values.{server_with}
use Rattle.fs_server.proofs.DiscardsUnheld.{discards_none}
use Rattle.fs_server.proofs.PutUndone.{put_undone, same_number}
use Rattle.fs_server.proofs.Served.{no_copy, whole}
use Rattle.fs_server.proofs.Sound.{used_said}

-- what is held for a RELEASE whose node has these generations
abbrev asking : Opened → List (ℕ × ℕ) → HeldRequest
asking o generations = record { body = release o; generations = generations; marked = false }

-- the one node that a RELEASE names
pub known_one : (t : NodeTable) (id : ℕ) → (is_known t id && true) ≡ true → is_known t id ≡ true
known_one t id known = by (is_known t id) known
  where
    by : (b : Bool) → (b && true) ≡ true → b ≡ true
    by true is = refl
    by false is = is

-- a node that is known is held as it is named now
still_held : (t : NodeTable) (id : ℕ) → is_known t id ≡ true
    → is_still_held t ((id, generation_in (row_of t id)) ∷ []) ≡ true
still_held t id known = by (row_of t id) known
  where
    by : (r : Option HeldNode) → is_some r ≡ true → (is_row_of (generation_in r) r && true) ≡ true
    by None is = absurd (true≢false (sym is))
    by (Some row) is = rw (same_number row.generation) refl

-- the reply says whether the file handle was there
abbrev said : Bool → WireReply
said b = cond b done (failed ebadf)

performs_release : (choice : ℕ → ℕ) (s : Server) (o : Opened) (generations : List (ℕ × ℕ))
    → is_still_held s.nodes generations ≡ true
    → performed choice s (asking o generations) ≡ record {
      server = record s { handles = handles_by s (release o) };
      wire = said (is_open s.handles o.fh (file_of s.nodes o.nodeid));
    }
performs_release choice s o generations held =
    ap (λ (b : Bool). cond b (performing choice s (release o)) (refusing s eio)) held
    ∙ by (is_open s.handles o.fh (file_of s.nodes o.nodeid))
  where
    by : (b : Bool) → ◌≡◌ {A = PerformResult} (cond b (record {
      server = record s { handles = handle_back s.handles o.fh };
      wire = done;
    }) (refusing s ebadf)) (record {
      server = record s { handles = cond b (handle_back s.handles o.fh) s.handles };
      wire = said b;
    })
    by true = refl
    by false = refl

-- its error
pub errno_bare : (b : Bool) (errno : ℕ) → errno ≡ errno_of {F = ℕ} {O = ℕ} (cond b done (failed ebadf))
    → (bare_reply errno ≡ said b) × (errno ≡ errno_of (said b)) × ((errno ≡ 0) ⊎ (errno ≡ ebadf))
errno_bare true errno is = (ap bare_reply is, is, inl is)
errno_bare false errno is = (ap bare_reply is, is, inr is)

cond_same : {X : Type 0} (b : Bool) (x : X) → cond b x x ≡ x
cond_same true x = refl
cond_same false x = refl

-- what it makes of the server's parts
module _ (files mid three : FilesState) (held : Map HeldRequest) (kept : Map Kept) (copies : Map Copy) (next : ℕ)
    (v : Validity) (m : Minor) (u : ℕ) (o : Opened) (sound : IsSoundServer files held kept copies next v)
    (tree : mid.tree ≡ files.tree) (nodes : mid.nodes ≡ files.nodes)
    (handles : mid.handles ≡ handles_by (server_of files v) (release o))
    (tree_left : three.tree ≡ without_unheld (is_file_held (server_of mid v)) mid.tree)
    (nodes_left : three.nodes ≡ mid.nodes) (handles_left : three.handles ≡ mid.handles)
    (named : AreNamed three.tree three.nodes three.handles) where
  -- ---- the server stays sound

  below : AreHeldBelow three.nodes
  below = subst AreHeldBelow (sym (nodes_left ∙ nodes)) sound.below

  used : AreUsed next three.handles
  used = subst (AreUsed next) (sym (handles_left ∙ handles))
      (used_said next (server_of files v) (asking o []) sound.used)

  pub stays_lost : IsSoundServer three held kept copies next v
  stays_lost = record {
    requests = sound.requests;
    below = below;
    used = used;
    named = named;
    numbers = sound.numbers;
    found_day = sound.found_day;
    missing_day = sound.missing_day;
  }

  pub stays_live : next < 2 ^ 62 → IsSoundServer three held kept copies (next + 1) v
  stays_live low = record {
    requests = record {
      apart = (let r = sound.requests in r.apart);
      copies_below = λ n le. let r = sound.requests in r.copies_below n (omega (arith, le));
    };
    below = below;
    used = λ fh h is. let few = used fh h is in omega (arith, few);
    named = named;
    numbers = omega (arith, low);
    found_day = sound.found_day;
    missing_day = sound.missing_day;
  }

  -- ---- it is taken and performed

  module _ (known : is_known files.nodes o.nodeid ≡ true) (unheld : get held u ≡ None) where
    abbrev h : HeldRequest
    h = asking o ((o.nodeid, generation_in (row_of files.nodes o.nodeid)) ∷ [])

    abbrev taken : Bool → Server
    taken a = server_with files (put held u h) kept copies next v m a

    abbrev less : Bool → Server
    less a = server_with files (remove (put held u h) u) kept copies next v m a

    abbrev is_there : Bool
    is_there = is_open files.handles o.fh (file_of files.nodes o.nodeid)

    abbrev did : Bool → PerformResult
    did a = served (λ n. n) (taken a) u h

    no_files : (a : Bool) → files_given (taken a) h ≡ []
    no_files a = cond_same _ []

    abbrev now : Bool → Tree → NodeTable → HandleTable → Map HeldRequest → PerformResult
    now a t n hs waiting = record { server = whole t n hs waiting kept copies next v m a; wire = said is_there }

    does : (a : Bool) → performed (λ n. n) (less a) h ≡ now a mid.tree mid.nodes mid.handles held
    does a =
        performs_release (λ n. n) (less a) o ((o.nodeid, generation_in (row_of files.nodes o.nodeid)) ∷ [])
        (still_held files.nodes o.nodeid known)
        ∙ (λ i. now a (sym tree i) (sym nodes i) (sym handles i) (put_undone held u h unheld i))

    wire_is : (a : Bool) → (did a).wire ≡ said is_there
    wire_is a = ap (λ (r : PerformResult). r.wire) (does a)

    module _ (errno : ℕ) (says : errno ≡ errno_of (body_reply (server_of files v) (release o))) where
      pub performs_taken : (a : Bool)
          → PerformsHeld (taken a) u errno (first_copy a next u (bare_reply errno)) (did a).server
      performs_taken a =
          let said_so = errno_bare is_there errno says in
          record {
            held = h;
            there = get_put_here held u h;
            counts = ap (count_overflows files.nodes) (no_files a)
                ∙ none_out files.nodes [] (let n = sound.named in n.rows) sound.below tt;
            choice = λ n. n;
            may = subst (MayChoose (λ n. n) files.nodes) (sym (no_files a)) tt;
            server_is = refl;
            copy_is = ap (first_copy a next u) (said_so.0 ∙ sym (wire_is a));
            errno_is = said_so.1 ∙ ap errno_of (sym (wire_is a));
          }

    -- ---- and settled

    abbrev copy : Copy
    copy = record { unique = u; wire = said is_there; first = next }

    abbrev keeping : Kept
    keeping = record { wire = said is_there; first = next }

    -- the server once it is performed
    abbrev after : Bool → Map Kept → Map Copy → ℕ → Server
    after a k c n = server_with three held k c n v m a

    ends : (a : Bool) → (did a).server ≡ after a (cond a kept (put kept u keeping))
        (cond a copies (put copies next copy)) (cond a next (next + 1))
    ends a =
        ap (λ (r : PerformResult). replying (without_unheld_files r.server) u r.wire) (does a)
        ∙ (λ i. server_with (record three {
          tree = sym tree_left i;
          nodes = sym nodes_left i;
          handles = sym handles_left i;
        }) held (cond a kept (put kept u keeping)) (cond a copies (put copies next copy)) (cond a next (next + 1)) v m a)

    -- nothing is given back of a reply that names nothing
    nothing_back : (b : Bool) (s : Server) → s ≡ without_unheld_files s → (result : WriteResult)
        → after_result s (said b) result ≡ s
    nothing_back b s clean Accepted = refl
    nothing_back true s clean NoEntry = sym clean
    nothing_back false s clean NoEntry = sym clean
    nothing_back true s clean Invalid = sym clean
    nothing_back false s clean Invalid = sym clean

    module _ (unkept : get kept u ≡ None) where
      unsent : get copies next ≡ None
      unsent = let r = sound.requests in r.copies_below next (omega arith)

      clean : after false kept copies (next + 1) ≡ without_unheld_files (after false kept copies (next + 1))
      clean = let none = discards_none three named in
          λ i. server_with (record three { tree = none.tree v i }) held kept copies (next + 1) v m false

      unkept_again : cond (nat_eq next next) (remove (put kept u keeping) u) (put kept u keeping) ≡ kept
      unkept_again = ap (λ (b : Bool). cond b (remove (put kept u keeping) u) (put kept u keeping)) (same_number next)
          ∙ put_undone kept u keeping unkept

      settles_live : (result : WriteResult) → Settles
          (after false (put kept u keeping) (put copies next copy) (next + 1)) next result
          (after false kept copies (next + 1))
      settles_live result = record {
        copy = copy;
        there = get_put_here copies next copy;
        after = sym (settled_is ∙ nothing_back is_there (after false kept copies (next + 1)) clean result);
      }
        where
          settled_is : settled (after false (put kept u keeping) (put copies next copy) (next + 1)) next copy result
              ≡ after_result (after false kept copies (next + 1)) (said is_there) result
          settled_is =
              ap (λ (k : Option Kept). after_result (after false (kept_after (put kept u keeping) copy k)
              (remove (put copies next copy) next) (next + 1)) (said is_there) result) (get_put_here kept u keeping)
              ∙ (λ i. after_result (after false (unkept_again i) (put_undone copies next copy unsent i) (next + 1))
              (said is_there) result)

      pub settles_taken : (a : Bool) (errno : ℕ) → SettlesAnyhow (did a).server
          (first_copy a next u (bare_reply errno)) (after a kept copies (cond a next (next + 1)))
      settles_taken true errno = sym (ends true)
      settles_taken false errno = λ result.
          subst (λ (s : Server). Settles s next result (after false kept copies (next + 1))) (sym (ends false))
          (settles_live result)

      abbrev old : Bool → Server
      old a = server_with files held kept copies next v m a

      -- All of it is one RELEASE.
      pub releases : (a : Bool) (errno : ℕ) → errno ≡ errno_of (body_reply (server_of files v) (release o))
          → request_fault (old a) u (Some (release o)) ≡ None
          → Releases (old a) u o errno (after a kept copies (cond a next (next + 1)))
      releases a errno says faultless = record {
        faultless = faultless;
        did = (did a).server;
        performs = performs_taken errno says a;
        settles = settles_taken a errno;
      }

-- ---- no copy number is left

pub refuses_release : (files : FilesState) (held : Map HeldRequest) (kept : Map Kept) (copies : Map Copy) (next : ℕ)
    (v : Validity) (m : Minor) (u : ℕ) (o : Opened) → 2 ^ 62 ≤ next
    → request_fault (server_with files held kept copies next v m false) u (Some (release o)) ≡ None
    → RefusesRelease (server_with files held kept copies next v m false) u o fault.Exhausted
refuses_release files held kept copies next v m u o over faultless =
    let h = asking o ((o.nodeid, generation_in (row_of files.nodes o.nodeid)) ∷ []) in
    no_number faultless (no_copy files (put held u h) kept copies next v m u h (get_put_here held u h) over)
