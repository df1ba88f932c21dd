-- The tables of nodes change, and what was denoted by them is denoted still: all stays alike.
use Rattle.fuse_theorem.proofs.Refining.Pairs.{pairs_more}
use Rattle.std.proofs.Common.{◌≡◌, ℕ, Bool, true, false, List, [], Option, Some, None, get_or, refl, subst, All}
use Rattle.std.specs.Prelude.{Contains}
use Rattle.fuse_spec.specs.declared.Dentry.{Dentry}
use Rattle.fuse_spec.specs.declared.Counted.{Counted}
use Rattle.fuse_spec.specs.declared.Entry.{Entry}
use Rattle.fuse_spec.specs.declared.Opened.{Opened}
use Rattle.fuse_spec.specs.Values.Maps.{Map, get, get_name}
use Rattle.fuse_spec.specs.Files.Operations.{Operation, Reply, found, missing, created, opened, attributes, listed, listed_plus, content, written, agreed, done, failed, files_in_reply, opens_in_reply, OptionAlike, OperationAlike, ReplyAlike}
use Rattle.fuse_spec.specs.Calls.Walks.{WalkPlan, last}
use Rattle.fuse_spec.specs.Calls.Walks as walks
use Rattle.fuse_spec.specs.Files.Trees.{Tree}
use Rattle.fuse_spec.specs.Calls.Vfs.{CallState, walking, doing, using, asked, Vfs}
use Rattle.fuse_spec.specs.Kernel.Queues.{pending, is_signalled}
use Rattle.fuse_spec.specs.Claim.Counts.{opens_of_body}
use Rattle.fuse_spec.specs.Kernel.Kernel.{is_live, body_of}
use Rattle.fuse_spec.specs.Server.Server.{HeldRequest, Kept, nodes_of_body}
use Rattle.fuse_spec.specs.World.Worlds.{World, Sent}
use Rattle.fuse_spec.specs.Kernel.Messages.{RequestBody, init, asks, release, forget, batch_forget, interrupt, WireReply}
use Rattle.fuse_spec.specs.Reference.Plain.{Plain, Ask, Stage, waiting, performed, declined}
use Rattle.fuse_spec.specs.Server.Nodes.{NodeTable, HandleTable, is_open}
use Rattle.fuse_spec.specs.Claim.Denotes.{WalkPlanAlike, StateAlike, DentryAlike, Names, Opens, Denotes, generation_known, NodeDenotes, OpenDenotes, NodeDenotesIn, OpenDenotesIn}
use Rattle.fuse_spec.specs.Claim.Alike.{TreeAlike, VfsAlike, RequestBodyAsked, StillDenotes, OpenStillDenotes, IsStageReplied, Alike}
use Rattle.fuse_theorem.specs.Numbering.{IsOneToOne}
use Rattle.fuse_theorem.proofs.Refining.Asking.{match_more}
use Rattle.fuse_theorem.proofs.Calls.Meaning.{operation_more, final_within, first_of}

-- ---- what is alike under R and S is alike under what they imply

pub option_more : {X Y : Type 0} (R R' : X → Y → Type 0) → ((x : X) (y : Y) → R x y → R' x y)
    → (a : Option X) (b : Option Y) → OptionAlike R a b → OptionAlike R' a b
option_more R R' f None None h = h
option_more R R' f (Some x) (Some y) h = f x y h
option_more R R' f None (Some y) h = absurd h
option_more R R' f (Some x) None h = absurd h

module _ (R R' : ℕ → ℕ → Type 0) (more : (id file : ℕ) → R id file → R' id file) where
  pub plan_more : (a b : WalkPlan ℕ) → WalkPlanAlike R a b → WalkPlanAlike R' a b
  plan_more (last a) (last b) h = final_within R R' a b (λ id file among r. more id file r) h
  plan_more (walks.rename old words new) (walks.rename old' words' new') h = h
  plan_more (walks.link words name) (walks.link words' name') h = h
  plan_more a b h = absurd h

  pub dentry_more : (a b : Dentry) → DentryAlike R a b → DentryAlike R' a b
  dentry_more a b h = (option_more R R' more a.target b.target h.0, h.1)

  module _ (S S' : Opened → ℕ → Type 0) (more_open : (o : Opened) (file : ℕ) → S o file → S' o file) where
    pub operation_all : (a : Operation ℕ Opened) (b : Operation ℕ ℕ) → OperationAlike R S a b → OperationAlike R' S' a b
    operation_all a b h = operation_more R R' S S' a b (λ id file among r. more id file r)
        (λ o file among named s. more_open o file s) h

    pub state_more : (a : CallState Opened) (b : CallState ℕ) → StateAlike R S a b → StateAlike R' S' a b
    state_more (walking d word words plan) (walking e word' words' plan') h =
        (more d e h.0, h.1, h.2, plan_more plan plan' h.3)
    state_more (doing a) (doing b) h = operation_all a b h
    state_more (using open_call a) (using open_call' b) h = (h.0, operation_all a b h.1)
    state_more (walking d word words plan) (doing b) h = absurd h
    state_more (walking d word words plan) (using open_call b) h = absurd h
    state_more (doing a) (walking e word' words' plan') h = absurd h
    state_more (doing a) (using open_call b) h = absurd h
    state_more (using open_call a) (walking e word' words' plan') h = absurd h
    state_more (using open_call a) (doing b) h = absurd h

    -- The system calls' sides stay alike. No name stands in a file that is new to R', as R' is one to one.
    pub vfs_more : IsOneToOne R' → (c : Vfs Opened) (d : Vfs ℕ) → VfsAlike R S c d → VfsAlike R' S' c d
    vfs_more one c d same = record {
      names = λ id file name r. by id file name r (get_name c.names (id, name))
          (get_name d.names (file, name)) refl refl;
      names_meant = λ id name there. let meant = same.names_meant id name there in (meant.0, more id meant.0 meant.1);
      names_reached = λ file name there. let reached =
          same.names_reached file name there in (reached.0, more reached.0 file reached.1);
      opens = λ open_call. option_more S S' more_open (get c.opens open_call) (get d.opens open_call) (same.opens open_call);
      calls = λ call. option_more (StateAlike R S) (StateAlike R' S') state_more (get c.calls call) (get d.calls call)
          (same.calls call);
      answers = same.answers;
      next_call = same.next_call;
      clock = same.clock;
      roots = more c.root d.root same.roots;
    }
      where
        bound : (id file : ℕ) (name : List ℕ) → R id file
            → OptionAlike (DentryAlike R') (get_name c.names (id, name)) (get_name d.names (file, name))
        bound id file name r = option_more (DentryAlike R) (DentryAlike R') dentry_more
            (get_name c.names (id, name)) (get_name d.names (file, name)) (same.names id file name r)

        by : (id file : ℕ) (name : List ℕ) → R' id file → (a b : Option Dentry) → get_name c.names (id, name) ≡ a
            → get_name d.names (file, name) ≡ b
            → OptionAlike (DentryAlike R') (get_name c.names (id, name)) (get_name d.names (file, name))
        by id file name r None None e f = rw (e, f) tt
        by id file name r (Some x) b e f =
            let meant = same.names_meant id name (λ none. absurd (cc (e, none))) in
            let same_file : meant.0 ≡ file = (one id id meant.0 file (more id meant.0 meant.1) r).0 refl in
            bound id file name (subst (λ (n : ℕ). R id n) same_file meant.1)
        by id file name r None (Some y) e f =
            let reached = same.names_reached file name (λ none. absurd (cc (f, none))) in
            let same_id : reached.0 ≡ id = (one reached.0 id file file (more reached.0 file reached.1) r).1 refl in
            bound id file name (subst (λ (n : ℕ). R n file) same_id reached.1)

-- what a reply says, where the nodes and file handles that it names denote the same files still
pub reply_more : (R R' : Entry → ℕ → Type 0) (S S' : ℕ → ℕ → Type 0) (a : WireReply) (b : Reply ℕ ℕ)
    → ((g : Entry) (file : ℕ) → Contains (files_in_reply a) g → R g file → R' g file)
    → ((fh file : ℕ) → Contains (opens_in_reply a) fh → S fh file → S' fh file) → ReplyAlike R S a b
    → ReplyAlike R' S' a b
reply_more R R' S S' (found g v) (found file v') f k h = (f g file (first_of g []) h.0, h.1)
reply_more R R' S S' (missing v) (missing v') f k h = h
reply_more R R' S S' (created g v fh) (created file v' o) f k h =
    (f g file (first_of g []) h.0, h.1, k fh o (first_of fh []) h.2)
reply_more R R' S S' (opened fh) (opened o) f k h = k fh o (first_of fh []) h
reply_more R R' S S' (attributes x) (attributes y) f k h = h
reply_more R R' S S' (listed xs) (listed ys) f k h = h
reply_more R R' S S' (listed_plus xs) (listed_plus ys) f k h = pairs_more R R' xs ys f h
reply_more R R' S S' (content xs) (content ys) f k h = h
reply_more R R' S S' (written n) (written m) f k h = h
reply_more R R' S S' (agreed x y c) (agreed z u d) f k h = h
reply_more R R' S S' done done f k h = h
reply_more R R' S S' (failed x) (failed y) f k h = h
reply_more R R' S S' a b f k h = absurd h

-- .. and what an ask came to
pub stage_more : (t t' : NodeTable) (h h' : HandleTable) (stage : Stage) (wire : WireReply)
    → ((g : Entry) (file : ℕ) → Contains (files_in_reply wire) g → Names t g file → Names t' g file)
    → ((fh file : ℕ) → Contains (opens_in_reply wire) fh → Opens h fh file → Opens h' fh file)
    → IsStageReplied t h stage wire → IsStageReplied t' h' stage wire
stage_more t t' h h' waiting wire f k reply_matches = absurd reply_matches
stage_more t t' h h' (performed reply) wire f k reply_matches =
    reply_more (Names t) (Names t') (Opens h) (Opens h') wire reply f k reply_matches
stage_more t t' h h' declined wire f k reply_matches = reply_matches

-- .. and what a request asks
pub body_more : (R R' : ℕ → ℕ → Type 0) (S S' : Opened → ℕ → Type 0) (all : Map Ask) (unique : ℕ)
    (signalled marked : Bool) (body : RequestBody) →
    ((id file : ℕ) → Contains (nodes_of_body body) id → R id file → R' id file)
    → ((o : Opened) (file : ℕ) → Contains (opens_of_body body) o → S o file → S' o file)
    → RequestBodyAsked all unique signalled marked R S body
    → RequestBodyAsked all unique signalled marked R' S' body
body_more R R' S S' all unique signalled marked (asks operation) f k h = record {
  ask = h.ask;
  there = h.there;
  is_waiting = h.is_waiting;
  same = operation_more R R' S S' operation h.ask.operation f (λ o file among named s. k o file named s) h.same;
}
body_more R R' S S' all unique signalled marked (init flags) f k h = h
body_more R R' S S' all unique signalled marked (release o) f k h = h
body_more R R' S S' all unique signalled marked (forget x) f k h = h
body_more R R' S S' all unique signalled marked (batch_forget fs) f k h = h
body_more R R' S S' all unique signalled marked (interrupt original) f k h = h

-- What the tables become, and what is still denoted by them.
pub record Carries (w : World) (p : Plain) (nodes : Map Counted) (t : NodeTable) (h : HandleTable) : Type 0 where
  pub means : (id file : ℕ) → NodeDenotesIn w id file → NodeDenotes nodes t id file
  pub opens : (o : Opened) (file : ℕ) → OpenDenotesIn w o file → OpenDenotes nodes t h o file
  pub one : IsOneToOne (NodeDenotes nodes t)
  pub held_nodes : (unique : ℕ) (x : HeldRequest) → get w.server.held unique ≡ Some x → (id file : ℕ)
      → Contains (nodes_of_body x.body) id → StillDenotes w.server.nodes x.generations id file → StillDenotes t x.generations id file
  pub held_opens : (unique : ℕ) (x : HeldRequest) → get w.server.held unique ≡ Some x → (o : Opened) (file : ℕ)
      → Contains (opens_of_body x.body) o → OpenStillDenotes w.server.nodes w.server.handles x.generations o file
      → OpenStillDenotes t h x.generations o file
  pub kept : is_live w.kernel.phase ≡ true → (unique : ℕ) (k : Kept) (ask : Ask) → get w.server.kept unique ≡ Some k
      → get p.asks unique ≡ Some ask → IsStageReplied w.server.nodes w.server.handles ask.stage k.wire
      → IsStageReplied t h ask.stage k.wire
  pub copies : is_live w.kernel.phase ≡ true → All
      (λ (s : Sent). (ask : Ask) → get p.asks s.unique ≡ Some ask
      → IsStageReplied w.server.nodes w.server.handles ask.stage s.wire → IsStageReplied t h ask.stage s.wire) w.replies

-- All stays alike.
pub replaced_tables_refine : (w : World) (p : Plain) → Alike w p
    → (nodes : Map Counted) (t : NodeTable) (h : HandleTable) (tree tree' : Tree) → Carries w p nodes t h
    → TreeAlike (record w.server { tree = tree; nodes = t; handles = h }) tree'
    → Alike (record w {
      kernel = record w.kernel { nodes = nodes };
      server = record w.server { tree = tree; nodes = t; handles = h };
    }) (record p { tree = tree' })
replaced_tables_refine w p same nodes t h tree tree' carries trees = record {
  tree = trees;
  vfs = vfs_more (NodeDenotesIn w) (NodeDenotes nodes t) carries.means (OpenDenotesIn w)
      (OpenDenotes nodes t h) carries.opens carries.one w.kernel.vfs p.vfs same.vfs;
  requests = record {
    pending = λ i e lt.
        let entry = get_or (pending w.kernel.queues) i e in
        match_more (body_of w.kernel entry.1.kept)
        (λ body asked. body_more (NodeDenotesIn w) (NodeDenotes nodes t) (OpenDenotesIn w) (OpenDenotes nodes t h) p.asks entry.0
        (is_signalled entry.1.mark) false body (λ id file among r. carries.means id file r)
        (λ o file among s. carries.opens o file s) asked)
        (same.requests.pending i e lt);
    sent = λ i r lt.
        let request = get_or w.requests i r in
        body_more (NodeDenotesIn w) (NodeDenotes nodes t) (OpenDenotesIn w)
        (OpenDenotes nodes t h) p.asks request.unique false false request.body
        (λ id file among r. carries.means id file r) (λ o file among s. carries.opens o file s)
        (same.requests.sent i r lt);
    held = λ u x at.
        body_more (StillDenotes w.server.nodes x.generations) (StillDenotes t x.generations)
        (OpenStillDenotes w.server.nodes w.server.handles x.generations)
        (OpenStillDenotes t h x.generations) p.asks u false x.marked x.body (carries.held_nodes u x at)
        (carries.held_opens u x at)
        (same.requests.held u x at);
  };
  asks = λ live.
      let old = same.asks live in
      record {
        of_calls = λ q state is.
            let pair = old.of_calls q state is in
            record {
              unique = pair.unique;
              ask = pair.ask;
              request = pair.request;
              there = pair.there;
              by = pair.by;
              same = operation_all (NodeDenotesIn w) (NodeDenotes nodes t) carries.means (OpenDenotesIn w)
                  (OpenDenotes nodes t h) carries.opens (asked state) pair.ask.operation pair.same;
            };
        no_other = old.no_other;
        signalled = old.signalled;
        kept = λ u k ask at there. carries.kept live u k ask at there (old.kept u k ask at there);
        copies = λ i s lt ask there. carries.copies live i s lt ask there (old.copies i s lt ask there);
      };
  validity = same.validity;
  minor = same.minor;
  agreed = same.agreed;
  aborted = same.aborted;
}

-- Where nothing that was denoted or open is lost, and the kernel knows no less, all is denoted still.
pub grown : (w : World) (p : Plain) (nodes : Map Counted) (t : NodeTable) (h : HandleTable)
    → ((id generation : ℕ) → generation_known w.kernel.nodes id ≡ Some generation
    → generation_known nodes id ≡ Some generation)
    → ((id generation file : ℕ) → Denotes w.server.nodes id generation file → Denotes t id generation file)
    → ((fh file : ℕ) → is_open w.server.handles fh file ≡ true → is_open h fh file ≡ true)
    → IsOneToOne (NodeDenotes nodes t)
    → Carries w p nodes t h
grown w p nodes t h known denotes open_still one = record {
  means = means;
  opens = λ o file m. record {
    node_means = means o.nodeid file m.node_means;
    is_handle = open_still o.fh file m.is_handle;
  };
  one = one;
  held_nodes = λ u x at id file among m. meant x.generations id file m;
  held_opens = λ u x at o file among m. record {
    node_meant = meant x.generations o.nodeid file m.node_meant;
    is_handle = open_still o.fh file m.is_handle;
  };
  kept = λ live u k ask at there reply_matches. stage_more w.server.nodes t w.server.handles h ask.stage k.wire
      (λ g file among d. denotes g.nodeid g.generation file d) (λ fh file among o. open_still fh file o) reply_matches;
  copies = λ live i s lt ask there reply_matches.
      let sent = get_or w.replies i s in
      stage_more w.server.nodes t w.server.handles h ask.stage sent.wire
      (λ g file among d. denotes g.nodeid g.generation file d) (λ fh file among o. open_still fh file o) reply_matches;
}
  where
    means : (id file : ℕ) → NodeDenotesIn w id file → NodeDenotes nodes t id file
    means id file m = record {
      generation = m.generation;
      known = known id m.generation m.known;
      denotes = denotes id m.generation file m.denotes;
    }

    meant : (generations : List (ℕ × ℕ)) (id file : ℕ) → StillDenotes w.server.nodes generations id file
        → StillDenotes t generations id file
    meant generations id file m = record {
      generation = m.generation;
      then_held = m.then_held;
      denotes = denotes id m.generation file m.denotes;
    }
