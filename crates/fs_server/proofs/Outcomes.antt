-- The error of an outcome, and how many names it lists together with their files.
use Rattle.std.proofs.Common.{◌≡◌, ◌≤◌, ℕ, Bool, true, false, cond, Option, Some, None, length, refl, ap, ◌∙◌, sym, arith, inl, inr}
use Rattle.std.specs.Prelude.{◌⊎◌}
use Rattle.std.proofs.lemmas.List.{length-map}
use Rattle.fuse_spec.specs.Files.FileOperations.{lookup_reply, refusal, reply_or, reply_unrefused}
use Rattle.fuse_spec.specs.Kernel.Messages.{RequestBody, init, asks, release, forget, batch_forget, interrupt}
use Rattle.fuse_spec.specs.Server.Nodes.{file_of, is_open}
use Rattle.fuse_spec.specs.Values.Numbers.{ebadf, eintr, eio}
use Rattle.fuse_spec.specs.Files.Operations as operation
use Rattle.fuse_spec.specs.Files.Operations.{Operation, Reply, errno_of}
use Rattle.fuse_spec.specs.Server.Performs.{file_operation_of, is_open_for, is_still_held}
use Rattle.fuse_spec.specs.Server.Server.{Server, HeldRequest}
use Rattle.fuse_spec.specs.Files.Trees.{Tree, file_at}
use Rattle.fuse_spec.specs.declared.Opened.{Opened}
use Rattle.fs_files.specs.Listed.{dirents_in_bytes, pair_listed}
use Rattle.fs_files.specs.Performing.{said, body_reply}
use Rattle.fs_files.specs.Replies.{HasSpare, IsRepliable, outcome_errno, outcome_names, outcome_reply}
use Rattle.fs_files.specs.Values.{names_for, most_names_of}
use Rattle.fs_files.specs.declared.replies.Outcome.{Outcome}
use Rattle.fs_files.specs.declared.replies.Outcome.TheVariants as outcome
use Rattle.fuse_frames.specs.declared.reply.Reply.TheVariants as said
use Rattle.fs_files.specs.declared.spare.ListingBuffers.{ListingBuffers}

pub errno_said : {A : Type 0} (ms : ℕ) (o : Outcome A) → outcome_errno o ≡ errno_of (outcome_reply ms o)
errno_said ms (outcome.Entry file) = refl
errno_said ms (outcome.Created file) = refl
errno_said ms (outcome.Opened file) = refl
errno_said ms (outcome.ListedPlus records names) = refl
errno_said ms (outcome.Reply (said.Entry entry valid)) = refl
errno_said ms (outcome.Reply (said.Negative valid)) = refl
errno_said ms (outcome.Reply (said.Created entry valid fh)) = refl
errno_said ms (outcome.Reply (said.Opened fh)) = refl
errno_said ms (outcome.Reply (said.Attributes attributes)) = refl
errno_said ms (outcome.Reply (said.Listed records)) = refl
errno_said ms (outcome.Reply (said.ListedPlus names)) = refl
errno_said ms (outcome.Reply (said.Content bytes)) = refl
errno_said ms (outcome.Reply (said.Written size)) = refl
errno_said ms (outcome.Reply (said.Agreed major minor flags)) = refl
errno_said ms (outcome.Reply said.Done) = refl
errno_said ms (outcome.Reply (said.Failed errno)) = refl

-- ---- names together with their files

abbrev names_listed : Reply ℕ ℕ → ℕ
names_listed (operation.listed_plus pairs) = length pairs
names_listed reply = 0

names_are : {A : Type 0} (ms : ℕ) (tree : Tree) (o : Outcome A) → IsRepliable tree o
    → outcome_names o ≡ names_listed (outcome_reply ms o)
names_are ms tree (outcome.Entry file) repliable = refl
names_are ms tree (outcome.Created file) repliable = refl
names_are ms tree (outcome.Opened file) repliable = refl
names_are ms tree (outcome.ListedPlus records names) repliable = sym (length-map (dirents_in_bytes records.items) (pair_listed ms))
names_are ms tree (outcome.Reply (said.Entry entry valid)) repliable = absurd repliable.0
names_are ms tree (outcome.Reply (said.Negative valid)) repliable = refl
names_are ms tree (outcome.Reply (said.Created entry valid fh)) repliable = absurd repliable.0
names_are ms tree (outcome.Reply (said.Opened fh)) repliable = absurd repliable.0
names_are ms tree (outcome.Reply (said.Attributes attributes)) repliable = refl
names_are ms tree (outcome.Reply (said.Listed records)) repliable = refl
names_are ms tree (outcome.Reply (said.ListedPlus names)) repliable = absurd repliable.0
names_are ms tree (outcome.Reply (said.Content bytes)) repliable = refl
names_are ms tree (outcome.Reply (said.Written size)) repliable = refl
names_are ms tree (outcome.Reply (said.Agreed major minor flags)) repliable = refl
names_are ms tree (outcome.Reply said.Done) repliable = refl
names_are ms tree (outcome.Reply (said.Failed errno)) repliable = refl

most_names : {A : Type 0} (tree : Tree) (o : Outcome A) → IsRepliable tree o → outcome_names o ≤ 32
most_names tree (outcome.Entry file) repliable = omega arith
most_names tree (outcome.Created file) repliable = omega arith
most_names tree (outcome.Opened file) repliable = omega arith
most_names tree (outcome.ListedPlus records names) repliable = let most = repliable.1 in omega (arith, most)
most_names tree (outcome.Reply (said.Entry entry valid)) repliable = absurd repliable.0
most_names tree (outcome.Reply (said.Negative valid)) repliable = omega arith
most_names tree (outcome.Reply (said.Created entry valid fh)) repliable = absurd repliable.0
most_names tree (outcome.Reply (said.Opened fh)) repliable = absurd repliable.0
most_names tree (outcome.Reply (said.Attributes attributes)) repliable = omega arith
most_names tree (outcome.Reply (said.Listed records)) repliable = omega arith
most_names tree (outcome.Reply (said.ListedPlus names)) repliable = absurd repliable.0
most_names tree (outcome.Reply (said.Content bytes)) repliable = omega arith
most_names tree (outcome.Reply (said.Written size)) repliable = omega arith
most_names tree (outcome.Reply (said.Agreed major minor flags)) repliable = omega arith
most_names tree (outcome.Reply said.Done) repliable = omega arith
most_names tree (outcome.Reply (said.Failed errno)) repliable = omega arith

module _ (s : Server) where
  refused : (b : Bool) (r : Option ℕ) (reply : Reply ℕ ℕ) → names_listed reply ≡ 0
      → names_listed (cond b (reply_or reply r) (operation.failed ebadf)) ≡ 0
  refused true None reply none = none
  refused true (Some errno) reply none = refl
  refused false r reply none = refl

  found_none : (o : Option ℕ) → names_listed (lookup_reply s.validity o) ≡ 0
  found_none None = refl
  found_none (Some file) = refl

  said_none : (o : Operation ℕ Opened) → names_listed (reply_unrefused s.validity s.tree (file_operation_of s.nodes o))
      ≡ 0 → (most_names_of o ≡ 32) ⊎ (names_listed (body_reply s (asks o)) ≡ 0)
  said_none o none = inr (refused (is_open_for s o) (refusal s.tree (file_operation_of s.nodes o))
      (reply_unrefused s.validity s.tree (file_operation_of s.nodes o)) none)

  asked_names : (o : Operation ℕ Opened) → (most_names_of o ≡ 32) ⊎ (names_listed (body_reply s (asks o)) ≡ 0)
  asked_names (operation.lookup d name) = said_none (operation.lookup d name)
      (found_none (file_at s.tree (file_of s.nodes d) name))
  asked_names (operation.getattr x) = said_none (operation.getattr x) refl
  asked_names (operation.mkdir d name) = said_none (operation.mkdir d name) refl
  asked_names (operation.create d name) = said_none (operation.create d name) refl
  asked_names (operation.unlink d name) = said_none (operation.unlink d name) refl
  asked_names (operation.rmdir d name) = said_none (operation.rmdir d name) refl
  asked_names (operation.rename d old e new) = said_none (operation.rename d old e new) refl
  asked_names (operation.link x d name) = said_none (operation.link x d name) refl
  asked_names (operation.opening x) = said_none (operation.opening x) refl
  asked_names (operation.readdir d after size) = said_none (operation.readdir d after size) refl
  asked_names (operation.readdirplus d after size) = inl refl
  asked_names (operation.read o offset size) = said_none (operation.read o offset size) refl
  asked_names (operation.write o offset bytes) = said_none (operation.write o offset bytes) refl

  body_names : (body : RequestBody) → (names_for body ≡ 32) ⊎ (names_listed (body_reply s body) ≡ 0)
  body_names (init flags) = inr refl
  body_names (asks o) = asked_names o
  body_names (release o) = inr (by (is_open s.handles o.fh (file_of s.nodes o.nodeid)))
    where
      by : (b : Bool) → names_listed (cond b operation.done (operation.failed ebadf)) ≡ 0
      by true = refl
      by false = refl
  body_names (forget f) = inr refl
  body_names (batch_forget fs) = inr refl
  body_names (interrupt original) = inr refl

  held_names : (h : HeldRequest) → (names_for h.body ≡ 32) ⊎ (names_listed (said s h) ≡ 0)
  held_names h = by h.marked (is_still_held s.nodes h.generations) (body_names h.body)
    where
      by : (m b : Bool) → (names_for h.body ≡ 32) ⊎ (names_listed (body_reply s h.body) ≡ 0)
          → (names_for h.body ≡ 32) ⊎ (names_listed (cond m (operation.failed eintr)
          (cond b (body_reply s h.body) (operation.failed eio))) ≡ 0)
      by true b each = inr refl
      by false true each = each
      by false false each = inr refl

  -- An outcome lists no more names than its request has room for.
  pub names_fit : {A : Type 0} (h : HeldRequest) (tree : Tree) (ms : ℕ) (o : Outcome A) → outcome_reply ms o ≡ said s h
      → IsRepliable tree o → outcome_names o ≤ names_for h.body
  names_fit h tree ms o says repliable = elim (held_names h) [
    | inl room ↦ (let most = most_names tree o repliable in omega (arith, most, room))
    | inr none ↦
        let are : outcome_names o ≡ 0 = names_are ms tree o repliable ∙ ap names_listed says ∙ none in
        omega (arith, are)
  ]

-- what is as many as fit fits
pub as_few : (n : ℕ) {m most : ℕ} → n ≡ m → m ≤ most → n ≤ most
as_few n same fits = omega (arith, same, fits)

-- room for more is room for less
pub less_spare : {A : Type 0} (spare : ListingBuffers A) (len names l n : ℕ) → HasSpare spare len names → l ≤ len
    → n ≤ names → HasSpare spare l n
less_spare spare len names l n has fewer less =
    let bytes = has.bytes in
    let entries = has.entries in
    let file_entries = has.file_entries in
    record {
      no_bytes = has.no_bytes;
      no_entries = has.no_entries;
      no_file_entries = has.no_file_entries;
      bytes = omega (arith, bytes, fewer);
      entries = omega (arith, entries, less);
      file_entries = omega (arith, file_entries, less);
    }
