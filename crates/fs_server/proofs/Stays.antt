-- The server stays sound.
use Rattle.std.proofs.Common.{◌≡◌, ℕ, ◌+◌, ◌≤◌, ◌<◌, ◌^◌, Bool, true, false, cond, nat_eq, List, [], length, Option, Some, None, refl, sym, ap, subst, ◌∙◌, arith}
use Rattle.fuse_spec.specs.Values.Maps.{Map, get, put, remove}
use Rattle.fuse_spec.specs.Kernel.Messages.{Forget, WireReply}
use Rattle.fuse_spec.specs.Server.Nodes.{NodeTable, HandleTable, all_opened, count_overflows}
use Rattle.fuse_spec.specs.Values.Numbers.{max_validity}
use Rattle.fuse_spec.specs.Files.Operations.{Reply, files_in_reply, opens_in_reply}
use Rattle.fuse_spec.specs.Server.Copies.{rows_counted, handles_counted, kept_after}
use Rattle.fuse_spec.specs.Server.Server.{Server, HeldRequest, Kept, Copy}
use Rattle.fuse_spec.specs.declared.Entry.{Entry}
use Rattle.fuse_spec.specs.declared.Validity.{Validity}
use Rattle.fuse_spec.specs.Files.Trees.{Tree}
use Rattle.fuse_spec.specs.declared.WriteResult.{WriteResult}
use Rattle.fuse_spec.specs.declared.WriteResult.TheVariants.{Accepted, NoEntry, Invalid}
use Rattle.std.proofs.lemmas.Option.{none-some}
use Rattle.fs_files.specs.Bounds.{AreHeldBelow, AreNamed, AreUsed}
use Rattle.fs_files.specs.Performing.{handles_said}
use Rattle.fs_files.specs.Replies.{SentReply}
use Rattle.fs_files.specs.Numbering.{GivesNumbers}
use Rattle.fs_files.specs.Values.{FilesState, server_of}
use Rattle.fs_files.proofs.HeldBelow.{within_first, within_given}
use Rattle.fs_files.proofs.StaysNamed.{named_all_again, named_all_counted}
use Rattle.fs_server.specs.Effects.{Forgets, GivesBack, SettlesFiles}
use Rattle.fs_server.specs.Sound.{IsSoundServer}
use Rattle.fs_server.proofs.Sound.{apart_again, apart_performed, apart_settled, apart_taken, below_all, below_rows, gone_none, used_again, used_all, used_said, used_by_reply}

-- files with the same tree, nodes and file handles
same_named : (new : FilesState) (tree : Tree) (nodes : NodeTable) (handles : HandleTable) → new.tree ≡ tree
    → new.nodes ≡ nodes → new.handles ≡ handles → AreNamed tree nodes handles → AreNamed new.tree new.nodes new.handles
same_named new tree nodes handles t n h named =
    subst (λ (x : Tree). AreNamed x new.nodes new.handles) (sym t)
    (subst (λ (x : NodeTable). AreNamed tree x new.handles) (sym n)
    (subst (λ (x : HandleTable). AreNamed tree nodes x) (sym h) named))

named_sent : (files : FilesState) (gs : List Entry) (fhs : List ℕ) → AreNamed files.tree files.nodes files.handles
    → AreNamed files.tree (rows_counted files.nodes gs) (handles_counted files.handles fhs)
named_sent files gs fhs named = named_all_again None files.tree (rows_counted files.nodes gs) files.handles
    (named_all_counted None files.tree files.nodes files.handles named gs) fhs

pub used_most : (next : ℕ) (handles : HandleTable) → next ≤ 2 ^ 62 → AreUsed next handles → AreUsed (2 ^ 62) handles
used_most next handles most used fh h is = let le = used fh h is in omega (arith, le, most)

module _ {V W X : Type 0} (files : FilesState) (held : Map V) (kept : Map W) (copies : Map X) (next : ℕ) (v : Validity)
    (old : IsSoundServer files held kept copies next v) where
  pub with_files : (new : FilesState) → AreHeldBelow new.nodes → AreUsed next new.handles
      → AreNamed new.tree new.nodes new.handles → IsSoundServer new held kept copies next v
  with_files new below used named = record {
    requests = old.requests;
    below = below;
    used = used;
    named = named;
    numbers = old.numbers;
    found_day = old.found_day;
    missing_day = old.missing_day;
  }

  pub same_files : (new : FilesState) → new.tree ≡ files.tree → new.nodes ≡ files.nodes → new.handles ≡ files.handles
      → IsSoundServer new held kept copies next v
  same_files new tree nodes handles = with_files new (subst AreHeldBelow (sym nodes) old.below)
      (subst (AreUsed next) (sym handles) old.used)
      (same_named new files.tree files.nodes files.handles tree nodes handles old.named)

  pub forgotten : (new : FilesState) (fs : List Forget) → Forgets files fs new
      → AreNamed new.tree new.nodes new.handles → IsSoundServer new held kept copies next v
  forgotten new fs f named =
      with_files new (subst AreHeldBelow (sym (ap (λ (s : Server). s.nodes) (f v)))
      (below_all files.nodes fs old.below)) (subst (AreUsed next)
      (sym (ap (λ (s : Server). s.handles) (f v))) old.used) named

  pub given_back : (new : FilesState) (wire : WireReply) → GivesBack files wire new
      → AreNamed new.tree new.nodes new.handles → IsSoundServer new held kept copies next v
  given_back new wire g named =
      with_files new (subst AreHeldBelow (sym (ap (λ (s : Server). s.nodes) (g v)))
      (below_rows files.nodes (files_in_reply wire) old.below))
      (subst (AreUsed next) (sym (ap (λ (s : Server). s.handles) (g v)))
      (used_all next files.handles (opens_in_reply wire) old.used)) named

  pub taken : (unique : ℕ) (x : V) → get kept unique ≡ None → IsSoundServer files (put held unique x) kept copies next v
  taken unique x none = record {
    requests = apart_taken held kept copies next old.requests unique x none;
    below = old.below;
    used = old.used;
    named = old.named;
    numbers = old.numbers;
    found_day =
        old.found_day;
    missing_day = old.missing_day;
  }

  pub settled : (number : ℕ) → IsSoundServer files held kept (remove copies number) next v
  settled number = record {
    requests = apart_settled held kept copies next old.requests number;
    below = old.below;
    used = old.used;
    named = old.named;
    numbers = old.numbers;
    found_day = old.found_day;
    missing_day =
        old.missing_day;
  }

  pub unkept : (unique : ℕ) → IsSoundServer files held (remove kept unique) copies next v
  unkept unique = record {
    requests = record {
      apart = λ n there. gone_none kept unique n (old.requests.apart n there);
      copies_below = old.requests.copies_below;
    };
    below = old.below;
    used = old.used;
    named = old.named;
    numbers = old.numbers;
    found_day = old.found_day;
    missing_day = old.missing_day;
  }

  pub unheld : (unique : ℕ) → IsSoundServer files (remove held unique) kept copies next v
  unheld unique = record {
    requests = record {
      apart = λ n there. old.requests.apart n (λ none. there (gone_none held unique n none));
      copies_below = old.requests.copies_below;
    };
    below = old.below;
    used = old.used;
    named = old.named;
    numbers = old.numbers;
    found_day = old.found_day;
    missing_day = old.missing_day;
  }

  pub sent_again : (new : FilesState) (wire : WireReply) (x : X)
      → new.nodes ≡ rows_counted files.nodes (files_in_reply wire)
      → new.handles ≡ handles_counted files.handles (opens_in_reply wire) → AreHeldBelow new.nodes → next < 2 ^ 62
      → new.tree ≡ files.tree
      → IsSoundServer new held kept (put copies next x) (next + 1) v
  sent_again new wire x nodes handles below low tree = record {
    requests = apart_again held kept copies next old.requests x;
    below = below;
    used = subst (AreUsed (next + 1)) (sym handles) (used_again next files.handles wire old.used);
    named = same_named new files.tree (rows_counted files.nodes (files_in_reply wire))
        (handles_counted files.handles (opens_in_reply wire)) tree nodes handles
        (named_sent files (files_in_reply wire) (opens_in_reply wire) old.named);
    numbers = omega (arith, low);
    found_day = old.found_day;
    missing_day = old.missing_day;
  }

  pub lost : IsSoundServer {V = V} {W = W} {X = X} files held [] [] next v
  lost = record {
    requests = record { apart = λ n there. refl; copies_below = λ n le. refl };
    below = old.below;
    used = old.used;
    named = old.named;
    numbers = old.numbers;
    found_day = old.found_day;
    missing_day =
        old.missing_day;
  }

  pub performed : {A : Type 0} (h : HeldRequest) (unique : ℕ) (one two three : FilesState) (reply : Reply ℕ ℕ)
      (sent : SentReply A) (w : W) (x : X) → one.handles ≡ handles_said (server_of files v) h → one.nodes ≡ files.nodes
      → GivesNumbers one reply sent two → length (files_in_reply reply) ≤ 32
      → count_overflows files.nodes (files_in_reply reply) ≡ false → three.nodes ≡ two.nodes → three.handles ≡ two.handles
      → next < 2 ^ 62 → AreNamed three.tree three.nodes three.handles
      → IsSoundServer three (remove held unique) (put kept unique w) (put copies next x) (next + 1) v
  performed h unique one two three reply sent w x handles nodes gives few none left_nodes left_handles low named =
      record {
        requests = apart_performed held kept copies next old.requests unique w x;
        below = subst AreHeldBelow (sym (left_nodes ∙ gives.nodes_is))
            (within_given gives.choice one.nodes (files_in_reply reply) (omega (arith, few)) gives.may
            (within_first one.nodes (files_in_reply reply) (ap
            (λ (t : NodeTable). count_overflows t (files_in_reply reply)) nodes ∙ none)));
        used = subst (AreUsed (next + 1)) (sym (left_handles ∙ gives.handles_is ∙ ap
            (λ (t : HandleTable). all_opened t (opens_in_reply reply)) handles))
            (used_by_reply next (handles_said (server_of files v) h) reply (used_said next (server_of files v) h old.used));
        named = named;
        numbers = omega (arith, low);
        found_day = old.found_day;
        missing_day = old.missing_day;
      }

  pub performed_lost : (h : HeldRequest) (unique : ℕ) (one three : FilesState)
      → one.handles ≡ handles_said (server_of files v) h → one.nodes ≡ files.nodes → three.nodes ≡ one.nodes
      → three.handles ≡ one.handles → AreNamed three.tree three.nodes three.handles
      → IsSoundServer three (remove held unique) kept copies next v
  performed_lost h unique one three handles nodes left_nodes left_handles named = record {
    requests = record {
      apart = λ n there. old.requests.apart n (λ none. there (gone_none held unique n none));
      copies_below = old.requests.copies_below;
    };
    below = subst AreHeldBelow (sym (left_nodes ∙ nodes)) old.below;
    used = subst (AreUsed next) (sym (left_handles ∙ handles)) (used_said next (server_of files v) h old.used);
    named = named;
    numbers = old.numbers;
    found_day = old.found_day;
    missing_day = old.missing_day;
  }

  -- the files, once nothing is known
  pub cleared : (new : FilesState) → new.nodes ≡ record files.nodes { rows = [] }
      → new.handles ≡ record files.handles { handles = [] } → AreNamed new.tree new.nodes new.handles
      → IsSoundServer new held kept copies next v
  cleared new nodes handles named = with_files new
      (subst AreHeldBelow (sym nodes) (λ id row is. absurd (none-some row is)))
      (subst (AreUsed next) (sym handles) (λ fh h is. absurd (none-some h is))) named

pub first_again : {V W X : Type 0} (files : FilesState) (next : ℕ) (v w : Validity) → AreHeldBelow files.nodes
    → AreUsed next files.handles → AreNamed files.tree files.nodes files.handles → next ≤ 2 ^ 62
    → w.found_ms ≤ max_validity → w.missing_ms ≤ max_validity
    → IsSoundServer {V = V} {W = W} {X = X} files [] [] [] next w
first_again files next v w below used named numbers found missing =
    record {
      requests = record { apart = λ n there. refl; copies_below = λ n le. refl };
      below = below;
      used = used;
      named = named;
      numbers = numbers;
      found_day = found;
      missing_day = missing;
    }

pub unkept_copy : {V X : Type 0} (files : FilesState) (held : Map V) (kept : Map Kept) (copies : Map X) (next : ℕ)
    (v : Validity) → IsSoundServer files held kept copies next v → (copy : Copy) (o : Option Kept)
    → IsSoundServer files held (kept_after kept copy o) copies next v
unkept_copy files held kept copies next v old copy None = old
unkept_copy files held kept copies next v old copy (Some k) = by (nat_eq k.first copy.first)
  where
    by : (b : Bool) → IsSoundServer files held (cond b (remove kept copy.unique) kept) copies next v
    by true = unkept files held kept copies next v old copy.unique
    by false = old

pub settled_files : {V W X : Type 0} (files : FilesState) (held : Map V) (kept : Map W) (copies : Map X) (next : ℕ)
    (v : Validity) → IsSoundServer files held kept copies next v
    → (new : FilesState) (wire : WireReply) (result : WriteResult)
    → SettlesFiles files wire result new → AreNamed new.tree new.nodes new.handles → IsSoundServer new held kept copies next v
settled_files files held kept copies next v old new wire Accepted same named =
    subst (λ (f : FilesState). IsSoundServer f held kept copies next v) (sym same) old
settled_files files held kept copies next v old new wire NoEntry gives named =
    given_back files held kept copies next v old new wire gives named
settled_files files held kept copies next v old new wire Invalid gives named =
    given_back files held kept copies next v old new wire gives named
