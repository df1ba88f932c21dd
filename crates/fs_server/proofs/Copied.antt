-- More copies of a kept reply are sent, and copies are settled.
use Rattle.std.proofs.Common.{◌≡◌, ℕ, ◌+◌, ◌≤◌, ◌<◌, ◌^◌, Bool, true, false, cond, ◌&&◌, List, Option, Some, None, sym, ap, subst, ◌∙◌, arith, inr}
use Rattle.std.specs.Prelude.{is_some}
use Rattle.std.specs.List.{list_all}
use Rattle.std.proofs.lemmas.Option.{same_Some}
use Rattle.fuse_spec.specs.declared.Minor.{Minor}
use Rattle.fuse_spec.specs.Values.Maps.{Map, get, put, remove}
use Rattle.fuse_spec.specs.declared.Entry.{Entry}
use Rattle.fuse_spec.specs.declared.Refusal.TheVariants.{NoCopy, Exhausted}
use Rattle.fuse_spec.specs.declared.Validity.{Validity}
use Rattle.fuse_spec.specs.declared.WriteResult.{WriteResult}
use Rattle.fuse_spec.specs.declared.WriteResult.TheVariants.{Accepted, NoEntry, Invalid}
use Rattle.fuse_spec.specs.Kernel.Messages.{WireReply}
use Rattle.fuse_spec.specs.Files.Operations.{files_in_reply, opens_in_reply}
use Rattle.fuse_spec.specs.Server.Nodes.{NodeTable, count_overflows, is_held}
use Rattle.fuse_spec.specs.Server.Server.{Server, HeldRequest, Kept, Copy}
use Rattle.fuse_spec.specs.Server.Copies.{files_named, is_current, rows_counted, handles_counted, sent_again, given_back, kept_after, after_result}
use Rattle.fuse_spec.specs.World.Worlds.{Sent}
use Rattle.fs_files.specs.Giving.{files_of}
use Rattle.fs_files.specs.Values.{FilesState}
use Rattle.fs_server.specs.Values.{server_with}
use Rattle.fs_server.proofs.Refused.{copied_too_often, not_current}
use Rattle.fs_server.specs.Effects.{RefusesAgain, no_number, CanSendAgain, SendsAgain, Settles, GivesBack, SettlesFiles, is_of_copy}
use Rattle.fs_server.proofs.Served.{past, whole}

-- whether counts come to their end, as it is asked of the nodes and of the entries
pub counts_in : {nodes table : NodeTable} {entries gs : List Entry} {out : Bool} → table ≡ nodes → entries ≡ gs
    → out ≡ count_overflows table (files_of table entries) → out ≡ count_overflows nodes (files_of nodes gs)
counts_in same these is = is ∙ (λ i. count_overflows (same i) (files_of (same i) (these i)))

module _ (files : FilesState) (held : Map HeldRequest) (kept : Map Kept) (copies : Map Copy) (next : ℕ) (v : Validity)
    (m : Minor) (a : Bool) where
  abbrev s : Server
  s = server_with files held kept copies next v m a

  -- whether what a reply names is held
  abbrev names_held : WireReply → Bool
  names_held wire = list_all (λ (g : Entry). is_held files.nodes g.nodeid g.generation) (files_in_reply wire)
      && list_all (λ fh. is_some (get files.handles.handles fh)) (opens_in_reply wire)

  module _ (unique : ℕ) (k : Kept) (there : get kept unique ≡ Some k) (wire : WireReply) (is : k.wire ≡ wire) where
    current_of : (b : Bool) → b ≡ names_held wire → is_current s k.wire ≡ b
    current_of b e = ap (is_current s) is ∙ sym e

    pub names_gone : false ≡ names_held wire → RefusesAgain s unique NoCopy
    names_gone e = not_current s unique k there (current_of false e)

    -- the lookups of the nodes that it names come to their end, or they don't
    counts_are : (b : Bool) → b ≡ count_overflows files.nodes (files_of files.nodes (files_in_reply wire))
        → count_overflows s.nodes (files_named s k.wire) ≡ b
    counts_are b e = ap (λ (w : WireReply). count_overflows s.nodes (files_named s w)) is ∙ sym e

    pub counted_out : true ≡ names_held wire → true ≡ count_overflows files.nodes
        (files_of files.nodes (files_in_reply wire)) → RefusesAgain s unique Exhausted
    counted_out e out = copied_too_often s unique k there (current_of true e) (counts_are true out)

    pub counts_so : CanSendAgain s unique → count_overflows files.nodes (files_of files.nodes (files_in_reply wire)) ≡ false
    counts_so can =
        sym (ap (λ (w : WireReply). count_overflows s.nodes (files_named s w)) is) ∙ ap
        (λ (x : Kept). count_overflows s.nodes (files_named s x.wire))
        (same_Some k can.kept (sym there ∙ can.there)) ∙ can.counts

    pub without_number : true ≡ names_held wire → 2 ^ 62 ≤ next → RefusesAgain s unique Exhausted
    without_number e le = no_number k there (current_of true e)
        (past (sent_again s unique k) (inr (inr (inr (inr (omega (arith, le)))))))

    pub can_send : true ≡ names_held wire → false ≡ count_overflows files.nodes (files_of files.nodes (files_in_reply wire))
        → next < 2 ^ 62 → CanSendAgain s unique
    can_send e few low = record {
      kept = k;
      there = there;
      current = current_of true e;
      counts = counts_are false few;
      number = low;
    }

    pub sends : CanSendAgain s unique → (two : FilesState) (sent : WireReply) → two.tree ≡ files.tree
        → two.nodes ≡ rows_counted files.nodes (files_in_reply wire)
        → two.handles ≡ handles_counted files.handles (opens_in_reply wire)
        → sent ≡ wire → (copy : Sent) → copy ≡ record { number = next; unique = unique; wire = wire }
        → SendsAgain s unique copy (server_with two held kept
        (put copies next (record { unique = unique; wire = sent; first = k.first })) (next + 1) v m a)
    sends can two sent tree nodes handles same copy copy_is = record {
      kept = k;
      there = there;
      current = subst (λ (x : Kept). is_current s x.wire ≡ true)
          (same_Some can.kept k (sym can.there ∙ there)) can.current;
      counts = subst (λ (x : Kept). count_overflows s.nodes (files_named s x.wire) ≡ false)
          (same_Some can.kept k (sym can.there ∙ there)) can.counts;
      copy_is = copy_is ∙ (λ i. record { number = next; unique = unique; wire = sym is i });
      after =
          (λ i. whole (tree i) (nodes i) (handles i) held kept
          (put copies next (record { unique = unique; wire = same i; first = k.first })) (next + 1) v m a)
          ∙ (λ i. sent_again s unique (record { wire = sym is i; first = k.first }));
    }

pub kept_is : (kept : Map Kept) (copy : Copy) (o : Option Kept) (b : Bool) → is_of_copy o copy.first ≡ b
    → kept_after kept copy o ≡ cond b (remove kept copy.unique) kept
kept_is kept copy None b e = ap (λ (x : Bool). cond x (remove kept copy.unique) kept) e
kept_is kept copy (Some k) b e = ap (λ (x : Bool). cond x (remove kept copy.unique) kept) e

module _ (files two : FilesState) (held : Map HeldRequest) (kept : Map Kept) (copies : Map Copy) (next : ℕ)
    (v : Validity) (m : Minor) (a : Bool) where
  given_is : (wire : WireReply) → GivesBack files wire two
      → server_with two held kept copies next v m a ≡ given_back (server_with files held kept copies next v m a) wire
  given_is wire gives = ap (λ (b : Server). record b {
    held = held;
    kept = kept;
    copies = copies;
    next_copy = next;
    minor = m;
    aborted = a;
  }) (gives v)

  pub result_is : (wire : WireReply) (result : WriteResult) → SettlesFiles files wire result two
      → server_with two held kept copies next v m a ≡ after_result
      (server_with files held kept copies next v m a) wire result
  result_is wire Accepted left = ap (λ (f : FilesState). server_with f held kept copies next v m a) left
  result_is wire NoEntry left = given_is wire left
  result_is wire Invalid left = given_is wire left

module _ (files two : FilesState) (held : Map HeldRequest) (kept : Map Kept) (copies : Map Copy) (next : ℕ)
    (v : Validity) (m : Minor) (a : Bool) where
  pub settles : (number : ℕ) (result : WriteResult) (copy : Copy) → get copies number ≡ Some copy
      → SettlesFiles files copy.wire result two
      → Settles (server_with files held kept copies next v m a) number result
      (server_with two held (kept_after kept copy (get kept copy.unique)) (remove copies number) next v m a)
  settles number result copy there left = record {
    copy = copy;
    there = there;
    after = result_is files two held (kept_after kept copy (get kept copy.unique))
        (remove copies number) next v m a copy.wire result left;
  }
