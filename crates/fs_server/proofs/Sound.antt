-- The server is sound at first, and stays it as requests are taken and performed, and copies are sent again and
-- settled.
use Rattle.std.proofs.Common.{◌≡◌, ◌≢◌, ℕ, ◌+◌, ◌≤◌, ◌<◌, ◌^◌, Bool, true, false, true≢false, cond, List, [], ◌∷◌, Option, Some, None, refl, sym, ap, subst, ◌∙◌, arith, inl, inr}
use Rattle.std.specs.Prelude.{is_some}
use Rattle.std.proofs.lemmas.Bool.{cases_eq}
use Rattle.std.proofs.lemmas.Option.{none-some}
use Rattle.fuse_spec.specs.Values.Maps.{Map, get, put, remove}
use Rattle.fuse_spec.specs.declared.Entry.{Entry}
use Rattle.fuse_spec.specs.Server.Copies.{row_back, rows_back, handles_back, handles_counted}
use Rattle.fuse_spec.specs.Kernel.Messages.{Forget, RequestBody, WireReply, init, asks, release, forget, batch_forget, interrupt}
use Rattle.fuse_spec.specs.Server.Nodes.{NodeTable, HeldNode, HandleTable, FileHandle, all_opened, file_of, handle_back, is_open, taken_back}
use Rattle.fuse_spec.specs.Files.Operations as operation
use Rattle.fuse_spec.specs.Files.Operations.{Reply, opens_in_reply}
use Rattle.fuse_spec.specs.Server.Performs.{is_still_held}
use Rattle.fuse_spec.specs.Server.Server.{Server, HeldRequest, all_taken_back}
use Rattle.fuse_spec.proofs.Tables.{get_put_there, get_gone_here, get_gone_there}
use Rattle.fs_files.specs.Bounds.{AreHeldBelow, AreNamed, AreUsed}
use Rattle.fs_files.specs.Performing.{handles_by, handles_said}
use Rattle.fs_files.specs.Values.{FilesState, no_handles, no_nodes}
use Rattle.fs_files.proofs.Bounds.{taken_each, row_back_each, opened_each, back_each, handle_more_each}
use Rattle.fs_server.specs.Sound.{IsSoundServer, AreApart}

pub sound_first : {V W X : Type 0} (files : FilesState) → files.nodes ≡ no_nodes → files.handles ≡ no_handles
    → AreNamed files.tree files.nodes files.handles → IsSoundServer {V = V} {W = W} {X = X} files [] [] [] 1
    (record { found_ms = 0; missing_ms = 0 })
sound_first files nodes handles named = record {
  requests = record { apart = λ n there. refl; copies_below = λ n le. refl };
  below = λ id row is. absurd (none-some row (sym (ap (λ (t : NodeTable). get t.rows id) nodes) ∙ is));
  used = λ fh h is. absurd (none-some h (sym (ap (λ (t : HandleTable). get t.handles fh) handles) ∙ is));
  named = named;
  numbers = omega arith;
  found_day = omega arith;
  missing_day = omega arith;
}

-- ---- lookups

abbrev Low : HeldNode → Type 0
Low row = row.count < 2 ^ 62

below_taken : (t : NodeTable) (id n : ℕ) → AreHeldBelow t → AreHeldBelow (taken_back t id n)
below_taken t id n old = taken_each Low t id n (λ row low. omega (arith, low)) old

pub below_all : (t : NodeTable) (fs : List Forget) → AreHeldBelow t → AreHeldBelow (all_taken_back t fs)
below_all t [] old = old
below_all t (f ∷ fs) old = below_all (taken_back t f.0 f.1) fs (below_taken t f.0 f.1 old)

below_back : (t : NodeTable) (g : Entry) → AreHeldBelow t → AreHeldBelow (row_back t g)
below_back t g old = row_back_each Low t g (λ row low. omega (arith, low)) old

pub below_rows : (t : NodeTable) (gs : List Entry) → AreHeldBelow t → AreHeldBelow (rows_back t gs)
below_rows t [] old = old
below_rows t (g ∷ gs) old = below_rows (row_back t g) gs (below_back t g old)

-- ---- uses

module _ (next : ℕ) where
  abbrev Use : FileHandle → Type 0
  Use h = h.count ≤ next

  abbrev Uses : FileHandle → Type 0
  Uses h = h.count ≤ next + 1

  used_still : (t : HandleTable) → AreUsed next t → AreUsed (next + 1) t
  used_still t old = λ q h is. let low = old q h is in omega (arith, low)

  used_one : (t : HandleTable) (file : ℕ) → AreUsed next t → AreUsed (next + 1) (all_opened t (file ∷ []))
  used_one t file old = opened_each Use Uses t file (λ h low. omega (arith, low)) (omega arith) old

  pub used_by_reply : (t : HandleTable) (reply : Reply ℕ ℕ) → AreUsed next t
      → AreUsed (next + 1) (all_opened t (opens_in_reply reply))
  used_by_reply t (operation.created file valid o) old = used_one t o old
  used_by_reply t (operation.opened o) old = used_one t o old
  used_by_reply t (operation.found file valid) old = used_still t old
  used_by_reply t (operation.missing valid) old = used_still t old
  used_by_reply t (operation.attributes a) old = used_still t old
  used_by_reply t (operation.listed records) old = used_still t old
  used_by_reply t (operation.listed_plus pairs) old = used_still t old
  used_by_reply t (operation.content bytes) old = used_still t old
  used_by_reply t (operation.written size) old = used_still t old
  used_by_reply t (operation.agreed major minor flags) old = used_still t old
  used_by_reply t operation.done old = used_still t old
  used_by_reply t (operation.failed errno) old = used_still t old

  -- once one more copy of a reply is sent
  pub used_again : (t : HandleTable) (wire : WireReply) → AreUsed next t
      → AreUsed (next + 1) (handles_counted t (opens_in_reply wire))
  used_again t (operation.created g valid o) old =
      handle_more_each Use Uses t o (λ h low. omega (arith, low)) (λ h low. omega (arith, low)) old
  used_again t (operation.opened o) old = handle_more_each Use Uses t o (λ h low. omega (arith, low))
      (λ h low. omega (arith, low)) old
  used_again t (operation.found g valid) old = used_still t old
  used_again t (operation.missing valid) old = used_still t old
  used_again t (operation.attributes a) old = used_still t old
  used_again t (operation.listed records) old = used_still t old
  used_again t (operation.listed_plus pairs) old = used_still t old
  used_again t (operation.content bytes) old = used_still t old
  used_again t (operation.written size) old = used_still t old
  used_again t (operation.agreed major minor flags) old = used_still t old
  used_again t operation.done old = used_still t old
  used_again t (operation.failed errno) old = used_still t old

  used_back : (t : HandleTable) (fh : ℕ) → AreUsed next t → AreUsed next (handle_back t fh)
  used_back t fh old = back_each Use t fh (λ h low. omega (arith, low)) old

  pub used_all : (t : HandleTable) (fhs : List ℕ) → AreUsed next t → AreUsed next (handles_back t fhs)
  used_all t [] old = old
  used_all t (fh ∷ fhs) old = used_all (handle_back t fh) fhs (used_back t fh old)

  -- once a request is answered
  pub used_said : (s : Server) (h : HeldRequest) → AreUsed next s.handles → AreUsed next (handles_said s h)
  used_said s h old = by h.marked (is_still_held s.nodes h.generations)
    where
      of_body : (body : RequestBody) → AreUsed next (handles_by s body)
      of_body (init flags) = old
      of_body (asks o) = old
      of_body (release o) = released (is_open s.handles o.fh (file_of s.nodes o.nodeid))
        where
          released : (b : Bool) → AreUsed next (cond b (handle_back s.handles o.fh) s.handles)
          released true = used_back s.handles o.fh old
          released false = old
      of_body (forget f) = old
      of_body (batch_forget fs) = old
      of_body (interrupt original) = old

      by : (m b : Bool) → AreUsed next (cond m s.handles (cond b (handles_by s h.body) s.handles))
      by true b = old
      by false true = of_body h.body
      by false false = old

-- a look-up that finds something does not find nothing
pub there_is : {V : Type 0} (o : Option V) → is_some o ≡ true → o ≢ None
there_is None e = absurd (true≢false (sym e))
there_is (Some v) e = λ h. true≢false (ap is_some h)

pub gone_none : {V : Type 0} (m : Map V) (k q : ℕ) → get m q ≡ None → get (remove m k) q ≡ None
gone_none m k q none =
    elim (cases_eq q k) [
      | inl e ↦ subst (λ (n : ℕ). get (remove m k) n ≡ None) (sym e)
          (get_gone_here m k)
      | inr ne ↦ get_gone_there m k q ne ∙ none
    ]

module _ {V W X : Type 0} (held : Map V) (kept : Map W) (copies : Map X) (coming : ℕ)
    (old : AreApart held kept copies coming) where
  pub apart_taken : (unique : ℕ) (v : V) → get kept unique ≡ None → AreApart (put held unique v) kept copies coming
  apart_taken unique v none = record {
    apart = λ n there. elim (cases_eq n unique) [
      | inl e ↦ subst (λ (m : ℕ). get kept m ≡ None)
          (sym e) none
      | inr ne ↦ old.apart n (λ gone. there (get_put_there held unique v n ne ∙ gone))
    ];
    copies_below = old.copies_below;
  }

  pub apart_performed : (unique : ℕ) (w : W) (x : X)
      → AreApart (remove held unique) (put kept unique w) (put copies coming x) (coming + 1)
  apart_performed unique w x = record {
    apart = λ n still. elim (cases_eq n unique) [
      | inl e ↦ absurd (still (subst (λ (m : ℕ). get (remove held unique) m ≡ None) (sym e)
          (get_gone_here held unique)))
      | inr ne ↦ get_put_there kept unique w n ne ∙ old.apart n (λ none. still (gone_none held unique n none))
    ];
    copies_below = λ n le. get_put_there copies coming x n (λ e. absurd (omega arith)) ∙ old.copies_below n
        (omega arith);
  }

  pub apart_again : (x : X) → AreApart held kept (put copies coming x) (coming + 1)
  apart_again x = record {
    apart = old.apart;
    copies_below = λ n le. get_put_there copies coming x n (λ e. absurd (omega arith)) ∙ old.copies_below n
        (omega arith);
  }

  pub apart_settled : (number : ℕ) → AreApart held kept (remove copies number) coming
  apart_settled number = record {
    apart = old.apart;
    copies_below = λ n le. gone_none copies number n (old.copies_below n le);
  }
