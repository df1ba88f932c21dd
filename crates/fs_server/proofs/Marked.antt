-- INTERRUPTs are taken.
use Rattle.std.proofs.Common.{◌≡◌, ℕ, ◌≤◌, ◌^◌, Bool, true, false, true≢false, not, nat_eq, Option, Some, None, T, refl, sym, ap, subst, ◌∙◌, inl, inr}
use Rattle.std.specs.Prelude.{is_some, nat_lt, ◌||◌}
use Rattle.std.specs.Cmp.{nat_cmp_total}
use Rattle.std.specs.FinMap.{is_sorted, nat_cmp-IsAntisymmetric}
use Rattle.std.specs.FinMap.Entries.{is_sorted-put, is_sorted-where_key, same_entries}
use Rattle.std.specs.Ordering.{nat_cmp}
use Rattle.std.proofs.lemmas.Bool.{cases_eq, le-ltb}
use Rattle.fuse_spec.specs.Values.Maps.{Map, get, put, remove}
use Rattle.fuse_spec.specs.Values.Numbers.{counter_end}
use Rattle.fuse_spec.specs.Kernel.Messages.{interrupt}
use Rattle.fuse_spec.specs.Server.Server.{Server, HeldRequest, Kept}
use Rattle.fuse_spec.specs.Server.Taking.{TakeResult, interrupting, taking}
use Rattle.fuse_spec.specs.declared.Taken.TheVariants.{Marked, Ignored, Again}
use Rattle.fuse_spec.proofs.Tables.{get_put_here, get_put_there, get_gone_there}
use Rattle.fs_server.specs.declared.server.Taken.{Taken}
use Rattle.fuse_spec.specs.Server.Refusals.{is_server_past_end}
use Rattle.fs_server.specs.Effects.{copy_of}
use Rattle.fs_server.specs.Interrupts.{Interrupts, AsksAgain}

module _ {V : Type 0} where
  sorted_put : (m : Map V) (k : ℕ) (v : V) → T (is_sorted nat_cmp m) → T (is_sorted nat_cmp (put m k v))
  sorted_put m k v sorted = is_sorted-put nat_cmp nat_cmp_total k v m sorted

  sorted_gone : (m : Map V) (k : ℕ) → T (is_sorted nat_cmp m) → T (is_sorted nat_cmp (remove m k))
  sorted_gone m k sorted = is_sorted-where_key nat_cmp (λ x. not (nat_eq x k)) m sorted

  -- what goes and comes again under its key is put there
  pub put_gone : (m : Map V) (k : ℕ) (v : V) → T (is_sorted nat_cmp m) → put (remove m k) k v ≡ put m k v
  put_gone m k v sorted =
      same_entries nat_cmp nat_cmp_total nat_cmp-IsAntisymmetric (put (remove m k) k v) (put m k v)
      (sorted_put (remove m k) k v (sorted_gone m k sorted)) (sorted_put m k v sorted) at
    where
      at : (q : ℕ) → get (put (remove m k) k v) q ≡ get (put m k v) q
      at q = elim (cases_eq q k) [
        | inl e ↦ subst (λ (n : ℕ). get (put (remove m k) k v) n ≡ get (put m k v) n) (sym e)
            (get_put_here (remove m k) k v ∙ sym (get_put_here m k v))
        | inr ne ↦ get_put_there (remove m k) k v q ne ∙ get_gone_there m k q ne ∙ sym (get_put_there m k v q ne)
      ]

none_of : {X : Type 0} (o : Option X) → is_some o ≡ false → o ≡ None
none_of None e = refl
none_of (Some x) e = absurd (true≢false e)

module _ (s : Server) (unique original : ℕ) where
  abbrev comes : TakeResult
  comes = taking s unique (interrupt original)

  by_result : {A : Type 0} (t : TakeResult) → comes ≡ t → (taken : Taken A) (new : Server) → taken.unique ≡ unique
      → taken.word ≡ t.word → new ≡ t.server → taken.sent ≡ copy_of s.next_copy unique t.reply
      → Interrupts s unique original taken new
  by_result t e taken new under word server copy = record {
    under = under;
    word = word ∙ sym (ap (λ (r : TakeResult). r.word) e);
    after = server ∙ sym (ap (λ (r : TakeResult). r.server) e);
    copy = copy ∙ sym (ap (λ (r : TakeResult). copy_of s.next_copy unique r.reply) e);
  }

  -- a request that is held is marked
  pub marks : {A : Type 0} → is_some (get s.held original) ≡ true → (taken : Taken A)
      → taken ≡ record { unique = unique; word = Marked; sent = None } → (new : Server)
      → ((h : HeldRequest) → get s.held original ≡ Some h
      → new ≡ record s { held = put s.held original (record h { marked = true }) })
      → Interrupts s unique original taken new
  marks {A} some taken e new marked = by (get s.held original) refl some
    where
      by : (o : Option HeldRequest) → get s.held original ≡ o → is_some o ≡ true → Interrupts s unique original taken new
      by None there some = absurd (true≢false (sym some))
      by (Some h) there some =
          by_result (interrupting s unique original (Some h) (get s.kept original))
          (ap (λ (o : Option HeldRequest). interrupting s unique original o (get s.kept original)) there) taken new
          (ap (λ (t : Taken A). t.unique) e) (ap (λ (t : Taken A). t.word) e) (marked h there)
          (ap (λ (t : Taken A). t.sent) e)

  module _ (unheld : is_some (get s.held original) ≡ false) where
    none : get s.held original ≡ None
    none = none_of (get s.held original) unheld

    -- the kept reply of the request ignores it
    pub ignores : {A : Type 0} → is_some (get s.kept original) ≡ true → (taken : Taken A)
        → taken ≡ record { unique = unique; word = Ignored; sent = None } → Interrupts s unique original taken s
    ignores {A} some taken e = by (get s.kept original) refl some
      where
        by : (o : Option Kept) → get s.kept original ≡ o → is_some o ≡ true → Interrupts s unique original taken s
        by None there some = absurd (true≢false (sym some))
        by (Some k) there some =
            by_result (interrupting s unique original None (Some k))
            (λ i. interrupting s unique original (none i) (there i)) taken s (ap (λ (t : Taken A). t.unique) e)
            (ap (λ (t : Taken A). t.word) e) refl (ap (λ (t : Taken A). t.sent) e)

    module _ (unkept : is_some (get s.kept original) ≡ false) where
      unknown : comes ≡ interrupting s unique original None None
      unknown = λ i. interrupting s unique original (none i) (none_of (get s.kept original) unkept i)

      -- and that of one that isn't known is answered
      pub answers : {A : Type 0} (taken : Taken A) (new : Server) → AsksAgain s unique taken new
          → Interrupts s unique original taken new
      answers taken new asks = by_result
          (interrupting s unique original None None) unknown taken new asks.under asks.word asks.after asks.copy

      pub asks_again : comes.word ≡ Again
      asks_again = ap (λ (r : TakeResult). r.word) unknown

-- ---- counters

or_false : (a b c d e : Bool) → a ≡ false → b ≡ false → c ≡ false → d ≡ false → e ≡ false
    → (a || b || c || d || e) ≡ false
or_false true b c d e p q r x y = p
or_false false true c d e p q r x y = q
or_false false false true d e p q r x y = r
or_false false false false true e p q r x y = x
or_false false false false false e p q r x y = y

-- no counter is past its end
pub within : (s : Server) → nat_lt (2 ^ 62) s.tree.next_inode ≡ false → nat_lt (2 ^ 62) s.tree.next_cookie ≡ false
    → nat_lt (2 ^ 62) s.nodes.next_generation ≡ false → nat_lt (2 ^ 62) s.handles.next_fh ≡ false → s.next_copy ≤ 2 ^ 62
    → is_server_past_end s ≡ false
within s inodes cookies generations numbers copies =
    or_false (nat_lt counter_end s.tree.next_inode) (nat_lt counter_end s.tree.next_cookie)
    (nat_lt counter_end s.nodes.next_generation) (nat_lt counter_end s.handles.next_fh)
    (nat_lt counter_end s.next_copy) inodes cookies generations numbers
    (le-ltb counter_end s.next_copy copies)
