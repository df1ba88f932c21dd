-- How the counts of the server's file handles change.
use Rattle.std.proofs.Common.{◌≡◌, ◌≢◌, ℕ, ◌+◌, ◌-◌, Bool, true, false, true≢false, ◌&&◌, cond, List, [], ◌∷◌, Option, Some, None, nat_eq, is_some, count_by, refl, ap, sym, subst, ◌∙◌, arith, inl, inr}
use Rattle.std.specs.Prelude.{nat_lt}
use Rattle.std.specs.List.{list_all}
use Rattle.std.proofs.lemmas.Bool.{cases_eq}
use Rattle.std.proofs.lemmas.Bool.Decides.{nat_tests}
use Rattle.fuse_spec.specs.Values.Maps.{Map, get, put, remove}
use Rattle.fuse_spec.specs.Kernel.Messages.{WireReply}
use Rattle.fuse_spec.specs.Files.Operations.{Reply, found, missing, created, opened, attributes, listed, listed_plus, content, written, agreed, done, failed, opens_in_reply}
use Rattle.fuse_spec.specs.Server.Nodes.{NodeTable, HandleTable, FileHandle, is_file_of, is_open, handle_opened, all_opened, handles_less, handle_back, handles_more, handle_more}
use Rattle.fuse_spec.specs.Server.Copies.{handles_counted, handles_back}
use Rattle.fuse_spec.specs.Claim.Counts.{handle_count, opens_in}
use Rattle.fuse_spec.specs.Server.Performs.{wire_of}
use Rattle.fuse_spec.specs.Files.Trees.{Tree}
use Rattle.fuse_spec.proofs.QueueCounts.{count_by-cons}
use Rattle.fuse_spec.proofs.Tables.{get_put_here, get_put_there, get_gone_here, get_gone_there}
use Rattle.fuse_theorem.proofs.Calls.Finding.{same_is, other_is}
use Rattle.fuse_theorem.proofs.Refining.Settling.{handle_back_left}
use Rattle.fuse_theorem.proofs.Lookups.WireCounts.{OneAtMost, nothing, one}

-- How often the server counts a file handle.
abbrev pub fh_count : HandleTable → ℕ → ℕ
fh_count h fh = handle_count (get h.handles fh)

abbrev pub one_at : ℕ → ℕ → ℕ
one_at n fh = cond (nat_eq n fh) 1 0

put_count : (m : Map FileHandle) (n fh : ℕ) (new : FileHandle)
    → handle_count (get (put m n new) fh) ≡ cond (nat_eq n fh) new.count (handle_count (get m fh))
put_count m n fh new = elim (cases_eq n fh) [
  | inl e ↦
      let here : handle_count (get (put m n new) fh) ≡ new.count =
      subst (λ (x : ℕ). handle_count (get (put m n new) x) ≡ new.count) e
      (ap handle_count (get_put_here m n new)) in
      let tie : nat_eq n fh ≡ true = subst (λ (x : ℕ). nat_eq n x ≡ true) e (same_is n) in
      here ∙ ap (λ (b : Bool). cond b new.count (handle_count (get m fh))) (sym tie)
  | inr ne ↦ ap handle_count (get_put_there m n new fh (λ e. ne (sym e))) ∙ ap
      (λ (b : Bool). cond b new.count (handle_count (get m fh))) (sym (other_is n fh ne))
]

gone_count : (m : Map FileHandle) (n fh : ℕ) → handle_count (get (remove m n) fh)
    ≡ cond (nat_eq n fh) 0 (handle_count (get m fh))
gone_count m n fh = elim (cases_eq n fh) [
  | inl e ↦
      let here : handle_count (get (remove m n) fh) ≡ 0 =
      subst (λ (x : ℕ). handle_count (get (remove m n) x) ≡ 0) e (ap handle_count (get_gone_here m n)) in
      let tie : nat_eq n fh ≡ true = subst (λ (x : ℕ). nat_eq n x ≡ true) e (same_is n) in
      here ∙ ap (λ (b : Bool). cond b 0 (handle_count (get m fh))) (sym tie)
  | inr ne ↦ ap handle_count (get_gone_there m n fh (λ e. ne (sym e))) ∙ ap
      (λ (b : Bool). cond b 0 (handle_count (get m fh))) (sym (other_is n fh ne))
]

-- ---- one handle

-- One use of a handle is given back.
pub back_count : (h : HandleTable) (n fh : ℕ) → fh_count (handle_back h n) fh ≡ fh_count h fh - one_at n fh
back_count h n fh = by (get h.handles n) refl
  where
    tied : (b : Bool) → nat_eq n fh ≡ b → fh_count h fh - cond b 1 0
        ≡ cond b (fh_count h n - 1) (fh_count h fh)
    tied true e = ap (λ (m : ℕ). fh_count h m - 1) (sym key)
      where
        key : n ≡ fh
        key = grind (arith, nat_tests, e)
    tied false e = omega arith

    by : (o : Option FileHandle) → get h.handles n ≡ o
        → fh_count (record h { handles = handles_less h.handles n o }) fh ≡ fh_count h fh - one_at n fh
    by None at = none (nat_eq n fh) refl
      where
        none : (b : Bool) → nat_eq n fh ≡ b → fh_count h fh ≡ fh_count h fh - cond b 1 0
        none true e =
            let key : n ≡ fh = grind (arith, nat_tests, e) in
            let zero_here : fh_count h fh ≡ 0 = subst (λ (m : ℕ). fh_count h m ≡ 0) key (ap handle_count at) in
            omega (arith, zero_here)
        none false e = omega arith
    by (Some x) at = less (nat_lt 1 x.count) refl
      where
        mine : fh_count h n ≡ x.count
        mine = ap handle_count at

        less : (b : Bool) → nat_lt 1 x.count ≡ b → fh_count
            (record h {
              handles = cond b (put h.handles n (record x { count = x.count - 1 }))
                  (remove h.handles n);
            }) fh ≡ fh_count h fh - one_at n fh
        less true more = put_count h.handles n fh (record x { count = x.count - 1 }) ∙ ap
            (λ (m : ℕ). cond (nat_eq n fh) (m - 1) (fh_count h fh)) (sym mine) ∙ sym (tied (nat_eq n fh) refl)
        less false all =
            let none : 0 ≡ fh_count h n - 1 = grind (arith, nat_tests, all, mine) in
            gone_count h.handles n fh ∙ ap (λ (m : ℕ). cond (nat_eq n fh) m (fh_count h fh)) none ∙ sym
            (tied (nat_eq n fh) refl)

-- A handle that is there is counted once more.
pub more_count : (h : HandleTable) (n fh : ℕ) → get h.handles n ≢ None
    → fh_count (handle_more h n) fh ≡ fh_count h fh + one_at n fh
more_count h n fh there = by (get h.handles n) refl
  where
    tied : (x : FileHandle) → get h.handles n ≡ Some x → (b : Bool) → nat_eq n fh ≡ b
        → cond b (x.count + 1) (fh_count h fh) ≡ fh_count h fh + cond b 1 0
    tied x at true e =
        let key : n ≡ fh = grind (arith, nat_tests, e) in
        let mine : fh_count h fh ≡ x.count = subst (λ (m : ℕ). fh_count h m ≡ x.count) key
        (ap handle_count at) in
        omega (arith, mine)
    tied x at false e = omega arith

    by : (o : Option FileHandle) → get h.handles n ≡ o
        → fh_count (record h { handles = handles_more h.handles n o }) fh ≡ fh_count h fh + one_at n fh
    by None at = absurd (there at)
    by (Some x) at = put_count h.handles n fh (record x { count = x.count + 1 }) ∙ tied x at (nat_eq n fh) refl

-- A new handle is counted once.
pub new_count : (h : HandleTable) (file fh : ℕ) → get h.handles h.next_fh ≡ None
    → fh_count (handle_opened h file) fh ≡ fh_count h fh + one_at h.next_fh fh
new_count h file fh none = put_count h.handles h.next_fh fh (record { file = file; count = 1 }) ∙ tied
    (nat_eq h.next_fh fh) refl
  where
    tied : (b : Bool) → nat_eq h.next_fh fh ≡ b → cond b 1 (fh_count h fh) ≡ fh_count h fh + cond b 1 0
    tied true e =
        let key : h.next_fh ≡ fh = grind (arith, nat_tests, e) in
        let zero_here : fh_count h fh ≡ 0 = subst (λ (m : ℕ). fh_count h m ≡ 0) key (ap handle_count none) in
        omega (arith, zero_here)
    tied false e = omega arith

-- ---- those of a reply

-- A reply names one open file at most.
pub opens_one : {F O : Type 0} → (reply : Reply F O) → OneAtMost (opens_in_reply reply)
opens_one (created x v o) = one o
opens_one (opened o) = one o
opens_one (found x v) = nothing
opens_one (missing v) = nothing
opens_one (attributes a) = nothing
opens_one (listed xs) = nothing
opens_one (listed_plus xs) = nothing
opens_one (content xs) = nothing
opens_one (written n) = nothing
opens_one (agreed a b flags) = nothing
opens_one done = nothing
opens_one (failed e) = nothing

tie_back : (a b : ℕ) → nat_eq a b ≡ nat_eq b a
tie_back a b = elim (cases_eq a b) [
  | inl e ↦ λ i. nat_eq (e i) (sym e i)
  | inr ne ↦ other_is a b ne ∙ sym (other_is b a (λ e. ne (sym e)))
]

-- A handle in a list of one.
pub number_alone : (n fh : ℕ) → one_at n fh ≡ count_by (nat_eq fh) (n ∷ [])
number_alone n fh =
    let alone = count_by-cons (nat_eq fh) n [] in
    let back = ap {B = ℕ} (λ (b : Bool). cond b 1 0) (tie_back n fh) in
    omega (arith, alone, back)

-- One more copy of a current reply.
pub counted_counts : (h : HandleTable) (wire : WireReply)
    → list_all (λ (fh : ℕ). is_some (get h.handles fh)) (opens_in_reply wire) ≡ true → (fh : ℕ)
    → fh_count (handles_counted h (opens_in_reply wire)) fh ≡ fh_count h fh + opens_in fh wire
counted_counts h wire current fh = by (opens_in_reply wire) (opens_one wire) current
  where
    there : (o : Option FileHandle) (b : Bool) → (is_some o && b) ≡ true → o ≢ None
    there None b e is = true≢false (sym e)
    there (Some x) b e is = absurd (cc (is))

    by : (ns : List ℕ) → OneAtMost ns → list_all (λ (n : ℕ). is_some (get h.handles n)) ns ≡ true
        → fh_count (handles_counted h ns) fh ≡ fh_count h fh + count_by (nat_eq fh) ns
    by ns nothing e = omega arith
    by ns (one n) e =
        let more = more_count h n fh (there (get h.handles n) true e) in
        let alone = number_alone n fh in
        omega (arith, more, alone)

-- A refused copy comes back.
pub given_back_counts : (h : HandleTable) (wire : WireReply) (fh : ℕ)
    → fh_count (handles_back h (opens_in_reply wire)) fh ≡ fh_count h fh - opens_in fh wire
given_back_counts h wire fh = by (opens_in_reply wire) (opens_one wire)
  where
    by : (ns : List ℕ) → OneAtMost ns → fh_count (handles_back h ns) fh
        ≡ fh_count h fh - count_by (nat_eq fh) ns
    by ns nothing = omega arith
    by ns (one n) =
        let less = back_count h n fh in
        let alone = number_alone n fh in
        omega (arith, less, alone)

-- A new reply.
pub wire_opened : (choice : ℕ → ℕ) (t : NodeTable) (tree : Tree) (h : HandleTable) → get h.handles h.next_fh ≡ None
    → (reply : Reply ℕ ℕ) (fh : ℕ)
    → fh_count (all_opened h (opens_in_reply reply)) fh
    ≡ fh_count h fh + opens_in fh (wire_of choice t tree h.next_fh reply)
wire_opened choice t tree h none (created file v o) fh = let new = new_count h o fh none in let alone =
    number_alone h.next_fh fh in omega (arith, new, alone)
wire_opened choice t tree h none (opened o) fh = let new = new_count h o fh none in let alone =
    number_alone h.next_fh fh in omega (arith, new, alone)
wire_opened choice t tree h none (found file v) fh = omega arith
wire_opened choice t tree h none (missing v) fh = omega arith
wire_opened choice t tree h none (attributes a) fh = omega arith
wire_opened choice t tree h none (listed xs) fh = omega arith
wire_opened choice t tree h none (listed_plus xs) fh = omega arith
wire_opened choice t tree h none (content xs) fh = omega arith
wire_opened choice t tree h none (written n) fh = omega arith
wire_opened choice t tree h none (agreed a b flags) fh = omega arith
wire_opened choice t tree h none done fh = omega arith
wire_opened choice t tree h none (failed e) fh = omega arith

-- ---- the files of file handles

-- A handle that is there still is of the same file.
abbrev pub SameFiles : HandleTable → HandleTable → Type 0
SameFiles h h' = (fh file : ℕ) → get h'.handles fh ≢ None → is_open h fh file ≡ true → is_open h' fh file ≡ true

pub back_files : (h : HandleTable) (n : ℕ) → SameFiles h (handle_back h n)
back_files h n fh file there is = by (get (handle_back h n).handles fh) refl
  where
    by : (o : Option FileHandle) → get (handle_back h n).handles fh ≡ o → is_file_of file o ≡ true
    by None at = absurd (there at)
    by (Some y) at =
        let was = handle_back_left h n fh y at in
        let x = was.0 in
        let before : nat_eq x.file file ≡ true = ap (is_file_of file) (sym was.1) ∙ is in
        ap (λ (m : ℕ). nat_eq m file) was.2 ∙ before

pub given_back_files : (h : HandleTable) (wire : WireReply) → SameFiles h (handles_back h (opens_in_reply wire))
given_back_files h wire = by (opens_in_reply wire) (opens_one wire)
  where
    by : (ns : List ℕ) → OneAtMost ns → SameFiles h (handles_back h ns)
    by ns nothing = λ fh file there is. is
    by ns (one n) = back_files h n
