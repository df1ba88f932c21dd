-- Where a held request can be performed, no counter goes past its end, whatever free nodeids are given.
use Rattle.std.proofs.Common.{◌≡◌, ℕ, ◌≤◌, ◌<◌, ◌^◌, Bool, true, false, ◌||◌, List, [], ◌∷◌, Some, refl, ap, subst, ◌∙◌, arith}
use Rattle.std.specs.Prelude.{nat_lt}
use Rattle.std.proofs.lemmas.Bool.{le-ltb, ltb-false}
use Rattle.fuse_spec.specs.declared.Minor.{Minor}
use Rattle.fuse_spec.specs.Values.Maps.{Map, get, remove}
use Rattle.fuse_spec.specs.Values.Numbers.{counter_end}
use Rattle.fuse_spec.specs.Files.Operations.{Reply, files_in_reply, opens_in_reply}
use Rattle.fuse_spec.specs.declared.Validity.{Validity}
use Rattle.fuse_spec.specs.declared.Entry.{Entry}
use Rattle.fuse_spec.specs.Server.Copies.{rows_counted, handles_counted, sent_again}
use Rattle.fuse_spec.specs.Server.Nodes.{NodeTable, HandleTable, row_more, handle_more, MayChoose}
use Rattle.fuse_spec.specs.Server.Performs.{performed, served, files_given, replying}
use Rattle.fuse_spec.specs.Server.Server.{Server, HeldRequest, Kept, Copy, without_unheld_files}
use Rattle.fs_files.specs.Performing.{said, tree_said, handles_said}
use Rattle.fs_files.specs.Plans.{HasNumbers}
use Rattle.fs_files.specs.Values.{FilesState}
use Rattle.fs_server.specs.Values.{server_with}
use Rattle.fs_server.specs.Steps.{CanPerform}
use Rattle.fuse_spec.specs.Server.Refusals.{is_server_past_end}
use Rattle.fs_server.proofs.Served.{all_generations, bare, ends_live, files_listed, end_live, end_lost, lost_is, numbers_of, all_numbers, numbers_said}

none_past : (a b c d e : Bool) → a ≡ false → b ≡ false → c ≡ false → d ≡ false → e ≡ false
    → (a || b || c || d || e) ≡ false
none_past a b c d e fa fb fc fd fe = λ i. fa i || fb i || fc i || fd i || fe i

-- that no counter is past its end, counter by counter
record EachWithin (s : Server) : Type 0 where
  pub inodes : s.tree.next_inode ≤ 2 ^ 62
  pub cookies : s.tree.next_cookie ≤ 2 ^ 62
  pub generations : s.nodes.next_generation ≤ 2 ^ 62
  pub numbers : s.handles.next_fh ≤ 2 ^ 62
  pub copies : s.next_copy ≤ 2 ^ 62

first_or : (a b : Bool) → (a || b) ≡ false → a ≡ false
first_or true b e = e
first_or false b e = refl

second_or : (a b : Bool) → (a || b) ≡ false → b ≡ false
second_or true b e = absurd (cc e)
second_or false b e = e

low : (n : ℕ) → nat_lt counter_end n ≡ false → n ≤ 2 ^ 62
low n e = ltb-false counter_end n e

each_within : (s : Server) → is_server_past_end s ≡ false → EachWithin s
each_within s e =
    let a = nat_lt counter_end s.tree.next_inode in
    let b = nat_lt counter_end s.tree.next_cookie in
    let c = nat_lt counter_end s.nodes.next_generation in
    let d = nat_lt counter_end s.handles.next_fh in
    let f = nat_lt counter_end s.next_copy in
    let four = first_or (a || b || c || d) f e in
    let three = first_or (a || b || c) d four in
    let two = first_or (a || b) c three in
    record {
      inodes = low s.tree.next_inode (first_or a b two);
      cookies = low s.tree.next_cookie (second_or a b two);
      generations = low s.nodes.next_generation (second_or (a || b) c three);
      numbers = low s.handles.next_fh (second_or (a || b || c) d four);
      copies = low s.next_copy (second_or (a || b || c || d) f e);
    }

within : (n : ℕ) → n ≤ 2 ^ 62 → nat_lt counter_end n ≡ false
within n le = le-ltb counter_end n (omega (arith, le))

all_within : (s : Server) → EachWithin s → is_server_past_end s ≡ false
all_within s each =
    none_past (nat_lt counter_end s.tree.next_inode) (nat_lt counter_end s.tree.next_cookie)
    (nat_lt counter_end s.nodes.next_generation) (nat_lt counter_end s.handles.next_fh) (nat_lt counter_end s.next_copy)
    (within s.tree.next_inode each.inodes) (within s.tree.next_cookie each.cookies)
    (within s.nodes.next_generation each.generations) (within s.handles.next_fh each.numbers)
    (within s.next_copy each.copies)

module _ (files : FilesState) (held : Map HeldRequest) (kept : Map Kept) (copies : Map Copy) (next : ℕ) (v : Validity)
    (m : Minor) (unique : ℕ) (h : HeldRequest) (there : get held unique ≡ Some h) where
  abbrev old : Bool → Server
  old a = server_with files held kept copies next v m a

  abbrev reply : Reply ℕ ℕ
  reply = said (bare files held kept copies next v m unique h there) h

  live_within : CanPerform (old false) unique → is_server_past_end (old false) ≡ false → (choice : ℕ → ℕ)
      → MayChoose choice files.nodes (files_given (old false) h)
      → is_server_past_end (served choice (old false) unique h).server ≡ false
  live_within can before choice may =
      let each = each_within (old false) before in
      let has : HasNumbers (tree_said
      (bare files held kept copies next v m unique h there) h) files.nodes files.handles false reply =
      numbers_of files held kept copies next v m unique h there false can in
      let next_low = can.copy refl in
      let generations = all_generations choice files.nodes (files_in_reply reply) can.rising
      (subst (MayChoose choice files.nodes) (files_listed files held kept copies next v m unique h there) may) in
      let most = has.generations refl in
      let opens = all_numbers (handles_said (bare files held kept copies next v m unique h there) h)
      (opens_in_reply reply) in
      let start = numbers_said (bare files held kept copies next v m unique h there) h in
      let numbers = has.numbers refl in
      ap is_server_past_end (ends_live files held kept copies next v m unique h there choice)
      ∙ all_within (end_live files held kept copies next v m unique h there choice) (record {
        inodes = has.inodes;
        cookies = has.cookies;
        generations = omega (arith, generations, most);
        numbers = omega (arith, opens, start, numbers);
        copies = omega (arith, next_low);
      })

  lost_within : CanPerform (old true) unique → is_server_past_end (old true) ≡ false → (choice : ℕ → ℕ)
      → is_server_past_end (served choice (old true) unique h).server ≡ false
  lost_within can before choice =
      let each = each_within (old true) before in
      let has : HasNumbers (tree_said
      (bare files held kept copies next v m unique h there) h) files.nodes files.handles true reply =
      numbers_of files held kept copies next v m unique h there true can in
      let start = numbers_said (bare files held kept copies next v m unique h there) h in
      let old_numbers = each.numbers in
      ap (λ (s : Server). is_server_past_end (replying (without_unheld_files s) unique
      (performed choice (server_with files (remove held unique) kept copies next v m true) h).wire))
      (lost_is files held kept copies next v m unique h there choice)
      ∙ all_within (end_lost files held kept copies next v m unique h there choice) (record {
        inodes = has.inodes;
        cookies = has.cookies;
        generations = each.generations;
        numbers = omega (arith, start, old_numbers);
        copies = each.copies;
      })

  any_within : (a : Bool) → CanPerform (old a) unique → is_server_past_end (old a) ≡ false → (choice : ℕ → ℕ)
      → MayChoose choice files.nodes (files_given (old a) h)
      → is_server_past_end (served choice (old a) unique h).server ≡ false
  any_within true can before choice may = lost_within can before choice
  any_within false can before choice may = live_within can before choice may

abbrev files_alone : Server → FilesState
files_alone s = record { tree = s.tree; nodes = s.nodes; handles = s.handles; node_room = 0; open_room = 0 }

-- Where a held request can be performed, no counter is past its end afterwards, whatever is chosen.
pub performs_within : (s : Server) (unique : ℕ) (h : HeldRequest) → get s.held unique ≡ Some h → CanPerform s unique
    → is_server_past_end s ≡ false → (choice : ℕ → ℕ) → MayChoose choice s.nodes (files_given s h)
    → is_server_past_end (served choice s unique h).server ≡ false
performs_within s unique h there can before choice may =
    any_within (files_alone s) s.held s.kept s.copies s.next_copy s.validity s.minor unique h there s.aborted can before choice may

-- ---- one more copy

rows_next : (t : NodeTable) (gs : List Entry) → (rows_counted t gs).next_generation ≡ t.next_generation
rows_next t [] = refl
rows_next t (g ∷ gs) = rows_next (row_more t g.nodeid) gs

numbers_next : (t : HandleTable) (ns : List ℕ) → (handles_counted t ns).next_fh ≡ t.next_fh
numbers_next t [] = refl
numbers_next t (n ∷ ns) = numbers_next (handle_more t n) ns

-- Where one more copy can be sent, no counter is past its end afterwards.
pub copies_within : (s : Server) (unique : ℕ) (kept : Kept) → s.next_copy < 2 ^ 62 → is_server_past_end s ≡ false
    → is_server_past_end (sent_again s unique kept) ≡ false
copies_within s unique kept low before =
    let each = each_within s before in
    let gs = files_in_reply kept.wire in
    let ns = opens_in_reply kept.wire in
    let rows = rows_next s.nodes gs in
    let numbers = numbers_next s.handles ns in
    let old_generations = each.generations in
    let old_numbers = each.numbers in
    all_within (sent_again s unique kept) (record {
      inodes = each.inodes;
      cookies = each.cookies;
      generations = omega (arith, rows, old_generations);
      numbers = omega (arith, numbers, old_numbers);
      copies = omega (arith, low);
    })
