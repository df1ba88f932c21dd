-- The nodes that a session counts are held by the server, under the generations and for the files that entries gave.
use Rattle.std.proofs.Common.{◌≡◌, ◌≢◌, ◌≤◌, ◌<◌, ◌⊎◌, inl, inr, ℕ, ◌+◌, ◌-◌, Bool, true, false, not, cond, List, [], ◌∷◌, ◌++◌, Option, Some, None, refl, sym, ◌∙◌, ap, subst, append_assoc, append-nil, nat_eq, arith}
use Rattle.std.specs.Prelude.{sum_by}
use Rattle.std.specs.List.{list_all}
use Rattle.std.proofs.lemmas.Bool.{and_parts, cases_eq, false≢true}
use Rattle.std.proofs.lemmas.List.Sums.{sum_by-cons}
use Rattle.fuse_protocol.specs.declared.opcode.Opcode.{Opcode}
use Rattle.fuse_protocol.specs.declared.opcode.Opcode.TheVariants as op
use Rattle.fuse_sessions.specs.declared.act.Act.{Act}
use Rattle.fuse_sessions.specs.declared.act.Act.TheVariants as act
use Rattle.fuse_sessions.specs.declared.act.File.{File}
use Rattle.fuse_sessions.specs.declared.act.Fit.{Fit}
use Rattle.fuse_sessions.specs.declared.act.Fit.TheVariants as fit
use Rattle.fuse_sessions.specs.declared.act.Taken.{Taken}
use Rattle.fuse_sessions.specs.declared.act.Taken.TheVariants as taken
use Rattle.fuse_sessions.specs.declared.fault.Fault.{Fault}
use Rattle.fuse_sessions.specs.declared.fault.Fault.TheVariants as fault
use Rattle.fuse_sessions.specs.Sessions.{Session}
use Rattle.fuse_sessions.specs.Counts.{forgets_of, gives_least, known, least_count}
use Rattle.fuse_sessions.specs.Faults.{Breaks, BreaksBeginning, BreaksTaking}
use Rattle.fuse_sessions.proofs.FileLaws.{GivesNoFile, cases_zero, file_or_none, known_first, known_later, known_still, no_more}
use Rattle.fuse_sessions.proofs.Laws.{left-more}
use Rattle.fuse_spec.specs.Server.Nodes.{HeldNode, NodeTable}
use Rattle.fuse_spec.specs.Server.Server.{Server}
use Rattle.fuse_spec.specs.Claim.Denotes.{Denotes}
use Rattle.fuse_theorem.specs.Lookups.{IsHeldAs}
use Rattle.served_sessions.proofs.Fine.{IsFine}
use Rattle.served_sessions.proofs.Free.{AreFree, free_append}
use Rattle.served_sessions.proofs.NodeFiles.{IsFileAs, IsNodeOf, MayBeOf, of_node, one_file_as}

-- A node is of two generations, kinds or inode numbers, or is given again for another file.
abbrev pub is_of_nodes : Fault → Bool
is_of_nodes fault.NodeOfTwoGenerations = true
is_of_nodes fault.NodeOfTwoKinds = true
is_of_nodes fault.NodeOfTwoInodeNumbers = true
is_of_nodes fault.NodeGivenAgain = true
is_of_nodes f = false

-- ---- acts that give nothing

-- an act that gives or describes no node, and is no such fault
abbrev pub is_calm : Act → Bool
is_calm (act.Faulty f) = not (is_of_nodes f)
is_calm (act.Gives node file certain) = false
is_calm (act.Describes node kind ino) = false
is_calm a = true

another : (b : Bool) → not b ≡ true → b ≡ true → ⊥
another true n e = cc
another false n e = cc

begins : (s : Session) (o : Opcode) (f : Fault) → BreaksBeginning s o f → is_of_nodes f ≡ true → ⊥
begins s op.Init fault.NodeOfTwoGenerations b is = b
begins s op.Init fault.NodeOfTwoKinds b is = b
begins s op.Init fault.NodeOfTwoInodeNumbers b is = b
begins s op.Init fault.NodeGivenAgain b is = b
begins s o fault.NodeOfTwoGenerations b is = b
begins s o fault.NodeOfTwoKinds b is = b
begins s o fault.NodeOfTwoInodeNumbers b is = b
begins s o fault.NodeGivenAgain b is = b
begins s o f b is = false≢true is

takes : (s : Session) (u : ℕ) (t : Taken) (body : Fit) (f : Fault) → BreaksTaking s u t body f → is_of_nodes f ≡ true → ⊥
takes s u t body fault.AcceptedAfterTheEnd b is = false≢true is
takes s u t body fault.AcceptedReplyToNothing b is = false≢true is
takes s u t body fault.AcceptedWrongBody b is = false≢true is
takes s u t body fault.RefusedReply b is = false≢true is
takes s u taken.Accepted fit.Fits f b is = b
takes s u taken.Accepted fit.FitsNot f b is = b
takes s u taken.Accepted fit.MayFit f b is = b
takes s u taken.NoEntry body f b is = b
takes s u taken.Invalid fit.Fits f b is = b
takes s u taken.Invalid fit.FitsNot f b is = b
takes s u taken.Invalid fit.MayFit f b is = b
takes s u taken.Failed body f b is = b

-- only an entry or attributes show one
calm_law : (s : Session) (a : Act) (f : Fault) → is_calm a ≡ true → Breaks s a f → is_of_nodes f ≡ true → ⊥
calm_law s (act.Faulty that) f calm b is = another (is_of_nodes that) calm (ap is_of_nodes (sym b) ∙ is)
calm_law s (act.Gives node file certain) f calm b is = false≢true calm
calm_law s (act.Describes node kind ino) f calm b is = false≢true calm
calm_law s (act.Begins o) f calm b is = begins s o f b is
calm_law s (act.Takes u t body) f calm b is = takes s u t body f b is
calm_law s a fault.NodeOfTwoGenerations calm b is = b
calm_law s a fault.NodeOfTwoKinds calm b is = b
calm_law s a fault.NodeOfTwoInodeNumbers calm b is = b
calm_law s a fault.NodeGivenAgain calm b is = b
calm_law s a f calm b is = false≢true is

calm_gives_none : (n : ℕ) (a : Act) → is_calm a ≡ true → GivesNoFile n a
calm_gives_none n (act.Gives node file certain) calm = absurd (false≢true calm)
calm_gives_none n (act.Describes node kind ino) calm = absurd (false≢true calm)
calm_gives_none n a calm = record { least = refl; file = λ before. refl }

two_or_fewer : (n : ℕ) → (2 ≤ n) ⊎ (n < 2)
two_or_fewer n = grind (arith)

-- ---- what is tracked

-- Each node that the session counts is counted so often at most, and held under its generation. What it knows of a node
-- is so for as long as the node is held under that generation. No node below 2 is counted.
pub record Tracks (v : Server) (most : ℕ → ℕ) (s : Session) : Type 0 where
  pub counts : (n : ℕ) → 2 ≤ n → least_count s n ≤ most n
  pub none : (n : ℕ) → n < 2 → least_count s n ≡ 0
  pub held : (n : ℕ) (f : File) → 2 ≤ n → 0 < least_count s n → known s n ≡ Some f → IsHeldAs v.nodes n f.generation
  pub files : (n : ℕ) (f : File) → 2 ≤ n → known s n ≡ Some f → MayBeOf v n f

-- one lookup more of a node
abbrev pub one_more : ℕ → (ℕ → ℕ) → ℕ → ℕ
one_more m most n = most n + cond (nat_eq m n) 1 0

one_generation : (t : NodeTable) (n g h : ℕ) → IsHeldAs t n g → IsHeldAs t n h → g ≡ h
one_generation t n g h a b =
    let first = a.1 in
    let second = b.1 in
    let row : first.row ≡ second.row = cc (first.there, second.there) in
    sym first.same_generation ∙ ap (λ (r : HeldNode). r.generation) row ∙ second.same_generation

some_file : (f g : File) → ◌≡◌ {A = Option File} (Some f) (Some g) → f ≡ g
some_file f g e = ap of e
  where
    of : Option File → File
    of None = f
    of (Some x) = x

module _ (v : Server) (fine : IsFine v) (most : ℕ → ℕ) (s : Session) (tracks : Tracks v most s) where
  -- with an act that gives nothing
  still : (a : Act) → ((n : ℕ) → GivesNoFile n a) → Tracks v most (s ++ a ∷ [])
  still a gives = record {
    counts = λ n low. let less = no_more n s a (gives n) in let was = tracks.counts n low in omega (arith, less, was);
    none = λ n low. let less = no_more n s a (gives n) in let was = tracks.none n low in omega (arith, less, was);
    held = λ n f low some is. tracks.held n f low
        (let less = no_more n s a (gives n) in omega (arith, less, some)) (sym (known_still n s a (gives n)) ∙ is);
    files = λ n f low is. tracks.files n f low (sym (known_still n s a (gives n)) ∙ is);
  }

  -- with an entry of a node that is held for its file
  module _ (m : ℕ) (file : File) (low : 2 ≤ m) (node : IsNodeOf v m file) where
    abbrev node_of : Act → ℕ
    node_of (act.Gives k x c) = k
    node_of a = m

    -- of another node nothing is given
    other_none : (n : ℕ) → m ≢ n → GivesNoFile n (act.Gives m file true)
    other_none n ne = elim (file_or_none n (act.Gives m file true)) [
      | inl other ↦ absurd (ne (ap node_of other.1))
      | inr gives ↦ gives
    ]

    held_here : (f : File) → known (s ++ act.Gives m file true ∷ []) m ≡ Some f → IsHeldAs v.nodes m f.generation
    held_here f is = elim (cases_zero (least_count s m)) [
      | inl zero ↦ subst (λ (x : File). IsHeldAs v.nodes m x.generation)
          (some_file file f (sym (known_first m s file zero) ∙ is)) (node.0, node.1)
      | inr some ↦ tracks.held m f low some (sym (known_later m s file some) ∙ is)
    ]

    file_here : (f : File) → known (s ++ act.Gives m file true ∷ []) m ≡ Some f → MayBeOf v m f
    file_here f is = elim (cases_zero (least_count s m)) [
      | inl zero ↦ subst (MayBeOf v m) (some_file file f (sym (known_first m s file zero) ∙ is))
          (of_node v fine m file low node)
      | inr some ↦ tracks.files m f low (sym (known_later m s file some) ∙ is)
    ]

    given_certain : Tracks v (one_more m most) (s ++ act.Gives m file true ∷ [])
    given_certain = record {
      counts = λ n low'.
          let more : least_count (s ++ act.Gives m file true ∷ []) n ≡ least_count s n + cond (nat_eq m n) 1 0 - 0 =
          left-more (gives_least n) (forgets_of n) s (act.Gives m file true) (inr refl) in
          let was = tracks.counts n low' in
          omega (arith, more, was);
      none = λ n few.
          let less = no_more n s (act.Gives m file true) (other_none n (λ e. omega (arith, e, few, low))) in
          let was = tracks.none n few in
          omega (arith, less, was);
      held = λ n f low' some is. elim (cases_eq m n) [
        | inl e ↦ subst (λ (k : ℕ). IsHeldAs v.nodes k f.generation) e (held_here f
            (subst (λ (k : ℕ). known (s ++ act.Gives m file true ∷ []) k ≡ Some f) (sym e) is))
        | inr ne ↦ tracks.held n f low'
            (let less = no_more n s (act.Gives m file true) (other_none n ne) in omega (arith, less, some))
            (sym (known_still n s (act.Gives m file true) (other_none n ne)) ∙ is)
      ];
      files = λ n f low' is. elim (cases_eq m n) [
        | inl e ↦ subst (λ (k : ℕ). MayBeOf v k f) e (file_here f
            (subst (λ (k : ℕ). known (s ++ act.Gives m file true ∷ []) k ≡ Some f) (sym e) is))
        | inr ne ↦ tracks.files n f low' (sym (known_still n s (act.Gives m file true) (other_none n ne)) ∙ is)
      ];
    }

    pub given : (certain : Bool) → Tracks v (one_more m most) (s ++ act.Gives m file certain ∷ [])
    given true = given_certain
    given false =
        let same = still (act.Gives m file false) (λ n. record { least = refl; file = λ before. refl }) in
        record {
          counts = λ n low'. let was = same.counts n low' in omega (arith, was);
          none = same.none;
          held = same.held;
          files = same.files;
        }

    -- what was known of it is so still
    same_as : (old : File) → known s m ≡ Some old → old.generation ≡ file.generation
        → (old.kind ≡ file.kind) × (old.ino ≡ file.ino)
    same_as old is same =
        let may = tracks.files m old low is in
        one_file_as v.tree node.0 old.kind old.ino file.kind file.ino (may.same node.0
        (subst (λ (g : ℕ). Denotes v.nodes m g node.0) (sym same) node.1)) node.2

    -- It shows no other generation or file.
    pub given_free : (certain : Bool) (f : Fault) → Breaks s (act.Gives m file certain) f → is_of_nodes f ≡ true → ⊥
    given_free certain fault.NodeOfTwoGenerations b is =
        b.3 (one_generation v.nodes m b.1.generation file.generation (tracks.held m b.1 low b.0 b.2) (node.0, node.1))
    given_free certain fault.NodeOfTwoKinds b is = b.4 (same_as b.1 b.2 b.3).0
    given_free certain fault.NodeOfTwoInodeNumbers b is = b.5 (same_as b.1 b.2 b.3).1
    given_free certain fault.NodeGivenAgain b is = by b.3.1
      where
        by : ((let old = b.1 in old.kind) ≢ file.kind) ⊎ ((let old = b.1 in old.ino) ≢ file.ino) → ⊥
        by (inl other) = other (same_as b.1 b.2 b.3.0).0
        by (inr other) = other (same_as b.1 b.2 b.3.0).1
    given_free certain f b is = false≢true is

  -- with attributes of a node's file
  pub described : (n kind ino : ℕ) → Tracks v most (s ++ act.Describes n kind ino ∷ [])
  described n kind ino = still (act.Describes n kind ino) (λ m. record { least = refl; file = λ before. refl })

  low_or_counted : (n : ℕ) → 0 < least_count s n → 2 ≤ n
  low_or_counted n some = elim (two_or_fewer n) [
    | inl le ↦ le
    | inr lt ↦ let none = tracks.none n lt in absurd (omega (arith, none, some))
  ]

  same_described : (n kind ino : ℕ) → (2 ≤ n → (generation file : ℕ) → Denotes v.nodes n generation file
      → IsFileAs v.tree file kind ino) → 0 < least_count s n → (old : File) → known s n ≡ Some old
      → (old.kind ≡ kind) × (old.ino ≡ ino)
  same_described n kind ino so some old is =
      let low = low_or_counted n some in
      let held = tracks.held n old low some is in
      let may = tracks.files n old low is in
      one_file_as v.tree held.0 old.kind old.ino kind ino (may.same held.0 held.1) (so low old.generation held.0 held.1)

  pub described_free : (n kind ino : ℕ) → (2 ≤ n → (generation file : ℕ) → Denotes v.nodes n generation file
      → IsFileAs v.tree file kind ino) → (f : Fault) → Breaks s (act.Describes n kind ino) f → is_of_nodes f ≡ true → ⊥
  described_free n kind ino so fault.NodeOfTwoGenerations b is = b
  described_free n kind ino so fault.NodeOfTwoKinds b is = b.3 (same_described n kind ino so b.0 b.1 b.2).0
  described_free n kind ino so fault.NodeOfTwoInodeNumbers b is = b.4 (same_described n kind ino so b.0 b.1 b.2).1
  described_free n kind ino so fault.NodeGivenAgain b is = b
  described_free n kind ino so f b is = false≢true is

-- Acts that give nothing are free of such faults, and what is tracked stays so.
pub record Calm (v : Server) (most : ℕ → ℕ) (s : Session) (acts : List Act) : Type 0 where
  pub free : AreFree is_of_nodes s acts
  pub tracks : Tracks v most (s ++ acts)

pub none_given : (v : Server) (most : ℕ → ℕ) (s : Session) → Tracks v most s → Calm v most s []
none_given v most s tracks = record { free = tt; tracks = subst (Tracks v most) (sym (append-nil s)) tracks }

pub calm_acts : (v : Server) → IsFine v → (most : ℕ → ℕ) (s : Session) (acts : List Act) → list_all is_calm acts ≡ true
    → Tracks v most s → Calm v most s acts
calm_acts v fine most s [] are tracks = none_given v most s tracks
calm_acts v fine most s (a ∷ acts) are tracks =
    let both = and_parts (is_calm a) (list_all is_calm acts) are in
    let next = still v fine most s tracks a (λ n. calm_gives_none n a both.0) in
    let rest = calm_acts v fine most (s ++ a ∷ []) acts both.1 next in
    record {
      free = (λ f b is. calm_law s a f both.0 b is, rest.free);
      tracks = subst (Tracks v most) (append_assoc s (a ∷ []) acts) rest.tracks;
    }

pub then_calm : (v : Server) (most more : ℕ → ℕ) (s : Session) (xs ys : List Act) → AreFree is_of_nodes s xs
    → Calm v more (s ++ xs) ys → Calm v more s (xs ++ ys)
then_calm v most more s xs ys free rest = record {
  free = free_append is_of_nodes s xs ys free rest.free;
  tracks = subst (Tracks v more) (append_assoc s xs ys) rest.tracks;
}

-- ---- lookups that are forgotten

-- what is counted, less what is forgotten
pub forgets_less : (n : ℕ) (s : Session) (acts : List Act) → list_all is_calm acts ≡ true
    → least_count (s ++ acts) n ≤ least_count s n - sum_by (forgets_of n) acts
forgets_less n s [] are = let none : least_count (s ++ []) n ≡ least_count s n = ap (λ (l : Session). least_count l n) (append-nil s) in
    omega (arith, none)
forgets_less n s (a ∷ acts) are =
    let both = and_parts (is_calm a) (list_all is_calm acts) are in
    let none = calm_gives_none n a both.0 in
    let more : least_count (s ++ a ∷ []) n ≡ least_count s n + gives_least n a - forgets_of n a =
    left-more (gives_least n) (forgets_of n) s a (inl none.least) in
    let rest = forgets_less n (s ++ a ∷ []) acts both.1 in
    let whole : least_count (s ++ a ∷ [] ++ acts) n ≡ least_count (s ++ (a ∷ acts)) n =
    ap (λ (l : Session). least_count l n) (append_assoc s (a ∷ []) acts) in
    let sum = sum_by-cons (forgets_of n) a acts in
    let no = none.least in
    omega (arith, more, rest, whole, sum, no)

-- and what is known of a node
pub known_same : (n : ℕ) (s : Session) (acts : List Act) → list_all is_calm acts ≡ true → known (s ++ acts) n ≡ known s n
known_same n s [] are = ap (λ (l : Session). known l n) (append-nil s)
known_same n s (a ∷ acts) are =
    let both = and_parts (is_calm a) (list_all is_calm acts) are in
    ap (λ (l : Session). known l n) (sym (append_assoc s (a ∷ []) acts)) ∙ known_same n (s ++ a ∷ []) acts both.1
    ∙ known_still n s a (calm_gives_none n a both.0)
