-- What the frames that are sent say by their headers.
use Rattle.std.proofs.Common.{◌≡◌, ◌⊎◌, inl, inr, ℕ, ◌≤◌, ◌<◌, ◌^◌, Bool, true, false, List, [], ◌∷◌, ◌++◌, Option, Some, None, nat_eq, length, refl, sym, ◌∙◌, ap, subst, subst₂, append-nil, arith}
use Rattle.std.proofs.lemmas.Bool.{false≢true}
use Rattle.fk_fields.specs.Fields.{Field, number_at, raw, u32, u64, free32, spellings, ReadsAs}
use Rattle.fk_wire.specs.Opcodes.{code_of, has_node}
use Rattle.fk_wire.specs.Requests.{RequestContent, nodeid_field, opcode_of, request_body}
use Rattle.fk_wire.specs.Requests as wire
use Rattle.fk_wire.proofs.Frames.{reads_back, spellings-append}
use Rattle.fuse_spec.specs.declared.Opened.{Opened}
use Rattle.fk_wire.specs.Pairs.{forget_ones}
use Rattle.fuse_spec.specs.Files.Operations as operation
use Rattle.fuse_spec.specs.Kernel.Messages.{Forget, Request, RequestBody, asks, init, interrupt}
use Rattle.fuse_spec.specs.Server.Server.{forgets_of}
use Rattle.fuse_frames.specs.RequestTies.{SaysRequest, body_in}
use Rattle.fk_drive_frames.specs.OwnRequests.{IsOpendir, IsReleasedir, releasedir_fields}
use Rattle.fuse_sessions.specs.UnreadRequests.{opcode_in, unique_in}

-- ---- frames of the kernel's requests

abbrev pub is_interrupt : RequestBody → Bool
is_interrupt (interrupt original) = true
is_interrupt body = false

abbrev interrupts_in : Option RequestBody → Bool
interrupts_in None = false
interrupts_in (Some body) = is_interrupt body

code_of_interrupt : (nodeid : ℕ) (c : RequestContent) (body : RequestBody) → body_in nodeid c ≡ Some body
    → nat_eq (code_of (opcode_of c)) 36 ≡ is_interrupt body
code_of_interrupt nodeid (wire.lookup name) body says = ap interrupts_in says
code_of_interrupt nodeid c body says = ap interrupts_in says

abbrev pub is_init_body : RequestBody → Bool
is_init_body (init flags) = true
is_init_body body = false

abbrev init_in : Option RequestBody → Bool
init_in None = false
init_in (Some body) = is_init_body body

code_of_init : (nodeid : ℕ) (c : RequestContent) (body : RequestBody) → body_in nodeid c ≡ Some body
    → nat_eq (code_of (opcode_of c)) 26 ≡ is_init_body body
code_of_init nodeid (wire.lookup name) body says = ap init_in says
code_of_init nodeid c body says = ap init_in says

pub past_node : (b : Bool) (node : ℕ) (fs : List Field) (bytes : List ℕ)
    → ReadsAs 16 (nodeid_field b node ∷ free32 0 ∷ free32 0 ∷ free32 0 ∷ free32 0 ∷ fs) bytes → ReadsAs 40 fs bytes
past_node true node fs bytes reads = reads.1
past_node false node fs bytes reads = reads

pub some_body : (a b : RequestBody) → ◌≡◌ {A = Option RequestBody} (Some a) (Some b) → a ≡ b
some_body a b same = ap of same
  where
    of : Option RequestBody → RequestBody
    of None = a
    of (Some x) = x

module _ (frame : List ℕ) (request : Request) (says : SaysRequest frame request) where
  pub frame_unique : unique_in frame ≡ request.unique
  frame_unique = says.spells.3.1.1.0 ∙ says.unique

  pub frame_interrupt : nat_eq (opcode_in frame) 36 ≡ is_interrupt request.body
  frame_interrupt =
      ap (λ (n : ℕ). nat_eq n 36) says.spells.3.1.0
      ∙ code_of_interrupt says.message.nodeid says.message.content request.body says.says

  pub frame_init : nat_eq (opcode_in frame) 26 ≡ is_init_body request.body
  frame_init =
      ap (λ (n : ℕ). nat_eq n 26) says.spells.3.1.0
      ∙ code_of_init says.message.nodeid says.message.content request.body says.says

  -- An INTERRUPT has its request's number behind the header.
  original_of : (c : RequestContent) → body_in says.message.nodeid c ≡ Some request.body → ReadsAs 40 (request_body c) frame
      → is_interrupt request.body ≡ true → request.body ≡ interrupt (number_at 40 8 frame)
  original_of (wire.interrupt original) is reads interrupts =
      some_body request.body (interrupt original) (sym is) ∙ ap interrupt (sym reads.0)
  original_of c is reads interrupts = absurd (false≢true (ap interrupts_in is ∙ interrupts))

  pub frame_original : is_interrupt request.body ≡ true → request.body ≡ interrupt (number_at 40 8 frame)
  frame_original = original_of says.message.content says.says (past_node
      (has_node (opcode_of says.message.content)) says.message.nodeid (request_body says.message.content) frame
      says.spells.3.1.1.1)

-- A WRITE's size is that of its bytes.
abbrev pub SmallBody : RequestBody → Type 0
SmallBody (asks (operation.write o offset bytes)) = length bytes ≤ 4096
SmallBody body = Unit {0}

-- It is no WRITE, or a small one.
abbrev pub SmallFrame : List ℕ → Type 0
SmallFrame frame = nat_eq (opcode_in frame) 16 ≡ true → number_at 56 4 frame ≤ 4096

module _ (frame : List ℕ) (request : Request) (says : SaysRequest frame request) (small : SmallBody request.body) where
  small_content : (c : RequestContent) → body_in says.message.nodeid c ≡ Some request.body → ReadsAs 40 (request_body c) frame
      → nat_eq (code_of (opcode_of c)) 16 ≡ true → number_at 56 4 frame ≤ 4096
  small_content (wire.write fh offset bytes) is reads writes =
      let few = subst SmallBody (sym (some_body (asks (operation.write (record { nodeid = says.message.nodeid; fh = fh })
      offset bytes)) request.body is)) small in
      let size : number_at 56 4 frame ≡ length bytes = reads.1.1.0 in
      omega (arith, few, size)
  small_content c is reads writes = absurd (false≢true writes)

  pub frame_small : SmallFrame frame
  frame_small writes = small_content says.message.content says.says (past_node
      (has_node (opcode_of says.message.content)) says.message.nodeid (request_body says.message.content) frame
      says.spells.3.1.1.1) (sym (ap (λ (n : ℕ). nat_eq n 16) says.spells.3.1.0) ∙ writes)

-- What a frame says of forgets: lookups of a node, behind the header, or pairs.
pub record SaysForgets (AreSuch : List Forget → Type 0) (frame : List ℕ) : Type 0 where
  pub one : nat_eq (opcode_in frame) 2 ≡ true → AreSuch ((number_at 16 8 frame, number_at 40 8 frame) ∷ [])
  pub many : nat_eq (opcode_in frame) 42 ≡ true → (ps : List Forget) × (number_at 40 4 frame ≡ length ps)
      × ReadsAs 48 (forget_ones ps) frame × AreSuch ps

abbrev forgets_in : Option RequestBody → List Forget
forgets_in None = []
forgets_in (Some body) = forgets_of body

module _ (AreSuch : List Forget → Type 0) (frame : List ℕ) (request : Request) (says : SaysRequest frame request)
    (such : AreSuch (forgets_of request.body)) where
  none_said : (code : ℕ) → opcode_in frame ≡ code → nat_eq code 2 ≡ false → nat_eq code 42 ≡ false → SaysForgets AreSuch frame
  none_said code is no_one no_many = record {
    one = λ e. absurd (false≢true (sym no_one ∙ ap (λ (n : ℕ). nat_eq n 2) (sym is) ∙ e));
    many = λ e. absurd (false≢true (sym no_many ∙ ap (λ (n : ℕ). nat_eq n 42) (sym is) ∙ e));
  }

  forgets_of_content : (c : RequestContent) → body_in says.message.nodeid c ≡ Some request.body
      → opcode_in frame ≡ code_of (opcode_of c)
      → ReadsAs 16 (nodeid_field (has_node (opcode_of c)) says.message.nodeid
      ∷ free32 0 ∷ free32 0 ∷ free32 0 ∷ free32 0 ∷ request_body c) frame → SaysForgets AreSuch frame
  forgets_of_content (wire.forget n) is code reads = record {
    one = λ e. subst₂ (λ (a b : ℕ). AreSuch ((a, b) ∷ [])) (sym reads.0) (sym reads.1.0)
        (subst AreSuch (sym (ap forgets_in is)) such);
    many = λ e. absurd (false≢true (ap (λ (k : ℕ). nat_eq k 42) (sym code) ∙ e));
  }
  forgets_of_content (wire.batch_forget ps) is code reads = record {
    one = λ e. absurd (false≢true (ap (λ (k : ℕ). nat_eq k 2) (sym code) ∙ e));
    many = λ e. (ps, reads.0, reads.1, subst AreSuch (sym (ap forgets_in is)) such);
  }
  forgets_of_content c is code reads = none_said (code_of (opcode_of c)) code refl refl

  pub frame_forgets : SaysForgets AreSuch frame
  frame_forgets = forgets_of_content says.message.content says.says says.spells.3.1.0 says.spells.3.1.1.1

-- ---- frames that are not the kernel's

-- A header whose number fits its field says it, whatever is behind.
head_says : (len code unique : ℕ) (rest : List ℕ) → len < 256 ^ 4 → code < 256 ^ 4 → unique < 2 ^ 63
    → (number_at 4 4 (spellings (u32 len ∷ u32 code ∷ u64 unique ∷ []) ++ rest) ≡ code)
    × (number_at 8 8 (spellings (u32 len ∷ u32 code ∷ u64 unique ∷ []) ++ rest) ≡ unique)
    × (number_at 0 4 (spellings (u32 len ∷ u32 code ∷ u64 unique ∷ []) ++ rest) ≡ len)
head_says len code unique rest short known low =
    let fields : List Field = u32 len ∷ u32 code ∷ u64 unique ∷ raw rest ∷ [] in
    let reads : ReadsAs 0 fields (spellings fields) = reads_back fields [] (short, (known, (omega (arith, low), tt))) tt in
    let same : spellings fields ≡ spellings (u32 len ∷ u32 code ∷ u64 unique ∷ []) ++ rest =
    spellings-append (u32 len ∷ u32 code ∷ u64 unique ∷ []) (raw rest ∷ [])
    ∙ ap (λ (l : List ℕ). spellings (u32 len ∷ u32 code ∷ u64 unique ∷ []) ++ l) (append-nil rest) in
    (ap (number_at 4 4) (sym same) ∙ reads.1.0, ap (number_at 8 8) (sym same) ∙ reads.1.1.0, ap (number_at 0 4) (sym same) ∙ reads.0)

abbrev behind_opendir : ℕ → List Field
behind_opendir node = u64 node ∷ free32 0 ∷ free32 0 ∷ free32 0 ∷ free32 0 ∷ u32 0x10000 ∷ u32 0 ∷ []

abbrev behind_releasedir : Opened → List Field
behind_releasedir opened = u64 opened.nodeid ∷ free32 0 ∷ free32 0 ∷ free32 0 ∷ free32 0
    ∷ u64 opened.fh ∷ u32 0x10000 ∷ u32 0 ∷ u64 0 ∷ []

-- They are no INTERRUPTs and forget nothing, and have their numbers.
abbrev pub HasOwnHead : List ℕ → ℕ → Type 0
HasOwnHead bytes unique = (nat_eq (opcode_in bytes) 36 ≡ false) × (unique_in bytes ≡ unique)
    × (nat_eq (opcode_in bytes) 2 ≡ false) × (nat_eq (opcode_in bytes) 42 ≡ false)

pub opendir_head : (bytes : List ℕ) (unique node : ℕ) → IsOpendir bytes unique node → unique < 2 ^ 63
    → HasOwnHead bytes unique
opendir_head bytes unique node is low =
    let head = head_says 48 27 unique (spellings (behind_opendir node)) (omega arith) (omega arith) low in
    let parts : bytes ≡ spellings (u32 48 ∷ u32 27 ∷ u64 unique ∷ []) ++ spellings (behind_opendir node) =
    is.1 ∙ spellings-append (u32 48 ∷ u32 27 ∷ u64 unique ∷ []) (behind_opendir node) in
    let code = ap (number_at 4 4) parts ∙ head.0 in (
      ap (λ (n : ℕ). nat_eq n 36) code,
      ap (number_at 8 8) parts ∙ head.1,
      ap (λ (n : ℕ). nat_eq n 2) code,
      ap (λ (n : ℕ). nat_eq n 42) code,
    )

pub releasedir_head : (bytes : List ℕ) (unique : ℕ) (opened : Opened) → IsReleasedir bytes unique opened
    → unique < 2 ^ 63 → HasOwnHead bytes unique
releasedir_head bytes unique opened is low =
    let head = head_says 64 29 unique (spellings (behind_releasedir opened)) (omega arith) (omega arith) low in
    let parts : bytes ≡ spellings (u32 64 ∷ u32 29 ∷ u64 unique ∷ []) ++ spellings (behind_releasedir opened) =
    is.2 ∙ spellings-append (u32 64 ∷ u32 29 ∷ u64 unique ∷ []) (behind_releasedir opened) in
    let code = ap (number_at 4 4) parts ∙ head.0 in (
      ap (λ (n : ℕ). nat_eq n 36) code,
      ap (number_at 8 8) parts ∙ head.1,
      ap (λ (n : ℕ). nat_eq n 2) code,
      ap (λ (n : ℕ). nat_eq n 42) code,
    )

-- A node that fits its field stands behind the number.
node_says : (len code unique node : ℕ) (rest : List ℕ) → len < 256 ^ 4 → code < 256 ^ 4 → unique < 2 ^ 63 → node < 2 ^ 64
    → number_at 16 8 (spellings (u32 len ∷ u32 code ∷ u64 unique ∷ u64 node ∷ []) ++ rest) ≡ node
node_says len code unique node rest short known low fits =
    let fields : List Field = u32 len ∷ u32 code ∷ u64 unique ∷ u64 node ∷ raw rest ∷ [] in
    let reads : ReadsAs 0 fields (spellings fields) =
    reads_back fields [] (short, (known, (omega (arith, low), (omega (arith, fits), tt)))) tt in
    let same : spellings fields ≡ spellings (u32 len ∷ u32 code ∷ u64 unique ∷ u64 node ∷ []) ++ rest =
    spellings-append (u32 len ∷ u32 code ∷ u64 unique ∷ u64 node ∷ []) (raw rest ∷ [])
    ∙ ap (λ (l : List ℕ). spellings (u32 len ∷ u32 code ∷ u64 unique ∷ u64 node ∷ []) ++ l) (append-nil rest) in
    ap (number_at 16 8) (sym same) ∙ reads.1.1.1.0

pub opendir_node : (bytes : List ℕ) (unique node : ℕ) → IsOpendir bytes unique node → unique < 2 ^ 63 → number_at 16 8 bytes ≡ node
opendir_node bytes unique node is low =
    let rest : List Field = free32 0 ∷ free32 0 ∷ free32 0 ∷ free32 0 ∷ u32 0x10000 ∷ u32 0 ∷ [] in
    ap (number_at 16 8) (is.1 ∙ spellings-append (u32 48 ∷ u32 27 ∷ u64 unique ∷ u64 node ∷ []) rest)
    ∙ node_says 48 27 unique node (spellings rest) (omega arith) (omega arith) low is.0

pub releasedir_node : (bytes : List ℕ) (unique : ℕ) (opened : Opened) → IsReleasedir bytes unique opened → unique < 2 ^ 63
    → number_at 16 8 bytes ≡ opened.nodeid
releasedir_node bytes unique opened is low =
    let rest : List Field = free32 0 ∷ free32 0 ∷ free32 0 ∷ free32 0 ∷ u64 opened.fh ∷ u32 0x10000 ∷ u32 0 ∷ u64 0 ∷ [] in
    ap (number_at 16 8) (is.2 ∙ spellings-append (u32 64 ∷ u32 29 ∷ u64 unique ∷ u64 opened.nodeid ∷ []) rest)
    ∙ node_says 64 29 unique opened.nodeid (spellings rest) (omega arith) (omega arith) low is.0

pub releasedir_handle : (bytes : List ℕ) (unique : ℕ) (opened : Opened) → IsReleasedir bytes unique opened → unique < 2 ^ 63
    → number_at 40 8 bytes ≡ opened.fh
releasedir_handle bytes unique opened is low =
    let reads = reads_back (releasedir_fields unique opened) [] (
      omega arith,
      (
        omega arith,
        (
          omega (arith, low),
          (
            is.0,
            (
              is.1,
              (
                omega arith,
                (omega arith, (omega arith, tt)),
              ),
            ),
          ),
        ),
      ),
    ) tt in
    ap (number_at 40 8) is.2 ∙ reads.1.1.1.1.0

-- OPENDIR's frame, or RELEASEDIR's.
abbrev pub IsOwn : List ℕ → ℕ → Type 0
IsOwn bytes unique = ((node : ℕ) × IsOpendir bytes unique node) ⊎ ((opened : Opened) × IsReleasedir bytes unique opened)

pub own_head : (bytes : List ℕ) (unique : ℕ) → unique < 2 ^ 63 → IsOwn bytes unique → HasOwnHead bytes unique
own_head bytes unique low (inl (node, is)) = opendir_head bytes unique node is low
own_head bytes unique low (inr (opened, is)) = releasedir_head bytes unique opened is low

-- What their headers say of their lengths and opcodes.
pub opendir_starts : (bytes : List ℕ) (unique node : ℕ) → IsOpendir bytes unique node → unique < 2 ^ 63
    → (number_at 0 4 bytes ≡ 48) × (number_at 4 4 bytes ≡ 27)
opendir_starts bytes unique node is low =
    let head = head_says 48 27 unique (spellings (behind_opendir node)) (omega arith) (omega arith) low in
    let parts : bytes ≡ spellings (u32 48 ∷ u32 27 ∷ u64 unique ∷ []) ++ spellings (behind_opendir node) =
    is.1 ∙ spellings-append (u32 48 ∷ u32 27 ∷ u64 unique ∷ []) (behind_opendir node) in
    (ap (number_at 0 4) parts ∙ head.2, ap (number_at 4 4) parts ∙ head.0)

pub releasedir_starts : (bytes : List ℕ) (unique : ℕ) (opened : Opened) → IsReleasedir bytes unique opened
    → unique < 2 ^ 63 → (number_at 0 4 bytes ≡ 64) × (number_at 4 4 bytes ≡ 29)
releasedir_starts bytes unique opened is low =
    let head = head_says 64 29 unique (spellings (behind_releasedir opened)) (omega arith) (omega arith) low in
    let parts : bytes ≡ spellings (u32 64 ∷ u32 29 ∷ u64 unique ∷ []) ++ spellings (behind_releasedir opened) =
    is.2 ∙ spellings-append (u32 64 ∷ u32 29 ∷ u64 unique ∷ []) (behind_releasedir opened) in
    (ap (number_at 0 4) parts ∙ head.2, ap (number_at 4 4) parts ∙ head.0)

-- Both are of no other opcode than 27 and 29.
pub own_other : (code : ℕ) → nat_eq 27 code ≡ false → nat_eq 29 code ≡ false → (bytes : List ℕ) (unique : ℕ)
    → unique < 2 ^ 63 → IsOwn bytes unique → nat_eq (opcode_in bytes) code ≡ false
own_other code opendir releasedir bytes unique low (inl (node, is)) =
    ap (λ (n : ℕ). nat_eq n code) (opendir_starts bytes unique node is low).1 ∙ opendir
own_other code opendir releasedir bytes unique low (inr (opened, is)) =
    ap (λ (n : ℕ). nat_eq n code) (releasedir_starts bytes unique opened is low).1 ∙ releasedir
