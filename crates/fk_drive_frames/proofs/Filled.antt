-- A frame of which a free field was filled spells the same request.
use Rattle.std.proofs.Common.{◌≡◌, ℕ, ◌≤◌, List, [], ◌∷◌, ◌++◌, length, refl, sym, subst, ◌∙◌, arith}
use Rattle.std.specs.Int.RustNames.{bit_and}
use Rattle.fk_wire.specs.Fields.{ReadsAs, bits, free32, free64, named, number_at, u32, u64}
use Rattle.fk_wire.specs.Opcodes.{latest_minor}
use Rattle.fk_wire.specs.Requests.{RequestContent, RequestMessage, Spells, SpellsAt, create, decoded, header, init, known_flags, opening, readdir, readdirplus, request_fields}
use Rattle.fuse_spec.specs.Kernel.Messages.{Request}
use Rattle.fuse_frames.specs.RequestTies.{SaysRequest}
use Rattle.fk_wire.specs.declared.opcode.Minor.{Minor}
use Rattle.fk_drive_frames.specs.Filling.{ChangesOnly, FillsFor, IsFilled, IsListing, create_flags, with_offered}
use Rattle.fk_drive_frames.specs.declared.filling.FreeFields.{FreeFields}
use Rattle.fk_drive_frames.specs.declared.filling.Filled.{Filled}
use Rattle.fk_drive_frames.specs.declared.filling.Filled.TheVariants as filled
use Rattle.fk_drive_frames.proofs.OneField.{reads_after, reads_around}

module _ (old new : List ℕ) (unique nodeid : ℕ) where
  -- what a frame spells, of which the fields still read so
  spells_still : (content : RequestContent) → length new ≡ length old
      → (ReadsAs 0 (request_fields (length old) (record { unique = unique; nodeid = nodeid; content = content })) old
      → ReadsAs 0 (request_fields (length old) (record { unique = unique; nodeid = nodeid; content = content })) new)
      → Spells old (record { unique = unique; nodeid = nodeid; content = content })
      → Spells new (record { unique = unique; nodeid = nodeid; content = content })
  spells_still content long follows (short, known, node, reads) = (
    subst (λ (n : ℕ). n ≤ 4176) (sym long) short,
    known,
    node,
    subst (λ (n : ℕ). ReadsAs 0 (request_fields n (record { unique = unique; nodeid = nodeid; content = content })) new)
        (sym long) (follows reads),
  )

  spells_open : ChangesOnly 40 4 old new
      → Spells old (record { unique = unique; nodeid = nodeid; content = opening })
      → Spells new (record { unique = unique; nodeid = nodeid; content = opening })
  spells_open only = spells_still opening only.long
      (reads_around 40 4 old new only (header (length old) 14 unique (u64 nodeid)) (free32 0 ∷ free32 0 ∷ []) 0 40 refl
      (omega arith) (λ reads. only.long ∙ reads))

  spells_create : (name : List ℕ) → ChangesOnly 40 4 old new
      → Spells old (record { unique = unique; nodeid = nodeid; content = create name })
      → Spells new (record { unique = unique; nodeid = nodeid; content = create name })
  spells_create name only = spells_still (create name) only.long
      (reads_around 40 4 old new only (header (length old) 35 unique (u64 nodeid))
      (free32 0 ∷ free32 33188 ∷ free32 0 ∷ free32 0 ∷ named name ∷ []) 0 40 refl (omega arith)
      (reads_after 40 4 old new only (free32 33188 ∷ free32 0 ∷ free32 0 ∷ named name ∷ []) 44 (omega arith)))

  spells_readdir : (offset size : ℕ) → ChangesOnly 40 8 old new
      → Spells old (record { unique = unique; nodeid = nodeid; content = readdir offset size })
      → Spells new (record { unique = unique; nodeid = nodeid; content = readdir offset size })
  spells_readdir offset size only = spells_still (readdir offset size) only.long
      (reads_around 40 8 old new only (header (length old) 28 unique (u64 nodeid))
      (free64 0 ∷ u64 offset ∷ u32 size ∷ free32 0 ∷ free64 0 ∷ free32 0 ∷ free32 0 ∷ []) 0 40 refl (omega arith)
      (reads_after 40 8 old new only (u64 offset ∷ u32 size ∷ free32 0 ∷ free64 0 ∷ free32 0 ∷ free32 0 ∷ []) 48
      (omega arith)))

  spells_readdirplus : (offset size : ℕ) → ChangesOnly 40 8 old new
      → Spells old (record { unique = unique; nodeid = nodeid; content = readdirplus offset size })
      → Spells new (record { unique = unique; nodeid = nodeid; content = readdirplus offset size })
  spells_readdirplus offset size only = spells_still (readdirplus offset size) only.long
      (reads_around 40 8 old new only (header (length old) 44 unique (u64 nodeid))
      (free64 0 ∷ u64 offset ∷ u32 size ∷ free32 0 ∷ free64 0 ∷ free32 0 ∷ free32 0 ∷ []) 0 40 refl (omega arith)
      (reads_after 40 8 old new only (u64 offset ∷ u32 size ∷ free32 0 ∷ free64 0 ∷ free32 0 ∷ free32 0 ∷ []) 48
      (omega arith)))

  spells_init : (major minor flags : ℕ) → ChangesOnly 52 4 old new
      → bit_and (number_at 52 4 new) known_flags ≡ bit_and (number_at 52 4 old) known_flags
      → Spells old (record { unique = unique; nodeid = nodeid; content = init major minor flags })
      → Spells new (record { unique = unique; nodeid = nodeid; content = init major minor flags })
  spells_init major minor flags only same = spells_still (init major minor flags) only.long
      (reads_around 52 4 old new only
      (header (length old) 26 unique (free64 0) ++ u32 major ∷ u32 minor ∷ free32 0 ∷ []) (bits known_flags flags ∷ [])
      0 52 refl (omega arith) (λ (is, long). (same ∙ is, only.long ∙ long)))

  open_still : (content : RequestContent) → IsFilled filled.Open content → ChangesOnly 40 4 old new
      → Spells old (record { unique = unique; nodeid = nodeid; content = content })
      → Spells new (record { unique = unique; nodeid = nodeid; content = content })
  open_still opening is only spells = spells_open only spells
  open_still other is only spells = absurd is

  create_still : (content : RequestContent) → IsFilled filled.Create content → ChangesOnly 40 4 old new
      → Spells old (record { unique = unique; nodeid = nodeid; content = content })
      → Spells new (record { unique = unique; nodeid = nodeid; content = content })
  create_still (create name) is only spells = spells_create name only spells
  create_still other is only spells = absurd is

  init_still : (content : RequestContent) → IsFilled filled.Init content → ChangesOnly 52 4 old new
      → bit_and (number_at 52 4 new) known_flags ≡ bit_and (number_at 52 4 old) known_flags
      → Spells old (record { unique = unique; nodeid = nodeid; content = content })
      → Spells new (record { unique = unique; nodeid = nodeid; content = content })
  init_still (init major minor flags) is only same spells = spells_init major minor flags only same spells
  init_still other is only same spells = absurd is

  listing_still : (content : RequestContent) → IsListing content → ChangesOnly 40 8 old new
      → Spells old (record { unique = unique; nodeid = nodeid; content = content })
      → Spells new (record { unique = unique; nodeid = nodeid; content = content })
  listing_still (readdir offset size) is only spells = spells_readdir offset size only spells
  listing_still (readdirplus offset size) is only spells = spells_readdirplus offset size only spells
  listing_still other is only spells = absurd is

-- A frame decodes to the one message that it spells.
abbrev pub Decodes : Type 0
Decodes = (minor : Minor) (bytes : List ℕ) (m : RequestMessage) → SpellsAt minor bytes m → decoded bytes ≡ m

-- The one message that a frame spells is of this kind: each that it spells is.
of_spelled : Decodes → (bytes : List ℕ) (IsKind : RequestContent → Type 0)
    → (m : RequestMessage) × Spells bytes m × IsKind m.content → (n : RequestMessage) → Spells bytes n → IsKind n.content
of_spelled decodes bytes IsKind (m, spells, is) n also =
    let same : m ≡ n = sym (decodes latest_minor bytes m spells) ∙ decodes latest_minor bytes n also in
    subst (λ (n : RequestMessage). IsKind n.content) same is

-- A frame that spells one message, of this kind, goes on to say what it said.
says_still : Decodes → (old new : List ℕ) (IsKind : RequestContent → Type 0) → ((m : RequestMessage) → IsKind m.content → Spells old m
    → Spells new m) → (m : RequestMessage) × Spells old m × IsKind m.content
    → (request : Request) → SaysRequest old request → SaysRequest new request
says_still decodes old new IsKind still kind request says = record {
  message = says.message;
  spells = still says.message (of_spelled decodes old IsKind kind says.message says.spells) says.spells;
  unique = says.unique;
  says = says.says;
}

pub says_open : Decodes → (old new : List ℕ) → ChangesOnly 40 4 old new
    → (m : RequestMessage) × Spells old m × IsFilled filled.Open m.content
    → (request : Request) → SaysRequest old request → SaysRequest new request
says_open decodes old new only = says_still decodes old new (IsFilled filled.Open)
    (λ m is spells. open_still old new m.unique m.nodeid m.content is only spells)

pub says_create : Decodes → (old new : List ℕ) → ChangesOnly 40 4 old new
    → (m : RequestMessage) × Spells old m × IsFilled filled.Create m.content
    → (request : Request) → SaysRequest old request → SaysRequest new request
says_create decodes old new only = says_still decodes old new (IsFilled filled.Create)
    (λ m is spells. create_still old new m.unique m.nodeid m.content is only spells)

pub says_init : Decodes → (old new : List ℕ) → ChangesOnly 52 4 old new
    → bit_and (number_at 52 4 new) known_flags ≡ bit_and (number_at 52 4 old) known_flags
    → (m : RequestMessage) × Spells old m × IsFilled filled.Init m.content
    → (request : Request) → SaysRequest old request → SaysRequest new request
says_init decodes old new only same = says_still decodes old new (IsFilled filled.Init)
    (λ m is spells. init_still old new m.unique m.nodeid m.content is only same spells)

pub says_listing : Decodes → (old new : List ℕ) → ChangesOnly 40 8 old new
    → (m : RequestMessage) × Spells old m × IsListing m.content
    → (request : Request) → SaysRequest old request → SaysRequest new request
says_listing decodes old new only = says_still decodes old new IsListing
    (λ m is spells. listing_still old new m.unique m.nodeid m.content is only spells)

open_filled : (old new : List ℕ) (free_fields : FreeFields) → ChangesOnly 40 4 old new → number_at 40 4 new ≡ free_fields.open_flags
    → (content : RequestContent) → IsFilled filled.Open content → FillsFor content free_fields old new
open_filled old new free_fields only value opening is = (only, value)
open_filled old new free_fields only value other is = absurd is

create_filled : (old new : List ℕ) (free_fields : FreeFields) → ChangesOnly 40 4 old new → number_at 40 4 new ≡ create_flags
    → (content : RequestContent) → IsFilled filled.Create content → FillsFor content free_fields old new
create_filled old new free_fields only value (create name) is = (only, value)
create_filled old new free_fields only value other is = absurd is

init_filled : (old new : List ℕ) (free_fields : FreeFields) → ChangesOnly 52 4 old new
    → number_at 52 4 new ≡ with_offered (number_at 52 4 old) free_fields.offer
    → (content : RequestContent) → IsFilled filled.Init content → FillsFor content free_fields old new
init_filled old new free_fields only value (init major minor flags) is = (only, value)
init_filled old new free_fields only value other is = absurd is

pub fills_open : Decodes → (old new : List ℕ) (free_fields : FreeFields) → ChangesOnly 40 4 old new
    → number_at 40 4 new ≡ free_fields.open_flags → (m : RequestMessage) × Spells old m × IsFilled filled.Open m.content
    → (m : RequestMessage) → Spells old m → FillsFor m.content free_fields old new
fills_open decodes old new free_fields only value kind m spells =
    open_filled old new free_fields only value m.content (of_spelled decodes old (IsFilled filled.Open) kind m spells)

pub fills_create : Decodes → (old new : List ℕ) (free_fields : FreeFields) → ChangesOnly 40 4 old new
    → number_at 40 4 new ≡ create_flags → (m : RequestMessage) × Spells old m × IsFilled filled.Create m.content
    → (m : RequestMessage) → Spells old m → FillsFor m.content free_fields old new
fills_create decodes old new free_fields only value kind m spells =
    create_filled old new free_fields only value m.content (of_spelled decodes old (IsFilled filled.Create) kind m spells)

pub fills_init : Decodes → (old new : List ℕ) (free_fields : FreeFields) → ChangesOnly 52 4 old new
    → number_at 52 4 new ≡ with_offered (number_at 52 4 old) free_fields.offer
    → (m : RequestMessage) × Spells old m × IsFilled filled.Init m.content
    → (m : RequestMessage) → Spells old m → FillsFor m.content free_fields old new
fills_init decodes old new free_fields only value kind m spells =
    init_filled old new free_fields only value m.content (of_spelled decodes old (IsFilled filled.Init) kind m spells)

-- What is none of these stays as it is.
pub fills_nothing : (old : List ℕ) (free_fields : FreeFields) (content : RequestContent)
    → ((kind : Filled) → IsFilled kind content → ⊥) → FillsFor content free_fields old old
fills_nothing old free_fields opening none = absurd (none filled.Open tt)
fills_nothing old free_fields (create name) none = absurd (none filled.Create tt)
fills_nothing old free_fields (init major minor flags) none = absurd (none filled.Init tt)
fills_nothing old free_fields other none = refl
