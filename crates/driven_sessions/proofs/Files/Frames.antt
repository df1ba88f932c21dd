-- What the frame of a request says of open files.
use Rattle.std.proofs.Common.{◌≡◌, inl, inr, ℕ, ◌<◌, ◌^◌, ◌||◌, Bool, true, false, List, [], ◌∷◌, Option, Some, None, nat_eq, refl, ap, sym, ◌∙◌, arith}
use Rattle.std.proofs.lemmas.Bool.Decides.{nat_tests}
use Rattle.std.specs.List.{list_any}
use Rattle.std.proofs.lemmas.Bool.{false≢true}
use Rattle.fk_fields.specs.Fields.{ReadsAs, free32, number_at}
use Rattle.fk_wire.specs.Opcodes.{code_of as codec_code, has_node}
use Rattle.fk_wire.specs.Requests.{RequestContent, nodeid_field, opcode_of, request_body}
use Rattle.fk_wire.specs.Requests as wire
use Rattle.fuse_spec.specs.declared.Opened.{Opened}
use Rattle.fuse_spec.specs.Kernel.Messages.{Request, RequestBody, init}
use Rattle.fuse_frames.specs.RequestTies.{body_in}
use Rattle.fuse_theorem.specs.OpenNumbers.{released_by}
use Rattle.fk_drive.specs.Driving.{IsSentFrame}
use Rattle.fuse_sessions.specs.UnreadRequests.{opcode_in}
use Rattle.driven_sessions.proofs.Frames.{IsOwn, opendir_starts, past_node, releasedir_starts}
use Rattle.driven_sessions.proofs.Files.KernelFiles.{used_by}
use Rattle.driven_sessions.proofs.Files.Bodies.{node_opened_by}

-- the open file of which a frame may be
abbrev pub file_in : List ℕ → Opened
file_in frame = record { nodeid = number_at 16 8 frame; fh = number_at 40 8 frame }

-- the opcodes that are sent
abbrev pub is_sent : ℕ → Bool
is_sent code = list_any (nat_eq code) (1 ∷ 2 ∷ 3 ∷ 9 ∷ 10 ∷ 11 ∷ 12 ∷ 13 ∷ 14 ∷ 15 ∷ 16 ∷ 18 ∷ 26 ∷ 27 ∷ 28 ∷ 29 ∷ 35 ∷ 36 ∷ 42
    ∷ 44 ∷ [])

-- READ and WRITE use a file that the request uses, RELEASE is of one that it releases, OPEN of a node that it opens, and GETATTR
-- names no file.
pub record SaysFiles (body : RequestBody) (frame : List ℕ) : Type 0 where
  pub used : (nat_eq (opcode_in frame) 15 || nat_eq (opcode_in frame) 16) ≡ true → used_by body ≡ file_in frame ∷ []
  pub released : nat_eq (opcode_in frame) 18 ≡ true → released_by body ≡ file_in frame ∷ []
  pub opened : nat_eq (opcode_in frame) 14 ≡ true → node_opened_by body ≡ number_at 16 8 frame
  pub attributes : nat_eq (opcode_in frame) 3 ≡ true → number_at 40 4 frame ≡ 0
  pub sent : is_sent (opcode_in frame) ≡ true

-- ---- a request of the kernel's

abbrev used_in : Option RequestBody → List Opened
used_in None = []
used_in (Some body) = used_by body

abbrev released_in : Option RequestBody → List Opened
released_in None = []
released_in (Some body) = released_by body

abbrev node_in : Option RequestBody → ℕ
node_in None = 0
node_in (Some body) = node_opened_by body

module _ (frame : List ℕ) (r : Request) (goes : IsSentFrame frame r) where
  abbrev content : RequestContent
  content = goes.says.message.content

  abbrev nodeid : ℕ
  nodeid = goes.says.message.nodeid

  code : opcode_in frame ≡ codec_code (opcode_of content)
  code = goes.says.spells.3.1.0

  pub node_read : (b : Bool) → b ≡ true → ReadsAs 16 (nodeid_field b nodeid ∷ free32 0 ∷ free32 0 ∷ free32 0 ∷ free32 0
      ∷ request_body content) frame → number_at 16 8 frame ≡ nodeid
  node_read true is reads = reads.0
  node_read false is reads = absurd (false≢true is)

  behind_header : ReadsAs 40 (request_body content) frame
  behind_header = past_node (has_node (opcode_of content)) nodeid (request_body content) frame goes.says.spells.3.1.1.1

  file_same : (fh : ℕ) → number_at 16 8 frame ≡ nodeid → number_at 40 8 frame ≡ fh
      → ◌≡◌ {A = List Opened} (record { nodeid = nodeid; fh = fh } ∷ []) (file_in frame ∷ [])
  file_same fh node handle = λ i. record { nodeid = sym node i; fh = sym handle i } ∷ []

  -- By what it says.
  pub record Holds (c : RequestContent) : Type 0 where
    pub used : (nat_eq (codec_code (opcode_of c)) 15 || nat_eq (codec_code (opcode_of c)) 16) ≡ true
        → number_at 16 8 frame ≡ nodeid → ReadsAs 40 (request_body c) frame → used_in (body_in nodeid c) ≡ file_in frame ∷ []
    pub released : nat_eq (codec_code (opcode_of c)) 18 ≡ true
        → number_at 16 8 frame ≡ nodeid → ReadsAs 40 (request_body c) frame → released_in (body_in nodeid c) ≡ file_in frame ∷ []
    pub opened : nat_eq (codec_code (opcode_of c)) 14 ≡ true → number_at 16 8 frame ≡ nodeid
        → node_in (body_in nodeid c) ≡ number_at 16 8 frame
    pub sent : is_sent (codec_code (opcode_of c)) ≡ true

  holds : (c : RequestContent) → Holds c
  holds (wire.read fh offset size) = record {
    used = λ is node reads. file_same fh node reads.0;
    released = λ is. absurd (false≢true is);
    opened = λ is. absurd (false≢true is);
    sent = refl;
  }
  holds (wire.write fh offset bytes) = record {
    used = λ is node reads. file_same fh node reads.0;
    released = λ is. absurd (false≢true is);
    opened = λ is. absurd (false≢true is);
    sent = refl;
  }
  holds (wire.release fh) = record {
    used = λ is. absurd (false≢true is);
    released = λ is node reads. file_same fh node reads.0;
    opened = λ is. absurd (false≢true is);
    sent = refl;
  }
  holds wire.opening = record {
    used = λ is. absurd (false≢true is);
    released = λ is. absurd (false≢true is);
    opened = λ is node. sym node;
    sent = refl;
  }
  holds c = record {
    used = λ is. absurd (false≢true is);
    released = λ is. absurd (false≢true is);
    opened = λ is. absurd (false≢true is);
    sent = refl;
  }

  -- Such a request is about a node.
  about : (c : RequestContent) → (nat_eq (codec_code (opcode_of c)) 14 || (nat_eq (codec_code (opcode_of c)) 15
      || (nat_eq (codec_code (opcode_of c)) 16 || nat_eq (codec_code (opcode_of c)) 18))) ≡ true → has_node (opcode_of c) ≡ true
  about (wire.forget n) is = absurd (false≢true is)
  about (wire.init major minor flags) is = absurd (false≢true is)
  about (wire.interrupt unique) is = absurd (false≢true is)
  about (wire.batch_forget forgets) is = absurd (false≢true is)
  about c is = refl

  node_of : (nat_eq (opcode_in frame) 14 || (nat_eq (opcode_in frame) 15
      || (nat_eq (opcode_in frame) 16 || nat_eq (opcode_in frame) 18))) ≡ true → number_at 16 8 frame ≡ nodeid
  node_of is = node_read (has_node (opcode_of content)) (about content
      (ap (λ (n : ℕ). nat_eq n 14 || (nat_eq n 15 || (nat_eq n 16 || nat_eq n 18))) (sym code) ∙ is)) goes.says.spells.3.1.1.1

  either_transfer : (n : ℕ) → (nat_eq n 15 || nat_eq n 16) ≡ true
      → (nat_eq n 14 || (nat_eq n 15 || (nat_eq n 16 || nat_eq n 18))) ≡ true
  either_transfer n is = by (nat_eq n 14) (nat_eq n 15) (nat_eq n 16) is
    where
      by : (a b c : Bool) → (b || c) ≡ true → (a || (b || (c || nat_eq n 18))) ≡ true
      by true b c is = refl
      by false true c is = refl
      by false false true is = refl
      by false false false is = absurd (false≢true is)

  last_of : (n : ℕ) → nat_eq n 18 ≡ true → (nat_eq n 14 || (nat_eq n 15 || (nat_eq n 16 || nat_eq n 18))) ≡ true
  last_of n is = by (nat_eq n 14) (nat_eq n 15) (nat_eq n 16)
    where
      by : (a b c : Bool) → (a || (b || (c || nat_eq n 18))) ≡ true
      by true b c = refl
      by false true c = refl
      by false false true = refl
      by false false false = is

  first_of : (n : ℕ) → nat_eq n 14 ≡ true → (nat_eq n 14 || (nat_eq n 15 || (nat_eq n 16 || nat_eq n 18))) ≡ true
  first_of n is = by (nat_eq n 14) is
    where
      by : (a : Bool) → a ≡ true → (a || (nat_eq n 15 || (nat_eq n 16 || nat_eq n 18))) ≡ true
      by true is = refl
      by false is = absurd (false≢true is)

  pub request_files : SaysFiles r.body frame
  request_files = record {
    used = λ is. ap used_in (sym goes.says.says) ∙ (holds content).used
        (ap (λ (n : ℕ). nat_eq n 15 || nat_eq n 16) (sym code) ∙ is) (node_of (either_transfer (opcode_in frame) is)) behind_header;
    released = λ is. ap released_in (sym goes.says.says) ∙ (holds content).released
        (ap (λ (n : ℕ). nat_eq n 18) (sym code) ∙ is) (node_of (last_of (opcode_in frame) is)) behind_header;
    opened = λ is. ap node_in (sym goes.says.says) ∙ (holds content).opened
        (ap (λ (n : ℕ). nat_eq n 14) (sym code) ∙ is) (node_of (first_of (opcode_in frame) is));
    attributes = λ is. goes.names_no_file (same is);
    sent = ap is_sent code ∙ (holds content).sent;
  }
    where
      same : nat_eq (opcode_in frame) 3 ≡ true → opcode_in frame ≡ 3
      same is = grind (arith, nat_tests, is)

-- ---- the frames of OPENDIR and RELEASEDIR

-- a request that uses and releases no file, and opens none
abbrev pub no_files : RequestBody
no_files = init 0

coded : (frame : List ℕ) (code : ℕ) → opcode_in frame ≡ code → (nat_eq code 15 || nat_eq code 16) ≡ false
    → nat_eq code 18 ≡ false → nat_eq code 14 ≡ false → nat_eq code 3 ≡ false → is_sent code ≡ true → SaysFiles no_files frame
coded frame number is transfer release opens attributes sent = record {
  used = λ e. absurd (false≢true (sym (ap (λ (n : ℕ). nat_eq n 15 || nat_eq n 16) is ∙ transfer) ∙ e));
  released = λ e. absurd (false≢true (sym (ap (λ (n : ℕ). nat_eq n 18) is ∙ release) ∙ e));
  opened = λ e. absurd (false≢true (sym (ap (λ (n : ℕ). nat_eq n 14) is ∙ opens) ∙ e));
  attributes = λ e. absurd (false≢true (sym (ap (λ (n : ℕ). nat_eq n 3) is ∙ attributes) ∙ e));
  sent = ap is_sent is ∙ sent;
}

pub own_files : (frame : List ℕ) (unique : ℕ) → unique < 2 ^ 63 → IsOwn frame unique → SaysFiles no_files frame
own_files frame unique low (inl (node, is)) =
    coded frame 27 (opendir_starts frame unique node is low).1 refl refl refl refl refl
own_files frame unique low (inr (opened, is)) =
    coded frame 29 (releasedir_starts frame unique opened is low).1 refl refl refl refl refl
