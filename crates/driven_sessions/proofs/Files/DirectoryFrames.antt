-- What the frames that are sent say of open directories, and what a row's handle is by it.
use Rattle.std.proofs.Common.{◌≡◌, ℕ, ◌<◌, ◌^◌, ◌||◌, true, false, List, [], ◌∷◌, Option, Some, nat_eq, refl, ap, sym, subst, ◌∙◌}
use Rattle.std.proofs.lemmas.Bool.{false≢true}
use Rattle.fk_fields.specs.Fields.{number_at}
use Rattle.fk_wire.specs.Opcodes.{code_of as codec_code, has_node}
use Rattle.fk_wire.specs.Requests.{RequestContent, opcode_of}
use Rattle.fk_wire.specs.Requests as wire
use Rattle.fuse_spec.specs.declared.Opened.{Opened}
use Rattle.fuse_spec.specs.Files.Operations as operation
use Rattle.fuse_spec.specs.Kernel.Messages.{Request, RequestBody, asks}
use Rattle.fuse_frames.specs.RequestTies.{body_in}
use Rattle.fuse_protocol.specs.declared.opcode.Opcode.{Opcode}
use Rattle.fuse_protocol.specs.declared.opcode.Opcode.TheVariants as op
use Rattle.fuse_protocol.specs.declared.request.OpenHandle.TheVariants as handle
use Rattle.fuse_protocol.specs.Requests.{RequestMessage}
use Rattle.fuse_protocol.specs.Table.{code_of}
use Rattle.fk_drive_frames.specs.OwnRequests.{IsOpendir, IsReleasedir}
use Rattle.fk_drive.specs.Driving.{IsSentFrame}
use Rattle.fuse_sessions.specs.declared.act.OpenKind.TheVariants as kind
use Rattle.fuse_sessions.specs.declared.known.Known.{Known}
use Rattle.fuse_sessions.specs.Frames.{IsRequestOf}
use Rattle.fuse_sessions.specs.RequestActs.{file_used, releasing}
use Rattle.fuse_sessions.specs.UnreadRequests.{opcode_in}
use Rattle.driven_sessions.proofs.Frames.{opendir_node, opendir_starts, releasedir_handle, releasedir_node, releasedir_starts}
use Rattle.driven_sessions.proofs.Listing.{lists_body}
use Rattle.driven_sessions.proofs.Files.Frames.{file_in, is_sent, node_read, request_files}
use Rattle.driven_sessions.proofs.Files.Opened.{as_file, open_file}
use Rattle.driven_sessions.proofs.Files.Rows.{HandleOf, Handles, getattr_handle, moved, none_handle, other_handle, released_handle, unsent_handle, used_handle}

-- READDIR and READDIRPLUS use a directory, RELEASEDIR is of one that is released, OPENDIR of a node of which one is opened, and
-- GETATTR names no file.
pub record SaysDirectories (handles : Handles) (frame : List ℕ) : Type 0 where
  pub listed : (nat_eq (opcode_in frame) 28 || nat_eq (opcode_in frame) 44) ≡ true → handles.used ≡ file_in frame ∷ []
  pub left : nat_eq (opcode_in frame) 29 ≡ true → handles.released ≡ file_in frame ∷ []
  pub opened : nat_eq (opcode_in frame) 27 ≡ true → handles.node ≡ number_at 16 8 frame
  pub attributes : nat_eq (opcode_in frame) 3 ≡ true → number_at 40 4 frame ≡ 0
  pub sent : is_sent (opcode_in frame) ≡ true

-- ---- the rows that are sent

module _ (handles : Handles) (k : Known) (frame : List ℕ) (says : SaysDirectories handles frame) where
  abbrev node : ℕ
  node = number_at 16 8 frame

  abbrev fh : ℕ
  fh = number_at 40 8 frame

  never : {P : Type 0} (o : Opcode) (m : RequestMessage) → IsRequestOf k.agreed frame (o, m) → is_sent (code_of o) ≡ false → P
  never o m is unsent = unsent_handle kind.Directory handles k frame says.sent o m is unsent

  transfer : (o : Opcode) (m : RequestMessage) (is : IsRequestOf k.agreed frame (o, m)) → handle.File fh ≡ m.handle
      → (o ≡ op.Opendir → ⊥) → file_used o node (handle.File fh) ≡ Some (open_file (file_in frame))
      → releasing o node (handle.File fh) ≡ [] → HandleOf kind.Directory handles o m.nodeid m.node m.handle
  transfer o m is same apart uses releases = moved kind.Directory handles k frame o m is (handle.File fh) same
      (other_handle kind.Directory handles o node m.node (handle.File fh) (open_file (file_in frame)) refl apart uses refl releases)

  listing : (o : Opcode) (m : RequestMessage) (is : IsRequestOf k.agreed frame (o, m)) → handle.Directory fh ≡ m.handle
      → (o ≡ op.Opendir → ⊥) → file_used o node (handle.Directory fh) ≡ Some (as_file kind.Directory (file_in frame))
      → releasing o node (handle.Directory fh) ≡ [] → (nat_eq (code_of o) 28 || nat_eq (code_of o) 44) ≡ true
      → HandleOf kind.Directory handles o m.nodeid m.node m.handle
  listing o m is same apart uses releases coded = moved kind.Directory handles k frame o m is (handle.Directory fh) same
      (used_handle kind.Directory handles o node m.node (handle.Directory fh) (file_in frame) apart uses refl releases
      (says.listed (ap (λ (n : ℕ). nat_eq n 28 || nat_eq n 44) is.opcode ∙ coded)))

  pub directory_of : (o : Opcode) (m : RequestMessage) → IsRequestOf k.agreed frame (o, m)
      → HandleOf kind.Directory handles o m.nodeid m.node m.handle
  directory_of op.Opendir m is = moved kind.Directory handles k frame op.Opendir m is handle.None is.handle
      (none_handle kind.Directory handles op.Opendir node m.node (λ e. sym (says.opened (ap (λ (n : ℕ). nat_eq n 27) is.opcode))))
  directory_of op.Read m is = transfer op.Read m is is.handle (λ e. cc e) refl refl
  directory_of op.Write m is = transfer op.Write m is is.handle (λ e. cc e) refl refl
  directory_of op.Release m is = moved kind.Directory handles k frame op.Release m is (handle.File fh) is.handle
      (released_handle kind.Directory handles op.Release node m.node (handle.File fh) (open_file (file_in frame)) (λ e. cc e) refl refl
      refl (λ of. absurd (false≢true of)))
  directory_of op.Getattr m is = getattr_handle kind.Directory handles k frame m is (λ e. cc e)
      (says.attributes (ap (λ (n : ℕ). nat_eq n 3) is.opcode))
  directory_of op.Readdir m is = listing op.Readdir m is is.handle (λ e. cc e) refl refl refl
  directory_of op.Readdirplus m is = listing op.Readdirplus m is is.handle (λ e. cc e) refl refl refl
  directory_of op.Releasedir m is = moved kind.Directory handles k frame op.Releasedir m is (handle.Directory fh) is.handle
      (released_handle kind.Directory handles op.Releasedir node m.node (handle.Directory fh) (as_file kind.Directory (file_in frame))
      (λ e. cc e) refl refl refl (λ of. (file_in frame, says.left (ap (λ (n : ℕ). nat_eq n 29) is.opcode), refl)))
  directory_of op.Setattr m is = never op.Setattr m is refl
  directory_of op.Fsync m is = never op.Fsync m is refl
  directory_of op.Flush m is = never op.Flush m is refl
  directory_of op.Getlk m is = never op.Getlk m is refl
  directory_of op.Setlk m is = never op.Setlk m is refl
  directory_of op.Setlkw m is = never op.Setlkw m is refl
  directory_of op.Ioctl m is = never op.Ioctl m is refl
  directory_of op.Poll m is = never op.Poll m is refl
  directory_of op.Fallocate m is = never op.Fallocate m is refl
  directory_of op.Fsyncdir m is = never op.Fsyncdir m is refl
  directory_of op.Lseek m is = never op.Lseek m is refl
  directory_of op.CopyFileRange m is = never op.CopyFileRange m is refl
  directory_of op.CopyFileRange64 m is = never op.CopyFileRange64 m is refl
  directory_of op.Setupmapping m is = never op.Setupmapping m is refl
  directory_of op.Statx m is = never op.Statx m is refl
  directory_of o m is = moved kind.Directory handles k frame o m is handle.None is.handle
      (none_handle kind.Directory handles o node m.node (λ e. absurd (cc e)))

-- ---- requests of the kernel's

-- nothing is done with directories
abbrev pub no_directory : Handles
no_directory = record { used = []; released = []; node = 0 }

-- this directory is listed
abbrev pub one_listed : Opened → Handles
one_listed o = record { used = o ∷ []; released = []; node = 0 }

lists_one : (o : Option RequestBody) (a b : ℕ) → lists_body o a → lists_body o b → a ≡ b
lists_one (Some (asks (operation.readdir d after size))) a b first second = sym first ∙ second
lists_one (Some (asks (operation.readdirplus d after size))) a b first second = sym first ∙ second
lists_one o a b first second = absurd first

module _ (frame : List ℕ) (r : Request) (goes : IsSentFrame frame r) where
  abbrev content : RequestContent
  content = goes.says.message.content

  abbrev nodeid : ℕ
  nodeid = goes.says.message.nodeid

  code : opcode_in frame ≡ codec_code (opcode_of content)
  code = goes.says.spells.3.1.0

  unopened : (c : RequestContent) → nat_eq (codec_code (opcode_of c)) 27 ≡ false
  unopened (wire.lookup name) = refl
  unopened c = refl

  unreleased : (c : RequestContent) → nat_eq (codec_code (opcode_of c)) 29 ≡ false
  unreleased (wire.lookup name) = refl
  unreleased c = refl

  listing_of : (c : RequestContent) → (nat_eq (codec_code (opcode_of c)) 28 || nat_eq (codec_code (opcode_of c)) 44) ≡ true
      → (o : Option RequestBody) → body_in nodeid c ≡ o → lists_body o nodeid × (has_node (opcode_of c) ≡ true)
  listing_of (wire.readdir offset size) is o says = (subst (λ (x : Option RequestBody). lists_body x nodeid) says refl, refl)
  listing_of (wire.readdirplus offset size) is o says = (subst (λ (x : Option RequestBody). lists_body x nodeid) says refl, refl)
  listing_of c is o says = absurd (false≢true is)

  listed_here : (nat_eq (opcode_in frame) 28 || nat_eq (opcode_in frame) 44) ≡ true
      → lists_body (Some r.body) nodeid × (has_node (opcode_of content) ≡ true)
  listed_here is = listing_of content (ap (λ (n : ℕ). nat_eq n 28 || nat_eq n 44) (sym code) ∙ is) (Some r.body) goes.says.says

  of_kernel : (handles : Handles)
      → ((nat_eq (opcode_in frame) 28 || nat_eq (opcode_in frame) 44) ≡ true → handles.used ≡ file_in frame ∷ [])
      → SaysDirectories handles frame
  of_kernel handles used =
      let files = request_files frame r goes in record {
        listed = used;
        left = λ is. absurd (false≢true (sym (ap (λ (n : ℕ). nat_eq n 29) code ∙ unreleased content) ∙ is));
        opened = λ is. absurd (false≢true (sym (ap (λ (n : ℕ). nat_eq n 27) code ∙ unopened content) ∙ is));
        attributes = files.attributes;
        sent = files.sent;
      }

  -- one that lists no directory
  pub unlisted_says : ((node : ℕ) → lists_body (Some r.body) node → ⊥) → SaysDirectories no_directory frame
  unlisted_says unlisted = of_kernel no_directory (λ is. absurd (unlisted nodeid (listed_here is).0))

  -- one that lists a directory, under this fh
  pub listed_says : (node fh : ℕ) → lists_body (Some r.body) node → number_at 40 8 frame ≡ fh
      → SaysDirectories (one_listed (record { nodeid = node; fh = fh })) frame
  listed_says node fh lists under = of_kernel (one_listed (record { nodeid = node; fh = fh })) (λ is.
      let here = listed_here is in
      let same : node ≡ number_at 16 8 frame = lists_one (Some r.body) node nodeid lists here.0
      ∙ sym (node_read frame r goes (has_node (opcode_of content)) here.1 goes.says.spells.3.1.1.1) in
      λ i. record { nodeid = same i; fh = sym under i } ∷ [])

-- ---- OPENDIR and RELEASEDIR

-- a directory of this node is opened
abbrev pub node_opened : ℕ → Handles
node_opened node = record { used = []; released = []; node = node }

-- this directory is released
abbrev pub one_released : Opened → Handles
one_released o = record { used = []; released = o ∷ []; node = 0 }

pub opendir_says : (frame : List ℕ) (unique node : ℕ) → unique < 2 ^ 63 → IsOpendir frame unique node
    → SaysDirectories (node_opened node) frame
opendir_says frame unique node low is =
    let code : opcode_in frame ≡ 27 = (opendir_starts frame unique node is low).1 in record {
      listed = λ e. absurd (false≢true (sym (ap (λ (n : ℕ). nat_eq n 28 || nat_eq n 44) code) ∙ e));
      left = λ e. absurd (false≢true (sym (ap (λ (n : ℕ). nat_eq n 29) code) ∙ e));
      opened = λ e. sym (opendir_node frame unique node is low);
      attributes = λ e. absurd (false≢true (sym (ap (λ (n : ℕ). nat_eq n 3) code) ∙ e));
      sent = ap is_sent code;
    }

pub releasedir_says : (frame : List ℕ) (unique : ℕ) (opened : Opened) → unique < 2 ^ 63 → IsReleasedir frame unique opened
    → SaysDirectories (one_released opened) frame
releasedir_says frame unique opened low is =
    let code : opcode_in frame ≡ 29 = (releasedir_starts frame unique opened is low).1 in
    let node = releasedir_node frame unique opened is low in
    let fh = releasedir_handle frame unique opened is low in record {
      listed = λ e. absurd (false≢true (sym (ap (λ (n : ℕ). nat_eq n 28 || nat_eq n 44) code) ∙ e));
      left = λ e i. record { nodeid = sym node i; fh = sym fh i } ∷ [];
      opened = λ e. absurd (false≢true (sym (ap (λ (n : ℕ). nat_eq n 27) code) ∙ e));
      attributes = λ e. absurd (false≢true (sym (ap (λ (n : ℕ). nat_eq n 3) code) ∙ e));
      sent = ap is_sent code;
    }
