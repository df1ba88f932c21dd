-- What the acts of a frame do with open files.
use Rattle.std.proofs.Common.{◌≡◌, ◌⊎◌, inl, inr, ℕ, ◌==◌, ◌||◌, true, false, List, [], ◌∷◌, ◌++◌, Option, Some, None, nat_eq, bit_and, if◌then◌else◌, append-nil, append_assoc, not, refl, ap, sym, subst, ◌∙◌}
use Rattle.std.specs.List.{list_all}
use Rattle.std.proofs.lemmas.Bool.{and_parts, false≢true}
use Rattle.fk_fields.specs.Fields.{number_at}
use Rattle.fuse_spec.specs.declared.Opened.{Opened}
use Rattle.fuse_spec.specs.Kernel.Messages.{RequestBody}
use Rattle.fuse_theorem.specs.OpenNumbers.{released_by}
use Rattle.fuse_protocol.specs.declared.opcode.Opcode.{Opcode}
use Rattle.fuse_protocol.specs.declared.opcode.Opcode.TheVariants as op
use Rattle.fuse_protocol.specs.declared.request.OpenHandle.{OpenHandle}
use Rattle.fuse_protocol.specs.declared.request.OpenHandle.TheVariants as handle
use Rattle.fuse_protocol.specs.Requests.{RequestMessage}
use Rattle.fuse_protocol.specs.Table.{code_of}
use Rattle.fuse_sessions.specs.declared.act.Act.{Act}
use Rattle.fuse_sessions.specs.declared.act.Act.TheVariants as act
use Rattle.fuse_sessions.specs.declared.act.OpenFile.{OpenFile}
use Rattle.fuse_sessions.specs.declared.act.OpenKind.{OpenKind}
use Rattle.fuse_sessions.specs.declared.act.OpenKind.TheVariants as kind
use Rattle.fuse_sessions.specs.UnreadRequests.{opcode_in}
use Rattle.fuse_sessions.specs.declared.fault.Fault.{Fault}
use Rattle.fuse_sessions.specs.declared.known.Known.{Known}
use Rattle.fuse_sessions.specs.Faults.{Breaks}
use Rattle.fuse_sessions.specs.Frames.{IsRequestOf}
use Rattle.fuse_sessions.specs.RequestActs.{file_copied_to, file_used, or_none, releasing}
use Rattle.fuse_sessions.specs.Sessions.{Session}
use Rattle.fuse_sessions.specs.Waiting.{same_kind}
use Rattle.driven_sessions.specs.Files.{is_of}
use Rattle.driven_sessions.proofs.Files.Bodies.{node_opened_by}
use Rattle.driven_sessions.proofs.Files.Frames.{SaysFiles, file_in, is_sent}
use Rattle.driven_sessions.proofs.Files.KernelFiles.{used_by}
use Rattle.driven_sessions.proofs.Files.Opened.{as_file, open_file}

-- ---- acts that are free of faults about files of a kind

module _ (which : OpenKind) where
  abbrev pub FilesFree : Session → List Act → Type 0
  FilesFree s [] = Unit {0}
  FilesFree s (a ∷ later) = (is_of which a ≡ true → (f : Fault) → Breaks s a f → ⊥) × FilesFree (s ++ a ∷ []) later

  pub free_parts : (s : Session) (xs ys : List Act) → FilesFree s xs → FilesFree (s ++ xs) ys → FilesFree s (xs ++ ys)
  free_parts s [] ys first second = subst (λ (t : Session). FilesFree t ys) (append-nil s) second
  free_parts s (a ∷ xs) ys first second = (
    first.0,
    free_parts (s ++ a ∷ []) xs ys first.1
        (subst (λ (t : Session). FilesFree t ys) (sym (append_assoc s (a ∷ []) xs)) second),
  )

  abbrev pub AreApart : List Act → Type 0
  AreApart acts = list_all (λ (a : Act). not (is_of which a)) acts ≡ true

  pub apart_free : (s : Session) (acts : List Act) → AreApart acts → FilesFree s acts
  apart_free s [] are = tt
  apart_free s (a ∷ acts) are =
      let both = and_parts (not (is_of which a)) (list_all (λ (x : Act). not (is_of which x)) acts) are in
      (λ of. absurd (false≢true (sym (ap not of) ∙ both.0)), apart_free (s ++ a ∷ []) acts both.1)

-- ---- what a row's handle is

-- What a request does with open files of a kind: those that it uses and releases, and the node of which it opens one.
pub record Handles : Type 0 where
  pub used : List Opened
  pub released : List Opened
  pub node : ℕ

-- with those that are no directories
abbrev pub files_of : RequestBody → Handles
files_of body = record { used = used_by body; released = released_by body; node = node_opened_by body }

-- the opcode that opens one
abbrev pub opener : OpenKind → Opcode
opener kind.File = op.Open
opener kind.Directory = op.Opendir

pub record HandleOf (which : OpenKind) (handles : Handles) (o : Opcode) (nodeid : ℕ) (other : Option ℕ) (h : OpenHandle) : Type 0 where
  pub opens : o ≡ opener which → nodeid ≡ handles.node
  pub uses : (file : OpenFile) → file_used o nodeid h ≡ Some file → same_kind file.kind which ≡ true
      → (p : Opened) × (handles.used ≡ p ∷ []) × (file ≡ as_file which p)
  pub copies : file_copied_to (or_none other) h ≡ None
  pub releases : (releasing o nodeid h ≡ []) ⊎ ((file : OpenFile) × (releasing o nodeid h ≡ act.Releases file ∷ [])
      × (same_kind file.kind which ≡ true → (p : Opened) × (handles.released ≡ p ∷ []) × (file ≡ as_file which p)))

some_file : (P : OpenFile → Type 0) (a b : OpenFile) → ◌≡◌ {A = Option OpenFile} (Some a) (Some b) → P a → P b
some_file P a b e p = subst P (ap of e) p
  where
    of : Option OpenFile → OpenFile
    of None = a
    of (Some x) = x

none_of : {P : Type 0} (file : OpenFile) → ◌≡◌ {A = Option OpenFile} None (Some file) → P
none_of file e = absurd (cc e)

module _ (which : OpenKind) (handles : Handles) where
  -- A row without a handle.
  pub none_handle : (o : Opcode) (nodeid : ℕ) (other : Option ℕ) → (o ≡ opener which → nodeid ≡ handles.node)
      → HandleOf which handles o nodeid other handle.None
  none_handle op.Release nodeid other opens = record {
    opens = opens;
    uses = λ file e. none_of file e;
    copies = refl;
    releases = inl refl;
  }
  none_handle op.Releasedir nodeid other opens = record {
    opens = opens;
    uses = λ file e. none_of file e;
    copies = refl;
    releases = inl refl;
  }
  none_handle op.Setupmapping nodeid other opens = record {
    opens = opens;
    uses = λ file e. none_of file e;
    copies = refl;
    releases = inl refl;
  }
  none_handle o nodeid other opens = record {
    opens = opens;
    uses = λ file e. none_of file e;
    copies = refl;
    releases = inl refl;
  }

  -- One that uses a file of the kind.
  pub used_handle : (o : Opcode) (nodeid : ℕ) (other : Option ℕ) (h : OpenHandle) (p : Opened) → (o ≡ opener which → ⊥)
      → file_used o nodeid h ≡ Some (as_file which p) → file_copied_to (or_none other) h ≡ None → releasing o nodeid h ≡ []
      → handles.used ≡ p ∷ [] → HandleOf which handles o nodeid other h
  used_handle o nodeid other h p apart uses copies releases used = record {
    opens = λ e. absurd (apart e);
    uses = λ file e of. some_file (λ (x : OpenFile). (q : Opened) × (handles.used ≡ q ∷ []) × (x ≡ as_file which q))
        (as_file which p) file (sym uses ∙ e) (p, used, refl);
    copies = copies;
    releases = inl releases;
  }

  -- One that uses a file of another kind.
  pub other_handle : (o : Opcode) (nodeid : ℕ) (other : Option ℕ) (h : OpenHandle) (x : OpenFile) → same_kind x.kind which ≡ false
      → (o ≡ opener which → ⊥) → file_used o nodeid h ≡ Some x → file_copied_to (or_none other) h ≡ None → releasing o nodeid h ≡ []
      → HandleOf which handles o nodeid other h
  other_handle o nodeid other h x another apart uses copies releases = record {
    opens = λ e. absurd (apart e);
    uses = λ file e of. absurd (some_file (λ (y : OpenFile). same_kind y.kind which ≡ true → ⊥) x file (sym uses ∙ e)
        (λ d. false≢true (sym another ∙ d)) of);
    copies = copies;
    releases = inl releases;
  }

  -- One that releases a file, of the kind or of another.
  pub released_handle : (o : Opcode) (nodeid : ℕ) (other : Option ℕ) (h : OpenHandle) (x : OpenFile) → (o ≡ opener which → ⊥)
      → file_used o nodeid h ≡ None → file_copied_to (or_none other) h ≡ None → releasing o nodeid h ≡ act.Releases x ∷ []
      → (same_kind x.kind which ≡ true → (p : Opened) × (handles.released ≡ p ∷ []) × (x ≡ as_file which p))
      → HandleOf which handles o nodeid other h
  released_handle o nodeid other h x apart uses copies releases is = record {
    opens = λ e. absurd (apart e);
    uses = λ file e. none_of file (sym uses ∙ e);
    copies = copies;
    releases = inr (x, releases, is);
  }

  module _ (k : Known) (frame : List ℕ) where
    pub moved : (o : Opcode) (m : RequestMessage) (is : IsRequestOf k.agreed frame (o, m)) (h : OpenHandle) → h ≡ m.handle
        → HandleOf which handles o (number_at 16 8 frame) m.node h → HandleOf which handles o m.nodeid m.node m.handle
    moved o m is h same fine = subst (λ (x : OpenHandle). HandleOf which handles o m.nodeid m.node x) same
        (subst (λ (n : ℕ). HandleOf which handles o n m.node h) is.nodeid fine)

    -- GETATTR without a file.
    pub getattr_handle : (m : RequestMessage) → IsRequestOf k.agreed frame (op.Getattr, m) → (op.Getattr ≡ opener which → ⊥)
        → number_at 40 4 frame ≡ 0 → HandleOf which handles op.Getattr m.nodeid m.node m.handle
    getattr_handle m is apart zero = moved op.Getattr m is handle.None (sym (ap (λ (n : ℕ). if bit_and n 1 == 0 then handle.None
        else handle.File (number_at 48 8 frame)) zero) ∙ is.handle)
        (none_handle op.Getattr (number_at 16 8 frame) m.node (λ e. absurd (apart e)))

    -- A row that is not sent.
    pub unsent_handle : {P : Type 0} → is_sent (opcode_in frame) ≡ true → (o : Opcode) (m : RequestMessage)
        → IsRequestOf k.agreed frame (o, m) → is_sent (code_of o) ≡ false → P
    unsent_handle sent o m is unsent = absurd (false≢true (sym (ap is_sent is.opcode ∙ unsent) ∙ sent))

-- ---- the rows that are sent

module _ (body : RequestBody) (k : Known) (frame : List ℕ) (says : SaysFiles body frame) where
  abbrev ours : Handles
  ours = files_of body

  abbrev node : ℕ
  node = number_at 16 8 frame

  abbrev fh : ℕ
  fh = number_at 40 8 frame

  never : {P : Type 0} (o : Opcode) (m : RequestMessage) → IsRequestOf k.agreed frame (o, m) → is_sent (code_of o) ≡ false → P
  never o m is unsent = unsent_handle kind.File ours k frame says.sent o m is unsent

  transfer : (o : Opcode) (m : RequestMessage) (is : IsRequestOf k.agreed frame (o, m)) → handle.File fh ≡ m.handle
      → (o ≡ op.Open → ⊥) → file_used o node (handle.File fh) ≡ Some (open_file (file_in frame))
      → releasing o node (handle.File fh) ≡ [] → (nat_eq (code_of o) 15 || nat_eq (code_of o) 16) ≡ true
      → HandleOf kind.File ours o m.nodeid m.node m.handle
  transfer o m is same apart uses releases coded = moved kind.File ours k frame o m is (handle.File fh) same
      (used_handle kind.File ours o node m.node (handle.File fh) (file_in frame) apart uses refl releases
      (says.used (ap (λ (n : ℕ). nat_eq n 15 || nat_eq n 16) is.opcode ∙ coded)))

  listing : (o : Opcode) (m : RequestMessage) (is : IsRequestOf k.agreed frame (o, m)) → handle.Directory fh ≡ m.handle
      → (o ≡ op.Open → ⊥) → file_used o node (handle.Directory fh) ≡ Some (as_file kind.Directory (file_in frame))
      → releasing o node (handle.Directory fh) ≡ [] → HandleOf kind.File ours o m.nodeid m.node m.handle
  listing o m is same apart uses releases = moved kind.File ours k frame o m is (handle.Directory fh) same
      (other_handle kind.File ours o node m.node (handle.Directory fh) (as_file kind.Directory (file_in frame)) refl apart uses refl
      releases)

  pub handle_of : (o : Opcode) (m : RequestMessage) → IsRequestOf k.agreed frame (o, m)
      → HandleOf kind.File ours o m.nodeid m.node m.handle
  handle_of op.Open m is = moved kind.File ours k frame op.Open m is handle.None is.handle (none_handle kind.File ours op.Open node m.node
      (λ e. sym (says.opened (ap (λ (n : ℕ). nat_eq n 14) is.opcode))))
  handle_of op.Read m is = transfer op.Read m is is.handle (λ e. cc e) refl refl refl
  handle_of op.Write m is = transfer op.Write m is is.handle (λ e. cc e) refl refl refl
  handle_of op.Release m is = moved kind.File ours k frame op.Release m is (handle.File fh) is.handle
      (released_handle kind.File ours op.Release node m.node (handle.File fh) (open_file (file_in frame)) (λ e. cc e) refl refl refl
      (λ of. (file_in frame, says.released (ap (λ (n : ℕ). nat_eq n 18) is.opcode), refl)))
  handle_of op.Getattr m is = getattr_handle kind.File ours k frame m is (λ e. cc e)
      (says.attributes (ap (λ (n : ℕ). nat_eq n 3) is.opcode))
  handle_of op.Readdir m is = listing op.Readdir m is is.handle (λ e. cc e) refl refl
  handle_of op.Readdirplus m is = listing op.Readdirplus m is is.handle (λ e. cc e) refl refl
  handle_of op.Releasedir m is = moved kind.File ours k frame op.Releasedir m is (handle.Directory fh) is.handle
      (released_handle kind.File ours op.Releasedir node m.node (handle.Directory fh) (as_file kind.Directory (file_in frame)) (λ e. cc e)
      refl refl refl (λ of. absurd (false≢true of)))
  handle_of op.Setattr m is = never op.Setattr m is refl
  handle_of op.Fsync m is = never op.Fsync m is refl
  handle_of op.Flush m is = never op.Flush m is refl
  handle_of op.Getlk m is = never op.Getlk m is refl
  handle_of op.Setlk m is = never op.Setlk m is refl
  handle_of op.Setlkw m is = never op.Setlkw m is refl
  handle_of op.Ioctl m is = never op.Ioctl m is refl
  handle_of op.Poll m is = never op.Poll m is refl
  handle_of op.Fallocate m is = never op.Fallocate m is refl
  handle_of op.Fsyncdir m is = never op.Fsyncdir m is refl
  handle_of op.Lseek m is = never op.Lseek m is refl
  handle_of op.CopyFileRange m is = never op.CopyFileRange m is refl
  handle_of op.CopyFileRange64 m is = never op.CopyFileRange64 m is refl
  handle_of op.Setupmapping m is = never op.Setupmapping m is refl
  handle_of op.Statx m is = never op.Statx m is refl
  handle_of o m is = moved kind.File ours k frame o m is handle.None is.handle
      (none_handle kind.File ours o node m.node (λ e. absurd (cc e)))
