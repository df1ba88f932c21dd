-- Each frame of a run is a request of its opcode's row.
use Rattle.std.proofs.Common.{◌≡◌, inl, inr, ◌<◌, ◌^◌, ℕ, Bool, List, [], length, None, refl, sym, ◌∙◌, ap, arith}
use Rattle.std.specs.Prelude.{slice_range}
use Rattle.std.proofs.lemmas.List.{drop_all}
use Rattle.fk_fields.specs.Fields.{number_at}
use Rattle.fk_wire.specs.Opcodes.{latest_minor}
use Rattle.fk_wire.proofs.Frames.{length-spellings}
use Rattle.fuse_spec.specs.declared.Opened.{Opened}
use Rattle.fuse_spec.specs.Kernel.Kernel.{Kernel}
use Rattle.fuse_spec.specs.Kernel.Messages.{Request}
use Rattle.fuse_frames.specs.RequestTies.{SaysRequest}
use Rattle.fuse_device.specs.Transfers.{Transfer}
use Rattle.fk_drive.specs.Driving.{Driven, Drives, first_driven}
use Rattle.fk_drive_frames.specs.OwnRequests.{IsOpendir, IsReleasedir, opendir_fields, releasedir_fields}
use Rattle.fuse_protocol.specs.declared.agreed.Agreed.{Agreed}
use Rattle.fuse_protocol.specs.declared.opcode.Opcode.TheVariants as op
use Rattle.fuse_protocol.specs.declared.request.OpenHandle.TheVariants as handle
use Rattle.fuse_protocol.specs.Requests.{extension_size}
use Rattle.protocol_law.specs.Law.{Carries, opcode_in}
use Rattle.protocol_law.proofs.Alike.{alike}
use Rattle.driven_sessions.specs.Transfers.{AllSent, IsShaped}
use Rattle.driven_sessions.proofs.Frames.{IsOwn, opendir_starts, releasedir_starts}
use Rattle.driven_sessions.proofs.Sending.{run_sends}

pub said_shaped : (frame : List ℕ) (r : Request) → SaysRequest frame r → IsShaped frame
said_shaped frame r says agreed carries =
    let read = alike latest_minor agreed frame says.message carries says.spells in
    (opcode_in says.message.content, read.0, read.1)

no_extensions : (agreed : Agreed) (bytes : List ℕ) → Carries agreed → extension_size agreed bytes ≡ 0
no_extensions agreed bytes carries = let none = carries.no_extensions in rw none refl

opendir_shaped : (bytes : List ℕ) (unique node : ℕ) → unique < 2 ^ 63 → IsOpendir bytes unique node → IsShaped bytes
opendir_shaped bytes unique node low is agreed carries =
    let long : length bytes ≡ 48 = ap (λ (l : List ℕ). length l) is.1 ∙ length-spellings (opendir_fields unique node) in
    let starts = opendir_starts bytes unique node is low in
    let none = no_extensions agreed bytes carries in (
      op.Opendir,
      record {
        unique = number_at 8 8 bytes;
        nodeid = number_at 16 8 bytes;
        node = None;
        handle = handle.None;
        asked = 0;
        fixed = slice_range bytes 40 48;
        names = [];
        tail = [];
        extensions = [];
      },
      record {
        short = omega (arith, long);
        len = starts.0 ∙ sym long;
        opcode = starts.1;
        unique = refl;
        nodeid = refl;
        whole = omega (arith, none, long);
        node = refl;
        handle = refl;
        asked = refl;
        fixed = refl;
        parts = drop_all 48 bytes (omega (arith, long));
        names = tt;
        tail = refl;
        extensions = sym none;
      },
    )

releasedir_shaped : (bytes : List ℕ) (unique : ℕ) (opened : Opened) → unique < 2 ^ 63 → IsReleasedir bytes unique opened
    → IsShaped bytes
releasedir_shaped bytes unique opened low is agreed carries =
    let long : length bytes ≡ 64 = ap (λ (l : List ℕ). length l) is.2 ∙ length-spellings (releasedir_fields unique opened) in
    let starts = releasedir_starts bytes unique opened is low in
    let none = no_extensions agreed bytes carries in (
      op.Releasedir,
      record {
        unique = number_at 8 8 bytes;
        nodeid = number_at 16 8 bytes;
        node = None;
        handle = handle.Directory (number_at 40 8 bytes);
        asked = 0;
        fixed = slice_range bytes 40 64;
        names = [];
        tail = [];
        extensions = [];
      },
      record {
        short = omega (arith, long);
        len = starts.0 ∙ sym long;
        opcode = starts.1;
        unique = refl;
        nodeid = refl;
        whole = omega (arith, none, long);
        node = refl;
        handle = refl;
        asked = refl;
        fixed = refl;
        parts = drop_all 64 bytes (omega (arith, long));
        names = tt;
        tail = refl;
        extensions = sym none;
      },
    )

pub own_shaped : (bytes : List ℕ) (unique : ℕ) → unique < 2 ^ 63 → IsOwn bytes unique → IsShaped bytes
own_shaped bytes unique low (inl (node, is)) = opendir_shaped bytes unique node low is
own_shaped bytes unique low (inr (opened, is)) = releasedir_shaped bytes unique opened low is

pub run_shaped : (asks : Bool) (log : List Transfer) (new : Driven) → Drives (first_driven asks) log new
    → AllSent IsShaped log
run_shaped asks log new run = (run_sends (λ (r : Request). Unit {0}) IsShaped (λ (k : Kernel). Unit {0})
    (λ k pick r fine is. tt) (λ frame r good says. said_shaped frame r says) (λ frame unique even low own. own_shaped frame unique low own) asks (λ log' new' run'. tt) log new
    run).0
