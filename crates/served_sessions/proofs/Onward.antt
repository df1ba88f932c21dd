-- From one moment to another a server's files keep their kinds, and its nodes their files.
use Rattle.std.proofs.Common.{inl, inr, ℕ, List, Option, Some, None, sym, subst}
use Rattle.fuse_spec.specs.declared.WriteResult.{WriteResult}
use Rattle.fuse_spec.specs.declared.WriteResult.TheVariants.{Accepted}
use Rattle.fuse_spec.specs.Kernel.Messages.{RequestBody, release}
use Rattle.fuse_spec.specs.Server.Server.{Server}
use Rattle.fuse_spec.specs.Server.Taking.{taking}
use Rattle.fuse_spec.specs.World.Worlds.{Sent}
use Rattle.fs_server.specs.Effects.{PerformsHeld}
use Rattle.fs_server.specs.Releasing.{SettlesAnyhow, release_copy}
use Rattle.fuse_device.specs.Transfers.{Transfer}
use Rattle.fs_serve.specs.Sending.{Delivers, IsSettled, settled, unsettled}
use Rattle.fs_serve.specs.Serving.{ServesFrame, ServesHeld, done_at_once, dropped, name_too_long, performed as is_performed, refused, released, replied, replied_at_once, uninterrupted, unreleased, unreplied, untaken}
use Rattle.fs_serve.proofs.NodesLater.{Later, later_still, same_later, served_later, settled_later, taking_later}
use Rattle.served_sessions.proofs.Fine.{IsFine, performed_fine, taken_fine}
use Rattle.served_sessions.proofs.FileKinds.{same_files, then_files}
use Rattle.served_sessions.proofs.HeldFiles.{FilesOn, served_keeping, settled_keeping, taking_keeping}

-- A later moment of a server: its nodes and files are those of before, or new.
pub record Onward (old new : Server) : Type 0 where
  pub nodes : Later old.nodes new.nodes
  pub files : FilesOn old new

pub same_onward : (s : Server) → Onward s s
same_onward s = record { nodes = same_later s.nodes; files = same_files s.tree.files s.tree.next_inode }

pub then_onward : (a b c : Server) → Onward a b → Onward b c → Onward a c
then_onward a b c first second = record {
  nodes = later_still a.nodes b.nodes c.nodes first.nodes second.nodes;
  files = then_files a.tree.files b.tree.files c.tree.files a.tree.next_inode b.tree.next_inode c.tree.next_inode
      first.files second.files;
}

-- ---- steps

module _ (old : Server) (fine : IsFine old) where
  taken_onward : (unique : ℕ) (body : RequestBody) → Onward old (taking old unique body).server
  taken_onward unique body = record {
    nodes = taking_later old unique body;
    files = (taking_keeping old fine.firm unique body).files;
  }

  settled_onward : (number : ℕ) (result : WriteResult) (new : Server) → IsSettled old number result new → Onward old new
  settled_onward number result new (inl settles) = subst (Onward old) (sym settles.after) (record {
    nodes = settled_later old number settles.copy result;
    files = (settled_keeping old fine.firm number settles.copy result).files;
  })
  settled_onward number result new (inr (refusal, absent, same)) = subst (Onward old) (sym same) (same_onward old)

  delivered_onward : (copy : Sent) (log : List Transfer) (new : Server) → Delivers copy old log new → Onward old new
  delivered_onward copy log new (settled opcode bytes frame result new' is) = settled_onward copy.number result new is
  delivered_onward copy log new (unsettled opcode bytes frame end) = same_onward old

  performed_onward : (unique errno : ℕ) (copy : Option Sent) (did : Server) → PerformsHeld old unique errno copy did
      → Onward old did
  performed_onward unique errno copy did p = subst (Onward old) (sym p.server_is) (record {
    nodes = served_later p.choice old unique p.held;
    files = (served_keeping p.choice old fine.sound.tree fine.stands fine.firm unique p.held).files;
  })

-- ---- a frame is served

held_onward : (old : Server) → IsFine old → (unique : ℕ) (log : List Transfer) (new : Server)
    → ServesHeld old unique log new → Onward old new
held_onward old fine unique log new (replied errno copy did p log' new' delivers) =
    then_onward old did new (performed_onward old fine unique errno (Some copy) did p)
    (delivered_onward did (performed_fine old fine unique errno (Some copy) did p) copy log new delivers)
held_onward old fine unique log new (unreplied errno new' p) = performed_onward old fine unique errno None new p
held_onward old fine unique log new (dropped refusal why log' sends) =
    record { nodes = same_later old.nodes; files = same_files old.tree.files old.tree.next_inode }

anyhow_onward : (did : Server) → IsFine did → (copy : Option Sent) (new : Server) → SettlesAnyhow did copy new
    → Onward did new
anyhow_onward did fine None new same = subst (Onward did) (sym same) (same_onward did)
anyhow_onward did fine (Some copy) new settles = settled_onward did fine copy.number Accepted new (inl (settles Accepted))

pub frame_onward : (old : Server) → IsFine old → (frame : List ℕ) (log : List Transfer) (new : Server)
    → ServesFrame old frame log new → Onward old new
frame_onward old fine frame log new (done_at_once request new' took silent not_held) =
    subst (Onward old) (sym took.after) (taken_onward old fine request.unique request.body)
frame_onward old fine frame log new (replied_at_once request taken took copy is log' new' delivers) =
    then_onward old taken new (subst (Onward old) (sym took.after) (taken_onward old fine request.unique request.body))
    (delivered_onward taken (subst IsFine (sym took.after) (taken_fine old fine request.unique request.body)) copy log new
    delivers)
frame_onward old fine frame log new (released unique opened says errno new' releases log' replies) =
    let taken : Server = (taking old unique (release opened)).server in
    let taken_so = taken_fine old fine unique (release opened) in
    let copy = release_copy old unique errno in
    then_onward old taken new (taken_onward old fine unique (release opened)) (then_onward taken releases.did new
    (performed_onward taken taken_so unique errno copy releases.did releases.performs)
    (anyhow_onward releases.did (performed_fine taken taken_so unique errno copy releases.did releases.performs) copy new
    releases.settles))
frame_onward old fine frame log new (unreleased unique opened says refuses log' sends) = same_onward old
frame_onward old fine frame log new (is_performed request taken took held other log' new' serves) =
    then_onward old taken new (subst (Onward old) (sym took.after) (taken_onward old fine request.unique request.body))
    (held_onward taken (subst IsFine (sym took.after) (taken_fine old fine request.unique request.body)) request.unique log
    new serves)
frame_onward old fine frame log new (untaken can wants other not_interrupt log' sends) = same_onward old
frame_onward old fine frame log new (uninterrupted can wants is) = same_onward old
frame_onward old fine frame log new (name_too_long refuses long low log' sends) = same_onward old
frame_onward old fine frame log new (refused fault refuses not_memory other low log' sends) = same_onward old
