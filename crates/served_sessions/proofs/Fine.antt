-- A server that was just mounted stays sound, and each name of its tree leads to a file.
use Rattle.std.proofs.Common.{◌≢◌, ◌<◌, arith, ℕ, Bool, true, false, cond, List, [], ◌∷◌, Option, Some, None, refl, sym, subst, inl, inr}
use Rattle.std.proofs.lemmas.Bool.{cases_eq}
use Rattle.std.proofs.lemmas.List.Elements.{All-nil}
use Rattle.fuse_spec.specs.declared.WriteResult.{WriteResult}
use Rattle.fuse_spec.specs.declared.WriteResult.TheVariants.{Accepted, Invalid, NoEntry}
use Rattle.fuse_spec.specs.Values.Maps.{get, remove}
use Rattle.fuse_spec.specs.Files.Operations.{done, files_in_reply, opens_in_reply}
use Rattle.fuse_spec.specs.Files.Trees.{Named, a_directory}
use Rattle.fuse_spec.specs.Kernel.Messages.{RequestBody, WireReply, asks, batch_forget, forget, init, interrupt, release}
use Rattle.fuse_spec.specs.Server.Copies.{after_result, handles_back, kept_after, rows_back}
use Rattle.fuse_spec.specs.Server.Nodes.{file_of, handle_back, is_open}
use Rattle.fuse_spec.specs.Server.Performs.{doing, file_operation_of, is_open_for, is_still_held, performed, performing, refusing, served}
use Rattle.fuse_spec.specs.Server.Server.{HeldRequest, Kept, Server, all_taken_back, holding}
use Rattle.fuse_spec.specs.Server.Taking.{interrupting, taking}
use Rattle.fuse_spec.specs.World.Worlds.{Sent, first_server}
use Rattle.fuse_spec.proofs.Tables.{get_put_there}
use Rattle.fuse_theorem.specs.ServerTables.{ServerSound, TreeSound}
use Rattle.fuse_theorem.proofs.Nodes.NodesSound.{left_none}
use Rattle.fuse_theorem.proofs.Nodes.ServerSound.{first_sound, result_sound, served_sound, taking_sound}
use Rattle.fs_server.specs.Effects.{PerformsHeld}
use Rattle.fs_server.specs.Releasing.{SettlesAnyhow, release_copy}
use Rattle.fuse_device.specs.Transfers.{Transfer}
use Rattle.fs_serve.specs.LookupCounts.{IsFresh, fresh}
use Rattle.fs_serve.specs.Sending.{Delivers, IsSettled, settled, unsettled}
use Rattle.fs_serve.specs.Serving.{Serves, ServesFrame, ServesHeld, ServesNext, ServesPairs, batch, done_at_once, dropped, more_pairs, name_too_long, next, no_pairs, none, nothing, one, performed as is_performed, refused, released, replied, replied_at_once, uninterrupted, unreleased, unreplied, untaken}
use Rattle.served_sessions.proofs.HeldFiles.{IsFirm, discarded_firm, served_keeping, settled_keeping, taking_keeping}
use Rattle.served_sessions.proofs.Standing.{Stands, discarded_stands, stands_after}

-- The server is sound, and the names of its tree stand, as do the files that nodes and file handles hold.
pub record IsFine (s : Server) : Type 0 where
  pub sound : ServerSound s
  pub stands : Stands s.tree
  pub firm : IsFirm s

-- a server's first tree has the root alone
first_numbered : (file : ℕ) → get ((0, a_directory) ∷ []) file ≢ None → file < 1
first_numbered file there = elim (cases_eq file 0) [
  | inl e ↦ omega (arith, e)
  | inr ne ↦ absurd (there (get_put_there [] 0 a_directory file ne))
]

fresh_firm : (s : Server) → IsFresh s → IsFirm s
fresh_firm s (fresh validity minor) = discarded_firm (record first_server { validity = validity; minor = minor }) (record {
  nodes = λ id row at. absurd cc;
  handles = λ fh handle at. absurd cc;
  numbered = first_numbered;
})

pub fresh_fine : (s : Server) → IsFresh s → IsFine s
fresh_fine s (fresh validity minor) = record {
  sound = record {
    tree = record { root = refl; names = All-nil (λ (n : Named). n.file ≢ 0); inodes = first_sound.tree.inodes };
    nodes = first_sound.nodes;
    handles = first_sound.handles;
    copies = λ number later. refl;
  };
  stands = All-nil (λ (n : Named). get s.tree.files n.file ≢ None);
  firm = fresh_firm s (fresh validity minor);
}

-- ---- a request is taken

-- what is held changes nothing of it
pub held_fine : (s : Server) → IsFine s → (unique : ℕ) (body : RequestBody) → IsFine (holding s unique body)
held_fine s fine unique body =
    let sound = fine.sound in
    let firm = fine.firm in
    record {
      sound = record { tree = sound.tree; nodes = sound.nodes; handles = sound.handles; copies = sound.copies };
      stands = fine.stands;
      firm = record { nodes = firm.nodes; handles = firm.handles; numbered = firm.numbered };
    }

taking_stands : (s : Server) → Stands s.tree → (unique : ℕ) (body : RequestBody)
    → Stands (taking s unique body).server.tree
taking_stands s stands unique (init flags) = stands
taking_stands s stands unique (asks operation) = stands
taking_stands s stands unique (release o) = stands
taking_stands s stands unique (forget f) =
    discarded_stands (record s { nodes = all_taken_back s.nodes (f ∷ []) }) stands
taking_stands s stands unique (batch_forget fs) =
    discarded_stands (record s { nodes = all_taken_back s.nodes fs }) stands
taking_stands s stands unique (interrupt original) = by (get s.held original) (get s.kept original)
  where
    by : (h : Option HeldRequest) (k : Option Kept) → Stands (interrupting s unique original h k).server.tree
    by (Some taken) k = stands
    by None (Some kept) = stands
    by None None = stands

-- ---- a request is performed

module _ (choice : ℕ → ℕ) (s : Server) (tree : TreeSound s.tree) (stands : Stands s.tree) where
  performing_stands : (body : RequestBody) → Stands (performing choice s body).server.tree
  performing_stands (init flags) = stands
  performing_stands (asks operation) = by (is_open_for s operation)
    where
      by : (b : Bool) → Stands (cond b (doing choice s (file_operation_of s.nodes operation)) (refusing s 9)).server.tree
      by true = stands_after s.tree tree stands (file_operation_of s.nodes operation)
      by false = stands
  performing_stands (release o) = by (is_open s.handles o.fh (file_of s.nodes o.nodeid))
    where
      by : (b : Bool) → Stands (cond b (record {
        server = record s { handles = handle_back s.handles o.fh };
        wire = done;
      }) (refusing s 9)).server.tree
      by true = stands
      by false = stands
  performing_stands (forget f) = stands
  performing_stands (batch_forget fs) = stands
  performing_stands (interrupt original) = stands

served_stands : (choice : ℕ → ℕ) (s : Server) → TreeSound s.tree → Stands s.tree → (unique : ℕ) (taken : HeldRequest)
    → Stands (served choice s unique taken).server.tree
served_stands choice s tree stands unique taken =
    discarded_stands (performed choice (record s { held = remove s.held unique }) taken).server
    (by taken.marked (is_still_held s.nodes taken.generations))
  where
    less : Server
    less = record s { held = remove s.held unique }

    by : (m h : Bool) → Stands (cond m (refusing less 4)
        (cond h (performing choice less taken.body) (refusing less 5))).server.tree
    by true h = stands
    by false true = performing_stands choice less tree stands taken.body
    by false false = stands

-- ---- a copy is settled

result_stands : (s : Server) → Stands s.tree → (wire : WireReply) (result : WriteResult)
    → Stands (after_result s wire result).tree
result_stands s stands wire Accepted = stands
result_stands s stands wire NoEntry = discarded_stands (record s {
  nodes = rows_back s.nodes (files_in_reply wire);
  handles = handles_back s.handles (opens_in_reply wire);
}) stands
result_stands s stands wire Invalid = discarded_stands (record s {
  nodes = rows_back s.nodes (files_in_reply wire);
  handles = handles_back s.handles (opens_in_reply wire);
}) stands

module _ (old : Server) (fine : IsFine old) where
  settled_fine : (number : ℕ) (result : WriteResult) (new : Server) → IsSettled old number result new → IsFine new
  settled_fine number result new (inl settles) =
      let sound = fine.sound in
      subst IsFine (sym settles.after) (record {
        sound = result_sound _ (record {
          tree = sound.tree;
          nodes = sound.nodes;
          handles = sound.handles;
          copies = λ n later. left_none old.copies number n (sound.copies n later);
        }) (let c = settles.copy in c.wire) result;
        stands = result_stands (record old {
          copies = remove old.copies number;
          kept = kept_after old.kept settles.copy (get old.kept (let c = settles.copy in c.unique));
        }) fine.stands (let c = settles.copy in c.wire) result;
        firm = (settled_keeping old fine.firm number settles.copy result).firm;
      })
  settled_fine number result new (inr (refusal, absent, same)) = subst IsFine (sym same) fine

  delivered_fine : (copy : Sent) (log : List Transfer) (new : Server) → Delivers copy old log new → IsFine new
  delivered_fine copy log new (settled opcode bytes frame result new' is) = settled_fine copy.number result new is
  delivered_fine copy log new (unsettled opcode bytes frame end) = fine

  pub taken_fine : (unique : ℕ) (body : RequestBody) → IsFine (taking old unique body).server
  taken_fine unique body = record {
    sound = taking_sound old fine.sound unique body;
    stands = taking_stands old fine.stands unique body;
    firm = (taking_keeping old fine.firm unique body).firm;
  }

  pub performed_fine : (unique errno : ℕ) (copy : Option Sent) (did : Server) → PerformsHeld old unique errno copy did → IsFine did
  performed_fine unique errno copy did p =
      let sound = fine.sound in
      subst IsFine (sym p.server_is) (record {
        sound = served_sound p.choice old sound unique p.held p.may;
        stands = served_stands p.choice old sound.tree fine.stands unique p.held;
        firm = (served_keeping p.choice old sound.tree fine.stands fine.firm unique p.held).firm;
      })

-- ---- a frame is served

held_served_fine : (old : Server) → IsFine old → (unique : ℕ) (log : List Transfer) (new : Server)
    → ServesHeld old unique log new → IsFine new
held_served_fine old fine unique log new (replied errno copy did p log' new' delivers) =
    delivered_fine did (performed_fine old fine unique errno (Some copy) did p) copy log new delivers
held_served_fine old fine unique log new (unreplied errno new' p) = performed_fine old fine unique errno None new p
held_served_fine old fine unique log new (dropped refusal why log' sends) =
    let sound = fine.sound in
    let firm = fine.firm in
    record {
      sound = record { tree = sound.tree; nodes = sound.nodes; handles = sound.handles; copies = sound.copies };
      stands = fine.stands;
      firm = record { nodes = firm.nodes; handles = firm.handles; numbered = firm.numbered };
    }

released_fine : (did : Server) → IsFine did → (copy : Option Sent) (new : Server) → SettlesAnyhow did copy new → IsFine new
released_fine did fine None new same = subst IsFine (sym same) fine
released_fine did fine (Some copy) new settles = settled_fine did fine copy.number Accepted new (inl (settles Accepted))

pub frame_fine : (old : Server) → IsFine old → (frame : List ℕ) (log : List Transfer) (new : Server)
    → ServesFrame old frame log new → IsFine new
frame_fine old fine frame log new (done_at_once request new' took silent not_held) =
    subst IsFine (sym took.after) (taken_fine old fine request.unique request.body)
frame_fine old fine frame log new (replied_at_once request taken took copy is log' new' delivers) =
    delivered_fine taken (subst IsFine (sym took.after) (taken_fine old fine request.unique request.body)) copy log new
    delivers
frame_fine old fine frame log new (released unique opened says errno new' releases log' replies) =
    let taken : Server = (taking old unique (release opened)).server in
    released_fine releases.did (performed_fine taken (taken_fine old fine unique (release opened)) unique errno
    (release_copy old unique errno) releases.did releases.performs) (release_copy old unique errno) new releases.settles
frame_fine old fine frame log new (unreleased unique opened says refuses log' sends) = fine
frame_fine old fine frame log new (is_performed request taken took held other log' new' serves) =
    held_served_fine taken (subst IsFine (sym took.after) (taken_fine old fine request.unique request.body)) request.unique
    log new serves
frame_fine old fine frame log new (untaken can wants other not_interrupt log' sends) = fine
frame_fine old fine frame log new (uninterrupted can wants is) = fine
frame_fine old fine frame log new (name_too_long refuses long low log' sends) = fine
frame_fine old fine frame log new (refused fault refuses not_memory other low log' sends) = fine

-- ---- frame after frame

pairs_fine : (bytes : List ℕ) (old : Server) → IsFine old → (pairs : List ℕ) (log : List Transfer) (new : Server)
    → ServesPairs bytes old pairs log new → IsFine new
pairs_fine bytes old fine pairs log new no_pairs = fine
pairs_fine bytes old fine pairs log new (more_pairs served before mid serves going left split log' new' more) =
    frame_fine mid (pairs_fine bytes old fine served before mid serves) _ log' new more

next_fine : (old : Server) → IsFine old → (log : List Transfer) (new : Server) → ServesNext old log new → IsFine new
next_fine old fine log new (one bytes frame read log' new' serves) = frame_fine old fine frame log' new serves
next_fine old fine log new (batch bytes long log' new' serves) =
    pairs_fine bytes old fine serves.pairs log' new serves.serves
next_fine old fine log new (none end) = fine

pub serves_fine : (old : Server) → IsFine old → (log : List Transfer) (new : Server) → Serves old log new → IsFine new
serves_fine old fine log new nothing = fine
serves_fine old fine log new (next before mid serves going log' new' more) =
    next_fine mid (serves_fine old fine before mid serves) log' new more
