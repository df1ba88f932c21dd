-- No pair of nodeid and generation is given twice, whatever goes over the device.
use Rattle.std.proofs.Common.{◌≡◌, ℕ, ◌≤◌, ◌<◌, Bool, true, false, cond, inl, inr, List, Option, Some, None, All, get_or, [], ◌∷◌, refl, ap, sym, subst, ◌∙◌, arith}
use Rattle.fuse_spec.specs.declared.Entry.{Entry}
use Rattle.fuse_spec.specs.declared.WriteResult.{WriteResult}
use Rattle.fuse_spec.specs.declared.WriteResult.TheVariants.{Accepted}
use Rattle.fuse_spec.specs.Values.Maps.{get, remove}
use Rattle.fuse_spec.specs.Files.Operations.{files_in_reply}
use Rattle.fuse_spec.specs.Kernel.Messages.{Request, WireReply, release}
use Rattle.fuse_spec.specs.Server.Nodes.{HeldNode, NodeTable, root_row, row_of}
use Rattle.fuse_spec.specs.Server.Performs.{served}
use Rattle.fuse_spec.specs.Server.Server.{Server}
use Rattle.fuse_spec.specs.Server.Taking.{taking}
use Rattle.fuse_spec.specs.World.Worlds.{Sent}
use Rattle.fuse_theorem.specs.Lookups.{EntriesHeld, IsHeldAs}
use Rattle.fuse_theorem.specs.ServerTables.{ServerSound}
use Rattle.fuse_theorem.proofs.Calls.Finding.{other_is}
use Rattle.fuse_theorem.proofs.Lookups.PerformedCounts.{performed_counts}
use Rattle.fuse_theorem.proofs.Nodes.NodesSound.{left_none}
use Rattle.fuse_theorem.proofs.Nodes.ServerSound.{result_sound, served_sound, taking_sound}
use Rattle.fk_wire.specs.declared.opcode.Opcode.TheVariants.{Release}
use Rattle.fs_server.specs.Effects.{PerformsHeld, first_copy}
use Rattle.fs_server.specs.Releasing.{SettlesAnyhow, release_copy}
use Rattle.fuse_device.specs.Transfers as transfers
use Rattle.fuse_device.specs.Transfers.{Transfer}
use Rattle.fs_serve.specs.LookupCounts.{IsFresh}
use Rattle.fs_serve.specs.NodePairs.{ComesTo, GivesPairsOnce, HoldsPair, ServesStep, no_step, one_step, step_deliver, step_drop, step_perform, step_take}
use Rattle.fs_serve.specs.Sending.{Delivers, IsSettled, RepliesToRelease, settled, unsettled}
use Rattle.fs_serve.specs.Serving.{Serves, ServesFrame, ServesHeld, ServesNext, ServesPairs, TakesRequest, batch, done_at_once, dropped, more_pairs, next, no_pairs, none, nothing, one, performed, name_too_long, refused, released, replied, replied_at_once, uninterrupted, unreleased, unreplied, untaken}
use Rattle.fs_serve.proofs.BetweenFrames.{fresh_between}
use Rattle.fs_serve.proofs.Delivered.{some_same}
use Rattle.fs_serve.proofs.NodesLater.{GenerationsGiven, Later, WasHeld, later_still, same_later, served_later, settled_later, taking_later}

-- The nodes of one server are those of an older one, later on.
abbrev FromTo : Server → Server → Type 0
FromTo old new = Later old.nodes new.nodes

-- ---- one step

settles_later : (old : Server) (number : ℕ) (result : WriteResult) (new : Server) → IsSettled old number result new
    → FromTo old new
settles_later old number result new (inl settles) =
    subst (FromTo old) (sym settles.after) (settled_later old number settles.copy result)
settles_later old number result new (inr (refusal, absent, same)) = subst (FromTo old) (sym same) (same_later old.nodes)

delivers_later : (copy : Sent) (old : Server) (log : List Transfer) (new : Server) → Delivers copy old log new
    → FromTo old new
delivers_later copy old log new (settled opcode bytes frame result new' is) =
    settles_later old copy.number result new is
delivers_later copy old log new (unsettled opcode bytes frame end) = same_later old.nodes

module _ (old : Server) (frame : List ℕ) where
  takes_later : (request : _) (taken : Server) → TakesRequest old frame request taken → FromTo old taken
  takes_later request taken takes =
      subst (FromTo old) (sym takes.after) (taking_later old request.unique request.body)

-- ---- steps

step_later : (old new : Server) → ServesStep old new → FromTo old new
step_later old new (step_take frame request new' took) = takes_later old frame request new took
step_later old new (step_perform unique errno copy new' performed_it) =
    subst (FromTo old) (sym performed_it.server_is) (served_later performed_it.choice old unique performed_it.held)
step_later old new (step_deliver copy log new' delivered_it) = delivers_later copy old log new delivered_it
step_later old new (step_drop unique) = same_later old.nodes

comes_later : (old new : Server) → ComesTo old new → FromTo old new
comes_later old new no_step = same_later old.nodes
comes_later old new (one_step mid comes new' step) =
    later_still old.nodes mid.nodes new.nodes (comes_later old mid comes) (step_later mid new step)

-- ---- what is served goes by steps

module _ (start : Server) where
  held_comes : (old : Server) → ComesTo start old → (unique : ℕ) (log : List Transfer) (new : Server)
      → ServesHeld old unique log new → ComesTo start new
  held_comes old comes unique log new (replied errno copy did performs_it log' new' delivers_it) =
      one_step did (one_step old comes did (step_perform unique errno (Some copy) did performs_it)) new
      (step_deliver copy log new delivers_it)
  held_comes old comes unique log new (unreplied errno new' performs_it) =
      one_step old comes new (step_perform unique errno None new performs_it)
  held_comes old comes unique log new (dropped refusal refuses log' sends) =
      one_step old comes new (step_drop unique)

  release_comes : (taken : Server) → ComesTo start taken → (unique errno : ℕ) (copy : Option Sent) (did : Server)
      → PerformsHeld taken unique errno copy did → (new : Server) → SettlesAnyhow did copy new → (log : List Transfer)
      → RepliesToRelease copy log → ComesTo start new
  release_comes taken comes unique errno None did performs_it new same log replies = subst (ComesTo start) (sym same)
      (one_step taken comes did (step_perform unique errno None did performs_it))
  release_comes taken comes unique errno (Some copy) did performs_it new settles log (bytes, framed, sends) =
      one_step did (one_step taken comes did (step_perform unique errno (Some copy) did performs_it)) new
      (step_deliver copy (transfers.sent bytes Accepted ∷ []) new
      (settled Release bytes framed Accepted new (inl (settles Accepted))))

  frame_comes : (old : Server) → ComesTo start old → (frame : List ℕ) (log : List Transfer) (new : Server)
      → ServesFrame old frame log new → ComesTo start new
  frame_comes old comes frame log new (done_at_once request new' took silent not_held) =
      one_step old comes new (step_take frame request new took)
  frame_comes old comes frame log new (replied_at_once request taken took copy sent log' new' delivers_it) =
      one_step taken (one_step old comes taken (step_take frame request taken took)) new
      (step_deliver copy log new delivers_it)
  frame_comes old comes frame log new (released unique opened says errno new' releases log' replies) =
      let request : Request = record { unique = unique; body = release opened } in
      let taken : Server = (taking old unique (release opened)).server in
      let took : TakesRequest old frame request taken = record {
        says = says;
        faultless = releases.faultless;
        after = refl;
      } in
      release_comes taken (one_step old comes taken (step_take frame request taken took)) unique errno
      (release_copy old unique errno) releases.did releases.performs new releases.settles log replies
  frame_comes old comes frame log new (unreleased unique opened says refuses log' sends) = comes
  frame_comes old comes frame log new (performed request taken took held other log' new' serves) =
      held_comes taken (one_step old comes taken (step_take frame request taken took)) request.unique log new serves
  frame_comes old comes frame log new (untaken can wants other not_interrupt log' sends) = comes
  frame_comes old comes frame log new (uninterrupted can wants is_interrupt) = comes
  frame_comes old comes frame log new (name_too_long refuses too_long low log' sends) = comes
  frame_comes old comes frame log new (refused fault refuses not_memory other low log' sends) = comes

  pairs_come : (bytes : List ℕ) (old : Server) → ComesTo start old → (pairs : List ℕ) (log : List Transfer)
      (new : Server) → ServesPairs bytes old pairs log new → ComesTo start new
  pairs_come bytes old comes pairs log new no_pairs = comes
  pairs_come bytes old comes pairs log new (more_pairs served before mid serves going left split log' new' more) =
      frame_comes mid (pairs_come bytes old comes served before mid serves) _ log' new more

  next_comes : (old : Server) → ComesTo start old → (log : List Transfer) (new : Server) → ServesNext old log new
      → ComesTo start new
  next_comes old comes log new (one bytes read is_read log' new' serves) = frame_comes old comes read log' new serves
  next_comes old comes log new (batch bytes long log' new' serves) =
      pairs_come bytes old comes serves.pairs log' new serves.serves
  next_comes old comes log new (none end) = comes

  all_come : (log : List Transfer) (new : Server) → Serves start log new → ComesTo start new
  all_come log new nothing = no_step
  all_come log new (next before mid serves going log' new' more) = next_comes mid (all_come before mid serves) log' new more

-- ---- the tables stay sound

step_sound : (old new : Server) → ServerSound old → ServesStep old new → ServerSound new
step_sound old new sound (step_take frame request new' took) =
    subst ServerSound (sym took.after) (taking_sound old sound request.unique request.body)
step_sound old new sound (step_perform unique errno copy new' did) =
    subst ServerSound (sym did.server_is) (served_sound did.choice old sound unique did.held did.may)
step_sound old new sound (step_deliver copy log new' delivered_it) = by log new delivered_it
  where
    settled_so : (number : ℕ) (result : WriteResult) (new : Server) → IsSettled old number result new → ServerSound new
    settled_so number result new (inl settles) = subst ServerSound (sym settles.after) (result_sound _ (record {
      tree = sound.tree;
      nodes = sound.nodes;
      handles = sound.handles;
      copies = λ n later. left_none old.copies number n (sound.copies n later);
    }) (let c = settles.copy in c.wire) result)
    settled_so number result new (inr (refusal, absent, same)) = subst ServerSound (sym same) sound

    by : (log : List Transfer) (new : Server) → Delivers copy old log new → ServerSound new
    by log new (settled opcode bytes frame result new' is) = settled_so copy.number result new is
    by log new (unsettled opcode bytes frame end) = sound
step_sound old new sound (step_drop unique) = record {
  tree = sound.tree;
  nodes = sound.nodes;
  handles = sound.handles;
  copies = sound.copies;
}

comes_sound : (old new : Server) → ServerSound old → ComesTo old new → ServerSound new
comes_sound old new sound no_step = sound
comes_sound old new sound (one_step mid comes new' step) = step_sound mid new (comes_sound old mid sound comes) step

-- ---- what a reply names is held

-- a copy that is sent is that of the reply
copy_wire : (aborted : Bool) (number unique : ℕ) (wire : WireReply) (copy : Sent)
    → Some copy ≡ first_copy aborted number unique wire → copy.wire ≡ wire
copy_wire true number unique wire copy is = let no : ◌≡◌ {A = Option Sent} (Some copy) None = is in cc
copy_wire false number unique wire copy is = ap (λ (c : Sent). c.wire) (some_same copy _ is)

-- the root alone has another row than the table's
no_root : (t : NodeTable) (id : ℕ) → 2 ≤ id → get t.rows id ≡ row_of t id
no_root t id low = sym (ap (λ (b : Bool). cond b (Some root_row) (get t.rows id))
    (other_is id 1 (λ is_root. omega (arith, is_root, low))))

pair_held : (s : Server) (e : Entry) → 2 ≤ e.nodeid → IsHeldAs s.nodes e.nodeid e.generation
    → (file : ℕ) × HoldsPair s e.nodeid e.generation file
pair_held s e low (file, denotes) = (
  file,
  record {
    node = denotes.row;
    held = no_root s.nodes e.nodeid low ∙ denotes.there;
    under = denotes.same_generation;
    of_file = denotes.same_file;
  },
)

reply_held : (mid : Server) → ServerSound mid → (unique errno : ℕ) (copy : Sent) (did : Server)
    → PerformsHeld mid unique errno (Some copy) did
    → All (λ (e : Entry). (file : ℕ) × HoldsPair did e.nodeid e.generation file) (files_in_reply copy.wire)
reply_held mid sound unique errno copy did performs_it =
    let less : Server = record mid { held = remove mid.held unique } in
    let counted = performed_counts performs_it.choice less sound.nodes performs_it.held performs_it.may in
    let all : Server = (served performs_it.choice mid unique performs_it.held).server in
    let wire = copy_wire mid.aborted mid.next_copy unique
    (served performs_it.choice mid unique performs_it.held).wire copy performs_it.copy_is in
    let held : EntriesHeld all.nodes (served performs_it.choice mid unique performs_it.held).wire = counted.held in
    let here : EntriesHeld did.nodes copy.wire = subst (λ (s : Server). EntriesHeld s.nodes copy.wire)
    (sym performs_it.server_is) (subst (λ (w : WireReply). EntriesHeld all.nodes w) (sym wire) held) in
    λ i d lt. let (low, is) = here i d lt in pair_held did (get_or (files_in_reply copy.wire) i d) low is

-- ---- three moments

fresh_sound : (old : Server) → IsFresh old → ServerSound old
fresh_sound old mounted = let between = fresh_between old mounted in between.sound

-- A node that is held at two moments under one generation was held between them.
module _ (first mid last : Server) (given : GenerationsGiven first.nodes) (one : FromTo first mid)
    (two : FromTo mid last) (id generation file last_file : ℕ) (h : HoldsPair first id generation file)
    (l : HoldsPair last id generation last_file) where
  below : generation < first.nodes.next_generation
  below = subst (λ (n : ℕ). n < first.nodes.next_generation) h.under (given id h.node h.held)

  was : WasHeld mid.nodes id l.node
  was = elim (two.nodes id l.node l.held) [
    | inl fresh ↦ absurd (let low = below in let under = l.under in let next = one.next in
        omega (arith, low, under, next, fresh))
    | inr held ↦ held
  ]

  was_first : WasHeld first.nodes id was.0
  was_first = elim (one.nodes id was.0 was.1) [
    | inl fresh ↦ absurd (let low = below in let under = l.under in let same = was.2 in let is = same.generation in
        omega (arith, low, under, is, fresh))
    | inr held ↦ held
  ]

  file_between : (let m = was in m.0.file) ≡ file
  file_between =
      let same = was_first.2 in
      sym same.file ∙ ap (λ (n : HeldNode). n.file) (some_same was_first.0 h.node (sym was_first.1 ∙ h.held)) ∙ h.of_file

  held_between : HoldsPair mid id generation file × (last_file ≡ file)
  held_between = (
    record {
      node = was.0;
      held = was.1;
      under = (let same = was.2 in same.generation) ∙ l.under;
      of_file = file_between;
    },
    sym l.of_file ∙ sym (let same = was.2 in same.file) ∙ file_between,
  )

pub pairs_once : (old : Server) → IsFresh old → GivesPairsOnce old
pairs_once old mounted = record {
  between = all_come old;
  given = λ mid comes unique errno copy did performs_it.
      reply_held mid (comes_sound old mid (fresh_sound old mounted) comes) unique errno copy did performs_it;
  once = λ first mid last comes_first comes_mid comes_last id generation file last_file h l.
      let sound = comes_sound old first (fresh_sound old mounted) comes_first in
      let nodes = sound.nodes in
      held_between first mid last nodes.generations (comes_later first mid comes_mid) (comes_later mid last comes_last)
      id generation file last_file h l;
}
