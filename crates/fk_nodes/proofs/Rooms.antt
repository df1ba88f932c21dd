-- Room for the names of a list that have a file, made for one after another.
use Rattle.std.proofs.Common.{◌≡◌, ℕ, List, [], ◌∷◌, ◌++◌, Option, Some, None, append_assoc, append-nil, refl, ap, sym, subst, ◌∙◌}
use Rattle.fuse_spec.specs.declared.Entry.{Entry}
use Rattle.fuse_spec.specs.Values.Maps.{Place}
use Rattle.fuse_spec.specs.Files.Operations.{DirentPlus, listed_by}
use Rattle.fuse_spec.specs.Kernel.Queues.{QueueState}
use Rattle.fuse_spec.specs.declared.Purpose.{Purpose}
use Rattle.fuse_spec.specs.Kernel.Replies.{Use, usable, unusable, stale, stale_in, each_forgotten}
use Rattle.fk_dentry.specs.CachedNames.{NamesInForce, HasRoom}
use Rattle.fk_nodes.specs.ListedFiles.{HasNameRoom, HaveNameRoom}

-- Those of the names behind which the others are left have room.
pub record RoomBehind (names : NamesInForce) (directory : ℕ) (all left : List (DirentPlus Entry)) : Type 0 where
  pub done : List (DirentPlus Entry)
  pub parts : all ≡ done ++ left
  pub rooms : HaveNameRoom names directory done

abbrev Keeps : NamesInForce → NamesInForce → Type 0
Keeps old new = (other : Place) → HasRoom old other → HasRoom new other

kept_one : (old new : NamesInForce) (directory : ℕ) (pair : DirentPlus Entry) (o : Option Entry) → Keeps old new
    → HasNameRoom old directory pair o → HasNameRoom new directory pair o
kept_one old new directory pair None kept room = tt
kept_one old new directory pair (Some g) kept room = kept (directory, pair.dirent.name) room

pub kept_rooms : (old new : NamesInForce) (directory : ℕ) (pairs : List (DirentPlus Entry)) → Keeps old new
    → HaveNameRoom old directory pairs → HaveNameRoom new directory pairs
kept_rooms old new directory [] kept rooms = tt
kept_rooms old new directory (pair ∷ pairs) kept rooms =
    (kept_one old new directory pair (listed_by pair) kept rooms.0, kept_rooms old new directory pairs kept rooms.1)

one_more : (names : NamesInForce) (directory : ℕ) (done : List (DirentPlus Entry)) (pair : DirentPlus Entry)
    → HaveNameRoom names directory done → HasNameRoom names directory pair (listed_by pair)
    → HaveNameRoom names directory (done ++ pair ∷ [])
one_more names directory [] pair rooms room = (room, tt)
one_more names directory (first ∷ done) pair rooms room = (rooms.0, one_more names directory done pair rooms.1 room)

pub none_behind : (names : NamesInForce) (directory : ℕ) (all : List (DirentPlus Entry))
    → RoomBehind names directory all all
none_behind names directory all = record { done = []; parts = refl; rooms = tt }

pub room_made : (old new : NamesInForce) (directory : ℕ) (all left rest : List (DirentPlus Entry))
    (pair : DirentPlus Entry) → RoomBehind old directory all left → left ≡ pair ∷ rest → Keeps old new
    → HasNameRoom new directory pair (listed_by pair)
    → RoomBehind new directory all rest
room_made old new directory all left rest pair behind is kept room = record {
  done = behind.done ++ pair ∷ [];
  parts = behind.parts ∙ ap (λ (ps : List (DirentPlus Entry)). behind.done ++ ps) is ∙ sym
      (append_assoc behind.done (pair ∷ []) rest);
  rooms = one_more new directory behind.done pair (kept_rooms old new directory behind.done kept behind.rooms) room;
}

pub all_behind : (names : NamesInForce) (directory : ℕ) (all left : List (DirentPlus Entry))
    → RoomBehind names directory all left → left ≡ [] → HaveNameRoom names directory all
all_behind names directory all left behind none =
    subst (HaveNameRoom names directory) (sym (behind.parts ∙ ap
    (λ (ps : List (DirentPlus Entry)). behind.done ++ ps) none ∙ append-nil behind.done)) behind.rooms

-- the forget of one node and of those behind it
pub forgotten_then : (q : QueueState Purpose) (u : Use) (rest : List ℕ)
    → each_forgotten q (stale_in u ++ rest) ≡ each_forgotten (each_forgotten q (stale_in u)) rest
forgotten_then q usable rest = refl
forgotten_then q unusable rest = refl
forgotten_then q (stale node) rest = refl
