-- Room for the nodes of the names of a list, made for one after another.
use Rattle.std.proofs.Common.{◌≡◌, ℕ, List, [], ◌∷◌, ◌++◌, Option, Some, None, append_assoc, append-nil, refl, ap, sym, subst, ◌∙◌}
use Rattle.fuse_spec.specs.declared.Entry.{Entry}
use Rattle.fuse_spec.specs.Files.Operations.{DirentPlus, listed_by}
use Rattle.fk_nodes.specs.Rooms.{HasNodeRoom, HaveNodeRoom}

-- Those of the names behind which the others are left have room for their nodes.
pub record RoomBehind (room_of : ℕ → Type 0) (all left : List (DirentPlus Entry)) : Type 0 where
  pub done : List (DirentPlus Entry)
  pub parts : all ≡ done ++ left
  pub rooms : HaveNodeRoom room_of done

abbrev Keeps : (old new : ℕ → Type 0) → Type 0
Keeps old new = (other : ℕ) → old other → new other

kept_one : (old new : ℕ → Type 0) (o : Option Entry) → Keeps old new → HasNodeRoom old o → HasNodeRoom new o
kept_one old new None kept room = tt
kept_one old new (Some g) kept room = λ file. kept g.nodeid (room file)

pub kept_rooms : (old new : ℕ → Type 0) (pairs : List (DirentPlus Entry)) → Keeps old new → HaveNodeRoom old pairs
    → HaveNodeRoom new pairs
kept_rooms old new [] kept rooms = tt
kept_rooms old new (pair ∷ pairs) kept rooms = (
  kept_one old new (listed_by pair) kept rooms.0,
  kept_rooms old new pairs kept rooms.1,
)

one_more : (room_of : ℕ → Type 0) (done : List (DirentPlus Entry)) (pair : DirentPlus Entry)
    → HaveNodeRoom room_of done → HasNodeRoom room_of (listed_by pair) → HaveNodeRoom room_of (done ++ pair ∷ [])
one_more room_of [] pair rooms room = (room, tt)
one_more room_of (first ∷ done) pair rooms room = (rooms.0, one_more room_of done pair rooms.1 room)

pub none_behind : (room_of : ℕ → Type 0) (all : List (DirentPlus Entry)) → RoomBehind room_of all all
none_behind room_of all = record { done = []; parts = refl; rooms = tt }

pub room_made : (old new : ℕ → Type 0) (all left rest : List (DirentPlus Entry)) (pair : DirentPlus Entry)
    → RoomBehind old all left → left ≡ pair ∷ rest → Keeps old new → HasNodeRoom new (listed_by pair)
    → RoomBehind new all rest
room_made old new all left rest pair behind is kept room = record {
  done = behind.done ++ pair ∷ [];
  parts = behind.parts ∙ ap (λ (ps : List (DirentPlus Entry)). behind.done ++ ps) is ∙ sym
      (append_assoc behind.done (pair ∷ []) rest);
  rooms = one_more new behind.done pair (kept_rooms old new behind.done kept behind.rooms) room;
}

pub all_behind : (room_of : ℕ → Type 0) (all left : List (DirentPlus Entry)) → RoomBehind room_of all left → left ≡ []
    → HaveNodeRoom room_of all
all_behind room_of all left behind none = subst (HaveNodeRoom room_of)
    (sym (behind.parts ∙ ap (λ (ps : List (DirentPlus Entry)). behind.done
    ++ ps) none ∙ append-nil behind.done)) behind.rooms
