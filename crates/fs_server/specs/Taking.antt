-- What is taken of a request, by its node and by what it asks.
use Rattle.std.specs.Prelude.{◌≡◌, ◌<◌, ℕ, Bool, true, false, ◌||◌, not, List, [], ◌∷◌, None, map, nat_lt, is_some}
use Rattle.std.specs.List.{list_all, list_any}
use Rattle.fuse_spec.specs.Values.Maps.{get}
use Rattle.fuse_spec.specs.Kernel.Messages.{Forget, RequestBody, forget, batch_forget, interrupt}
use Rattle.fuse_spec.specs.Server.Nodes.{NodeTable, row_of}
use Rattle.fuse_spec.specs.Server.Server as server
use Rattle.fuse_spec.specs.declared.Minor.{Minor}
use Rattle.fuse_spec.specs.Server.Server.{Server, HeldRequest, is_known, is_forgettable, count_in, forgotten, generation_in, nodes_of_body}
use Rattle.fk_wire.specs.Requests as wire
use Rattle.fk_wire.specs.Requests.{RequestContent, RequestMessage, Spells}
use Rattle.fuse_frames.specs.RequestTies.{body_in, body_or}
use Rattle.fuse_spec.specs.Server.Refusals.{is_server_past_end}
use Rattle.fuse_spec.specs.Values.Numbers.{counter_end}

-- what a request of this node asks
abbrev pub request_body_of : ℕ → RequestContent → RequestBody
request_body_of nodeid content = body_or (body_in nodeid content)

-- what is held until it is performed
abbrev pub waits : RequestBody → Bool
waits (forget f) = false
waits (batch_forget fs) = false
waits (interrupt original) = false
waits body = true

abbrev pub holds_request : ℕ → RequestContent → Bool
holds_request nodeid content = waits (request_body_of nodeid content)

-- what is answered at once: an INTERRUPT of a request that is not held and whose reply is not kept
abbrev pub is_answered_now : Server → RequestBody → Bool
is_answered_now s (interrupt original) = not (is_some (get s.held original) || is_some (get s.kept original))
is_answered_now s body = false

abbrev pub answers : Server → ℕ → RequestContent → Bool
answers s nodeid content = is_answered_now s (request_body_of nodeid content)

-- what gives lookups back
abbrev pub is_forgetting : RequestContent → Bool
is_forgetting (wire.forget nlookup) = true
is_forgetting (wire.batch_forget forgets) = true
is_forgetting content = false

-- the lookups that it gives back
abbrev pub forgets_in : ℕ → RequestContent → List Forget
forgets_in nodeid (wire.forget nlookup) = (nodeid, nlookup) ∷ []
forgets_in nodeid (wire.batch_forget forgets) = forgets
forgets_in nodeid content = []

-- Whether each node is held that a request names, or whose lookups it gives back.
abbrev pub are_names_known : NodeTable → RequestBody → Bool
are_names_known nodes (forget f) = is_some (get nodes.rows f.0)
are_names_known nodes (batch_forget fs) = list_all (is_forgettable nodes) fs
are_names_known nodes body = list_all (is_known nodes) (nodes_of_body body)

abbrev pub knows_nodes : NodeTable → ℕ → RequestContent → Bool
knows_nodes nodes nodeid content = are_names_known nodes (request_body_of nodeid content)

-- Whether more lookups of a node are given back than it has.
abbrev pub gives_too_many : NodeTable → RequestBody → Bool
gives_too_many nodes (forget f) = nat_lt (count_in (get nodes.rows f.0)) f.1
gives_too_many nodes (batch_forget fs) = list_any (λ f. nat_lt (count_in (get nodes.rows f.0)) (forgotten f.0 fs)) fs
gives_too_many nodes body = false

abbrev pub forgets_too_many : NodeTable → ℕ → RequestContent → Bool
forgets_too_many nodes nodeid content = gives_too_many nodes (request_body_of nodeid content)

-- the nodes that a request names, with the generations that they have
abbrev pub generations_of : NodeTable → RequestBody → List (ℕ × ℕ)
generations_of nodes body = map (λ id. (id, generation_in (row_of nodes id))) (nodes_of_body body)

-- what is held for it
abbrev pub held_for : NodeTable → ℕ → RequestContent → HeldRequest
held_for nodes nodeid content =
    let body = request_body_of nodeid content in
    record { body = body; generations = generations_of nodes body; marked = false }

-- Whether the minor knows what a request of this node asks.
abbrev pub is_spoken : Minor → ℕ → RequestContent → Bool
is_spoken minor nodeid content = server.knows minor (request_body_of nodeid content)

-- A request of this node with nothing wrong.
pub record IsFaultless (s : Server) (unique nodeid : ℕ) (content : RequestContent) : Type 0 where
  pub for_minor : is_spoken s.minor nodeid content ≡ true
  pub known : knows_nodes s.nodes nodeid content ≡ true
  pub few : forgets_too_many s.nodes nodeid content ≡ false
  pub unheld : get s.held unique ≡ None
  pub unkept : get s.kept unique ≡ None

-- A frame spells this message and no other. It is a request with nothing wrong, no counter is past its end, and the
-- copy number is left that it allocates.
pub record IsTakeable (s : Server) (bytes : List ℕ) (m : RequestMessage) : Type 0 where
  pub spells : Spells bytes m
  pub only : (n : RequestMessage) → Spells bytes n → m ≡ n
  pub faultless : IsFaultless s m.unique m.nodeid m.content
  pub within : is_server_past_end s ≡ false
  pub number : answers s m.nodeid m.content ≡ true → s.next_copy < counter_end
