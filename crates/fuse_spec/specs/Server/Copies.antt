-- More copies of a kept reply, what settling a copy gives back, and the server at an abort and at a mount.
use Rattle.std.specs.Prelude.{ℕ, Bool, true, false, ◌&&◌, cond, List, [], ◌∷◌, Option, Some, None, nat_eq, is_some, map}
use Rattle.std.specs.List.{list_all}
use Rattle.fuse_spec.specs.Values.Maps.{Map, get, remove}
use Rattle.fuse_spec.specs.Files.Operations.{files_in_reply, opens_in_reply}
use Rattle.fuse_spec.specs.declared.Validity.{Validity}
use Rattle.fuse_spec.specs.declared.Minor.{Minor}
use Rattle.fuse_spec.specs.declared.Entry.{Entry}
use Rattle.fuse_spec.specs.declared.WriteResult.{WriteResult}
use Rattle.fuse_spec.specs.declared.WriteResult.TheVariants.{Accepted, NoEntry, Invalid}
use Rattle.fuse_spec.specs.Kernel.Messages.{WireReply}
use Rattle.fuse_spec.specs.Server.Nodes.{NodeTable, file_of, is_held, row_more, taken_back, HandleTable, handle_more, handle_back}
use Rattle.fuse_spec.specs.Server.Server.{Server, Kept, Copy, without_unheld_files, sending}

-- Whether each node and file handle that the reply names is still held, the node under the same generation. (this
-- project's rule)
abbrev pub is_current : Server → WireReply → Bool
is_current s wire = list_all (λ (g : Entry). is_held s.nodes g.nodeid g.generation) (files_in_reply wire)
    && list_all (λ fh. is_some (get s.handles.handles fh)) (opens_in_reply wire)

-- The files of the nodes that the reply names, as often as it does. (libfuse, low-level: lookup)
abbrev pub files_named : Server → WireReply → List ℕ
files_named s wire = map (λ (g : Entry). file_of s.nodes g.nodeid) (files_in_reply wire)

-- Each node that these entries name has one lookup more for each entry.
abbrev pub rows_counted : NodeTable → List Entry → NodeTable
rows_counted t [] = t
rows_counted t (g ∷ gs) = rows_counted (row_more t g.nodeid) gs

-- Each of these file handles has one use more.
abbrev pub handles_counted : HandleTable → List ℕ → HandleTable
handles_counted t [] = t
handles_counted t (fh ∷ fhs) = handles_counted (handle_more t fh) fhs

-- One more copy of a kept reply counts one more for each node and file handle that it names. (this project's rule)
abbrev pub sent_again : Server → ℕ → Kept → Server
sent_again s unique kept =
    sending (record s {
      nodes = rows_counted s.nodes (files_in_reply kept.wire);
      handles = handles_counted s.handles (opens_in_reply kept.wire);
    }) unique kept.wire kept.first

-- One lookup of the entry's node is given back, where the node is still held under the entry's generation. (this
-- project's rule)
abbrev pub row_back : NodeTable → Entry → NodeTable
row_back t g = cond (is_held t g.nodeid g.generation) (taken_back t g.nodeid 1) t

-- One lookup of the node of each of these entries is given back, in turn.
abbrev pub rows_back : NodeTable → List Entry → NodeTable
rows_back t [] = t
rows_back t (g ∷ gs) = rows_back (row_back t g) gs

-- One use of each of these file handles is released, in turn.
abbrev pub handles_back : HandleTable → List ℕ → HandleTable
handles_back t [] = t
handles_back t (fh ∷ fhs) = handles_back (handle_back t fh) fhs

-- What a copy carried is given back, where it is still held, and files that nothing holds then go.
abbrev pub given_back : Server → WireReply → Server
given_back s wire = without_unheld_files (record s {
  nodes = rows_back s.nodes (files_in_reply wire);
  handles = handles_back s.handles (opens_in_reply wire);
})

-- The kept replies once a copy is settled: the reply of which it was a copy isn't kept any longer.
abbrev pub kept_after : Map Kept → Copy → Option Kept → Map Kept
kept_after kept copy None = kept
kept_after kept copy (Some k) = cond (nat_eq k.first copy.first) (remove kept copy.unique) kept

-- What the result of a copy makes of the server: a refused copy is counted back, an accepted one changes nothing.
abbrev pub after_result : Server → WireReply → WriteResult → Server
after_result s wire Accepted = s
after_result s wire NoEntry = given_back s wire
after_result s wire Invalid = given_back s wire

-- A copy is settled: its reply isn't kept any longer, and a refused copy is counted back. (this project's rule)
abbrev pub settled : Server → ℕ → Copy → WriteResult → Server
settled s number copy result =
    after_result (record s {
      copies = remove s.copies number;
      kept = kept_after s.kept copy (get s.kept copy.unique);
    }) copy.wire result

-- An abort reaches the server: its kept replies and its copies go, and the rest stays until the next mount. (this
-- project's rule)
abbrev pub connection_lost : Server → Server
connection_lost s = record s { kept = []; copies = []; aborted = true }

-- A mount empties the tables, the held requests, the kept replies and the copies; the tree, the generations, the file
-- handles and the copy numbers go on. (this project's rule)
abbrev pub remounted : Server → Validity → Minor → Server
remounted s validity minor =
    without_unheld_files (record s {
      nodes = record s.nodes { rows = [] };
      handles = record s.handles { handles = [] };
      held = [];
      kept = [];
      copies = [];
      validity = validity;
      minor = minor;
      aborted = false;
    })
