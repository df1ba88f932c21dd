-- What a request says, in words.
use Rattle.std.specs.Prelude.{ℕ, List, [], ◌∷◌, ◌++◌, ◌/◌, codes, decimal, flat_map, length}
use Rattle.fuse_protocol.specs.declared.init.InitRequest.{InitRequest}
use Rattle.fuse_protocol.specs.declared.opcode.Opcode.{Opcode}
use Rattle.fuse_protocol.specs.declared.opcode.Opcode.TheVariants as op
use Rattle.fuse_protocol.specs.declared.request.OpenHandle.{OpenHandle}
use Rattle.fuse_protocol.specs.declared.request.OpenHandle.TheVariants as handle
use Rattle.fuse_protocol.specs.declared.row.Tail.{Tail}
use Rattle.fuse_protocol.specs.declared.row.Tail.TheVariants as tail
use Rattle.fuse_protocol.specs.Pairs.{pairs_from}
use Rattle.fuse_protocol.specs.Places.{number_in, places_at}
use Rattle.fuse_protocol.specs.Requests.{RequestMessage}
use Rattle.fuse_protocol.specs.Table.{name_of, row_at}
use Rattle.frame_words.specs.InitFlags.{init_flag_words}
use Rattle.frame_words.specs.Words.{data_words, name_words, number_words, number_words_if}

-- the further node, by the field that has it
abbrev pub node_word : Opcode → List ℕ
node_word op.Link = codes "oldnodeid"
node_word op.CopyFileRange = codes "nodeid_out"
node_word op.CopyFileRange64 = codes "nodeid_out"
node_word o = codes "newdir"

abbrev pub handle_words : OpenHandle → List ℕ
handle_words handle.None = []
handle_words (handle.File fh) = number_words (codes "fh") fh
handle_words (handle.Directory fh) = number_words (codes "fh") fh
handle_words (handle.TwoFiles from to) = number_words (codes "fh_in") from ++ number_words (codes "fh_out") to

-- of two names, what each is
abbrev pub first_word : Opcode → List ℕ
first_word op.Symlink = codes "name"
first_word o = codes "old"

abbrev pub second_word : Opcode → List ℕ
second_word op.Symlink = codes "target"
second_word o = codes "new"

abbrev pub names_words : Opcode → List (List ℕ) → List ℕ
names_words o [] = []
names_words o (name ∷ []) = name_words (codes "name") name
names_words o (one ∷ two ∷ more) = name_words (first_word o) one ++ name_words (second_word o) two

-- numbers of the struct
unfoldable pub struct_words : Opcode → List ℕ → List ℕ
struct_words o fixed = number_words_if (codes "nlookup") (number_in (places_at o).forgotten fixed)
    ++ number_words_if (codes "unique") (number_in (places_at o).interrupted fixed)
    ++ number_words_if (codes "offset") (number_in (places_at o).offset fixed)
    ++ number_words_if (codes "size") (number_in (places_at o).size fixed)

abbrev pub pair_words : ℕ × ℕ → List ℕ
pair_words pair = codes " " ++ decimal pair.0 ++ codes ":" ++ decimal pair.1

-- data, or pairs: of nodes and lookups, or of places and lengths
abbrev pub tail_words : Tail → List ℕ → List ℕ
tail_words (tail.Data place) bytes = data_words bytes
tail_words (tail.Pairs place) bytes = codes " pairs" ++ flat_map pair_words (pairs_from (length bytes / 16) 0 bytes)
tail_words other bytes = []

-- `OPNAME UNIQUE NODE LEN`
unfoldable pub head_words : (o : Opcode) (unique nodeid len : ℕ) → List ℕ
head_words o unique nodeid len = name_of o ++ codes " " ++ decimal unique ++ codes " " ++ decimal nodeid ++ codes " "
    ++ decimal len

-- the further node, the file handles, and numbers of the struct
unfoldable pub field_words : Opcode → RequestMessage → List ℕ
field_words o m = number_words_if (node_word o) m.node ++ handle_words m.handle ++ struct_words o m.fixed

-- the names, and what stands behind them
unfoldable pub part_words : Opcode → RequestMessage → List ℕ
part_words o m = names_words o m.names ++ tail_words (row_at o).tail m.tail

-- a request of this opcode, in a frame of so many bytes
abbrev pub request_words : Opcode → RequestMessage → (len : ℕ) → List ℕ
request_words o m len = head_words o m.unique m.nodeid len ++ field_words o m ++ part_words o m

-- what INIT offers
unfoldable pub init_request_words : InitRequest → List ℕ
init_request_words i = number_words (codes "major") i.major ++ number_words (codes "minor") i.minor
    ++ init_flag_words i.flags
