-- The members of the JSON objects that say what a request or a reply holds. Each value is a string: of a number its
-- decimal digits, of bytes two lower-case hex digits each. The keys are the names of linux/fuse.h.
use Rattle.std.specs.Prelude.{ℕ, List, [], ◌∷◌, ◌++◌, codes, decimal, flat_map, length}
use Rattle.fk_wire.specs.declared.entry.Attr.{Attr}
use Rattle.fk_wire.specs.Entries.{EntryContent, missing, found}
use Rattle.fk_wire.specs.Dirents.{DirentContent, DirentPlusContent}
use Rattle.fk_wire.specs.Replies.{ReplyContent, empty_reply, entry_reply, attr_reply, open_reply, bytes_reply}
use Rattle.fk_wire.specs.Replies.{write_reply, init_reply, create_reply, records_reply, plus_reply}
use Rattle.fk_wire.specs.Requests.{RequestContent, lookup, forget, getattr, mkdir, unlink, rmdir, rename, link}
use Rattle.fk_wire.specs.Requests.{opening, read, write, release, init, readdir, readdirplus, create, interrupt}
use Rattle.fk_wire.specs.Requests.{batch_forget}
use Rattle.hex.specs.Hex.{encode_lower}

-- an element behind another
abbrev pub further : {T : Type 0} → (T → List ℕ) → T → List ℕ
further text x = codes "," ++ text x

-- the texts of a list's elements, with a comma before each but the first
abbrev pub comma_list : {T : Type 0} → (T → List ℕ) → List T → List ℕ
comma_list text [] = []
comma_list text (x ∷ xs) = text x ++ flat_map (further text) xs

abbrev pub name_member : List ℕ → List ℕ
name_member name = codes "\"name\":\"" ++ encode_lower name ++ codes "\""

abbrev pub fh_member : ℕ → List ℕ
fh_member fh = codes "\"fh\":\"" ++ decimal fh ++ codes "\""

-- a range of a file or of a directory
abbrev pub range_members : (offset size : ℕ) → List ℕ
range_members offset size = codes "\"offset\":\"" ++ decimal offset ++ codes "\",\"size\":\"" ++ decimal size
    ++ codes "\""

abbrev pub init_members : (major minor flags : ℕ) → List ℕ
init_members major minor flags = codes "\"major\":\"" ++ decimal major ++ codes "\",\"minor\":\"" ++ decimal minor
    ++ codes "\",\"flags\":\"" ++ decimal flags ++ codes "\""

abbrev pub rename_members : (newdir : ℕ) (old new : List ℕ) → List ℕ
rename_members newdir old new = codes "\"newdir\":\"" ++ decimal newdir ++ codes "\",\"old\":\"" ++ encode_lower old
    ++ codes "\",\"new\":\"" ++ encode_lower new ++ codes "\""

abbrev pub write_members : (fh offset : ℕ) (bytes : List ℕ) → List ℕ
write_members fh offset bytes = fh_member fh ++ codes "," ++ range_members offset (length bytes)
    ++ codes ",\"data\":\"" ++ encode_lower bytes ++ codes "\""

-- a struct fuse_forget_one
abbrev pub pair_object : ℕ × ℕ → List ℕ
pair_object pair = codes "{\"nodeid\":\"" ++ decimal pair.0 ++ codes "\",\"nlookup\":\"" ++ decimal pair.1
    ++ codes "\"}"

-- the members of a request's body
abbrev pub request_members : RequestContent → List ℕ
request_members (lookup name) = name_member name
request_members (forget nlookup) = codes "\"nlookup\":\"" ++ decimal nlookup ++ codes "\""
request_members getattr = []
request_members (mkdir name) = name_member name
request_members (unlink name) = name_member name
request_members (rmdir name) = name_member name
request_members (rename newdir old new) = rename_members newdir old new
request_members (link oldnodeid name) = codes "\"oldnodeid\":\"" ++ decimal oldnodeid ++ codes "\","
    ++ name_member name
request_members opening = []
request_members (read fh offset size) = fh_member fh ++ codes "," ++ range_members offset size
request_members (write fh offset bytes) = write_members fh offset bytes
request_members (release fh) = fh_member fh
request_members (init major minor flags) = init_members major minor flags
request_members (readdir offset size) = range_members offset size
request_members (readdirplus offset size) = range_members offset size
request_members (create name) = name_member name
request_members (interrupt unique) = codes "\"unique\":\"" ++ decimal unique ++ codes "\""
request_members (batch_forget forgets) = codes "\"pairs\":[" ++ comma_list pair_object forgets ++ codes "]"

-- a struct fuse_attr
unfoldable pub attr_object : Attr → List ℕ
attr_object a = codes "{\"ino\":\"" ++ decimal a.ino ++ codes "\",\"size\":\"" ++ decimal a.size
    ++ codes "\",\"mode\":\"" ++ decimal a.mode ++ codes "\",\"nlink\":\"" ++ decimal a.nlink ++ codes "\"}"

unfoldable pub valid_members : (seconds nanoseconds : ℕ) → List ℕ
valid_members seconds nanoseconds = codes "\"entry_valid\":\"" ++ decimal seconds ++ codes "\",\"entry_valid_nsec\":\""
    ++ decimal nanoseconds ++ codes "\""

unfoldable pub node_members : (nodeid generation : ℕ) → List ℕ
node_members nodeid generation = codes "{\"nodeid\":\"" ++ decimal nodeid ++ codes "\",\"generation\":\""
    ++ decimal generation ++ codes "\","

-- a struct fuse_entry_out; of a missing name the node 0 and the validity
abbrev pub entry_object : EntryContent → List ℕ
entry_object (missing seconds nanoseconds) = codes "{\"nodeid\":\"0\"," ++ valid_members seconds nanoseconds
    ++ codes "}"
entry_object (found nodeid generation seconds nanoseconds a) = node_members nodeid generation
    ++ valid_members seconds nanoseconds ++ codes ",\"attr\":" ++ attr_object a ++ codes "}"

-- a struct fuse_dirent
unfoldable pub dirent_object : DirentContent → List ℕ
dirent_object d = codes "{\"ino\":\"" ++ decimal d.ino ++ codes "\",\"off\":\"" ++ decimal d.off
    ++ codes "\",\"type\":\"" ++ decimal d.kind ++ codes "\",\"name\":\"" ++ encode_lower d.name ++ codes "\"}"

-- a struct fuse_direntplus
abbrev pub direntplus_object : DirentPlusContent → List ℕ
direntplus_object p = codes "{\"entry_out\":" ++ entry_object p.entry_out ++ (codes ",\"dirent\":"
    ++ dirent_object p.dirent ++ codes "}")

-- the members of a reply's body
abbrev pub reply_members : ReplyContent → List ℕ
reply_members empty_reply = []
reply_members (entry_reply e) = codes "\"entry\":" ++ entry_object e
reply_members (attr_reply a) = codes "\"attr\":" ++ attr_object a
reply_members (open_reply fh) = fh_member fh
reply_members (bytes_reply bytes) = codes "\"data\":\"" ++ encode_lower bytes ++ codes "\""
reply_members (write_reply size) = codes "\"size\":\"" ++ decimal size ++ codes "\""
reply_members (init_reply major minor flags) = init_members major minor flags
reply_members (create_reply e fh) = codes "\"entry\":" ++ entry_object e ++ codes "," ++ fh_member fh
reply_members (records_reply ds) = codes "\"records\":[" ++ comma_list dirent_object ds ++ codes "]"
reply_members (plus_reply ps) = codes "\"records\":[" ++ comma_list direntplus_object ps ++ codes "]"
