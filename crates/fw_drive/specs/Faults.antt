-- What a server did wrong, in words.
use Rattle.std.specs.Prelude.{◌++◌, [], ℕ, List, Option, Some, None, codes, decimal}
use Rattle.fk_wire.specs.Opcodes.{name_of}
use Rattle.fw_script.specs.Records.{kind_word}
use Rattle.fw_drive.specs.declared.fault.Asks.{Asks}
use Rattle.fw_drive.specs.declared.fault.Asks.TheVariants as asks
use Rattle.fw_drive.specs.declared.fault.BodySize.{BodySize}
use Rattle.fw_drive.specs.declared.fault.CallName.{CallName}
use Rattle.fw_drive.specs.declared.fault.Fault.{Fault}
use Rattle.fw_drive.specs.declared.fault.Fault.TheVariants as fault
use Rattle.fw_drive.specs.declared.fault.GivenFile.{GivenFile}
use Rattle.fw_drive.specs.declared.fault.HeadFault.{HeadFault}
use Rattle.fw_drive.specs.declared.fault.HeadFault.TheVariants as head
use Rattle.fw_drive.specs.declared.fault.RequestName.{RequestName}
use Rattle.fw_drive.specs.declared.fault.RightSize.{RightSize}
use Rattle.fw_drive.specs.declared.fault.RightSize.TheVariants as right
use Rattle.fw_drive.specs.declared.fault.Unanswered.{Unanswered}

-- ---- requests

-- what a request asks
abbrev pub asks_word : Asks → List ℕ
asks_word (asks.Kernel opcode) = name_of opcode
asks_word asks.Opendir = codes "OPENDIR"
asks_word asks.Releasedir = codes "RELEASEDIR"

-- the call that a request serves, and the line that began it
abbrev pub serves_words : Option CallName → List ℕ
serves_words None = []
serves_words (Some name) = codes " of call " ++ decimal name.call ++ codes ", line " ++ decimal name.line

-- a request, by what it asks, its number, and the call that it serves
abbrev pub request_words : RequestName → List ℕ
request_words request =
    asks_word request.asks ++ (codes " " ++ decimal request.unique) ++ serves_words request.serves

-- the request that waits for its reply, and how many more do
abbrev pub more_words : Option ℕ → List ℕ
more_words None = []
more_words (Some more) = codes " and " ++ decimal more ++ codes " more"

abbrev pub unanswered_words : Option Unanswered → List ℕ
unanswered_words None = []
unanswered_words (Some waits) = codes ": " ++ request_words waits.first ++ more_words waits.more

-- ---- faults

-- why a frame is no reply by its head
abbrev pub head_words : HeadFault → List ℕ
head_words (head.Short len) = decimal len ++ codes " bytes"
head_words (head.Length said len) = codes "len " ++ decimal said ++ codes " of " ++ decimal len ++ codes " bytes"
head_words (head.Positive error) = codes "error " ++ decimal error
head_words (head.Low error) = codes "error -" ++ decimal error
head_words (head.OfOpendir unique) = codes "unique " ++ decimal unique

-- how many bytes of a body are right
abbrev pub right_words : RightSize → List ℕ
right_words (right.Exactly len) = codes ", " ++ decimal len ++ codes " are right"
right_words (right.AtMost len) = codes ", at most " ++ decimal len ++ codes " are right"
right_words right.Any = []

abbrev pub size_words : Option BodySize → List ℕ
size_words None = []
size_words (Some size) = codes ": " ++ decimal size.len ++ codes " bytes" ++ right_words size.right

-- a file: its kind and its inode number
abbrev pub file_words : GivenFile → List ℕ
file_words file = kind_word file.kind ++ (codes " " ++ decimal file.ino)

-- what is given now, and what was before
abbrev pub generations_words : (given before : ℕ) → List ℕ
generations_words given before = codes ": " ++ decimal given ++ codes ", before " ++ decimal before

abbrev pub files_words : (given before : GivenFile) → List ℕ
files_words given before = codes ": " ++ file_words given ++ (codes ", before " ++ file_words before)

-- a node, what is wrong with it, and the request whose reply gives it
abbrev pub node_words : (node : ℕ) → (wrong : List ℕ) → RequestName → List ℕ
node_words node wrong request = codes "node " ++ decimal node ++ (wrong ++ request_words request)

-- what the server did wrong
abbrev pub fault_words : Fault → List ℕ
fault_words (fault.NoReply why) = codes "no reply's head: " ++ head_words why
fault_words (fault.ToNothing unique) = codes "reply to nothing: " ++ decimal unique
fault_words (fault.Second request) = codes "second reply: " ++ request_words request
fault_words (fault.Body request size) = codes "body is not its request's: " ++ request_words request ++ size_words size
fault_words (fault.Root request) = codes "the root given for a name: " ++ request_words request
fault_words (fault.TwoGenerations node request given before) =
    node_words node (codes " under two generations: ") request ++ generations_words given before
fault_words (fault.TwoFiles node request given before) =
    node_words node (codes " given for two files at once: ") request ++ files_words given before
