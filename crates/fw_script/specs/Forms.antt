-- What lines begin with, and the words that follow.
use Rattle.std.specs.Prelude.{ℕ, List, [], ◌∷◌, codes}
use Rattle.fw_script.specs.Arguments.{Argument, number, text, signal, minor}
use Rattle.fw_script.specs.CallLines.{call_name, arguments_of_call}
use Rattle.fw_script.specs.declared.form.Form.{Form}
use Rattle.fw_script.specs.declared.form.Form.TheVariants.{Word, Call, Read}
use Rattle.fw_script.specs.declared.form.WordForm.{WordForm}
use Rattle.fw_script.specs.declared.form.WordForm.TheVariants as word
use Rattle.fw_script.specs.declared.form.ReadForm.{ReadForm}
use Rattle.fw_script.specs.declared.form.ReadForm.TheVariants as read

-- a word alone
abbrev pub word_name : WordForm → List ℕ
word_name word.Mount = codes "mount"
word_name word.Take = codes "take"
word_name word.Do = codes "do"
word_name word.Again = codes "again"
word_name word.Write = codes "write"
word_name word.Settle = codes "settle"
word_name word.Interrupt = codes "intr"
word_name word.Tick = codes "tick"
word_name word.DropName = codes "drop"
word_name word.Evict = codes "evict"
word_name word.Abort = codes "abort"
word_name word.Show = codes "show"

-- the word after `read`
abbrev pub read_name : ReadForm → List ℕ
read_name read.Interrupt = codes "i"
read_name read.Forgets = codes "f"
read_name read.Pending = codes "p"

-- the words that a line of this form begins with
abbrev pub form_words : Form → List (List ℕ)
form_words (Word f) = word_name f ∷ []
form_words (Call f) = codes "call" ∷ call_name f ∷ []
form_words (Read f) = codes "read" ∷ read_name f ∷ []

-- what follows `mount`: a third word is a minor
abbrev pub arguments_of_mount : List (List ℕ) → List Argument
arguments_of_mount (found ∷ missing ∷ last ∷ words) = number ∷ number ∷ minor ∷ []
arguments_of_mount words = number ∷ number ∷ []

-- what follows a word alone, where these words do
abbrev pub after_word : WordForm → List (List ℕ) → List Argument
after_word word.Mount words = arguments_of_mount words
after_word word.Interrupt words = number ∷ signal ∷ []
after_word word.DropName words = number ∷ text ∷ []
after_word word.Abort words = []
after_word word.Show words = []
after_word _ words = number ∷ []

-- what follows a read
abbrev pub after_read : ReadForm → List Argument
after_read read.Interrupt = []
after_read _ = number ∷ []

-- what follows the words that a line begins with, where these do
abbrev pub arguments_of : Form → List (List ℕ) → List Argument
arguments_of (Word f) words = after_word f words
arguments_of (Call f) words = arguments_of_call f
arguments_of (Read f) words = after_read f
