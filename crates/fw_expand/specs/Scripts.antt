-- A script of lines that stand for one, by which a script of lines that stand for several is judged.
use Rattle.std.specs.Prelude.{◌++◌, ℕ, Bool, List, codes, map}
use Rattle.fuse_text.specs.Lines.{lines_of}
use Rattle.fuse_text.specs.Words.{words_of}
use Rattle.fw_expand.specs.Expanding.{kind_of, list_line}
use Rattle.fw_expand.specs.declared.kind.Kind.{Kind}
use Rattle.fw_expand.specs.declared.kind.Kind.TheVariants as kind

-- `show` is a line of every script; a directory is listed from its begin
abbrev pub judged_as : Kind → (raw : List ℕ) → List ℕ
judged_as kind.Ordinary raw = raw
judged_as kind.ListAll raw = list_line raw ++ codes "0"
judged_as other raw = codes "show"

abbrev pub judged_line : (of_calls : Bool) → (raw : List ℕ) → List ℕ
judged_line of_calls raw = judged_as (kind_of of_calls (words_of raw)) raw

-- the lines of a script, with such a line in place of each that stands for several
abbrev pub expandable_script : (of_calls : Bool) → (script : List ℕ) → List (List ℕ)
expandable_script of_calls script = map (judged_line of_calls) (lines_of script)
