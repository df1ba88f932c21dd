-- The acts of what a reply says, and which of them may show a fault of a group.
use Rattle.std.proofs.Common.{◌≡◌, ℕ, Bool, true, false, not, ◌&&◌, ◌||◌, codes, List, [], ◌∷◌, None, refl, sym, ◌∙◌, ap, map, flat_map, nat_eq, nat_lt, if◌then◌else◌}
use Rattle.std.specs.List.{list_all}
use Rattle.std.proofs.lemmas.Bool.{and_from, false≢true}
use Rattle.fuse_protocol.specs.declared.opcode.Opcode.{Opcode}
use Rattle.fuse_protocol.specs.declared.opcode.Opcode.TheVariants as op
use Rattle.fuse_replies.specs.declared.entry.Entry.{Entry}
use Rattle.fuse_replies.specs.declared.entry.Opened.{Opened}
use Rattle.fuse_replies.specs.Record.{EntryRecordContent}
use Rattle.fuse_replies.specs.Replies.{AnswerContent}
use Rattle.fuse_replies.specs.Replies as answer
use Rattle.fuse_sessions.specs.declared.act.Act.{Act}
use Rattle.fuse_sessions.specs.declared.act.Act.TheVariants as act
use Rattle.fuse_sessions.specs.declared.act.Asked.{Asked}
use Rattle.fuse_sessions.specs.declared.fault.Fault.{Fault}
use Rattle.fuse_sessions.specs.declared.fault.Fault.TheVariants as fault
use Rattle.fuse_sessions.specs.Sessions.{Session}
use Rattle.fuse_sessions.specs.Faults.{Breaks}
use Rattle.fuse_sessions.specs.Warnings.{listing_acts, missing_acts, is_offset, last_behind, repeats_behind, is_of_node, is_missing}
use Rattle.fuse_sessions.specs.RequestActs.{is_name}
use Rattle.fuse_sessions.specs.ReplyActs.{answer_acts, entry_acts, gift_acts, kind_acts, root_acts, record_acts, opening, opening_none, failed_acts, counting, is_kind, is_made, is_opened, may_be_missing, kind_of}
use Rattle.served_sessions.specs.Groups.{is_of_entries}
use Rattle.served_sessions.proofs.Acts.{beside_law, each_of, either, is_of_frames}
use Rattle.served_sessions.proofs.Free.{AreFree, all_free}

-- an act of what a reply says, which is no fault of this group
abbrev pub is_clear : (Fault → Bool) → Act → Bool
is_clear group (act.Faulty f) = not (group f)
is_clear group (act.Agrees max_write) = true
is_clear group (act.Gives node file certain) = true
is_clear group (act.Describes node kind ino) = true
is_clear group (act.Missing node errno) = true
is_clear group (act.Opens file) = true
is_clear group (act.OpensNone kind) = true
is_clear group a = false

abbrev pub AreClear : (Fault → Bool) → List Act → Type 0
AreClear group acts = list_all (is_clear group) acts ≡ true

-- one that is not of the group
another : (b : Bool) → not b ≡ true → b ≡ true → ⊥
another true n e = cc
another false n e = cc

pub none_of : (b : Bool) → (b ≡ true → ⊥) → not b ≡ true
none_of true none = absurd (none refl)
none_of false none = refl

-- no such act shows a fault of it
pub clear_law : (group : Fault → Bool) → ((f : Fault) → group f ≡ true → is_of_frames f ≡ true) → (s : Session) (a : Act)
    (f : Fault) → is_clear group a ≡ true → Breaks s a f → group f ≡ true → ⊥
clear_law group within s (act.Faulty that) f clear b is = another (group that) clear (ap group (sym b) ∙ is)
clear_law group within s (act.Replies unique t) f clear b is = false≢true clear
clear_law group within s (act.RepliesToInterrupt original again t) f clear b is = false≢true clear
clear_law group within s a f clear b is = beside_law s a f refl b (within f is)

-- ---- what has a fault of an entry alone

module _ (group : Fault → Bool) (apart : (f : Fault) → is_of_entries f ≡ true → not (group f) ≡ true) where
  one : (f : Fault) → is_of_entries f ≡ true → AreClear group (act.Faulty f ∷ [])
  one f is = and_from (not (group f)) true (apart f is) refl

  kind_clear : (a : Asked) (e : Entry) → AreClear group (kind_acts a e)
  kind_clear a e = either (is_clear group) (is_kind (kind_of e.attributes)) _ _
      (either (is_clear group) (is_made a e) [] _ refl (one fault.EntryOfAnotherKind refl)) (one fault.EntryOfNoKind refl)

  gift_clear : (certain : Bool) (a : Asked) (e : Entry) → AreClear group (gift_acts certain a e)
  gift_clear certain a e = each_of (is_clear group) (kind_acts a e) _ (kind_clear a e) refl

  pub entry_clear : (certain : Bool) (o : Opcode) (a : Asked) (e : Entry) → AreClear group (entry_acts certain o a e)
  entry_clear certain o a e = either (is_clear group) (nat_eq e.nodeid 1) (root_acts a) _
      (either (is_clear group) a.is_dots [] _ refl (one fault.EntryOfTheRoot refl))
      (either (is_clear group) (nat_eq e.nodeid 0) _ _
      (either (is_clear group) (may_be_missing o) [] _ refl (one fault.EntryOfNoNode refl)) (gift_clear certain a e))

  record_clear : (certain : Bool) (a : Asked) (r : EntryRecordContent) → AreClear group (record_acts certain a r)
  record_clear certain a r = either (is_clear group)
      (is_name r.said.name (codes ".") || is_name r.said.name (codes "..")) []
      (entry_acts certain op.Readdirplus a r.entry) refl (entry_clear certain op.Readdirplus a r.entry)

  pub records_clear : (certain : Bool) (a : Asked) (rs : List EntryRecordContent)
      → AreClear group (flat_map (record_acts certain a) rs)
  records_clear certain a [] = refl
  records_clear certain a (r ∷ rs) =
      each_of (is_clear group) (record_acts certain a r) _ (record_clear certain a r) (records_clear certain a rs)

-- ---- what counts bytes

pub counting_clear : (group : Fault → Bool) → not (group fault.MoreThanWasAsked) ≡ true → (o : Opcode) (said most : ℕ)
    → AreClear group (counting o said most)
counting_clear group apart op.Write said most = either (is_clear group) (nat_lt most said) _ []
    (and_from (not (group fault.MoreThanWasAsked)) true apart refl) refl
counting_clear group apart op.CopyFileRange said most = either (is_clear group) (nat_lt most said) _ []
    (and_from (not (group fault.MoreThanWasAsked)) true apart refl) refl
counting_clear group apart op.CopyFileRange64 said most = either (is_clear group) (nat_lt most said) _ []
    (and_from (not (group fault.MoreThanWasAsked)) true apart refl) refl
counting_clear group apart o said most = refl

-- ---- what has none of these

fails : (group : Fault → Bool) (o : Opcode) → AreClear group (opening_none o)
fails group op.Open = refl
fails group op.Opendir = refl
fails group o = refl

failed_clear : (group : Fault → Bool) (o : Opcode) (node errno : ℕ) → AreClear group (failed_acts o node errno)
failed_clear group o node errno =
    let opened : List Act = if nat_eq errno 38 then opening_none o else [] in
    each_of (is_clear group) opened (missing_acts o node errno)
    (either (is_clear group) (nat_eq errno 38) (opening_none o) [] (fails group o) refl)
    (either (is_clear group) (is_of_node o && is_missing errno) _ [] refl refl)

opening_clear : (group : Fault → Bool) (o : Opcode) (node fh : ℕ) → AreClear group (opening o node fh)
opening_clear group op.Open node fh = refl
opening_clear group op.Opendir node fh = refl
opening_clear group op.Create node fh = refl
opening_clear group op.Tmpfile node fh = refl
opening_clear group o node fh = refl

-- a group that has no warning of a listing
pub record IsOfNoListing (group : Fault → Bool) : Type 0 where
  pub twice : not (group fault.OffsetGivenTwice) ≡ true
  pub endless : not (group fault.ListingWithoutEnd) ≡ true

pub no_listing : (group : Fault → Bool) → ((f : Fault) → group f ≡ true → is_of_frames f ≡ true) → IsOfNoListing group
no_listing group within = record {
  twice = none_of (group fault.OffsetGivenTwice) (λ is. false≢true (within fault.OffsetGivenTwice is));
  endless = none_of (group fault.ListingWithoutEnd) (λ is. false≢true (within fault.ListingWithoutEnd is));
}

-- ---- all that a reply says

module _ (group : Fault → Bool) (calm : IsOfNoListing group) where
  listing_clear : (asked : ℕ) (offsets : List ℕ) → AreClear group (listing_acts asked offsets)
  listing_clear asked offsets =
      let twice : List Act = act.Faulty fault.OffsetGivenTwice ∷ [] in
      let endless : List Act = act.Faulty fault.ListingWithoutEnd ∷ [] in
      let ends : Bool = is_offset asked (last_behind None offsets) in
      each_of (is_clear group) (if repeats_behind None offsets then twice else []) (if ends then endless else [])
      (either (is_clear group) (repeats_behind None offsets) twice []
      (and_from (not (group fault.OffsetGivenTwice)) true calm.twice refl) refl)
      (either (is_clear group) ends endless []
      (and_from (not (group fault.ListingWithoutEnd)) true calm.endless refl) refl)

  -- Where its numbers and its entries are, all of it is.
  pub answer_clear : (o : Opcode) (a : Asked) (content : AnswerContent)
      → ((n : ℕ) → content ≡ answer.number n → AreClear group (counting o n a.writes))
      → ((e : Entry) → content ≡ answer.entry e → AreClear group (entry_acts true o a e))
      → ((e : Entry) (file : Opened) → content ≡ answer.created e file → AreClear group (entry_acts true o a e))
      → ((rs : List EntryRecordContent) → content ≡ answer.entry_records rs
      → AreClear group (flat_map (record_acts true a) rs))
      → AreClear group (answer_acts o a content)
  answer_clear o a (answer.failed errno) numbers entries made listed = failed_clear group o a.nodeid errno
  answer_clear o a (answer.entry e) numbers entries made listed = entries e refl
  answer_clear o a (answer.attributes v) numbers entries made listed = refl
  answer_clear o a (answer.opened file) numbers entries made listed = opening_clear group o a.nodeid file.handle
  answer_clear o a (answer.created e file) numbers entries made listed =
      each_of (is_clear group) (entry_acts true o a e) _ (made e file refl)
      (either (is_clear group) (is_opened a e) (opening o e.nodeid file.handle) []
      (opening_clear group o e.nodeid file.handle) refl)
  answer_clear o a (answer.number n) numbers entries made listed = numbers n refl
  answer_clear o a (answer.records rs) numbers entries made listed =
      listing_clear a.lists_from (map (λ r. r.off) rs)
  answer_clear o a (answer.entry_records rs) numbers entries made listed =
      each_of (is_clear group) (flat_map (record_acts true a) rs) _ (listed rs refl)
      (listing_clear a.lists_from (map (λ r. r.said.off) rs))
  answer_clear o a (answer.init i) numbers entries made listed = refl
  answer_clear o a other numbers entries made listed = refl

-- A group that has no fault of what a reply says.
pub record IsOfNoAnswer (group : Fault → Bool) : Type 0 where
  pub calm : IsOfNoListing group
  pub few : not (group fault.MoreThanWasAsked) ≡ true
  pub entries : (f : Fault) → is_of_entries f ≡ true → not (group f) ≡ true

pub no_answer : (group : Fault → Bool) → ((f : Fault) → group f ≡ true → is_of_frames f ≡ true)
    → not (group fault.MoreThanWasAsked) ≡ true → not (group fault.EntryOfTheRoot) ≡ true
    → not (group fault.EntryOfNoNode) ≡ true → not (group fault.EntryOfNoKind) ≡ true
    → not (group fault.EntryOfAnotherKind) ≡ true → IsOfNoAnswer group
no_answer group within few root node kind another = record {
  calm = no_listing group within;
  few = few;
  entries = by;
}
  where
    by : (f : Fault) → is_of_entries f ≡ true → not (group f) ≡ true
    by fault.EntryOfTheRoot is = root
    by fault.EntryOfNoNode is = node
    by fault.EntryOfNoKind is = kind
    by fault.EntryOfAnotherKind is = another
    by f is = cc

pub told_clear : (group : Fault → Bool) → IsOfNoAnswer group → (o : Opcode) (a : Asked) (content : AnswerContent)
    → AreClear group (answer_acts o a content)
told_clear group none o a content = answer_clear group none.calm o a content
    (λ n is. counting_clear group none.few o n a.writes) (λ e is. entry_clear group none.entries true o a e)
    (λ e file is. entry_clear group none.entries true o a e) (λ rs is. records_clear group none.entries true a rs)

pub told_free : (group : Fault → Bool) → ((f : Fault) → group f ≡ true → is_of_frames f ≡ true) → IsOfNoAnswer group
    → (before : Session) (o : Opcode) (a : Asked) (content : AnswerContent) → AreFree group before (answer_acts o a content)
told_free group within none before o a content = all_free group (is_clear group) (clear_law group within) before
    (answer_acts o a content) (told_clear group none o a content)

-- ---- whatever its faults

abbrev pub is_told : Act → Bool
is_told = is_clear (λ (f : Fault). false)

pub records_told : (certain : Bool) (a : Asked) (rs : List EntryRecordContent)
    → list_all is_told (flat_map (record_acts certain a) rs) ≡ true
records_told certain a rs = records_clear (λ (f : Fault). false) (λ f is. refl) certain a rs

pub answer_told : (o : Opcode) (a : Asked) (content : AnswerContent) → list_all is_told (answer_acts o a content) ≡ true
answer_told o a content = told_clear (λ (f : Fault). false)
    (record { calm = record { twice = refl; endless = refl }; few = refl; entries = λ f is. refl }) o a content
