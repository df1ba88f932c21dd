-- What a reply gives is tracked, node after node.
use Rattle.std.proofs.Common.{◌≡◌, ◌≤◌, ℕ, ◌+◌, ◌&&◌, Bool, true, false, cond, List, [], ◌∷◌, ◌++◌, None, flat_map, map, refl, nat_eq, nat_lt, if◌then◌else◌, arith}
use Rattle.std.specs.List.{list_all}
use Rattle.fuse_protocol.specs.declared.opcode.Opcode.{Opcode}
use Rattle.fuse_protocol.specs.declared.opcode.Opcode.TheVariants as op
use Rattle.fuse_replies.specs.declared.entry.Entry.{Entry}
use Rattle.fuse_replies.specs.Record.{EntryRecordContent}
use Rattle.fuse_replies.specs.Replies.{AnswerContent}
use Rattle.fuse_replies.specs.Replies as answer
use Rattle.fuse_sessions.specs.declared.act.Act.{Act}
use Rattle.fuse_sessions.specs.declared.act.Act.TheVariants as act
use Rattle.fuse_sessions.specs.declared.act.Asked.{Asked}
use Rattle.fuse_sessions.specs.declared.fault.Fault.TheVariants as fault
use Rattle.fuse_sessions.specs.Sessions.{Session}
use Rattle.fuse_sessions.specs.Warnings.{is_missing, is_of_node, is_offset, last_behind, listing_acts, missing_acts, repeats_behind}
use Rattle.fuse_sessions.specs.ReplyActs.{answer_acts, counting, entry_acts, failed_acts, file_of, gift_acts, is_counted, is_kind, is_made, is_opened, kind_acts, kind_of, may_be_missing, opening, opening_none, record_acts, root_acts}
use Rattle.fuse_spec.specs.Server.Server.{Server}
use Rattle.fuse_spec.specs.Claim.Denotes.{Denotes}
use Rattle.served_sessions.specs.Entries.{is_dots}
use Rattle.served_sessions.proofs.Acts.{each_of, either}
use Rattle.served_sessions.proofs.Fine.{IsFine}
use Rattle.served_sessions.proofs.Gained.{AllHeld, IsDescribed, entries_of, listed_entries, record_entries, times_given}
use Rattle.served_sessions.proofs.NodeFiles.{IsFileAs, IsNodeOf}
use Rattle.served_sessions.proofs.Tracked.{Calm, Tracks, calm_acts, described, described_free, given, given_free, is_calm, none_given, one_more, then_calm}

abbrev AreCalm : List Act → Type 0
AreCalm acts = list_all is_calm acts ≡ true

pub weaker : (v : Server) (most more : ℕ → ℕ) (s : Session) → ((n : ℕ) → 2 ≤ n → most n ≤ more n) → Tracks v most s
    → Tracks v more s
weaker v most more s few tracks = record {
  counts = λ n low. let one = tracks.counts n low in let two = few n low in omega (arith, one, two);
  none = tracks.none;
  held = tracks.held;
  files = tracks.files;
}

pub weaker_calm : (v : Server) (most more : ℕ → ℕ) (s : Session) (acts : List Act)
    → ((n : ℕ) → 2 ≤ n → most n ≤ more n)
    → Calm v most s acts → Calm v more s acts
weaker_calm v most more s acts few calm = record {
  free = calm.free;
  tracks = weaker v most more (s ++ acts) few calm.tracks;
}

-- ---- acts that give nothing

opens_none : (o : Opcode) → AreCalm (opening_none o)
opens_none op.Open = refl
opens_none op.Opendir = refl
opens_none o = refl

failed_calm : (o : Opcode) (node errno : ℕ) → AreCalm (failed_acts o node errno)
failed_calm o node errno =
    let opened : List Act = if nat_eq errno 38 then opening_none o else [] in
    each_of is_calm opened (missing_acts o node errno) (either is_calm (nat_eq errno 38) (opening_none o) [] (opens_none o) refl)
    (either is_calm (is_of_node o && is_missing errno) _ [] refl refl)

opening_calm : (o : Opcode) (node fh : ℕ) → AreCalm (opening o node fh)
opening_calm op.Open node fh = refl
opening_calm op.Opendir node fh = refl
opening_calm op.Create node fh = refl
opening_calm op.Tmpfile node fh = refl
opening_calm o node fh = refl

counting_calm : (o : Opcode) (said most : ℕ) → AreCalm (counting o said most)
counting_calm op.Write said most = either is_calm (nat_lt most said) _ [] refl refl
counting_calm op.CopyFileRange said most = either is_calm (nat_lt most said) _ [] refl refl
counting_calm op.CopyFileRange64 said most = either is_calm (nat_lt most said) _ [] refl refl
counting_calm o said most = refl

listing_calm : (asked : ℕ) (offsets : List ℕ) → AreCalm (listing_acts asked offsets)
listing_calm asked offsets =
    let twice : List Act = act.Faulty fault.OffsetGivenTwice ∷ [] in
    let endless : List Act = act.Faulty fault.ListingWithoutEnd ∷ [] in
    let ends : Bool = is_offset asked (last_behind None offsets) in
    each_of is_calm (if repeats_behind None offsets then twice else []) (if ends then endless else [])
    (either is_calm (repeats_behind None offsets) twice [] refl refl) (either is_calm ends endless [] refl refl)

kind_calm : (a : Asked) (e : Entry) → AreCalm (kind_acts a e)
kind_calm a e = either is_calm (is_kind (kind_of e.attributes)) _ _ (either is_calm (is_made a e) [] _ refl refl) refl

opened_calm : (o : Opcode) (a : Asked) (e : Entry) (fh : ℕ)
    → AreCalm (if is_opened a e then opening o e.nodeid fh else [])
opened_calm o a e fh = either is_calm (is_opened a e) (opening o e.nodeid fh) [] (opening_calm o e.nodeid fh) refl

-- ---- an entry

module _ (v : Server) (fine : IsFine v) where
  gift_tracks : (most : ℕ → ℕ) (s : Session) → Tracks v most s → (a : Asked) (e : Entry) → 2 ≤ e.nodeid
      → IsNodeOf v e.nodeid (file_of e) → Calm v (one_more e.nodeid most) s (gift_acts true a e)
  gift_tracks most s tracks a e low held =
      let first = calm_acts v fine most s (kind_acts a e) (kind_calm a e) tracks in
      then_calm v most (one_more e.nodeid most) s (kind_acts a e)
      (act.Gives e.nodeid (file_of e) (true && is_counted a e) ∷ []) first.free (record {
        free = (given_free v fine most (s ++ kind_acts a e) first.tracks e.nodeid (file_of e) low held (true && is_counted a e), tt);
        tracks = given v fine most (s ++ kind_acts a e) first.tracks e.nodeid (file_of e) low held (true && is_counted a e);
      })

  entry_tracks : (most : ℕ → ℕ) (s : Session) → Tracks v most s → (o : Opcode) (a : Asked) (e : Entry)
      → (2 ≤ e.nodeid → IsNodeOf v e.nodeid (file_of e)) → Calm v (one_more e.nodeid most) s (entry_acts true o a e)
  entry_tracks most s tracks o a e held = by (nat_eq e.nodeid 1) (nat_eq e.nodeid 0) refl refl
    where
      more : (n : ℕ) → 2 ≤ n → most n ≤ one_more e.nodeid most n
      more n low = omega arith

      two_up : (n : ℕ) → nat_eq n 1 ≡ false → nat_eq n 0 ≡ false → 2 ≤ n
      two_up n one zero = grind (arith, one, zero)

      by : (root none : Bool) → nat_eq e.nodeid 1 ≡ root → nat_eq e.nodeid 0 ≡ none
          → Calm v (one_more e.nodeid most) s (if root then root_acts a else (if none then
          (if may_be_missing o then [] else act.Faulty fault.EntryOfNoNode ∷ []) else gift_acts true a e))
      by true none is_root is_none = weaker_calm v most (one_more e.nodeid most) s (root_acts a) more
          (calm_acts v fine most s (root_acts a) (either is_calm a.is_dots [] _ refl refl) tracks)
      by false true is_root is_none = weaker_calm v most (one_more e.nodeid most) s _ more
          (calm_acts v fine most s _ (either is_calm (may_be_missing o) [] _ refl refl) tracks)
      by false false is_root is_none =
          let low : 2 ≤ e.nodeid = two_up e.nodeid is_root is_none in gift_tracks most s tracks a e low (held low)

  -- ---- a listing

  record_tracks : (most : ℕ → ℕ) (s : Session) → Tracks v most s → (a : Asked) (r : EntryRecordContent) (dots : Bool)
      (es : List Entry) (later : List Act) → AllHeld v (record_entries dots r.entry ++ es)
      → ((more : ℕ → ℕ) (u : Session) → Tracks v more u → AllHeld v es → Calm v (λ n. more n + times_given n es) u later)
      → Calm v (λ n. most n + times_given n (record_entries dots r.entry ++ es)) s
      ((if dots then [] else entry_acts true op.Readdirplus a r.entry) ++ later)
  record_tracks most s tracks a r true es later held rest = rest most s tracks held
  record_tracks most s tracks a r false es later held rest =
      let first = entry_tracks most s tracks op.Readdirplus a r.entry held.0 in
      let after = rest (one_more r.entry.nodeid most) (s ++ entry_acts true op.Readdirplus a r.entry) first.tracks held.1 in
      then_calm v most (λ n. most n + (cond (nat_eq r.entry.nodeid n) 1 0 + times_given n es)) s
      (entry_acts true op.Readdirplus a r.entry) later first.free
      (weaker_calm v (λ n. one_more r.entry.nodeid most n + times_given n es)
      (λ n. most n + (cond (nat_eq r.entry.nodeid n) 1 0 + times_given n es))
      (s ++ entry_acts true op.Readdirplus a r.entry) later (λ n low. omega arith) after)

  records_track : (most : ℕ → ℕ) (s : Session) → Tracks v most s → (a : Asked) (rs : List EntryRecordContent)
      → AllHeld v (listed_entries rs)
      → Calm v (λ n. most n + times_given n (listed_entries rs)) s (flat_map (record_acts true a) rs)
  records_track most s tracks a [] held = weaker_calm v most (λ n. most n + 0) s [] (λ n low. omega arith)
      (none_given v most s tracks)
  records_track most s tracks a (r ∷ rs) held = record_tracks most s tracks a r (is_dots r.said.name) (listed_entries rs)
      (flat_map (record_acts true a) rs) held (λ more u are have. records_track more u are a rs have)

  -- ---- a reply

  given_calm : (most : ℕ → ℕ) (s : Session) (acts : List Act) → AreCalm acts → Tracks v most s
      → Calm v (λ n. most n + 0) s acts
  given_calm most s acts calm tracks = weaker_calm v most (λ n. most n + 0) s acts (λ n low. omega arith)
      (calm_acts v fine most s acts calm tracks)

  described_calm : (most : ℕ → ℕ) (s : Session) → Tracks v most s → (n kind ino : ℕ) → (2 ≤ n → (generation file : ℕ)
      → Denotes v.nodes n generation file → IsFileAs v.tree file kind ino)
      → Calm v most s (act.Describes n kind ino ∷ [])
  described_calm most s tracks n kind ino so = record {
    free = (described_free v fine most s tracks n kind ino so, tt);
    tracks = described v fine most s tracks n kind ino;
  }

  -- Its acts show no other generation or file.
  pub answer_tracks : (most : ℕ → ℕ) (s : Session) → Tracks v most s → (o : Opcode) (a : Asked) (content : AnswerContent)
      → AllHeld v (entries_of content) → IsDescribed v o a.nodeid content
      → Calm v (λ n. most n + times_given n (entries_of content)) s (answer_acts o a content)
  answer_tracks most s tracks o a (answer.entry e) held so =
      weaker_calm v (one_more e.nodeid most) (λ n. most n + (cond (nat_eq e.nodeid n) 1 0 + 0)) s (entry_acts true o a e)
      (λ n low. omega arith) (entry_tracks most s tracks o a e held.0)
  answer_tracks most s tracks o a (answer.created e file) held so =
      let first = entry_tracks most s tracks o a e held.0 in
      let opened : List Act = if is_opened a e then opening o e.nodeid file.handle else [] in
      weaker_calm v (one_more e.nodeid most) (λ n. most n + (cond (nat_eq e.nodeid n) 1 0 + 0)) s
      (entry_acts true o a e ++ opened) (λ n low. omega arith)
      (then_calm v most (one_more e.nodeid most) s (entry_acts true o a e) opened first.free
      (calm_acts v fine (one_more e.nodeid most) (s ++ entry_acts true o a e) opened (opened_calm o a e file.handle) first.tracks))
  answer_tracks most s tracks o a (answer.entry_records rs) held so =
      let first = records_track most s tracks a rs held in
      let listing : List Act = listing_acts a.lists_from (map (λ r. r.said.off) rs) in
      then_calm v most _ s (flat_map (record_acts true a) rs) listing first.free
      (calm_acts v fine _ (s ++ flat_map (record_acts true a) rs) listing
      (listing_calm a.lists_from (map (λ r. r.said.off) rs)) first.tracks)
  answer_tracks most s tracks o a (answer.failed errno) held so =
      given_calm most s (failed_acts o a.nodeid errno) (failed_calm o a.nodeid errno) tracks
  answer_tracks most s tracks o a (answer.attributes x) held so =
      weaker_calm v most (λ n. most n + 0) s (act.Describes a.nodeid (kind_of x.attributes) x.attributes.ino ∷ [])
      (λ n low. omega arith)
      (described_calm most s tracks a.nodeid (kind_of x.attributes) x.attributes.ino so.1)
  answer_tracks most s tracks o a (answer.opened file) held so =
      given_calm most s (opening o a.nodeid file.handle) (opening_calm o a.nodeid file.handle) tracks
  answer_tracks most s tracks o a (answer.number n) held so =
      given_calm most s (counting o n a.writes) (counting_calm o n a.writes) tracks
  answer_tracks most s tracks o a (answer.records rs) held so = given_calm most s
      (listing_acts a.lists_from (map (λ r. r.off) rs)) (listing_calm a.lists_from (map (λ r. r.off) rs)) tracks
  answer_tracks most s tracks o a (answer.init i) held so = given_calm most s _ refl tracks
  answer_tracks most s tracks o a other held so = given_calm most s [] refl tracks
