-- How frames that are served follow one another, and what a taken frame results in.
use Rattle.std.proofs.Common.{◌≡◌, ◌≢◌, ℕ, List, [], ◌∷◌, ◌++◌, ◌+◌, ◌-◌, drop, length, min, take, Option, Some, None, refl, ap, append_assoc, sym, subst, take-append-drop, length-append, arith, ◌∙◌}
use Rattle.std.proofs.lemmas.List.{take_rest}
use Rattle.fuse_spec.specs.Kernel.Messages.{WireReply}
use Rattle.fuse_spec.specs.Server.Server.{Server}
use Rattle.fuse_spec.specs.World.Worlds.{Sent}
use Rattle.fuse_spec.specs.declared.Taken.TheVariants.{Held}
use Rattle.fs_server.specs.declared.server.Taken.{Taken}
use Rattle.fs_server.specs.Effects.{TakesFrame, copy_of}
use Rattle.fs_server.specs.Releasing.{release_copy}
use Rattle.fk_wire.specs.declared.opcode.Opcode.TheVariants.{Release}
use Rattle.fuse_frames.specs.RequestTies.{asked_opcode}
use Rattle.fuse_device.specs.Transfers.{Transfer, received, sent, unsent, stopped, ended_in}
use Rattle.fuse_device.specs.declared.device.DeviceEnd.{DeviceEnd}
use Rattle.fuse_device.specs.Listed.{frames_received, frames_received-append}
use Rattle.fuse_spec.specs.declared.Minor.{Minor}
use Rattle.fs_server.specs.declared.server.ServerFault.{ServerFault}
use Rattle.fs_serve.specs.Sending.{Delivers, GoesOver, RepliesToRelease, SendsBytes, SendsFault, at_end, settled, unsettled, with_result}
use Rattle.fs_serve.specs.Sending.{replied as fault_replied, unreplied as fault_unreplied}
use Rattle.fs_serve.specs.LongBatches.{part_of}
use Rattle.fs_serve.specs.Serving.{IsToTheEnd, TakesRequest, ServesFrame, ServesHeld, ServesNext, ServesPairs, ServesBatch, Serves, batch, done_at_once, dropped, more_pairs, name_too_long, next, no_pairs, none, one, performed, refused, released, replied, replied_at_once, uninterrupted, unreleased, unreplied, untaken}

reply_none : (number unique : ℕ) (reply : Option WireReply) → None ≡ copy_of number unique reply → reply ≡ None
reply_none number unique None same = refl
reply_none number unique (Some wire) same =
    let no : ◌≡◌ {A = Option Sent} None (Some (record { number = number; unique = unique; wire = wire })) = same in
    cc

module _ {A : Type 0} (old taken : Server) (frame : List ℕ) (word : Taken A) (t : TakesFrame old frame word taken) where
  takes : TakesRequest old frame t.request taken
  takes = record { says = t.says; faultless = t.faultless; after = t.after }

  pub serves_at_once : (copy : Sent) → word.sent ≡ Some copy → (log : List Transfer) (new : Server)
      → Delivers copy taken log new → ServesFrame old frame log new
  serves_at_once copy is log new delivers = replied_at_once t.request taken takes copy (sym is ∙ t.copy) log new delivers

  pub serves_silently : word.sent ≡ None → (word.word ≡ Held → ⊥) → ServesFrame old frame [] taken
  serves_silently is apart = done_at_once t.request taken takes (reply_none _ _ _ (sym is ∙ t.copy))
      (λ held. apart (sym t.as_word ∙ held))

  pub serves_performed : word.word ≡ Held → asked_opcode t.request.body ≢ Release → (log : List Transfer) (new : Server)
      → ServesHeld taken word.unique log new → ServesFrame old frame log new
  serves_performed held other log new serves = performed t.request taken takes (t.as_word ∙ held) other log new
      (subst (λ (u : ℕ). ServesHeld taken u log new) (sym t.under) serves)

pub ended_append : (h k : List Transfer) → ended_in h ≡ None → ended_in (h ++ k) ≡ ended_in k
ended_append [] k going = refl
ended_append (received frame ∷ h) k going = ended_append h k going
ended_append (sent frame result ∷ h) k going = ended_append h k going
ended_append (unsent frame end ∷ h) k going = let no : ◌≡◌ {A = Option DeviceEnd} (Some end) None = going in cc
ended_append (stopped end ∷ h) k going = let no : ◌≡◌ {A = Option DeviceEnd} (Some end) None = going in cc

-- ---- how many frames are received

sends_no_frame : (bytes : List ℕ) (log : List Transfer) → SendsBytes bytes log → frames_received log ≡ []
sends_no_frame bytes log (with_result result) = refl
sends_no_frame bytes log (at_end end) = refl

delivers_no_frame : (copy : Sent) (old : Server) (log : List Transfer) (new : Server) → Delivers copy old log new
    → frames_received log ≡ []
delivers_no_frame copy old log new (settled opcode bytes frame result new' is) = refl
delivers_no_frame copy old log new (unsettled opcode bytes frame end) = refl

held_no_frame : (old : Server) (unique : ℕ) (log : List Transfer) (new : Server) → ServesHeld old unique log new
    → frames_received log ≡ []
held_no_frame old unique log new (replied errno copy did performs log' new' delivers) =
    delivers_no_frame copy did log new delivers
held_no_frame old unique log new (unreplied errno new' performs) = refl
held_no_frame old unique log new (dropped refusal refuses log' sends) = sends_no_frame sends.bytes log sends.sends

release_no_frame : (copy : Option Sent) (log : List Transfer) → RepliesToRelease copy log → frames_received log ≡ []
release_no_frame None log is = ap frames_received is
release_no_frame (Some copy) log (bytes, framed, sends) = sends_no_frame bytes log sends

fault_no_frame : (minor : Minor) (frame : List ℕ) (fault : ServerFault) (log : List Transfer)
    → SendsFault minor frame fault log → frames_received log ≡ []
fault_no_frame minor frame fault log (fault_replied bytes reply log' sends) = sends_no_frame bytes log sends
fault_no_frame minor frame fault log (fault_unreplied quiet) = refl

-- none while one is served
frame_no_frame : (old : Server) (frame : List ℕ) (log : List Transfer) (new : Server) → ServesFrame old frame log new
    → frames_received log ≡ []
frame_no_frame old frame log new (done_at_once request new' took silent not_held) = refl
frame_no_frame old frame log new (replied_at_once request taken took copy is log' new' delivers) =
    delivers_no_frame copy taken log new delivers
frame_no_frame old frame log new (released unique opened says errno new' releases log' replies) =
    release_no_frame (release_copy old unique errno) log replies
frame_no_frame old frame log new (unreleased unique opened says refuses log' sends) =
    sends_no_frame sends.bytes log sends.sends
frame_no_frame old frame log new (performed request taken took held other log' new' serves) =
    held_no_frame taken request.unique log new serves
frame_no_frame old frame log new (untaken can wants other not_interrupt log' sends) =
    sends_no_frame sends.bytes log sends.sends
frame_no_frame old frame log new (uninterrupted can wants is_interrupt) = refl
frame_no_frame old frame log new (name_too_long refuses too_long low log' sends) =
    sends_no_frame sends.bytes log sends.sends
frame_no_frame old frame log new (refused fault refuses not_memory other low log' sends) =
    fault_no_frame old.minor frame fault log sends

pairs_no_frame : (bytes : List ℕ) (old : Server) (pairs : List ℕ) (log : List Transfer) (new : Server)
    → ServesPairs bytes old pairs log new → frames_received log ≡ []
pairs_no_frame bytes old pairs log new no_pairs = refl
pairs_no_frame bytes old pairs log new (more_pairs served before mid serves going left split log' new' more) =
    frames_received-append before log'
    ∙ ap (λ (l : List (List ℕ)). l ++ frames_received log') (pairs_no_frame bytes old served before mid serves)
    ∙ frame_no_frame mid _ log' new more

-- one each time, where the device did not come to its end
next_received : (old : Server) (log : List Transfer) (new : Server) → ServesNext old log new → ended_in log ≡ None
    → length (frames_received log) ≡ 1
next_received old log new (one bytes frame read log' new' serves) going =
    ap (λ (l : List (List ℕ)). length (bytes ∷ l)) (frame_no_frame old frame log' new serves)
next_received old log new (batch bytes long log' new' serves) going =
    ap (λ (l : List (List ℕ)). length (bytes ∷ l)) (pairs_no_frame bytes old serves.pairs log' new serves.serves)
next_received old log new (none end) going = let no : ◌≡◌ {A = Option DeviceEnd} (Some end) None = going in cc

-- one more frame after those that are served, unless the device came to its end at it
module _ {D : Type 0} (logs : D → D → List Transfer → Type 0)
    (goes_on : (first mid last : D) (h k : List Transfer) → logs first mid h → logs mid last k → logs first last (h ++ k))
    (first mid last : D) (old served new : Server) (count : ℕ)
    (so_far : GoesOver logs first mid None (λ log. Serves old log served × (length (frames_received log) ≡ count))) where
  pub serves_more : GoesOver logs mid last None (λ log. ServesNext served log new)
      → GoesOver logs first last None (λ log. Serves old log new × (length (frames_received log) ≡ count + 1))
  serves_more (k, over, follows, ends) =
      let (h, before, so, no_end) = so_far in
      let once = next_received served k new follows (sym ends) in
      let all = ap length (frames_received-append h k) in
      let sum = length-append (frames_received h) (frames_received k) in (
        h ++ k,
        goes_on first mid last h k before over,
        (next h served so.0 (sym no_end) k new follows, let count_so = so.1 in omega (arith, all, sum, once, count_so)),
        ends ∙ sym (ended_append h k (sym no_end)),
      )

  pub serves_to_the_end : (end : DeviceEnd) → GoesOver logs mid last (Some end) (λ log. ServesNext served log new)
      → GoesOver logs first last (Some end) (λ log. Serves old log new × IsToTheEnd log)
  serves_to_the_end end (k, over, follows, ends) =
      let (h, before, so, no_end) = so_far in
      let ended = ends ∙ sym (ended_append h k (sym no_end)) in (
        h ++ k,
        goes_on first mid last h k before over,
        (
          next h served so.0 (sym no_end) k new follows,
          λ going. let no : ◌≡◌ {A = Option DeviceEnd} (Some end) None = ended ∙ going in cc,
        ),
        ended,
      )

-- one more frame of the pairs of a long BATCH_FORGET
pub pairs_more : {D : Type 0} (logs : D → D → List Transfer → Type 0)
    → ((first mid last : D) (h k : List Transfer) → logs first mid h → logs mid last k → logs first last (h ++ k))
    → (first mid last : D) (bytes : List ℕ) (old served new : Server) (end : Option DeviceEnd)
    → (pairs left frame : List ℕ) (n : ℕ) → n ≡ min (length left) 1024 → frame ≡ part_of bytes (take n left)
    → drop 48 bytes ≡ pairs ++ left → GoesOver logs first mid None (λ log. ServesPairs bytes old pairs log served)
    → GoesOver logs mid last end (λ log. ServesFrame served frame log new)
    → GoesOver logs first last end (λ log. ServesPairs bytes old (pairs ++ take n left) log new)
pairs_more logs goes_on first mid last bytes old served new end pairs left frame n count is split (h, before, serves, no_end) (k, over, follows, ends) =
    let part = subst (λ (f : List ℕ). ServesFrame served f k new) (is ∙ ap (λ (m : ℕ). part_of bytes (take m left)) count) follows in (
      h ++ k,
      goes_on first mid last h k before over,
      subst (λ (m : ℕ). ServesPairs bytes old (pairs ++ take m left) (h ++ k) new) (sym count)
          (more_pairs pairs h served serves (sym no_end) left split k new part),
      ends ∙ sym (ended_append h k (sym no_end)),
    )

-- what is left of the pairs after one more frame
pub pairs_left : (all pairs left : List ℕ) (n : ℕ) → all ≡ pairs ++ left
    → all ≡ (pairs ++ take n left) ++ take (length left - n) (drop n left)
pairs_left all pairs left n e =
    e ∙ ap (λ l. pairs ++ l) (sym (take-append-drop n left)) ∙ sym (append_assoc pairs (take n left) (drop n left)) ∙ ap
    (λ l. (pairs ++ take n left) ++ l) (sym (take_rest left n))

-- the device came to its end among the pairs
pub batch_ended : {D : Type 0} (logs : D → D → List Transfer → Type 0) (first last : D) (bytes : List ℕ)
    (old new : Server) (end : DeviceEnd) (pairs : List ℕ)
    → GoesOver logs first last (Some end) (λ log. ServesPairs bytes old pairs log new)
    → GoesOver logs first last (Some end) (λ log. ServesBatch bytes old log new)
batch_ended logs first last bytes old new end pairs (log, over, serves, ends) = (
  log,
  over,
  record {
    pairs = pairs;
    serves = serves;
    all = λ going. let no : ◌≡◌ {A = Option DeviceEnd} (Some end) None = ends ∙ going in cc;
  },
  ends,
)
