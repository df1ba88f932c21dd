-- What `Serves` says goes over a device is exchanges.
use Rattle.std.proofs.Common.{◌≡◌, ◌⊎◌, inl, inr, ℕ, List, [], ◌∷◌, ◌++◌, refl, sym, ◌∙◌, ap, subst, length, ◌+◌, ◌/◌}
use Rattle.fuse_spec.specs.Server.Nodes.{NodeTable}
use Rattle.fuse_spec.specs.Server.Server.{Server}
use Rattle.fuse_device.specs.Transfers.{Transfer, received}
use Rattle.fs_serve.specs.LookupCounts.{IsFresh}
use Rattle.fs_serve.specs.LongBatches.{IsLongBatch, first_pairs, part_of}
use Rattle.fs_serve.specs.LongInits.{IsReadAs}
use Rattle.fs_serve.specs.Sending.{SendsBytes, at_end, with_result}
use Rattle.fs_serve.specs.Serving.{Serves, ServesBatch, ServesFrame, ServesNext, ServesPairs, batch, more_pairs, next, no_pairs, none, one}
use Rattle.fs_serve.specs.Serving as serving
use Rattle.served_sessions.specs.Exchanges.{AreExchanges, AreExchangesBy, IsAnswer, answered, cut_off, ended, nothing, unanswered}
use Rattle.served_sessions.specs.Entries.{HasEntriesIn, IsSoundAnswer}
use Rattle.served_sessions.proofs.Answered.{IsHeadedAs, SendsAnswer, as_itself, serves_answer}
use Rattle.served_sessions.proofs.Fine.{IsFine, fresh_fine, serves_fine}
use Rattle.served_sessions.proofs.Placed.{same_flags_of_init, same_opcode_of_init, same_opcode_of_part, same_unique_of_init}

-- ---- one exchange behind another

module _ {Answers : List ℕ → List ℕ → Type 0} where
  then_exchanges : (before later : List Transfer) → AreExchangesBy Answers before → AreExchangesBy Answers later
      → AreExchangesBy Answers (before ++ later)
  then_exchanges before later nothing more = more
  then_exchanges before later (unanswered request rest ex) more =
      unanswered request (rest ++ later) (then_exchanges rest later ex more)
  then_exchanges before later (answered request reply answers result rest ex) more =
      answered request reply answers result (rest ++ later) (then_exchanges rest later ex more)
  then_exchanges before later (cut_off request reply end rest ex) more =
      cut_off request reply end (rest ++ later) (then_exchanges rest later ex more)
  then_exchanges before later (ended end rest ex) more = ended end (rest ++ later) (then_exchanges rest later ex more)

  sends_one : (bytes reply : List ℕ) (log : List Transfer) → Answers bytes reply → SendsBytes reply log
      → AreExchangesBy Answers (received bytes ∷ log)
  sends_one bytes reply log answers (with_result result) = answered bytes reply answers result [] nothing
  sends_one bytes reply log answers (at_end end) = cut_off bytes reply end [] nothing

-- ---- a frame

pub read_as : (bytes frame : List ℕ) → IsReadAs bytes frame → IsHeadedAs bytes frame
read_as bytes frame (inl (long, is)) = subst (λ (f : List ℕ). IsHeadedAs bytes f) (sym is) (record {
  header = λ h. long.header;
  opcode = sym (same_opcode_of_init bytes);
  unique = sym (same_unique_of_init bytes);
  flags = sym (same_flags_of_init bytes);
  whole = λ other. absurd (other (same_opcode_of_init bytes ∙ long.opcode));
})
read_as bytes frame (inr (no_init, no_batch, is)) = subst (λ (f : List ℕ). IsHeadedAs bytes f) (sym is) (as_itself bytes)

-- ---- a long BATCH_FORGET

part_silent : (bytes left : List ℕ) → IsLongBatch bytes → (old : Server) (log : List Transfer) (new : Server)
    → ServesFrame old (part_of bytes (first_pairs left)) log new → log ≡ []
part_silent bytes left long old log new serves =
    by (serves_answer ⊥ old.nodes new part part (as_itself part) old (λ none. absurd none) log new serves refl refl)
  where
    pairs : List ℕ
    pairs = first_pairs left

    part : List ℕ
    part = part_of bytes (first_pairs left)

    by : (log ≡ []) ⊎ SendsAnswer ⊥ old.nodes new part log → log ≡ []
    by (inl silent) = silent
    by (inr a) = absurd (a.answers.no_forget.1 (same_opcode_of_part (48 + length pairs) (length pairs / 16) bytes pairs
        long.header.0 ∙ long.opcode))

pub pairs_silent : (bytes : List ℕ) → IsLongBatch bytes → (old : Server) (pairs : List ℕ) (log : List Transfer) (new : Server)
    → ServesPairs bytes old pairs log new → log ≡ []
pairs_silent bytes long old pairs log new no_pairs = refl
pairs_silent bytes long old pairs log new (more_pairs served before mid serves going left split log' new' more) =
    ap (λ (l : List Transfer). l ++ log') (pairs_silent bytes long old served before mid serves)
    ∙ part_silent bytes left long mid log' new' more

-- ---- one after another

module _ (Answers : List ℕ → List ℕ → Type 0) (Sound : Type 0) (start : Server)
    (fine : (log : List Transfer) (mid : Server) → Serves start log mid → Sound → IsFine mid)
    (as_such : (bytes reply : List ℕ) → IsAnswer bytes reply → (Sound → HasEntriesIn bytes reply) → Answers bytes reply) where
  frame_exchange : (t : NodeTable) (u : Server) (bytes : List ℕ) (log : List Transfer) → (log ≡ []) ⊎ SendsAnswer Sound t u bytes log
      → AreExchangesBy Answers (received bytes ∷ log)
  frame_exchange t u bytes log (inl silent) = subst (λ (l : List Transfer). AreExchangesBy Answers (received bytes ∷ l))
      (sym silent) (unanswered bytes [] nothing)
  frame_exchange t u bytes log (inr a) = sends_one bytes a.reply log (as_such bytes a.reply a.answers a.entries) a.sends

  next_exchange : (old : Server) → (Sound → IsFine old) → (log : List Transfer) (new : Server) → ServesNext old log new
      → AreExchangesBy Answers log
  next_exchange old is log new (one bytes frame read log' new' serves) =
      frame_exchange old.nodes new bytes log'
      (serves_answer Sound old.nodes new bytes frame (read_as bytes frame read) old is log' new' serves refl refl)
  next_exchange old is log new (batch bytes long log' new' serves) = frame_exchange old.nodes new bytes log'
      (inl (pairs_silent bytes long old serves.pairs log' new' serves.serves))
  next_exchange old is log new (none end) = ended end [] nothing

  all_exchanges : (log : List Transfer) (new : Server) → Serves start log new → AreExchangesBy Answers log
  all_exchanges log new serving.nothing = nothing
  all_exchanges log new (next before mid serves going log' new' more) = then_exchanges before log'
      (all_exchanges before mid serves) (next_exchange mid (fine before mid serves) log' new' more)

pub exchanges : (old : Server) (log : List Transfer) (new : Server) → Serves old log new → AreExchanges log
exchanges old = all_exchanges IsAnswer ⊥ old (λ log mid serves none. absurd none) (λ bytes reply answers entries. answers)

-- Of a server that was just mounted the entries are sound.
pub sound_exchanges : (old : Server) → IsFresh old → (log : List Transfer) (new : Server) → Serves old log new
    → AreExchangesBy IsSoundAnswer log
sound_exchanges old mounted = all_exchanges IsSoundAnswer (Unit {0}) old
    (λ log mid serves sound. serves_fine old (fresh_fine old mounted) log mid serves)
    (λ bytes reply answers entries. record { answers = answers; entries = entries tt })
