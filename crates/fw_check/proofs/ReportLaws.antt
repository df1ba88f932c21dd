-- How a check ends, by its exit status.
use Rattle.std.proofs.Common.{◌≡◌, ◌≢◌, ◌++◌, ◌<◌, ◌+◌, ℕ, Bool, true, false, if◌then◌else◌, List, [], ◌∷◌, Option, append-nil, arith, codes, refl, sym, inl, inr}
use Rattle.std.specs.Prelude.{Contains}
use Rattle.fw_check.specs.declared.counts.Counts.{Counts}
use Rattle.fw_check.specs.declared.options.CheckOptions.{CheckOptions}
use Rattle.fuse_text.specs.declared.stop.Stop.{Stop}
use Rattle.fuse_text.specs.declared.stop.Stop.TheVariants.{BadLine, CannotRead, NoMemory, OutputRefused}
use Rattle.fw_check.specs.Checks.{Judged, finding_count}
use Rattle.fw_check.specs.Endings.{PrintsChecked}
use Rattle.fuse_text.specs.Lines.{lines_of}
use Rattle.fuse_text.specs.Outputs.{AppendsSome}
use Rattle.fuse_text.specs.Stops.{status_of, stop_line}
use Rattle.fuse_capture.specs.Faults.{capture_fault_words}
use Rattle.fuse_capture.specs.declared.line.CaptureFault.{CaptureFault}
use Rattle.fw_check.specs.Running.{AllPrinted, AreCounts, StopsIn}

-- the counts that are kept are those of what was found
right_of : (is_strict : Bool) (c : Counts) (j : Judged) → AreCounts j c
    → c.kernel + c.server + c.device + (if is_strict then c.warnings else 0) ≡ 0 → finding_count is_strict j ≡ 0
right_of true c j are none = omega (arith, are.kernel, are.server, are.device, are.warnings, none)
right_of false c j are none = omega (arith, are.kernel, are.server, are.device, none)

wrong_of : (is_strict : Bool) (c : Counts) (j : Judged) → AreCounts j c
    → (c.kernel + c.server + c.device + (if is_strict then c.warnings else 0) ≡ 0 → ⊥) → 0 < finding_count is_strict j
wrong_of true c j are some = omega (arith, are.kernel, are.server, are.device, are.warnings, some)
wrong_of false c j are some = omega (arith, are.kernel, are.server, are.device, some)

-- all was judged and printed
pub ends_well : (o : CheckOptions) (name capture : List ℕ) (c : Counts) (had has faults said : Option (List ℕ))
    → AllPrinted o capture c had has
    → c.kernel + c.server + c.device + (if o.is_strict then c.warnings else 0) ≡ 0
    → PrintsChecked o name capture had has faults said 0
ends_well o name capture c had has faults said all none = record {
  done = lines_of capture;
  rest = [];
  lines = sym (append-nil (lines_of capture));
  judged = all.judged;
  checks = all.checks;
  ended = λ is. (refl, all.printed);
  right = λ is. right_of o.is_strict c all.judged all.counts none;
  wrong = λ is. absurd (omega arith);
  begun = λ is. elim is [ inl one ↦ absurd (omega arith) | inr three ↦ absurd (omega arith) ];
  bad = λ is. absurd (omega arith);
  refused = λ is. absurd (omega arith);
}

pub ends_with_faults : (o : CheckOptions) (name capture : List ℕ) (c : Counts) (had has faults said : Option (List ℕ))
    → AllPrinted o capture c had has
    → (c.kernel + c.server + c.device + (if o.is_strict then c.warnings else 0) ≡ 0 → ⊥)
    → PrintsChecked o name capture had has faults said 6
ends_with_faults o name capture c had has faults said all some = record {
  done = lines_of capture;
  rest = [];
  lines = sym (append-nil (lines_of capture));
  judged = all.judged;
  checks = all.checks;
  ended = λ is. (refl, all.printed);
  right = λ is. absurd (omega arith);
  wrong = λ is. wrong_of o.is_strict c all.judged all.counts some;
  begun = λ is. elim is [ inl one ↦ absurd (omega arith) | inr three ↦ absurd (omega arith) ];
  bad = λ is. absurd (omega arith);
  refused = λ is. absurd (omega arith);
}

-- it was stopped
pub stops : (o : CheckOptions) (s : Stop CaptureFault) (name capture : List ℕ) (had has faults said : Option (List ℕ))
    → StopsIn o capture s had has
    → (status_of s ≢ 5 → AppendsSome faults said (stop_line capture_fault_words name s ++ codes "\n"))
    → PrintsChecked o name capture had has faults said (status_of s)
stops o CannotRead name capture had has faults said at says = record {
  done = at.done;
  rest = at.rest;
  lines = at.lines;
  judged = at.judged;
  checks = at.checks;
  ended = λ e. elim e [ inl zero ↦ absurd (omega arith) | inr six ↦ absurd (omega arith) ];
  right = λ e. absurd (omega arith);
  wrong = λ e. absurd (omega arith);
  begun = λ e. at.says;
  bad = λ e. inl (says (λ five. cc five));
  refused = λ e. absurd (omega arith);
}
stops o (BadLine n f) name capture had has faults said at says =
    let (line, after, rest, bad, number, printed) = at.says in
    record {
      done = at.done;
      rest = at.rest;
      lines = at.lines;
      judged = at.judged;
      checks = at.checks;
      ended = λ e. elim e [ inl zero ↦ absurd (omega arith) | inr six ↦ absurd (omega arith) ];
      right = λ e. absurd (omega arith);
      wrong = λ e. absurd (omega arith);
      begun = λ e. printed;
      bad = λ e. inr (line, after, f, rest, bad, rw number at (says (λ five. cc five)));
      refused = λ e. absurd (omega arith);
    }
stops o NoMemory name capture had has faults said at says = record {
  done = at.done;
  rest = at.rest;
  lines = at.lines;
  judged = at.judged;
  checks = at.checks;
  ended = λ e. elim e [ inl zero ↦ absurd (omega arith) | inr six ↦ absurd (omega arith) ];
  right = λ e. absurd (omega arith);
  wrong = λ e. absurd (omega arith);
  begun = λ e. at.says;
  bad = λ e. absurd (omega arith);
  refused = λ e. absurd (omega arith);
}
stops o OutputRefused name capture had has faults said at says = record {
  done = at.done;
  rest = at.rest;
  lines = at.lines;
  judged = at.judged;
  checks = at.checks;
  ended = λ e. elim e [ inl zero ↦ absurd (omega arith) | inr six ↦ absurd (omega arith) ];
  right = λ e. absurd (omega arith);
  wrong = λ e. absurd (omega arith);
  begun = λ e. elim e [ inl one ↦ absurd (omega arith) | inr three ↦ absurd (omega arith) ];
  bad = λ e. absurd (omega arith);
  refused = λ e. at.says;
}
