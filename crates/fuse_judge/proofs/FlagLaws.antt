-- What is known of a session as a whole, with one more act.
use Rattle.std.proofs.Common.{◌≡◌, ◌≢◌, ℕ, Bool, true, false, true≢false, ◌||◌, ◌&&◌, [], ◌∷◌, ◌++◌, Option, Some, None, refl, sym, ◌∙◌, ap, subst, arith, rules}
use Rattle.std.specs.Prelude.{IsFalse, not, nat_lt, max}
use Rattle.std.specs.List.{list_any}
use Rattle.std.proofs.lemmas.Option.{none-some, same_Some}
use Rattle.fuse_protocol.specs.declared.opcode.Opcode.{Opcode}
use Rattle.fuse_protocol.specs.declared.opcode.Opcode.TheVariants as op
use Rattle.fuse_sessions.specs.declared.act.Act.{Act}
use Rattle.fuse_sessions.specs.declared.act.Act.TheVariants as act
use Rattle.fuse_sessions.specs.declared.fault.Fault.{Fault}
use Rattle.fuse_sessions.specs.declared.fault.Fault.TheVariants as fault
use Rattle.fuse_sessions.specs.declared.act.OpenKind.{OpenKind}
use Rattle.fuse_sessions.specs.declared.act.OpenKind.TheVariants as kind
use Rattle.fuse_sessions.specs.Sessions.{Session, or_earlier, moments}
use Rattle.fuse_sessions.specs.Numbers.{is_forget, is_reading, is_agreement, is_of_several, is_of_writers, is_resend, shows_end, reads_request_from, has_agreed}
use Rattle.fuse_sessions.specs.OpenFiles.{opens_none}
use Rattle.fuse_sessions.specs.Faults.{agreed_write, BreaksBeginning}
use Rattle.fuse_sessions.proofs.Laws.{any-more, latest-more, moments-more}
use Rattle.fuse_judge.specs.declared.flags.Flags.{Flags}
use Rattle.fuse_judge.specs.Flags.{AreFlags, LeavesFlags, is_from, highest_with}
use Rattle.fuse_judge.specs.Verdicts.{IsFault}
use Rattle.fuse_judge.proofs.Keys.{or_true, or_false, and_true, and_false}

of_two : (a b u : ℕ) → not (nat_lt (max a b) u) ≡ (not (nat_lt a u) || not (nat_lt b u))
of_two a b u = grind (arith, rules)

pub from_either : (u : ℕ) (h r : Option ℕ) → is_from u (highest_with h r) ≡ (is_from u h || is_from u r)
from_either u None None = refl
from_either u None (Some b) = refl
from_either u (Some a) None = sym (grind (arith, rules))
from_either u (Some a) (Some b) = of_two a b u

-- What is known is noted: what was, and what the act makes known.
pub record AreNoted (s : Session) (a : Act) (f new : Flags) : Type 0 where
  pub began : new.began ≡ (f.began || is_reading a)
  pub agreed : new.agreed ≡ (f.agreed || is_agreement a)
  pub max_write : new.max_write ≡ or_earlier (agreed_write a) f.max_write
  pub several : new.has_several_readers ≡ (f.has_several_readers || is_of_several a)
  pub writers : new.has_several_writers ≡ (f.has_several_writers || is_of_writers a)
  pub resent : new.has_resent ≡ (f.has_resent || is_resend a)
  pub ended : new.ended ≡ (f.ended || shows_end (s, a))
  pub no_files : new.opens_no_files ≡ (f.opens_no_files || opens_none kind.File a)
  pub no_directories : new.opens_no_directories ≡ (f.opens_no_directories || opens_none kind.Directory a)
  pub read : Option ℕ
  pub reads : (u : ℕ) → reads_request_from u a ≡ is_from u read
  pub highest : new.highest ≡ highest_with f.highest read

pub flags-noted : (s : Session) (a : Act) (f new : Flags) → AreFlags s f → AreNoted s a f new
    → AreFlags (s ++ a ∷ []) new
flags-noted s a f new are noted = record {
  began = noted.began ∙ ap (λ b. b || is_reading a) are.began ∙ sym (any-more is_reading s a);
  agreed = noted.agreed ∙ ap (λ b. b || is_agreement a) are.agreed ∙ sym (any-more is_agreement s a);
  max_write = noted.max_write ∙ ap (or_earlier (agreed_write a)) are.max_write ∙ sym (latest-more agreed_write s a);
  several = noted.several ∙ ap (λ b. b || is_of_several a) are.several ∙ sym (any-more is_of_several s a);
  writers = noted.writers ∙ ap (λ b. b || is_of_writers a) are.writers ∙ sym (any-more is_of_writers s a);
  resent = noted.resent ∙ ap (λ b. b || is_resend a) are.resent ∙ sym (any-more is_resend s a);
  ended = noted.ended ∙ ap (λ b. b || shows_end (s, a)) are.ended
      ∙ sym (ap (list_any shows_end) (moments-more [] s a) ∙ any-more shows_end (moments s) (s, a));
  no_files = noted.no_files ∙ ap (λ b. b || opens_none kind.File a) are.no_files
      ∙ sym (any-more (opens_none kind.File) s a);
  no_directories = noted.no_directories ∙ ap (λ b. b || opens_none kind.Directory a) are.no_directories
      ∙ sym (any-more (opens_none kind.Directory) s a);
  highest = λ u. any-more (reads_request_from u) s a ∙ ap (λ b. b || reads_request_from u a) (are.highest u)
      ∙ ap (λ b. is_from u f.highest || b) (noted.reads u) ∙ sym (from_either u f.highest noted.read)
      ∙ ap (is_from u) (sym noted.highest);
}

highest_kept : (h : Option ℕ) → h ≡ highest_with h None
highest_kept None = refl
highest_kept (Some a) = refl

module _ (s : Session) (f : Flags) (shows : Bool) where
  pub noted_request : (opcode : Option Opcode) (u : ℕ) (h : Option ℕ) → is_forget opcode ≡ false → h ≡ highest_with f.highest (Some u)
      → shows ≡ shows_end (s, act.Read opcode u)
      → AreNoted s (act.Read opcode u) f record {
        began = true;
        agreed = f.agreed;
        max_write = f.max_write;
        has_several_readers = f.has_several_readers;
        has_several_writers = f.has_several_writers;
        has_resent = f.has_resent;
        ended = f.ended || shows;
        opens_no_files = f.opens_no_files;
        opens_no_directories = f.opens_no_directories;
        highest = h;
      }
  noted_request opcode u h not_forget new is = record {
    began = sym (or_true f.began);
    agreed = sym (or_false f.agreed);
    max_write = refl;
    several = sym (or_false f.has_several_readers);
    writers = sym (or_false f.has_several_writers);
    resent = sym (or_false f.has_resent);
    ended = ap (λ b. f.ended || b) is;
    no_files = sym (or_false f.opens_no_files);
    no_directories = sym (or_false f.opens_no_directories);
    read = Some u;
    reads = λ q. ap (λ b. not (nat_lt u q) && not b) not_forget ∙ and_true (not (nat_lt u q));
    highest = new;
  }

  pub noted_forget : (opcode : Option Opcode) (u : ℕ) → is_forget opcode ≡ true
      → shows ≡ shows_end (s, act.Read opcode u)
      → AreNoted s (act.Read opcode u) f record {
        began = true;
        agreed = f.agreed;
        max_write = f.max_write;
        has_several_readers = f.has_several_readers;
        has_several_writers = f.has_several_writers;
        has_resent = f.has_resent;
        ended = f.ended || shows;
        opens_no_files = f.opens_no_files;
        opens_no_directories = f.opens_no_directories;
        highest = f.highest;
      }
  noted_forget opcode u forget is = record {
    began = sym (or_true f.began);
    agreed = sym (or_false f.agreed);
    max_write = refl;
    several = sym (or_false f.has_several_readers);
    writers = sym (or_false f.has_several_writers);
    resent = sym (or_false f.has_resent);
    ended = ap (λ b. f.ended || b) is;
    no_files = sym (or_false f.opens_no_files);
    no_directories = sym (or_false f.opens_no_directories);
    read = None;
    reads = λ q. ap (λ b. not (nat_lt u q) && not b) forget ∙ and_false (not (nat_lt u q));
    highest = highest_kept f.highest;
  }

  pub noted_agreement : (most : ℕ) → shows ≡ shows_end (s, act.Agrees most)
      → AreNoted s (act.Agrees most) f record {
        began = f.began;
        agreed = true;
        max_write = Some most;
        has_several_readers = f.has_several_readers;
        has_several_writers = f.has_several_writers;
        has_resent = f.has_resent;
        ended = f.ended || shows;
        opens_no_files = f.opens_no_files;
        opens_no_directories = f.opens_no_directories;
        highest = f.highest;
      }
  noted_agreement most is = record {
    began = sym (or_false f.began);
    agreed = sym (or_true f.agreed);
    max_write = refl;
    several = sym (or_false f.has_several_readers);
    writers = sym (or_false f.has_several_writers);
    resent = sym (or_false f.has_resent);
    ended = ap (λ b. f.ended || b) is;
    no_files = sym (or_false f.opens_no_files);
    no_directories = sym (or_false f.opens_no_directories);
    read = None;
    reads = λ u. refl;
    highest = highest_kept f.highest;
  }

  pub noted_readers : shows ≡ shows_end (s, act.SeveralReaders)
      → AreNoted s (act.SeveralReaders) f record {
        began = f.began;
        agreed = f.agreed;
        max_write = f.max_write;
        has_several_readers = true;
        has_several_writers = f.has_several_writers;
        has_resent = f.has_resent;
        ended = f.ended || shows;
        opens_no_files = f.opens_no_files;
        opens_no_directories = f.opens_no_directories;
        highest = f.highest;
      }
  noted_readers is = record {
    began = sym (or_false f.began);
    agreed = sym (or_false f.agreed);
    max_write = refl;
    several = sym (or_true f.has_several_readers);
    writers = sym (or_false f.has_several_writers);
    resent = sym (or_false f.has_resent);
    ended = ap (λ b. f.ended || b) is;
    no_files = sym (or_false f.opens_no_files);
    no_directories = sym (or_false f.opens_no_directories);
    read = None;
    reads = λ u. refl;
    highest = highest_kept f.highest;
  }

  pub noted_writers : shows ≡ shows_end (s, act.SeveralWriters)
      → AreNoted s (act.SeveralWriters) f record {
        began = f.began;
        agreed = f.agreed;
        max_write = f.max_write;
        has_several_readers = f.has_several_readers;
        has_several_writers = true;
        has_resent = f.has_resent;
        ended = f.ended || shows;
        opens_no_files = f.opens_no_files;
        opens_no_directories = f.opens_no_directories;
        highest = f.highest;
      }
  noted_writers is = record {
    began = sym (or_false f.began);
    agreed = sym (or_false f.agreed);
    max_write = refl;
    several = sym (or_false f.has_several_readers);
    writers = sym (or_true f.has_several_writers);
    resent = sym (or_false f.has_resent);
    ended = ap (λ b. f.ended || b) is;
    no_files = sym (or_false f.opens_no_files);
    no_directories = sym (or_false f.opens_no_directories);
    read = None;
    reads = λ u. refl;
    highest = highest_kept f.highest;
  }

  pub noted_resend : shows ≡ shows_end (s, act.Resends)
      → AreNoted s (act.Resends) f record {
        began = f.began;
        agreed = f.agreed;
        max_write = f.max_write;
        has_several_readers = f.has_several_readers;
        has_several_writers = f.has_several_writers;
        has_resent = true;
        ended = f.ended || shows;
        opens_no_files = f.opens_no_files;
        opens_no_directories = f.opens_no_directories;
        highest = f.highest;
      }
  noted_resend is = record {
    began = sym (or_false f.began);
    agreed = sym (or_false f.agreed);
    max_write = refl;
    several = sym (or_false f.has_several_readers);
    writers = sym (or_false f.has_several_writers);
    resent = sym (or_true f.has_resent);
    ended = ap (λ b. f.ended || b) is;
    no_files = sym (or_false f.opens_no_files);
    no_directories = sym (or_false f.opens_no_directories);
    read = None;
    reads = λ u. refl;
    highest = highest_kept f.highest;
  }

  pub noted_no_files : shows ≡ shows_end (s, act.OpensNone kind.File)
      → AreNoted s (act.OpensNone kind.File) f record {
        began = f.began;
        agreed = f.agreed;
        max_write = f.max_write;
        has_several_readers = f.has_several_readers;
        has_several_writers = f.has_several_writers;
        has_resent = f.has_resent;
        ended = f.ended || shows;
        opens_no_files = true;
        opens_no_directories = f.opens_no_directories;
        highest = f.highest;
      }
  noted_no_files is = record {
    began = sym (or_false f.began);
    agreed = sym (or_false f.agreed);
    max_write = refl;
    several = sym (or_false f.has_several_readers);
    writers = sym (or_false f.has_several_writers);
    resent = sym (or_false f.has_resent);
    ended = ap (λ b. f.ended || b) is;
    no_files = sym (or_true f.opens_no_files);
    no_directories = sym (or_false f.opens_no_directories);
    read = None;
    reads = λ u. refl;
    highest = highest_kept f.highest;
  }

  pub noted_no_directories : shows ≡ shows_end (s, act.OpensNone kind.Directory)
      → AreNoted s (act.OpensNone kind.Directory) f record {
        began = f.began;
        agreed = f.agreed;
        max_write = f.max_write;
        has_several_readers = f.has_several_readers;
        has_several_writers = f.has_several_writers;
        has_resent = f.has_resent;
        ended = f.ended || shows;
        opens_no_files = f.opens_no_files;
        opens_no_directories = true;
        highest = f.highest;
      }
  noted_no_directories is = record {
    began = sym (or_false f.began);
    agreed = sym (or_false f.agreed);
    max_write = refl;
    several = sym (or_false f.has_several_readers);
    writers = sym (or_false f.has_several_writers);
    resent = sym (or_false f.has_resent);
    ended = ap (λ b. f.ended || b) is;
    no_files = sym (or_false f.opens_no_files);
    no_directories = sym (or_true f.opens_no_directories);
    read = None;
    reads = λ u. refl;
    highest = highest_kept f.highest;
  }

  pub noted_quiet : (a : Act) → LeavesFlags a → shows ≡ shows_end (s, a) → AreNoted s a f record {
    began = f.began;
    agreed = f.agreed;
    max_write = f.max_write;
    has_several_readers = f.has_several_readers;
    has_several_writers = f.has_several_writers;
    has_resent = f.has_resent;
    ended = f.ended || shows;
    opens_no_files = f.opens_no_files;
    opens_no_directories = f.opens_no_directories;
    highest = f.highest;
  }
  noted_quiet a leaves is = record {
    began = sym (ap (λ b. f.began || b) leaves.began ∙ or_false f.began);
    agreed = sym (ap (λ b. f.agreed || b) leaves.agreed ∙ or_false f.agreed);
    max_write = sym (ap (λ o. or_earlier o f.max_write) leaves.max_write);
    several = sym (ap (λ b. f.has_several_readers || b) leaves.several ∙ or_false f.has_several_readers);
    writers = sym (ap (λ b. f.has_several_writers || b) leaves.writers ∙ or_false f.has_several_writers);
    resent = sym (ap (λ b. f.has_resent || b) leaves.resent ∙ or_false f.has_resent);
    ended = ap (λ b. f.ended || b) is;
    no_files = sym (ap (λ b. f.opens_no_files || b) leaves.no_files ∙ or_false f.opens_no_files);
    no_directories = sym (ap (λ b. f.opens_no_directories || b) leaves.no_directories ∙ or_false f.opens_no_directories);
    read = None;
    reads = leaves.highest;
    highest = highest_kept f.highest;
  }

-- an act that makes nothing known, unless it shows the connection's end
pub others_leave : (a : Act) → ((opcode : Option Opcode) (u : ℕ) → a ≢ act.Read opcode u)
    → ((most : ℕ) → a ≢ act.Agrees most) → a ≢ act.SeveralReaders → a ≢ act.SeveralWriters → a ≢ act.Resends
    → ((k : OpenKind) → a ≢ act.OpensNone k) → LeavesFlags a
others_leave (act.Read opcode u) a b c d e f = absurd (a opcode u refl)
others_leave (act.Agrees most) a b c d e f = absurd (b most refl)
others_leave act.SeveralReaders a b c d e f = absurd (c refl)
others_leave act.SeveralWriters a b c d e f = absurd (d refl)
others_leave act.Resends a b c d e f = absurd (e refl)
others_leave (act.OpensNone k) a b c d e f = absurd (f k refl)
others_leave other a b c d e f = record {
  began = refl;
  agreed = refl;
  max_write = refl;
  several = refl;
  writers = refl;
  resent = refl;
  no_files = refl;
  no_directories = refl;
  highest = λ u. refl;
}

-- an act that leaves them as they are
pub flags-kept : (s : Session) (a : Act) (f : Flags) → LeavesFlags a → false ≡ shows_end (s, a) → AreFlags s f
    → AreFlags (s ++ a ∷ []) f
flags-kept s a f leaves not_ended are = record {
  began = are.began ∙ sym (any-more is_reading s a ∙ rw leaves.began (or_false _));
  agreed = are.agreed ∙ sym (any-more is_agreement s a ∙ rw leaves.agreed (or_false _));
  max_write = are.max_write ∙ sym (latest-more agreed_write s a ∙ rw leaves.max_write refl);
  several = are.several ∙ sym (any-more is_of_several s a ∙ rw leaves.several (or_false _));
  writers = are.writers ∙ sym (any-more is_of_writers s a ∙ rw leaves.writers (or_false _));
  resent = are.resent ∙ sym (any-more is_resend s a ∙ rw leaves.resent (or_false _));
  ended = are.ended ∙ sym (ap (list_any shows_end) (moments-more [] s a)
      ∙ any-more shows_end (moments s) (s, a) ∙ rw (← not_ended) (or_false _));
  no_files = are.no_files ∙ sym (any-more (opens_none kind.File) s a ∙ rw leaves.no_files (or_false _));
  no_directories = are.no_directories
      ∙ sym (any-more (opens_none kind.Directory) s a ∙ rw leaves.no_directories (or_false _));
  highest = λ u. any-more (reads_request_from u) s a ∙ rw (leaves.highest u) (or_false _) ∙ are.highest u;
}

-- Requests but INIT: what is a fault of them as they begin.
abbrev pub BeforeInit : Session → Fault → Type 0
BeforeInit s fault.RequestBeforeInit = IsFalse (has_agreed s)
BeforeInit s f = ⊥

pub not_init : (s : Session) (o : Opcode) (f : Fault) → o ≢ op.Init → BreaksBeginning s o f → BeforeInit s f
not_init s op.Init f ne b = absurd (ne refl)
not_init s o f ne b = b

pub is_before : (s : Session) (o : Opcode) (f : Fault) → o ≢ op.Init → BeforeInit s f → BreaksBeginning s o f
is_before s op.Init f ne b = absurd (ne refl)
is_before s o f ne b = b

only_before : (s : Session) (f : Fault) → BeforeInit s f → f ≡ fault.RequestBeforeInit
only_before s fault.RequestBeforeInit b = refl
only_before s f b = absurd b

pub is_before_init : (s : Session) (o : Opcode) → o ≢ op.Init → IsFalse (has_agreed s)
    → IsFault (BreaksBeginning s o) (Some fault.RequestBeforeInit)
is_before_init s o ne h f = (
  (λ e. subst (BreaksBeginning s o) (same_Some fault.RequestBeforeInit f e)
      (is_before s o fault.RequestBeforeInit ne h)),
  (λ b. ap Some (sym (only_before s f (not_init s o f ne b)))),
)

late : (s : Session) (f : Fault) → has_agreed s ≡ true → BeforeInit s f → ⊥
late s fault.RequestBeforeInit h b = true≢false (sym h ∙ b)
late s f h b = b

pub is_after_init : (s : Session) (o : Opcode) → o ≢ op.Init → has_agreed s ≡ true → IsFault (BreaksBeginning s o) None
is_after_init s o ne h f = ((λ e. absurd (none-some f e)), (λ b. absurd (late s f h (not_init s o f ne b))))
