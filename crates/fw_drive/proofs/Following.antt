-- How the moves of a driven run follow one another.
use Rattle.std.proofs.Common.{codes, ◌≡◌, ◌<◌, ◌≤◌, ◌⊎◌, ◌||◌, Bool, true, false, not, cond, arith, length, slice_get, nat_eq, eq-eqb, filter, lit≤, ℕ, List, [], ◌∷◌, ◌++◌, None, Some, refl, sym, ap, subst, ◌∙◌, append-nil, append_assoc}
use Rattle.std.specs.Prelude.{All, IfErr, Option, Result, Ok, Err, OnOk}
use Rattle.std.specs.Io.KnownBytes.{Appends, Keeps as KeepsContents}
use Rattle.std.proofs.lemmas.List.Elements.{All-append, All-cons, All-nil, All-weaker}
use Rattle.fuse_spec.specs.declared.Refusal.{Refusal}
use Rattle.fuse_spec.specs.Kernel.Kernel.{Kernel}
use Rattle.fuse_spec.specs.Values.Maps.{Map, remove}
use Rattle.fk_syscalls.specs.declared.call.Answer.{Answer}
use Rattle.fuse_device.specs.Transfers.{Transfer}
use Rattle.fk_drive.specs.Driving.{Driven, DriveStep, Drives, DrivesOver, Runs, Turn, alone, first_driven, idle, next, nothing, waits, sets_aside, ends}
use Rattle.fk_drive.specs.KernelSteps.{ActsAlone, gives_answer}
use Rattle.fk_drive.specs.Steps.{IsReceiving, ReceiveStep}
use Rattle.fk_drive.specs.declared.end.DriveEnd.{DriveEnd}
use Rattle.fk_drive.specs.declared.end.NotSent.TheVariants.{Refused, Ended}
use Rattle.fk_drive.proofs.Drivings.{drives_on, one_step}
use Rattle.fk_drive.proofs.Sent.{picked_drives}
use Rattle.fk_drive.proofs.WrittenNext.{next_drives}
use Rattle.fuse_text.specs.Nodes.{nodes_text}
use Rattle.fw_script.specs.Records.{answer_text}
use Rattle.fk_lookup_count.specs.CountedNodes.{listed_counts}
use Rattle.fw_world.specs.declared.event.Event.{Event}
use Rattle.fw_world.specs.declared.event.Outcome.{Outcome}
use Rattle.fw_world.specs.Acts.{Acts}
use Rattle.fw_drive.specs.Findings.{Tells, Told, end_status, is_any_move_wrong, is_any_wrong, is_wrong_move}
use Rattle.fw_drive.specs.LineMoves.{FirstThen, IsCollected, IsMoveOf, LinesMoveAs, all_lines, first_move}
use Rattle.fw_drive.specs.Moves.{GoOn, IsBetween, IsDue, IsNote, IsSettled, Move, Moves, MovesOn, acts, sends, writes, collects, shows, notes, end_of, no_move, next_move}
use Rattle.fw_drive.specs.Notes.{Note, notes_text}
use Rattle.fw_drive.specs.Printed.{Gets, GetsAt, IsLineOf, IsTextOf, next_text, no_text}
use Rattle.fw_drive.specs.Runs.{Collects, EndsAs, Goes, GoesAlone, IsOwnStop, IsUnprinted, Keeps, IsStatusOf, IsStopStatus, NothingOver, RunsScript, SaysStop, StopsAt, at, by_itself, at_end, stop_of}
use Rattle.fuse_text.specs.Lines.{lines_of}
use Rattle.fw_drive.specs.Judging.{Say}
use Rattle.fw_drive.specs.declared.fault.Unanswered.{Unanswered}
use Rattle.fw_drive.specs.declared.form.Form.{Form}
use Rattle.fw_drive.specs.declared.line.DriveLine.{DriveLine}
use Rattle.fw_drive.specs.declared.line.DriveLine.TheVariants as line
use Rattle.fw_drive.specs.declared.stop.Stop.{Stop}
use Rattle.std.proofs.KnownBytes.{Appends-kept, Appends-trans, Appends-nil}
use Rattle.fw_drive.proofs.ActsAlone.{acts_alone}
use Rattle.fw_drive.proofs.Texts.{after_said, all_said, gets_all, gets_all_at, gets_then, moves_tell, one_wrong_then, or_false, own_result, said_collected, said_goes, said_moves, said_wrong, said_wrong_then, tells_nothing, tells_then, text_on, text_said, told_given}
use Rattle.fw_drive.specs.PrintingLaws.{or_assoc}

-- the kernel did something without its server
alone_drives : (old new : Driven) (k : Kernel) (log : List Transfer) → log ≡ [] → ActsAlone old.kernel k
    → new ≡ record old { kernel = k } → Drives old log new
alone_drives old new k log none does same =
    let one : Drives old [] (record old { kernel = k }) = one_step old (record old { kernel = k }) [] (alone k does) in
    subst (λ (l : List Transfer). Drives old l new) (sym none) (subst (λ (n : Driven). Drives old [] n) (sym same) one)

-- nothing happened
still_drives : (old new : Driven) (log : List Transfer) → log ≡ [] → new ≡ old → Drives old log new
still_drives old new log none same =
    subst (λ (l : List Transfer). Drives old l new) (sym none) (subst (λ (n : Driven). Drives old [] n) (sym same) nothing)

-- a move is driven
move_drives : {A : Type 0} (old : Driven) (move : Move A) (log : List Transfer) (new : Driven) → IsBetween old move
    → Moves old move log new → Drives old log new
move_drives old (acts e (Ok o)) log new is (none, does, same) =
    alone_drives old new new.kernel log none (acts_alone old.kernel e o new.kernel does) same
move_drives old (acts e (Err refusal)) log new is (none, same) = still_drives old new log none same
move_drives old (sends pick fields (Ok request)) log new is (picks, until) =
    picked_drives pick fields request old log new is picks
move_drives old (sends pick fields (Err (Refused refusal))) log new is (none, same) = still_drives old new log none same
move_drives old (sends pick fields (Err (Ended end))) log new is (request, picks, until) =
    picked_drives pick fields request old log new is picks
move_drives old (writes r) log new is goes = next_drives r old log new goes
move_drives old (collects call answer) log new is (none, first, same) =
    alone_drives old new _ log none (gives_answer call) same
move_drives old (shows nodes) log new is (none, counted, same) = still_drives old new log none same
move_drives old (notes note) log new is (none, same) = still_drives old new log none same

pub moves_drive : {A : Type 0} (old : Driven) (moves : List (Move A)) (log : List Transfer) (new : Driven)
    → MovesOn old moves log new → Drives old log new
moves_drive old _ _ _ no_move = nothing
moves_drive old _ _ _ (next_move moves before mid run move is due log new step) =
    drives_on old mid new before log (moves_drive old moves before mid run) (move_drives mid move log new is step)

-- one run of moves after another
pub moves_on : {A : Type 0} (a b c : Driven) (m n : List (Move A)) (h k : List Transfer) → MovesOn a m h b
    → MovesOn b n k c → MovesOn a (m ++ n) (h ++ k) c
moves_on {A} a b c m _ h _ one no_move =
    subst (λ (l : List Transfer). MovesOn a (m ++ []) l b) (sym (append-nil h))
    (subst (λ (n : List (Move A)). MovesOn a n h b) (sym (append-nil m)) one)
moves_on {A} a b c m _ h _ one (next_move moves before mid two move is due log new step) =
    subst (λ (n : List (Move A)). MovesOn a n (h ++ (before ++ log)) new) (append_assoc m moves (move ∷ []))
    (subst (λ (l : List Transfer). MovesOn a ((m ++ moves) ++ move ∷ []) l new) (append_assoc h before log)
    (next_move (m ++ moves) (h ++ before) mid (moves_on a b mid m moves h before one two) move is due log new step))

pub one_move : {A : Type 0} (a b : Driven) (move : Move A) (log : List Transfer) → IsBetween a move → IsDue a move
    → Moves a move log b → MovesOn a (move ∷ []) log b
one_move a b move log is due step = next_move [] [] a no_move move is due log b step

between_idle : {A : Type 0} (a : Driven) (move : Move A) → a.turn ≡ idle → IsBetween a move
between_idle a (notes note) is = tt
between_idle a move is = is

pub due_settled : {A : Type 0} (a : Driven) (move : Move A) → IsSettled a → IsDue a move
due_settled a (collects call answer) settled = tt
due_settled a (notes note) settled = tt
due_settled a move settled = settled

-- receiving changes nothing of the kernel
step_keeps : (old : Driven) (log : List Transfer) (new : Driven) (step : DriveStep old log new) → IsReceiving step
    → new.kernel ≡ old.kernel
step_keeps old _ _ (waits frame is) receives = refl
step_keeps old _ _ (sets_aside frame is) receives = refl
step_keeps old _ _ (ends end) receives = refl
step_keeps old log new step receives = absurd receives

pub receives_keep : (old : Driven) (log : List Transfer) (new : Driven) → Runs ReceiveStep old log new
    → new.kernel ≡ old.kernel
receives_keep old _ _ nothing = refl
receives_keep old _ _ (next before mid run log new step) =
    step_keeps mid log new step.1 step.2 ∙ receives_keep old before mid run

-- ---- ends

collected_goes : {A : Type 0} (move : Move A) → IsCollected move → end_of move ≡ None
collected_goes (collects call answer) is = refl
collected_goes (notes note) is = refl
collected_goes move is = absurd is

pub collected_go : {A : Type 0} (moves : List (Move A)) → All IsCollected moves → GoOn moves
collected_go moves all = All-weaker IsCollected (λ move. end_of move ≡ None) collected_goes moves all

pub went : {A T : Type 0} (r : Result T Stop) (moves : List (Move A)) → IfErr r IsOwnStop → GoOn moves → EndsAs r moves
went (Ok x) moves own go = go
went (Err stop) moves own go = by_itself go own

pub ends_then : {A T : Type 0} (m n : List (Move A)) (r : Result T Stop) → GoOn m → EndsAs r n → EndsAs r (m ++ n)
ends_then m n (Ok x) go more = All-append (λ move. end_of move ≡ None) m n go more
ends_then m n (Err stop) go (by_itself more own) = by_itself (All-append (λ move. end_of move ≡ None) m n go more) own
ends_then {A} m n (Err stop) go (at_end before last after is more said end ended why) =
    at_end (m ++ before) last after
    (ap (λ (k : List (Move A)). m ++ k) is ∙ sym (append_assoc m before (last ∷ after)))
    (All-append (λ move. end_of move ≡ None) m before go more) said end ended why

pub ended_at : {A : Type 0} (stop : Stop) (move : Move A) (after : List (Note A)) (end : DriveEnd)
    → end_of move ≡ Some end → (stop ≡ stop_of end) ⊎ IsUnprinted stop → StopsAt stop (move ∷ said_moves after)
ended_at stop move after end ended why =
    at_end [] move (said_moves after) refl (All-nil (λ move. end_of move ≡ None)) (all_said IsNote (λ note. tt) after) end
    ended why

pub on_any : {U : Type 0} (r : Result U Stop) (P : Type 0) → P → OnOk r P
on_any (Ok x) P holds = holds
on_any (Err stop) P holds = tt

-- something was said
pub said_on : {A : Type 0} (driver : Driven) (turn : Turn) (said : List (Note A))
    → MovesOn (at driver turn) (said_moves said) [] (at driver turn)
said_on driver turn [] = no_move
said_on driver turn (note ∷ said) =
    moves_on (at driver turn) (at driver turn) (at driver turn) (notes note ∷ []) (said_moves said) [] []
    (one_move (at driver turn) (at driver turn) (notes note) [] tt tt (refl, refl)) (said_on driver turn said)

-- a part of a call, which did not fail
abbrev pub Went : (A : Type 0) {D : Type 0} → (D → D → List Transfer → Type 0) → Form → D → D
    → (had has : Told) → Driven → Driven → (List (Move A) → Type 0) → Type 0
Went A logs f d e had has old new P = let r : Result (Unit {0}) Stop = Ok tt in Goes A logs f d e had has old new r P

module _ (A : Type 0) {D : Type 0} (logs : D → D → List Transfer → Type 0) (f : Form) where
  -- the same call, of whose moves less is said
  pub weaker : {T : Type 0} (d e : D) (had has : Told) (old new : Driven) (r : Result T Stop)
      (P Q : List (Move A) → Type 0) → Goes A logs f d e had has old new r P → ((m : List (Move A)) → P m → Q m)
      → Goes A logs f d e had has old new r Q
  weaker d e had has old new r P Q one less = record {
    moves = one.moves;
    are = less one.moves one.are;
    ends = one.ends;
    turn = one.turn;
    between = one.between;
    settled = one.settled;
    log = one.log;
    over = one.over;
    on = one.on;
    text = one.text;
    lines = one.lines;
    printed = one.printed;
    told = one.told;
  }

  -- what a call gave is given otherwise, or not at all
  pub given : {T U : Type 0} (d e : D) (had has : Told) (old new : Driven) (x : T) (r : Result U Stop)
      → IfErr r IsOwnStop → (P Q : List (Move A) → Type 0) → Goes A logs f d e had has old new (Ok x) P
      → ((m : List (Move A)) → P m → Q m) → Goes A logs f d e had has old new r Q
  given d e had has old new x r own P Q one less = record {
    moves = one.moves;
    are = less one.moves one.are;
    ends = went r one.moves own one.ends;
    turn = one.turn;
    between = on_any r (one.turn ≡ idle) one.between;
    settled = λ is. on_any r (IsSettled new) (one.settled is);
    log = one.log;
    over = one.over;
    on = one.on;
    text = one.text;
    lines = one.lines;
    printed = gets_all r had.0 has.0 one.text one.printed;
    told = told_given r had.1 has.1 (is_any_move_wrong one.moves) one.told;
  }

  -- what was printed before was handed on first
  pub kept_before : {T : Type 0} (d e : D) (had mid : Option (List ℕ)) (told : Bool) (has : Told) (old new : Driven)
      (r : Result T Stop) (P : List (Move A) → Type 0) → KeepsContents had mid
      → Goes A logs f d e (mid, told) has old new r P → Goes A logs f d e (had, told) has old new r P
  kept_before d e had mid told has old new r P keeps one = record {
    moves = one.moves;
    are = one.are;
    ends = one.ends;
    turn = one.turn;
    between = one.between;
    settled = one.settled;
    log = one.log;
    over = one.over;
    on = one.on;
    text = one.text;
    lines = one.lines;
    printed = gets_then r had mid has.0 [] one.text (Appends-kept had had mid [] (Appends-nil had) keeps) one.printed;
    told = one.told;
  }

  -- what was printed was handed on
  pub handed_on : {T U : Type 0} (d e : D) (had : Told) (mid has : Option (List ℕ)) (told : Bool) (old new : Driven) (x : T)
      (r : Result U Stop) → IfErr r IsOwnStop → (P Q : List (Move A) → Type 0)
      → Goes A logs f d e had (mid, told) old new (Ok x) P → KeepsContents mid has → ((m : List (Move A)) → P m → Q m)
      → Goes A logs f d e had (has, told) old new r Q
  handed_on d e had mid has told old new x r own P Q one keeps less = record {
    moves = one.moves;
    are = less one.moves one.are;
    ends = went r one.moves own one.ends;
    turn = one.turn;
    between = on_any r (one.turn ≡ idle) one.between;
    settled = λ is. on_any r (IsSettled new) (one.settled is);
    log = one.log;
    over = one.over;
    on = one.on;
    text = one.text;
    lines = one.lines;
    printed = gets_all r had.0 has one.text (Appends-kept had.0 mid has one.text one.printed keeps);
    told = told_given r had.1 told (is_any_move_wrong one.moves) one.told;
  }

  -- a call failed, and the one that made it
  pub failed : {T U : Type 0} (d e : D) (had has : Told) (old new : Driven) (stop : Stop)
      (P Q : List (Move A) → Type 0) → Goes A {T = T} logs f d e had has old new (Err stop) P
      → ((m : List (Move A)) → P m → Q m) → Goes A {T = U} logs f d e had has old new (Err stop) Q
  failed d e had has old new stop P Q one less = record {
    moves = one.moves;
    are = less one.moves one.are;
    ends = one.ends;
    turn = one.turn;
    between = tt;
    settled = λ is. tt;
    log = one.log;
    over = one.over;
    on = one.on;
    text = one.text;
    lines = one.lines;
    printed = one.printed;
    told = tt;
  }

  -- one move was made, before which something was said
  pub one_goes : {T : Type 0} (d e : D) (had has : Told) (old new : Driven) (turn : Turn)
      (said : List (Note A)) (move : Move A) (line : List ℕ) → IsLineOf f move line → (log : List Transfer)
      (First Rest : Move A → Type 0) → First move → logs d e log → Moves (at old idle) move log (at new turn)
      → (r : Result T Stop) → EndsAs r (move ∷ []) → OnOk r (turn ≡ idle) → (IsSettled old → OnOk r (IsSettled new))
      → Gets r had.0 has.0 (notes_text said ++ line) → is_wrong_move move ≡ false → Tells r had.1 has.1 (is_any_wrong said)
      → Goes A logs f d e had has old new r (FirstThen First Rest)
  one_goes d e had has old new turn said move line is log First Rest first over moves r came between settled printed right told = record {
    moves = said_moves said ++ move ∷ [];
    are = after_said First Rest said (move ∷ []) (first_move move first [] (All-nil Rest));
    ends = ends_then (said_moves said) (move ∷ []) r (said_goes said) came;
    turn = turn;
    between = between;
    settled = settled;
    log = log;
    over = over;
    on =
        λ waits. moves_on (at old idle) (at old idle) (at new turn) (said_moves said) (move ∷ []) [] log (said_on old idle said)
        (one_move (at old idle) (at new turn) move log (between_idle (at old idle) move refl) (due_settled (at old idle) move waits) moves);
    text = notes_text said ++ (line ++ []);
    lines =
        text_on f (said_moves said) (move ∷ []) (notes_text said) (line ++ []) (text_said f said)
        (next_text move line is [] [] no_text);
    printed =
        subst (λ (l : List ℕ). Gets r had.0 has.0 (notes_text said ++ l)) (sym (append-nil line)) printed;
    told =
        subst (λ (any : Bool). Tells r had.1 has.1 any)
        (sym (one_wrong_then said move [] right ∙ or_false (is_any_wrong said))) told;
  }

  -- one was made between requests, and others that do nothing with the device
  pub several : {T : Type 0} (d e : D) (had has : Told) (old mid new : Driven) (turn : Turn) (said : List (Note A))
      (move : Move A) (line : List ℕ) → IsLineOf f move line → (log : List Transfer) (First Rest : Move A → Type 0)
      → First move → logs d e log → Moves (at old idle) move log (at mid turn) → (more : List (Move A)) → All Rest more
      → MovesOn (at mid turn) more [] (at new turn) → (text : List ℕ) → IsTextOf f more text → (r : Result T Stop)
      → EndsAs r (move ∷ more) → OnOk r (turn ≡ idle) → (IsSettled old → OnOk r (IsSettled new))
      → Gets r had.0 has.0 (notes_text said ++ (line ++ text)) → is_wrong_move move ≡ false
      → Tells r had.1 has.1 (is_any_wrong said || is_any_move_wrong more)
      → Goes A logs f d e had has old new r (FirstThen First Rest)
  several d e had has old mid new turn said move line is log First Rest first over moves more are on text lines r came idles settled printed right told = record {
    moves = said_moves said ++ move ∷ more;
    are = after_said First Rest said (move ∷ more) (first_move move first more are);
    ends = ends_then (said_moves said) (move ∷ more) r (said_goes said) came;
    turn = turn;
    between = idles;
    settled = settled;
    log = log;
    over = over;
    on =
        λ waits. moves_on (at old idle) (at old idle) (at new turn) (said_moves said) (move ∷ more) [] log
        (said_on old idle said)
        (subst (λ (l : List Transfer). MovesOn (at old idle) (move ∷ more) l (at new turn)) (append-nil log)
        (moves_on (at old idle) (at mid turn) (at new turn) (move ∷ []) more log []
        (one_move (at old idle) (at mid turn) move log (between_idle (at old idle) move refl) (due_settled (at old idle) move waits)
        moves) on));
    text = notes_text said ++ (line ++ text);
    lines =
        text_on f (said_moves said) (move ∷ more) (notes_text said) (line ++ text) (text_said f said)
        (next_text move line is more text lines);
    printed = printed;
    told = subst (λ (any : Bool). Tells r had.1 has.1 any) (sym (one_wrong_then said move more right)) told;
  }

module _ (A : Type 0) {D : Type 0} (logs : D → D → List Transfer → Type 0)
    (goes_on : (first mid last : D) (h k : List Transfer) → logs first mid h → logs mid last k → logs first last (h ++ k))
    (f : Form) where
  -- one call after another
  pub then : {T U : Type 0} (d e g : D) (had got has : Told) (old mid new : Driven) (x : T) (r : Result U Stop)
      (P Q S : List (Move A) → Type 0) → Goes A logs f d e had got old mid (Ok x) P
      → Goes A logs f e g got has mid new r Q → ((m n : List (Move A)) → P m → Q n → S (m ++ n))
      → Goes A logs f d g had has old new r S
  then d e g had got has old mid new x r P Q S one two joins = record {
    moves = one.moves ++ two.moves;
    are = joins one.moves two.moves one.are two.are;
    ends = ends_then one.moves two.moves r one.ends two.ends;
    turn = two.turn;
    between = two.between;
    settled = λ is. two.settled (one.settled is);
    log = one.log ++ two.log;
    over = goes_on d e g one.log two.log one.over two.over;
    on =
        λ is. moves_on (at old idle) (at mid idle) (at new two.turn) one.moves two.moves one.log two.log
        (subst (λ (t : Turn). MovesOn (at old idle) one.moves one.log (at mid t)) one.between (one.on is))
        (two.on (one.settled is));
    text = one.text ++ two.text;
    lines = text_on f one.moves two.moves one.text two.text one.lines two.lines;
    printed = gets_then r had.0 got.0 has.0 one.text two.text one.printed two.printed;
    told = moves_tell r had.1 got.1 has.1 one.moves two.moves one.told two.told;
  }

module _ (A : Type 0) {D : Type 0} (logs : D → D → List Transfer → Type 0) (f : Form) where
  -- one was made, and then answers were collected
  pub collects_behind : {T : Type 0} (d e : D) (had has : Told) (old mid new : Driven) (turn : Turn)
      (said : List (Note A)) (move : Move A) (line : List ℕ) → IsLineOf f move line → (log : List Transfer)
      (First : Move A → Type 0) → First move → end_of move ≡ None → is_wrong_move move ≡ false → logs d e log
      → Moves (at old idle) move log (at mid turn) → turn ≡ idle → (r : Result T Stop)
      → Collects A f (notes_text said ++ line) (is_any_wrong said) had has mid new r
      → Goes A logs f d e had has old new r (FirstThen First IsCollected)
  collects_behind d e had has old mid new turn said move line says log First first none right over moves is r more =
      several A logs f d e had has old mid new idle said move line says log First IsCollected first over
      (subst (λ (t : Turn). Moves (at old idle) move log (at mid t)) is moves) more.moves more.are more.on more.text
      more.lines r
      (went r (move ∷ more.moves) (own_result r more.own)
      (All-cons (λ move. end_of move ≡ None) move more.moves none (collected_go more.moves more.are)))
      (on_any r (◌≡◌ {A = Turn} idle idle) refl) (λ waits. more.settled)
      (subst (λ (l : List ℕ). Gets r had.0 has.0 l) (append_assoc (notes_text said) line more.text) more.printed) right
      more.told

module _ (A : Type 0) {D : Type 0} (logs : D → D → List Transfer → Type 0) (stays : (d : D) → logs d d []) (f : Form) where
  -- nothing was done
  pub none_goes : {T : Type 0} (d : D) (had : Told) (driver : Driven) (r : Result T Stop) → IfErr r IsOwnStop
      → (P : List (Move A) → Type 0) → P [] → Goes A logs f d d had had driver driver r P
  none_goes d had driver r own P are = record {
    moves = [];
    are = are;
    ends = went r [] own (All-nil (λ move. end_of move ≡ None));
    turn = idle;
    between = on_any r (◌≡◌ {A = Turn} idle idle) refl;
    settled = λ is. on_any r (IsSettled driver) is;
    log = [];
    over = stays d;
    on = λ is. no_move;
    text = [];
    lines = no_text;
    printed = gets_all r had.0 had.0 [] (Appends-nil had.0);
    told = tells_nothing r had.1;
  }

  -- nothing more was printed
  pub unprinted : {T : Type 0} (d : D) (had has : Told) (driver : Driven) (s : Stop) → IsOwnStop s
      → KeepsContents had.0 has.0 → (P : List (Move A) → Type 0) → P []
      → Goes A {T = T} logs f d d had has driver driver (Err s) P
  unprinted d had has driver s own keeps P are = record {
    moves = [];
    are = are;
    ends = by_itself (All-nil (λ move. end_of move ≡ None)) own;
    turn = idle;
    between = tt;
    settled = λ is. tt;
    log = [];
    over = stays d;
    on = λ is. no_move;
    text = [];
    lines = no_text;
    printed = gets_all_at s had.0 has.0 [] (Appends-kept had.0 had.0 has.0 [] (Appends-nil had.0) keeps);
    told = tt;
  }

  -- what was done with no device
  pub lifts : {T : Type 0} (d : D) (had has : Told) (old new : Driven) (r : Result T Stop)
      (P : List (Move A) → Type 0) → GoesAlone A f had has old new r P → Goes A logs f d d had has old new r P
  lifts d had has old new r P one = record {
    moves = one.moves;
    are = one.are;
    ends = one.ends;
    turn = one.turn;
    between = one.between;
    settled = one.settled;
    log = one.log;
    over = subst (λ (l : List Transfer). logs d d l) (sym one.over) (stays d);
    on = one.on;
    text = one.text;
    lines = one.lines;
    printed = one.printed;
    told = one.told;
  }

  pub none_went : (d : D) (had : Told) (driver : Driven) (P : List (Move A) → Type 0) → P []
      → Went A logs f d d had had driver driver P
  none_went d had driver P are = none_goes d had driver (Ok tt) tt P are

  -- the nodes were shown, and something was said, but nothing wrong, or printing failed
  pub shows_nodes : {T : Type 0} (d : D) (had has : Option (List ℕ)) (told : Bool) (driver : Driven) (r : Result T Stop)
      → IfErr r IsUnprinted → (Rest : Move A → Type 0) (said : List (Note A)) → All Rest (said_moves said)
      → Gets r had has (nodes_text (codes "kernel") (listed_counts driver.kernel.nodes) ++ notes_text said)
      → is_any_wrong said ≡ false → Goes A logs f d d (had, told) (has, told) driver driver r (FirstThen (IsMoveOf line.Show) Rest)
  shows_nodes d had has told driver r own Rest said rest printed right =
      several A logs f d d (had, told) (has, told) driver driver driver idle [] (shows (listed_counts driver.kernel.nodes))
      (nodes_text (codes "kernel") (listed_counts driver.kernel.nodes)) refl [] (IsMoveOf line.Show) Rest tt (stays d)
      (refl, refl, refl) (said_moves said) rest (said_on driver idle said) (notes_text said) (text_said f said) r
      (went r (shows (listed_counts driver.kernel.nodes) ∷ said_moves said) (own_result r own)
      (All-cons (λ move. end_of move ≡ None) (shows (listed_counts driver.kernel.nodes)) (said_moves said) refl (said_goes said)))
      (on_any r (◌≡◌ {A = Turn} idle idle) refl) (λ is. on_any r (IsSettled driver) is) printed refl
      (subst (λ (any : Bool). Tells r told told any) (sym (said_wrong said ∙ right)) (tells_nothing r told))

-- ---- what is done with no device

pub nothing_on : (a b c : Unit {0}) (h k : List Transfer) → NothingOver a b h → NothingOver b c k → NothingOver a c (h ++ k)
nothing_on a b c h k one two = ap (λ (l : List Transfer). l ++ k) one ∙ two

pub nothing_stays : (a : Unit {0}) → NothingOver a a []
nothing_stays a = refl

-- what is driven stayed the same before it
pub kept_alone : (A : Type 0) (f : Form) {T : Type 0} (had has : Told) (old mid new : Driven)
    (r : Result T Stop) (P : List (Move A) → Type 0) → Keeps old mid → GoesAlone A f had has mid new r P
    → GoesAlone A f had has old new r P
kept_alone A f had has old mid new r P keeps one =
    let answers = ap (λ (d : Driven). d.kernel.vfs.answers) (keeps idle) in record {
      moves = one.moves;
      are = one.are;
      ends = one.ends;
      turn = one.turn;
      between = one.between;
      settled = λ is. one.settled (answers ∙ is);
      log = one.log;
      over = one.over;
      on = λ is. subst (λ (d : Driven). MovesOn d one.moves one.log (at new one.turn)) (keeps idle) (one.on (answers ∙ is));
      text = one.text;
      lines = one.lines;
      printed = one.printed;
      told = one.told;
    }

-- an event happened
pub acts_move : (A : Type 0) (old new : Driven) (e : Event) (o : Outcome) → Acts old.kernel e o new.kernel
    → new ≡ record old { kernel = new.kernel } → Moves {A = A} (at old idle) (acts e (Ok o)) [] (at new idle)
acts_move A old new e o does same = (refl, does, ap (λ (d : Driven). at d idle) same)

-- it was refused
pub refused_move : (A : Type 0) (old new : Driven) (e : Event) (refusal : Refusal) → new.kernel ≡ old.kernel
    → new ≡ record old { kernel = new.kernel } → Moves {A = A} (at old idle) (acts e (Err refusal)) [] (at new idle)
refused_move A old new e refusal kernel same =
    (refl, ap (λ (d : Driven). at d idle) (same ∙ ap (λ (k : Kernel). record old { kernel = k }) kernel))

-- one move was made, and the run goes on
pub one_went : {A T : Type 0} (r : Result T Stop) (move : Move A) → IfErr r IsOwnStop → end_of move ≡ None
    → EndsAs r (move ∷ [])
one_went r move own none =
    went r (move ∷ []) own (All-cons (λ move. end_of move ≡ None) move [] none (All-nil (λ move. end_of move ≡ None)))

-- something was said behind what was printed first, and nothing was collected, as something failed
pub said_alone : {A T : Type 0} (f : Form) (first : List ℕ) (is_first : Bool) (had has : Told) (driver : Driven) (stop : Stop)
    → IsUnprinted stop → (said : List (Note A)) → GetsAt stop had.0 has.0 (first ++ notes_text said)
    → Collects A {T = T} f first is_first had has driver driver (Err stop)
said_alone f first is_first had has driver stop own said printed = record {
  moves = said_moves said;
  are = said_collected said;
  own = own;
  settled = tt;
  on = said_on driver idle said;
  text = notes_text said;
  lines = text_said f said;
  printed = printed;
  told = tt;
}

-- nothing was collected, as something failed
pub none_collected : {A T : Type 0} (f : Form) (first : List ℕ) (is_first : Bool) (had has : Told) (driver : Driven)
    (stop : Stop) → IsUnprinted stop → GetsAt stop had.0 has.0 first
    → Collects A {T = T} f first is_first had has driver driver (Err stop)
none_collected f first is_first had has driver stop own printed =
    said_alone f first is_first had has driver stop own []
    (subst (λ (l : List ℕ). GetsAt stop had.0 has.0 l) (sym (append-nil first)) printed)

-- answers were collected, and another result is given
pub collects_given : {A T U : Type 0} (f : Form) (first : List ℕ) (is_first : Bool) (had mid has : Told) (old new : Driven)
    (x : T) (y : U) → Appends had.0 mid.0 first → mid.1 ≡ (had.1 || is_first)
    → Collects A f [] false mid has old new (Ok x) → Collects A f first is_first had has old new (Ok y)
collects_given {U} f first is_first had mid has old new x y before told one =
    let r : Result U Stop = Ok y in record {
      moves = one.moves;
      are = one.are;
      own = tt;
      settled = one.settled;
      on = one.on;
      text = one.text;
      lines = one.lines;
      printed = Appends-trans had.0 mid.0 has.0 first one.text before one.printed;
      told = tells_then r had.1 mid.1 has.1 is_first (is_any_move_wrong one.moves) told one.told;
    }

pub collects_failed : {A T U : Type 0} (f : Form) (first : List ℕ) (is_first : Bool) (had mid has : Told) (old new : Driven)
    (stop : Stop) → Appends had.0 mid.0 first → Collects A {T = T} f [] false mid has old new (Err stop)
    → Collects A {T = U} f first is_first had has old new (Err stop)
collects_failed {A} {T} f first is_first had mid has old new stop before one =
    let r : Result T Stop = Err stop in record {
      moves = one.moves;
      are = one.are;
      own = one.own;
      settled = tt;
      on = one.on;
      text = one.text;
      lines = one.lines;
      printed = gets_then r had.0 mid.0 has.0 first one.text before one.printed;
      told = tt;
    }

pub collects_after : {A T : Type 0} (f : Form) (first : List ℕ) (is_first : Bool) (had mid has : Told) (old new : Driven)
    (r : Result T Stop) → Appends had.0 mid.0 first → mid.1 ≡ (had.1 || is_first) → Collects A f [] false mid has old new r
    → Collects A f first is_first had has old new r
collects_after f first is_first had mid has old new (Ok x) before told one =
    collects_given f first is_first had mid has old new x x before told one
collects_after f first is_first had mid has old new (Err stop) before told one =
    collects_failed f first is_first had mid has old new stop before one

-- the last of what was printed first is what was said
pub said_within : {A T : Type 0} (f : Form) (had has : Told) (old new : Driven) (r : Result T Stop) (first : List ℕ)
    (is_first : Bool) (said : List (Note A))
    → Collects A f (first ++ notes_text said) (is_first || is_any_wrong said) had has old new r
    → Collects A f first is_first had has old new r
said_within f had has old new r first is_first said one = record {
  moves = said_moves said ++ one.moves;
  are = All-append IsCollected (said_moves said) one.moves (said_collected said) one.are;
  own = one.own;
  settled = one.settled;
  on =
      moves_on (at old idle) (at old idle) (at new idle) (said_moves said) one.moves [] [] (said_on old idle said) one.on;
  text = notes_text said ++ one.text;
  lines = text_on f (said_moves said) one.moves (notes_text said) one.text (text_said f said) one.lines;
  printed = subst (λ (l : List ℕ). Gets r had.0 has.0 l) (append_assoc first (notes_text said) one.text) one.printed;
  told =
      subst (λ (any : Bool). Tells r had.1 has.1 any)
      (or_assoc is_first (is_any_wrong said) (is_any_move_wrong one.moves)
      ∙ ap (λ (any : Bool). is_first || any) (sym (said_wrong_then said one.moves))) one.told;
}

-- some were collected
pub record Collected (A : Type 0) (f : Form) (had has : Told) (old new : Driven) : Type 0 where
  pub moves : List (Move A)
  pub are : All IsCollected moves
  pub on : MovesOn (at old idle) moves [] (at new idle)
  pub text : List ℕ
  pub lines : IsTextOf f moves text
  pub printed : Appends had.0 has.0 text
  pub told : has.1 ≡ (had.1 || is_any_move_wrong moves)

pub none_yet : {A : Type 0} (f : Form) (had : Told) (driver : Driven) → Collected A f had had driver driver
none_yet f had driver = record {
  moves = [];
  are = All-nil IsCollected;
  on = no_move;
  text = [];
  lines = no_text;
  printed = Appends-nil had.0;
  told = sym (or_false had.1);
}

-- an answer and what is said behind it
abbrev pub answer_moves : {A : Type 0} → ℕ → Answer A → List (Note A) → List (Move A)
answer_moves call answer said = collects call answer ∷ said_moves said

answer_on : {A : Type 0} (mid new : Driven) (call : ℕ) (answer : Answer A) (said : List (Note A))
    → Moves (at mid idle) (collects call answer) [] (at new idle)
    → MovesOn (at mid idle) (answer_moves call answer said) [] (at new idle)
answer_on mid new call answer said collected =
    moves_on (at mid idle) (at new idle) (at new idle) (collects call answer ∷ []) (said_moves said) [] []
    (one_move (at mid idle) (at new idle) (collects call answer) [] refl tt collected) (said_on new idle said)

answer_line : {A : Type 0} (f : Form) (call : ℕ) (answer : Answer A) (said : List (Note A))
    → IsTextOf f (answer_moves call answer said) (answer_text call answer ++ notes_text said)
answer_line f call answer said =
    next_text (collects call answer) (answer_text call answer) refl (said_moves said) (notes_text said) (text_said f said)

pub one_more : {A : Type 0} (f : Form) (had got has : Told) (old mid new : Driven) (call : ℕ)
    (answer : Answer A) (said : List (Note A)) → Collected A f had got old mid
    → Moves (at mid idle) (collects call answer) [] (at new idle)
    → Appends got.0 has.0 (answer_text call answer ++ notes_text said) → has.1 ≡ (got.1 || is_any_wrong said)
    → Collected A f had has old new
one_more f had got has old mid new call answer said one collected more told = record {
  moves = one.moves ++ answer_moves call answer said;
  are =
      All-append IsCollected one.moves (answer_moves call answer said) one.are
      (All-cons IsCollected (collects call answer) (said_moves said) tt (said_collected said));
  on =
      moves_on (at old idle) (at mid idle) (at new idle) one.moves (answer_moves call answer said) [] [] one.on
      (answer_on mid new call answer said collected);
  text = one.text ++ (answer_text call answer ++ notes_text said);
  lines =
      text_on f one.moves (answer_moves call answer said) one.text (answer_text call answer ++ notes_text said) one.lines
      (answer_line f call answer said);
  printed = Appends-trans had.0 got.0 has.0 one.text (answer_text call answer ++ notes_text said) one.printed more;
  told =
      (let r : Result (Unit {0}) Stop = Ok tt in
      moves_tell r had.1 got.1 has.1 one.moves (answer_moves call answer said) one.told
      (subst (λ (any : Bool). has.1 ≡ (got.1 || any)) (sym (said_wrong said)) told));
}

-- none waits any more
pub all_collected : {A T : Type 0} (f : Form) (had has : Told) (old mid new : Driven) (x : T)
    → Collected A f had has old mid → new ≡ mid → IsSettled mid → Collects A f [] false had has old new (Ok x)
all_collected f had has old mid new x one same none = record {
  moves = one.moves;
  are = one.are;
  own = tt;
  settled = ap (λ (d : Driven). d.kernel.vfs.answers) same ∙ none;
  on = subst (λ (d : Driven). MovesOn (at old idle) one.moves [] (at d idle)) (sym same) one.on;
  text = one.text;
  lines = one.lines;
  printed = one.printed;
  told = one.told;
}

-- or one could not be printed
pub some_collected : {A T : Type 0} (f : Form) (had got has : Told) (old mid new : Driven) (call : ℕ)
    (answer : Answer A) (said : List (Note A)) (stop : Stop) → IsUnprinted stop → Collected A f had got old mid
    → Moves (at mid idle) (collects call answer) [] (at new idle)
    → GetsAt stop got.0 has.0 (answer_text call answer ++ notes_text said)
    → Collects A {T = T} f [] false had has old new (Err stop)
some_collected {A} {T} f had got has old mid new call answer said stop own one collected more =
    let r : Result T Stop = Err stop in record {
      moves = one.moves ++ answer_moves call answer said;
      are =
          All-append IsCollected one.moves (answer_moves call answer said) one.are
          (All-cons IsCollected (collects call answer) (said_moves said) tt (said_collected said));
      own = own;
      settled = tt;
      on =
          moves_on (at old idle) (at mid idle) (at new idle) one.moves (answer_moves call answer said) [] [] one.on
          (answer_on mid new call answer said collected);
      text = one.text ++ (answer_text call answer ++ notes_text said);
      lines =
          text_on f one.moves (answer_moves call answer said) one.text (answer_text call answer ++ notes_text said) one.lines
          (answer_line f call answer said);
      printed = gets_then r had.0 got.0 has.0 one.text (answer_text call answer ++ notes_text said) one.printed more;
      told = tt;
    }

filter_short : {X : Type 0} (p : X → Bool) (xs : List X) → length (filter p xs) ≤ length xs
filter_short p [] = lit≤ tt
filter_short p (x ∷ xs) =
    let short = filter_short p xs in
    elim (p x) as (λ b. length (cond b (x ∷ filter p xs) (filter p xs)) ≤ length (x ∷ xs)) [
      | true ↦ omega (arith, short)
      | false ↦ omega (arith, short)
    ]

-- one fewer waits
pub fewer : {X : Type 0} (m : Map X) (call : ℕ) (x : X) → slice_get m 0 ≡ Some (call, x)
    → length (remove m call) < length m
fewer [] call x first = absurd (cc first)
fewer {X} (e ∷ m) call x first =
    let same : e ≡ (call, x) = cc first in
    let key : e.0 ≡ call = ap (λ (p : ℕ × X). p.0) same in
    let short = filter_short (λ (p : ℕ × X). not (nat_eq p.0 call)) m in
    let is : nat_eq e.0 call ≡ true = eq-eqb e.0 call key in
    let drops : remove (e ∷ m) call ≡ remove m call =
    ap (λ (b : Bool). cond (not b) (e ∷ remove m call) (remove m call)) is in
    omega (arith, short, ap length drops)

-- ---- the whole run

-- What went over the device is driven.
pub goes_drive : (A : Type 0) {D T : Type 0} (logs : D → D → List Transfer → Type 0) (f : Form) (d e : D)
    (had has : Told) (old last : Driven) (r : Result T Stop) (P : List (Move A) → Type 0) → at old idle ≡ old
    → IsSettled old → Goes A logs f d e had has old last r P → (new : Driven) × DrivesOver logs d e old new
goes_drive A logs f d e had has old last r P first settled goes = (
  at last goes.turn,
  (
    goes.log,
    goes.over,
    subst (λ (s : Driven). Drives s goes.log (at last goes.turn)) first
        (moves_drive (at old idle) goes.moves goes.log (at last goes.turn) (goes.on settled)),
  ),
)

-- The status of a run is that of its moves.
pub status_is : {A : Type 0} (is_report_only told : Bool) (moves : List (Move A)) (r : Result (Unit {0}) Stop) (status : ℕ)
    → Tells r false told (is_any_move_wrong moves) → OnOk r (status ≡ end_status is_report_only told)
    → IfErr r (λ stop. IsStopStatus stop status) → IsStatusOf is_report_only moves r status
status_is is_report_only told moves (Ok x) status tells ok err =
    ok ∙ ap (λ (any : Bool). end_status is_report_only any) tells
status_is is_report_only told moves (Err stop) status tells ok err = err

-- A script was run whose lines are known.
pub runs_script : (A : Type 0) {D : Type 0} (logs : D → D → List Transfer → Type 0) (d e : D)
    (had : Option (List ℕ)) (got : Told) (has : Option (List ℕ)) (f : Form) (asks is_report_only : Bool) (script : List ℕ)
    (said given_lines : List DriveLine) → given_lines ≡ said → Say f (lines_of script) said → (r : Result (Unit {0}) Stop)
    (status : ℕ) → OnOk r (status ≡ end_status is_report_only got.1) → IfErr r (λ stop. IsStopStatus stop status)
    → (unanswered : Option Unanswered) → SaysStop A unanswered r status got.0 has
    → (last : Driven) × Goes A logs f d e (had, false) got (first_driven asks) last r (LinesMoveAs f r (all_lines f given_lines))
    → RunsScript A logs d e had has f asks is_report_only status script
runs_script A logs d e had got has f asks is_report_only script said given_lines same say r status ok err unanswered says (last, goes) =
    let all =
    subst (λ (l : List DriveLine). Goes A logs f d e (had, false) got (first_driven asks) last r (LinesMoveAs f r (all_lines f l)))
    same goes in record {
      said = said;
      say = say;
      ended = r;
      last = last;
      got = got;
      goes = all;
      is = status_is is_report_only got.1 all.moves r status all.told ok err;
      waits = unanswered;
      says = says;
    }
