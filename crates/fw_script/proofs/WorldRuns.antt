-- The runs of a world, one after another.
use Rattle.std.proofs.Common.{◌≡◌, ◌++◌, ◌<◌, ℕ, Bool, List, [], ◌∷◌, length, map, take, suc, zero, refl, sym, ap, subst, ◌∙◌, append_assoc, arith}
use Rattle.std.specs.Prelude.{All}
use Rattle.std.proofs.lemmas.List.{append-nil, map-append}
use Rattle.std.proofs.lemmas.List.Elements.{All-nil, All-append, All-head, All-tail}
use Rattle.std.proofs.lemmas.List.Kept.{AllPairs-cons}
use Rattle.fuse_spec.specs.World.Worlds.{World}
use Rattle.fuse_spec.specs.World.Events.{Event as EventOf}
use Rattle.fuse_spec.specs.World.Records as recorded
use Rattle.fuse_spec.specs.Reference.Plain.{Plain}
use Rattle.fuse_spec.specs.Claim.Alike.{Alike}
use Rattle.fuse_spec.specs.Claim.Counts.{Protocol}
use Rattle.fuse_spec.specs.Claim.Runs.{AnswersApart, AnswersOnce, CallsEnd, EndsCall, IsOver, Run}
use Rattle.fw_script.specs.Scripts.{Prints, PrintsLine, no_line, next_line, nothing, event, nodes, world_machine}
use Rattle.fw_world.specs.declared.event.Event.{Event}
use Rattle.fw_world.specs.declared.record.Record.{Record}
use Rattle.fw_world.specs.Runs.{RunsAs, RunsEach, event_ran, no_event}
use Rattle.fw_world.specs.Values.{event_of, run_record_of}

-- ---- answers

-- a record of a first list and one of a later
ends_apart : (a b c : World) (x y : recorded.Record) → EndsCall a b x → EndsCall b c y → AnswersApart x y
ends_apart a b c (recorded.outcome o) y first later = tt
ends_apart a b c (recorded.refused r) y first later = tt
ends_apart a b c recorded.link_lost y first later = tt
ends_apart a b c (recorded.answered k u) (recorded.outcome o) first later = tt
ends_apart a b c (recorded.answered k u) (recorded.refused r) first later = tt
ends_apart a b c (recorded.answered k u) recorded.link_lost first later = tt
ends_apart a b c (recorded.answered k u) (recorded.answered j v) first later =
    λ same. later.0 (subst (λ (n : ℕ). IsOver b n) same first.1)

first_ends : (a b c : World) → ((call : ℕ) → IsOver b call → IsOver c call) → (x : recorded.Record)
    → EndsCall a b x → EndsCall a c x
first_ends a b c stay (recorded.outcome o) ends = tt
first_ends a b c stay (recorded.refused r) ends = tt
first_ends a b c stay recorded.link_lost ends = tt
first_ends a b c stay (recorded.answered k u) ends = (ends.0, stay k ends.1)

later_ends : (a b c : World) → ((call : ℕ) → IsOver a call → IsOver b call) → (x : recorded.Record)
    → EndsCall b c x → EndsCall a c x
later_ends a b c stay (recorded.outcome o) ends = tt
later_ends a b c stay (recorded.refused r) ends = tt
later_ends a b c stay recorded.link_lost ends = tt
later_ends a b c stay (recorded.answered k u) ends = (λ over. ends.0 (stay k over), ends.1)

pub once_then : (a b c : World) (xs ys : List recorded.Record) → AnswersOnce xs → AnswersOnce ys
    → All (EndsCall a b) xs → All (EndsCall b c) ys → AnswersOnce (xs ++ ys)
once_then a b c [] ys once later first ends = later
once_then a b c (x ∷ xs) ys once later first ends =
    AllPairs-cons AnswersApart x (xs ++ ys)
    (All-append (AnswersApart x) xs ys (λ j d within. once 0 (suc j) d (omega arith) (omega arith))
    (λ j d within. ends_apart a b c x _ (All-head (EndsCall a b) x xs first) (ends j d within)))
    (once_then a b c xs ys (λ i j d less within. once (suc i) (suc j) d (omega arith) (omega arith)) later
    (All-tail (EndsCall a b) x xs first) ends)

pub ends_then : (a b c : World) (xs ys : List recorded.Record) → CallsEnd a xs b → CallsEnd b ys c
    → CallsEnd a (xs ++ ys) c
ends_then a b c xs ys first later = record {
  ended =
      All-append (EndsCall a c) xs ys (λ j d within. first_ends a b c later.stay _ (first.ended j d within))
      (λ j d within. later_ends a b c first.stay _ (later.ended j d within));
  stay = λ call over. later.stay call (first.stay call over);
}

pub ends_none : (w : World) → CallsEnd w [] w
ends_none w = record { ended = All-nil (EndsCall w w); stay = λ call over. over }

-- ---- the plain world

Run-append : (events more : List EventOf) (w : World) (p : Plain) (rs : List recorded.Record) (mid : World) (q : Plain)
    (ss : List recorded.Record) (last : World) (r : Plain) → Run w p events rs mid q → Run mid q more ss last r
    → Run w p (events ++ more) (rs ++ ss) last r
Run-append [] more w p rs mid q ss last r (none, same, plain) next =
    subst (λ (x : World × Plain × List recorded.Record). Run x.0 x.1 more (x.2 ++ ss) last r)
    (λ i. (same i, plain i, sym none i)) next
Run-append (e ∷ events) more w p rs mid q ss last r (f, rest, m, plain, is, moves, run) next = (
  f,
  rest ++ ss,
  m,
  plain,
  ap (λ (l : List recorded.Record). l ++ ss) is ∙ append_assoc f rest ss,
  moves,
  Run-append events more m plain rest mid q ss last r run next,
)

-- ---- both

-- before the first of one event there is none
pub none_before : (k : ℕ) (e : Event) (events : List Event) → events ≡ e ∷ [] → k < length events
    → map event_of (take k events) ≡ []
none_before zero e events is within = subst (λ (es : List Event). map event_of (take 0 es) ≡ []) (sym is) refl
none_before (suc k) e events is within =
    let less : suc k < 1 = subst (λ (es : List Event). suc k < length es) is within in absurd (omega (arith, less))

-- where no event ran the world is the same
pub same_without : (old new : World) (events : List EventOf) (xs : List recorded.Record) (p : Plain)
    → RunsAs old events xs new → events ≡ [] → Alike old p → new ≡ old
same_without old new events xs p runs none alike =
    let ran = runs.plain_run p alike in
    let here : Run old p [] xs new ran.0 =
    subst (λ (es : List EventOf). Run old p es xs new ran.0) none ran.1 in
    here.1

pub runs_none : (w : World) → Protocol w → RunsAs w [] [] w
runs_none w keeps = record {
  plain_run = λ p alike. (p, (refl, refl, refl), alike);
  keeps = keeps;
  once = λ i j d less within. absurd (omega arith);
  ended = ends_none w;
}

-- A run and then another is one run.
pub runs_then : (a b c : World) (events more : List EventOf) (xs ys : List recorded.Record) → RunsAs a events xs b
    → RunsAs b more ys c → RunsAs a (events ++ more) (xs ++ ys) c
runs_then a b c events more xs ys first later = record {
  plain_run =
      λ p alike.
      let one = first.plain_run p alike in
      let two = later.plain_run one.0 one.2 in
      (two.0, Run-append events more a p xs b one.0 ys c two.0 one.1 two.1, two.2);
  keeps = later.keeps;
  once = once_then a b c xs ys first.once later.once first.ended.ended later.ended.ended;
  ended = ends_then a b c xs ys first.ended later.ended;
}

-- Of one event that ran.
pub one_of_each : {S A : Type 0} → (Runs : S → Event → List (Record A) → S → Type 0) (first last : S) (e : Event)
    (records : List (Record A)) → RunsEach Runs first (e ∷ []) records last → Runs first e records last
one_of_each {A = A} Runs first last e records (event_ran s x added next events others end ran (no_event t)) =
    subst (λ (xs : List (Record A)). Runs first e xs last) (sym (append-nil added)) ran

-- ---- what a script prints

line_runs : {A : Type 0} (hex : Bool) (old : World) (line : List ℕ) (events : List Event) (records : List (Record A))
    (text : List ℕ) (new : World) → Protocol old → PrintsLine (world_machine A) hex old line events records text new
    → RunsAs old (map event_of events) (map run_record_of records) new
line_runs hex old line events records text new keeps (nothing empty) = runs_none old keeps
line_runs hex old line events records text new keeps (event e added put last says ran is_put) = ran.runs
line_runs hex old line events records text new keeps (nodes shows) = runs_none old keeps

-- The records that lines print are those of one run of their events.
pub lines_run : {A : Type 0} (hex : Bool) (first : World) (lines : List (List ℕ)) (events : List Event)
    (records : List (Record A)) (text : List ℕ) (last : World) → Protocol first
    → Prints (world_machine A) hex first lines events records text last
    → RunsAs first (map event_of events) (map run_record_of records) last
lines_run hex first lines events records text last keeps no_line = runs_none first keeps
lines_run {A} hex first lines events records text last keeps
    (next_line before es rs t mid printed line more added new after next) =
    let one = lines_run hex first before es rs t mid keeps printed in
    let two = line_runs hex mid line more added new after one.keeps next in
    subst (λ (x : List EventOf × List recorded.Record). RunsAs first x.0 x.1 after)
    (λ i. (sym (map-append event_of es more) i, sym (map-append run_record_of rs added) i))
    (runs_then first mid after (map event_of es) (map event_of more) (map run_record_of rs) (map run_record_of added) one two)
