-- Each step, with what follows it.
use Rattle.std.proofs.Common.{◌≡◌, List, Option, MatchOption, ap, refl, subst, sym}
use Rattle.order_law.specs.Moments.{Begun}
use Rattle.order_search.specs.declared.choice.Standing.TheVariants.{Choosing, Ended, Lacking}
use Rattle.fw_orders.specs.Following.{Chooses, Follows, IsMissing, among, between}
use Rattle.fw_orders.specs.Places.{place_of}
use Rattle.fw_orders.specs.Saying.{acts_of, part_of, parts_of, step_of}
use Rattle.fw_orders.specs.declared.act.Act.{Act}
use Rattle.fw_orders.specs.declared.follow.Place.{Place}
use Rattle.fw_orders.proofs.Followed.{alone_then, at_choice, at_end, choice_then, group_then, if_ok, no_choice}
use Rattle.fw_orders.proofs.follow.+follow.Goals as goal

pub returns-in-None : goal.returns-in-None
returns-in-None g t c = subst (λ (p : Place).
    Follows c.args.moment.now (place_of p) (parts_of c.args.parts.now) c.args.choices.now Ended c.args.moment.now) (sym c.in-Between.is)
    (at_end c.args.moment.now c.args.moment.now c.args.parts.now c.args.choices.now refl c.in-None.ensures.cases)

pub returns-in_ok-carry-in-Some-Alone-default : goal.returns-in_ok-carry-in-Some-Alone-default
returns-in_ok-carry-in-Some-Alone-default g t c = if_ok
    (λ s. Follows c.carry.new.self between (parts_of c.in-Some-Alone-default.rest.now) c.args.choices.now s c.follow.new.moment)
    (λ s. Follows c.args.moment.now (place_of c.args.place) (parts_of c.args.parts.now) c.args.choices.now s c.follow.new.moment)
    c.follow.result
    (λ s more. subst (λ (p : Place).
    Follows c.args.moment.now (place_of p) (parts_of c.args.parts.now) c.args.choices.now s c.follow.new.moment) (sym c.in-Between.is)
    (alone_then c.args.moment.now c.carry.new.self c.follow.new.moment c.args.parts.now c.in-Some-Alone-default.rest.now c.in-Some-Alone-default.field-0-0.now c.in-Some-Alone-default.act
    c.args.choices.now s c.in-Some-Alone-default.ensures.cases.0 c.in-Some-Alone-default.field-0-0-is c.in_ok-carry-in-Some-Alone-default.ensures more))
    c.follow.ensures

pub returns-in_ok-begin-in-Some-Group-default : goal.returns-in_ok-begin-in-Some-Group-default
returns-in_ok-begin-in-Some-Group-default g t c = if_ok
    (λ s. Follows c.begin.new.moment (among (step_of c.in-Some-Group-default.step)) (parts_of c.in-Some-Group-default.rest.now) c.args.choices.now s c.follow-in-Some-Group-default.new.moment)
    (λ s. Follows c.args.moment.now (place_of c.args.place) (parts_of c.args.parts.now) c.args.choices.now s c.follow-in-Some-Group-default.new.moment)
    c.follow-in-Some-Group-default.result
    (λ s more. subst (λ (p : Place).
    Follows c.args.moment.now (place_of p) (parts_of c.args.parts.now) c.args.choices.now s c.follow-in-Some-Group-default.new.moment) (sym c.in-Between.is)
    (group_then c.args.moment.now c.begin.new.moment c.follow-in-Some-Group-default.new.moment c.args.parts.now c.in-Some-Group-default.rest.now c.in-Some-Group-default.field-0-0.now c.in-Some-Group-default.calls.items
    c.in-Some-Group-default.step c.args.choices.now s c.in-Some-Group-default.ensures.cases.0 (ap part_of c.in-Some-Group-default.field-0-0-is)
    (subst (λ (calls : List Act). Begun c.args.moment.now (acts_of calls) c.begin.new.moment) c.as_slice.ensures.value
    c.in_ok-begin-in-Some-Group-default.ensures) more))
    c.follow-in-Some-Group-default.ensures

pub returns-in-None-split_first : goal.returns-in-None-split_first
returns-in-None-split_first g t c = subst (λ (p : Place).
    Follows c.args.moment.now (place_of p) (parts_of c.args.parts.now) c.args.choices.now (Choosing c.is_some.result c.has_left.result) c.args.moment.now) (sym c.in-Among.is)
    (at_choice c.args.moment.now c.args.moment.now c.in-Among.due (parts_of c.args.parts.now) c.args.choices.now c.is_some.result c.has_left.result
    refl c.in-None-split_first.ensures.cases c.is_some.ensures c.has_left.ensures)

pub returns-in-Some-2 : goal.returns-in-Some-2
returns-in-Some-2 g t c = if_ok
    (λ s. Follows c.choose.new.moment (place_of c.in-Some-2.place) (parts_of c.args.parts.now) c.in-Some.rest.now s c.follow-in-Some-2.new.moment)
    (λ s. Follows c.args.moment.now (place_of c.args.place) (parts_of c.args.parts.now) c.args.choices.now s c.follow-in-Some-2.new.moment)
    c.follow-in-Some-2.result
    (λ s more. subst (λ (p : Place).
    Follows c.args.moment.now (place_of p) (parts_of c.args.parts.now) c.args.choices.now s c.follow-in-Some-2.new.moment) (sym c.in-Among.is)
    (choice_then c.args.moment.now c.choose.new.moment c.follow-in-Some-2.new.moment (step_of c.in-Among.due) (place_of c.in-Some-2.place)
    (parts_of c.args.parts.now) c.args.choices.now c.in-Some.rest.now c.in-Some.choice.now s c.in-Some.ensures.cases.0
    (subst (λ (o : Option Place).
    MatchOption o
    (IsMissing c.args.moment.now (step_of c.in-Among.due) c.in-Some.choice.now × (c.choose.new.moment ≡ c.args.moment.now))
    (λ p. Chooses c.args.moment.now (step_of c.in-Among.due) c.in-Some.choice.now c.choose.new.moment (place_of p)))
    c.in-Some-2.is c.in_ok-place-in-Some.ensures) more))
    c.follow-in-Some-2.ensures

pub returns-in-None-2 : goal.returns-in-None-2
returns-in-None-2 g t c = subst (λ (p : Place).
    Follows c.args.moment.now (place_of p) (parts_of c.args.parts.now) c.args.choices.now Lacking c.choose.new.moment) (sym c.in-Among.is)
    (no_choice c.args.moment.now c.choose.new.moment (step_of c.in-Among.due) (parts_of c.args.parts.now) c.args.choices.now
    c.in-Some.rest.now c.in-Some.choice.now c.in-Some.ensures.cases.0
    (subst (λ (o : Option Place).
    MatchOption o
    (IsMissing c.args.moment.now (step_of c.in-Among.due) c.in-Some.choice.now × (c.choose.new.moment ≡ c.args.moment.now))
    (λ p. Chooses c.args.moment.now (step_of c.in-Among.due) c.in-Some.choice.now c.choose.new.moment (place_of p)))
    c.in-None-2.is c.in_ok-place-in-Some.ensures))
