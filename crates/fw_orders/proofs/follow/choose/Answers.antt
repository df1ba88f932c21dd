use Rattle.fw_orders.specs.Saying.{step_of}
use Rattle.fw_orders.proofs.Followed.{answered, asked, gone_on, no_step_left, not_answered, not_asked, stepped}
use Rattle.fw_orders.proofs.follow.choose.Goals as goal

pub returns-in-true : goal.returns-in-true
returns-in-true g c = answered c.args.moment.now c.trip.new.self (step_of c.args.due) c.args.choice
    c.in-Trip-default.place c.in_ok-trip-in-Trip-default.field-0 c.in-Trip-default.is-0 c.in-true.is
    c.in_ok-trip-in-Trip-default.ensures

pub returns-in-false : goal.returns-in-false
returns-in-false g c = not_answered c.args.moment.now c.trip.new.self (step_of c.args.due) c.args.choice
    c.in-Trip-default.place c.in_ok-trip-in-Trip-default.field-0 c.in-Trip-default.is-0 c.in-false.is
    c.in_ok-trip-in-Trip-default.ensures

pub returns-in-true-2 : goal.returns-in-true-2
returns-in-true-2 g c = asked c.args.moment.now c.ask.new.self (step_of c.args.due) c.args.choice
    c.in-Ask-default.place c.in_ok-ask-in-Ask-default.field-0 c.in-Ask-default.is-0 c.in-true-2.is
    c.in_ok-ask-in-Ask-default.ensures

pub returns-in-false-2 : goal.returns-in-false-2
returns-in-false-2 g c = not_asked c.args.moment.now c.ask.new.self (step_of c.args.due) c.args.choice
    c.in-Ask-default.place c.in_ok-ask-in-Ask-default.field-0 c.in-Ask-default.is-0 c.in-false-2.is
    c.in_ok-ask-in-Ask-default.ensures

pub returns-in_ok-step-in-Step-Some : goal.returns-in_ok-step-in-Step-Some
returns-in_ok-step-in-Step-Some g c = stepped c.args.moment.now c.step.new.self c.args.due c.in-Step-Some.act
    c.args.choice c.in-Step-Some.is-0 c.in-Step-Some.is-1 c.in_ok-step-in-Step-Some.ensures

pub returns-in-Step-None : goal.returns-in-Step-None
returns-in-Step-None g c =
    no_step_left c.args.moment.now c.args.due c.args.choice c.in-Step-None.is-0 c.in-Step-None.is-1

pub returns-in-Over-default : goal.returns-in-Over-default
returns-in-Over-default g c =
    gone_on c.args.moment.now (step_of c.args.due) c.args.choice c.in-Over-default.is-0
