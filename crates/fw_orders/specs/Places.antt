-- Where an order stands, as the definitions have it.
use Rattle.fw_orders.specs.Following.{Place as PlaceValue, between, among}
use Rattle.fw_orders.specs.Saying.{step_of}
use Rattle.fw_orders.specs.declared.follow.Place.{Place}
use Rattle.fw_orders.specs.declared.follow.Place.TheVariants.{Between, Among}

abbrev pub place_of : Place → PlaceValue
place_of Between = between
place_of (Among due) = among (step_of due)
