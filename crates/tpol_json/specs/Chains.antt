-- The place that a chain of borrowed steps is.
use Rattle.tpol_json.specs.declared.place.Place.{Place}
use Rattle.tpol_json.specs.declared.place_ref.Chain.{Chain}
use Rattle.tpol_json.specs.declared.place_ref.Chain.TheVariants.{At, Member', Item'}
use Rattle.tpol_json.specs.Places.{at_member, at_item}

abbrev pub place_of : Chain → Place
place_of (At place) = place.now
place_of (Member' p above name) = at_member (place_of above) name.now
place_of (Item' p above index) = at_item (place_of above) index
