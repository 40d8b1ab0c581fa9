-- Events that join a past.
use Rattle.std.proofs.Common.{List, [], ◌∷◌}
use Rattle.xs_model.specs.declared.event.Event.{Event}

-- the past after more events, in their order
abbrev pub onto : List Event → List Event → List Event
onto [] past = past
onto (event ∷ events) past = onto events (event ∷ past)
