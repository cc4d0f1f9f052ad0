use Rattle.std.proofs.Common.{take}
use Rattle.std.specs.Prelude.{All}
use Rattle.hayagriva.specs.Syntax.{syntax}
use Rattle.haya_command.specs.Bound.{IsBindable}
use Rattle.haya_command.specs.Picks.{wanted}
use Rattle.haya_questions.specs.Place.{place_view}
use Rattle.haya_command.proofs.bound.check_places.Given as goal

-- the names so far can be bound
abbrev pub invariant-places : goal.invariant-places
invariant-places l = All (λ p. IsBindable (wanted l.invert (syntax l.selector)) (place_view p)) (take l.place-index l.places)
