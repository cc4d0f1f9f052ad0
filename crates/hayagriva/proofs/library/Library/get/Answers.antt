use Rattle.std.proofs.Common.{ap, ◌∙◌}
use Rattle.std.specs.Prelude.{option_map}
use Rattle.haya_entry.specs.Tree.{view}
use Rattle.hayagriva.specs.Library.{get}
use Rattle.haya_selectors.proofs.Options.{option_map-copied}
use Rattle.hayagriva.proofs.Maps.{get-lookup}
use Rattle.hayagriva.proofs.library.Library.get.Goals as goal

pub returns : goal.returns
returns c =
    option_map-copied view c.get.result ∙ ap (option_map view) c.get.ensures.value ∙ get-lookup c.args.key.now c.self.inside.stored.entries c.self.invariant ∙ ap (get c.args.key.now) c.self.view_is
