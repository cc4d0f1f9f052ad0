use Rattle.std.proofs.Common.{ap, ◌∙◌}
use Rattle.std.specs.Prelude.{option_map}
use Rattle.haya_entry.specs.Tree.{view}
use Rattle.hayagriva.specs.Library.{get, remove}
use Rattle.hayagriva.specs.Stored.{pairs_of}
use Rattle.hayagriva.proofs.Maps.{get-lookup, Fits-keyed_entries, entries-keyed_entries, pairs-remove}
use Rattle.hayagriva.proofs.library.Library.remove.Goals as goal

pub invariant_of-self : goal.invariant_of-self
invariant_of-self c =
    Fits-keyed_entries c.shift_remove.new.self.entries _ c.shift_remove.ensures.unique
    (ap pairs_of c.shift_remove.ensures.entries ∙ pairs-remove c.args.key.now c.self.inside.stored.entries c.self.invariant)

pub returns-clause-entry : goal.returns-clause-entry
returns-clause-entry c =
    ap (option_map view) c.shift_remove.ensures.value ∙ get-lookup c.args.key.now c.self.inside.stored.entries c.self.invariant ∙ ap (get c.args.key.now) c.self.view_is

pub returns-clause-rest : goal.returns-clause-rest
returns-clause-rest c =
    entries-keyed_entries c.shift_remove.new.self.entries _
    (ap pairs_of c.shift_remove.ensures.entries ∙ pairs-remove c.args.key.now c.self.inside.stored.entries c.self.invariant)
    ∙ ap (remove c.args.key.now) c.self.view_is
