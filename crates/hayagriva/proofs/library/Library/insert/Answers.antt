use Rattle.std.proofs.Common.{ap, ◌∙◌}
use Rattle.haya_entry.specs.Tree.{view}
use Rattle.hayagriva.specs.Library.{push}
use Rattle.hayagriva.specs.Stored.{pairs_of}
use Rattle.hayagriva.proofs.Maps.{Fits-keyed_entries, entries-keyed_entries, pairs-insert}
use Rattle.hayagriva.proofs.library.Library.insert.Goals as goal

pub invariant_of-self-2 : goal.invariant_of-self-2
invariant_of-self-2 c =
    Fits-keyed_entries c.put.new.map.entries _ c.in_ok-put.ensures.unique
    (ap pairs_of c.in_ok-put.ensures.entries ∙ pairs-insert c.in_ok-key.key c.args.entry c.self.inside.stored.entries (c.in_ok-key.ensures.ok ∙ c.key.ensures) c.self.invariant)

pub returns-clause-ok : goal.returns-clause-ok
returns-clause-ok c =
    entries-keyed_entries c.put.new.map.entries _
    (ap pairs_of c.in_ok-put.ensures.entries ∙ pairs-insert c.in_ok-key.key c.args.entry c.self.inside.stored.entries (c.in_ok-key.ensures.ok ∙ c.key.ensures) c.self.invariant)
    ∙ ap (push (view c.args.entry)) c.self.view_is
