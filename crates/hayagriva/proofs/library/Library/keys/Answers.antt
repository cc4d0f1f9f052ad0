use Rattle.std.proofs.Common.{ap, ◌∙◌, map}
use Rattle.hayagriva.specs.Library.{key_of}
use Rattle.hayagriva.specs.Stored.{texts_of, entries_of}
use Rattle.hayagriva.proofs.Maps.{texts-keyed_entries}
use Rattle.hayagriva.proofs.library.Library.keys.Goals as goal

pub returns : goal.returns
returns c =
    c.new.ensures ∙ ap texts_of c.keys.ensures.rest ∙ texts-keyed_entries c.self.inside.stored.entries (entries_of c.self.inside.stored.entries) c.self.invariant.own_keys
    ∙ ap (map key_of) c.self.view_is
