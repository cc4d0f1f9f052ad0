use Rattle.std.proofs.Common.{◌≡◌}
use Rattle.haya_bibtex_entries.proofs.TakenPlaces.{no_field, no_text}
use Rattle.haya_bibtex_entries.proofs.texts.Fields.may_have.Goals as goal

pub returns-clause-text : goal.returns-clause-text
returns-clause-text c = λ h.
    let whole : c.args.self.now ≡ c.self.inside.list.now = cc in
    rw whole (no_text c.self.inside.taken c.args.name.now c.place_of.result c.self.inside.list.now c.self.invariant.1 c.place_of.ensures.place h)

pub returns-clause-field : goal.returns-clause-field
returns-clause-field c = λ h.
    let whole : c.args.self.now ≡ c.self.inside.list.now = cc in
    rw whole (no_field c.self.inside.taken c.args.name.now c.place_of.result c.self.inside.list.now c.self.invariant.1 c.place_of.ensures.place h)
