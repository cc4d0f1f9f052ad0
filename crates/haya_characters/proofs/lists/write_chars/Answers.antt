use Rattle.std.proofs.Common.{◌≡◌, sym, ◌∙◌}
use Rattle.std.specs.Str.{chars}
use Rattle.std.proofs.lemmas.Iterator.{YieldsList-from_chars}
use Rattle.std.proofs.lemmas.Iterator.Consumers.{YieldsList-end}
use Rattle.std.proofs.lemmas.List.{map-id}
use Rattle.haya_characters.proofs.lists.write_chars.Goals as goal

pub returns-clause-chars : goal.returns-clause-chars
returns-clause-chars c =
    let end = YieldsList-end (YieldsList-from_chars c.args.text.now c.utf8.text cc) c.chars.yielded _ c.chars.yielded_by _ _ c.in-None.is c.next.ensures.steps in
    let whole : c.chars.yielded ≡ chars c.args.text.now = sym (map-id c.chars.yielded) ∙ end.0 in
    c.chars.invariant.chars ∙ whole
