use Rattle.std.proofs.Common.{◌≡◌, ◌++◌, flat_map, sym, ap, ◌∙◌}
use Rattle.std.specs.Prelude.{string_bytes}
use Rattle.std.specs.Str.{chars}
use Rattle.std.proofs.lemmas.Iterator.{YieldsList-from_chars}
use Rattle.std.proofs.lemmas.Iterator.Consumers.{YieldsList-end}
use Rattle.std.proofs.lemmas.List.{map-id}
use Rattle.haya_questions.specs.Columns.{csv_char}
use Rattle.haya_questions.proofs.columns.push_doubled.Goals as goal

pub returns : goal.returns
returns c =
    let text = c.args.text.now in
    let end = YieldsList-end (YieldsList-from_chars text c.utf8.text cc) c.characters.yielded _ c.characters.yielded_by _ _ c.in-None.is c.next.ensures.steps in
    let whole : c.characters.yielded ≡ chars text = sym (map-id c.characters.yielded) ∙ end.0 in
    c.characters.invariant ∙ ap (λ l. string_bytes c.args.cell.now ++ flat_map csv_char l) whole
