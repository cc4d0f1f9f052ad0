use Rattle.std.proofs.Common.{◌++◌, ap, append-nil, refl, sym, ◌∙◌}
use Rattle.std.specs.Str.{chars}
use Rattle.std.proofs.lemmas.Str.{chars-nil}
use Rattle.haya_characters.proofs.Characters.{chars-cut}
use Rattle.haya_characters.proofs.lists.first_block.Goals as goal

pub returns-in-Some-clause-whole : goal.returns-in-Some-clause-whole
returns-in-Some-clause-whole c =
    chars-cut c.args.text.now _ _ c.lens.len c.utf8.text (c.in-Some.ensures.variant.0 refl) c.in-Some.ensures.front c.in-Some.ensures.back

pub returns-clause-whole : goal.returns-clause-whole
returns-clause-whole c =
    let text = chars c.args.text.now in
    sym (append-nil text) ∙ ap (λ l. text ++ l) (sym chars-nil)
