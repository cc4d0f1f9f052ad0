use Rattle.std.proofs.Common.{rules, ◌≡◌, None}
use Rattle.haya_text.specs.Printing.{text_display}
use Rattle.haya_csl.specs.Markup.{cut, markup_read}
use Rattle.haya_csl.proofs.Pieces.{plain_whole}
use Rattle.haya_csl.proofs.markup.plain_text.Goals as goal

pub returns-then-is_none : goal.returns-then-is_none
returns-then-is_none c =
    let none : cut 60 c.args.text.now ≡ None = search rules in
    let whole : text_display (markup_read c.args.text.now) ≡ c.args.text.now = plain_whole c.args.text.now none in
    search rules
