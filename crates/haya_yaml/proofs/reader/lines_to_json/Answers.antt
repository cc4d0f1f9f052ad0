use Rattle.std.proofs.Common.{◌≡◌, [], Some, true, sym, ap, ◌∙◌}
use Rattle.std.specs.Str.Lines.{lines}
use Rattle.haya_yaml.specs.Documents.{ended, is_printable, lines_value}
use Rattle.haya_yaml.specs.Line.{texts}
use Rattle.haya_yaml.specs.Saying.{said}
use Rattle.haya_yaml.proofs.Printed.{content_same}
use Rattle.haya_yaml.proofs.reader.lines_to_json.Goals as goal

pub returns-in-Ok-clause-json : goal.returns-in-Ok-clause-json
returns-in-Ok-clause-json c =
    let text = ended c.args.text.now in
    let new = c.write_text.new.out.writer.tokens in
    let same : texts c.as_slice.result.now ≡ lines text = ap texts c.as_slice.ensures.value ∙ c.in_ok-lines.ensures.lines ∙ ap lines c.ended-all.ensures in
    let clean : is_printable text ≡ true = ap is_printable (sym c.ended-all.ensures) ∙ c.in-Ok.ensures.ok.0 in
    let says : said [] (lines_value (lines text)) ≡ Some new =
    ap (λ ts. said ts (lines_value (lines text))) (sym c.new.ensures.tokens) ∙ ap (λ ls. said c.new.result.tokens (lines_value ls)) (sym same) ∙ c.in-Ok.ensures.ok.1 in
    content_same text c.finish.result.bytes.items new clean says c.finish.ensures.bytes c.finish.ensures.tokens
