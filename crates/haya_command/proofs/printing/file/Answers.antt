use Rattle.std.proofs.Common.{◌≡◌, ◌∙◌, ◌++◌, ◌∷◌, [], map, ap, arith}
use Rattle.std.specs.Prelude.{string_bytes}
use Rattle.json.specs.Lex.{tokens}
use Rattle.json.specs.Tree.{json_tokens}
use Rattle.hayagriva.specs.Query.{hit_entry}
use Rattle.haya_json.specs.Printed.{library_json}
use Rattle.haya_command.proofs.printing.file.Goals as goal

pub returns : goal.returns
returns c =
    let library = map hit_entry c.args.hits.now in
    let read : tokens c.as_str.result.now ≡ json_tokens (library_json library) = ap tokens c.as_str.ensures.value ∙ c.in_ok-json.ensures.json in
    c.in_ok-push.ensures.bytes
    ∙ ap (λ l. string_bytes c.text_of-text.result ++ l) (c.in_ok-push.ensures.ascii (omega arith))
    ∙ ap (λ l. l ++ 10 ∷ []) (c.text_of-text.ensures ∙ c.in_ok-lay_out.ensures.layout (library_json library) read)
