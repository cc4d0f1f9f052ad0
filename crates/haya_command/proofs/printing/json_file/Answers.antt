use Rattle.std.proofs.Common.{◌≡◌, ◌∙◌, ◌++◌, [], map, ap, rules}
use Rattle.json.specs.Lex.{tokens}
use Rattle.json.specs.Print.{print}
use Rattle.json.specs.Tree.{json_tokens}
use Rattle.hayagriva.specs.Query.{hit_entry}
use Rattle.haya_json.specs.Printed.{library_json}
use Rattle.haya_command.proofs.printing.json_file.Goals as goal

pub returns-clause-bytes : goal.returns-clause-bytes
returns-clause-bytes c =
    let library = map hit_entry c.args.hits.now in
    let written : c.end_object.new.self.tokens ≡ json_tokens (library_json library) = search rules in
    let empty : c.end_object.new.self.before ≡ [] = search rules in
    c.text_of.ensures ∙ c.into_inner.ensures.items ∙ ap (λ b. b ++ print c.end_object.new.self.tokens) empty ∙ ap print written

pub returns-clause-json : goal.returns-clause-json
returns-clause-json c =
    let written : c.end_object.new.self.tokens ≡ json_tokens (library_json (map hit_entry c.args.hits.now)) = search rules in
    ap tokens (c.text_of.ensures ∙ c.into_inner.ensures.items) ∙ search rules
