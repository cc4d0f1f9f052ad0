use Rattle.std.proofs.Common.{◌∷◌, ◌++◌, [], ap, ◌∙◌}
use Rattle.std.specs.Prelude.{None, codes}
use Rattle.json.specs.Token as Token
use Rattle.json.specs.Tree.{json_tokens}
use Rattle.hayagriva.specs.Library.{key_of}
use Rattle.hayagriva.specs.Query.{hit_entry}
use Rattle.haya_hits.specs.Line.{names_of}
use Rattle.haya_json.specs.Printed.{json_of}
use Rattle.haya_command.specs.Printed.{names_json}
use Rattle.haya_command.proofs.Written.{all_appended}
use Rattle.haya_command.proofs.json_line.write_hit.Goals as goal

pub returns-clause-value : goal.returns-clause-value
returns-clause-value c =
    let entry = hit_entry c.args.hit.now in
    let names = json_tokens (names_json (names_of c.args.names.entries)) in
    c.in_ok-end_object.ensures.ok
    ∙ ap (λ ts. ts ++ Token.end_object ∷ []) (c.in_ok-write_entry.ensures.value
    ∙ ap (λ ts. ts ++ json_tokens (json_of None entry)) (c.in_ok-key-3.ensures.ok
    ∙ ap (λ ts. ts ++ Token.key (codes "entry") ∷ []) (c.in_ok-write_names.ensures.value
    ∙ ap (λ ts. ts ++ names) (c.in_ok-key-2.ensures.ok
    ∙ ap (λ ts. ts ++ Token.key (codes "bindings") ∷ []) (c.in_ok-string.ensures.ok ∙ ap (λ k. c.key.new.self.tokens ++ Token.string k ∷ []) c.key-2.ensures
    ∙ ap (λ ts. ts ++ Token.string (key_of entry) ∷ []) (c.in_ok-key.ensures.ok
    ∙ ap (λ ts. ts ++ Token.key (codes "key") ∷ []) c.in_ok-begin_object.ensures.ok))))))
    ∙ all_appended c.args.out.now.tokens _ _ _ _ names _ (json_tokens (json_of None entry)) _
