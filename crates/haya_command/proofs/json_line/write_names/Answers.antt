use Rattle.std.proofs.Common.{◌≡◌, ◌∷◌, ◌++◌, [], ap, sym, ◌∙◌, append_assoc, rules}
use Rattle.std.specs.Prelude.{string_bytes}
use Rattle.std.proofs.lemmas.List.{map-append}
use Rattle.json.specs.Json as json
use Rattle.json.specs.Token as Token
use Rattle.json.specs.Tree.{members_tokens}
use Rattle.hayagriva.specs.Library.{key_of}
use Rattle.hayagriva.specs.Tree.{view}
use Rattle.haya_hits.specs.Line.{names_of}
use Rattle.haya_command.specs.Printed.{name_members}
use Rattle.haya_command.proofs.Written.{one_more_name}
use Rattle.haya_command.proofs.json_line.write_names.Goals as goal

pub loop-name-preserved : goal.loop-name-preserved
loop-name-preserved c =
    let name = string_bytes c.in-Some.name.now in
    let key = key_of (view c.in-Some.bound.now.now) in
    let out = c.loop-name.out.tokens in
    let written : c.string.new.self.tokens ≡ (out ++ Token.key name ∷ []) ++ Token.string key ∷ [] = search rules in
    let names : names_of (c.loop-name.yielded ++ (c.in-Some.name, c.in-Some.bound) ∷ []) ≡ names_of c.loop-name.yielded ++ (name, key) ∷ [] = map-append _ c.loop-name.yielded _ in (
      search rules,
      λ ms.
          ap (λ ts. ts ++ members_tokens ms) written
          ∙ append_assoc (out ++ Token.key name ∷ []) (Token.string key ∷ []) (members_tokens ms)
          ∙ append_assoc out (Token.key name ∷ []) (Token.string key ∷ members_tokens ms)
          ∙ c.loop-name.invariant.1 (json.member name (json.string key) ms)
          ∙ ap (λ more. c.begin_object.new.self.tokens ++ members_tokens more) (sym (ap (λ ns. name_members ns ms) names ∙ one_more_name (names_of c.loop-name.yielded) (name, key) ms)),
    )
