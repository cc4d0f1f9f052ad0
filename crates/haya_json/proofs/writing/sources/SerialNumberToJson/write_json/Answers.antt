use Rattle.std.proofs.Common.{rules, ◌≡◌, ◌++◌, ◌∷◌, [], ◌∙◌, None, Some, Option, List, ℕ, ap, sym, subst, option_map, append_assoc}
use Rattle.std.specs.Option.{option_to_list}
use Rattle.json.specs.Token.{Token}
use Rattle.json.specs.Tree.{json_tokens, members_tokens}
use Rattle.haya_entry.specs.SerialNumber.{only_serial, serial_entry, several_serials}
use Rattle.haya_json.specs.Printed.{serial_json, serial_members}
use Rattle.haya_json.proofs.writing.sources.SerialNumberToJson.write_json.Goals as goal
use Rattle.haya_json.proofs.writing.sources.SerialNumberToJson.write_json.Goals.{in-Some+in_ok-write_text, in_default}

pub returns-clause-value : goal.returns-clause-value
unfolding serial_json
returns-clause-value c =
    let s = c.args.self.now in
    let rest = members_tokens (serial_members (several_serials s)) in
    let all : c.end_object.new.self.tokens ≡ c.match-only.out.tokens ++ rest = search rules in
    let begun : (ts : List Token) → c.begin_object.new.self.tokens ++ ts ≡ c.args.out.now.tokens ++ Token.begin_object ∷ ts = λ ts. ap (λ (us : List Token). us ++ ts) c.in_ok-begin_object.ensures.ok ∙ append_assoc c.args.out.now.tokens (Token.begin_object ∷ []) ts in
    elim c.match-only.branch [
      | in-Some+in_ok-write_text w ↦
          let e = serial_entry w.in-Some.number.now in
          let only : only_serial s ≡ Some e = sym c.only.ensures ∙ ap (λ o. option_map (λ n. serial_entry n.now) o) w.in-Some.is in
          let text : c.match-only.out.tokens ++ rest ≡ c.args.out.now.tokens ++ json_tokens (serial_json (e ∷ several_serials s)) =
          rw w.out-is ((rw (w.as_str.ensures.value, w.as_str-in-Some.ensures.value) at w.in_ok-write_text.ensures.member (serial_members (several_serials s))) ∙ begun _) in
          subst (λ (o : Option (List ℕ × List ℕ)). c.end_object.new.self.tokens ≡ c.args.out.now.tokens ++ json_tokens (serial_json (option_to_list o ++ several_serials s))) (sym only) (all ∙ text)
      | in_default w ↦
          let none : only_serial s ≡ None = sym c.only.ensures ∙ ap (λ o. option_map (λ n. serial_entry n.now) o) w.in_default.is in
          let text : c.match-only.out.tokens ++ rest ≡ c.args.out.now.tokens ++ json_tokens (serial_json (several_serials s)) = search rules in
          subst (λ (o : Option (List ℕ × List ℕ)). c.end_object.new.self.tokens ≡ c.args.out.now.tokens ++ json_tokens (serial_json (option_to_list o ++ several_serials s))) (sym none) (all ∙ text)
    ]
