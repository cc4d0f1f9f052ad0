use Rattle.haya_people.proofs.AnyAnswers.{either-right, lent_or}
use Rattle.std.proofs.Common.{◌≡◌, [], ◌++◌, ap, ◌∙◌, refl}
use Rattle.std.specs.Str.{chars}
use Rattle.std.specs.Prelude.{string_bytes, option_map, unwrap_or}
use Rattle.haya_people.specs.Orders.{name_characters}
use Rattle.haya_people.specs.Person.{person_view}
use Rattle.haya_people.proofs.order.is_cjk.Goals as goal

pub returns-else-some_char : goal.returns-else-some_char
returns-else-some_char g c =
    let given : c.unwrap_or-given_name.result.now ≡ unwrap_or (option_map string_bytes c.args.person.now.given_name) [] =
    ap (λ r. r.now) c.unwrap_or-given_name.ensures ∙ lent_or c.as_deref.result _ ∙ ap (λ o. unwrap_or o []) c.as_deref.ensures.value in
    let whole : name_characters (person_view c.args.person.now) ≡ chars c.as_str.result.now ++ chars c.unwrap_or-given_name.result.now = rw (c.as_str.ensures.value, given) refl in
    either-right (λ x b. g.P.Fn.post c.args.pred.now (x, tt) b) _ _ _ _ _ c.if-some_char.false whole c.some_char.ensures c.some_char-else-some_char.ensures
