use Rattle.std.proofs.Common.{◌≡◌, None, sym, ap, ◌∙◌}
use Rattle.std.specs.Result.{result_ok}
use Rattle.haya_entry.specs.FieldName.{field_named}
use Rattle.haya_people.specs.Roles.{role_read}
use Rattle.haya_questions.proofs.PlaceLemmas.{none_from_err, nothing_found, role_found, some_from_ok}
use Rattle.haya_questions.proofs.place.field_or_role.Goals as goal

pub returns-in-Ok-parse : goal.returns-in-Ok-parse
returns-in-Ok-parse c =
    let word = c.args.word.now in
    let no_field : field_named word ≡ None = sym c.parse.ensures.value ∙ ap result_ok c.in_default.is in
    role_found word c.in-Ok-parse.role no_field (some_from_ok (role_read word) _ _ (sym c.parse-2.ensures.value ∙ c.in-Ok-parse.is))

pub returns-in-Err : goal.returns-in-Err
returns-in-Err c =
    let word = c.args.word.now in
    let no_field : field_named word ≡ None = sym c.parse.ensures.value ∙ ap result_ok c.in_default.is in
    nothing_found word no_field (none_from_err (role_read word) _ _ (sym c.parse-2.ensures.value ∙ c.in-Err.is))
