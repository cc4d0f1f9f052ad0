-- What words and texts name.
use Rattle.std.proofs.Common.{◌≡◌, ℕ, List, Option, None, Some, Ok, Err, refl, ap, sym, ◌∙◌}
use Rattle.std.specs.Prelude.{ok_or, option_map}
use Rattle.std.specs.Option.{option_or}
use Rattle.haya_people.specs.Roles.{role_read, role_view}
use Rattle.haya_people.specs.declared.role.PersonRole.{PersonRole}
use Rattle.haya_entry.specs.FieldName.{field_named}
use Rattle.haya_questions.specs.Place.{FieldPart, PartView, RolePart, field_or_role, part_named, place_of, place_read, place_words}

pub some_from_ok : {A E : Type 0} (o : Option A) (e : E) (x : A) → ok_or o e ≡ Ok x → o ≡ Some x
some_from_ok None e x h = cc
some_from_ok (Some y) e x h = let same : y ≡ x = cc in ap Some same

pub none_from_err : {A E : Type 0} (o : Option A) (e f : E) → ok_or o e ≡ Err f → o ≡ None
none_from_err None e f h = refl
none_from_err (Some y) e f h = cc

-- the role of a word that names no field
pub role_found : (word : List ℕ) (role : PersonRole) → field_named word ≡ None → role_read word ≡ Some role → Some (RolePart (role_view role)) ≡ field_or_role word
role_found word role none some =
    sym (ap (λ o. option_or (option_map FieldPart o) (option_map (λ r. RolePart (role_view r)) (role_read word))) none
    ∙ ap (option_map (λ r. RolePart (role_view r))) some)

-- a word that names neither
pub nothing_found : (word : List ℕ) → field_named word ≡ None → role_read word ≡ None → None ≡ field_or_role word
nothing_found word none neither =
    sym (ap (λ o. option_or (option_map FieldPart o) (option_map (λ r. RolePart (role_view r)) (role_read word))) none
    ∙ ap (option_map (λ r. RolePart (role_view r))) neither)

pub place_found : (text : List ℕ) (name : Option (List ℕ)) (part : PartView) → (place_words text).0 ≡ name → part_named (place_words text).1 ≡ Some part
    → place_read text ≡ Some (place_of name part)
unfolding place_read
place_found text name part named found =
    ap (λ n. option_map (place_of n) (part_named (place_words text).1)) named ∙ ap (option_map (place_of name)) found

pub no_place : (text : List ℕ) → part_named (place_words text).1 ≡ None → place_read text ≡ None
unfolding place_read
no_place text none = ap (option_map (place_of (place_words text).0)) none
