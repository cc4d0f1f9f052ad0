-- What is printed of a value that is read isn't null.
use Rattle.std.proofs.Common.{◌≡◌, false, Result, Ok, refl}
use Rattle.json.specs.Json as json
use Rattle.json.specs.Json.{Json}
use Rattle.json.specs.Find.{is_null}
use Rattle.haya_json.specs.Refusal.{Refusal}
use Rattle.haya_json.specs.Parts.{plain_of}
use Rattle.haya_json.specs.Values.{format_of, person_of, persons_of, roles_of, affiliated_of, date_of, publisher_of, url_of, number_of, number_or_text_of, pages_or_text_of, range_or_text_of, duration_or_text_of, serials_of}

-- what is read isn't null
unfoldable pub RefusesNull : {V : Type 0} → (Json → Result V Refusal) → Type 0
RefusesNull {V} read = (v : V) → read json.null ≡ Ok v → ⊥

pub solid : {V : Type 0} (read : Json → Result V Refusal) (j : Json) (v : V) → RefusesNull read → read j ≡ Ok v → is_null j ≡ false
unfolding RefusesNull
solid read json.null v refuses is = absurd (refuses v is)
solid read (json.boolean b) v refuses is = refl
solid read (json.number s) v refuses is = refl
solid read (json.string s) v refuses is = refl
solid read (json.array js) v refuses is = refl
solid read (json.object ms) v refuses is = refl

pub format_of_null : RefusesNull format_of
unfolding RefusesNull format_of
format_of_null v is = cc

pub persons_of_null : RefusesNull persons_of
unfolding RefusesNull persons_of person_of
persons_of_null v is = cc

pub affiliated_of_null : RefusesNull affiliated_of
unfolding RefusesNull affiliated_of roles_of
affiliated_of_null v is = cc

pub date_of_null : RefusesNull date_of
unfolding RefusesNull date_of
date_of_null v is = cc

pub publisher_of_null : RefusesNull publisher_of
unfolding RefusesNull publisher_of
publisher_of_null v is = cc

pub url_of_null : RefusesNull url_of
unfolding RefusesNull url_of
url_of_null v is = cc

pub number_of_null : RefusesNull number_of
unfolding RefusesNull number_of
number_of_null v is = cc

pub number_or_text_of_null : RefusesNull number_or_text_of
unfolding RefusesNull number_or_text_of
number_or_text_of_null v is = cc

pub pages_or_text_of_null : RefusesNull pages_or_text_of
unfolding RefusesNull pages_or_text_of
pages_or_text_of_null v is = cc

pub range_or_text_of_null : RefusesNull range_or_text_of
unfolding RefusesNull range_or_text_of
range_or_text_of_null v is = cc

pub duration_or_text_of_null : RefusesNull duration_or_text_of
unfolding RefusesNull duration_or_text_of
duration_or_text_of_null v is = cc

pub serials_of_null : RefusesNull serials_of
unfolding RefusesNull serials_of
serials_of_null v is = cc

pub plain_of_null : RefusesNull plain_of
unfolding RefusesNull
plain_of_null v is = cc
