-- What the members of an object and the items of an array read as.
use Rattle.std.specs.Prelude.{ℕ, ◌+◌, Bool, true, false, List, [], ◌∷◌, Option, None, Some, ok_or, unwrap_or, Result, Ok, if◌then◌else◌}
use Rattle.json.specs.Json as json
use Rattle.json.specs.Json.{Json, Items}
use Rattle.json.specs.Find.{get, is_null, as_bool, as_number}
use Rattle.haya_json.specs.Refusal.{Refusal, here, refused, within, and_then, to_member, to_item}
use Rattle.haya_json.specs.Whole.{whole_read}
use Rattle.haya_json.specs.declared.fault.Why.{Why}
use Rattle.haya_json.specs.declared.fault.Why.TheVariants.{NotText, NotTruth, NotWhole, Missing}
use Rattle.std.specs.Prelude.{ℤ, option_and_then}

-- ---- texts and numbers

-- the text of a value; a number stands for the text that it is written as
abbrev pub text_in : Json → Option (List ℕ)
text_in (json.string s) = Some s
text_in (json.number s) = Some s
text_in _ = None

abbrev pub bytes_of : Json → Result (List ℕ) Refusal
bytes_of j = ok_or (text_in j) (here NotText)

-- what a reader of texts reads, if it reads the text
abbrev pub read_by : {V : Type 0} → Why → (List ℕ → Option V) → Json → Result V Refusal
read_by why reads j = and_then (bytes_of j) (λ text. ok_or (reads text) (here why))

-- the text as it stands
abbrev pub plain_of : Json → Result (List ℕ) Refusal
plain_of j = bytes_of j

-- a number without a fraction or an exponent
abbrev pub whole_of : Json → Result ℤ Refusal
whole_of j = ok_or (option_and_then whole_read (as_number j)) (here NotWhole)

abbrev pub truth_of : Json → Result Bool Refusal
truth_of j = ok_or (as_bool j) (here NotTruth)

-- ---- the parts of an object

abbrev pub is_object : Json → Bool
is_object (json.object ms) = true
is_object _ = false

-- a member, but where it is null
abbrev pub unless_null : Option Json → Option Json
unless_null None = None
unless_null (Some j) = if is_null j then None else Some j

-- the member with this name, if there is one and it isn't null
abbrev pub member_of : List ℕ → Json → Option Json
member_of name j = unless_null (get name j)

-- what a member that has to be there reads as
abbrev pub needed_in : {V : Type 0} → (Json → Result V Refusal) → Option Json → Result V Refusal
needed_in read None = refused Missing
needed_in read (Some j) = read j

abbrev pub needed : {V : Type 0} → List ℕ → (Json → Result V Refusal) → Json → Result V Refusal
needed name read j = within (to_member name) (needed_in read (member_of name j))

-- the same of one that may be left out
abbrev pub optional_in : {V : Type 0} → (Json → Result V Refusal)
    → Option Json → Result (Option V) Refusal
optional_in read None = Ok None
optional_in read (Some j) = and_then (read j) (λ v. Ok (Some v))

abbrev pub optional : {V : Type 0} → List ℕ → (Json → Result V Refusal)
    → Json → Result (Option V) Refusal
optional name read j = within (to_member name) (optional_in read (member_of name j))

-- true or false, and false where it is left out
abbrev pub flag : List ℕ → Json → Result Bool Refusal
flag name j = and_then (optional name truth_of j) (λ b. Ok (unwrap_or b false))

-- ---- the items of an array

-- the values of items, the first of which stands at this place
abbrev pub items_of : {V : Type 0} → (Json → Result V Refusal)
    → ℕ → Items → Result (List V) Refusal
items_of read n json.no_items = Ok []
items_of read n (json.item j js) =
    and_then (within (to_item n) (read j)) (λ v.
    and_then (items_of read (n + 1) js) (λ vs. Ok (v ∷ vs)))

-- one value alone, or an array of them
abbrev pub one_or_many : {V : Type 0} → (Json → Result V Refusal) → Json → Result (List V) Refusal
one_or_many read (json.array js) = items_of read 0 js
one_or_many read j = and_then (read j) (λ v. Ok (v ∷ []))
