-- Numeric characters, and the runs of characters at the front of a text.
use Rattle.std.specs.Prelude.{ℕ, Bool, true, false, List, [], ◌∷◌, if◌then◌else◌}
use Rattle.ucd_category.specs.GeneralCategory.{general_category}
use Rattle.ucd_category.specs.declared.GeneralCategory.{GeneralCategory}
use Rattle.ucd_category.specs.declared.GeneralCategory.TheVariants.{DecimalNumber, LetterNumber, OtherNumber}

abbrev pub comma : ℕ
comma = 44

abbrev pub hyphen : ℕ
hyphen = 45

abbrev pub is_number_category : GeneralCategory → Bool
is_number_category DecimalNumber = true
is_number_category LetterNumber = true
is_number_category OtherNumber = true
is_number_category _ = false

-- a numeric character: of the general category Nd, Nl or No
abbrev pub is_numeric : ℕ → Bool
is_numeric c = is_number_category (general_category c)

-- the longest run at the front of characters that pass the test
abbrev pub run : (ℕ → Bool) → List ℕ → List ℕ
run p [] = []
run p (c ∷ cs) = if p c then c ∷ run p cs else []

-- what follows that run
abbrev pub behind_run : (ℕ → Bool) → List ℕ → List ℕ
behind_run p [] = []
behind_run p (c ∷ cs) = if p c then behind_run p cs else c ∷ cs

-- whether the first character passes the test
abbrev pub begins_with : (ℕ → Bool) → List ℕ → Bool
begins_with p [] = false
begins_with p (c ∷ cs) = p c
