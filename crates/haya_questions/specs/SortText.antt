-- The texts of sort keys.
use Rattle.std.specs.Prelude.{ℕ, ◌==◌, Bool, true, false, List, [], ◌∷◌, Option, if◌then◌else◌, option_map}
use Rattle.haya_questions.specs.Order.{SortKeyView}
use Rattle.haya_questions.specs.Place.{PlaceView, place_read, place_view}
use Rattle.haya_questions.specs.declared.sort_key.SortKey.{SortKey}

abbrev pub sort_key_view : SortKey → SortKeyView
sort_key_view key = record { place = place_view key.place; is_reversed = key.is_reversed }

abbrev pub hyphen : ℕ
hyphen = 45

-- whether a text begins with a hyphen, and the place's text
abbrev pub sort_words : List ℕ → Bool × List ℕ
sort_words [] = (false, [])
sort_words (b ∷ bs) = if b == hyphen then (true, bs) else (false, b ∷ bs)

-- a key of the place
abbrev pub sort_key_of : Bool → PlaceView → SortKeyView
sort_key_of is_reversed place = record { place = place; is_reversed = is_reversed }

-- the key that a text reads as: a place, with a hyphen in front where its order is turned round
unfoldable pub sort_key_read : List ℕ → Option SortKeyView
sort_key_read text = option_map (sort_key_of (sort_words text).0) (place_read (sort_words text).1)
