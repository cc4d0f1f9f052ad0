-- Where a byte of a text leads, and what is put in its place.
use Rattle.std.specs.Prelude.{◌≡◌, ◌<◌, List, slice_index, ℕ, ◌+◌, ◌-◌, ◌==◌, ◌||◌, nat_lt, if◌then◌else◌}
use Rattle.json.specs.Ascii as ascii
use Rattle.json.specs.Lex.{Class, class, quote, backslash, operator, space, other}
use Rattle.haya_json_elements.specs.declared.place.Brackets.{Brackets}
use Rattle.haya_json_elements.specs.declared.place.Brackets.TheVariants.{Square, Curly}
use Rattle.haya_json_elements.specs.declared.place.Mode.{Mode}
use Rattle.haya_json_elements.specs.declared.place.Mode.TheVariants.{Between, Word, Text, Escape}
use Rattle.haya_json_elements.specs.declared.place.Place.{Place}
use Rattle.haya_json_elements.specs.declared.place.Place.TheVariants.{Front, Opened, Next, Element, Closed, Lost}

-- the place behind a byte, and the byte that is put in its place
abbrev pub Step : Type 0
Step = Place × ℕ

-- the byte of the bracket that opens
abbrev pub opening_bracket : Brackets → ℕ
opening_bracket Square = ascii.open_bracket
opening_bracket Curly = ascii.open_brace

-- the byte of the bracket that closes
abbrev pub closing_bracket : Brackets → ℕ
closing_bracket Square = ascii.close_bracket
closing_bracket Curly = ascii.close_brace

-- a comma at the end of a line, as no element has it
abbrev pub mark : ℕ
mark = ascii.comma

-- the step at a byte that can't stand where it does
abbrev pub lost_step : Step
lost_step = (Lost, mark)

-- what is put in place of white space in an element: a tab for a line feed, otherwise a space
abbrev pub blank_byte : ℕ → ℕ
blank_byte x = if x == ascii.line_feed then ascii.tab else ascii.space

-- what is put in place of a byte in a string. No control character may stand there, so another one
-- may take the place of those that end a line.
abbrev pub text_byte : ℕ → ℕ
text_byte x =
    if (x == ascii.line_feed) || (x == ascii.carriage_return) then ascii.tab else x

-- the step at a bracket that opens within d others; no element of JSON nests as deep as the limit
abbrev pub opening_step : ℕ → ℕ → Step
opening_step d x = if nat_lt d 128 then (Element Between (d + 1), x) else lost_step

-- the step at a bracket that closes: one of the element's own, or that of all elements, which ends
-- the line
abbrev pub closing_step : Brackets → ℕ → ℕ → Step
closing_step b d x =
    if d == 0 then (if x == closing_bracket b then (Closed, ascii.line_feed) else lost_step)
    else (Element Between (d - 1), x)

-- the step at a comma, which ends the line outside of an element's own brackets
abbrev pub comma_step : ℕ → Step
comma_step d = if d == 0 then (Next, ascii.line_feed) else (Element Between d, ascii.comma)

-- the step at a bracket, a comma or a colon in an element
abbrev pub operator_step : Brackets → ℕ → ℕ → Step
operator_step b d x =
    if (x == ascii.open_brace) || (x == ascii.open_bracket) then opening_step d x
    else if (x == ascii.close_brace) || (x == ascii.close_bracket) then closing_step b d x
    else if x == ascii.comma then comma_step d
    else (Element Between d, x)

-- the step at a byte of this class in an element
abbrev pub element_step : Brackets → Mode → ℕ → Class → ℕ → Step
element_step b Between d quote x = (Element Text d, x)
element_step b Between d backslash x = (Element Word d, x)
element_step b Between d operator x = operator_step b d x
element_step b Between d space x = (Element Between d, blank_byte x)
element_step b Between d other x = (Element Word d, x)
element_step b Word d quote x = (Element Word d, x)
element_step b Word d backslash x = (Element Word d, x)
element_step b Word d operator x = operator_step b d x
element_step b Word d space x = (Element Between d, blank_byte x)
element_step b Word d other x = (Element Word d, x)
element_step b Text d quote x = (Element Between d, x)
element_step b Text d backslash x = (Element Escape d, x)
element_step b Text d operator x = (Element Text d, x)
element_step b Text d space x = (Element Text d, text_byte x)
element_step b Text d other x = (Element Text d, text_byte x)
element_step b Escape d c x = (Element Text d, text_byte x)

-- the step at a byte of this class at a place where an element may begin
abbrev pub start_step : Brackets → Place → Class → ℕ → Step
start_step b p quote x = element_step b Between 0 quote x
start_step b p backslash x = element_step b Between 0 backslash x
start_step b p operator x =
    if (x == ascii.open_brace) || (x == ascii.open_bracket) then opening_step 0 x else lost_step
start_step b p space x = (p, ascii.line_feed)
start_step b p other x = element_step b Between 0 other x

-- the step at a byte of this class at a place where nothing but white space may stand
abbrev pub space_step : Place → Class → Step
space_step p space = (p, ascii.line_feed)
space_step p _ = lost_step

-- the step at a byte. White space outside of the elements ends a line, which is empty then.
abbrev pub step : Brackets → Place → ℕ → Step
step b Front x =
    if x == opening_bracket b then (Opened, ascii.line_feed) else space_step Front (class x)
step b Opened x =
    if x == closing_bracket b then (Closed, ascii.line_feed) else start_step b Opened (class x) x
step b Next x = start_step b Next (class x) x
step b (Element mode d) x = element_step b mode d (class x) x
step b Closed x = space_step Closed (class x)
step b Lost x = (Lost, ascii.line_feed)

-- the place keeps the byte, which stays as it is and leads nowhere else
abbrev pub Keeps : Place → ℕ → Type 0
Keeps p x = (b : Brackets) → step b p x ≡ (p, x)

-- it keeps so many bytes in turn
abbrev pub KeepsFirst : Place → ℕ → List ℕ → Type 0
KeepsFirst p n xs = (k : ℕ) → k < n → Keeps p (slice_index xs k)
