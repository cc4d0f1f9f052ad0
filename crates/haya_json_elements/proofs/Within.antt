-- The lexemes of a text from a place in an element: those of the rest of its line, and then those
-- of what follows.
use Rattle.std.proofs.Common.{◌≡◌, ℕ, ◌+◌, ◌-◌, true, false, ◌||◌, ◌==◌, List, [], ◌∷◌, ◌++◌, map, Option, Some, None, refl, sym, ap, ap₂, ◌∙◌, subst}
use Rattle.std.proofs.lemmas.Bool.{false≢true, eqb-true, cond_both}
use Rattle.std.specs.Prelude.{⊤}
use Rattle.std.specs.List.{AllByRecursion}
use Rattle.json.specs.Text.{content, plain}
use Rattle.json.specs.Word.{word}
use Rattle.json.specs.Lex.{Lexeme, token, comma, Class, class, quote, backslash, operator, space, other, operator_lexeme, string_token, Mode as LexMode, between, in_word, in_string, in_escape, lex_byte, lex, tokens}
use Rattle.haya_json_elements.specs.Steps.{Step, operator_step, comma_step, blank_byte, closing_bracket, closing_step, element_step, text_byte, lost_step, opening_step}
use Rattle.haya_json_elements.specs.Elements.{lines_from}
use Rattle.haya_json_elements.specs.declared.place.Brackets.{Brackets}
use Rattle.haya_json_elements.specs.declared.place.Brackets.TheVariants.{Square, Curly}
use Rattle.haya_json_elements.specs.declared.place.Mode.{Mode}
use Rattle.haya_json_elements.specs.declared.place.Mode.TheVariants.{Between, Word, Text, Escape}
use Rattle.haya_json_elements.specs.declared.place.Place.TheVariants.{Next, Element, Closed}
use Rattle.haya_json_elements.proofs.Classes.{apart, blank_class, blank_feed, class_tells, closing_step-each, comma_step-each, lex_class, opening_step-each, text_class, text_feed}
use Rattle.haya_json_elements.proofs.Copied.{is_closed, line_at, line_from, line_on, more_at, more_from, more_on, string_copied, word_copied}
use Rattle.haya_json_elements.proofs.Faults.{AreFine}
use Rattle.haya_json_elements.proofs.Bracketed.{close_token, tail_of}
use Rattle.haya_json_elements.proofs.TokenKinds.{kind, IsSound, AreGood}
use Rattle.haya_json_elements.proofs.Pieces.{pieces}
use Rattle.haya_json_elements.proofs.Words.{same_word}

-- the tokens of each line are good
abbrev pub AllGood : List (List ℕ) → Type 0
AllGood ls = AllByRecursion (λ line. AreGood (tokens line)) ls

-- the lexemes of each line
abbrev pub line_lexemes : List (List ℕ) → List (List Lexeme)
line_lexemes ls = map (λ line. lex between line) ls

-- the lexer's mode
abbrev pub lex_mode : Mode → LexMode
lex_mode Between = between
lex_mode Word = in_word
lex_mode Text = in_string
lex_mode Escape = in_escape

-- a string that goes on is closed within the line
abbrev pub IsShut : Mode → List ℕ → Type 0
IsShut Between line = ⊤
IsShut Word line = ⊤
IsShut Text line = is_closed false line ≡ true
IsShut Escape line = is_closed true line ≡ true

-- these lexemes are those of the line, and then those of the other elements
abbrev pub Says : Brackets → Mode → List Lexeme → List ℕ → List (List ℕ) → Type 0
Says b m text line more =
    AreFine (lex (lex_mode m) line) → IsShut m line → AllGood more
    → text ≡ lex (lex_mode m) line ++ tail_of b (line_lexemes more)

-- so it is where a step has been made
abbrev pub SaysAt : Brackets → Mode → List Lexeme → Step → List ℕ → Type 0
SaysAt b m text s xs = Says b m text (line_at b s xs) (more_at b s xs)

-- so it is from a place in an element
abbrev pub SaysFrom : Brackets → Mode → ℕ → List ℕ → Type 0
SaysFrom b m d xs =
    Says b m (lex (lex_mode m) xs) (line_from b (Element m d) xs) (more_from b (Element m d) xs)

-- what is to be known of the rest of the text behind a bracket that closes
abbrev pub SaysBehindClosing : Brackets → List ℕ → Type 0
SaysBehindClosing b xs = AllGood (pieces (lines_from b Closed xs))
    → token (close_token b) ∷ lex between xs ≡ tail_of b
    (line_lexemes (pieces (lines_from b Closed xs)))

-- what is to be known of the rest of the text behind a comma
abbrev pub SaysBehindComma : Brackets → List ℕ → Type 0
SaysBehindComma b xs = AllGood (pieces (lines_from b Next xs))
    → comma ∷ lex between xs ≡ tail_of b (line_lexemes (pieces (lines_from b Next xs)))

-- a byte y of this class appears in the line
onward : (b : Brackets) (m next : Mode) (d : ℕ) (c : Class) (y : ℕ) (xs : List ℕ)
    (text : List Lexeme) → (y == 10) ≡ false → class y ≡ c
    → (AreFine (lex_byte (lex_mode m) c y (line_from b (Element next d) xs)
    (λ n. lex n (line_from b (Element next d) xs))) → IsShut m (y ∷ line_from b (Element next d) xs)
    → AllGood (more_from b (Element next d) xs)
    → text ≡ lex_byte (lex_mode m) c y (line_from b (Element next d) xs)
    (λ n. lex n (line_from b (Element next d) xs)) ++ tail_of b
    (line_lexemes (more_from b (Element next d) xs)))
    → SaysAt b m text (Element next d, y) xs
unfolding lex
onward b m next d c y xs text feed e says fine shut good =
    let l = line_from b (Element next d) xs in
    let here : lex (lex_mode m) (line_at b (Element next d, y) xs)
    ≡ lex_byte (lex_mode m) c y l (λ n. lex n l) =
    ap (lex (lex_mode m)) (line_on b (Element next d) y xs feed) ∙ lex_class (lex_mode m) y l c e in
    says (subst AreFine here fine) (subst (IsShut m) (line_on b (Element next d) y xs feed) shut)
    (subst AllGood (more_on b (Element next d) y xs feed) good)
    ∙ (λ i. sym here i ++ tail_of b (line_lexemes (sym (more_on b (Element next d) y xs feed) i)))

-- ---- outside of strings
pub lost_line : (b : Brackets) (xs : List ℕ) → line_at b lost_step xs ≡ 44 ∷ []
lost_line b [] = refl
lost_line b (x ∷ xs) = refl

pub close_lexeme : (b : Brackets) → token (close_token b) ≡ operator_lexeme (closing_bracket b)
close_lexeme Square = refl
close_lexeme Curly = refl

module _ (b : Brackets) (m : Mode) (outside : lex_byte (lex_mode m) operator
    ≡ lex_byte between operator) (xs : List ℕ) where
  -- the text behind the byte x
  abbrev Reads : ℕ → Step → Type 0
  Reads x s = SaysAt b m (operator_lexeme x ∷ lex between xs) s xs

  reads_lost : (x : ℕ) → Reads x lost_step
  unfolding lex
  reads_lost x fine shut good =
      let comma_last : lex (lex_mode m) (line_at b lost_step xs) ≡ comma ∷ [] =
      ap (lex (lex_mode m)) (lost_line b xs) ∙ (λ i. outside i 44 [] (λ n. [])) in
      absurd (subst AreFine comma_last fine).0

  reads_on : (d x : ℕ) → class x ≡ operator → SaysFrom b Between d xs
      → Reads x (Element Between d, x)
  reads_on d x e from =
      onward b m Between d operator x xs _ (apart x 10 operator e refl refl) e
      (λ fine shut good. let l = line_from b (Element Between d) xs in
      let here : lex_byte (lex_mode m) operator x l (λ n. lex n l)
      ≡ operator_lexeme x ∷ lex between l = λ i. outside i x l (λ n. lex n l) in
      ap (λ k. operator_lexeme x ∷ k) (from (subst AreFine here fine).1 tt good)
      ∙ ap (λ k. k ++ tail_of b (line_lexemes (more_from b (Element Between d) xs))) (sym here))

  reads_comma : (d x : ℕ) → x ≡ 44 → SaysFrom b Between d xs → SaysBehindComma b xs
      → Reads x (comma_step d)
  unfolding lex
  reads_comma d x e from going =
      subst (λ y. Reads y (comma_step d)) (sym e)
      (comma_step-each (Reads 44) d (λ fine shut good. going good) (reads_on d 44 refl from))

  reads_closed : (d x : ℕ) → class x ≡ operator → SaysFrom b Between (d - 1) xs
      → SaysBehindClosing b xs → Reads x (closing_step b d x)
  unfolding lex
  reads_closed d x e from ending =
      let bracket : (x == closing_bracket b) ≡ true → operator_lexeme x ≡ token (close_token b) =
      λ l. ap operator_lexeme (eqb-true x (closing_bracket b) l) ∙ sym (close_lexeme b) in
      closing_step-each (Reads x) b d x (reads_lost x)
      (λ l fine shut good. ap (λ n. n ∷ lex between xs) (bracket l) ∙ ending good)
      (reads_on (d - 1) x e from)

  pub reads_opened : (d x : ℕ) → class x ≡ operator → SaysFrom b Between (d + 1) xs
      → Reads x (opening_step d x)
  reads_opened d x e from =
      opening_step-each (Reads x) d x (reads_lost x) (reads_on (d + 1) x e from)

  reads_operator : (d x : ℕ) → class x ≡ operator → ((n : ℕ) → SaysFrom b Between n xs)
      → SaysBehindClosing b xs → SaysBehindComma b xs → Reads x (operator_step b d x)
  reads_operator d x e from ending going =
      cond_both ((x == 123) || (x == 91)) (opening_step d x) _ (Reads x)
      (λ k. reads_opened d x e (from (d + 1)))
      (λ k. cond_both ((x == 125) || (x == 93)) (closing_step b d x) _ (Reads x)
      (λ l. reads_closed d x e (from (d - 1)) ending)
      (λ l. cond_both (x == 44) (comma_step d) (Element Between d, x) (Reads x)
      (λ n. reads_comma d x (eqb-true x 44 n) (from d) going) (λ n. reads_on d x e (from d))))

-- ---- each byte

-- what is to be known of the text behind a byte
pub record IsKnown (b : Brackets) (xs : List ℕ) : Type 0 where
  pub from : (m : Mode) (d : ℕ) → SaysFrom b m d xs
  pub ending : SaysBehindClosing b xs
  pub going : SaysBehindComma b xs

module _ (b : Brackets) (d x : ℕ) (xs : List ℕ) (k : IsKnown b xs) where
  -- a string begins: its content is known in its line, so it is the same in the text
  begins_string : (o : Option (List ℕ)) → content plain (line_from b (Element Text d) xs) ≡ o
      → IsSound (kind (string_token o)) → AreFine (lex in_string (line_from b (Element Text d) xs))
      → AllGood (more_from b (Element Text d) xs)
      → token (string_token (content plain xs)) ∷ lex in_string xs
      ≡ token (string_token (content plain (line_from b (Element Text d) xs)))
      ∷ (lex in_string (line_from b (Element Text d) xs) ++ tail_of b
      (line_lexemes (more_from b (Element Text d) xs)))
  begins_string None e sound fine good = absurd sound
  begins_string (Some s) e sound fine good =
      let c = string_copied b d xs s e in
      ap₂ (λ t l. token (string_token t) ∷ l) (c.0 ∙ sym e) (k.from Text d fine c.1 good)

  begins_word : word (x ∷ xs) ≡ word (x ∷ line_from b (Element Word d) xs)
  begins_word =
      let w = word_copied b d xs in
      ap (λ l. word (x ∷ l)) w.text ∙ same_word (x ∷ w.front) w.rest w.left w.text_ends w.copy_ends
      ∙ ap (λ l. word (x ∷ l)) (sym w.copy)

  -- a byte y of a string, which neither ends it nor begins an escape
  in_string_shut : (y : ℕ) (line : List ℕ) → (y == 34) ≡ false → (y == 92) ≡ false
      → is_closed false (y ∷ line) ≡ true → is_closed false line ≡ true
  in_string_shut y line q s h = ap₂ (λ t u. t || is_closed u line) (sym q) (sym s) ∙ h

  pub at_byte : (m : Mode) (c : Class) → class x ≡ c
      → SaysAt b m (lex_byte (lex_mode m) c x xs (λ n. lex n xs)) (element_step b m d c x) xs
  at_byte Between quote e =
      onward b Between Text d quote x xs _ (apart x 10 quote e refl refl) e
      (λ fine shut good. begins_string _ refl fine.0 fine.1 good)
  at_byte Between backslash e =
      onward b Between Word d backslash x xs _ (apart x 10 backslash e refl refl) e
      (λ fine shut good. absurd fine.0)
  at_byte Between operator e =
      reads_operator b Between refl xs d x e (k.from Between) k.ending k.going
  at_byte Between space e =
      onward b Between Between d space (blank_byte x) xs _ (blank_feed x) (blank_class x)
      (k.from Between d)
  at_byte Between other e =
      onward b Between Word d other x xs _ (apart x 10 other e refl refl) e
      (λ fine shut good. ap₂ (λ w l. token w ∷ l) begins_word (k.from Word d fine.1 tt good))
  at_byte Word quote e =
      onward b Word Word d quote x xs _ (apart x 10 quote e refl refl) e (k.from Word d)
  at_byte Word backslash e =
      onward b Word Word d backslash x xs _ (apart x 10 backslash e refl refl) e (k.from Word d)
  at_byte Word operator e = reads_operator b Word refl xs d x e (k.from Between) k.ending k.going
  at_byte Word space e =
      onward b Word Between d space (blank_byte x) xs _ (blank_feed x) (blank_class x)
      (k.from Between d)
  at_byte Word other e =
      onward b Word Word d other x xs _ (apart x 10 other e refl refl) e (k.from Word d)
  at_byte Text quote e =
      onward b Text Between d quote x xs _ (apart x 10 quote e refl refl) e
      (λ fine shut good. k.from Between d fine tt good)
  at_byte Text backslash e =
      let t = class_tells x backslash e in
      onward b Text Escape d backslash x xs _ (apart x 10 backslash e refl refl) e
      (λ fine shut good. k.from Escape d fine (ap₂ (λ q s. q
      || is_closed s (line_from b (Element Escape d) xs)) (sym t.0) (sym t.1) ∙ shut) good)
  at_byte Text operator e =
      let t = class_tells x operator e in
      onward b Text Text d operator x xs _ (apart x 10 operator e refl refl) e
      (λ fine shut good. k.from Text d fine (in_string_shut x _ t.0 t.1 shut) good)
  at_byte Text space e =
      let t = class_tells (text_byte x) space (text_class x ∙ e) in
      onward b Text Text d space (text_byte x) xs _ (text_feed x) (text_class x ∙ e)
      (λ fine shut good. k.from Text d fine (in_string_shut (text_byte x) _ t.0 t.1 shut) good)
  at_byte Text other e =
      let t = class_tells (text_byte x) other (text_class x ∙ e) in
      onward b Text Text d other (text_byte x) xs _ (text_feed x) (text_class x ∙ e)
      (λ fine shut good. k.from Text d fine (in_string_shut (text_byte x) _ t.0 t.1 shut) good)
  at_byte Escape c e =
      onward b Escape Text d c (text_byte x) xs _ (text_feed x) (text_class x ∙ e)
      (λ fine shut good. k.from Text d fine shut good)

-- a text that ends in an element says nothing: its line ends with a comma, or in a string
pub at_end : (b : Brackets) (m : Mode) (d : ℕ) → SaysFrom b m d []
unfolding lex
at_end b Between d fine shut good = absurd fine.0
at_end b Word d fine shut good = absurd fine.0
at_end b Text d fine shut good = absurd (false≢true shut)
at_end b Escape d fine shut good = absurd (false≢true shut)
