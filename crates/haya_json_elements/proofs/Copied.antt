-- How a line of an element is like the text: strings up to their closing quote, words up to their
-- end.
use Rattle.std.proofs.Common.{◌≡◌, ℕ, ◌≤◌, Bool, true, false, not, ◌&&◌, ◌||◌, ◌==◌, nat_le, cond, List, [], ◌∷◌, ◌++◌, length, length-append, Some, inl, inr, ◌⊎◌, refl, sym, ap, ◌∙◌, arith}
use Rattle.std.proofs.lemmas.Bool.{true≢false, false≢true, eqb-true, eqb-false, leb-true, and_parts, or_right, or_from, cases_Bool, ne_eqb, cond_both, not-true}
use Rattle.json.specs.Text.{content, plain}
use Rattle.json.specs.Word.{is_operator, is_space, head, ends_word}
use Rattle.json.specs.Lex.{Class, class, quote, backslash, operator, space, other}
use Rattle.haya_json_elements.specs.Steps.{Step, operator_step, blank_byte, element_step, text_byte}
use Rattle.haya_json_elements.specs.Elements.{nonempty_lines, lines_from}
use Rattle.haya_json_elements.specs.declared.place.Brackets.{Brackets}
use Rattle.haya_json_elements.specs.declared.place.Mode.{Mode}
use Rattle.haya_json_elements.specs.declared.place.Mode.TheVariants.{Between, Word, Text, Escape}
use Rattle.haya_json_elements.specs.declared.place.Place.{Place}
use Rattle.haya_json_elements.specs.declared.place.Place.TheVariants.{Element}
use Rattle.haya_json_elements.proofs.Pieces.{HasNo, first_line, first_line-append, later_lines}
use Rattle.haya_json_elements.proofs.Words.{AreLetters, is_word_end}
use Rattle.haya_json_elements.proofs.Classes.{apart, blank_class, class_tells, operator_step-each, operator_ends, space_ends, text_class, text_feed, text_byte-unchanged}
use Rattle.haya_json_elements.proofs.Closing.{closes, is_inside}

-- the lines from a place where a step has been made
abbrev pub lines_at : Brackets → Step → List ℕ → List ℕ
lines_at b s xs = s.1 ∷ lines_from b s.0 xs

-- the rest of the line, from a place
abbrev pub line_from : Brackets → Place → List ℕ → List ℕ
line_from b p xs = first_line (lines_from b p xs)

-- the elements behind it
abbrev pub more_from : Brackets → Place → List ℕ → List (List ℕ)
more_from b p xs = nonempty_lines (later_lines (lines_from b p xs))

-- the rest of the line where a step has been made
abbrev pub line_at : Brackets → Step → List ℕ → List ℕ
line_at b s xs = first_line (lines_at b s xs)

-- the elements behind it
abbrev pub more_at : Brackets → Step → List ℕ → List (List ℕ)
more_at b s xs = nonempty_lines (later_lines (lines_at b s xs))

-- ---- strings

-- the mode in a string, behind a backslash or not
abbrev pub string_mode : Bool → Mode
string_mode false = Text
string_mode true = Escape

-- the text begins with these bytes, and a quote follows
record IsClosedBy (front xs : List ℕ) : Type 0 where
  behind : List ℕ
  is : xs ≡ front ++ 34 ∷ behind

stops : (front behind : List ℕ) → 44 ∷ [] ≡ front ++ 34 ∷ behind → ⊥
stops [] behind e = false≢true (ap (λ l. head l == 34) e)
stops (f ∷ front) behind e = omega (arith, ap length e, length-append front (34 ∷ behind))

pub text_parts : (f : ℕ) (front : List ℕ) → is_inside false (f ∷ front) ≡ true
    → (32 ≤ f) × ((f == 34) ≡ false) × (is_inside (f == 92) front ≡ true)
text_parts f front h =
    let above = and_parts (nat_le 32 f) (not (f == 34) && is_inside (f == 92) front) h in
    let rest = and_parts (not (f == 34)) (is_inside (f == 92) front) above.1 in
    (leb-true 32 f above.0, not-true (f == 34) rest.0, rest.1)

pub escape_parts : (f : ℕ) (front : List ℕ) → is_inside true (f ∷ front) ≡ true
    → (32 ≤ f) × (is_inside false front ≡ true)
escape_parts f front h =
    let parts = and_parts (nat_le 32 f) (is_inside false front) h in
    (leb-true 32 f parts.0, parts.1)

-- a byte that ends no line is the line's first
pub line_on : (b : Brackets) (p : Place) (y : ℕ) (xs : List ℕ) → (y == 10) ≡ false
    → line_at b (p, y) xs ≡ y ∷ line_from b p xs
line_on b p y xs e = ap (λ t. cond t [] (y ∷ line_from b p xs)) e

pub more_on : (b : Brackets) (p : Place) (y : ℕ) (xs : List ℕ) → (y == 10) ≡ false
    → more_at b (p, y) xs ≡ more_from b p xs
more_on b p y xs e =
    ap (λ t. nonempty_lines (cond t (line_from b p xs ∷ later_lines (lines_from b p xs))
    (later_lines (lines_from b p xs)))) e

module _ (b : Brackets) (d : ℕ) where
  -- the line's bytes up to its closing quote are the text's
  abbrev IsCopied : List ℕ → Type 0
  IsCopied xs =
      (escaped : Bool) (front behind : List ℕ) → line_from b (Element (string_mode escaped) d) xs
      ≡ front ++ 34 ∷ behind → is_inside escaped front ≡ true → IsClosedBy front xs

  -- a byte y of the string, in place of x
  string_byte : (escaped : Bool) (x y : ℕ) (xs front behind : List ℕ) → IsCopied xs
      → (y == 10) ≡ false → (y == 34) ≡ false → (y == 92) ≡ escaped → (32 ≤ y → y ≡ x)
      → line_at b (Element (string_mode escaped) d, y) xs ≡ front ++ 34 ∷ behind
      → is_inside false front ≡ true → IsClosedBy front (x ∷ xs)
  string_byte escaped x y xs [] behind more feed unlike slash same e h =
      let first : y ≡ 34 = let k = sym (line_on b _ y xs feed) ∙ e in cc in
      absurd (eqb-false y 34 unlike first)
  string_byte escaped x y xs (f ∷ front) behind more feed unlike slash same e h =
      let k : y ∷ line_from b (Element (string_mode escaped) d) xs ≡ f ∷ (front ++ 34 ∷ behind) =
      sym (line_on b _ y xs feed) ∙ e in
      let first : y ≡ f = cc in
      let parts = text_parts f front h in
      let is : y ≡ x = same (omega arith) in
      let inside : is_inside escaped front ≡ true =
      ap (λ t. is_inside t front) (sym slash ∙ ap (λ z. z == 92) first) ∙ parts.2 in
      let c = more escaped front behind (cc) inside in
      record { behind = c.behind; is = cc (c.is) }

  escape_byte : (x y : ℕ) (xs front behind : List ℕ) → IsCopied xs → (y == 10) ≡ false
      → (32 ≤ y → y ≡ x)
      → line_at b (Element Text d, y) xs ≡ front ++ 34 ∷ behind → is_inside true front ≡ true
      → IsClosedBy front (x ∷ xs)
  escape_byte x y xs [] behind more feed same e h = absurd (false≢true h)
  escape_byte x y xs (f ∷ front) behind more feed same e h =
      let k : y ∷ line_from b (Element Text d) xs ≡ f ∷ (front ++ 34 ∷ behind) =
      sym (line_on b _ y xs feed) ∙ e in
      let first : y ≡ f = cc in
      let parts = escape_parts f front h in
      let is : y ≡ x = same (omega arith) in
      let c = more false front behind (cc) parts.1 in
      record { behind = c.behind; is = cc (c.is) }

  quote_byte : (x : ℕ) (xs front behind : List ℕ) → class x ≡ quote
      → line_at b (Element Between d, x) xs ≡ front ++ 34 ∷ behind → is_inside false front ≡ true
      → IsClosedBy front (x ∷ xs)
  quote_byte x xs [] behind c e h =
      record {
        behind = xs;
        is = ap (λ y. y ∷ xs) (eqb-true x 34 (class_tells x quote c));
      }
  quote_byte x xs (f ∷ front) behind c e h =
      let k = sym (line_on b _ x xs (apart x 10 quote c refl refl)) ∙ e in
      let first : x ≡ f = cc in
      absurd (true≢false (sym (class_tells x quote c) ∙ ap (λ z. z == 34) first
      ∙ (text_parts f front h).1))

  text_class_byte : (c : Class) (x : ℕ) (xs front behind : List ℕ) → class x ≡ c → IsCopied xs
      → line_at b (element_step b Text d c x) xs ≡ front ++ 34 ∷ behind
      → is_inside false front ≡ true → IsClosedBy front (x ∷ xs)
  text_class_byte quote x xs front behind k more e h = quote_byte x xs front behind k e h
  text_class_byte backslash x xs front behind k more e h =
      let t = class_tells x backslash k in
      string_byte true x x xs front behind more (apart x 10 backslash k refl refl) t.0 t.1
      (λ l. refl) e h
  text_class_byte operator x xs front behind k more e h =
      let t = class_tells x operator k in
      string_byte false x x xs front behind more (apart x 10 operator k refl refl) t.0 t.1
      (λ l. refl) e h
  text_class_byte space x xs front behind k more e h =
      let t = class_tells (text_byte x) space (text_class x ∙ k) in
      string_byte false x (text_byte x) xs front behind more (text_feed x) t.0 t.1
      (text_byte-unchanged x) e h
  text_class_byte other x xs front behind k more e h =
      let t = class_tells (text_byte x) other (text_class x ∙ k) in
      string_byte false x (text_byte x) xs front behind more (text_feed x) t.0 t.1
      (text_byte-unchanged x) e h

  copied : (xs : List ℕ) → IsCopied xs
  copied [] false front behind e h = absurd (stops front behind e)
  copied [] true front behind e h = absurd (stops front behind e)
  copied (x ∷ xs) false front behind e h =
      text_class_byte (class x) x xs front behind refl (copied xs) e h
  copied (x ∷ xs) true front behind e h =
      escape_byte x (text_byte x) xs front behind (copied xs) (text_feed x) (text_byte-unchanged x)
      e h

-- the string is closed within these bytes
abbrev pub is_closed : Bool → List ℕ → Bool
is_closed escaped [] = false
is_closed true (x ∷ xs) = is_closed false xs
is_closed false (x ∷ xs) = (x == 34) || is_closed (x == 92) xs

front_closes : (escaped : Bool) (front behind : List ℕ) → is_inside escaped front ≡ true
    → is_closed escaped (front ++ 34 ∷ behind) ≡ true
front_closes false [] behind h = refl
front_closes true [] behind h = absurd (false≢true h)
front_closes false (f ∷ front) behind h =
    or_right (f == 34) _ (front_closes (f == 92) front behind (text_parts f front h).2)
front_closes true (f ∷ front) behind h = front_closes false front behind (escape_parts f front h).1

-- a string that is whole in its line is the same in the text
pub string_copied : (b : Brackets) (d : ℕ) (xs s : List ℕ)
    → content plain (line_from b (Element Text d) xs) ≡ Some s
    → (content plain xs ≡ Some s) × (is_closed false (line_from b (Element Text d) xs) ≡ true)
string_copied b d xs s h =
    let c = closes plain (line_from b (Element Text d) xs) s h in
    let t = copied b d xs false c.front c.behind c.is c.inside in (
      ap (content plain) t.is ∙ c.same t.behind,
      ap (is_closed false) c.is
          ∙ front_closes false c.front c.behind c.inside,
    )

-- ---- words

-- a byte of a class, at a place of an element
pub at_class : (b : Brackets) (m : Mode) (d x : ℕ) (xs : List ℕ) (c : Class) → class x ≡ c
    → lines_from b (Element m d) (x ∷ xs)
    ≡ (element_step b m d c x).1 ∷ lines_from b (element_step b m d c x).0 xs
at_class b m d x xs c k =
    ap (λ a. (element_step b m d a x).1 ∷ lines_from b (element_step b m d a x).0 xs) k

-- the text up to the end of a word, and the rest
pub record Span (xs : List ℕ) : Type 0 where
  pub front : List ℕ
  pub rest : List ℕ
  pub is : xs ≡ front ++ rest
  pub letters : AreLetters front
  pub ended : ends_word rest ≡ true

pub span : (xs : List ℕ) → Span xs
span [] = record { front = []; rest = []; is = refl; letters = tt; ended = refl }
span (x ∷ xs) = by (cases_Bool (is_word_end x)) (span xs)
  where
    by : (is_word_end x ≡ true) ⊎ (is_word_end x ≡ false) → Span xs → Span (x ∷ xs)
    by (inl e) s = record { front = []; rest = x ∷ xs; is = refl; letters = tt; ended = e }
    by (inr e) s =
        record {
          front = x ∷ s.front;
          rest = s.rest;
          is = ap (λ l. x ∷ l) s.is;
          letters = (e, s.letters);
          ended = s.ended;
        }

-- letters end no line
pub no_feed_letters : (f : List ℕ) → AreLetters f → HasNo 10 f
no_feed_letters [] h = tt
no_feed_letters (x ∷ f) h =
    (ne_eqb x 10 (λ e. true≢false (sym (ap is_word_end e) ∙ h.0)), no_feed_letters f h.1)

-- A quote, a backslash and any other byte end no word.
pub no_quote : (x : ℕ) → is_word_end x ≡ true → class x ≡ quote → ⊥
no_quote x e k = true≢false (sym e ∙ ap is_word_end (eqb-true x 34 (class_tells x quote k)))

pub no_backslash : (x : ℕ) → is_word_end x ≡ true → class x ≡ backslash → ⊥
no_backslash x e k =
    true≢false (sym e ∙ ap is_word_end (eqb-true x 92 (class_tells x backslash k).1))

pub no_other : (x : ℕ) → is_word_end x ≡ true → class x ≡ other → ⊥
no_other x e k =
    let t = class_tells x other k in
    true≢false (sym e ∙ or_from (is_operator x) (is_space x) t.2 t.3)

-- a text and a line that are the same up to the end of a word
pub record HaveWord (xs line : List ℕ) : Type 0 where
  pub front : List ℕ
  pub rest : List ℕ
  pub left : List ℕ
  pub text : xs ≡ front ++ rest
  pub copy : line ≡ front ++ left
  pub text_ends : ends_word rest ≡ true
  pub copy_ends : ends_word left ≡ true

-- a byte ends a word, or it is put in place of one that does
abbrev PutsWordEnd : Step → Type 0
PutsWordEnd s = is_word_end s.1 ≡ true

line_ends : (b : Brackets) (s : Step) (xs : List ℕ) → PutsWordEnd s
    → ends_word (line_at b s xs) ≡ true
line_ends b s xs e =
    cond_both (s.1 == 10) [] (s.1 ∷ line_from b s.0 xs) (λ l. ends_word l ≡ true) (λ k. refl)
    (λ k. e)

step_ends : (b : Brackets) (d x : ℕ) → is_word_end x ≡ true → PutsWordEnd (operator_step b d x)
step_ends b d x h = operator_step-each PutsWordEnd b d x refl refl refl (λ n. h)

module _ (b : Brackets) (d : ℕ) where
  -- Letters of a word stay as they are.
  pub lines_letters : (f z : List ℕ) → AreLetters f
      → lines_from b (Element Word d) (f ++ z) ≡ f ++ lines_from b (Element Word d) z
  lines_letters [] z h = refl
  lines_letters (x ∷ f) z h = by_class (class x) refl (ap (λ l. x ∷ l) (lines_letters f z h.1))
    where
      by_class : (c : Class) → class x ≡ c
          → x ∷ lines_from b (Element Word d) (f ++ z) ≡ x ∷ (f ++ lines_from b (Element Word d) z)
          → lines_from b (Element Word d) (x ∷ (f ++ z))
          ≡ x ∷ (f ++ lines_from b (Element Word d) z)
      by_class quote k again = at_class b Word d x _ quote k ∙ again
      by_class backslash k again = at_class b Word d x _ backslash k ∙ again
      by_class operator k again =
          absurd (true≢false (sym (operator_ends x k) ∙ h.0))
      by_class space k again =
          absurd (true≢false (sym (space_ends x k) ∙ h.0))
      by_class other k again = at_class b Word d x _ other k ∙ again

  -- the line has ended a word where the text has
  rest_ends : (xs : List ℕ) → ends_word xs ≡ true
      → ends_word (line_from b (Element Word d) xs) ≡ true
  rest_ends [] e = refl
  rest_ends (x ∷ xs) e =
      line_ends b (element_step b Word d (class x) x) xs (by_class (class x) refl)
    where
      by_class : (c : Class) → class x ≡ c → PutsWordEnd (element_step b Word d c x)
      by_class quote k = absurd (no_quote x e k)
      by_class backslash k = absurd (no_backslash x e k)
      by_class operator k = step_ends b d x e
      by_class space k = space_ends (blank_byte x) (blank_class x)
      by_class other k = absurd (no_other x e k)

  pub word_copied : (xs : List ℕ) → HaveWord xs (line_from b (Element Word d) xs)
  word_copied xs =
      let s = span xs in
      let out = lines_from b (Element Word d) s.rest in
      record {
        front = s.front;
        rest = s.rest;
        left = line_from b (Element Word d) s.rest;
        text = s.is;
        copy = ap (line_from b (Element Word d)) s.is
            ∙ ap first_line (lines_letters s.front s.rest s.letters)
            ∙ first_line-append s.front out (no_feed_letters s.front s.letters);
        text_ends = s.ended;
        copy_ends = rest_ends s.rest s.ended;
      }
