-- Bytes that are put in place of those of an element, with white space behind them, have its tokens.
use Rattle.std.proofs.Common.{◌≡◌, ℕ, zero, suc, ◌+◌, ◌*◌, ◌<◌, ◌≤◌, Bool, true, false, ◌&&◌, ◌||◌, ◌==◌, nat_lt, cond, List, [], ◌∷◌, ◌++◌, length, Option, Some, None, option_and_then, option_map, inl, inr, ◌⊎◌, refl, sym, ap, ◌∙◌, subst, arith}
use Rattle.std.specs.Char.{digit_value, is_digit, encode_utf8}
use Rattle.std.specs.List.{AllByRecursion}
use Rattle.std.proofs.lemmas.Bool.{true≢false, false≢true, eqb-true, or_cases, cases_Bool, cond_both}
use Rattle.json.specs.Text.{code_unit, short_escape, is_high_surrogate, is_low_surrogate, surrogate_pair, Within, plain, after_backslash, after_u, after_high, prepend, content}
use Rattle.json.specs.Word.{ends_word, word}
use Rattle.json.specs.Lex.{token, Class, class, quote, backslash, operator, space, other, Mode as LexMode, between, in_word, in_string, in_escape, operator_lexeme, string_token, lex_byte, lex, punctuate, fresh, tokens}
use Rattle.json.specs.Token.{Token}
use Rattle.haya_json_elements.specs.Steps.{blank_byte, text_byte}
use Rattle.haya_json_elements.specs.declared.place.Mode.{Mode}
use Rattle.haya_json_elements.specs.declared.place.Mode.TheVariants.{Between, Word, Text, Escape}
use Rattle.haya_slices.specs.Layout.{is_outside_string}
use Rattle.haya_slices.proofs.Classes.{blank_class, class_tells, lex_class, operator_ends, space_ends, text_class}
use Rattle.haya_slices.proofs.Words.{same_word}

-- the lexer's mode
abbrev pub lex_mode : Mode → LexMode
lex_mode Between = between
lex_mode Word = in_word
lex_mode Text = in_string
lex_mode Escape = in_escape

-- the mode behind a byte of this class, in an element
abbrev pub next_mode : Mode → Class → Mode
next_mode Between quote = Text
next_mode Between backslash = Word
next_mode Between operator = Between
next_mode Between space = Between
next_mode Between other = Word
next_mode Word quote = Word
next_mode Word backslash = Word
next_mode Word operator = Between
next_mode Word space = Between
next_mode Word other = Word
next_mode Text quote = Between
next_mode Text backslash = Escape
next_mode Text operator = Text
next_mode Text space = Text
next_mode Text other = Text
next_mode Escape c = Text

-- the byte that is put in its place
abbrev pub put_byte : Mode → Class → ℕ → ℕ
put_byte Between quote x = x
put_byte Between backslash x = x
put_byte Between operator x = x
put_byte Between space x = blank_byte x
put_byte Between other x = x
put_byte Word quote x = x
put_byte Word backslash x = x
put_byte Word operator x = x
put_byte Word space x = blank_byte x
put_byte Word other x = x
put_byte Text quote x = x
put_byte Text backslash x = x
put_byte Text operator x = x
put_byte Text space x = text_byte x
put_byte Text other x = text_byte x
put_byte Escape c x = text_byte x

abbrev pub AreBlank : List ℕ → Type 0
AreBlank bytes = AllByRecursion (λ y. class y ≡ space) bytes

-- these bytes are put in place of others, up to where no string is open, and blanks follow
abbrev pub IsCopy : Mode → List ℕ → List ℕ → Type 0
IsCopy m [] ys = (is_outside_string m ≡ true) × AreBlank ys
IsCopy m (x ∷ xs) [] = ⊥
IsCopy m (x ∷ xs) (y ∷ ys) =
    (y ≡ put_byte m (class x) x) × IsCopy (next_mode m (class x)) xs ys

-- ---- strings

-- a byte of a string is what is put in its place, or both are control characters
abbrev IsPut : ℕ → ℕ → Type 0
IsPut x y = (y ≡ x) ⊎ (((x ≡ 10) × (y ≡ 9)) ⊎ ((x ≡ 13) × (y ≡ 9)))

text_byte-cases : (x : ℕ) → IsPut x (text_byte x)
text_byte-cases x =
    cond_both ((x == 10) || (x == 13)) 9 x
    (IsPut x)
    (λ e. by (or_cases (x == 10) (x == 13) e)) (λ e. inl refl)
  where
    by : ((x == 10) ≡ true) ⊎ ((x == 13) ≡ true)
        → IsPut x 9
    by (inl e) = inr (inl (eqb-true x 10 e, refl))
    by (inr e) = inr (inr (eqb-true x 13 e, refl))

-- a byte in a string that is neither a quote nor a backslash
text_step : (x : ℕ) (xs ys : List ℕ) → (x == 34) ≡ false → (x == 92) ≡ false
    → content plain ys ≡ content plain xs
    → content plain (text_byte x ∷ ys) ≡ content plain (x ∷ xs)
unfolding content
text_step x xs ys q b again = by (text_byte-cases x)
  where
    plain_at : (z : ℕ) (zs : List ℕ) → (z == 34) ≡ false → (z == 92) ≡ false
        → content plain (z ∷ zs) ≡ cond (nat_lt z 32) None (prepend (z ∷ []) (content plain zs))
    plain_at z zs e f =
        (λ i. cond (e i) (Some []) (cond (f i) (content after_backslash zs)
        (cond (nat_lt z 32) None (prepend (z ∷ []) (content plain zs)))))

    control : (z : ℕ) (zs : List ℕ) → z ≡ 10 → content plain (z ∷ zs) ≡ None
    control z zs e = ap (λ k. content plain (k ∷ zs)) e

    by : IsPut x (text_byte x)
        → content plain (text_byte x ∷ ys) ≡ content plain (x ∷ xs)
    by (inl e) =
        ap (λ k. content plain (k ∷ ys)) e ∙ plain_at x ys q b
        ∙ ap (λ r. cond (nat_lt x 32) None (prepend (x ∷ []) r)) again
        ∙ sym (plain_at x xs q b)
    by (inr (inl e)) =
        ap (λ k. content plain (k ∷ ys)) e.1 ∙ sym (ap (λ k. content plain (k ∷ xs)) e.0)
    by (inr (inr e)) =
        ap (λ k. content plain (k ∷ ys)) e.1 ∙ sym (ap (λ k. content plain (k ∷ xs)) e.0)

-- four digits, and what is behind them
four : List ℕ → Option (ℕ × List ℕ)
four [] = None
four (a ∷ []) = None
four (a ∷ b ∷ []) = None
four (a ∷ b ∷ c ∷ []) = None
four (a ∷ b ∷ c ∷ d ∷ xs) = option_map (λ u. (u, xs)) (code_unit a b c d)

-- ---- four digits

-- a byte of a string is a digit and stays as it is, or neither it is one nor what is put there
DigitCopy : ℕ → ℕ → List ℕ → List ℕ → Type 0
DigitCopy a y xs ys =
    ((is_digit a 16 ≡ false) × (is_digit y 16 ≡ false)) ⊎ ((y ≡ a) × IsCopy Text xs ys)

digit_copy : (a y : ℕ) (xs ys : List ℕ) → IsCopy Text (a ∷ xs) (y ∷ ys) → DigitCopy a y xs ys
unfolding DigitCopy
digit_copy a y xs ys h = by_digit (cases_Bool (is_digit a 16))
  where
    -- what is no digit
    none : (c : Class) → is_digit a 16 ≡ false → y ≡ put_byte Text c a
        → is_digit y 16 ≡ false
    none quote e is = ap (λ z. is_digit z 16) is ∙ e
    none backslash e is = ap (λ z. is_digit z 16) is ∙ e
    none operator e is = ap (λ z. is_digit z 16) is ∙ e
    none space e is = ap (λ z. is_digit z 16) is ∙ by (text_byte-cases a)
      where
        by : IsPut a (text_byte a)
            → is_digit (text_byte a) 16 ≡ false
        by (inl k) = ap (λ z. is_digit z 16) k ∙ e
        by (inr (inl k)) = ap (λ z. is_digit z 16) k.1
        by (inr (inr k)) = ap (λ z. is_digit z 16) k.1
    none other e is = ap (λ z. is_digit z 16) is ∙ by (text_byte-cases a)
      where
        by : IsPut a (text_byte a)
            → is_digit (text_byte a) 16 ≡ false
        by (inl k) = ap (λ z. is_digit z 16) k ∙ e
        by (inr (inl k)) = ap (λ z. is_digit z 16) k.1
        by (inr (inr k)) = ap (λ z. is_digit z 16) k.1

    -- no digit is a byte of these
    no_byte : (n : ℕ) → is_digit n 16 ≡ false → is_digit a 16 ≡ true → a ≡ n → ⊥
    no_byte n e f k = true≢false (sym f ∙ ap (λ z. is_digit z 16) k ∙ e)

    same : is_digit a 16 ≡ true → text_byte a ≡ a
    same e = by (text_byte-cases a)
      where
        by : IsPut a (text_byte a)
            → text_byte a ≡ a
        by (inl k) = k
        by (inr (inl k)) = absurd (no_byte 10 refl e k.0)
        by (inr (inr k)) = absurd (no_byte 13 refl e k.0)

    -- a digit
    digit : (c : Class) → class a ≡ c → is_digit a 16 ≡ true
        → (y ≡ put_byte Text c a) × IsCopy (next_mode Text c) xs ys
        → (y ≡ a) × IsCopy Text xs ys
    digit quote k e g = absurd (no_byte 34 refl e (eqb-true a 34 (class_tells a quote k)))
    digit backslash k e g = absurd (no_byte 92 refl e (eqb-true a 92 (class_tells a backslash k).1))
    digit operator k e g = (g.0, g.1)
    digit space k e g = (g.0 ∙ same e, g.1)
    digit other k e g = (g.0 ∙ same e, g.1)

    by_digit : (is_digit a 16 ≡ true) ⊎ (is_digit a 16 ≡ false) → DigitCopy a y xs ys
    by_digit (inl e) = inr (digit (class a) refl e h)
    by_digit (inr e) = inl (e, none (class a) e h.0)

and_none : (p : Bool) → (p && false) ≡ false
and_none true = refl
and_none false = refl

-- where one of the four is none, there is no number
no_unit : (p : Bool) (n : ℕ) → p ≡ false → cond p (Some n) None ≡ None
no_unit p n e = ap (λ t. cond t (Some n) None) e

first_none : (a : ℕ) (xs : List ℕ) → is_digit a 16 ≡ false → four (a ∷ xs) ≡ None
unfolding four code_unit
first_none a [] e = refl
first_none a (b ∷ []) e = refl
first_none a (b ∷ c ∷ []) e = refl
first_none a (b ∷ c ∷ d ∷ xs) e =
    ap (λ t. option_map (λ u. (u, xs)) (cond (t && is_digit b 16 && is_digit c 16 && is_digit d 16)
    (Some (digit_value a * 4096 + digit_value b * 256 + digit_value c * 16 + digit_value d)) None)) e

second_none : (a b : ℕ) (xs : List ℕ) → is_digit b 16 ≡ false → four (a ∷ b ∷ xs) ≡ None
unfolding four code_unit
second_none a b [] e = refl
second_none a b (c ∷ []) e = refl
second_none a b (c ∷ d ∷ xs) e =
    ap (λ t. option_map (λ u. (u, xs)) (cond (t && is_digit c 16 && is_digit d 16)
    (Some (digit_value a * 4096 + digit_value b * 256 + digit_value c * 16 + digit_value d)) None))
    (ap (λ t. is_digit a 16 && t) e ∙ and_none (is_digit a 16))

third_none : (a b c : ℕ) (xs : List ℕ) → is_digit c 16 ≡ false → four (a ∷ b ∷ c ∷ xs) ≡ None
unfolding four code_unit
third_none a b c [] e = refl
third_none a b c (d ∷ xs) e =
    ap (λ t. option_map (λ u. (u, xs)) (cond (t && is_digit d 16)
    (Some (digit_value a * 4096 + digit_value b * 256 + digit_value c * 16 + digit_value d)) None))
    (ap (λ t. is_digit a 16 && is_digit b 16 && t) e ∙ and_none (is_digit a 16 && is_digit b 16))

last_none : (a b c d : ℕ) (xs : List ℕ) → is_digit d 16 ≡ false
    → four (a ∷ b ∷ c ∷ d ∷ xs) ≡ None
unfolding four code_unit
last_none a b c d xs e =
    ap (λ t. option_map (λ u. (u, xs)) (cond t
    (Some (digit_value a * 4096 + digit_value b * 256 + digit_value c * 16 + digit_value d)) None))
    (ap (λ t. is_digit a 16 && is_digit b 16 && is_digit c 16 && t) e
    ∙ and_none (is_digit a 16 && is_digit b 16 && is_digit c 16))

-- the same of both: nothing is read, or the same number, and the rest is a copy
record HaveRests (xs ys : List ℕ) : Type 0 where
  unit : Option ℕ
  rest : List ℕ
  left : List ℕ
  reads : four xs ≡ option_map (λ u. (u, rest)) unit
  copy_reads : four ys ≡ option_map (λ u. (u, left)) unit
  copied : (u : ℕ) → unit ≡ Some u → IsCopy Text rest left
  shorter : (u : ℕ) → unit ≡ Some u → length rest < length xs

neither : (xs ys : List ℕ) → four xs ≡ None → four ys ≡ None → HaveRests xs ys
neither xs ys e f =
    record {
      unit = None;
      rest = [];
      left = [];
      reads = e;
      copy_reads = f;
      copied = λ u k. absurd cc;
      shorter = λ u k. absurd cc;
    }

four_copy : (xs ys : List ℕ) → IsCopy Text xs ys → HaveRests xs ys
unfolding DigitCopy four
four_copy [] ys h = absurd (false≢true h.0)
four_copy (a ∷ xs) [] h = absurd h
four_copy (a ∷ xs) (a' ∷ ys) h = first (digit_copy a a' xs ys h)
  where
    last : (b c : ℕ) (zs ws : List ℕ) → a' ≡ a → IsCopy Text zs ws
        → HaveRests (a ∷ b ∷ c ∷ zs) (a' ∷ b ∷ c ∷ ws)
    last b c [] ws e g = absurd (false≢true g.0)
    last b c (d ∷ zs) [] e g = absurd g
    last b c (d ∷ zs) (d' ∷ ws) e g = by (digit_copy d d' zs ws g)
      where
        by : DigitCopy d d' zs ws → HaveRests (a ∷ b ∷ c ∷ d ∷ zs) (a' ∷ b ∷ c ∷ d' ∷ ws)
        by (inl k) = neither _ _ (last_none a b c d zs k.0) (last_none a' b c d' ws k.1)
        by (inr k) =
            record {
              unit = code_unit a b c d;
              rest = zs;
              left = ws;
              reads = refl;
              copy_reads = (λ i. option_map (λ u. (u, ws)) (code_unit (e i) b c (k.0 i)));
              copied = λ u m. k.1;
              shorter = λ u m. omega arith;
            }

    third : (b : ℕ) (zs ws : List ℕ) → a' ≡ a → IsCopy Text zs ws
        → HaveRests (a ∷ b ∷ zs) (a' ∷ b ∷ ws)
    third b [] ws e g = absurd (false≢true g.0)
    third b (c ∷ zs) [] e g = absurd g
    third b (c ∷ zs) (c' ∷ ws) e g = by (digit_copy c c' zs ws g)
      where
        by : DigitCopy c c' zs ws → HaveRests (a ∷ b ∷ c ∷ zs) (a' ∷ b ∷ c' ∷ ws)
        by (inl k) = neither _ _ (third_none a b c zs k.0) (third_none a' b c' ws k.1)
        by (inr k) =
            subst (λ z. HaveRests (a ∷ b ∷ c ∷ zs) (a' ∷ b ∷ z ∷ ws)) (sym k.0)
            (last b c zs ws e k.1)

    second : (zs ws : List ℕ) → a' ≡ a → IsCopy Text zs ws → HaveRests (a ∷ zs) (a' ∷ ws)
    second [] ws e g = absurd (false≢true g.0)
    second (b ∷ zs) [] e g = absurd g
    second (b ∷ zs) (b' ∷ ws) e g = by (digit_copy b b' zs ws g)
      where
        by : DigitCopy b b' zs ws → HaveRests (a ∷ b ∷ zs) (a' ∷ b' ∷ ws)
        by (inl k) = neither _ _ (second_none a b zs k.0) (second_none a' b' ws k.1)
        by (inr k) =
            subst (λ z. HaveRests (a ∷ b ∷ zs) (a' ∷ z ∷ ws)) (sym k.0) (third b zs ws e k.1)

    first : DigitCopy a a' xs ys → HaveRests (a ∷ xs) (a' ∷ ys)
    first (inl k) = neither _ _ (first_none a xs k.0) (first_none a' ys k.1)
    first (inr k) = second xs ys k.0 k.1

-- ---- what a string says

-- the mode in which a string is read on
abbrev pub within_mode : Within → Mode
within_mode plain = Text
within_mode after_backslash = Escape
within_mode after_u = Text
within_mode (after_high h) = Text

-- what is read of four digits, and then of the rest
of_unit : ℕ → List ℕ → Option (List ℕ)
of_unit u xs =
    cond (is_high_surrogate u) (content (after_high u) xs)
    (cond (is_low_surrogate u) None (prepend (encode_utf8 u) (content plain xs)))

of_pair : ℕ → ℕ → List ℕ → Option (List ℕ)
of_pair h l xs =
    cond (is_low_surrogate l) (prepend (encode_utf8 (surrogate_pair h l)) (content plain xs)) None

-- four digits that are read, and then the rest
behind_four : (ℕ → List ℕ → Option (List ℕ)) → Option (ℕ × List ℕ) → Option (List ℕ)
behind_four f None = None
behind_four f (Some p) = f p.0 p.1

after_u-four : (xs : List ℕ) → content after_u xs ≡ behind_four of_unit (four xs)
unfolding content of_unit four behind_four
after_u-four [] = refl
after_u-four (a ∷ []) = refl
after_u-four (a ∷ b ∷ []) = refl
after_u-four (a ∷ b ∷ c ∷ []) = refl
after_u-four (a ∷ b ∷ c ∷ d ∷ xs) = by (code_unit a b c d)
  where
    by : (o : Option ℕ)
        → option_and_then (λ u. cond (is_high_surrogate u) (content (after_high u) xs)
        (cond (is_low_surrogate u) None (prepend (encode_utf8 u) (content plain xs)))) o
        ≡ behind_four of_unit (option_map (λ u. (u, xs)) o)
    by None = refl
    by (Some u) = refl

abbrev nothing : Option (List ℕ)
nothing = None

nothing_either_way : (b : Bool) → nothing ≡ cond b nothing nothing
nothing_either_way true = refl
nothing_either_way false = refl

after_high-four : (h s u : ℕ) (xs : List ℕ)
    → content (after_high h) (s ∷ u ∷ xs)
    ≡ cond ((s == 92) && (u == 117)) (behind_four (of_pair h) (four xs)) None
unfolding content of_pair four behind_four
after_high-four h s u [] = nothing_either_way ((s == 92) && (u == 117))
after_high-four h s u (a ∷ []) = nothing_either_way ((s == 92) && (u == 117))
after_high-four h s u (a ∷ b ∷ []) = nothing_either_way ((s == 92) && (u == 117))
after_high-four h s u (a ∷ b ∷ c ∷ []) = nothing_either_way ((s == 92) && (u == 117))
after_high-four h s u (a ∷ b ∷ c ∷ d ∷ xs) = by (code_unit a b c d)
  where
    by : (o : Option ℕ)
        → cond ((s == 92) && (u == 117)) (option_and_then (λ l. cond (is_low_surrogate l)
        (prepend (encode_utf8 (surrogate_pair h l)) (content plain xs)) None) o) None
        ≡ cond ((s == 92) && (u == 117)) (behind_four (of_pair h) (option_map (λ l. (l, xs)) o))
        None
    by None = refl
    by (Some l) = refl

-- one byte alone is no escape
high_alone : (h s : ℕ) → content (after_high h) (s ∷ []) ≡ None
unfolding content
high_alone h s = refl

high_none : (h s : ℕ) (xs : List ℕ) → (s == 92) ≡ false → content (after_high h) (s ∷ xs) ≡ None
high_none h s [] e = high_alone h s
high_none h s (u ∷ xs) e =
    after_high-four h s u xs
    ∙ ap (λ t. cond (t && (u == 117)) (behind_four (of_pair h) (four xs)) None) e

-- The content is the same of all shorter texts.
abbrev SameBelow : ℕ → Type 0
SameBelow n = (w : Within) (xs ys : List ℕ) → length xs ≤ n → IsCopy (within_mode w) xs ys
    → content w ys ≡ content w xs

module _ (n : ℕ) (again : SameBelow n) where
  -- behind four digits
  rests : (f : ℕ → List ℕ → Option (List ℕ)) (xs ys : List ℕ) → length xs ≤ n + 1
      → ((u : ℕ) (zs ws : List ℕ) → length zs ≤ n → IsCopy Text zs ws → f u ws ≡ f u zs)
      → IsCopy Text xs ys → behind_four f (four ys) ≡ behind_four f (four xs)
  unfolding behind_four
  rests f xs ys le same h =
      let k = four_copy xs ys h in
      ap (behind_four f) k.copy_reads
      ∙ by k k.unit refl
      ∙ sym (ap (behind_four f) k.reads)
    where
      by : (k : HaveRests xs ys) (o : Option ℕ) → k.unit ≡ o
          → behind_four f (option_map (λ u. (u, k.left)) k.unit)
          ≡ behind_four f (option_map (λ u. (u, k.rest)) k.unit)
      by k None e =
          (λ i. behind_four f (option_map (λ u. (u, k.left)) (e i)))
          ∙ sym (λ i. behind_four f (option_map (λ u. (u, k.rest)) (e i)))
      by k (Some u) e =
          let shorter = k.shorter u e in
          (λ i. behind_four f (option_map (λ v. (v, k.left)) (e i)))
          ∙ same u k.rest k.left (omega arith) (k.copied u e)
          ∙ sym (λ i. behind_four f (option_map (λ v. (v, k.rest)) (e i)))

  unit_same : (u : ℕ) (zs ws : List ℕ) → length zs ≤ n → IsCopy Text zs ws
      → of_unit u ws ≡ of_unit u zs
  unfolding of_unit
  unit_same u zs ws le h =
      (λ i. cond (is_high_surrogate u) (again (after_high u) zs ws le h i)
      (cond (is_low_surrogate u) None (prepend (encode_utf8 u) (again plain zs ws le h i))))

  pair_same : (h u : ℕ) (zs ws : List ℕ) → length zs ≤ n → IsCopy Text zs ws
      → of_pair h u ws ≡ of_pair h u zs
  unfolding of_pair
  pair_same h u zs ws le g =
      (λ i. cond (is_low_surrogate u)
      (prepend (encode_utf8 (surrogate_pair h u)) (again plain zs ws le g i)) None)

  at_u : (xs ys : List ℕ) → length xs ≤ n + 1 → IsCopy Text xs ys
      → content after_u ys ≡ content after_u xs
  at_u xs ys le h =
      after_u-four ys ∙ rests of_unit xs ys le unit_same h ∙ sym (after_u-four xs)

  -- a quote, a backslash, or another byte
  at_plain : (c : Class) (x y : ℕ) (xs ys : List ℕ) → class x ≡ c → length xs ≤ n
      → y ≡ put_byte Text c x → IsCopy (next_mode Text c) xs ys
      → content plain (y ∷ ys) ≡ content plain (x ∷ xs)
  unfolding content
  at_plain quote x y xs ys k le e h =
      let is = eqb-true x 34 (class_tells x quote k) in
      ap (λ z. content plain (z ∷ ys)) (e ∙ is) ∙ sym (ap (λ z. content plain (z ∷ xs)) is)
  at_plain backslash x y xs ys k le e h =
      let is = eqb-true x 92 (class_tells x backslash k).1 in
      ap (λ z. content plain (z ∷ ys)) (e ∙ is) ∙ again after_backslash xs ys le h
      ∙ sym (ap (λ z. content plain (z ∷ xs)) is)
  at_plain operator x y xs ys k le e h =
      let t = class_tells x operator k in
      ap (λ z. content plain (z ∷ ys)) e
      ∙ (λ i. cond (t.0 i) (Some []) (cond (t.1 i) (content after_backslash ys)
      (cond (nat_lt x 32) None (prepend (x ∷ []) (again plain xs ys le h i)))))
      ∙ sym (λ i. cond (t.0 i) (Some []) (cond (t.1 i) (content after_backslash xs)
      (cond (nat_lt x 32) None (prepend (x ∷ []) (content plain xs)))))
  at_plain space x y xs ys k le e h =
      let t = class_tells x space k in
      ap (λ z. content plain (z ∷ ys)) e ∙ text_step x xs ys t.0 t.1 (again plain xs ys le h)
  at_plain other x y xs ys k le e h =
      let t = class_tells x other k in
      ap (λ z. content plain (z ∷ ys)) e ∙ text_step x xs ys t.0 t.1 (again plain xs ys le h)

  at_backslash : (x y : ℕ) (xs ys : List ℕ) → length xs ≤ n
      → y ≡ text_byte x → IsCopy Text xs ys
      → content after_backslash (y ∷ ys) ≡ content after_backslash (x ∷ xs)
  unfolding content short_escape
  at_backslash x y xs ys le e h = by (text_byte-cases x)
    where
      by : IsPut x (text_byte x)
          → content after_backslash (y ∷ ys) ≡ content after_backslash (x ∷ xs)
      by (inl s) =
          ap (λ z. content after_backslash (z ∷ ys)) (e ∙ s)
          ∙ (λ i. cond (x == 117) (at_u xs ys (omega arith) h i)
          (option_and_then (λ c. prepend (c ∷ []) (again plain xs ys le h i)) (short_escape x)))
      by (inr (inl s)) =
          ap (λ z. content after_backslash (z ∷ ys)) (e ∙ s.1)
          ∙ sym (ap (λ z. content after_backslash (z ∷ xs)) s.0)
      by (inr (inr s)) =
          ap (λ z. content after_backslash (z ∷ ys)) (e ∙ s.1)
          ∙ sym (ap (λ z. content after_backslash (z ∷ xs)) s.0)

  -- what is put in place of a byte behind a backslash is a `u` where that is one
  same_u : (x : ℕ) → (text_byte x == 117) ≡ (x == 117)
  same_u x = by (text_byte-cases x)
    where
      by : IsPut x (text_byte x)
          → (text_byte x == 117) ≡ (x == 117)
      by (inl s) = ap (λ z. z == 117) s
      by (inr (inl s)) = ap (λ z. z == 117) s.1 ∙ sym (ap (λ z. z == 117) s.0)
      by (inr (inr s)) = ap (λ z. z == 117) s.1 ∙ sym (ap (λ z. z == 117) s.0)

  -- behind a backslash that follows a high surrogate
  at_escape : (h x y : ℕ) (xs ys : List ℕ) → length xs ≤ n → x ≡ 92 → y ≡ x → IsCopy Escape xs ys
      → content (after_high h) (y ∷ ys) ≡ content (after_high h) (x ∷ xs)
  at_escape h x y [] ys le is e g = absurd (false≢true g.0)
  at_escape h x y (u ∷ xs) [] le is e g = absurd g
  at_escape h x y (u ∷ xs) (v ∷ ys) le is e g =
      let u_same = ap (λ z. z == 117) g.0 ∙ same_u u in
      let below : length xs ≤ n + 1 = omega arith in
      after_high-four h y v ys
      ∙ (λ i. cond ((e i == 92) && u_same i)
      (rests (of_pair h) xs ys below (pair_same h) g.1 i) None)
      ∙ sym (after_high-four h x u xs)

  at_high : (h : ℕ) (c : Class) (x y : ℕ) (xs ys : List ℕ) → class x ≡ c → length xs ≤ n
      → y ≡ put_byte Text c x → IsCopy (next_mode Text c) xs ys
      → content (after_high h) (y ∷ ys) ≡ content (after_high h) (x ∷ xs)
  at_high h quote x y xs ys k le e g =
      let no = ap (λ z. z == 92) (eqb-true x 34 (class_tells x quote k)) in
      high_none h y ys (ap (λ z. z == 92) e ∙ no) ∙ sym (high_none h x xs no)
  at_high h backslash x y xs ys k le e g =
      at_escape h x y xs ys le (eqb-true x 92 (class_tells x backslash k).1) e g
  at_high h operator x y xs ys k le e g =
      let no = (class_tells x operator k).1 in
      high_none h y ys (ap (λ z. z == 92) e ∙ no) ∙ sym (high_none h x xs no)
  at_high h space x y xs ys k le e g =
      let no = (class_tells x space k).1 in
      let not_put = (class_tells (text_byte x) space (text_class x ∙ k)).1 in
      high_none h y ys (ap (λ z. z == 92) e ∙ not_put) ∙ sym (high_none h x xs no)
  at_high h other x y xs ys k le e g =
      let no = (class_tells x other k).1 in
      let not_put = (class_tells (text_byte x) other (text_class x ∙ k)).1 in
      high_none h y ys (ap (λ z. z == 92) e ∙ not_put) ∙ sym (high_none h x xs no)

  at_byte : (w : Within) (x y : ℕ) (xs ys : List ℕ) → length xs ≤ n
      → IsCopy (within_mode w) (x ∷ xs) (y ∷ ys) → content w (y ∷ ys) ≡ content w (x ∷ xs)
  at_byte plain x y xs ys le h = at_plain (class x) x y xs ys refl le h.0 h.1
  at_byte after_backslash x y xs ys le h = at_backslash x y xs ys le h.0 h.1
  at_byte after_u x y xs ys le h = at_u (x ∷ xs) (y ∷ ys) (omega arith) h
  at_byte (after_high s) x y xs ys le h = at_high s (class x) x y xs ys refl le h.0 h.1

same_content : (n : ℕ) → SameBelow n
same_content n w [] ys le h = absurd (closed w h.0)
  where
    closed : (w : Within) → is_outside_string (within_mode w) ≡ true → ⊥
    closed plain e = false≢true e
    closed after_backslash e = false≢true e
    closed after_u e = false≢true e
    closed (after_high s) e = false≢true e
same_content n w (x ∷ xs) [] le h = absurd h
same_content zero w (x ∷ xs) (y ∷ ys) le h = absurd (omega arith)
same_content (suc n) w (x ∷ xs) (y ∷ ys) le h =
    at_byte n (same_content n) w x y xs ys (omega arith) h

-- A copy of a string says the same.
pub content-copy : (xs ys : List ℕ) → IsCopy Text xs ys → content plain ys ≡ content plain xs
content-copy xs ys h = same_content (length xs) plain xs ys (omega arith) h

-- ---- words

-- bytes and their copy are the same up to the end of a word
record HaveWord (xs ys : List ℕ) : Type 0 where
  front : List ℕ
  rest : List ℕ
  left : List ℕ
  is : xs ≡ front ++ rest
  copy_is : ys ≡ front ++ left
  ends : ends_word rest ≡ true
  copy_ends : ends_word left ≡ true

blanks_end : (ys : List ℕ) → AreBlank ys → ends_word ys ≡ true
blanks_end [] h = refl
blanks_end (y ∷ ys) h = space_ends y h.0

word_parts : (xs ys : List ℕ) → IsCopy Word xs ys → HaveWord xs ys
word_parts [] ys h =
    record {
      front = [];
      rest = [];
      left = ys;
      is = refl;
      copy_is = refl;
      ends = refl;
      copy_ends = blanks_end ys h.1;
    }
word_parts (x ∷ xs) [] h = absurd h
word_parts (x ∷ xs) (y ∷ ys) h = by (class x) refl h.0 h.1 (word_parts xs ys)
  where
    letter : y ≡ x → HaveWord xs ys → HaveWord (x ∷ xs) (y ∷ ys)
    letter e w =
        record {
          front = x ∷ w.front;
          rest = w.rest;
          left = w.left;
          is = ap (λ l. x ∷ l) w.is;
          copy_is = (λ i. e i ∷ w.copy_is i);
          ends = w.ends;
          copy_ends = w.copy_ends;
        }

    here : ends_word (x ∷ xs) ≡ true → ends_word (y ∷ ys) ≡ true → HaveWord (x ∷ xs) (y ∷ ys)
    here e f =
        record {
          front = [];
          rest = x ∷ xs;
          left = y ∷ ys;
          is = refl;
          copy_is = refl;
          ends = e;
          copy_ends = f;
        }

    by : (c : Class) → class x ≡ c → y ≡ put_byte Word c x → IsCopy (next_mode Word c) xs ys
        → (IsCopy Word xs ys → HaveWord xs ys) → HaveWord (x ∷ xs) (y ∷ ys)
    by quote k e g more = letter e (more g)
    by backslash k e g more = letter e (more g)
    by operator k e g more =
        here (operator_ends x k) (operator_ends y (ap class e ∙ k))
    by space k e g more =
        here (space_ends x k) (space_ends y (ap class e ∙ blank_class x))
    by other k e g more = letter e (more g)

word-copy : (x : ℕ) (xs ys : List ℕ) → IsCopy Word xs ys → word (x ∷ ys) ≡ word (x ∷ xs)
word-copy x xs ys h =
    let w = word_parts xs ys h in
    ap (λ l. word (x ∷ l)) w.copy_is ∙ same_word (x ∷ w.front) w.left w.rest w.copy_ends w.ends
    ∙ sym (ap (λ l. word (x ∷ l)) w.is)

-- ---- lexemes

-- blanks have none
no_lexemes : (m : Mode) (ys : List ℕ) → is_outside_string m ≡ true → AreBlank ys
    → lex (lex_mode m) ys ≡ []
unfolding lex
no_lexemes m [] e h = refl
no_lexemes Between (y ∷ ys) e h = lex_class between y ys space h.0 ∙ no_lexemes Between ys refl h.1
no_lexemes Word (y ∷ ys) e h = lex_class in_word y ys space h.0 ∙ no_lexemes Between ys refl h.1
no_lexemes Text (y ∷ ys) e h = absurd (false≢true e)
no_lexemes Escape (y ∷ ys) e h = absurd (false≢true e)

module _ (x y : ℕ) (xs ys : List ℕ) where
  -- what the lexer makes of a byte and of its copy
  abbrev SameLexemes : Mode → Class → Type 0
  SameLexemes m c =
      y ≡ put_byte m c x → IsCopy (next_mode m c) xs ys
      → lex (lex_mode (next_mode m c)) ys ≡ lex (lex_mode (next_mode m c)) xs
      → lex_byte (lex_mode m) c y ys (λ n. lex n ys) ≡ lex_byte (lex_mode m) c x xs (λ n. lex n xs)

  same_lexemes : (m : Mode) (c : Class) → SameLexemes m c
  same_lexemes Between quote e h again =
      (λ i. token (string_token (content-copy xs ys h i)) ∷ again i)
  same_lexemes Between backslash e h again = ap (λ l. token Token.bad ∷ l) again
  same_lexemes Between operator e h again = (λ i. operator_lexeme (e i) ∷ again i)
  same_lexemes Between space e h again = again
  same_lexemes Between other e h again =
      (λ i. token ((ap (λ z. word (z ∷ ys)) e ∙ word-copy x xs ys h) i) ∷ again i)
  same_lexemes Word quote e h again = again
  same_lexemes Word backslash e h again = again
  same_lexemes Word operator e h again = (λ i. operator_lexeme (e i) ∷ again i)
  same_lexemes Word space e h again = again
  same_lexemes Word other e h again = again
  same_lexemes Text quote e h again = again
  same_lexemes Text backslash e h again = again
  same_lexemes Text operator e h again = again
  same_lexemes Text space e h again = again
  same_lexemes Text other e h again = again
  same_lexemes Escape c e h again = again

-- what is put in place of a byte has its class
put_class : (m : Mode) (c : Class) (x : ℕ) → class x ≡ c → class (put_byte m c x) ≡ c
put_class Between quote x k = k
put_class Between backslash x k = k
put_class Between operator x k = k
put_class Between space x k = blank_class x
put_class Between other x k = k
put_class Word quote x k = k
put_class Word backslash x k = k
put_class Word operator x k = k
put_class Word space x k = blank_class x
put_class Word other x k = k
put_class Text quote x k = k
put_class Text backslash x k = k
put_class Text operator x k = k
put_class Text space x k = text_class x ∙ k
put_class Text other x k = text_class x ∙ k
put_class Escape c x k = text_class x ∙ k

lex-copy : (m : Mode) (xs ys : List ℕ) → IsCopy m xs ys
    → lex (lex_mode m) ys ≡ lex (lex_mode m) xs
unfolding lex
lex-copy m [] ys h = no_lexemes m ys h.0 h.1
lex-copy m (x ∷ xs) [] h = absurd h
lex-copy m (x ∷ xs) (y ∷ ys) h =
    let c = class x in
    let here : class y ≡ class x = ap class h.0 ∙ put_class m c x refl in
    lex_class (lex_mode m) y ys c here
    ∙ same_lexemes x y xs ys m c h.0 h.1 (lex-copy (next_mode m c) xs ys h.1)

-- A copy of bytes has their tokens.
pub tokens-copy : (xs ys : List ℕ) → IsCopy Between xs ys → tokens ys ≡ tokens xs
tokens-copy xs ys h = ap (punctuate fresh) (lex-copy Between xs ys h)
