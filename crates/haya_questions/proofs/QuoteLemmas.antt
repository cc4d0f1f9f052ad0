-- Texts in quotes.
use Rattle.std.proofs.Common.{◌≡◌, ◌≢◌, ℕ, Bool, true, false, cond, List, [], ◌∷◌, ◌++◌, Option, None, Some, append_assoc, eq-eqb, eqb-true, refl, sym, ap, ◌∙◌, arith, rules, tests}
use Rattle.std.specs.Prelude.{◌==◌, encode_utf8_all, option_map}
use Rattle.std.specs.Char.{encode_utf8}
use Rattle.std.proofs.lemmas.Str.{encode_ascii}
use Rattle.haya_questions.specs.TestText.{at_end, quote, quoted, unquoted}

-- at a quote the text ends
pub quoted-quote : (c : ℕ) (cs : List ℕ) → c ≡ 34 → quoted false (c ∷ cs) ≡ at_end cs
quoted-quote c cs is = let test : (c == 34) ≡ true = eq-eqb c 34 is in rw test refl

-- a character that is neither a quote nor a backslash means itself
pub quoted-plain : (c : ℕ) (cs : List ℕ) → c ≢ 34 → c ≢ 92 → quoted false (c ∷ cs) ≡ option_map (λ t. c ∷ t) (quoted false cs)
quoted-plain c cs no_quote no_backslash =
    let first : (c == 34) ≡ false = search (rules, tests) in
    let second : (c == 92) ≡ false = search (rules, tests) in
    rw (first, second) refl

-- what is meant behind a text, with one more character in the text
pub one_more : (text : List ℕ) (c : ℕ) (meant : Option (List ℕ))
    → option_map (λ t. text ++ encode_utf8_all t) (option_map (λ t. c ∷ t) meant) ≡ option_map (λ t. (text ++ encode_utf8 c) ++ encode_utf8_all t) meant
one_more text c None = refl
one_more text c (Some t) = ap Some (sym (append_assoc text (encode_utf8 c) (encode_utf8_all t)))

-- a plain character is read
pub step_plain : (before after : List ℕ) (escaped : Bool) (c : ℕ) (rest cs : List ℕ) (whole : Option (List ℕ))
    → whole ≡ option_map (λ t. before ++ encode_utf8_all t) (quoted escaped rest) → escaped ≡ false → rest ≡ c ∷ cs → c ≢ 34 → c ≢ 92
    → after ≡ before ++ encode_utf8 c → whole ≡ option_map (λ t. after ++ encode_utf8_all t) (quoted escaped cs)
step_plain before after escaped c rest cs whole is unescaped first no_quote no_backslash more =
    is
    ∙ ap (λ e. option_map (λ t. before ++ encode_utf8_all t) (quoted e rest)) unescaped
    ∙ ap (λ r. option_map (λ t. before ++ encode_utf8_all t) (quoted false r)) first
    ∙ ap (option_map (λ t. before ++ encode_utf8_all t)) (quoted-plain c cs no_quote no_backslash)
    ∙ one_more before c (quoted false cs)
    ∙ ap (λ m. option_map (λ t. m ++ encode_utf8_all t) (quoted false cs)) (sym more)
    ∙ ap (λ e. option_map (λ t. after ++ encode_utf8_all t) (quoted e cs)) (sym unescaped)

-- the closing quote is read
pub step_quote : (before : List ℕ) (escaped : Bool) (c : ℕ) (rest cs : List ℕ) (whole closed : Option (List ℕ))
    → whole ≡ option_map (λ t. before ++ encode_utf8_all t) (quoted escaped rest) → escaped ≡ false → rest ≡ c ∷ cs → c ≡ 34
    → closed ≡ option_map (λ t. before ++ encode_utf8_all t) (at_end cs) → closed ≡ whole
step_quote before escaped c rest cs whole closed is unescaped first quote ends =
    ends
    ∙ sym (is
    ∙ ap (λ e. option_map (λ t. before ++ encode_utf8_all t) (quoted e rest)) unescaped
    ∙ ap (λ r. option_map (λ t. before ++ encode_utf8_all t) (quoted false r)) first
    ∙ ap (option_map (λ t. before ++ encode_utf8_all t)) (quoted-quote c cs quote))

by_test : (b : ℕ) (bs : List ℕ) (x : Option (List ℕ)) (test : Bool) → (b == 34) ≡ test → ((rest : List ℕ) → b ∷ bs ≢ 34 ∷ rest) → cond test x (Some (b ∷ bs)) ≡ Some (b ∷ bs)
by_test b bs x true is h = absurd (h bs (ap (λ c. c ∷ bs) (eqb-true b 34 is)))
by_test b bs x false is h = refl

-- a text that doesn't begin with a quote means itself
pub unquoted-bare : (text : List ℕ) → ((rest : List ℕ) → text ≢ encode_utf8 34 ++ rest) → unquoted text ≡ Some text
unfolding unquoted
unquoted-bare [] h = refl
unquoted-bare (b ∷ bs) h = by_test b bs _ (b == 34) refl (λ rest e. h rest (e ∙ ap (λ l. l ++ rest) (sym (encode_ascii 34 (omega arith)))))
