-- Texts of sort keys.
use Rattle.std.proofs.Common.{◌≡◌, ◌≢◌, ℕ, Bool, true, false, cond, List, [], ◌∷◌, ◌++◌, eqb-true, refl, sym, ap, ◌∙◌, arith}
use Rattle.std.specs.Prelude.{◌==◌}
use Rattle.std.specs.Char.{encode_utf8}
use Rattle.std.proofs.lemmas.Str.{encode_ascii}
use Rattle.haya_questions.specs.SortText.{sort_words}

by_test : (b : ℕ) (bs : List ℕ) (x : Bool × List ℕ) (test : Bool) → (b == 45) ≡ test → ((rest : List ℕ) → b ∷ bs ≢ 45 ∷ rest) → cond test x (false, b ∷ bs) ≡ (false, b ∷ bs)
by_test b bs x true is h = absurd (h bs (ap (λ c. c ∷ bs) (eqb-true b 45 is)))
by_test b bs x false is h = refl

-- a text that doesn't begin with a hyphen is the place's
pub sort_words-bare : (text : List ℕ) → ((rest : List ℕ) → text ≢ encode_utf8 45 ++ rest) → (false, text) ≡ sort_words text
sort_words-bare [] h = refl
sort_words-bare (b ∷ bs) h = sym (by_test b bs (true, bs) (b == 45) refl (λ rest e. h rest (e ∙ ap (λ l. l ++ rest) (sym (encode_ascii 45 (omega arith))))))
