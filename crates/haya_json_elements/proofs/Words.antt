-- A word is known at the operator, the space or the end behind it.
use Rattle.std.proofs.Common.{◌≡◌, ℕ, ◌+◌, ◌-◌, ◌<◌, Bool, true, false, ◌&&◌, ◌||◌, ◌==◌, nat_eq, cond, List, [], ◌∷◌, ◌++◌, length, take, drop, Option, Some, None, option_map, option_and_then, inl, inr, ◌⊎◌, refl, sym, ap, ◌∙◌, arith, length-append}
use Rattle.std.specs.Char.{is_ascii_digit}
use Rattle.std.specs.List.{AllByRecursion, prefix_len, starts_with}
use Rattle.std.proofs.lemmas.Bool.{true≢false, eqb-true, leb-true, ne_eqb, and_parts, or_cases, cases_Bool, agree_below_at}
use Rattle.std.proofs.lemmas.List.{drop-append-le, take-append-le}
use Rattle.std.proofs.lemmas.List.Sums.{prefix_len-le-length}
use Rattle.json.specs.Ascii as ascii
use Rattle.json.specs.Token.{Token}
use Rattle.json.specs.Word.{is_operator, is_space, head, ends_word, after_digits, after_minus, after_sign, after_whole, after_fraction, after_exponent, after_number, number_before, literal, word}

-- the byte ends a word
abbrev pub is_word_end : ℕ → Bool
is_word_end c = is_operator c || is_space c

-- none of the bytes ends a word
abbrev pub AreLetters : List ℕ → Type 0
AreLetters cs = AllByRecursion (λ c. is_word_end c ≡ false) cs

module _ (rest : List ℕ) (ended : ends_word rest ≡ true) where
  same_head : (c : ℕ) (t : List ℕ) → is_word_end c ≡ false → (head (t ++ rest) == c) ≡ (head t == c)
  same_head c [] h =
      ne_eqb (head rest) c (λ e. true≢false (sym ended ∙ ap is_word_end e ∙ h))
      ∙ sym (ne_eqb 32 c (λ e. true≢false (ap is_word_end e ∙ h)))
  same_head c (x ∷ xs) h = refl

  -- the byte c is passed
  one : (c : ℕ) (t : List ℕ) → is_word_end c ≡ false → (head t == c) ≡ true
      → drop 1 (t ++ rest) ≡ drop 1 t ++ rest
  one c [] h e = absurd (true≢false (ap is_word_end (eqb-true 32 c e) ∙ h))
  one c (x ∷ xs) h e = refl

  one_of : (a b : ℕ) (t : List ℕ) → is_word_end a ≡ false → is_word_end b ≡ false
      → ((head t == a) || (head t == b)) ≡ true → drop 1 (t ++ rest) ≡ drop 1 t ++ rest
  one_of a b t h k e = by (or_cases _ _ e)
    where
      by : ((head t == a) ≡ true) ⊎ ((head t == b) ≡ true) → drop 1 (t ++ rest) ≡ drop 1 t ++ rest
      by (inl p) = one a t h p
      by (inr p) = one b t k p

  optional : (t : List ℕ) (b c : Bool) → c ≡ b → (b ≡ true → drop 1 (t ++ rest) ≡ drop 1 t ++ rest)
      → cond c (drop 1 (t ++ rest)) (t ++ rest) ≡ cond b (drop 1 t) t ++ rest
  optional t true c e f = ap (λ d. cond d (drop 1 (t ++ rest)) (t ++ rest)) e ∙ f refl
  optional t false c e f = ap (λ d. cond d (drop 1 (t ++ rest)) (t ++ rest)) e

  -- a part leaves the same of a text that goes on with the rest, and then the rest
  abbrev KeepsRest : (List ℕ → Option (List ℕ)) → List ℕ → Type 0
  KeepsRest f t = f (t ++ rest) ≡ option_map (λ r. r ++ rest) (f t)

  choose : (b c : Bool) (x y p q : Option (List ℕ)) → c ≡ b
      → (b ≡ true → p ≡ option_map (λ r. r ++ rest) x) → q ≡ option_map (λ r. r ++ rest) y
      → cond c p q ≡ option_map (λ r. r ++ rest) (cond b x y)
  choose true c x y p q e f g = ap (λ d. cond d p q) e ∙ f refl
  choose false c x y p q e f g = ap (λ d. cond d p q) e ∙ g

  then : (f : List ℕ → Option (List ℕ)) → ((t : List ℕ) → KeepsRest f t) → (o : Option (List ℕ))
      → option_and_then f (option_map (λ r. r ++ rest) o)
      ≡ option_map (λ r. r ++ rest) (option_and_then f o)
  then f g None = refl
  then f g (Some r) = g r

  no_digit : (r : List ℕ) → ends_word r ≡ true → prefix_len is_ascii_digit r ≡ 0
  no_digit [] h = refl
  no_digit (x ∷ xs) h = by (cases_Bool (is_ascii_digit x))
    where
      by : (is_ascii_digit x ≡ true) ⊎ (is_ascii_digit x ≡ false)
          → prefix_len is_ascii_digit (x ∷ xs) ≡ 0
      by (inr e) = ap (λ b. cond b (1 + prefix_len is_ascii_digit xs) 0) e
      by (inl e) =
          let small : x < 58 = omega (arith, leb-true x 57 (and_parts _ _ e).1) in
          absurd (true≢false ((λ i. sym e i && sym h i)
          ∙ agree_below_at (λ y. is_ascii_digit y && is_word_end y) (λ y. false) 58 x refl
          small))

  digit_run : (t : List ℕ) → prefix_len is_ascii_digit (t ++ rest) ≡ prefix_len is_ascii_digit t
  digit_run [] = no_digit rest ended
  digit_run (x ∷ xs) = ap (λ n. cond (is_ascii_digit x) (1 + n) 0) (digit_run xs)

  digits : (t : List ℕ) → KeepsRest after_digits t
  digits t =
      let n = prefix_len is_ascii_digit t in
      ap (λ m. cond (m == 0) None (Some (drop m (t ++ rest)))) (digit_run t)
      ∙ choose (n == 0) (n == 0) None (Some (drop n t)) None _ refl (λ e. refl)
      (ap Some (drop-append-le n t rest (prefix_len-le-length is_ascii_digit t)))

  whole : (t : List ℕ) → KeepsRest after_whole t
  whole t = choose (head t == 48) _ (Some (drop 1 t)) _ _ _ (same_head 48 t refl)
      (λ e. ap Some (one 48 t refl e)) (digits t)

  fraction : (t : List ℕ) → KeepsRest after_fraction t
  fraction t = choose (head t == 46) _ _ (Some t) _ _ (same_head 46 t refl)
      (λ e. ap after_digits (one 46 t refl e) ∙ digits (drop 1 t)) refl

  sign : (t : List ℕ) → after_sign (t ++ rest) ≡ after_sign t ++ rest
  sign t = optional t _ _ (λ i. same_head 45 t refl i || same_head 43 t refl i)
      (one_of 45 43 t refl refl)

  exponent : (t : List ℕ) → KeepsRest after_exponent t
  exponent t =
      choose ((head t == 101) || (head t == 69)) _ _ (Some t) _ _
      (λ i. same_head 101 t refl i || same_head 69 t refl i)
      (λ e. ap (λ u. after_digits (after_sign u)) (one_of 101 69 t refl refl e)
      ∙ ap after_digits (sign (drop 1 t)) ∙ digits (after_sign (drop 1 t))) refl

  whole_number : (t : List ℕ) → KeepsRest after_number t
  unfolding after_number
  whole_number t =
      let minus : after_minus (t ++ rest) ≡ after_minus t ++ rest =
      optional t _ _ (same_head 45 t refl) (one 45 t refl) in
      ap (λ u. option_and_then after_exponent (option_and_then after_fraction (after_whole u)))
      minus
      ∙ ap (λ o. option_and_then after_exponent (option_and_then after_fraction o))
      (whole (after_minus t))
      ∙ ap (option_and_then after_exponent) (then after_fraction fraction
      (after_whole (after_minus t)))
      ∙ then after_exponent exponent (option_and_then after_fraction (after_whole (after_minus t)))

  ends_same : (t : List ℕ) → ends_word (t ++ rest) ≡ ends_word t
  ends_same [] = ended
  ends_same (x ∷ xs) = refl

  number_same : (t : List ℕ) (o : Option (List ℕ))
      → number_before (t ++ rest) (option_map (λ r. r ++ rest) o) ≡ number_before t o
  number_same t None = refl
  number_same t (Some r) =
      let size : length (t ++ rest) - length (r ++ rest) ≡ length t - length r =
      omega (arith, length-append t rest, length-append r rest) in
      let text : take (length (t ++ rest) - length (r ++ rest)) (t ++ rest)
      ≡ take (length t - length r) t =
      ap (λ n. take n (t ++ rest)) size ∙ take-append-le (length t - length r) t rest
      (omega arith) in
      (λ i. cond (ends_same r i) (Token.number (text i)) Token.bad)

  -- the text begins with the name, and it ends there
  abbrev is_named : List ℕ → List ℕ → Bool
  is_named name t = starts_with nat_eq t name && ends_word (drop (length name) t)

  no_name : (c : ℕ) (cs r : List ℕ) → is_word_end c ≡ false → ends_word r ≡ true
      → is_named (c ∷ cs) r ≡ false
  no_name c cs [] h e = refl
  no_name c cs (x ∷ xs) h e =
      let other : nat_eq c x ≡ false =
      ne_eqb c x (λ p. true≢false (sym e ∙ ap is_word_end (sym p) ∙ h)) in
      ap (λ b. (b && starts_with nat_eq xs cs) && ends_word (drop (length cs) xs)) other

  behind_byte : (a p q s t : Bool) → (p && q) ≡ (s && t) → ((a && p) && q) ≡ ((a && s) && t)
  behind_byte true p q s t e = e
  behind_byte false p q s t e = refl

  named_same : (name t : List ℕ) → AreLetters name → is_named name (t ++ rest) ≡ is_named name t
  named_same [] t l = ends_same t
  named_same (c ∷ cs) [] l = no_name c cs rest l.0 ended
  named_same (c ∷ cs) (x ∷ xs) l = behind_byte (nat_eq c x) _ _ _ _ (named_same cs xs l.1)

  literal_same : (name : List ℕ) (k : Token) (t : List ℕ) → AreLetters name
      → literal name k (t ++ rest) ≡ literal name k t
  literal_same name k t l = ap (λ b. cond b k Token.bad) (named_same name t l)

  word_same : (t : List ℕ) → word (t ++ rest) ≡ word t
  unfolding word
  word_same t =
      let number : number_before (t ++ rest) (after_number (t ++ rest))
      ≡ number_before t (after_number t) =
      ap (number_before (t ++ rest)) (whole_number t) ∙ number_same t (after_number t) in
      let true_letters : AreLetters ascii.true_text = (refl, (refl, (refl, (refl, tt)))) in
      let false_letters : AreLetters ascii.false_text =
      (refl, (refl, (refl, (refl, (refl, tt))))) in
      let null_letters : AreLetters ascii.null_text = (refl, (refl, (refl, (refl, tt)))) in
      (λ i. cond (same_head 116 t refl i) (literal_same ascii.true_text (Token.boolean true) t
      true_letters i)
      (cond (same_head 102 t refl i) (literal_same ascii.false_text (Token.boolean false) t
      false_letters i)
      (cond (same_head 110 t refl i) (literal_same ascii.null_text Token.null t null_letters i)
      (number i))))

-- a word is the same before all texts that end one
pub same_word : (t r s : List ℕ) → ends_word r ≡ true → ends_word s ≡ true
    → word (t ++ r) ≡ word (t ++ s)
same_word t r s er es = word_same r er t ∙ sym (word_same s es t)
