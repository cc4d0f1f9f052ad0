-- Roman letters, row by row of their table.
use Rattle.std.proofs.Common.{◌≡◌, ℕ, ◌+◌, ◌<◌, ◌/◌, ◌%◌, List, [], ◌∷◌, ◌++◌, length, get_or, take, refl, ap, sym, ◌∙◌, append_assoc, add-one}
use Rattle.std.specs.Borrow.{Bor}
use Rattle.std.proofs.lemmas.List.{append-nil, take_more}
use Rattle.haya_numbers.specs.NumericForms.{copies}

-- a row: what the letters are worth, and the letters
abbrev pub Row : Type 0
Row = ℕ × Bor (List ℕ)

-- what these rows leave of a number, and the letters that they give for it
abbrev pub worth_left : List Row → ℕ → ℕ
worth_left [] n = n
worth_left (r ∷ rs) n = worth_left rs (n % r.0)

abbrev pub letters_of : List Row → ℕ → List ℕ
letters_of [] n = []
letters_of (r ∷ rs) n = copies (n / r.0) r.1.now ++ letters_of rs (n % r.0)

worth_left-push : (rs : List Row) (r : Row) (n : ℕ) → worth_left (rs ++ r ∷ []) n ≡ worth_left rs n % r.0
worth_left-push [] r n = refl
worth_left-push (q ∷ rs) r n = worth_left-push rs r (n % q.0)

letters_of-push : (rs : List Row) (r : Row) (n : ℕ) → letters_of (rs ++ r ∷ []) n ≡ letters_of rs n ++ copies (worth_left rs n / r.0) r.1.now
letters_of-push [] r n = append-nil (copies (n / r.0) r.1.now)
letters_of-push (q ∷ rs) r n =
    ap (λ v. copies (n / q.0) q.1.now ++ v) (letters_of-push rs r (n % q.0)) ∙ sym (append_assoc (copies (n / q.0) q.1.now) (letters_of rs (n % q.0)) (copies (worth_left rs (n % q.0) / r.0) r.1.now))

-- the same for the row that a loop is at
pub worth_left-more : (rs : List Row) (i : ℕ) (d : Row) (n left : ℕ) → i < length rs → left ≡ worth_left (take i rs) n → left % (get_or rs i d).0 ≡ worth_left (take (i + 1) rs) n
worth_left-more rs i d n left l e = rw (take_more rs i d l, worth_left-push (take i rs) (get_or rs i d) n, ← e) refl

pub letters_of-more : (rs : List Row) (i : ℕ) (d : Row) (n left : ℕ) → i < length rs → left ≡ worth_left (take i rs) n → letters_of (take i rs) n ++ copies (left / (get_or rs i d).0) (get_or rs i d).1.now ≡ letters_of (take (i + 1) rs) n
letters_of-more rs i d n left l e = rw (take_more rs i d l, letters_of-push (take i rs) (get_or rs i d) n, ← e) refl

-- one more copy
pub copies-more : (n : ℕ) (letters : List ℕ) → copies n letters ++ letters ≡ copies (n + 1) letters
copies-more n letters = rw add-one refl
