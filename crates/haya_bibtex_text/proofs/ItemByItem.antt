-- Items that are read one after another.
use Rattle.std.proofs.Common.{◌≡◌, ◌++◌, List, ℕ, [], ◌∷◌, Some, None, true, false, cond, ap, sym}
use Rattle.haya_bibtex_text.specs.Items.{RawItem, Says, sign, stray_sign}
use Rattle.haya_bibtex_text.specs.Openings.{behind_at, is_remark, opening_at}

-- the items of what is left are the text's
abbrev pub Continues : List ℕ → List ℕ → Type 0
Continues text at = (is : List RawItem) → Says at is → Says text is

-- a sign that begins no entry is an item
pub sign_first : (text at next : List ℕ) → Continues text at → behind_at false at ≡ Some next → opening_at next ≡ None
    → is_remark next ≡ false → (is : List RawItem) → Says next is → Says text (sign ∷ is)
sign_first text at next so_far begins opens other is v =
    so_far (sign ∷ is) (stray_sign begins opens v (ap (λ b. cond b [] (sign ∷ []) ++ is) (sym other)))

-- but one before a remark is none
pub sign_of_remark : (text at next : List ℕ) → Continues text at → behind_at false at ≡ Some next → opening_at next ≡ None
    → is_remark next ≡ true → Continues text next
sign_of_remark text at next so_far begins opens remark is v =
    so_far is (stray_sign begins opens v (ap (λ b. cond b [] (sign ∷ []) ++ is) (sym remark)))
