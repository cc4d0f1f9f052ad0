-- Values are found by their texts.
use Rattle.std.proofs.Common.{◌≡◌, ℕ, Bool, true, false, cond, ◌&&◌, List, [], ◌∷◌, map, Option, None, Some, refl, sym, ap, ◌∙◌}
use Rattle.std.proofs.Math.Path.{fun_ext}
use Rattle.std.proofs.lemmas.Slice.Eq.{bytes_eq-Decides, slice_eq-Decides}
use Rattle.std.specs.Bool.{Decides}
use Rattle.std.specs.Cmp.Lexicographic.{pointwise}
use Rattle.std.specs.HashMap.{HashMap, UpdatesBy, get_by}
use Rattle.std.specs.Map.{IsKeyTest, KeepsOthers}
use Rattle.std.specs.Option.{option_or}
use Rattle.std.specs.Prelude.{String, Vec, if◌then◌else◌}
use Rattle.std.specs.Str.{bytes_eq}
use Rattle.std.specs.String.{string_bytes, string_eq}
use Rattle.std.specs.declared.alloc.Global.{Global}

abbrev pub Key : Type 0
Key = Vec (String Global) Global

abbrev pub texts_of : Key → List (List ℕ)
texts_of k = map string_bytes k.items

abbrev pub key_eq : Key → Key → Bool
key_eq x y = pointwise string_eq x.items y.items

-- whether a key has these texts
abbrev pub has : List (List ℕ) → Key → Bool
has texts k = pointwise bytes_eq texts (texts_of k)

pub same_texts : (xs ys : List (String Global)) → pointwise string_eq xs ys ≡ pointwise bytes_eq (map string_bytes xs) (map string_bytes ys)
same_texts [] [] = refl
same_texts [] (y ∷ ys) = refl
same_texts (x ∷ xs) [] = refl
same_texts (x ∷ xs) (y ∷ ys) = ap (λ b. bytes_eq (string_bytes x) (string_bytes y) && b) (same_texts xs ys)

pub texts_eq-Decides : (xs ys : List (List ℕ)) → Decides (pointwise bytes_eq xs ys) (xs ≡ ys)
texts_eq-Decides xs ys = slice_eq-Decides bytes_eq-Decides xs ys (pointwise bytes_eq xs ys) refl

is_key_test : (texts : List (List ℕ)) → IsKeyTest key_eq (has texts)
is_key_test texts x y h = ap (λ t. pointwise bytes_eq t (texts_of y)) ((texts_eq-Decides texts (texts_of x)).0 h) ∙ sym (same_texts x.items y.items)

is_same_key : (k : Key) (texts : List (List ℕ)) → has texts k ≡ true → (y : Key) → has texts y ≡ key_eq k y
is_same_key k texts h y = is_key_test texts k y h

apart : (k : Key) (texts : List (List ℕ)) → has texts k ≡ false → (y : Key) → key_eq k y ≡ true → has texts y ≡ false
apart k texts h y e =
    let same : texts_of k ≡ texts_of y = (texts_eq-Decides (texts_of k) (texts_of y)).0 (sym (same_texts k.items y.items) ∙ e) in
    ap (pointwise bytes_eq texts) (sym same) ∙ h

module _ {S : Type 0} (m n : HashMap Key ℕ S) (k : Key) (w : Option ℕ) (updates : UpdatesBy key_eq (key_eq k) m n w) (texts : List (List ℕ)) where
  by_cases : (b : Bool) → has texts k ≡ b → get_by (has texts) n ≡ cond b w (get_by (has texts) m)
  unfolding KeepsOthers
  by_cases true h = ap (λ t. get_by t n) (fun_ext (is_same_key k texts h)) ∙ updates.1
  by_cases false h = updates.3 (has texts) (is_key_test texts) (apart k texts h)

  -- what is found of texts after a key is put
  pub get_after : get_by (has texts) n ≡ cond (has texts k) w (get_by (has texts) m)
  get_after = by_cases (has texts k) refl

-- where there was nothing under the key
pub put_new : (before : List (List ℕ) → Option ℕ) (values texts : List (List ℕ)) (place : ℕ) → before values ≡ None
    → cond (pointwise bytes_eq texts values) (Some place) (before texts)
    ≡ option_or (before texts) (if pointwise bytes_eq texts values then Some place else None)
put_new before values texts place none = by (pointwise bytes_eq texts values) refl (before texts) refl
  where
    by : (b : Bool) → pointwise bytes_eq texts values ≡ b → (o : Option ℕ) → before texts ≡ o
        → cond b (Some place) o ≡ option_or o (if b then Some place else None)
    by true h o e = let same : texts ≡ values = (texts_eq-Decides texts values).0 h in
        let nothing : o ≡ None = sym e ∙ ap before same ∙ none in
        rw nothing refl
    by false h None e = refl
    by false h (Some p) e = refl

-- where there was a place under the key
pub put_again : (before : List (List ℕ) → Option ℕ) (values texts : List (List ℕ)) (place found : ℕ) → before values ≡ Some found
    → before texts ≡ option_or (before texts) (if pointwise bytes_eq texts values then Some place else None)
put_again before values texts place found some = by (pointwise bytes_eq texts values) refl (before texts) refl
  where
    by : (b : Bool) → pointwise bytes_eq texts values ≡ b → (o : Option ℕ) → before texts ≡ o
        → o ≡ option_or o (if b then Some place else None)
    by b h (Some p) e = refl
    by false h None e = refl
    by true h None e = let same : texts ≡ values = (texts_eq-Decides texts values).0 h in
        absurd (let clash : Some found ≡ None = sym some ∙ ap before (sym same) ∙ e in cc)
