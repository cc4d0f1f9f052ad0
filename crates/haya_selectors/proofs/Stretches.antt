-- A list in rows.
use Rattle.std.proofs.Common.{◌≡◌, ℕ, zero, suc, ◌+◌, ◌*◌, ◌<◌, ◌≤◌, List, [], ◌∷◌, ◌++◌, length, take, drop, map, get_or, refl, sym, ap, ◌∙◌, arith}
use Rattle.std.specs.Prelude.{◌-◌, All}
use Rattle.std.proofs.Math.Nat.{mul-le-mul_right}
use Rattle.std.proofs.lemmas.List.{take_at, drop_at, length-append, drop-drop, drop-map, take-map, length-drop, length-take-le}
use Rattle.std.proofs.lemmas.List.Elements.{All-cons, All-head, All-nil, All-tail}
use Rattle.haya_selectors.specs.Tries.{joined, rows_of}

-- the row of a number
abbrev pub row_of : {A : Type 0} → ℕ → ℕ → List A → List A
row_of width m items = take width (drop (m * width) items)

-- a row ends before the rows do
pub row_fits : (m n width : ℕ) → m < n → m * width + width ≤ n * width
row_fits m n width l = let more : (m + 1) * width ≤ n * width = mul-le-mul_right width (omega arith) in omega arith

module _ {A : Type 0} where
  pub length-rows_of : (width n : ℕ) (items : List A) → length (rows_of width n items) ≡ n
  length-rows_of width zero items = refl
  length-rows_of width (suc n) items = let later = length-rows_of width n (drop width items) in omega (arith, later)

  first_row : (width : ℕ) (items : List A) → row_of width 0 items ≡ take width items
  first_row width items = let none : 0 * width ≡ 0 = omega arith in ap (λ k. take width (drop k items)) none

  next_row : (width m : ℕ) (items : List A) → row_of width m (drop width items) ≡ row_of width (suc m) items
  next_row width m items =
      let more : width + m * width ≡ suc m * width = omega arith in
      ap (take width) (drop-drop (m * width) width items ∙ ap (λ k. drop k items) more)

  pub get_or-rows_of : (width n m : ℕ) (items : List A) → m < n → get_or (rows_of width n items) m [] ≡ row_of width m items
  get_or-rows_of width zero m items l = absurd (omega arith)
  get_or-rows_of width (suc n) zero items l = sym (first_row width items)
  get_or-rows_of width (suc n) (suc m) items l = get_or-rows_of width n m (drop width items) (omega arith) ∙ next_row width m items

  pub rows_of-more : (width n : ℕ) (items : List A) → rows_of width (n + 1) items ≡ rows_of width n items ++ row_of width n items ∷ []
  rows_of-more width zero items = ap (λ row. row ∷ []) (sym (first_row width items))
  rows_of-more width (suc n) items =
      let e : suc n + 1 ≡ suc (n + 1) = omega arith in
      rw e (ap (λ rows. take width items ∷ rows) (rows_of-more width n (drop width items) ∙ ap (λ row. rows_of width n (drop width items) ++ row ∷ []) (next_row width n items)))

  pub rows_of-joined : (width : ℕ) (rows : List (List A)) → All (λ row. length row ≡ width) rows → rows_of width (length rows) (joined rows) ≡ rows
  rows_of-joined width [] h = refl
  rows_of-joined width (row ∷ rows) h =
      let long : length row ≡ width = All-head (λ row. length row ≡ width) row rows h in
      rw (take_at row (joined rows) width long, drop_at row (joined rows) width long)
      (ap (λ rows. row ∷ rows) (rows_of-joined width rows (All-tail (λ row. length row ≡ width) row rows h)))

  pub length-joined_rows : (width : ℕ) (rows : List (List A)) → All (λ row. length row ≡ width) rows → length (joined rows) ≡ length rows * width
  length-joined_rows width [] h = let none : 0 * width ≡ 0 = omega arith in sym none
  length-joined_rows width (row ∷ rows) h =
      let long : length row ≡ width = All-head (λ row. length row ≡ width) row rows h in
      let later = length-joined_rows width rows (All-tail (λ row. length row ≡ width) row rows h) in
      omega (arith, length-append row (joined rows), long, later)

  -- rows that are joined are found again
  pub rows_back : (width n : ℕ) (rows : List (List A)) (items : List A) → All (λ row. length row ≡ width) rows → n ≡ length rows → items ≡ joined rows → rows_of width n items ≡ rows
  rows_back width n rows items h l e = rw (l, e) (rows_of-joined width rows h)

  pub length_back : (width n : ℕ) (rows : List (List A)) (items : List A) → All (λ row. length row ≡ width) rows → n ≡ length rows → items ≡ joined rows → length items ≡ n * width
  length_back width n rows items h l e = rw (l, e) (length-joined_rows width rows h)

  pub length-row_of : (width n m : ℕ) (items : List A) → m < n → length items ≡ n * width → length (row_of width m items) ≡ width
  length-row_of width n m items l e =
      let fits = row_fits m n width l in
      length-take-le width (drop (m * width) items) (let left = length-drop (m * width) items in omega (arith, left, e, fits))

  pub width_of-rows : (width n : ℕ) (items : List A) → length items ≡ n * width → All (λ row. length row ≡ width) (rows_of width n items)
  width_of-rows width zero items e = All-nil (λ row. length row ≡ width)
  width_of-rows width (suc n) items e =
      let fits : width ≤ suc n * width = omega arith in
      All-cons (λ row. length row ≡ width) (take width items) (rows_of width n (drop width items)) (length-take-le width items (omega (arith, e, fits)))
      (width_of-rows width n (drop width items) (let left = length-drop width items in omega (arith, left, e)))

-- a stretch of items, each with `f`
pub stretch-map : {A B : Type 0} (f : A → B) (items : List A) (k n : ℕ) → map f (take (k + n - k) (drop k items)) ≡ take n (drop k (map f items))
stretch-map f items k n =
    let long : k + n - k ≡ n = omega arith in
    ap (λ n. map f (take n (drop k items))) long ∙ sym (take-map f n (drop k items)) ∙ ap (take n) (sym (drop-map f k items))
