-- Which keys come again in the lines of a text so far.
use Rattle.std.proofs.Common.{◌≡◌, ℕ, suc, ◌+◌, ◌<◌, Bool, true, false, cond, ◌&&◌, ◌||◌, List, [], ◌∷◌, ◌++◌, Option, None, Some, Result, Ok, Err, length, map, take, get_or, fold, zero, refl, sym, ap, ◌∙◌, subst, append_assoc, append-nil, length-append, rules, tests, arith}
use Rattle.std.specs.Prelude.{◌==◌, IsOkAnd, MatchBool, is_some, nat_le, nat_lt, option_to_list}
use Rattle.std.specs.Char.{is_ascii_digit}
use Rattle.std.specs.List.{list_all, list_any, zip}
use Rattle.std.specs.Str.{bytes_eq}
use Rattle.std.specs.Str.Lines.{lines}
use Rattle.std.proofs.Math.Bool.{or-false, or_assoc}
use Rattle.std.proofs.lemmas.List.{length-take-le, map-append, same_from_push, take_all, take_more}
use Rattle.std.proofs.lemmas.List.Folds.{list_any-append}
use Rattle.std.proofs.lemmas.Bool.{true≢false}
use Rattle.std.proofs.lemmas.Slice.Eq.{bytes_eq-Decides}
use Rattle.hayagriva.specs.Library.{from_entries, get, has_key, key_of, push, with_replacement}
use Rattle.hayagriva.specs.Tree.{Fields, Tree, Trees, node, no_trees, one_more, trees, fields, new_entry}
use Rattle.haya_lines.specs.Items.{items}
use Rattle.std.specs.Str.Parse.{digits_value}
use Rattle.hayagriva.specs.EntryType.{type_read}
use Rattle.hayagriva.specs.declared.types.EntryType.{EntryType}
use Rattle.haya_lines.specs.Line.{Row, fields_read, is_depth, row_read, row_at}
use Rattle.haya_lines.specs.declared.error.LineError.{LineError}
use Rattle.haya_line_library.specs.Chain.{LastOf, TakesLine, TakesRow, chain_rows, left_rows}
use Rattle.haya_line_library.specs.Input.{rows_of, rows_of_all}
use Rattle.haya_line_library.specs.Opened.{Opened}
use Rattle.haya_line_library.specs.Repeats.{DescribesAgain, again, again_at, begins, begun_of, entry_numbers, repeated}
use Rattle.haya_line_library.proofs.Progress.{Progress, Progress-start, Progress-line, Progress-end}

-- ---- the keys of the rows at which an entry begins
abbrev first_keys : List Tree → List (List ℕ)
first_keys [] = []
first_keys (t ∷ ts) = key_of t ∷ []

abbrev head_keys : List Row → List (List ℕ)
head_keys [] = []
head_keys (row ∷ rows) = cond (row.depth == 0) (row.fields.key ∷ head_keys rows) (head_keys rows)

head_keys-append : (xs ys : List Row) → head_keys (xs ++ ys) ≡ head_keys xs ++ head_keys ys
head_keys-append [] ys = refl
head_keys-append (x ∷ xs) ys = by (head_keys-append xs ys) (x.depth == 0) refl
  where
    by : head_keys (xs ++ ys) ≡ head_keys xs ++ head_keys ys → (b : Bool) → (x.depth == 0) ≡ b → head_keys ((x ∷ xs) ++ ys) ≡ head_keys (x ∷ xs) ++ head_keys ys
    by rest true is = rw is (ap (λ l. x.fields.key ∷ l) rest)
    by rest false is = rw is rest

deeper : (d : ℕ) → (d + 1 == 0) ≡ false
deeper d = search (rules, tests)

mutual
  head_keys-deep : (d : ℕ) (t : Tree) → head_keys (rows_of (d + 1) t) ≡ []
  head_keys-deep d (node f ps) = rw (deeper d) (head_keys-all_deep (d + 1) ps)

  head_keys-all_deep : (d : ℕ) (ts : Trees) → head_keys (rows_of_all (d + 1) ts) ≡ []
  head_keys-all_deep d no_trees = refl
  head_keys-all_deep d (one_more t ts) =
      head_keys-append (rows_of (d + 1) t) (rows_of_all (d + 1) ts) ∙ ap (λ l. l ++ head_keys (rows_of_all (d + 1) ts)) (head_keys-deep d t) ∙ head_keys-all_deep d ts

head_keys-entry : (t : Tree) → head_keys (rows_of 0 t) ≡ key_of t ∷ []
head_keys-entry (node f ps) = ap (λ l. f.key ∷ l) (head_keys-all_deep 0 ps)

head_keys-entries : (ts : List Tree) → head_keys (rows_of_all 0 (trees ts)) ≡ map key_of ts
head_keys-entries [] = refl
head_keys-entries (t ∷ ts) =
    head_keys-append (rows_of 0 t) (rows_of_all 0 (trees ts)) ∙ ap (λ l. l ++ head_keys (rows_of_all 0 (trees ts))) (head_keys-entry t) ∙ ap (λ l. key_of t ∷ l) (head_keys-entries ts)

head_keys-deep_chain : (d : ℕ) (ts : List Tree) → head_keys (chain_rows (d + 1) ts) ≡ []
head_keys-deep_chain d [] = refl
head_keys-deep_chain d (t ∷ ts) =
    head_keys-append (rows_of (d + 1) t) (chain_rows (d + 1 + 1) ts) ∙ ap (λ l. l ++ head_keys (chain_rows (d + 1 + 1) ts)) (head_keys-deep d t) ∙ head_keys-deep_chain (d + 1) ts

head_keys-chain : (ts : List Tree) → head_keys (chain_rows 0 ts) ≡ first_keys ts
head_keys-chain [] = refl
head_keys-chain (t ∷ ts) =
    head_keys-append (rows_of 0 t) (chain_rows 1 ts) ∙ ap (λ l. l ++ head_keys (chain_rows 1 ts)) (head_keys-entry t) ∙ ap (λ l. key_of t ∷ l) (head_keys-deep_chain 0 ts)

-- the keys of entries and of the one that is open
abbrev begun_keys : List Tree → List Tree → List (List ℕ)
begun_keys given chain = map key_of given ++ first_keys chain

head_keys-left : (closed chain : List Tree) → head_keys (left_rows closed chain) ≡ begun_keys closed chain
head_keys-left closed chain =
    head_keys-append (rows_of_all 0 (trees closed)) (chain_rows 0 chain) ∙ ap (λ l. l ++ head_keys (chain_rows 0 chain)) (head_keys-entries closed)
    ∙ ap (λ l. map key_of closed ++ l) (head_keys-chain chain)

begun_keys-more : (given closed chain : List Tree) → begun_keys (given ++ closed) chain ≡ map key_of given ++ begun_keys closed chain
begun_keys-more given closed chain = ap (λ l. l ++ first_keys chain) (map-append key_of given closed) ∙ append_assoc (map key_of given) (map key_of closed) (first_keys chain)

-- a row that is taken begins an entry, or none
begun_keys-row : (given chain : List Tree) (row : Row) (now : Opened) → TakesRow row chain now
    → begun_keys (given ++ option_to_list now.closed) now.chain ≡ begun_keys given chain ++ head_keys (row ∷ [])
begun_keys-row given chain row now takes =
    begun_keys-more given (option_to_list now.closed) now.chain
    ∙ ap (λ l. map key_of given ++ l) (sym (head_keys-left (option_to_list now.closed) now.chain) ∙ ap head_keys takes.rows ∙ head_keys-append (chain_rows 0 chain) (row ∷ [])
    ∙ ap (λ l. l ++ head_keys (row ∷ [])) (head_keys-chain chain))
    ∙ sym (append_assoc (map key_of given) (first_keys chain) (head_keys (row ∷ [])))

-- ---- a line at which an entry begins
depth_zero : (a b c e f : Bool) (v : ℕ) → (a && (b && (c && (e && f)))) ≡ true → (a && (b && (c && (e && nat_le v 0)))) ≡ (v == 0)
depth_zero true true true true true zero h = refl
depth_zero true true true true true (suc v) h = search (rules, tests)
depth_zero true true true true false v h = cc
depth_zero true true true false f v h = cc
depth_zero true true false e f v h = cc
depth_zero true false c e f v h = cc
depth_zero false b c e f v h = cc

begins-row : (deepest : ℕ) (line : List (List ℕ)) (row : Row) → row_read deepest line ≡ Ok row → begins line ≡ (row.depth == 0)
begins-row deepest [] row read = cc
begins-row deepest (depth ∷ []) row read = cc
begins-row deepest (depth ∷ key ∷ []) row read = cc
begins-row deepest (depth ∷ key ∷ kind ∷ more) row read = by (is_depth deepest depth) refl (type_read kind) refl
  where
    by_fields : (k : EntryType) (r : Result Fields LineError) → row_at (digits_value 10 depth) r ≡ Ok row → row.depth ≡ digits_value 10 depth
    by_fields k (Ok f) is = let same : record { depth = digits_value 10 depth; fields = f } ≡ row = cc in sym (ap (λ (r : Row). r.depth) same)
    by_fields k (Err e) is = cc

    by : (b : Bool) → is_depth deepest depth ≡ b → (k : Option EntryType) → type_read kind ≡ k → is_depth 0 depth ≡ (row.depth == 0)
    by true deep (Some k) typed =
        let h : row_at (digits_value 10 depth) (fields_read (fields (new_entry key k)) more) ≡ Ok row = rw (deep, typed) at read in
        rw (by_fields k (fields_read (fields (new_entry key k)) more) h) (depth_zero (list_all is_ascii_digit depth) (nat_lt 0 (length depth)) (nat_lt (length depth) 4) (nat_le (digits_value 10 depth) 500) (nat_le (digits_value 10 depth) deepest) (digits_value 10 depth) deep)
    by true deep None typed = let h = rw (deep, typed) at read in cc
    by false deep k typed = let h = rw deep at read in cc

-- ---- a library has the keys of its entries
list_any-key : (key : List ℕ) (ts : List Tree) → list_any (has_key key) ts ≡ list_any (bytes_eq key) (map key_of ts)
list_any-key key [] = refl
list_any-key key (t ∷ ts) = ap (λ b. has_key key t || b) (list_any-key key ts)

is_some-get : (key : List ℕ) (ts : List Tree) → is_some (get key ts) ≡ list_any (has_key key) ts
is_some-get key [] = refl
is_some-get key (t ∷ ts) = by (is_some-get key ts) (has_key key t) refl
  where
    by : is_some (get key ts) ≡ list_any (has_key key) ts → (b : Bool) → has_key key t ≡ b → is_some (get key (t ∷ ts)) ≡ list_any (has_key key) (t ∷ ts)
    by rest true is = rw is refl
    by rest false is = rw is rest

abbrev has : List ℕ → List Tree → Bool
has key ts = list_any (has_key key) ts

same_key : (key : List ℕ) (t : Tree) → has_key key t ≡ true → key ≡ key_of t
same_key key t = (bytes_eq-Decides key (key_of t)).0

has-with_replacement : (key : List ℕ) (t : Tree) (a : List Tree) → has key (with_replacement t a) ≡ has key a
has-with_replacement key t [] = refl
has-with_replacement key t (u ∷ a) = by (has-with_replacement key t a) (has_key (key_of t) u) refl
  where
    by : has key (with_replacement t a) ≡ has key a → (b : Bool) → has_key (key_of t) u ≡ b → has key (with_replacement t (u ∷ a)) ≡ has key (u ∷ a)
    by rest true h = rw (h, rest) (ap (λ k. bytes_eq key k || has key a) (same_key (key_of t) u h))
    by rest false h = rw (h, rest) refl

or_known : (x y : Bool) → (y ≡ true → x ≡ true) → x ≡ (x || y)
or_known true y h = refl
or_known false true h = h refl
or_known false false h = refl

has-push : (key : List ℕ) (t : Tree) (a : List Tree) → has key (push t a) ≡ (has key a || has_key key t)
has-push key t a = by (has (key_of t) a) refl
  where
    by : (b : Bool) → has (key_of t) a ≡ b → has key (push t a) ≡ (has key a || has_key key t)
    by true h =
        rw (h, has-with_replacement key t a)
        (or_known (has key a) (has_key key t) (λ same. ap (λ k. has k a) (same_key key t same) ∙ h))
    by false h = rw h (list_any-append (has_key key) a (t ∷ []) ∙ ap (λ b. has key a || b) (or-false (has_key key t)))

has-pushed : (key : List ℕ) (done ts : List Tree) → has key (fold (λ done t. push t done) done ts) ≡ (has key done || has key ts)
has-pushed key done [] = sym (or-false (has key done))
has-pushed key done (t ∷ ts) =
    has-pushed key (push t done) ts ∙ ap (λ b. b || has key ts) (has-push key t done) ∙ or_assoc (has key done) (has_key key t) (has key ts)

-- a library has a key where one of its entries has it
pub finds_key : (key : List ℕ) (ts : List Tree) → is_some (get key (from_entries ts)) ≡ list_any (bytes_eq key) (map key_of ts)
finds_key key ts = is_some-get key (from_entries ts) ∙ has-pushed key [] ts ∙ list_any-key key ts

-- ---- keys that come again
zip-push : (ks : List (List ℕ)) (ns : List ℕ) (k : List ℕ) (n : ℕ) → length ks ≡ length ns → zip (ks ++ k ∷ []) (ns ++ n ∷ []) ≡ zip ks ns ++ (k, n) ∷ []
zip-push [] [] k n h = refl
zip-push [] (m ∷ ns) k n h = absurd (omega arith)
zip-push (l ∷ ks) [] k n h = absurd (omega arith)
zip-push (l ∷ ks) (m ∷ ns) k n h = ap (λ ps. (l, m) ∷ ps) (zip-push ks ns k n (omega arith))

keys-zip : (ks : List (List ℕ)) (ns : List ℕ) → length ks ≡ length ns → map (λ (p : List ℕ × ℕ). p.0) (zip ks ns) ≡ ks
keys-zip [] ns h = refl
keys-zip (k ∷ ks) [] h = absurd (omega arith)
keys-zip (k ∷ ks) (n ∷ ns) h = ap (λ l. k ∷ l) (keys-zip ks ns (omega arith))

abbrev if_before : List (List ℕ) → List ℕ × ℕ → List (List ℕ × ℕ)
if_before before p = cond (list_any (bytes_eq p.0) before) (p ∷ []) []

repeated-push : (before : List (List ℕ)) (ps : List (List ℕ × ℕ)) (p : List ℕ × ℕ)
    → repeated before (ps ++ p ∷ []) ≡ repeated before ps ++ if_before (before ++ map (λ (q : List ℕ × ℕ). q.0) ps) p
repeated-push before [] p = append-nil (if_before before p) ∙ ap (λ l. if_before l p) (sym (append-nil before))
repeated-push before (q ∷ ps) p =
    ap (λ l. if_before before q ++ l) (repeated-push (before ++ q.0 ∷ []) ps p ∙ ap (λ l. repeated (before ++ q.0 ∷ []) ps ++ if_before l p) (append_assoc before (q.0 ∷ []) (map (λ (q : List ℕ × ℕ). q.0) ps)))
    ∙ sym (append_assoc (if_before before q) (repeated (before ++ q.0 ∷ []) ps) (if_before (before ++ q.0 ∷ map (λ (q : List ℕ × ℕ). q.0) ps) p))

-- one key more, with its number
repeats-push : (ks : List (List ℕ)) (ns : List ℕ) (k : List ℕ) (n : ℕ) → length ks ≡ length ns
    → repeated [] (zip (ks ++ k ∷ []) (ns ++ n ∷ [])) ≡ repeated [] (zip ks ns) ++ if_before ks (k, n)
repeats-push ks ns k n h =
    ap (repeated []) (zip-push ks ns k n h) ∙ repeated-push [] (zip ks ns) (k, n) ∙ ap (λ l. repeated [] (zip ks ns) ++ if_before l (k, n)) (keys-zip ks ns h)

entry_numbers-append : (n : ℕ) (xs ys : List (List ℕ)) → entry_numbers n (xs ++ ys) ≡ entry_numbers n xs ++ entry_numbers (n + length xs) ys
entry_numbers-append n [] ys = let here : n ≡ n + 0 = omega arith in ap (λ m. entry_numbers m ys) here
entry_numbers-append n (x ∷ xs) ys =
    let there : n + 1 + length xs ≡ n + length (x ∷ xs) = omega arith in
    by (entry_numbers-append (n + 1) xs ys ∙ ap (λ m. entry_numbers (n + 1) xs ++ entry_numbers m ys) there) (begins (items x)) refl
  where
    by : entry_numbers (n + 1) (xs ++ ys) ≡ entry_numbers (n + 1) xs ++ entry_numbers (n + length (x ∷ xs)) ys → (b : Bool) → begins (items x) ≡ b
        → entry_numbers n ((x ∷ xs) ++ ys) ≡ entry_numbers n (x ∷ xs) ++ entry_numbers (n + length (x ∷ xs)) ys
    by rest true is = rw is (ap (λ l. n ∷ l) rest)
    by rest false is = rw is rest

-- ---- the lines so far
-- after so many lines the library is that of the entries that were closed, and these keys came
-- again
pub record Again (all : List (List ℕ)) (count : ℕ) (library chain : List Tree) (found : List (List ℕ × ℕ)) : Type 0 where
  pub progress : Progress all count library chain
  pub many : length (begun_keys progress.given chain) ≡ length (entry_numbers 1 (take count all))
  pub repeats : found ≡ repeated [] (zip (begun_keys progress.given chain) (entry_numbers 1 (take count all)))

pub Again-start : (all : List (List ℕ)) (library chain : List Tree) (found : List (List ℕ × ℕ)) → library ≡ [] → chain ≡ [] → found ≡ [] → Again all 0 library chain found
Again-start all library chain found no_library no_chain none = rw (no_library, no_chain, none) (record {
  progress = Progress-start all [] [] refl refl;
  many = refl;
  repeats = refl;
})

-- what stays where keys and numbers do, and where there is one of each more
abbrev Keeps : List (List ℕ) → List ℕ → List (List ℕ × ℕ) → Type 0
Keeps ks ns found = (length ks ≡ length ns) × (found ≡ repeated [] (zip ks ns))

keeps_same : (ks more_ks : List (List ℕ)) (ns more_ns : List ℕ) (found more : List (List ℕ × ℕ)) → Keeps ks ns found → more_ks ≡ ks → more_ns ≡ ns → more ≡ found → Keeps more_ks more_ns more
keeps_same ks more_ks ns more_ns found more keeps same_ks same_ns same = rw (same_ks, same_ns, same) keeps

keeps_one : (ks more_ks : List (List ℕ)) (ns more_ns : List ℕ) (found more : List (List ℕ × ℕ)) (k : List ℕ) (n : ℕ) → Keeps ks ns found → more_ks ≡ ks ++ k ∷ [] → more_ns ≡ ns ++ n ∷ []
    → more ≡ found ++ if_before ks (k, n) → Keeps more_ks more_ns more
keeps_one ks more_ks ns more_ns found more k n keeps put_k put_n put = (
  ap length put_k ∙ length-append ks (k ∷ []) ∙ ap (λ m. m + 1) keeps.0 ∙ sym (length-append ns (n ∷ [])) ∙ ap length (sym put_n),
  put ∙ ap (λ l. l ++ if_before ks (k, n)) keeps.1 ∙ sym (repeats-push ks ns k n keeps.0) ∙ ap (λ l. repeated [] (zip l (ns ++ n ∷ []))) (sym put_k) ∙ ap (λ l. repeated [] (zip more_ks l)) (sym put_n),
)

-- an empty line begins no entry
begins-empty : (line : List ℕ) → (length line == 0) ≡ true → begins (items line) ≡ false
begins-empty [] h = refl
begins-empty (b ∷ line) h = let some : (length (b ∷ line) == 0) ≡ false = search (rules, tests) in absurd (true≢false (sym h ∙ some))

-- ---- a line more
module _ (given chain : List Tree) (row : Row) (now : Opened) (takes : TakesRow row chain now) (next : List Tree) (of_given : next ≡ from_entries (given ++ option_to_list now.closed)) (number : ℕ) where
  -- a row of depth 0 begins an entry, and closes the others
  begun_first : (row.depth == 0) ≡ true
      → (k : List ℕ) × (begun_keys (given ++ option_to_list now.closed) now.chain ≡ begun_keys given chain ++ k ∷ [])
      × (again number next (begun_of now.chain) ≡ if_before (begun_keys given chain) (k, number))
  begun_first first = by now.chain (let d : row.depth ≡ 0 = search (rules, tests) in omega (arith, takes.depth, d)) (begun_keys-row given chain row now takes ∙ ap (λ l. begun_keys given chain ++ l) (rw first refl))
    where
      by : (opened : List Tree) → length opened ≡ 1 → begun_keys (given ++ option_to_list now.closed) opened ≡ begun_keys given chain ++ row.fields.key ∷ []
          → (k : List ℕ) × (begun_keys (given ++ option_to_list now.closed) opened ≡ begun_keys given chain ++ k ∷ []) × (again number next (begun_of opened) ≡ if_before (begun_keys given chain) (k, number))
      by [] one is = absurd (omega arith)
      by (t ∷ []) one is =
          let same = same_from_push (map key_of (given ++ option_to_list now.closed)) (begun_keys given chain) (key_of t) row.fields.key is in (
            key_of t,
            is ∙ ap (λ k. begun_keys given chain ++ k ∷ []) (sym same.1),
            ap (λ b. cond b ((key_of t, number) ∷ []) [])
                (ap (λ l. is_some (get (key_of t) l)) of_given ∙ finds_key (key_of t) (given ++ option_to_list now.closed) ∙ ap (list_any (bytes_eq (key_of t))) same.0),
          )
      by (t ∷ u ∷ more) one is = absurd (omega arith)

  -- a deeper row begins none
  begun_later : (row.depth == 0) ≡ false
      → (begun_keys (given ++ option_to_list now.closed) now.chain ≡ begun_keys given chain) × (again number next (begun_of now.chain) ≡ [])
  begun_later later =
      (begun_keys-row given chain row now takes ∙ ap (λ l. begun_keys given chain ++ l) (rw later refl) ∙ append-nil (begun_keys given chain), by now.chain refl)
    where
      deep : row.depth ≡ 0 → ⊥
      deep = search (rules, tests)

      by : (opened : List Tree) → now.chain ≡ opened → again number next (begun_of opened) ≡ []
      by [] is = refl
      by (t ∷ []) is = absurd (deep (let one : length now.chain ≡ 1 = ap length is in omega (arith, takes.depth, one)))
      by (t ∷ u ∷ more) is = refl

entry_numbers-more : (all : List (List ℕ)) (count : ℕ) (line : List ℕ) → count < length all → line ≡ get_or all count line
    → entry_numbers 1 (take (count + 1) all) ≡ entry_numbers 1 (take count all) ++ cond (begins (items line)) ((count + 1) ∷ []) []
entry_numbers-more all count line within is =
    let behind : 1 + length (take count all) ≡ count + 1 = omega (arith, length-take-le count all (omega (arith, within))) in
    ap (entry_numbers 1) (take_more all count line within ∙ ap (λ l. take count all ++ l ∷ []) (sym is)) ∙ entry_numbers-append 1 (take count all) (line ∷ [])
    ∙ ap (λ m. entry_numbers 1 (take count all) ++ entry_numbers m (line ∷ [])) behind

again_of : (all : List (List ℕ)) (count : ℕ) (library chain : List Tree) (found : List (List ℕ × ℕ)) (p : Progress all count library chain)
    → Keeps (begun_keys p.given chain) (entry_numbers 1 (take count all)) found → Again all count library chain found
again_of all count library chain found p keeps = record { progress = p; many = keeps.0; repeats = keeps.1 }

module _ (all : List (List ℕ)) (count : ℕ) (library chain : List Tree) (found : List (List ℕ × ℕ)) (so_far : Again all count library chain found) where
  keeps : Keeps (begun_keys so_far.progress.given chain) (entry_numbers 1 (take count all)) found
  keeps = (so_far.many, so_far.repeats)

  -- what is kept, with the entries that are closed by a line
  abbrev KeptAt : Opened → List Tree → List (List ℕ × ℕ) → Type 0
  KeptAt now opened more = Keeps (begun_keys (so_far.progress.given ++ option_to_list now.closed) opened) (entry_numbers 1 (take (count + 1) all)) more

  module _ (line : List ℕ) (within : count < length all) (is : line ≡ get_or all count line) (now : Opened) (next : List Tree) (of_given : next ≡ from_entries (so_far.progress.given ++ option_to_list now.closed)) (more : List (List ℕ × ℕ)) (told : more ≡ found ++ again_at line (count + 1) next now.chain) where
    numbers : entry_numbers 1 (take (count + 1) all) ≡ entry_numbers 1 (take count all) ++ cond (begins (items line)) ((count + 1) ∷ []) []
    numbers = entry_numbers-more all count line within is

    none_taken : (length line == 0) ≡ true → now ≡ record { chain = chain; closed = None } → KeptAt now now.chain more
    none_taken none same_now =
        keeps_same _ _ _ _ found more keeps
        (ap (λ o. begun_keys (so_far.progress.given ++ option_to_list o.closed) o.chain) same_now ∙ ap (λ l. begun_keys l chain) (append-nil so_far.progress.given))
        (numbers ∙ rw (begins-empty line none) (append-nil (entry_numbers 1 (take count all))))
        (told ∙ rw none (append-nil found))

    row_taken : (length line == 0) ≡ false → (row : Row) → row_read (length chain) (items line) ≡ Ok row → TakesRow row chain now → KeptAt now now.chain more
    row_taken some row read takes_row = at (row.depth == 0) refl
      where
        starts : (d : Bool) → (row.depth == 0) ≡ d → begins (items line) ≡ d
        starts d is_depth = begins-row (length chain) (items line) row read ∙ is_depth

        told_here : more ≡ found ++ again (count + 1) next (begun_of now.chain)
        told_here = told ∙ rw some refl

        at : (d : Bool) → (row.depth == 0) ≡ d → KeptAt now now.chain more
        at true first =
            let b = begun_first so_far.progress.given chain row now takes_row next of_given (count + 1) first in
            keeps_one _ _ _ _ found more b.0 (count + 1) keeps b.1 (numbers ∙ rw (starts true first) refl) (told_here ∙ ap (λ l. found ++ l) b.2)
        at false later =
            let b = begun_later so_far.progress.given chain row now takes_row next of_given (count + 1) later in
            keeps_same _ _ _ _ found more keeps b.0 (numbers ∙ rw (starts false later) (append-nil (entry_numbers 1 (take count all)))) (told_here ∙ ap (λ l. found ++ l) b.1 ∙ append-nil found)

    kept : TakesLine line chain now → KeptAt now now.chain more
    kept takes = by (length line == 0) refl takes
      where
        at_row : (r : Result Row LineError) → (length line == 0) ≡ false → row_read (length chain) (items line) ≡ r → IsOkAnd r (λ row. TakesRow row chain now) → KeptAt now now.chain more
        at_row (Ok row) some read takes_row = row_taken some row read takes_row
        at_row (Err e) some read takes_row = absurd takes_row

        by : (b : Bool) → (length line == 0) ≡ b → MatchBool b (now ≡ record { chain = chain; closed = None }) (IsOkAnd (row_read (length chain) (items line)) (λ row. TakesRow row chain now)) → KeptAt now now.chain more
        by true none takes_line = none_taken none takes_line
        by false some takes_line = at_row (row_read (length chain) (items line)) some refl takes_line

  pub Again-line : (line : List ℕ) → count < length all → line ≡ get_or all count line → (now : Opened) → TakesLine line chain now
      → (next : List Tree) → next ≡ fold (λ done t. push t done) library (option_to_list now.closed) → (left : List Tree) → left ≡ now.chain
      → (more : List (List ℕ × ℕ)) → more ≡ found ++ again_at line (count + 1) next left → Again all (count + 1) next left more
  Again-line line within is now takes next put left same more told =
      let progress = Progress-line all count library chain so_far.progress line within is now takes next put left same in
      again_of all (count + 1) next left more progress
      (subst (λ l. KeptAt now l more) (sym same) (kept line within is now next progress.of_given more (told ∙ ap (λ l. found ++ again_at line (count + 1) next l) same) takes))

-- all keys of the library's entries that come again
pub Again-end : (text : List ℕ) (count : ℕ) (library chain last : List Tree) (found : List (List ℕ × ℕ)) → Again (lines text) count library chain found → length (lines text) ≡ count
    → (now : Opened) → LastOf chain now → last ≡ fold (λ done t. push t done) library (option_to_list now.closed) → DescribesAgain text last found
Again-end text count library chain last found so_far whole now ends put = record {
  describes = Progress-end text count library chain last so_far.progress whole now ends put;
  repeats_are = so_far.repeats ∙ ap (λ l. repeated [] (zip l (entry_numbers 1 (take count (lines text))))) keys ∙ ap (λ l. repeated [] (zip (map key_of (so_far.progress.given ++ option_to_list now.closed)) (entry_numbers 1 l))) all;
}
  where
    all : take count (lines text) ≡ lines text
    all = take_all count (lines text) (omega (arith, whole))

    -- the one that was open is closed
    keys : begun_keys so_far.progress.given chain ≡ map key_of (so_far.progress.given ++ option_to_list now.closed)
    keys =
        ap (λ l. map key_of so_far.progress.given ++ l) (sym (head_keys-chain chain) ∙ ap head_keys (sym ends.rows) ∙ head_keys-left (option_to_list now.closed) now.chain ∙ ap (λ l. map key_of (option_to_list now.closed) ++ first_keys l) ends.none ∙ append-nil (map key_of (option_to_list now.closed)))
        ∙ sym (map-append key_of so_far.progress.given (option_to_list now.closed))
