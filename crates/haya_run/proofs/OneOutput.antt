-- One text is printed over a library.
use Rattle.std.proofs.Common.{Ordering, Less, ◌≡◌, ℕ, suc, true, List, [], ◌∷◌, ◌++◌, Ok, refl, sym, ap, ◌∙◌, arith}
use Rattle.std.specs.Prelude.{All, filter}
use Rattle.std.proofs.lemmas.List.Elements.{All-cons, All-head, All-nil, All-tail}
use Rattle.std.proofs.lemmas.List.Kept.{AllPairs-cons}
use Rattle.std.specs.Cmp.Lexicographic.{slice_cmp}
use Rattle.std.specs.FinMap.Entries.{below_all, find, is_sorted, same_entries}
use Rattle.std.specs.List.{AllByRecursion, AllPairs, AllZip, concat, flat_map}
use Rattle.std.specs.List.Sorted.{IsStrictlySortedBy}
use Rattle.std.specs.Map.{keys_of, lookup}
use Rattle.std.specs.Ordering.{is_eq, nat_cmp}
use Rattle.std.specs.Str.{bytes_eq, chars}
use Rattle.std.proofs.lemmas.Cmp.{nat_list_cmp_total}
use Rattle.std.proofs.lemmas.Float.{T_from_true}
use Rattle.std.proofs.lemmas.Map.Text.{is_eq-slice_cmp}
use Rattle.std.proofs.lemmas.Slice.Eq.{bytes_eq-Decides}
use Rattle.hayagriva.specs.Holds.{holds}
use Rattle.hayagriva.specs.Library.{key_of}
use Rattle.hayagriva.specs.Parts.{AreApart}
use Rattle.hayagriva.specs.Reading.{TextReads}
use Rattle.hayagriva.specs.Syntax.{Syntax}
use Rattle.hayagriva.specs.Tree.{Tree}
use Rattle.hayagriva.proofs.OneOutcome.{one_reading}
use Rattle.haya_lines.specs.Signs.{line_feed}
use Rattle.haya_line_library.specs.Input.{Describes}
use Rattle.haya_line_library.specs.Parts.{AreWholeLines, DescribeApart}
use Rattle.haya_line_library.proofs.OneLibrary.{Describes-same}
use Rattle.haya_line_library.proofs.Parts.{Describes-append, Describes-many}
use Rattle.haya_hits.specs.Line.{AreLinesAt, IsLineAt, binding_text}
use Rattle.haya_run.specs.Parts.{Shows}
use Rattle.haya_run.proofs.Parts.{AreLinesAt-append, AreLinesAt-many}

pub selector-same : (text : List ℕ) (s t : Syntax) → TextReads text s → TextReads text t → s ≡ t
selector-same text s t h k =
    let one = (one_reading text).2 in
    let same : Ok s ≡ Ok t = one (Ok s) h ∙ sym (one (Ok t) k) in cc

-- ---- names in order, with what they stand for
abbrev text_order : List ℕ → List ℕ → Ordering
text_order = slice_cmp nat_cmp

all_below : (k : List ℕ) (es : List (List ℕ × List ℕ)) → AllByRecursion (λ l. text_order k l ≡ Less) (keys_of es) → below_all text_order k es ≡ true
all_below k [] h = refl
all_below k (e ∷ es) h = rw (h.0, all_below k es h.1) refl

sorted : (es : List (List ℕ × List ℕ)) → IsStrictlySortedBy text_order (keys_of es) → is_sorted text_order es ≡ true
unfolding IsStrictlySortedBy
sorted [] h = refl
sorted (e ∷ es) h = rw (all_below e.0 es h.0, sorted es h.1) refl

find-lookup : (name : List ℕ) (es : List (List ℕ × List ℕ)) → find text_order name es ≡ lookup (bytes_eq name) es
find-lookup name [] = refl
find-lookup name (e ∷ es) = rw (is_eq-slice_cmp name e.0, find-lookup name es) refl

names-same : (es fs : List (List ℕ × List ℕ)) → IsStrictlySortedBy text_order (keys_of es) → IsStrictlySortedBy text_order (keys_of fs)
    → ((name : List ℕ) → lookup (bytes_eq name) es ≡ lookup (bytes_eq name) fs) → es ≡ fs
names-same es fs h k same =
    same_entries text_order nat_list_cmp_total (λ x y tied. (bytes_eq-Decides x y).0 (sym (is_eq-slice_cmp x y) ∙ ap is_eq tied)) es fs
    (T_from_true (is_sorted text_order es) (sorted es h)) (T_from_true (is_sorted text_order fs) (sorted fs k))
    (λ name. find-lookup name es ∙ same name ∙ sym (find-lookup name fs))

-- ---- lines
IsLineAt-same : (s : Syntax) (x : Tree) (l m : List ℕ) → IsLineAt s x l → IsLineAt s x m → l ≡ m
IsLineAt-same s x l m h k =
    let same = names-same h.names k.names h.order k.order (λ name. h.all name ∙ sym (k.all name)) in
    h.text ∙ ap (λ names. key_of x ++ flat_map (binding_text (λ text. text)) names ++ line_feed ∷ []) same ∙ sym k.text

all_same : {A B : Type 0} (R : A → B → Type 0) → ((x : A) (y z : B) → R x y → R x z → y ≡ z) → (xs : List A) (ys zs : List B) → AllZip R xs ys → AllZip R xs zs → ys ≡ zs
all_same R one [] [] [] h k = refl
all_same R one [] [] (z ∷ zs) h k = absurd k
all_same R one [] (y ∷ ys) zs h k = absurd h
all_same R one (x ∷ xs) [] zs h k = absurd h
all_same R one (x ∷ xs) (y ∷ ys) [] h k = absurd k
all_same R one (x ∷ xs) (y ∷ ys) (z ∷ zs) h k =
    let first : y ≡ z = one x y z h.0 k.0 in let rest : ys ≡ zs = all_same R one xs ys zs h.1 k.1 in cc

pub AreLinesAt-same : (s : Syntax) (library : List Tree) (p q : List ℕ) → AreLinesAt s library p → AreLinesAt s library q → p ≡ q
AreLinesAt-same s library p q f g =
    f.text ∙ ap concat (all_same (IsLineAt s) (IsLineAt-same s) (filter (holds s) library) f.lines g.lines f.each g.each) ∙ sym g.text

-- ---- what is printed for a word over a text
pub Shows-same : (word text p q : List ℕ) → Shows word text p → Shows word text q → p ≡ q
Shows-same word text p q f g =
    let library = Describes-same text f.library g.library f.describes g.describes in
    let selector = selector-same (chars word) f.selector g.selector f.reads g.reads in
    AreLinesAt-same g.selector g.library p q (rw (selector, library) at f.shows) g.shows

module _ (word : List ℕ) where
  pub Shows-append : (first second p q : List ℕ) → AreWholeLines first → DescribeApart first second → Shows word first p → Shows word second q
      → Shows word (first ++ second) (p ++ q)
  Shows-append first second p q whole apart f g =
      let same = selector-same (chars word) g.selector f.selector g.reads f.reads in
      record {
        library = f.library ++ g.library;
        selector = f.selector;
        describes = Describes-append first second f.library g.library whole (apart f.library g.library f.describes g.describes) f.describes g.describes;
        reads = f.reads;
        shows = AreLinesAt-append f.selector f.library g.library p q f.shows (rw same at g.shows);
      }

  -- the libraries of texts
  record AreShown (s : Syntax) (texts printed : List (List ℕ)) : Type 0 where
    parts : List (List Tree)
    describe : AllZip Describes texts parts
    apart : AllPairs AreApart parts
    show : AllZip (AreLinesAt s) parts printed

  all_apart : (t : List ℕ) (a : List Tree) (texts : List (List ℕ)) (parts : List (List Tree)) → Describes t a → All (DescribeApart t) texts → AllZip Describes texts parts
      → All (AreApart a) parts
  all_apart t a [] [] of h k = All-nil (AreApart a)
  all_apart t a [] (b ∷ parts) of h k = absurd k
  all_apart t a (u ∷ texts) [] of h k = absurd k
  all_apart t a (u ∷ texts) (b ∷ parts) of h k =
      All-cons (AreApart a) b parts (All-head (DescribeApart t) u texts h a b of k.0)
      (all_apart t a texts parts of (All-tail (DescribeApart t) u texts h) k.1)

  are_shown : (s : Syntax) (texts printed : List (List ℕ)) → TextReads (chars word) s → AllPairs DescribeApart texts → AllZip (Shows word) texts printed
      → AreShown s texts printed
  are_shown s [] [] reads apart h = record { parts = []; describe = tt; apart = λ i j d before within. absurd (omega arith); show = tt }
  are_shown s [] (p ∷ printed) reads apart h = absurd h
  are_shown s (t ∷ texts) [] reads apart h = absurd h
  are_shown s (t ∷ texts) (p ∷ printed) reads apart h =
      let f = h.0 in
      let more = are_shown s texts printed reads (λ i j d before within. apart (suc i) (suc j) d (omega arith) (omega arith)) h.1 in
      let same = selector-same (chars word) f.selector s f.reads reads in
      record {
        parts = f.library ∷ more.parts;
        describe = (f.describes, more.describe);
        apart =
            AllPairs-cons AreApart f.library more.parts
            (all_apart t f.library texts more.parts f.describes (λ k d within. apart 0 (suc k) d (omega arith) (omega arith)) more.describe) more.apart;
        show = (rw same at f.shows, more.show);
      }

  pub Shows-many : (s : Syntax) (texts printed : List (List ℕ)) → TextReads (chars word) s → All AreWholeLines texts → AllPairs DescribeApart texts
      → AllZip (Shows word) texts printed → Shows word (concat texts) (concat printed)
  Shows-many s texts printed reads whole apart h =
      let all = are_shown s texts printed reads apart h in
      record {
        library = flat_map (λ a. a) all.parts;
        selector = s;
        describes = Describes-many texts all.parts whole all.apart all.describe;
        reads = reads;
        shows = AreLinesAt-many s all.parts printed all.show;
      }
