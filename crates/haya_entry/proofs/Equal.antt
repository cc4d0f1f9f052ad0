-- The derived `==` tells whether two entries have the same view.
use Rattle.std.proofs.Common.{◌≡◌, ℕ, suc, zero, ◌+◌, ◌≤◌, Bool, true, ◌&&◌, List, [], ◌∷◌, ◌++◌, Option, Global, refl, ap, map, Vec, arith}
use Rattle.std.specs.Option.{option_to_list}
use Rattle.std.specs.Prelude.{String}
use Rattle.std.specs.String.{string_eq}
use lib.Pointwise.{pointwise}
use denote.Enum.Bare.{same_true, true_same}
use Rattle.haya_entry.specs.declared.entry.Entry.{Entry, out-Entry}
use Rattle.haya_entry.specs.contracts.types.EntryType as entry_type
use Rattle.haya_entry.specs.contracts.entry.EntryPartialEq.TheImpl as entry
use Rattle.haya_entry.specs.contracts.entry.EntryPartialEq.TheImpl.Laws as entry_laws
use Rattle.haya_entry.specs.contracts.serial_number.SerialNumberPartialEq.TheImpl as serial
use Rattle.haya_numbers.proofs.Equal.{numeric-tells}
use Rattle.haya_people.proofs.Equal.{persons-tell}
use Rattle.haya_people.proofs.RoleEqual.{persons_with_roles-tell}
use Rattle.haya_time.specs.DateEquality.{dates-tell, option-same}
use Rattle.haya_entry.specs.SerialNumber.{serial_entry, serial_view}
use Rattle.haya_entry.proofs.SerialLemmas.{told_apart}
use Rattle.haya_entry.specs.Tree.{Fields, Tree, Trees, node, trees, tree_list, fields, view, size, sizes}
use Rattle.haya_entry.proofs.Trees.{tree_list-trees, view_is}
use Rattle.haya_text.proofs.Tells.{Same, Tells, Same-both, Same-along, and-both, both-and, lists-tell, options-tell, strings-tell}
use Rattle.haya_text.proofs.Equal.{texts-tell}
use Rattle.haya_values.proofs.Equal.{numbers_or_texts-tell, pages_or_texts-tell, ranges_or_texts-tell, durations_or_texts-tell, urls-tell, publishers-tell}

abbrev Number : Type 0
Number = String Global × String Global

numbers-tell : Tells {X = Number} (λ p q. string_eq p.0 q.0 && string_eq p.1 q.1) serial_entry
numbers-tell p q = Same-both _ _ _ _ _ _ (strings-tell p.0 q.0) (strings-tell p.1 q.1)

pub serials-tell : Tells serial.ghosts.eq serial_view
serials-tell a b =
    let both = Same-both _ _ _ _ _ _ (options-tell _ serial_entry numbers-tell a.only b.only) (lists-tell _ serial_entry numbers-tell a.several.entries b.several.entries) in (
      λ h. ap (λ (parts : Option (List ℕ × List ℕ) × List (List ℕ × List ℕ)). option_to_list parts.0 ++ parts.1) (both.0 h),
      λ e. let parts = told_apart serial_entry a.only b.only a.several.entries b.several.entries a.apart b.apart e in both.1 (λ i. (parts.0 i, parts.1 i)),
    )

-- `==` of vectors, item by item
vectors-tell : {X V Z : Type 0} (E : X → X → Bool) (v : X → V) → Tells E v
    → Tells {X = Vec X Z} (λ a b. pointwise E a.items b.items) (λ a. map v a.items)
vectors-tell E v t a b = lists-tell E v t a.items b.items

-- where b holds so does P, and b holds where s and t are the same
abbrev Parts : {T : Type 0} → T → T → Bool → Type 0 → Type 0
Parts s t b P = (b ≡ true → P) × (s ≡ t → b ≡ true)

-- a test of one part of s and t, before tests of others
and-part : {T X P : Type 0} {s t : T} {b c : Bool} (part : T → X) → Same b (part s) (part t) → Parts s t c P → Parts s t (b && c) ((part s ≡ part t) × P)
and-part {b} {c} part h k = (λ e. let both = and-both b c e in (h.0 both.0, k.0 both.1), λ e. both-and b c (h.1 (ap part e)) (k.1 e))

-- a test of one field, before tests of others and as the last
and-field : {X P : Type 0} {s t : Tree} {b c : Bool} (field : Fields → X) → Same b (field (fields s)) (field (fields t)) → Parts s t c P → Parts s t (b && c) ((field (fields s) ≡ field (fields t)) × P)
and-field field = and-part (λ t. field (fields t))

last-field : {X : Type 0} {s t : Tree} {b : Bool} (field : Fields → X) → Same b (field (fields s)) (field (fields t)) → Parts s t b (field (fields s) ≡ field (fields t))
last-field field h = (h.0, λ e. h.1 (ap (λ t. field (fields t)) e))

-- where the parts decide, so do the tests
by-parts : {T P : Type 0} {s t : T} {b : Bool} → (P → s ≡ t) → Parts s t b P → Same b s t
by-parts f h = (λ e. f (h.0 e), h.1)

abbrev above : Tree → Trees
above (node f ps) = ps

-- one level, the tests in the order of the struct's fields
levels-tell : (x y : Entry)
    → Same (pointwise entry.ghosts.eq (out-Entry x).parents.items (out-Entry y).parents.items) (map view (out-Entry x).parents.items) (map view (out-Entry y).parents.items)
    → Same (entry.ghosts.eq x y) (view x) (view y)
levels-tell x y h = rw (entry_laws.is x y, view_is x, view_is y) (by-parts (λ e. cc)
    (and-field (λ f. f.key) (strings-tell (out-Entry x).key (out-Entry y).key)
    (and-field (λ f. f.entry_type) (same_true entry_type.the_type tt _ _, true_same entry_type.the_type _ _)
    (and-part above (Same-along _ trees tree_list _ _ (tree_list-trees _) (tree_list-trees _) h)
    (and-field (λ f. f.title) (options-tell _ _ texts-tell _ _)
    (and-field (λ f. f.location) (options-tell _ _ texts-tell _ _)
    (and-field (λ f. f.organization) (options-tell _ _ texts-tell _ _)
    (and-field (λ f. f.archive) (options-tell _ _ texts-tell _ _)
    (and-field (λ f. f.archive_location) (options-tell _ _ texts-tell _ _)
    (and-field (λ f. f.call_number) (options-tell _ _ texts-tell _ _)
    (and-field (λ f. f.note) (options-tell _ _ texts-tell _ _)
    (and-field (λ f. f.abstract_) (options-tell _ _ texts-tell _ _)
    (and-field (λ f. f.genre) (options-tell _ _ texts-tell _ _)
    (and-field (λ f. f.authors) (options-tell _ _ (vectors-tell _ _ persons-tell) _ _)
    (and-field (λ f. f.editors) (options-tell _ _ (vectors-tell _ _ persons-tell) _ _)
    (and-field (λ f. f.affiliated) (options-tell _ _ (vectors-tell _ _ persons_with_roles-tell) _ _)
    (and-field (λ f. f.date) (option-same _ dates-tell _ _)
    (and-field (λ f. f.publisher) (options-tell _ _ publishers-tell _ _)
    (and-field (λ f. f.url) (options-tell _ _ urls-tell _ _)
    (and-field (λ f. f.issue) (options-tell _ _ numbers_or_texts-tell _ _)
    (and-field (λ f. f.chapter) (options-tell _ _ numbers_or_texts-tell _ _)
    (and-field (λ f. f.volume) (options-tell _ _ numbers_or_texts-tell _ _)
    (and-field (λ f. f.edition) (options-tell _ _ numbers_or_texts-tell _ _)
    (and-field (λ f. f.volume_total) (options-tell _ _ numeric-tells _ _)
    (and-field (λ f. f.page_total) (options-tell _ _ numeric-tells _ _)
    (and-field (λ f. f.page_range) (options-tell _ _ pages_or_texts-tell _ _)
    (and-field (λ f. f.time_range) (options-tell _ _ ranges_or_texts-tell _ _)
    (and-field (λ f. f.runtime) (options-tell _ _ durations_or_texts-tell _ _)
    (and-field (λ f. f.serial_number) (options-tell _ _ serials-tell _ _)
    (last-field (λ f. f.language) (options-tell _ _ strings-tell _ _)))))))))))))))))))))))))))))))

-- the same for lists of trees of at most n entries
lists-tell-below : (n : ℕ) → ((x y : Entry) → size (view x) ≤ n → Same (entry.ghosts.eq x y) (view x) (view y))
    → (xs ys : List Entry) → sizes (trees (map view xs)) ≤ n → Same (pointwise entry.ghosts.eq xs ys) (map view xs) (map view ys)
lists-tell-below n t [] [] s = (λ _. refl, λ _. refl)
lists-tell-below n t [] (y ∷ ys) s = (λ h. cc, λ h. cc)
lists-tell-below n t (x ∷ xs) [] s = (λ h. cc, λ h. cc)
lists-tell-below n t (x ∷ xs) (y ∷ ys) s =
    let here = t x y (omega arith) in
    let rest = lists-tell-below n t xs ys (omega arith) in (
      λ h. let p = and-both (entry.ghosts.eq x y) (pointwise entry.ghosts.eq xs ys) h in let a : view x ≡ view y = here.0 p.0 in let b : map view xs ≡ map view ys = rest.0 p.1 in ap (λ (q : Tree × List Tree). q.0 ∷ q.1) (λ i. (a i, b i)),
      λ h. let a : view x ≡ view y = cc in let b : map view xs ≡ map view ys = cc in both-and (entry.ghosts.eq x y) (pointwise entry.ghosts.eq xs ys) (here.1 a) (rest.1 b),
    )

size_is : (x : Entry) → size (view x) ≡ 1 + sizes (trees (map view (out-Entry x).parents.items))
size_is x = ap size (view_is x)

tells-below : (n : ℕ) (x y : Entry) → size (view x) ≤ n → Same (entry.ghosts.eq x y) (view x) (view y)
tells-below zero x y s = absurd (omega (arith, size_is x))
tells-below (suc n) x y s = levels-tell x y (lists-tell-below n (tells-below n) (out-Entry x).parents.items (out-Entry y).parents.items (omega (arith, size_is x)))

pub entries-tell : Tells entry.ghosts.eq view
entries-tell x y = tells-below (size (view x)) x y (omega arith)
