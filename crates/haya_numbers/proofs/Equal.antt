-- The derived `==` of numbers tells whether they are equal by value.
use Rattle.std.proofs.Common.{◌≡◌, List, Option, ℕ, ℤ, refl, sym, ap, true, ◌&&◌, Some, None, int_eq, map-id, ◌∙◌}
use Rattle.std.specs.Option.{option_eq}
use Rattle.std.specs.Cmp.{int_eq_equiv}
use Rattle.std.specs.Ordering.{MatchOrdering, int_cmp, is_eq}
use Rattle.std.specs.declared.cmp.Ordering.{Ordering}
use Rattle.std.specs.declared.cmp.Ordering.TheVariants.{Less, Equal, Greater}
use Rattle.std.specs.Prelude.{◌<ℤ◌}
use Rattle.std.proofs.lemmas.Cmp.{int_ranked}
use lib.Pointwise.{pointwise}
use denote.Enum.Bare.{sameb, same_true, true_same}
use Rattle.haya_numbers.specs.declared.numeric.NumericDelimiter.{NumericDelimiter}
use Rattle.haya_numbers.specs.declared.numeric.NumericValue.TheVariants as value
use Rattle.haya_numbers.specs.contracts.numeric.NumericDelimiter as delimiter
use Rattle.haya_numbers.specs.contracts.numeric.NumericValuePartialEq.TheImpl as numeric_value
use Rattle.haya_numbers.specs.contracts.numeric.NumericPartialEq.TheImpl as numeric
use Rattle.haya_numbers.specs.Numeric.{Item, ValueView, Single, SetOf, NumericView, value_view, numeric_view}
use Rattle.haya_text.proofs.Tells.{Same, Tells, Same-both, Same-along, lists-tell, options-tell, strings-tell}

pub ints-tell : (m n : ℤ) → Same (int_eq m n) m n
ints-tell m n = (λ h. go (int_cmp m n) (int_ranked m n (int_cmp m n) refl) h, λ h. rw h (int_eq_equiv.refl n))
  where
    go : (o : Ordering) → MatchOrdering o (m <ℤ n) (m ≡ n) (n <ℤ m) → is_eq o ≡ true → m ≡ n
    go Less r h = cc
    go Equal r h = r
    go Greater r h = cc

delimiters-tell : (c d : Option NumericDelimiter) → Same (option_eq (sameb delimiter.the_type) c d) c d
delimiters-tell None None = (λ _. refl, λ _. refl)
delimiters-tell None (Some d) = (λ h. cc, λ h. cc)
delimiters-tell (Some c) None = (λ h. cc, λ h. cc)
delimiters-tell (Some c) (Some d) = (λ h. ap (λ v. Some v) (same_true delimiter.the_type tt c d h), λ h. let e : c ≡ d = cc in true_same delimiter.the_type c d e)

items-tell : Tells {X = Item} (λ i j. int_eq i.0 j.0 && option_eq (sameb delimiter.the_type) i.1 j.1) (λ i. i)
items-tell (m, c) (n, d) = Same-both _ _ _ _ _ _ (ints-tell m n) (delimiters-tell c d)

sets-tell : (xs ys : List Item) → Same (pointwise (λ (i j : Item). int_eq i.0 j.0 && option_eq (sameb delimiter.the_type) i.1 j.1) xs ys) xs ys
sets-tell xs ys =
    let r = lists-tell (λ (i j : Item). int_eq i.0 j.0 && option_eq (sameb delimiter.the_type) i.1 j.1) (λ i. i) items-tell xs ys in
    (λ h. sym (map-id xs) ∙ r.0 h ∙ map-id ys, λ h. r.1 (map-id xs ∙ h ∙ sym (map-id ys)))

pub value-tells : Tells numeric_value.ghosts.eq value_view
value-tells (value.Number m) (value.Number n) = (λ h. ap Single ((ints-tell m n).0 h), λ h. let e : m ≡ n = cc in (ints-tell m n).1 e)
value-tells (value.Number m) (value.Set t) = (λ h. cc, λ h. cc)
value-tells (value.Set s) (value.Number n) = (λ h. cc, λ h. cc)
value-tells (value.Set s) (value.Set t) = (λ h. ap SetOf ((sets-tell s.items t.items).0 h), λ h. let e : s.items ≡ t.items = cc in (sets-tell s.items t.items).1 e)

pub numeric-tells : Tells numeric.ghosts.eq numeric_view
numeric-tells a b =
    Same-along {Q = NumericView} _ (λ (p : ValueView × (Option (List ℕ) × Option (List ℕ))). record { value = p.0; prefix = p.1.0; suffix = p.1.1 }) (λ n. (n.value, (n.prefix, n.suffix))) _ _ refl refl
    (Same-both _ _ _ _ _ _ (value-tells a.value b.value)
    (Same-both _ _ _ _ _ _ (options-tell _ _ (λ c d. strings-tell c.value d.value) a.prefix b.prefix) (options-tell _ _ (λ c d. strings-tell c.value d.value) a.suffix b.suffix)))
