-- Equality tells whether two selectors have the same value, and so it is an equivalence.
use Rattle.std.specs.Prelude.{◌≡◌, Bool, true, false, ◌&&◌}
use Rattle.std.proofs.Common.{refl, ap}
use Rattle.std.specs.Bool.{Decides}
use Rattle.std.specs.Cmp.{IsEquivalence, IsPartialEquivalence, decided, on_equiv, partial_equiv_from_equiv}
use Rattle.std.specs.Cmp.Lexicographic.{bytes_decides, pointwise_decides}
use Rattle.haya_entry.specs.contracts.types.EntryType as entry_type
use denote.Enum.Bare.{same_true, true_same}
use Rattle.haya_selectors.specs.Equality.{syntax_eq, syntaxes_eq, selector_eq}
use Rattle.haya_selectors.specs.Syntax.{Syntax, Wildcard, Entry, Neg, Binding, Attr, Alt, Multi, Ancestrage, Syntaxes, none, more, syntax}

both_true : (a b : Bool) → (a && b) ≡ true → (a ≡ true) × (b ≡ true)
both_true true b h = (refl, h)
both_true false b h = cc

and_true : (a b : Bool) → a ≡ true → b ≡ true → (a && b) ≡ true
and_true a b h k = rw (h, k) refl

-- under a form of one part, and of two
one : {P Q : Type 0} (f : P → Q) → ((p q : P) → f p ≡ f q → p ≡ q) → (b : Bool) (p q : P)
    → Decides b (p ≡ q) → Decides b (f p ≡ f q)
one f inj b p q h = (λ e. ap f (h.0 e), λ e. h.1 (inj p q e))

two : {P Q R : Type 0} (f : P → Q → R)
    → ((p p' : P) (q q' : Q) → f p q ≡ f p' q' → (p ≡ p') × (q ≡ q'))
    → (b c : Bool) (p p' : P) (q q' : Q) → Decides b (p ≡ p') → Decides c (q ≡ q')
    → Decides (b && c) (f p q ≡ f p' q')
two f inj b c p p' q q' h k = (
  λ e. let both = both_true b c e in λ i. f (h.0 both.0 i) (k.0 both.1 i),
  λ e. let is = inj p p' q q' e in and_true b c (h.1 is.0) (k.1 is.1),
)

mutual
  pub syntax_eq-Decides : (s t : Syntax) → Decides (syntax_eq s t) (s ≡ t)
  syntax_eq-Decides Wildcard Wildcard = (λ _. refl, λ _. refl)
  syntax_eq-Decides (Entry k) (Entry l) =
      one Entry (λ _ _ e. cc) _ _ _
      (same_true entry_type.the_type tt k l, true_same entry_type.the_type k l)
  syntax_eq-Decides (Neg s) (Neg t) = one Neg (λ _ _ e. cc) _ _ _ (syntax_eq-Decides s t)
  syntax_eq-Decides (Binding n s) (Binding m t) =
      two Binding (λ _ _ _ _ e. (cc, cc)) _ _ _ _ _ _ (bytes_decides n m) (syntax_eq-Decides s t)
  syntax_eq-Decides (Attr s ns) (Attr t ms) =
      two (λ names r. Attr r names) (λ _ _ _ _ e. (cc, cc)) _ _ _ _ _ _
      (pointwise_decides bytes_decides ns ms) (syntax_eq-Decides s t)
  syntax_eq-Decides (Alt ss) (Alt ts) = one Alt (λ _ _ e. cc) _ _ _ (syntaxes_eq-Decides ss ts)
  syntax_eq-Decides (Multi ss) (Multi ts) =
      one Multi (λ _ _ e. cc) _ _ _ (syntaxes_eq-Decides ss ts)
  syntax_eq-Decides (Ancestrage l r) (Ancestrage m s) =
      two (λ right left. Ancestrage left right) (λ _ _ _ _ e. (cc, cc)) _ _ _ _ _ _
      (syntax_eq-Decides r s) (syntax_eq-Decides l m)
  syntax_eq-Decides _ _ = (λ e. cc, λ e. cc)

  syntaxes_eq-Decides : (ss ts : Syntaxes) → Decides (syntaxes_eq ss ts) (ss ≡ ts)
  syntaxes_eq-Decides none none = (λ _. refl, λ _. refl)
  syntaxes_eq-Decides (more s ss) (more t ts) =
      two (λ rest first. more first rest) (λ _ _ _ _ e. (cc, cc)) _ _ _ _ _ _
      (syntaxes_eq-Decides ss ts) (syntax_eq-Decides s t)
  syntaxes_eq-Decides _ _ = (λ e. cc, λ e. cc)

pub selector_equiv : IsEquivalence selector_eq
selector_equiv = on_equiv syntax (decided syntax_eq syntax_eq-Decides)

pub selector_laws : IsPartialEquivalence selector_eq
selector_laws = partial_equiv_from_equiv selector_equiv
