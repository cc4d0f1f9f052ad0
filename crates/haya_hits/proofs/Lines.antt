-- Lines one after another.
use Rattle.std.proofs.Common.{◌≡◌, List, [], ◌∷◌, ◌++◌, ℕ, Option, None, Some, refl, ap, sym, ◌∙◌, append-nil}
use Rattle.std.specs.Prelude.{option_map}
use Rattle.std.specs.List.{AllZip, concat, flat_map}
use Rattle.std.proofs.lemmas.List.Folds.{concat-append}
use Rattle.hayagriva.specs.Library.{key_of}
use Rattle.hayagriva.specs.Query.{IsHit}
use Rattle.hayagriva.specs.Syntax.{Syntax}
use Rattle.hayagriva.specs.Tree.{Tree, view}
use Rattle.hayagriva.specs.declared.query.Hit.{Hit}
use Rattle.haya_hits.specs.Line.{AreLines, IsLineAt, IsLineOf, binding_text}

mapped_twice : {A B C : Type 0} (f : B → C) (g : A → B) (o : Option A) → option_map (λ x. f (g x)) o ≡ option_map f (option_map g o)
mapped_twice f g None = refl
mapped_twice f g (Some x) = refl

-- the line of a hit is that of the entry
pub line_at : (s : Syntax) (x : Tree) (hit : Hit) (line : List ℕ) → IsHit s x hit → IsLineOf hit line → IsLineAt s x line
line_at s x hit line h l = record {
  names = l.names;
  all = λ name. l.all name ∙ mapped_twice key_of (λ e. view e.now) _ ∙ ap (option_map key_of) (h.bindings.entries name);
  order = l.order;
  text = l.text ∙ ap (λ t. key_of t ++ flat_map (binding_text (λ text. text)) l.names ++ 10 ∷ []) h.entry;
}

zip_more : {A B : Type 0} (R : A → B → Type 0) (xs : List A) (ys : List B) (x : A) (y : B) → AllZip R xs ys → R x y → AllZip R (xs ++ x ∷ []) (ys ++ y ∷ [])
zip_more R [] [] x y h r = (r, tt)
zip_more R [] (b ∷ more) x y h r = absurd h
zip_more R (a ∷ rest) [] x y h r = absurd h
zip_more R (a ∷ rest) (b ∷ more) x y h r = (h.0, zip_more R rest more x y h.1 r)

-- one line more
pub one_more_line : {A : Type 0} (R : A → List ℕ → Type 0) (xs : List A) (printed : List ℕ) (x : A) (line : List ℕ) → AreLines R xs printed → R x line
    → AreLines R (xs ++ x ∷ []) (printed ++ line)
one_more_line R xs printed x line h l = record {
  lines = h.lines ++ line ∷ [];
  each = zip_more R xs h.lines x line h.each l;
  text = ap (λ b. b ++ line) h.text ∙ ap (λ b. concat h.lines ++ b) (sym (append-nil line)) ∙ sym (concat-append h.lines (line ∷ []));
}
