-- Lines that are put behind a text, one after another.
use Rattle.std.proofs.Common.{List, ℕ, [], ◌∷◌, ◌++◌, refl, ap, sym, subst, append_assoc, append-nil}
use Rattle.haya_hits.specs.Line.{AreLines}

module _ {A : Type 0} (R : A → List ℕ → Type 0) (all : List A) where
  -- whatever lines are those of what is left, behind the text they are those of all
  abbrev pub Shown : List A → List ℕ → Type 0
  Shown left text = (rest : List ℕ) → AreLines R left rest → AreLines R all (text ++ rest)

  pub none_shown : Shown all []
  none_shown rest lines = lines

  pub one_shown : (x : A) (left : List A) (text line : List ℕ) → Shown (x ∷ left) text → R x line → Shown left (text ++ line)
  one_shown x left text line before is rest h =
      let more : AreLines R (x ∷ left) (line ++ rest) = record { lines = line ∷ h.lines; each = (is, h.each); text = ap (λ l. line ++ l) h.text } in
      subst (AreLines R all) (sym (append_assoc text line rest)) (before (line ++ rest) more)

  pub all_shown : (text : List ℕ) → Shown [] text → AreLines R all text
  all_shown text before = subst (AreLines R all) (append-nil text) (before [] (record { lines = []; each = tt; text = refl }))
