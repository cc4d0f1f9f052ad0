-- The pieces of a text are the one list that is cut right.
use Rattle.std.proofs.Common.{◌≡◌, ℕ, Bool, true, false, cond, ◌||◌, ◌⊎◌, inl, inr, List, [], ◌∷◌, ◌++◌, refl, ap, sym, ◌∙◌}
use Rattle.std.proofs.lemmas.List.Elements.{All-from_recursion, recursion_from_All}
use Rattle.std.specs.List.{AllByRecursion, concat}
use Rattle.std.specs.Prelude.{slice_get, IfSome}
use Rattle.haya_text.specs.Characters.{begins_with}
use Rattle.haya_numbers.specs.Pieces.{is_separator, onto_pieces, pieces, AreApart, AreItsPieces, IsRun, IsSeparator}
use Rattle.haya_numbers.proofs.PieceLemmas.{pieces-run, pieces-separator}

-- the facts, by recursion
abbrev Each : List (List ℕ) → Type 0
Each ps = AllByRecursion (λ p. IsSeparator p ⊎ IsRun p) ps

-- one character before pieces
concat-onto_pieces : (c : ℕ) (ps : List (List ℕ)) → concat (onto_pieces c ps) ≡ c ∷ concat ps
concat-onto_pieces c [] = refl
concat-onto_pieces c (p ∷ ps) = go (is_separator c || begins_with is_separator p)
  where
    go : (b : Bool) → concat (cond b ((c ∷ []) ∷ p ∷ ps) ((c ∷ p) ∷ ps)) ≡ c ∷ (p ++ concat ps)
    go true = refl
    go false = refl

alone : (c : ℕ) → IsSeparator (c ∷ []) ⊎ IsRun (c ∷ [])
alone c = go (is_separator c) refl
  where
    go : (b : Bool) → is_separator c ≡ b → IsSeparator (c ∷ []) ⊎ IsRun (c ∷ [])
    go true h = inl (c, h, refl)
    go false h = inr (λ e. cc, All-from_recursion (λ d. is_separator d ≡ false) (c ∷ []) (h, tt))

-- a piece that does not begin with a separator is a run
run_of : (p : List ℕ) → IsSeparator p ⊎ IsRun p → begins_with is_separator p ≡ false → AllByRecursion (λ d. is_separator d ≡ false) p
run_of p (inl (c, h, e)) other = let q = rw e at other in cc
run_of p (inr run) other = recursion_from_All (λ d. is_separator d ≡ false) p run.1

-- a piece that begins with a separator is one
separator_of : (p : List ℕ) → IsSeparator p ⊎ IsRun p → begins_with is_separator p ≡ true → IsSeparator p
separator_of p (inl s) same = s
separator_of [] (inr run) same = cc
separator_of (c ∷ cs) (inr run) same = let h = (recursion_from_All (λ d. is_separator d ≡ false) (c ∷ cs) run.1).0 in cc

both_false : (a b : Bool) → (a || b) ≡ false → (a ≡ false) × (b ≡ false)
both_false true b h = cc
both_false false b h = (refl, h)

one_true : (a b : Bool) → (a || b) ≡ true → (a ≡ true) ⊎ (b ≡ true)
one_true true b h = inl refl
one_true false b h = inr h

each-onto_pieces : (c : ℕ) (ps : List (List ℕ)) → Each ps → Each (onto_pieces c ps)
each-onto_pieces c [] each = (alone c, tt)
each-onto_pieces c (p ∷ ps) each = go (is_separator c || begins_with is_separator p) refl
  where
    go : (b : Bool) → (is_separator c || begins_with is_separator p) ≡ b → Each (cond b ((c ∷ []) ∷ p ∷ ps) ((c ∷ p) ∷ ps))
    go true h = (alone c, each)
    go false h = let both = both_false (is_separator c) (begins_with is_separator p) h in (inr (λ e. cc, All-from_recursion (λ d. is_separator d ≡ false) (c ∷ p) (both.0, run_of p each.0 both.1)), each.1)

-- the first piece alone matters to what follows it
apart-first : (p q : List ℕ) (ps : List (List ℕ)) → (IsSeparator p → IsSeparator q) → AreApart (p ∷ ps) → AreApart (q ∷ ps)
apart-first p q [] f h = tt
apart-first p q (r ∷ ps) f (inl s, rest) = (inl (f s), rest)
apart-first p q (r ∷ ps) f (inr s, rest) = (inr s, rest)

apart-onto_pieces : (c : ℕ) (ps : List (List ℕ)) → Each ps → AreApart ps → AreApart (onto_pieces c ps)
apart-onto_pieces c [] each apart = tt
apart-onto_pieces c (p ∷ ps) each apart = go (is_separator c || begins_with is_separator p) refl
  where
    side : (is_separator c ≡ true) ⊎ (begins_with is_separator p ≡ true) → IsSeparator (c ∷ []) ⊎ IsSeparator p
    side (inl h) = inl (c, h, refl)
    side (inr h) = inr (separator_of p each.0 h)

    go : (b : Bool) → (is_separator c || begins_with is_separator p) ≡ b → AreApart (cond b ((c ∷ []) ∷ p ∷ ps) ((c ∷ p) ∷ ps))
    go true h = (side (one_true (is_separator c) (begins_with is_separator p) h), apart)
    go false h = apart-first p (c ∷ p) ps (λ s. let both = both_false (is_separator c) (begins_with is_separator p) h in let q = rw s.2 at both.1 in absurd (let t = s.1 in cc)) apart

joined : (text : List ℕ) → concat (pieces text) ≡ text
joined [] = refl
joined (c ∷ cs) = concat-onto_pieces c (pieces cs) ∙ ap (λ l. c ∷ l) (joined cs)

each : (text : List ℕ) → Each (pieces text)
each [] = tt
each (c ∷ cs) = each-onto_pieces c (pieces cs) (each cs)

apart : (text : List ℕ) → AreApart (pieces text)
apart [] = tt
apart (c ∷ cs) = apart-onto_pieces c (pieces cs) (each cs) (apart cs)

pub AreItsPieces-pieces : (text : List ℕ) → AreItsPieces text (pieces text)
AreItsPieces-pieces text = record { joined = joined text; each = All-from_recursion (λ p. IsSeparator p ⊎ IsRun p) (pieces text) (each text); longest = apart text }

-- behind a run a separator stands first, or nothing
stops : (p : List ℕ) (ps : List (List ℕ)) → IsRun p → Each ps → AreApart (p ∷ ps) → IfSome (slice_get (concat ps) 0) (λ d. is_separator d ≡ true)
stops p [] run all h = tt
stops p (q ∷ ps) run all (inl s, rest) = let head = (recursion_from_All (λ d. is_separator d ≡ false) p run.1) in let t = rw s.2 at head in absurd (let a = t.0 in let b = s.1 in cc)
stops p (q ∷ ps) run all (inr s, rest) = rw s.2 s.1

pub pieces-concat : (ps : List (List ℕ)) → Each ps → AreApart ps → pieces (concat ps) ≡ ps
pieces-concat [] all h = refl
pieces-concat (p ∷ ps) (inl s, rest) h = rw s.2 (pieces-separator s.0 (concat ps) s.1 ∙ ap (λ l. (s.0 ∷ []) ∷ l) (pieces-concat ps rest (tail p ps h)))
  where
    tail : (p : List ℕ) (ps : List (List ℕ)) → AreApart (p ∷ ps) → AreApart ps
    tail p [] h = tt
    tail p (q ∷ ps) h = h.1
pieces-concat ([] ∷ ps) (inr run, rest) h = absurd (run.0 refl)
pieces-concat ((c ∷ cs) ∷ ps) (inr run, rest) h =
    let plain = recursion_from_All (λ d. is_separator d ≡ false) (c ∷ cs) run.1 in
    pieces-run c cs (concat ps) plain.0 plain.1 (stops (c ∷ cs) ps run rest h) ∙ ap (λ l. (c ∷ cs) ∷ l) (pieces-concat ps rest (tail (c ∷ cs) ps h))
  where
    tail : (p : List ℕ) (ps : List (List ℕ)) → AreApart (p ∷ ps) → AreApart ps
    tail p [] h = tt
    tail p (q ∷ ps) h = h.1

pub pieces-only : (text : List ℕ) (ps : List (List ℕ)) → AreItsPieces text ps → ps ≡ pieces text
pieces-only text ps h = sym (ap pieces (sym h.joined) ∙ pieces-concat ps (recursion_from_All (λ p. IsSeparator p ⊎ IsRun p) ps h.each) h.longest)
