-- How the entries of a text are answered, turn by turn.
use Rattle.std.proofs.Common.{◌≡◌, ◌⊎◌, inl, inr, ℕ, Bool, false, List, [], ◌∷◌, ◌++◌, Option, None, Some, refl, sym, ap, ◌∙◌, subst, append_assoc, append-nil}
use Rattle.std.proofs.lemmas.List.{map-append}
use Rattle.hayagriva.specs.Tree.{Tree}
use Rattle.haya_line_stream.specs.Answered as stream
use Rattle.haya_line_stream.specs.Turns.{turns_in}
use Rattle.haya_line_stream.proofs.Taken.{flat_map-append, folds_on}
use Rattle.haya_entry_stream.specs.Listed.{Replies, Run, entries_of, printed_of}

printed_of-append : (xs ys : Replies) → printed_of (xs ++ ys) ≡ printed_of xs ++ printed_of ys
printed_of-append xs ys = flat_map-append (λ p. p.1) xs ys

entries_of-append : (xs ys : Replies) → entries_of (xs ++ ys) ≡ entries_of xs ++ entries_of ys
entries_of-append xs ys = map-append (λ p. p.0) xs ys

-- entries are answered in turn, and this holds of them
pub record Replied {A : Type 0} (answers : A → Tree → List ℕ → A → Type 0) (is_done : A → Bool) (s t : A) (printed : List ℕ) (P : List Tree → Type 0) : Type 0 where
  pub replies : Replies
  pub run : Run answers is_done s replies t
  pub prints : printed ≡ printed_of replies
  pub holds : P (entries_of replies)

module _ {A : Type 0} (answers : A → Tree → List ℕ → A → Type 0) (is_done : A → Bool) where
  pub no_reply : (s t : A) (printed : List ℕ) (P : List Tree → Type 0) → printed ≡ [] → t ≡ s → P [] → Replied answers is_done s t printed P
  no_reply s t printed P none same holds = record { replies = []; run = sym same; prints = none; holds = holds }

  pub one_reply : (s t : A) (entry : Tree) (printed : List ℕ) (P : List Tree → Type 0) → is_done s ≡ false → answers s entry printed t → P (entry ∷ []) → Replied answers is_done s t printed P
  one_reply s t entry printed P more answer holds =
      record { replies = (entry, printed) ∷ []; run = (t, (more, answer), refl); prints = sym (append-nil printed); holds = holds }

  -- some entries, and then others
  pub replied_on : (s u t : A) (first rest : List ℕ) (P Q : List Tree → Type 0) (r : Replied answers is_done s u first P) → Replied answers is_done u t rest (λ ys. Q (entries_of r.replies ++ ys))
      → Replied answers is_done s t (first ++ rest) Q
  replied_on s u t first rest P Q r q = record {
    replies = r.replies ++ q.replies;
    run = folds_on (λ p reply next. (is_done p ≡ false) × answers p reply.0 reply.1 next) s r.replies u q.replies t r.run q.run;
    prints = ap (λ l. l ++ rest) r.prints ∙ ap (λ l. printed_of r.replies ++ l) q.prints ∙ sym (printed_of-append r.replies q.replies);
    holds = subst Q (sym (entries_of-append r.replies q.replies)) q.holds;
  }

  pub replied_as : (s t : A) (printed : List ℕ) (P Q : List Tree → Type 0) → ((xs : List Tree) → P xs → Q xs) → Replied answers is_done s t printed P → Replied answers is_done s t printed Q
  replied_as s t printed P Q by r = record { replies = r.replies; run = r.run; prints = r.prints; holds = by (entries_of r.replies) r.holds }

-- In a format a turn takes a line, or the end, and answers the entries that this closes. What is held
-- of the lines that are taken, and of all and the end, is the format's.
module _ {S A : Type 0} (state : S → A) (answers : A → Tree → List ℕ → A → Type 0) (is_done : A → Bool) (Turn : S → Option (List ℕ) → List ℕ → S → Type 0)
    (Taken Whole : List (List ℕ) → List Tree → S → Type 0)
    (at_line : (before : List (List ℕ)) (given : List Tree) (s t : S) (line printed : List ℕ) → is_done (state s) ≡ false → Taken before given s → Turn s (Some line) printed t
    → Replied answers is_done (state s) (state t) printed (λ closed. Taken (before ++ line ∷ []) (given ++ closed) t))
    (at_end : (before : List (List ℕ)) (given : List Tree) (s t : S) (printed : List ℕ) → is_done (state s) ≡ false → Taken before given s → Turn s None printed t
    → Replied answers is_done (state s) (state t) printed (λ closed. Whole before (given ++ closed) t)) where
  abbrev pub Asked : S → Option (List ℕ) → List ℕ → S → Type 0
  Asked = stream.Asked (λ s. is_done (state s)) Turn

  -- a first part of the lines is taken
  pub record Begins (before ls : List (List ℕ)) (later : List (Option (List ℕ))) (given : List Tree) (t : S) : Type 0 where
    pub first : List (List ℕ)
    pub more : List (List ℕ)
    pub parts : ls ≡ first ++ more
    pub left : later ≡ turns_in more
    pub taken : Taken (before ++ first) given t

  -- all lines, and the end
  pub record Ends (before ls : List (List ℕ)) (later : List (Option (List ℕ))) (given : List Tree) (t : S) : Type 0 where
    pub left : later ≡ []
    pub whole : Whole (before ++ ls) given t

  abbrev pub Reaches : List (List ℕ) → List (List ℕ) → List (Option (List ℕ)) → List Tree → S → Type 0
  Reaches before ls later given t = Begins before ls later given t ⊎ Ends before ls later given t

  reaches_line : (before ls : List (List ℕ)) (line : List ℕ) (later : List (Option (List ℕ))) (given : List Tree) (t : S) → Reaches (before ++ line ∷ []) ls later given t
      → Reaches before (line ∷ ls) later given t
  reaches_line before ls line later given t (inl b) =
      inl (record {
        first = line ∷ b.first;
        more = b.more;
        parts = ap (λ l. line ∷ l) b.parts;
        left = b.left;
        taken = rw (← append_assoc before (line ∷ []) b.first) b.taken;
      })
  reaches_line before ls line later given t (inr e) = inr (record { left = e.left; whole = rw (← append_assoc before (line ∷ []) ls) e.whole })

  -- the turns of lines, one after another
  pub go : (parts : stream.Parts) (s t : S) (before ls : List (List ℕ)) (given : List Tree) (later : List (Option (List ℕ))) → Taken before given s
      → turns_in ls ≡ stream.turns_of parts ++ later → stream.Run Asked s parts t → Replied answers is_done (state s) (state t) (stream.printed_of parts) (λ more. Reaches before ls later (given ++ more) t)
  go [] s t before ls given later taken all run =
      rw (← run)
      (no_reply answers is_done (state s) (state s) [] (λ more. Reaches before ls later (given ++ more) s) refl refl
      (inl (record { first = []; more = ls; parts = refl; left = sym all; taken = rw (append-nil before, append-nil given) taken })))
  go ((turn, printed) ∷ []) s t before [] given later taken all run =
      let here : turn ≡ None = cc in
      let none : later ≡ [] = cc in
      let last : Turn s None printed run.0 = subst (λ o. Turn s o printed run.0) here run.1.1.1 in
      rw (none, append-nil printed, ← run.2)
      (replied_as answers is_done (state s) (state run.0) printed (λ closed. Whole before (given ++ closed) run.0) (λ more. Reaches before [] [] (given ++ more) run.0)
      (λ xs whole. inr (record { left = refl; whole = rw (append-nil before) whole })) (at_end before given s run.0 printed run.1.1.0 taken last))
  go ((turn, printed) ∷ other ∷ parts) s t before [] given later taken all run = absurd (cc)
  go ((turn, printed) ∷ parts) s t before (line ∷ ls) given later taken all run =
      let here : turn ≡ Some line = cc in
      let rest : turns_in ls ≡ stream.turns_of parts ++ later = cc in
      let step : Turn s (Some line) printed run.0 = subst (λ o. Turn s o printed run.0) here run.1.1.1 in
      let r = at_line before given s run.0 line printed run.1.1.0 taken step in
      let next = go parts run.0 t (before ++ line ∷ []) ls (given ++ entries_of r.replies) later r.holds rest run.2 in
      replied_on answers is_done (state s) (state run.0) (state t) printed (stream.printed_of parts) (λ closed. Taken (before ++ line ∷ []) (given ++ closed) run.0) (λ more. Reaches before (line ∷ ls) later (given ++ more) t) r
      (replied_as answers is_done (state run.0) (state t) (stream.printed_of parts) (λ ys. Reaches (before ++ line ∷ []) ls later ((given ++ entries_of r.replies) ++ ys) t)
      (λ ys. Reaches before (line ∷ ls) later (given ++ (entries_of r.replies ++ ys)) t)
      (λ ys reached. rw (← append_assoc given (entries_of r.replies) ys) (reaches_line before ls line later ((given ++ entries_of r.replies) ++ ys) t reached)) next)
