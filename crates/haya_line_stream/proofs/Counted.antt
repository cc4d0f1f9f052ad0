-- How many lines of a text have ended, and how many are answered.
use Rattle.std.proofs.Common.{◌≡◌, ℕ, ◌+◌, ◌≤◌, Bool, true, false, List, [], ◌∷◌, ◌++◌, Option, None, Some, length, suc, refl, ap, ◌∙◌, length-append, append-nil, append_assoc, arith}
use Rattle.std.specs.Prelude.{◌==◌, cond, map}
use Rattle.std.specs.List.{onto_first, slice_split}
use Rattle.std.specs.Str.Lines.{lines, lines_of_parts, strip_carriage_return}
use Rattle.std.proofs.lemmas.List.{length-map, map-append}
use Rattle.std.proofs.lemmas.List.Splits.{length-slice_split, slice_split_at, slice_split_none}
use Rattle.std.proofs.lemmas.List.Sums.{sum_by-append}
use Rattle.haya_line_stream.specs.Turns.{HasNoFeed, ended_count, turns, turns_in}
use Rattle.haya_line_stream.specs.Answered.{Answers, Parts, Takes, turns_of}
use Rattle.haya_line_stream.specs.Streamed.{HaveEnded}
use Rattle.haya_line_stream.specs.declared.error.StreamError.{StreamError}
use Rattle.haya_line_stream.specs.declared.error.StreamError.TheVariants.{CannotRead, CannotWrite, NotText, OutOfMemory, Refused}

-- ---- where a text is cut
pub record IsSome {X : Type 0} (xs : List X) : Type 0 where
  pub first : X
  pub rest : List X
  pub is : xs ≡ first ∷ rest

onto_first-IsSome : (b : ℕ) (ps : List (List ℕ)) → IsSome (onto_first b ps)
onto_first-IsSome b [] = record { first = b ∷ []; rest = []; is = refl }
onto_first-IsSome b (p ∷ ps) = record { first = b ∷ p; rest = ps; is = refl }

pub split-IsSome : (bs : List ℕ) → IsSome (slice_split (λ b. b == 10) bs)
split-IsSome [] = record { first = []; rest = []; is = refl }
split-IsSome (b ∷ bs) =
    elim (b == 10) as (λ c. IsSome (cond c ([] ∷ slice_split (λ x. x == 10) bs) (onto_first b (slice_split (λ x. x == 10) bs)))) [
      | true ↦ record { first = []; rest = slice_split (λ x. x == 10) bs; is = refl }
      | false ↦ onto_first-IsSome b (slice_split (λ x. x == 10) bs)
    ]

pub ended_count-append : (xs ys : List ℕ) → ended_count (xs ++ ys) ≡ ended_count xs + ended_count ys
ended_count-append xs ys = sum_by-append (λ b. cond (b == 10) 1 0) xs ys

pub ended_count_none : (piece : List ℕ) → HasNoFeed piece → ended_count piece ≡ 0
ended_count_none piece none =
    let pieces = length-slice_split (λ b. b == 10) piece in
    let one : length (slice_split (λ b. b == 10) piece) ≡ 1 = ap length (slice_split_none (λ b. b == 10) piece none) in
    omega arith

-- the first line feed ends a line
pub ended_count_first : (piece rest : List ℕ) → HasNoFeed piece → ended_count (piece ++ 10 ∷ rest) ≡ ended_count rest + 1
ended_count_first piece rest none =
    let pieces = length-slice_split (λ b. b == 10) (piece ++ 10 ∷ rest) in
    let others = length-slice_split (λ b. b == 10) rest in
    let first : length (slice_split (λ b. b == 10) (piece ++ 10 ∷ rest)) ≡ suc (length (slice_split (λ b. b == 10) rest)) =
    ap length (slice_split_at (λ b. b == 10) piece 10 rest none refl) in
    omega arith

-- ---- a text whose last line ends
cut_more : (b : ℕ) (c : Bool) (ps qs : List (List ℕ)) → IsSome ps → cond c ([] ∷ (ps ++ qs)) (onto_first b (ps ++ qs)) ≡ cond c ([] ∷ ps) (onto_first b ps) ++ qs
cut_more b true ps qs some = refl
cut_more b false ps qs some = rw some.is refl

split_feed : (xs rest : List ℕ) → slice_split (λ b. b == 10) (xs ++ 10 ∷ rest) ≡ slice_split (λ b. b == 10) xs ++ slice_split (λ b. b == 10) rest
split_feed [] rest = refl
split_feed (b ∷ xs) rest =
    ap (λ l. cond (b == 10) ([] ∷ l) (onto_first b l)) (split_feed xs rest)
    ∙ cut_more b (b == 10) (slice_split (λ x. x == 10) xs) (slice_split (λ x. x == 10) rest) (split-IsSome xs)

lines_of_parts-append : (ps qs : List (List ℕ)) → IsSome qs → lines_of_parts (ps ++ qs) ≡ map strip_carriage_return ps ++ lines_of_parts qs
lines_of_parts-append [] qs some = refl
lines_of_parts-append (p ∷ []) qs some = rw some.is refl
lines_of_parts-append (p ∷ q ∷ ps) qs some = ap (λ l. strip_carriage_return p ∷ l) (lines_of_parts-append (q ∷ ps) qs some)

-- the lines of a text that a line feed ends
abbrev pub lines_before : List ℕ → List (List ℕ)
lines_before text = map strip_carriage_return (slice_split (λ b. b == 10) text)

pub lines_feed : (text rest : List ℕ) → lines (text ++ 10 ∷ rest) ≡ lines_before text ++ lines rest
lines_feed text rest =
    ap lines_of_parts (split_feed text rest)
    ∙ lines_of_parts-append (slice_split (λ b. b == 10) text) (slice_split (λ b. b == 10) rest) (split-IsSome rest)

pub lines_before_count : (text : List ℕ) → length (lines_before text) ≡ ended_count text + 1
lines_before_count text = length-map (slice_split (λ b. b == 10) text) strip_carriage_return ∙ length-slice_split (λ b. b == 10) text

pub turns_feed : (text rest : List ℕ) → turns (text ++ 10 ∷ rest) ≡ map (λ line. Some line) (lines_before text) ++ turns rest
turns_feed text rest =
    ap turns_in (lines_feed text rest)
    ∙ ap (λ l. l ++ None ∷ []) (map-append (λ line. Some line) (lines_before text) (lines rest))
    ∙ append_assoc (map (λ line. Some line) (lines_before text)) (map (λ line. Some line) (lines rest)) (None ∷ [])

turns_in_count : (ls : List (List ℕ)) → length (turns_in ls) ≡ length ls + 1
turns_in_count ls = length-append (map Some ls) (None ∷ []) ∙ ap (λ n. n + 1) (length-map ls Some)

turns_count : (text : List ℕ) → length (turns (text ++ 10 ∷ [])) ≡ ended_count text + 2
turns_count text =
    let ended = lines_before_count text in
    let whole : length (lines (text ++ 10 ∷ [])) ≡ length (lines_before text) =
    ap length (lines_feed text [] ∙ append-nil (lines_before text)) in
    let all = turns_in_count (lines (text ++ 10 ∷ [])) in
    omega arith

pub both_count : (parts : Parts) (later : List (Option (List ℕ))) → length (turns_of parts ++ later) ≡ length parts + length later
both_count parts later = length-append (turns_of parts) later ∙ ap (λ n. n + length later) (length-map parts (λ p. p.0))

-- ---- the turns that are answered
module _ {S : Type 0} {answers : S → Option (List ℕ) → List ℕ → S → Type 0} {text : List ℕ} {s : S} where
  -- each turn that is taken is a line that has ended
  pub taken_count : {rest : List ℕ} {t : S} {printed : List ℕ} (p : Takes answers text rest s t printed) → ended_count text ≡ length p.parts + ended_count rest
  taken_count {rest} p =
      let whole = turns_count text in
      let others = turns_count rest in
      let same = ap length (p.same (10 ∷ [])) ∙ both_count p.parts (turns (rest ++ 10 ∷ [])) in
      omega arith

  pub answered_count : {later : List (Option (List ℕ))} {t : S} {printed : List ℕ} (a : Answers answers text later s t printed) → length (turns text) ≡ length a.parts + length later
  answered_count {later} a = ap length a.all ∙ both_count a.parts later

  pub same_count : {later : List (Option (List ℕ))} {t u : S} {printed more : List ℕ} (a : Answers answers text later s t printed) (b : Answers answers text later s u more)
      → length a.parts ≡ length b.parts
  same_count a b =
      let first = answered_count a in
      let same = answered_count b in
      omega arith

-- ---- lines that have ended
module _ {E : Type 0} where
  pub ended_most : (text : List ℕ) (n : ℕ) (fault : StreamError E) → HaveEnded text n fault → n ≤ ended_count text
  ended_most text n (CannotRead e) ended = omega arith
  ended_most text n (CannotWrite e) ended = ended
  ended_most text n NotText ended = omega arith
  ended_most text n (Refused e) ended = omega arith
  ended_most text n OutOfMemory ended = ended

  -- so many lines are in front
  pub ended_behind : (text rest : List ℕ) (n m k : ℕ) (fault : StreamError E) → ended_count text ≡ k + ended_count rest → m ≡ k + n → HaveEnded rest n fault → HaveEnded text m fault
  ended_behind text rest n m k (CannotRead e) more is ended = omega arith
  ended_behind text rest n m k (CannotWrite e) more is ended = omega arith
  ended_behind text rest n m k NotText more is ended = omega arith
  ended_behind text rest n m k (Refused e) more is ended = omega arith
  ended_behind text rest n m k OutOfMemory more is ended = omega arith

  -- the text went on by a block, lines of which are answered
  pub block_ended : {S : Type 0} {answers : S → Option (List ℕ) → List ℕ → S → Type 0} (text held block : List ℕ) (later : List (Option (List ℕ))) (s t u v : S) (printed more all : List ℕ)
      (p : Takes answers text held s t printed) (q : Answers answers (held ++ block) later t u more) (a : Answers answers (text ++ block) later s v all) (fault : StreamError E)
      → HaveEnded (held ++ block) (length q.parts) fault → HaveEnded (text ++ block) (length a.parts) fault
  block_ended text held block later s t u v printed more all p q a fault ended =
      let taken = taken_count p in
      let first = answered_count a in
      let next = answered_count q in
      let same = ap length (p.same block) ∙ both_count p.parts (turns (held ++ block)) in
      let whole = ended_count-append text block in
      let part = ended_count-append held block in
      ended_behind (text ++ block) (held ++ block) (length q.parts) (length a.parts) (length p.parts) fault (omega arith) (omega arith) ended
