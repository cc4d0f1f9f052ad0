-- Parts that are taken of what is held, and answered.
use Rattle.std.proofs.Common.{◌≡◌, ℕ, false, List, [], ◌∷◌, ◌++◌, Option, Some, length, length-append, drop, ◌-◌, refl, sym, ap, ◌∙◌, subst, append_assoc, append-nil, arith, Bool}
use Rattle.std.specs.Str.{IsUtf8}
use Rattle.std.proofs.Math.Seq.{drop-append_seam}
use Rattle.std.proofs.lemmas.List.{map-append}
use Rattle.haya_line_stream.proofs.Taken.{flat_map-append, folds_on}
use Rattle.haya_parts.specs.Answered.{Moves, Replies, Run, parts_of, printed_of}
use Rattle.haya_parts.specs.Divided.{Begins, Begun}

pub parts_of-append : (ps qs : Replies) → parts_of (ps ++ qs) ≡ parts_of ps ++ parts_of qs
parts_of-append ps qs = map-append (λ p. p.0) ps qs

pub printed_of-append : (ps qs : Replies) → printed_of (ps ++ qs) ≡ printed_of ps ++ printed_of qs
printed_of-append ps qs = flat_map-append (λ p. p.1) ps qs

-- what is left behind a front
pub rest_left : (held front rest : List ℕ) (left : ℕ) → held ≡ front ++ rest → length rest ≡ left
    → drop (length held - left) held ≡ rest
rest_left held front rest left is long =
    let both = length-append front rest in
    let count : length held - left ≡ length front = omega (arith, ap length is, long, both) in
    ap (λ n. drop n held) count ∙ ap (drop (length front)) is ∙ drop-append_seam front rest

module _ {D S : Type 0} (divides : D → List ℕ → List (List ℕ) → List ℕ → Type 0)
    (answers : S → Option (List ℕ) → List ℕ → S → Type 0) (is_done : S → Bool) where
  pub run_on : (s : S) (ps : Replies) (t : S) (qs : Replies) (u : S) → Run answers is_done s ps t
      → Run answers is_done t qs u → Run answers is_done s (ps ++ qs) u
  run_on s ps t qs u p q =
      folds_on (λ x reply y.
      IsUtf8 reply.0 × (is_done x ≡ false) × answers x (Some reply.0) reply.1 y) s ps t qs u p q

  pub none_moved : (d : D) (s : S) (held : List ℕ)
      → Moves divides answers is_done d d s s held held []
  none_moved d s held = record {
    front = [];
    replies = [];
    split = refl;
    takes = λ taken parts begins. rw (append-nil taken, append-nil parts) begins;
    run = refl;
    prints = refl;
  }

  pub moves_on : (d e f : D) (s t u : S) (held mid rest printed more : List ℕ)
      → Moves divides answers is_done d e s t held mid printed
      → Moves divides answers is_done e f t u mid rest more
      → Moves divides answers is_done d f s u held rest (printed ++ more)
  moves_on d e f s t u held mid rest printed more p q = record {
    front = p.front ++ q.front;
    replies = p.replies ++ q.replies;
    split = p.split ∙ ap (λ l. p.front ++ l) q.split ∙ sym (append_assoc p.front q.front rest);
    takes = λ taken parts begins.
        subst (λ l. Begins divides f l (parts ++ parts_of (p.replies ++ q.replies)) rest)
        (append_assoc taken p.front q.front)
        (subst (λ l. Begins divides f ((taken ++ p.front) ++ q.front) l rest)
        (append_assoc parts (parts_of p.replies) (parts_of q.replies)
        ∙ ap (λ l. parts ++ l) (sym (parts_of-append p.replies q.replies)))
        (q.takes (taken ++ p.front) (parts ++ parts_of p.replies) (p.takes taken parts begins)));
    run = run_on s p.replies t q.replies u p.run q.run;
    prints = rw (p.prints, q.prints) (sym (printed_of-append p.replies q.replies));
  }

  -- a part is taken, and answered
  pub part_moved : (d e : D) (s t : S) (held front part behind more : List ℕ)
      → held ≡ front ++ behind
      → ((taken : List ℕ) (parts : List (List ℕ)) → Begins divides d taken parts held
      → Begins divides e (taken ++ front) (parts ++ part ∷ []) behind)
      → IsUtf8 part → is_done s ≡ false → answers s (Some part) more t
      → Moves divides answers is_done d e s t held behind more
  part_moved d e s t held front part behind more split takes utf8 goes_on answer = record {
    front = front;
    replies = (part, more) ∷ [];
    split = split;
    takes = takes;
    run = (t, (utf8, goes_on, answer), refl);
    prints = sym (append-nil more);
  }

  -- bytes of no part are
  pub bytes_moved : (d e : D) (s : S) (held front behind : List ℕ)
      → held ≡ front ++ behind
      → ((taken : List ℕ) (parts : List (List ℕ)) → Begins divides d taken parts held
      → Begins divides e (taken ++ front) parts behind)
      → Moves divides answers is_done d e s s held behind []
  bytes_moved d e s held front behind split takes = record {
    front = front;
    replies = [];
    split = split;
    takes = λ taken parts begins. rw (append-nil parts) (takes taken parts begins);
    run = refl;
    prints = refl;
  }

  -- the divider alone has changed
  pub kept_moved : (d e : D) (s : S) (held : List ℕ)
      → ((taken : List ℕ) (parts : List (List ℕ)) → Begins divides d taken parts held
      → Begins divides e taken parts held)
      → Moves divides answers is_done d e s s held held []
  kept_moved d e s held takes = record {
    front = [];
    replies = [];
    split = refl;
    takes = λ taken parts begins. rw (append-nil taken, append-nil parts) (takes taken parts begins);
    run = refl;
    prints = refl;
  }

  pub begun_on : (d e : D) (s t : S) (held rest printed : List ℕ)
      → Moves divides answers is_done d e s t held rest printed → Begun divides d held
      → Begun divides e rest
  begun_on d e s t held rest printed m b =
      (b.0 ++ m.front, b.1 ++ parts_of m.replies, m.takes b.0 b.1 b.2)
