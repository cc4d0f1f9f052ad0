-- Lines that are printed one after another as a query gives its hits.
use Rattle.std.proofs.Common.{◌≡◌, List, [], ◌∷◌, ◌++◌, ℕ, Option, refl, ap, sym, ◌∙◌, append-nil, inl, inr}
use Rattle.std.proofs.KnownBytes.{Appends-kept, Appends-nil, Appends-trans}
use Rattle.std.specs.Io.KnownBytes.{Appends, Keeps}
use Rattle.std.specs.Prelude.{IfErr, Result, Ok, Err, filter}
use Rattle.std.proofs.lemmas.List.Elements.{filter-append}
use Rattle.hayagriva.specs.Holds.{holds}
use Rattle.hayagriva.specs.QueryIter.{Asks, GivesHit, GivesNone}
use Rattle.hayagriva.specs.QueryState.{QueryState}
use Rattle.hayagriva.specs.Tree.{Tree}
use Rattle.hayagriva.specs.declared.query.Hit.{Hit}
use Rattle.hayagriva.proofs.Queries.{asks-none, asks-more}
use Rattle.haya_hits.specs.Line.{AreLinesAt, IsLineAt, IsLineOf}
use Rattle.haya_run.specs.Output.{PrintsPart}
use Rattle.haya_hits.proofs.Lines.{line_at, one_more_line}
use Rattle.haya_run.specs.declared.error.RunError.{RunError}
use Rattle.haya_run.specs.declared.error.RunError.TheVariants.{CannotWrite}

-- the lines of the entries that were asked so far are printed
pub record Printed (q r : QueryState) (before after : Option (List ℕ)) : Type 0 where
  pub asked : List Tree
  pub printed : List ℕ
  pub asks : Asks q asked r
  pub shows : AreLinesAt q.selector asked printed
  pub prints : Appends before after printed

pub none_printed : (q : QueryState) (out : Option (List ℕ)) → Printed q q out out
none_printed q out = record { asked = []; printed = []; asks = asks-none q; shows = record { lines = []; each = tt; text = refl }; prints = Appends-nil out }

-- the entries that a hit took have that hit alone
picked : (r : QueryState) (hit : Hit) (t : QueryState) (h : GivesHit r hit t) → filter (holds r.selector) (h.missed ++ h.entry ∷ []) ≡ h.entry ∷ []
picked r hit t h = rw (filter-append (holds r.selector) h.missed (h.entry ∷ []), h.misses, h.holding) refl

module _ (q r : QueryState) (before mid after : Option (List ℕ)) (p : Printed q r before mid) where
  -- the hits that are left are behind those whose lines are printed
  parts : filter (holds q.selector) q.left ≡ filter (holds q.selector) p.asked ++ filter (holds q.selector) r.left
  parts = ap (filter (holds q.selector)) p.asks.entries ∙ filter-append (holds q.selector) p.asked r.left

  pub one_printed : (hit : Hit) (t : QueryState) (line : List ℕ) → GivesHit r hit t → IsLineOf hit line → Appends mid after line → Printed q t before after
  one_printed hit t line h l w =
      let s = q.selector in
      let taken = h.missed ++ h.entry ∷ [] in
      let at_entry : IsLineAt s h.entry line = rw p.asks.selector at (line_at r.selector h.entry hit line h.is l) in
      let one : filter (holds s) taken ≡ h.entry ∷ [] = rw p.asks.selector at (picked r hit t h) in
      record {
        asked = p.asked ++ taken;
        printed = p.printed ++ line;
        asks = asks-more q r t p.asked taken p.asks h.asks;
        shows = rw (filter-append (holds s) p.asked taken, one) (one_more_line (IsLineAt s) (filter (holds s) p.asked) p.printed h.entry line p.shows at_entry);
        prints = Appends-trans before mid after p.printed line p.prints w;
      }

  pub all_printed : (t : QueryState) → GivesNone r t → Keeps mid after → (printed : List ℕ) × AreLinesAt q.selector q.left printed × Appends before after printed
  all_printed t h k =
      let none : filter (holds q.selector) r.left ≡ [] = rw p.asks.selector at h.misses in
      let whole : filter (holds q.selector) p.asked ≡ filter (holds q.selector) q.left = sym (parts ∙ ap (λ xs. filter (holds q.selector) p.asked ++ xs) none ∙ append-nil _) in
      (p.printed, rw whole at p.shows, Appends-kept before mid after p.printed p.prints k)

  -- a fault comes before the next line is handed on
  pub part_printed : (fault : RunError) → Keeps mid after → PrintsPart q.selector q.left before after fault
  part_printed fault k = record {
    first = filter (holds q.selector) p.asked;
    rest = filter (holds q.selector) r.left;
    printed = p.printed;
    piece = [];
    parts = parts;
    shows = p.shows;
    whole = λ _. refl;
    begins = inl refl;
    prints = Appends-kept before mid after _ (rw append-nil p.prints) k;
  }

  -- the line of a hit is handed on, and a piece of it is taken
  pub piece_printed : (hit : Hit) (t : QueryState) (piece behind : List ℕ) → GivesHit r hit t → IsLineOf hit (piece ++ behind) → Appends mid after piece
      → PrintsPart q.selector q.left before after CannotWrite
  piece_printed hit t piece behind h l w =
      let s = q.selector in
      let at_entry : IsLineAt s h.entry (piece ++ behind) = rw p.asks.selector at (line_at r.selector h.entry hit (piece ++ behind) h.is l) in
      let one : filter (holds s) (h.missed ++ h.entry ∷ []) ≡ h.entry ∷ [] = rw p.asks.selector at (picked r hit t h) in
      let left : filter (holds s) r.left ≡ h.entry ∷ filter (holds s) t.left = ap (filter (holds s)) h.asks.entries ∙ filter-append (holds s) (h.missed ++ h.entry ∷ []) t.left ∙ ap (λ xs. xs ++ filter (holds s) t.left) one in
      record {
        first = filter (holds s) p.asked;
        rest = filter (holds s) r.left;
        printed = p.printed;
        piece = piece;
        parts = parts;
        shows = p.shows;
        whole = λ other. absurd (other refl);
        begins = inr (rw left (behind, at_entry));
        prints = Appends-trans before mid after p.printed piece p.prints w;
      }

-- what is true of each fault is true of a run's, if it has one
pub at_any_fault : {T E : Type 0} (r : Result T E) (P : E → Type 0) → ((e : E) → P e) → IfErr r P
at_any_fault (Ok a) P h = tt
at_any_fault (Err e) P h = h e
