-- Texts of lines of JSON in parts: what they list, and the libraries that they describe.
use Rattle.std.proofs.Common.{ℕ, suc, List, [], ◌∷◌, ◌++◌, refl, sym, subst, arith}
use Rattle.std.specs.Prelude.{All}
use Rattle.std.specs.List.{AllPairs, AllZip, concat, flat_map}
use Rattle.std.specs.Str.Lines.{lines}
use Rattle.std.proofs.lemmas.List.Elements.{All-head, All-tail}
use Rattle.hayagriva.specs.Parts.{AreApart}
use Rattle.hayagriva.specs.Tree.{Tree}
use Rattle.hayagriva.proofs.Parts.{AreApart-all, AreApart-entries, from_entries-parts}
use Rattle.haya_line_library.specs.Parts.{AreWholeLines}
use Rattle.haya_line_library.proofs.Parts.{lines-append}
use Rattle.haya_json.specs.JsonLines.{AreEntriesOf, Describes, IsListOf}
use Rattle.haya_json.proofs.LinesTaken.{AreEntriesOf-append}

-- whole lines and a text behind them list the entries of both
pub IsListOf-append : (first second : List ℕ) (a b : List Tree) → AreWholeLines first → IsListOf first a → IsListOf second b → IsListOf (first ++ second) (a ++ b)
IsListOf-append first second a b whole f g =
    subst (λ ls. AreEntriesOf ls (a ++ b)) (sym (lines-append first second whole)) (AreEntriesOf-append (lines first) (lines second) a b f g)

-- so do any number of texts
pub IsListOf-many : (texts : List (List ℕ)) (parts : List (List Tree)) → All AreWholeLines texts → AllZip IsListOf texts parts → IsListOf (concat texts) (flat_map (λ a. a) parts)
IsListOf-many [] [] whole h = tt
IsListOf-many [] (a ∷ parts) whole h = absurd h
IsListOf-many (t ∷ texts) [] whole h = absurd h
IsListOf-many (t ∷ texts) (a ∷ parts) whole h =
    IsListOf-append t (concat texts) a (flat_map (λ b. b) parts) (All-head AreWholeLines t texts whole) h.0 (IsListOf-many texts parts (All-tail AreWholeLines t texts whole) h.1)

-- the same of their libraries, where no key is in both
pub Describes-append : (first second : List ℕ) (a b : List Tree) → AreWholeLines first → AreApart a b → Describes first a → Describes second b → Describes (first ++ second) (a ++ b)
Describes-append first second a b whole apart f g = record {
  entries = f.entries ++ g.entries;
  listed = IsListOf-append first second f.entries g.entries whole f.listed g.listed;
  of_entries =
      rw (f.of_entries, g.of_entries)
      (sym (from_entries-parts f.entries g.entries (AreApart-entries f.entries g.entries (rw (f.of_entries, g.of_entries) at apart))));
}

-- so do the libraries of any number of texts
pub Describes-many : (texts : List (List ℕ)) (parts : List (List Tree)) → All AreWholeLines texts → AllPairs AreApart parts → AllZip Describes texts parts
    → Describes (concat texts) (flat_map (λ a. a) parts)
Describes-many [] [] whole apart h = record { entries = []; listed = tt; of_entries = refl }
Describes-many [] (a ∷ parts) whole apart h = absurd h
Describes-many (t ∷ texts) [] whole apart h = absurd h
Describes-many (t ∷ texts) (a ∷ parts) whole apart h =
    Describes-append t (concat texts) a (flat_map (λ b. b) parts) (All-head AreWholeLines t texts whole)
    (AreApart-all a parts (λ k d within. apart 0 (suc k) d (omega arith) (omega arith))) h.0
    (Describes-many texts parts (All-tail AreWholeLines t texts whole) (λ i j d before within. apart (suc i) (suc j) d (omega arith) (omega arith)) h.1)
