-- The entries of `.bib` inputs, printed as they are in them.
use Rattle.std.specs.Prelude.{◌≡◌, ◌<◌, ◌↔◌, ℕ, Bool, IsTrue, MatchBool, List, [], ◌∷◌, ◌++◌, Option, decimal, length, string_bytes}
use Rattle.std.specs.Io.KnownBytes.{Appends}
use Rattle.std.specs.List.{AllByRecursion}
use Rattle.std.specs.Str.{chars}
use Rattle.hayagriva.specs.Query.{AreHits}
use Rattle.hayagriva.specs.Reading.{TextReads}
use Rattle.hayagriva.specs.Syntax.{Syntax}
use Rattle.hayagriva.specs.Tree.{Tree}
use Rattle.hayagriva.specs.declared.query.Hit.{Hit}
use Rattle.haya_asked.specs.Asked.{AreAsked}
use Rattle.haya_bibtex_slices.specs.Items.{AreItemsIn, Item}
use Rattle.haya_bibtex_slices.specs.Printed.{IsTextOf}
use Rattle.haya_formats.specs.declared.format.Format.TheVariants.{Bibtex}
use Rattle.haya_lines.specs.Signs.{line_feed}
use Rattle.haya_command.specs.Picks.{wanted}
use Rattle.haya_command.specs.Reading.{AreReadAs, format_in}
use Rattle.haya_command.specs.declared.options.Options.{Options}

-- all texts are `.bib` texts
abbrev pub AreBibtex : Options → List (List ℕ) → Type 0
AreBibtex options texts = AllByRecursion (λ text. format_in options text ≡ Bibtex) texts

-- the text is of items of these texts those of the hits, with what they need
pub record IsBibtexSource (texts : List (List ℕ)) (hits : List Hit) (text : List ℕ) : Type 0 where
  pub items : List Item
  pub are : AreItemsIn texts items
  pub is : IsTextOf items hits text

-- the same where it is asked for: nothing where the run is quiet, their number where it counts them
abbrev pub IsBibtexShown : Options → List (List ℕ) → List Hit → List ℕ → Type 0
IsBibtexShown options texts hits text =
    MatchBool options.quiet (text ≡ [])
    (MatchBool options.count (text ≡ decimal (length hits) ++ line_feed ∷ [])
    (IsBibtexSource texts hits text))

-- The answer of a library that was read from these texts: of the hits of the selector, or,
-- inverted, of those of its opposite, the entries of those that are asked for.
pub record IsBibtexAnswer (options : Options) (texts : List (List ℕ)) (library : List Tree)
    (text : List ℕ) (found : Bool) : Type 0 where
  pub selector : Syntax
  pub hits : List Hit
  pub asked : List Hit
  pub reads : TextReads (chars (string_bytes options.selector)) selector
  pub picks : AreHits (wanted options.invert selector) library hits
  pub asks : AreAsked options.questions hits asked
  pub shows : IsBibtexShown options texts asked text
  pub found_one : IsTrue found ↔ (0 < length asked)

-- what texts answer that are read as a library
pub record AnswersBibtex (options : Options) (texts : List (List ℕ)) (text : List ℕ) (found : Bool)
    : Type 0 where
  pub library : List Tree
  pub reads : AreReadAs options texts library
  pub answers : IsBibtexAnswer options texts library text found

-- a run that is answered: the answer is behind what was there
pub record PrintsBibtex (options : Options) (texts : List (List ℕ)) (before after : Option (List ℕ))
    (found : Bool) : Type 0 where
  pub text : List ℕ
  pub answers : AnswersBibtex options texts text found
  pub prints : Appends before after text

-- a run whose answer can't be printed to its end: a first part of it is
pub record PrintsBibtexPart (options : Options) (texts : List (List ℕ))
    (before after : Option (List ℕ)) : Type 0 where
  pub found : Bool
  pub first : List ℕ
  pub rest : List ℕ
  pub answers : AnswersBibtex options texts (first ++ rest) found
  pub prints : Appends before after first
