-- The elements of inputs, printed as they are in them.
use Rattle.std.specs.Prelude.{◌≡◌, ◌≢◌, ◌⊎◌, ◌<◌, ◌↔◌, ℕ, Bool, IsTrue, MatchBool, List, [], ◌∷◌, ◌++◌, Option, None, Some, String, decimal, flat_map, length, string_bytes}
use Rattle.std.specs.Io.KnownBytes.{Appends, Keeps}
use Rattle.std.specs.List.{AllByRecursion, AllZip, Contains}
use Rattle.std.specs.Str.{chars}
use Rattle.std.specs.declared.alloc.Global.{Global}
use Rattle.hayagriva.specs.Library.{key_of}
use Rattle.hayagriva.specs.Query.{AreHits, hit_entry}
use Rattle.hayagriva.specs.Reading.{TextReads}
use Rattle.hayagriva.specs.Syntax.{Syntax}
use Rattle.hayagriva.specs.Tree.{Tree}
use Rattle.hayagriva.specs.declared.query.Hit.{Hit}
use Rattle.haya_asked.specs.Asked.{AreAsked}
use Rattle.haya_lines.specs.Signs.{line_feed}
use Rattle.haya_slices.specs.Layout.{IsPartOf}
use Rattle.haya_source.specs.Elements.{AreElementsOf, Element, Says}
use Rattle.haya_source.specs.Places.{part_for}
use Rattle.haya_source.specs.Printed.{IsTextOf}
use Rattle.haya_source.specs.declared.kind.ElementKind.{ElementKind}
use Rattle.haya_command.specs.BibtexSource.{AreBibtex, PrintsBibtex, PrintsBibtexPart}
use Rattle.haya_command.specs.Picks.{wanted}
use Rattle.haya_command.specs.Reading.{AreReadAs, format_in}
use Rattle.haya_command.specs.Run.{Prints, Stands}
use Rattle.haya_command.specs.SourceForm.{kind_in}
use Rattle.haya_command.specs.declared.error.CommandError.{CommandError}
use Rattle.haya_command.specs.declared.error.CommandError.TheVariants as fault
use Rattle.haya_command.specs.declared.options.Input.{Input}
use Rattle.haya_command.specs.declared.options.Options.{Options}
use Rattle.haya_command.specs.declared.source_error.SourceError.{SourceError}
use Rattle.haya_command.specs.declared.source_error.SourceError.TheVariants as error
use Rattle.haya_command.specs.declared.source_form.SourceForm.{SourceForm}
use Rattle.haya_command.specs.declared.source_form.SourceForm.TheVariants.{Source, CslJson}
use Rattle.haya_formats.specs.declared.format.Format.{Format}

-- ---- the elements of texts

-- all texts have elements of this kind, which the form prints
abbrev pub AreOfKind : Options → SourceForm → List (List ℕ) → ElementKind → Type 0
AreOfKind options form texts kind =
    AllByRecursion (λ text. kind_in form (format_in options text) ≡ Some kind) texts

-- these are the elements of all texts, in order, those of a text behind those of the one before it
pub record AreElementsIn (kind : ElementKind) (texts : List (List ℕ)) (es : List Element)
    : Type 0 where
  pub parts : List (List Element)
  pub each : AllZip (AreElementsOf kind) texts parts
  pub all : es ≡ flat_map (λ part. part) parts

-- ---- what is printed

-- Of each hit the element that it was read from, the last that has its key, as it is in its text:
-- all of them as one text of their kind, which says what they say.
pub record IsSourceOf (kind : ElementKind) (es : List Element) (hits : List Hit) (text : List ℕ)
    : Type 0 where
  pub parts : List (List ℕ)
  pub each : AllZip (λ hit part. part_for (key_of (hit_entry hit)) es ≡ Some part) hits parts
  pub is : IsTextOf kind parts text

-- the same where it is asked for: nothing where the run is quiet, their number where it counts them
abbrev pub IsSourceShown : Options → ElementKind → List Element → List Hit → List ℕ → Type 0
IsSourceShown options kind es hits text =
    MatchBool options.quiet (text ≡ [])
    (MatchBool options.count (text ≡ decimal (length hits) ++ line_feed ∷ [])
    (IsSourceOf kind es hits text))

-- The answer of a library that was read from these elements: of the hits of the selector, or,
-- inverted, of those of its opposite, the elements of those that are asked for.
pub record IsSourceAnswer (options : Options) (kind : ElementKind) (es : List Element)
    (library : List Tree) (text : List ℕ) (found : Bool) : Type 0 where
  pub selector : Syntax
  pub hits : List Hit
  pub asked : List Hit
  pub reads : TextReads (chars (string_bytes options.selector)) selector
  pub picks : AreHits (wanted options.invert selector) library hits
  pub asks : AreAsked options.questions hits asked
  pub shows : IsSourceShown options kind es asked text
  pub found_one : IsTrue found ↔ (0 < length asked)

-- the bytes are a part of one of the texts, and say an entry that has this key
pub record IsElementFor (kind : ElementKind) (texts : List (List ℕ)) (key part : List ℕ)
    : Type 0 where
  pub text : List ℕ
  pub entry : Tree
  pub among : Contains texts text
  pub is_part : IsPartOf part text
  pub says : Says kind part entry
  pub named : key_of entry ≡ key

-- ---- a run

-- what texts answer: they have elements of one kind, are read as a library, and its answer is this
pub record AnswersSource (options : Options) (form : SourceForm) (texts : List (List ℕ))
    (text : List ℕ) (found : Bool) : Type 0 where
  pub kind : ElementKind
  pub elements : List Element
  pub library : List Tree
  pub kinds : AreOfKind options form texts kind
  pub are : AreElementsIn kind texts elements
  pub reads : AreReadAs options texts library
  pub answers : IsSourceAnswer options kind elements library text found

-- a run that is answered: the answer is behind what was there
pub record PrintsSource (options : Options) (form : SourceForm) (texts : List (List ℕ))
    (before after : Option (List ℕ)) (found : Bool) : Type 0 where
  pub text : List ℕ
  pub answers : AnswersSource options form texts text found
  pub prints : Appends before after text

-- a run whose answer can't be printed to its end: a first part of it is
pub record PrintsSourcePart (options : Options) (form : SourceForm) (texts : List (List ℕ))
    (before after : Option (List ℕ)) : Type 0 where
  pub found : Bool
  pub first : List ℕ
  pub rest : List ℕ
  pub answers : AnswersSource options form texts (first ++ rest) found
  pub prints : Appends before after first

-- what a run leaves on the output that is answered: hits in a form or a table, or elements, or
-- items of `.bib` texts
abbrev pub Answered : Option SourceForm → Options → List (List ℕ) → Option (List ℕ)
    → Option (List ℕ) → Bool → Type 0
Answered None options texts before after found = Prints options texts before after found
Answered (Some form) options texts before after found =
    PrintsSource options form texts before after found
    ⊎ ((form ≡ Source) × AreBibtex options texts × PrintsBibtex options texts before after found)

-- what one leaves there that ends with a fault in front of elements or among them: nothing more
-- than was there, or a part
abbrev pub HaltedInSource : SourceForm → Options → List (List ℕ) → Option (List ℕ)
    → Option (List ℕ) → Type 0
HaltedInSource form options texts before after =
    Keeps before after ⊎ PrintsSourcePart options form texts before after

-- the same among items of `.bib` texts
abbrev pub HaltedInBibtex : Options → List (List ℕ) → Option (List ℕ) → Option (List ℕ) → Type 0
HaltedInBibtex options texts before after =
    Keeps before after ⊎ PrintsBibtexPart options texts before after

-- what any one leaves there that ends with a fault
abbrev pub Halted : Option SourceForm → Options → List (List ℕ) → Option (List ℕ)
    → Option (List ℕ) → Type 0
Halted None options texts before after = Stands options texts before after
Halted (Some form) options texts before after =
    HaltedInSource form options texts before after
    ⊎ ((form ≡ Source) × AreBibtex options texts × HaltedInBibtex options texts before after)

-- ---- faults

-- the fault that this is the error of an input, which it names
pub record IsSourceFault (error : SourceError) (input : Input) (e : CommandError) : Type 0 where
  pub called : String Global
  pub is : e ≡ fault.Source called error
  pub same : string_bytes called ≡ string_bytes input.name

-- what an error says of a text in a format, where the first text is in another: the form prints no
-- elements of it, or not of the same kind
abbrev pub IsKindError : SourceForm → Format → Format → SourceError → Type 0
IsKindError form first format (error.NoSource f) =
    (form ≡ Source) × (f ≡ format) × (kind_in form format ≡ None)
IsKindError form first format (error.NoItems f) =
    (form ≡ CslJson) × (f ≡ format) × (kind_in form format ≡ None)
IsKindError form first format (error.OtherFormat f g) =
    (f ≡ format) × (g ≡ first) × (kind_in form format ≢ kind_in form first)
IsKindError form first format error.NoElements = ⊥

-- the fault of an input for such an error
pub record IsKindFault (options : Options) (form : SourceForm) (first : Format) (input : Input)
    (e : CommandError) : Type 0 where
  pub error : SourceError
  pub of_kind : IsKindError form first (format_in options (string_bytes input.text)) error
  pub is : IsSourceFault error input e
