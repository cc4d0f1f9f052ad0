-- Texts that are read one after another, and what is told of each.
use Rattle.std.proofs.Common.{◌≡◌, List, [], ◌∷◌, ◌++◌, ℕ, None, Some, Option, refl, ap, sym, ◌∙◌, subst, flat_map, fold, append-nil, IsTrue}
use Rattle.std.proofs.lemmas.Grind.{flat_map-append}
use Rattle.std.proofs.lemmas.List.Sums.{fold-append}
use Rattle.hayagriva.proofs.Parts.{AllZip-append}
use Rattle.hayagriva.specs.Library.{from_entries, key_of, push}
use Rattle.hayagriva.specs.Tree.{Tree}
use Rattle.haya_json.specs.Notes.{NoteView, NotesView, all_kept, first_note, kept_of}
use Rattle.haya_json.proofs.NotesKept.{kept_in_turn, kept_together, none_of_first}
use Rattle.haya_json.specs.Told.{told_again}
use Rattle.std.specs.Prelude.{IsSomeAnd}
use Rattle.json.specs.Json.{document}
use Rattle.haya_csl.specs.Told as csl_told
use Rattle.haya_json.specs.Told as json_told
use Rattle.haya_command.specs.Reading.{AddsPart, AreCollected, AreTold, IsReadAs, Tells, TellsBy, TellsPart, format_in, keys_again}
use Rattle.haya_formats.specs.declared.format.Format.{Format}
use Rattle.haya_formats.specs.declared.format.Format.TheVariants.{Bibtex, CslJson, Hayagriva, JsonLines, Lines, Yaml}
use Rattle.haya_command.specs.declared.options.Options.{Options}

-- one more text
told_more : (options : Options) (library : List Tree) (texts : List (List ℕ)) (parts : List (List Tree)) (told : List NotesView) → AreTold options library texts parts told
    → (text : List ℕ) (part : List Tree) (kept : NotesView) → TellsPart options (fold (λ done t. push t done) library (flat_map (λ p. p) parts)) text part kept
    → AreTold options library (texts ++ text ∷ []) (parts ++ part ∷ []) (told ++ kept ∷ [])
told_more options library [] [] [] are text part kept tells = (tells, tt)
told_more options library [] [] (k ∷ ks) are text part kept tells = absurd are
told_more options library [] (p ∷ ps) ks are text part kept tells = absurd are
told_more options library (t ∷ ts) [] ks are text part kept tells = absurd are
told_more options library (t ∷ ts) (p ∷ ps) [] are text part kept tells = absurd are
told_more options library (t ∷ ts) (p ∷ ps) (k ∷ ks) are text part kept tells = (
  are.0,
  told_more options (fold (λ done t. push t done) library p) ts ps ks are.1 text part kept
      (subst (λ l. TellsPart options l text part kept) (fold-append (λ done t. push t done) library p (flat_map (λ q. q) ps)) tells),
)

pub collected_more : (options : Options) (texts : List (List ℕ)) (library : List Tree) (told : List NotesView) → AreCollected options texts library told
    → (text : List ℕ) (next : List Tree) (more : List NotesView) → AddsPart options text library next told more → AreCollected options (texts ++ text ∷ []) next more
collected_more options texts library told c text next more adds =
    let parts = c.reads.parts in
    let whole : flat_map (λ p. p) (parts ++ adds.part ∷ []) ≡ flat_map (λ p. p) parts ++ adds.part = flat_map-append (λ p. p) parts (adds.part ∷ []) ∙ ap (λ l. flat_map (λ p. p) parts ++ l) (append-nil adds.part) in
    let pushed : next ≡ from_entries (flat_map (λ p. p) (parts ++ adds.part ∷ [])) =
    adds.pushed ∙ ap (λ l. fold (λ done t. push t done) l adds.part) c.reads.pushed ∙ sym (fold-append (λ done t. push t done) [] (flat_map (λ p. p) parts) adds.part) ∙ ap from_entries (sym whole) in
    let tells : TellsPart options (from_entries (flat_map (λ p. p) parts)) text adds.part adds.kept = subst (λ l. TellsPart options l text adds.part adds.kept) c.reads.pushed adds.tells in
    record {
      reads = record { parts = parts ++ adds.part ∷ []; each = AllZip-append (IsReadAs options) texts (text ∷ []) parts (adds.part ∷ []) c.reads.each (adds.reads, tt); pushed = pushed };
      each = subst (AreTold options [] (texts ++ text ∷ []) (parts ++ adds.part ∷ [])) (sym adds.all) (told_more options [] texts parts told c.each text adds.part adds.kept tells);
    }

-- what is told of a text alone, and then which of its keys come again
pub part_told : (options : Options) (library : List Tree) (text : List ℕ) (part : List Tree) (before after : NotesView) → TellsBy options text before
    → after ≡ all_kept (keys_again library part) before → (IsTrue options.strict → after ≡ before) → TellsPart options library text part after
part_told options library text part before after by again strict = record {
  notes = by.notes;
  of_text = subst (Tells (format_in options text) text) by.by_notes by.tells;
  all = again ∙ ap (all_kept (keys_again library part)) by.by_notes ∙ kept_in_turn (keys_again library part) by.notes;
  strict = λ s. strict s ∙ by.by_notes ∙ ap kept_of (by.strict s);
}

-- ---- one text

-- what is kept of a list of notes
abbrev KeptOfSome : NotesView → Type 0
KeptOfSome kept = (notes : List NoteView) × (kept ≡ kept_of notes)

of_some : {A : Type 0} (o : Option A) (told : A → List NoteView) (kept : NotesView) → IsSomeAnd o (λ x. kept ≡ kept_of (told x)) → KeptOfSome kept
of_some None told kept is = absurd is
of_some (Some x) told kept is = (told x, is)

of_notes : (format : Format) (text : List ℕ) (kept : NotesView) → Tells format text kept → KeptOfSome kept
of_notes Hayagriva text kept tells = of_some (document text) json_told.told kept tells
of_notes Yaml text kept tells = (json_told.told tells.value, tells.same)
of_notes Bibtex text kept tells = (_, tells.is)
of_notes (CslJson key) text kept tells = of_some (document text) (csl_told.told key) kept tells
of_notes JsonLines text kept tells = (_, tells)
of_notes Lines text kept (library, repeats, again, is) = (_, is)

-- what is told of a text in its format, where none is told in a strict run
pub told_by : (options : Options) (format : Format) (text : List ℕ) (told kept : NotesView) → format ≡ format_in options text → Tells format text told → kept ≡ told
    → (IsTrue options.strict → first_note told ≡ None) → TellsBy options text kept
told_by options format text told kept is tells same none =
    let of = of_notes format text told tells in
    record {
      notes = of.0;
      tells = subst (λ f. Tells f text kept) is (subst (Tells format text) (sym same) tells);
      by_notes = same ∙ of.1;
      strict = λ s. none_of_first of.0 (ap first_note (sym of.1) ∙ none s);
    }

-- ---- keys that come again

-- an empty library has no key
pub none_again : (part : List Tree) (kept : NotesView) → kept ≡ all_kept (keys_again [] part) kept
none_again [] kept = refl
none_again (t ∷ ts) kept = none_again ts kept

-- of an entry, and then of those behind it
pub again_in_turn : (library : List Tree) (t : Tree) (ts : List Tree) (kept : NotesView)
    → all_kept (keys_again library (t ∷ ts)) kept ≡ all_kept (keys_again library ts) (all_kept (told_again library (key_of t)) kept)
again_in_turn library t ts kept = kept_together (told_again library (key_of t)) (keys_again library ts) kept
