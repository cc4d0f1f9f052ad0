-- The list of a text each of whose lines says an entry, as a reader of lines reads it.
use Rattle.std.proofs.Common.{◌≡◌, ◌⊎◌, IsTrue, Bool, ℕ, ◌+◌, List, [], ◌∷◌, ◌++◌, ◌==◌, ◌≢◌, flat_map, fold, false, inl, inr, length, map, refl, sym, ap, ◌∙◌, subst, append_assoc, append-nil, arith}
use Rattle.std.specs.List.{AllZip, FoldsTo}
use Rattle.std.specs.Str.Lines.{lines}
use Rattle.std.proofs.lemmas.Bool.Decides.{nat_tests}
use Rattle.std.proofs.lemmas.List.{length-map}
use Rattle.hayagriva.specs.Tree.{Tree}
use Rattle.haya_json.specs.JsonLines.{IsJsonLineErrorOf}
use Rattle.haya_json.specs.Notes.{NotesView, all_kept, first_note, kept_of, none_kept}
use Rattle.haya_json.specs.declared.error.ElementError.{ElementError}
use Rattle.haya_json.specs.declared.error.ReadError.{ReadError}
use Rattle.haya_json.specs.declared.error.ReadError.TheVariants as read_error
use Rattle.haya_json.specs.declared.error.ReadError.TheVariants.{OutOfMemory}
use Rattle.haya_json.proofs.NotesKept.{first_of_kept, kept_from_none, kept_together}
use Rattle.haya_json_elements.specs.Elements.{nonempty_lines}
use Rattle.haya_entry_stream.proofs.EntryLineLists.{reads_one}
use Rattle.haya_entry_stream.specs.EntryLines.{AtNext, IsFaultOf, LeavesReader, ReadsFirst, ReadsLines}
use Rattle.haya_entry_stream.specs.declared.error.EntryError.{EntryError}
use Rattle.haya_entry_stream.specs.declared.error.EntryError.TheVariants as entry_fault
use Rattle.haya_entry_stream.specs.declared.error.ListError.{ListError}
use Rattle.haya_entry_stream.specs.declared.error.ListError.TheVariants.{Entry, Line}
use Rattle.haya_printing.specs.declared.error.LinesError.{LinesError}
use Rattle.haya_line_stream.specs.declared.error.StreamError.{StreamError}
use Rattle.haya_line_stream.specs.declared.error.StreamError.TheVariants as stream
use Rattle.haya_line_stream.specs.declared.error.WriteError.TheVariants as write
use Rattle.haya_command.specs.AskedLines.{BeginsLines, FirstElementError, IsElementError, IsElementErrorFor, IsJsonLineErrorFor, IsLineIn, IsOutOfMemory, ReadsElement, ReadsLine, TellsLines, line_told, lines_told}
use Rattle.haya_command.specs.Reading.{IsErrorOf, IsLoss}
use Rattle.haya_command.specs.Streamed.{IsStreamError, TellsBefore, Why}
use Rattle.haya_command.specs.declared.error.CommandError.{CommandError}
use Rattle.haya_command.specs.declared.error.CommandError.TheVariants as fault
use Rattle.haya_command.specs.declared.error.LibraryError.{LibraryError}
use Rattle.haya_command.specs.declared.error.LibraryError.TheVariants.{Element}
use Rattle.haya_formats.specs.declared.format.Format.{Format}
use Rattle.haya_formats.specs.declared.format.Format.TheVariants.{JsonLines, Lines}
use Rattle.haya_command.specs.declared.options.Options.{Options}

-- ---- what is kept of what is told of lines

-- after all of these lines, in turn
abbrev pub all_told : Format → List (List ℕ) → NotesView → NotesView
all_told format ls kept = fold (λ so_far line. all_kept (line_told format line) so_far) kept ls

each_told : (format : Format) (ls : List (List ℕ)) (kept : NotesView) → all_told format ls kept ≡ all_kept (flat_map (line_told format) ls) kept
each_told format [] kept = refl
each_told format (line ∷ ls) kept =
    each_told format ls (all_kept (line_told format line) kept) ∙ sym (kept_together (line_told format line) (flat_map (line_told format) ls) kept)

-- what is kept of lines, where nothing was kept before
pub told_kept : (format : Format) (ls : List (List ℕ)) (kept : NotesView) → kept ≡ none_kept → all_told format (nonempty_lines ls) kept ≡ kept_of (lines_told format ls)
told_kept format ls kept none =
    ap (all_told format (nonempty_lines ls)) none ∙ each_told format (nonempty_lines ls) none_kept ∙ kept_from_none (lines_told format ls)

-- nothing is told of lines that are no JSON
pub none_told : (ls : List (List ℕ)) → lines_told Lines ls ≡ []
none_told ls = by (nonempty_lines ls)
  where
    by : (ms : List (List ℕ)) → flat_map (line_told Lines) ms ≡ []
    by [] = refl
    by (m ∷ ms) = by ms

-- ---- lines

module _ (format : Format) {R : Type 0} (kept : R → NotesView) (Is : R → Type 0) (says : R → List ℕ → Tree → R → Type 0)
    (reads_line : (r : R) (line : List ℕ) (entry : Tree) (q : R) → Is r → says r line entry q → Is q × ReadsLine format (kept r) line entry (kept q)) where
  record ReadsAll (ls : List (List ℕ)) (entries : List Tree) (r q : R) : Type 0 where
    each : AllZip (IsLineIn format) ls entries
    all : kept q ≡ all_told format ls (kept r)

  reads_all : (parts : List (List ℕ × Tree)) (r q : R) → Is r → FoldsTo (λ p part u. says p part.0 part.1 u) r parts q → ReadsAll (map (λ p. p.0) parts) (map (λ p. p.1) parts) r q
  reads_all [] r q is run = record { each = tt; all = ap kept (sym run) }
  reads_all ((line, entry) ∷ parts) r q is run =
      let one = reads_line r line entry run.0 is run.1 in
      let rest = reads_all parts run.0 q one.0 run.2 in
      let left = map (λ p. p.0) parts in
      record { each = (one.1.says, rest.each); all = rest.all ∙ ap (all_told format left) one.1.kept }

  -- the entries of lines, and what is kept of them
  pub record ReadsList (ls : List (List ℕ)) (entries : List Tree) (r q : R) : Type 0 where
    pub listed : AllZip (IsLineIn format) (nonempty_lines ls) entries
    pub all : kept q ≡ all_told format (nonempty_lines ls) (kept r)

  pub first_of_all : (text : List ℕ) (entries : List Tree) (r q : R) → ReadsLines says (lines text) entries r q → ReadsFirst says text entries r q
  first_of_all text entries r q reads = record { first = lines text; more = []; parts = sym (append-nil (lines text)); reads = reads }

  module _ (r : R) (is : Is r) where
    pub reads_list : (ls : List (List ℕ)) (entries : List Tree) (q : R) → ReadsLines says ls entries r q → ReadsList ls entries r q
    reads_list ls entries q reads =
        let all = reads_all reads.parts r q is reads.run in
        record {
          listed = rw (← reads.of_lines, ← reads.of_entries) all.each;
          all = all.all ∙ ap (λ ls. all_told format ls (kept r)) reads.of_lines;
        }

    pub begins_list : (text : List ℕ) (entries : List Tree) (q : R) → ReadsFirst says text entries r q → BeginsLines format text entries
    begins_list text entries q begins =
        record { first = begins.first; more = begins.more; parts = begins.parts; listed = (reads_list begins.first entries q begins.reads).listed }

    -- a strict run's fault, the first that is told of the lines that were read
    pub loss_why : kept r ≡ none_kept → (options now : Options) (name text : List ℕ) (entries : List Tree) (q : R) (e : CommandError) → now ≡ options → ReadsFirst says text entries r q
        → (e ≡ fault.OutOfMemory) ⊎ (IsTrue now.strict × IsLoss name (kept q) e) → Why options format name text [] e
    loss_why none options now name text entries q e same begins (inl memory) = rw memory tt
    loss_why none options now name text entries q e same begins (inr (strict, loss)) =
        let all = (reads_list begins.first entries q begins.reads).all ∙ told_kept format begins.first (kept r) none in
        let strictly = subst (λ o. IsTrue o.strict) same strict in
        let first = sym (first_of_kept (lines_told format begins.first)) ∙ ap first_note (sym all) ∙ loss.first in
        rw loss.is (loss.same, strictly, (begins.first, begins.more, begins.parts, first), refl)

    -- what is told in front of a fault
    module _ (none : kept r ≡ none_kept) {L : Type 0} (leaves : R → List ℕ → L → R → Type 0) (converts : EntryError L → LibraryError → Type 0)
        (left_kept : (number : ℕ) (l : L) (e : LibraryError) (p : R) (line : List ℕ) (q : R) → converts (entry_fault.Line number l) e → leaves p line l q → IsOutOfMemory e ⊎ (kept q ≡ kept p))
        (too_many : (e : LibraryError) → converts entry_fault.TooMany e → IsOutOfMemory e) where
      abbrev Left : R → List ℕ → List Tree → StreamError (ListError (EntryError L) LinesError) → Type 0
      Left q text entries sf = LeavesReader says leaves r q text entries sf

      lines_kept : (ls : List (List ℕ)) (entries : List Tree) (q : R) → ReadsLines says ls entries r q → kept q ≡ kept_of (lines_told format ls)
      lines_kept ls entries q reads = (reads_list ls entries q reads).all ∙ told_kept format ls (kept r) none

      module _ (text : List ℕ) (entries : List Tree) (first more : List (List ℕ)) (after : R) (parts : lines text ≡ first ++ more) (reads : ReadsLines says first entries r after) (q : R) where
        -- what was told of the lines of the entries
        tells_same : kept q ≡ kept after → TellsLines format text entries (kept q)
        tells_same same = record {
          first = first;
          next = [];
          more = more;
          parts = parts ∙ ap (λ l. l ++ more) (sym (append-nil first));
          listed = (reads_list first entries after reads).listed;
          one = omega arith;
          told = rw (append-nil first) (same ∙ lines_kept first entries after reads);
        }

        -- and of one line more, whose entry is refused
        tells_next : AtNext (λ line. (length line ≢ 0) × (entry : Tree) × says after line entry q) more → TellsLines format text entries (kept q)
        tells_next next = by more refl next
          where
            by : (ls : List (List ℕ)) → more ≡ ls → AtNext (λ line. (length line ≢ 0) × (entry : Tree) × says after line entry q) ls → TellsLines format text entries (kept q)
            by [] is next = absurd next
            by (line ∷ rest) is next =
                let some : length line ≢ 0 = next.0 in
                let long : (length line == 0) ≡ false = grind (arith, nat_tests) in
                record {
                  first = first;
                  next = line ∷ [];
                  more = rest;
                  parts = parts ∙ ap (λ l. first ++ l) is ∙ sym (append_assoc first (line ∷ []) rest);
                  listed = (reads_list first entries after reads).listed;
                  one = omega arith;
                  told = lines_kept (first ++ line ∷ []) (entries ++ next.1 ∷ []) q (reads_one says first entries r after reads line long next.1 q next.2);
                }

        -- the line of a fault is told of only where memory is out
        tells_line : (number : ℕ) (l : L) (e : LibraryError) → converts (entry_fault.Line number l) e → AtNext (λ line. leaves after line l q) more → IsOutOfMemory e ⊎ TellsLines format text entries (kept q)
        tells_line number l e is_for next = by more next
          where
            kept_so : IsOutOfMemory e ⊎ (kept q ≡ kept after) → IsOutOfMemory e ⊎ TellsLines format text entries (kept q)
            kept_so (inl memory) = inl memory
            kept_so (inr same) = inr (tells_same same)

            by : (ls : List (List ℕ)) → AtNext (λ line. leaves after line l q) ls → IsOutOfMemory e ⊎ TellsLines format text entries (kept q)
            by [] next = absurd next
            by (line ∷ rest) next = kept_so (left_kept number l e after line q is_for next)

      pub stream_tells : (name text : List ℕ) (entries : List Tree) (q : R) (sf : StreamError (ListError (EntryError L) LinesError)) (e : CommandError) → (e ≡ fault.OutOfMemory) ⊎ IsStreamError converts name sf e
          → Left q text entries sf → TellsBefore format text entries (kept q) e
      stream_tells name text entries q sf e (inl memory) x = rw memory tt
      stream_tells name text entries q (stream.CannotRead error) e (inr h) x = rw h.2 (tells_same text entries x.first x.more x.after x.parts x.reads q (ap kept x.next))
      stream_tells name text entries q stream.NotText e (inr h) x = rw h.2 (tells_same text entries x.first x.more x.after x.parts x.reads q (ap kept x.next))
      stream_tells name text entries q (stream.Refused (Line (entry_fault.Line number l))) e (inr h) x = rw h.4 (tells_line text entries x.first x.more x.after x.parts x.reads q number l h.1 h.3 x.next)
      stream_tells name text entries q (stream.Refused (Line entry_fault.TooMany)) e (inr h) x = rw h.4 (inl (too_many h.1 h.3))
      stream_tells name text entries q (stream.Refused (Entry error)) e (inr h) x = rw h (tells_next text entries x.first x.more x.after x.parts x.reads q x.next)
      stream_tells name text entries q (stream.CannotWrite write.Closed) e (inr h) x = rw h tt
      stream_tells name text entries q (stream.CannotWrite write.CannotWrite) e (inr h) x = rw h tt
      stream_tells name text entries q stream.OutOfMemory e (inr h) x = rw h tt

-- where the first that is told is the fault itself, or memory is out, nothing is said
pub loss_tells : (format : Format) (strict : Bool) (name text : List ℕ) (entries : List Tree) (read kept : NotesView) (e : CommandError) → (e ≡ fault.OutOfMemory) ⊎ (IsTrue strict × IsLoss name read e)
    → TellsBefore format text entries kept e
loss_tells format strict name text entries read kept e (inl memory) = rw memory tt
loss_tells format strict name text entries read kept e (inr (is, loss)) = rw loss.is tt

-- whether memory was out where a line was read
pub memory_or : (e : ReadError) (P : Type 0) → (e ≢ OutOfMemory → P) → (e ≡ OutOfMemory) ⊎ P
memory_or read_error.OutOfMemory P otherwise = inl refl
memory_or e P otherwise = inr (otherwise (λ h. cc))

-- ---- elements, which are counted
module _ (format : Format) {R : Type 0} (number : R → ℕ) (kept : R → NotesView) (Is : R → Type 0) (says : R → List ℕ → Tree → R → Type 0) (refuses : R → List ℕ → ElementError → Type 0)
    (reads_element : (r : R) (line : List ℕ) (entry : Tree) (q : R) → Is r → says r line entry q → Is q × ReadsElement format (number r) (kept r) line entry (number q) (kept q))
    (refuses_element : (r : R) (line : List ℕ) (e : ElementError) → Is r → refuses r line e → IsElementError format (number r) line e) where
  pub says_line : (r : R) (line : List ℕ) (entry : Tree) (q : R) → Is r → says r line entry q → Is q × ReadsLine format (kept r) line entry (kept q)
  says_line r line entry q is said = let read = reads_element r line entry q is said in (read.0, read.1.reads)

  all_numbered : (parts : List (List ℕ × Tree)) (r q : R) → Is r → FoldsTo (λ p part u. says p part.0 part.1 u) r parts q → Is q × (number q ≡ number r + length parts)
  all_numbered [] r q is run = (subst Is run is, let same = ap number run in omega arith)
  all_numbered ((line, entry) ∷ parts) r q is run =
      let one = reads_element r line entry run.0 is run.1 in
      let n : number run.0 ≡ number r + 1 = one.1.number in
      let rest = all_numbered parts run.0 q one.0 run.2 in
      let m : number q ≡ number run.0 + length parts = rest.1 in
      (rest.0, omega arith)

  module _ (r : R) (is : Is r) (first : number r ≡ 0) where
    -- as many are behind a reader as entries were read
    number_of : (ls : List (List ℕ)) (entries : List Tree) (q : R) → ReadsLines says ls entries r q → Is q × (number q ≡ length entries)
    number_of ls entries q reads =
        let all = all_numbered reads.parts r q is reads.run in
        let n : number q ≡ number r + length reads.parts = all.1 in
        let same = length-map reads.parts (λ p. p.1) in
        (all.0, rw (← reads.of_entries) (omega arith))

    -- the error of the line of an element
    pub element_error : (text : List ℕ) (fault : EntryError ElementError) (e : LibraryError) → IsElementErrorFor fault e → IsFaultOf says refuses r text fault
        → (x : ElementError) × (e ≡ Element x) × ((x.error ≡ OutOfMemory) ⊎ FirstElementError format text x)
    element_error text entry_fault.TooMany e is_for at = (_, is_for, inl refl)
    element_error text (entry_fault.Line n x) e is_for at =
        let behind = number_of at.first at.entries at.after at.reads in (
          x,
          is_for,
          inr (record {
            first = at.first;
            line = at.line;
            more = at.more;
            entries = at.entries;
            parts = at.parts;
            listed = (reads_list format kept Is says says_line r is at.first at.entries at.after at.reads).listed;
            some = at.some;
            error = rw (← behind.1) (refuses_element at.after at.line x behind.0 at.why);
          }),
        )

-- the error of a line of JSON
pub line_error : {R : Type 0} (kept : R → NotesView) (r : R) → (text : List ℕ) (fault : EntryError ReadError) (e : LibraryError) → IsJsonLineErrorFor fault e
    → IsFaultOf (λ p line entry q. ReadsLine JsonLines (kept p) line entry (kept q)) (λ _ line x. IsJsonLineErrorOf line x) r text fault → IsErrorOf JsonLines text e
line_error kept r text entry_fault.TooMany e is at = rw is (inl refl)
line_error kept r text (entry_fault.Line number error) e is at =
    rw is
    (inr (record {
      first = at.first;
      line = at.line;
      more = at.more;
      entries = at.entries;
      parts = at.parts;
      listed = (reads_list JsonLines kept (λ _. Unit {0}) _ (λ p line entry q _ reads. (tt, reads)) r tt at.first at.entries at.after at.reads).listed;
      number = at.count;
      error = inr (at.some, at.why);
    }))

-- a line of JSON at whose error memory isn't out leaves the notes as they were
pub line_kept : {R : Type 0} (kept : R → NotesView) (number : ℕ) (x : ReadError) (e : LibraryError) (p : R) (line : List ℕ) (q : R) → IsJsonLineErrorFor (entry_fault.Line number x) e
    → (x ≢ OutOfMemory → kept q ≡ kept p) → IsOutOfMemory e ⊎ (kept q ≡ kept p)
line_kept kept number x e p line q is_for left = rw is_for (memory_or x (kept q ≡ kept p) left)

pub lines_too_many : (e : LibraryError) → IsJsonLineErrorFor entry_fault.TooMany e → IsOutOfMemory e
lines_too_many e is_for = rw is_for refl
