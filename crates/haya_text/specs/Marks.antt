-- The marks of a chunked text, one by one.
use Rattle.std.specs.Prelude.{◌≡◌, ℕ, zero, suc, Bool, true, false, List, [], ◌∷◌, Err}
use Rattle.haya_text.specs.declared.strings.kind.ChunkKind.TheVariants.{Math}
use Rattle.haya_text.specs.declared.strings.reading.ChunkedReadError.{ChunkedReadError}
use Rattle.haya_text.specs.declared.strings.reading.ChunkedReadError.TheVariants.{Parse, OutOfMemory}
use Rattle.haya_text.specs.declared.strings.reading.Mark.{Mark}
use Rattle.haya_text.specs.declared.strings.reading.Mark.TheVariants.{Plain, Open, Close, Dollar}
use Rattle.haya_text.specs.declared.strings.reading.Reader.{Reader}
use Rattle.haya_text.specs.Chunks.{chunks, characters}
use Rattle.haya_text.specs.Normal.{norm}
use Rattle.haya_text.specs.Reading.{Scan, result_after, kind_in, scan, position_of}
use Rattle.haya_text.specs.Signs.{open_brace, close_brace}

-- what is read of a text that begins with this mark
abbrev pub scan_of_mark : ℕ → Bool → Mark → List ℕ → Scan
scan_of_mark depth math (Plain c) rest =
    result_after ((c, kind_in depth math) ∷ []) (scan depth math false rest)
scan_of_mark depth true Open rest =
    result_after ((open_brace, Math) ∷ []) (scan depth true false rest)
scan_of_mark depth true Close rest =
    result_after ((close_brace, Math) ∷ []) (scan depth true false rest)
scan_of_mark depth true Dollar rest = scan depth false false rest
scan_of_mark depth false Dollar rest = scan depth true false rest
scan_of_mark depth false Open rest = scan (suc depth) false false rest
scan_of_mark (suc depth) false Close rest = scan depth false false rest
scan_of_mark zero false Close rest = Err (close_brace ∷ rest)

-- what is read of a text where a reader stands before this rest of it
abbrev pub scan_of_reader : Reader → List ℕ → Scan
scan_of_reader r rest = result_after (characters (chunks r.read)) (scan r.depth r.math false rest)

-- the reader takes the mark: what it stands before is now what follows the mark
abbrev pub TakesMark : Reader → Mark → Reader → Type 0
TakesMark old mark new = (rest : List ℕ)
    → result_after (characters (chunks old.read)) (scan_of_mark old.depth old.math mark rest)
    ≡ scan_of_reader new rest

-- the same for a character that stands for itself here
abbrev pub TakesPlain : Reader → ℕ → Reader → Type 0
TakesPlain old c new = TakesMark old (Plain c) new

-- what is read so far is in its longest runs
abbrev pub IsInRuns : Reader → Type 0
IsInRuns r = chunks r.read ≡ norm (chunks r.read)

-- a fault in the text has its place: a closing brace stands there, and no group or math is open
abbrev pub Refuses : ℕ → Reader → Mark → ChunkedReadError → Type 0
Refuses place r mark (Parse brace) =
    (position_of brace ≡ place) × (mark ≡ Close) × (r.depth ≡ 0) × (r.math ≡ false)
Refuses place r mark OutOfMemory = Unit {0}
