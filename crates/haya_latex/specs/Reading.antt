-- What a text says: its tokens, one after another, by a reader that keeps the groups around and the
-- accents that wait.
use Rattle.std.specs.Prelude.{ℕ, zero, suc, ◌-◌, ◌==◌, ◌&&◌, nat_lt, Bool, true, false, List, [], ◌∷◌, ◌++◌, length, if◌then◌else◌, Option, None, Some, unwrap_or, encode_utf8_all}
use Rattle.std.specs.Char.{is_whitespace}
use Rattle.haya_latex_words.specs.Accents.{alone, composed, dotted, mark}
use Rattle.haya_latex_words.specs.declared.accent.Accent.{Accent}
use Rattle.haya_latex.specs.Kinds.{sign_kind}
use Rattle.haya_latex.specs.Scans.{white_length}
use Rattle.haya_latex.specs.Tokens.{Output, nothing, one, two, text, math, counted, odd, Token, token_at}
use Rattle.haya_latex.specs.declared.kinds.Kind.{Kind}
use Rattle.haya_latex.specs.declared.kinds.Kind.TheVariants.{Math}
use Rattle.haya_latex.specs.declared.kinds.Turn.{Turn}
use Rattle.haya_latex.specs.declared.kinds.Turn.TheVariants.{Stay, Enter, Open, Close, Wait, Under}

-- a formula as it is, runs of white characters as a blank each, none at its ends
abbrev pub formula_in : Bool → Bool → List ℕ → List (ℕ × Kind)
formula_in started white [] = []
formula_in started white (x ∷ xs) =
    if is_whitespace x then formula_in started true xs
    else if started && white then (32, Math) ∷ (x, Math) ∷ formula_in true false xs
    else (x, Math) ∷ formula_in true false xs

abbrev pub formula : List ℕ → List (ℕ × Kind)
formula xs = formula_in false false xs

-- a group: the kind of its text, how many braces are open in it that begin no group, and the sign
-- that is written at its end
pub record Group : Type 0 where
  pub kind : Kind
  pub depth : ℕ
  pub last : Option ℕ

-- a reader: what is written and counted, the group around and those around that, the innermost
-- first; the accents that wait for a character, the innermost first, each with the kind around it
-- and the number of groups around that
pub record Reader : Type 0 where
  pub chars : List (ℕ × Kind)
  pub counted : List (List ℕ)
  pub inner : Group
  pub outer : List Group
  pub waiting : List (Accent × Kind × ℕ)

abbrev pub group : Kind → ℕ → Option ℕ → Group
group k n l = record { kind = k; depth = n; last = l }

abbrev pub is_inside : List Group → Bool
is_inside [] = false
is_inside (g ∷ gs) = true

-- a character under accents: composed where there is a letter for both, otherwise with a mark
-- behind it
abbrev pub letter : Accent → ℕ → ℕ
letter a c = unwrap_or (composed a (dotted c)) (dotted c)

abbrev pub marks_by : Accent → Kind → Option ℕ → List (ℕ × Kind)
marks_by a k None = (mark a, k) ∷ []
marks_by a k (Some d) = []

abbrev pub under : List (Accent × Kind × ℕ) → ℕ → Kind → List (ℕ × Kind)
under [] c k = (c, k) ∷ []
under (a ∷ others) c k = under others (letter a.0 c) k ++ marks_by a.0 k (composed a.0 (dotted c))

abbrev pub write : List (ℕ × Kind) → Reader → Reader
write cs s = record s { chars = s.chars ++ cs }

-- a character takes all accents that wait
abbrev pub write_under : List (Accent × Kind × ℕ) → ℕ → Kind → Reader → Reader
write_under waiting c k s = record s { chars = s.chars ++ under waiting c k; waiting = [] }

-- accents that nothing carries, of those in so many groups or more: the innermost that is written
-- alone is a character to all around it
abbrev pub alone_under :
    Option ℕ → Kind → List (Accent × Kind × ℕ) → List (ℕ × Kind) → List (ℕ × Kind)
alone_under None k outer rest = rest
alone_under (Some c) k outer rest = under outer c k

abbrev pub left_alone : ℕ → List (Accent × Kind × ℕ) → List (ℕ × Kind)
left_alone n [] = []
left_alone n (a ∷ others) =
    if nat_lt a.2 n then [] else alone_under (alone a.0) a.1 others (left_alone n others)

-- the accents that wait on
abbrev pub waiting_under : Option ℕ → List (Accent × Kind × ℕ) → List (Accent × Kind × ℕ)
waiting_under None rest = rest
waiting_under (Some c) rest = []

abbrev pub left_waiting : ℕ → List (Accent × Kind × ℕ) → List (Accent × Kind × ℕ)
left_waiting n [] = []
left_waiting n (a ∷ others) =
    if nat_lt a.2 n then a ∷ others else waiting_under (alone a.0) (left_waiting n others)

abbrev pub settle : ℕ → Reader → Reader
settle n s =
    record s { chars = s.chars ++ left_alone n s.waiting; waiting = left_waiting n s.waiting }

-- accents in the group wait no longer
abbrev pub settle_inner : Reader → Reader
settle_inner s = settle (length s.outer) s

-- a character that accents may be on
abbrev pub put : ℕ → Kind → Reader → Reader
put c k s =
    if is_whitespace c then write ((c, k) ∷ []) (settle 0 s) else write_under s.waiting c k s

-- the characters that a command stands for
abbrev pub put_text : List ℕ → Kind → Reader → Reader
put_text [] k s = s
put_text (c ∷ cs) k s = put_text cs k (put c (sign_kind k c) s)

abbrev pub put_formula : List ℕ → Reader → Reader
put_formula xs s = if white_length xs == length xs then s else write (formula xs) (settle 0 s)

-- the names of commands are kept in UTF-8
abbrev pub count : List ℕ → Reader → Reader
count word s = record s { counted = s.counted ++ encode_utf8_all word ∷ [] }

abbrev pub put_output : Output → Reader → Reader
put_output nothing s = s
put_output (one c) s = put c s.inner.kind s
put_output (two c d) s = put d s.inner.kind (put c s.inner.kind s)
put_output (text cs) s = put_text cs s.inner.kind s
put_output (math xs) s = put_formula xs s
put_output (counted xs) s = count xs s
put_output (odd c xs) s = count xs (put c s.inner.kind s)

abbrev pub enter : Kind → Option ℕ → Reader → Reader
enter k l s = record s { inner = group k 0 l; outer = s.inner ∷ s.outer }

abbrev pub wait : Accent → Reader → Reader
wait a s = record s { waiting = (a, s.inner.kind, length s.outer) ∷ s.waiting }

abbrev pub set_depth : ℕ → Reader → Reader
set_depth n s = record s { inner = record s.inner { depth = n } }

abbrev pub leave_by : List Group → Reader → Reader
leave_by [] s = s
leave_by (g ∷ gs) s = record s { inner = g; outer = gs }

abbrev pub leave : Reader → Reader
leave s = leave_by s.outer s

-- behind a group the sign at its end is written, and accents that are on it wait no longer
abbrev pub put_last : Option ℕ → Reader → Reader
put_last None s = s
put_last (Some c) s = put c s.inner.kind s

abbrev pub end_group : Group → Reader → Reader
end_group g s = settle_inner (put_last g.last s)

-- a brace closes one that begins no group, or the group; outside of all groups it closes nothing
abbrev pub close : Reader → Reader
close s =
    if s.inner.depth == 0 then end_group s.inner (leave s) else set_depth (s.inner.depth - 1) s

abbrev pub take_turn : Turn → Reader → Reader
take_turn Stay s = settle_inner s
take_turn (Enter k l) s = enter k l s
take_turn (Open n) s = settle_inner (set_depth n s)
take_turn Close s = close (settle_inner s)
take_turn (Wait a) s = wait a s
take_turn (Under a k) s = enter k None (wait a s)

abbrev pub token_in : Reader → ℕ → List ℕ → Token
token_in s x xs = token_at s.inner.kind s.inner.depth (is_inside s.outer) x xs

abbrev pub step : Token → Reader → Reader
step t s = take_turn t.turn (put_output t.output s)

-- what a reader is at the end of a text, of which so many characters belong to a token already;
-- accents that still wait are written alone
abbrev pub read : ℕ → Reader → List ℕ → Reader
read n s [] = settle 0 s
read (suc n) s (x ∷ xs) = read n s xs
read zero s (x ∷ xs) = read (token_in s x xs).length (step (token_in s x xs) s) xs

-- a reader that has read nothing yet, of text of this kind
abbrev pub start : Kind → Reader
start k =
    record {
      chars = [];
      counted = [];
      inner = group k 0 None;
      outer = [];
      waiting = [];
    }

abbrev pub read_all : Kind → List ℕ → Reader
read_all k xs = read 0 (start k) xs
