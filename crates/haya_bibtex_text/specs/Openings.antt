-- Where entries begin.
use Rattle.std.specs.Prelude.{ℕ, ◌==◌, ◌||◌, Bool, true, false, List, [], ◌∷◌, Option, Some, None, take, drop, map, codes, if◌then◌else◌}
use Rattle.std.specs.Char.{to_ascii_lowercase}
use Rattle.std.specs.List.{prefix_len, take_while}
use Rattle.std.specs.Str.{bytes_eq}
use Rattle.haya_bibtex_text.specs.Classes.{in_name, is_white}
use Rattle.haya_bibtex_text.specs.Signs.{at_sign, close_brace, close_paren, line_feed, open_brace, open_paren, percent}

-- what is left behind the next `@` outside of remarks, from inside a remark or not
abbrev pub behind_at : Bool → List ℕ → Option (List ℕ)
behind_at remark [] = None
behind_at true (c ∷ cs) = if c == line_feed then behind_at false cs else behind_at true cs
behind_at false (c ∷ cs) =
    if c == at_sign then Some cs
    else if c == percent then behind_at true cs
    else behind_at false cs

abbrev pub behind_white : List ℕ → List ℕ
behind_white cs = drop (prefix_len is_white cs) cs

-- the type of an entry as it is written, the bracket that closes it, and what is left behind the
-- one that opens it
pub record Opening : Type 0 where
  pub kind : List ℕ
  pub close : ℕ
  pub rest : List ℕ

abbrev pub bracket_behind : List ℕ → List ℕ → Option Opening
bracket_behind kind [] = None
bracket_behind kind (c ∷ cs) =
    if c == open_brace then Some (record { kind = kind; close = close_brace; rest = cs })
    else if c == open_paren then Some (record { kind = kind; close = close_paren; rest = cs })
    else None

abbrev pub opening_by : ℕ → List ℕ → Option Opening
opening_by n cs =
    if n == 0 then None else bracket_behind (take n cs) (behind_white (drop n cs))

abbrev pub opening_of : List ℕ → Option Opening
opening_of cs = opening_by (prefix_len in_name cs) cs

-- behind an `@`: white space, a name, white space and a bracket
abbrev pub opening_at : List ℕ → Option Opening
opening_at cs = opening_of (behind_white cs)

-- the name is this word, which is in lower case, in any case of ASCII letters
abbrev pub is_called : List ℕ → List ℕ → Bool
is_called word name = bytes_eq (map to_ascii_lowercase name) word

-- comments and preambles, which are passed over
abbrev pub is_skipped : List ℕ → Bool
is_skipped name = is_called (codes "comment") name || is_called (codes "preamble") name

-- the name behind an `@` that begins no entry is `comment`
abbrev pub is_remark : List ℕ → Bool
is_remark cs = is_called (codes "comment") (take_while in_name (behind_white cs))
