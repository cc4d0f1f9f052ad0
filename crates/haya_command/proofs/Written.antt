-- Members that are written one after another.
use Rattle.std.proofs.Common.{◌≡◌, List, ℕ, [], ◌∷◌, ◌++◌, refl, ap, ◌∙◌, append_assoc}
use Rattle.json.specs.Json as json
use Rattle.json.specs.Json.{Members}
use Rattle.json.specs.Token.{Token}
use Rattle.haya_command.specs.Printed.{name_members}

pub one_more_name : (ps : List (List ℕ × List ℕ)) (p : List ℕ × List ℕ) (ms : Members) → name_members (ps ++ p ∷ []) ms ≡ name_members ps (json.member p.0 (json.string p.1) ms)
one_more_name [] p ms = refl
one_more_name (q ∷ ps) p ms = ap (json.member q.0 (json.string q.1)) (one_more_name ps p ms)

-- four tokens, a value, a token, a value and a last token
pub all_appended : (old : List Token) (b k s n : Token) (names : List Token) (e : Token) (entry : List Token) (end : Token)
    → ((((((((old ++ b ∷ []) ++ k ∷ []) ++ s ∷ []) ++ n ∷ []) ++ names) ++ e ∷ []) ++ entry) ++ end ∷ []) ≡ old ++ b ∷ k ∷ s ∷ n ∷ (names ++ e ∷ (entry ++ end ∷ []))
all_appended [] b k s n names e entry end =
    ap (λ ts. b ∷ k ∷ s ∷ n ∷ ts) (append_assoc (names ++ e ∷ []) entry (end ∷ []) ∙ append_assoc names (e ∷ []) (entry ++ end ∷ []))
all_appended (t ∷ old) b k s n names e entry end = ap (λ ts. t ∷ ts) (all_appended old b k s n names e entry end)
