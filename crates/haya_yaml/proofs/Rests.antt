-- Steps over the lines of a block scalar.
use Rattle.std.proofs.Common.{◌≡◌, ℕ, ◌+◌, ◌<◌, ◌≤◌, ◌&&◌, List, ◌∷◌, ◌++◌, length, drop, get_or, Bool, true, false, if◌then◌else◌, Option, Some, None, option_map, refl, sym, ap, ◌∙◌, append_assoc}
use Rattle.std.specs.Borrow.{Bor}
use Rattle.std.proofs.lemmas.List.{at_drop_more, drop_all}
use Rattle.haya_yaml.specs.Line.{are_skipped, texts}
use Rattle.haya_yaml_text.specs.Signs.{is_empty, is_hash, skip}
use Rattle.haya_yaml.specs.Literal.{block_rest, break_before, end_of, is_content, last_of}
use Rattle.haya_yaml.specs.Saying.{Adds}
use Rattle.haya_yaml.specs.declared.literal.Chomp.{Chomp}
use Rattle.haya_yaml.specs.declared.literal.Last.{Last}
use Rattle.haya_yaml.proofs.Options.{none_is, some_is}

-- how a text is added behind another
abbrev pub behind : List ℕ → Option (List ℕ) → Option (List ℕ)
behind old rest = option_map (λ text. old ++ text) rest

behind_more : (old x : List ℕ) (rest : Option (List ℕ)) → behind (old ++ x) rest ≡ behind old (option_map (λ more. x ++ more) rest)
behind_more old x None = refl
behind_more old x (Some t) = ap Some (append_assoc old x t)

pub no_rest : (a b : List ℕ) (whole : Option (List ℕ)) → behind a None ≡ behind b whole → whole ≡ None
no_rest a b None e = refl
no_rest a b (Some t) e = none_is (b ++ t) e

pub adds : (a b new t : List ℕ) (whole : Option (List ℕ)) → behind a (Some t) ≡ behind b whole → new ≡ a ++ t → Adds whole b new
adds a b new t None e is = none_is (a ++ t) (sym e)
adds a b new t (Some u) e is = is ∙ some_is (a ++ t) (b ++ u) e

step_if : (f : Bool) (c : Chomp) (e : Option ℕ) (w : ℕ) (last : Last) (n : ℕ) (line : List ℕ) (lines : List (List ℕ)) (content : Bool) → is_content e w line ≡ content
    → block_rest f c e w last n (line ∷ lines) ≡ (if content then
    (if is_empty (drop w line) then block_rest f c e w last (n + 1) lines
    else option_map (λ rest. (break_before last n (drop w line) ++ drop w line) ++ rest) (block_rest f c e w (last_of f (drop w line)) 0 lines))
    else if is_hash (skip false line) && are_skipped lines then Some (end_of c last n) else None)
unfolding block_rest
step_if f c e w last n line lines content is =
    ap (λ b. if b then
    (if is_empty (drop w line) then block_rest f c e w last (n + 1) lines
    else option_map (λ rest. (break_before last n (drop w line) ++ drop w line) ++ rest) (block_rest f c e w (last_of f (drop w line)) 0 lines))
    else if is_hash (skip false line) && are_skipped lines then Some (end_of c last n) else None) is

pub end_rest : (f : Bool) (c : Chomp) (e : Option ℕ) (w : ℕ) (last : Last) (n : ℕ) (ls : List (Bor (List ℕ))) (k : ℕ) → length ls ≤ k
    → block_rest f c e w last n (texts (drop k ls)) ≡ Some (end_of c last n)
unfolding block_rest
end_rest f c e w last n ls k all = ap (λ xs. block_rest f c e w last n (texts xs)) (drop_all k ls all)

pub empty_rest : (f : Bool) (c : Chomp) (e : Option ℕ) (w : ℕ) (last : Last) (n : ℕ) (ls : List (Bor (List ℕ))) (k : ℕ) (d : Bor (List ℕ)) → k < length ls
    → is_content e w (get_or ls k d).now ≡ true → is_empty (drop w (get_or ls k d).now) ≡ true
    → block_rest f c e w last n (texts (drop k ls)) ≡ block_rest f c e w last (n + 1) (texts (drop (k + 1) ls))
empty_rest f c e w last n ls k d within content none =
    let line = (get_or ls k d).now in
    let rest = texts (drop (k + 1) ls) in
    at_drop_more (λ xs. block_rest f c e w last n (texts xs)) ls k d within ∙ step_if f c e w last n line rest true content
    ∙ ap (λ b. if b then block_rest f c e w last (n + 1) rest
    else option_map (λ more. (break_before last n (drop w line) ++ drop w line) ++ more) (block_rest f c e w (last_of f (drop w line)) 0 rest)) none

pub text_rest : (f : Bool) (c : Chomp) (e : Option ℕ) (w : ℕ) (last : Last) (n : ℕ) (ls : List (Bor (List ℕ))) (k : ℕ) (d : Bor (List ℕ)) (old new : List ℕ) → k < length ls
    → is_content e w (get_or ls k d).now ≡ true → is_empty (drop w (get_or ls k d).now) ≡ false
    → new ≡ old ++ (break_before last n (drop w (get_or ls k d).now) ++ drop w (get_or ls k d).now)
    → behind new (block_rest f c e w (last_of f (drop w (get_or ls k d).now)) 0 (texts (drop (k + 1) ls))) ≡ behind old (block_rest f c e w last n (texts (drop k ls)))
text_rest f c e w last n ls k d old new within content some is =
    let line = (get_or ls k d).now in
    let rest = texts (drop (k + 1) ls) in
    let x = break_before last n (drop w line) ++ drop w line in
    let here = at_drop_more (λ xs. block_rest f c e w last n (texts xs)) ls k d within ∙ step_if f c e w last n line rest true content
    ∙ ap (λ b. if b then block_rest f c e w last (n + 1) rest else option_map (λ more. x ++ more) (block_rest f c e w (last_of f (drop w line)) 0 rest)) some in
    ap (λ ys. behind ys (block_rest f c e w (last_of f (drop w line)) 0 rest)) is ∙ behind_more old x (block_rest f c e w (last_of f (drop w line)) 0 rest) ∙ ap (behind old) (sym here)

pub stop_rest : (f : Bool) (c : Chomp) (e : Option ℕ) (w : ℕ) (last : Last) (n : ℕ) (ls : List (Bor (List ℕ))) (k : ℕ) (d : Bor (List ℕ)) (b : Bool) → k < length ls
    → is_content e w (get_or ls k d).now ≡ false → (is_hash (skip false (get_or ls k d).now) && are_skipped (texts (drop (k + 1) ls))) ≡ b
    → block_rest f c e w last n (texts (drop k ls)) ≡ (if b then Some (end_of c last n) else None)
stop_rest f c e w last n ls k d b within other is =
    let line = (get_or ls k d).now in
    at_drop_more (λ xs. block_rest f c e w last n (texts xs)) ls k d within ∙ step_if f c e w last n line (texts (drop (k + 1) ls)) false other
    ∙ ap (λ t. if t then Some (end_of c last n) else None) is
