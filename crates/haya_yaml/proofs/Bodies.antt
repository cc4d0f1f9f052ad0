-- The lines of a document, one after another.
use Rattle.std.proofs.Common.{◌≡◌, ℕ, ◌+◌, ◌<◌, ◌≤◌, ◌&&◌, List, [], ◌∷◌, ◌++◌, length, take, drop, get_or, Bool, true, false, not, if◌then◌else◌, Option, Some, None, option_map, refl, sym, ap, ◌∙◌, append_assoc, append-nil, arith}
use Rattle.std.specs.Borrow.{Bor}
use Rattle.std.specs.Prelude.{is_some}
use Rattle.std.proofs.lemmas.List.{at_drop_more, take_more, drop_all, map-append}
use Rattle.haya_yaml_text.specs.Signs.{begins_with}
use Rattle.haya_yaml.specs.Line.{Lines, is_skipped, texts}
use Rattle.haya_yaml.specs.Documents.{are_ended, behind_start, behind_stop, body, body_at, document_of, is_clear, is_directive, started, with_front}

-- lines before those of a document
abbrev pub behind : Lines → Option Lines → Option Lines
behind front found = option_map (λ more. front ++ more) found

behind_more : (a b : Lines) (found : Option Lines) → behind (a ++ b) found ≡ behind a (behind b found)
behind_more a b None = refl
behind_more a b (Some ls) = ap Some (append_assoc a b ls)

body_step : (start stop : Option (List ℕ)) (line : List ℕ) (lines : Lines) → behind_start line ≡ start → behind_stop line ≡ stop → body (line ∷ lines) ≡ body_at start stop line lines (body lines)
unfolding body
body_step start stop line lines is_start is_stop = ap (λ o. body_at o (behind_stop line) line lines (body lines)) is_start ∙ ap (λ o. body_at start o line lines (body lines)) is_stop

-- one more line of the document
pub body_on : (ls : List (Bor (List ℕ))) (n : ℕ) (d : Bor (List ℕ)) → n < length ls → behind_start (get_or ls n d).now ≡ None → behind_stop (get_or ls n d).now ≡ None
    → body (texts ls) ≡ behind (texts (take n ls)) (body (texts (drop n ls))) → body (texts ls) ≡ behind (texts (take (n + 1) ls)) (body (texts (drop (n + 1) ls)))
body_on ls n d within start stop so_far =
    let line = (get_or ls n d).now in
    let rest = texts (drop (n + 1) ls) in
    let step = at_drop_more (λ xs. body (texts xs)) ls n d within ∙ body_step None None line rest start stop in
    let longer : texts (take (n + 1) ls) ≡ texts (take n ls) ++ line ∷ [] = ap texts (take_more ls n d within) ∙ map-append (λ t. t.now) (take n ls) (get_or ls n d ∷ []) in
    so_far ∙ ap (behind (texts (take n ls))) step ∙ sym (behind_more (texts (take n ls)) (line ∷ []) (body rest)) ∙ ap (λ front. behind front (body rest)) (sym longer)

pub body_started : (ls : List (Bor (List ℕ))) (n : ℕ) (d : Bor (List ℕ)) (text : List ℕ) → n < length ls → behind_start (get_or ls n d).now ≡ Some text
    → body (texts ls) ≡ behind (texts (take n ls)) (body (texts (drop n ls))) → body (texts ls) ≡ None
body_started ls n d text within start so_far =
    let line = (get_or ls n d).now in
    let rest = texts (drop (n + 1) ls) in
    so_far ∙ ap (behind (texts (take n ls))) (at_drop_more (λ xs. body (texts xs)) ls n d within ∙ body_step (Some text) (behind_stop line) line rest start refl)

pub body_stopped : (ls : List (Bor (List ℕ))) (n : ℕ) (d : Bor (List ℕ)) (text : List ℕ) (ends : Bool) → n < length ls → behind_start (get_or ls n d).now ≡ None
    → behind_stop (get_or ls n d).now ≡ Some text → (is_clear text && are_ended (texts (drop (n + 1) ls))) ≡ ends
    → body (texts ls) ≡ behind (texts (take n ls)) (body (texts (drop n ls))) → body (texts ls) ≡ (if ends then Some (texts (take n ls)) else None)
body_stopped ls n d text true within start stop is so_far =
    let line = (get_or ls n d).now in
    let rest = texts (drop (n + 1) ls) in
    so_far ∙ ap (behind (texts (take n ls))) (at_drop_more (λ xs. body (texts xs)) ls n d within ∙ body_step None (Some text) line rest start stop ∙ ap (λ b. if b then Some [] else None) is)
    ∙ ap Some (append-nil (texts (take n ls)))
body_stopped ls n d text false within start stop is so_far =
    let line = (get_or ls n d).now in
    let rest = texts (drop (n + 1) ls) in
    so_far ∙ ap (behind (texts (take n ls))) (at_drop_more (λ xs. body (texts xs)) ls n d within ∙ body_step None (Some text) line rest start stop ∙ ap (λ b. if b then Some [] else None) is)

pub body_all : (ls : List (Bor (List ℕ))) (n : ℕ) → length ls ≤ n → body (texts ls) ≡ behind (texts (take n ls)) (body (texts (drop n ls))) → body (texts ls) ≡ Some (texts (take n ls))
unfolding body
body_all ls n all so_far = so_far ∙ ap (λ xs. behind (texts (take n ls)) (body (texts xs))) (drop_all n ls all) ∙ ap Some (append-nil (texts (take n ls)))

-- ---- what stands before the document

abbrev pub document_at : Bool → Bool → Bool → Bool → List ℕ → Lines → Option Rattle.haya_yaml.specs.Documents.Document
document_at skipped sign directive told line lines =
    if skipped then document_of told lines else if sign then (if directive && not told then document_of true lines else None) else started (behind_start line) told line lines

pub document_step : (told : Bool) (ls : List (Bor (List ℕ))) (n : ℕ) (d : Bor (List ℕ)) → n < length ls
    → document_of told (texts (drop n ls))
    ≡ document_at (is_skipped (get_or ls n d).now) (begins_with 37 (get_or ls n d).now) (is_directive (get_or ls n d).now) told (get_or ls n d).now (texts (drop (n + 1) ls))
unfolding document_of
document_step told ls n d within = at_drop_more (λ xs. document_of told (texts xs)) ls n d within

pub document_end : (told : Bool) (ls : List (Bor (List ℕ))) (n : ℕ) → length ls ≤ n → document_of told (texts (drop n ls)) ≡ (if told then None else Some (record { front = []; lines = [] }))
unfolding document_of
document_end told ls n all = ap (λ xs. document_of told (texts xs)) (drop_all n ls all)

-- ---- options that are there or not
pub some_of : (found : Option (List ℕ)) → is_some found ≡ true → (text : List ℕ) × (found ≡ Some text)
some_of None e = absurd (grind (arith, e))
some_of (Some text) e = (text, refl)

pub none_of : (found : Option (List ℕ)) → is_some found ≡ false → found ≡ None
none_of None e = refl
none_of (Some text) e = absurd (grind (arith, e))

pub mapped_some : (found : Option (Bor (List ℕ))) → is_some (option_map (λ t. t.now) found) ≡ is_some found
mapped_some None = refl
mapped_some (Some t) = refl

pub mapped : {b : Bool} → (found : Option (List ℕ)) (got : Option (Bor (List ℕ))) → option_map (λ t. t.now) got ≡ found → is_some got ≡ b → is_some found ≡ b
mapped found got same is = sym (ap is_some same) ∙ mapped_some got ∙ is

pub no_body : (ls : List (Bor (List ℕ))) (n : ℕ) → length ls ≤ n → (Some (record { front = []; lines = [] })) ≡ with_front [] (body (texts (drop n ls)))
unfolding body
no_body ls n all = ap (λ xs. with_front [] (body (texts xs))) (sym (drop_all n ls all))
