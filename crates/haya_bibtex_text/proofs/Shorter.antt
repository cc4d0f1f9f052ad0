-- What is left of a text behind a part of it is shorter.
use Rattle.std.proofs.Common.{ℕ, zero, suc, ◌<◌, ◌≤◌, ◌==◌, ◌||◌, ◌&&◌, Bool, true, false, cond, nat_lt, not, List, [], ◌∷◌, length, take, drop, Option, Some, None, Ok, Err, arith, length-drop}
use Rattle.std.specs.List.{prefix_len}
use Rattle.haya_bibtex_text.specs.Blanks.{behind_blank, behind_blank_in}
use Rattle.haya_bibtex_text.specs.Classes.{in_key, in_name, is_digit, is_white}
use Rattle.haya_bibtex_text.specs.Fields.{Front, ended, equals_behind, front, head_at, more, nothing, other}
use Rattle.haya_bibtex_text.specs.Groups.{End, closed, end_of, nowhere, stray}
use Rattle.haya_bibtex_text.specs.Items.{key_at, comment_at, comment_by}
use Rattle.haya_bibtex_text.specs.Openings.{Opening, behind_at, behind_white, bracket_behind, opening_at}
use Rattle.haya_bibtex_text.specs.Pieces.{Read, enclosed_piece_by, piece_at, word_by}
use Rattle.haya_bibtex_text.specs.Signs.{at_sign, close_brace, comma, equals, line_feed, open_brace, open_paren, percent, quote}
use Rattle.haya_bibtex_text.specs.Values.{behind_joint, behind_sign}

-- a choice of two that both fit
if_fits : {A : Type 0} (P : A → Type 0) (b : Bool) (x y : A) → P x → P y → P (cond b x y)
if_fits P true x y p q = p
if_fits P false x y p q = q

-- fewer characters than so many are left
abbrev pub IsLess : {A : Type 0} → ℕ → Read A → Type 0
IsLess n (Ok p) = length p.1 < n
IsLess n (Err f) = Unit {0}

less_more : {A : Type 0} (m n : ℕ) (r : Read A) → m ≤ n → IsLess m r → IsLess n r
less_more m n (Ok p) le l = omega arith
less_more m n (Err f) le l = tt

abbrev pub IsRestLess : ℕ → Option (List ℕ) → Type 0
IsRestLess n None = Unit {0}
IsRestLess n (Some cs) = length cs < n

abbrev pub IsFrontLess : ℕ → Front → Type 0
IsFrontLess n (ended cs) = length cs < n
IsFrontLess n (more cs) = length cs < n
IsFrontLess n other = Unit {0}
IsFrontLess n nothing = Unit {0}

abbrev pub IsOpeningLess : ℕ → Option Opening → Type 0
IsOpeningLess n None = Unit {0}
IsOpeningLess n (Some o) = length o.rest < n

pub blank_in_le : (remark : Bool) (cs : List ℕ) → length (behind_blank_in remark cs) ≤ length cs
blank_in_le true [] = omega arith
blank_in_le false [] = omega arith
blank_in_le true (c ∷ cs) =
    if_fits (λ (xs : List ℕ). length xs ≤ suc (length cs)) (c == line_feed) (behind_blank_in false cs) (behind_blank_in true cs)
    (omega (arith, blank_in_le false cs)) (omega (arith, blank_in_le true cs))
blank_in_le false (c ∷ cs) =
    let P : List ℕ → Type 0 = λ xs. length xs ≤ suc (length cs) in
    if_fits P (c == percent) (behind_blank_in true cs) (cond (is_white c) (behind_blank_in false cs) (c ∷ cs))
    (omega (arith, blank_in_le true cs))
    (if_fits P (is_white c) (behind_blank_in false cs) (c ∷ cs) (omega (arith, blank_in_le false cs)) (omega arith))

pub blank_le : (cs : List ℕ) → length (behind_blank cs) ≤ length cs
blank_le cs = blank_in_le false cs

drop_le : (n : ℕ) (cs : List ℕ) → length (drop n cs) ≤ length cs
drop_le n cs = omega (arith, length-drop n cs)

enclosed_piece_by-less : (place : ℕ) (cs : List ℕ) (e : End) → IsLess (suc (length cs)) (enclosed_piece_by place cs e)
enclosed_piece_by-less place cs (closed n) = omega (arith, drop_le (suc n) cs)
enclosed_piece_by-less place cs (stray n) = tt
enclosed_piece_by-less place cs nowhere = tt

word_by-less : (n d : ℕ) (c : ℕ) (cs : List ℕ) → IsLess (suc (length cs)) (word_by n d (c ∷ cs))
word_by-less zero d c cs = tt
word_by-less (suc n) d c cs =
    if_fits (IsLess (suc (length cs))) ((suc n == 0) || (nat_lt 0 d && not (d == suc n))) _ _ tt (omega (arith, drop_le n cs))

pub piece_less : (entry : ℕ) (cs : List ℕ) → IsLess (length cs) (piece_at entry cs)
piece_less entry [] = tt
piece_less entry (c ∷ cs) =
    let P = IsLess (suc (length cs)) in
    if_fits P (c == open_brace) _ _ (enclosed_piece_by-less (suc (length cs)) cs (end_of close_brace cs))
    (if_fits P (c == quote) _ _ (enclosed_piece_by-less (suc (length cs)) cs (end_of quote cs))
    (word_by-less (prefix_len in_name (c ∷ cs)) (prefix_len is_digit (c ∷ cs)) c cs))

sign_less : (sign : ℕ) (cs : List ℕ) → IsRestLess (length cs) (behind_sign sign cs)
sign_less sign [] = tt
sign_less sign (c ∷ cs) =
    if_fits (IsRestLess (suc (length cs))) (c == sign) (Some (behind_blank cs)) None (omega (arith, blank_le cs)) tt

rest_more : (m n : ℕ) (r : Option (List ℕ)) → m ≤ n → IsRestLess m r → IsRestLess n r
rest_more m n None le l = tt
rest_more m n (Some cs) le l = omega arith

pub joint_less : (cs : List ℕ) → IsRestLess (length cs) (behind_joint cs)
joint_less cs =
    rest_more (length (behind_blank cs)) (length cs) (behind_joint cs) (blank_le cs) (sign_less 35 (behind_blank cs))

pub front_less : (close : ℕ) (cs : List ℕ) → IsFrontLess (length cs) (front close cs)
front_less close [] = tt
front_less close (c ∷ cs) =
    let P = IsFrontLess (suc (length cs)) in
    if_fits P (c == close) (ended cs) (cond (c == comma) (more (behind_blank cs)) other) (omega arith)
    (if_fits P (c == comma) (more (behind_blank cs)) other (omega (arith, blank_le cs)) tt)

equals_less : (entry : ℕ) (name cs : List ℕ) → IsLess (suc (length cs)) (equals_behind entry name cs)
equals_less entry name [] = tt
equals_less entry name (c ∷ cs) =
    if_fits (IsLess (suc (suc (length cs)))) (c == equals) _ _ (omega (arith, blank_le cs)) tt

pub head_less : (entry : ℕ) (cs : List ℕ) → IsLess (suc (length cs)) (head_at entry cs)
head_less entry cs =
    let n = prefix_len in_name cs in
    let behind = behind_blank (drop n cs) in
    let le : suc (length behind) ≤ suc (length cs) = omega (arith, blank_le (drop n cs), drop_le n cs) in
    if_fits (IsLess (suc (length cs))) (n == 0) _ (equals_behind entry (take n cs) behind) tt
    (less_more (suc (length behind)) (suc (length cs)) (equals_behind entry (take n cs) behind) le (equals_less entry (take n cs) behind))

pub key_less : (entry close : ℕ) (cs : List ℕ) → IsLess (suc (length cs)) (key_at entry close cs)
key_less entry close [] = tt
key_less entry close (c ∷ cs) =
    let n = prefix_len (in_key close) (c ∷ cs) in
    if_fits (IsLess (suc (suc (length cs)))) (n == 0) _ _ tt
    (omega (arith, blank_le (drop n (c ∷ cs)), drop_le n (c ∷ cs)))

comment_by-less : (entry : ℕ) (cs : List ℕ) (e : End) → IsLess (suc (length cs)) (comment_by entry cs e)
comment_by-less entry cs (closed n) = omega (arith, drop_le (suc n) cs)
comment_by-less entry cs (stray n) = tt
comment_by-less entry cs nowhere = tt

pub skipped_less : (entry close : ℕ) (cs : List ℕ) → IsLess (suc (length cs)) (comment_at entry close cs)
skipped_less entry close cs = comment_by-less entry cs (end_of close cs)

pub at_less : (remark : Bool) (cs : List ℕ) → IsRestLess (length cs) (behind_at remark cs)
at_less true [] = tt
at_less false [] = tt
at_less true (c ∷ cs) =
    let P = IsRestLess (suc (length cs)) in
    let in_text = rest_more (length cs) (suc (length cs)) (behind_at false cs) (omega arith) (at_less false cs) in
    let in_remark = rest_more (length cs) (suc (length cs)) (behind_at true cs) (omega arith) (at_less true cs) in
    if_fits P (c == line_feed) (behind_at false cs) (behind_at true cs) in_text in_remark
at_less false (c ∷ cs) =
    let P = IsRestLess (suc (length cs)) in
    let in_text = rest_more (length cs) (suc (length cs)) (behind_at false cs) (omega arith) (at_less false cs) in
    let in_remark = rest_more (length cs) (suc (length cs)) (behind_at true cs) (omega arith) (at_less true cs) in
    if_fits P (c == at_sign) (Some cs) (cond (c == percent) (behind_at true cs) (behind_at false cs)) (omega arith)
    (if_fits P (c == percent) (behind_at true cs) (behind_at false cs) in_remark in_text)

bracket_less : (kind cs : List ℕ) → IsOpeningLess (length cs) (bracket_behind kind cs)
bracket_less kind [] = tt
bracket_less kind (c ∷ cs) =
    let P = IsOpeningLess (suc (length cs)) in
    if_fits P (c == open_brace) _ _ (omega arith) (if_fits P (c == open_paren) _ _ (omega arith) tt)

opening_more : (m n : ℕ) (o : Option Opening) → m ≤ n → IsOpeningLess m o → IsOpeningLess n o
opening_more m n None le l = tt
opening_more m n (Some o) le l = omega arith

pub opening_less : (cs : List ℕ) → IsOpeningLess (length cs) (opening_at cs)
opening_less cs =
    let inner = behind_white cs in
    let n = prefix_len in_name inner in
    let behind = behind_white (drop n inner) in
    let le : length behind ≤ length cs = omega (arith, drop_le (prefix_len is_white (drop n inner)) (drop n inner), drop_le n inner, drop_le (prefix_len is_white cs) cs) in
    if_fits (IsOpeningLess (length cs)) (n == 0) None (bracket_behind (take n inner) behind) tt
    (opening_more (length behind) (length cs) (bracket_behind (take n inner) behind) le (bracket_less (take n inner) behind))
