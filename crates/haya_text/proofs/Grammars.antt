-- What is scanned is what the grammar gives, and what is refused is what it refuses.
use Rattle.std.proofs.Common.{◌≡◌, ℕ, ◌+◌, ◌≤◌, length-append, Bool, true, false, List, [], ◌∷◌, ◌++◌, length, refl, ap, sym, ◌∙◌, arith, zero, suc, eqb, ◌||◌, append_assoc, Result, Ok, Err, subst}
use Rattle.std.proofs.lemmas.Bool.Decides.{nat_tests}
use Rattle.std.proofs.lemmas.List.{append-nil, append_cancel_right}
use Rattle.std.proofs.lemmas.Str.{encodes-append}
use Rattle.std.specs.Str.{IsUtf8, chars, encode_utf8_all}
use Rattle.haya_text.proofs.Characters.{length-chars}
use Rattle.haya_text.specs.declared.strings.kind.ChunkKind.{ChunkKind}
use Rattle.haya_text.specs.declared.strings.kind.ChunkKind.TheVariants.{Normal, Verbatim, Math}
use Rattle.std.specs.Prelude.{Some, None, option_map}
use Rattle.std.specs.Result.{result_ok}
use Rattle.haya_text.specs.Chunks.{Chunk, Character}
use Rattle.haya_text.specs.Normal.{runs}
use Rattle.haya_text.specs.Grammar.{Extent, closed, at_end, Alone, Body, no_body, body_plain, body_backslash, body_escape, Items, no_items, plain, lone_backslash, escape, group, math, open_group, open_math, ReadsAs, IsRefusedAt}
use Rattle.haya_text.specs.Printing.{is_control}
use Rattle.haya_text.specs.Marks.{scan_of_mark}
use Rattle.haya_text.specs.Reading.{result_after, kind_in, scan, chunks_read}
use Rattle.haya_text.specs.declared.strings.reading.Mark.{Mark}
use Rattle.haya_text.specs.declared.strings.reading.Mark.TheVariants.{Close}
use Rattle.haya_text.proofs.Scans.{result_after-append, result_after-nil, or-false, apart, scan-nil, scan-plain, scan-backslash, scan-escape, scan-alone, scan-dollar, scan-open}

-- what may follow
abbrev Follows : Extent → List ℕ → Type 0
Follows at_end after = after ≡ []
Follows closed after = Unit {0}

-- one more in front
more : (x : Character) (xs : List Character) (r s : Result (List Character) (List ℕ)) → s ≡ result_after xs r → result_after (x ∷ []) s ≡ result_after (x ∷ xs) r
more x xs r s e = ap (result_after (x ∷ [])) e ∙ sym (result_after-append (x ∷ []) xs r)

-- two parts
two : (xs ys zs : List Character) (r s : Result (List Character) (List ℕ)) → zs ≡ xs ++ ys → s ≡ result_after ys r → result_after xs s ≡ result_after zs r
two xs ys zs r s e f = ap (result_after xs) f ∙ sym (result_after-append xs ys r) ∙ ap (λ l. result_after l r) (sym e)

-- a backslash, and the control character behind it
escaped : (d : ℕ) (m : Bool) (c : ℕ) (cs : List ℕ) → is_control c ≡ true → scan d m false (92 ∷ c ∷ cs) ≡ result_after ((c, kind_in d m) ∷ []) (scan d m false cs)
escaped d m c cs h = scan-backslash d m (c ∷ cs) ∙ scan-escape d m c cs h

-- a backslash that stands for itself
alone : (d : ℕ) (m : Bool) (e : Extent) (cs after : List ℕ) → Alone e cs → Follows e after → scan d m false (92 ∷ (cs ++ after)) ≡ result_after ((92, kind_in d m) ∷ []) (scan d m false (cs ++ after))
alone d m closed [] after a f = absurd a
alone d m at_end [] after a f = rw f (scan-backslash d m [] ∙ ap (result_after ((92, kind_in d m) ∷ [])) (sym (scan-nil d m)))
alone d m closed (c ∷ cs) after a f = scan-backslash d m (c ∷ (cs ++ after)) ∙ scan-alone d m c (cs ++ after) a
alone d m at_end (c ∷ cs) after a f = scan-backslash d m (c ∷ (cs ++ after)) ∙ scan-alone d m c (cs ++ after) a

-- what stands for itself in math
scan-body : (d c : ℕ) (cs : List ℕ) → (eqb c 92 || eqb c 36) ≡ false → scan d true false (c ∷ cs) ≡ result_after ((c, Math) ∷ []) (scan d true false cs)
scan-body d c cs h = let t = or-false (eqb c 92) (eqb c 36) h in rw (t.0, t.1) refl

pub body-scan : {e : Extent} {text : List ℕ} {xs : List Character} → Body e text xs → (d : ℕ) (after : List ℕ) → Follows e after → scan d true false (text ++ after) ≡ result_after xs (scan d true false after)
body-scan no_body d after f = sym (result_after-nil _)
body-scan (body_plain {c = c} {cs = cs} h r) d after f = scan-body d c (cs ++ after) h ∙ more _ _ _ _ (body-scan r d after f)
body-scan (body_backslash {e = e} {cs = cs} a r) d after f = alone d true e cs after a f ∙ more _ _ _ _ (body-scan r d after f)
body-scan (body_escape {c = c} {cs = cs} h r) d after f = escaped d true c (cs ++ after) h ∙ more _ _ _ _ (body-scan r d after f)

-- what the grammar reads is what is scanned
pub items-scan : {e : Extent} {k : ChunkKind} {text : List ℕ} {xs : List Character} → Items e k text xs → (d : ℕ) (after : List ℕ) → kind_in d false ≡ k → Follows e after → scan d false false (text ++ after) ≡ result_after xs (scan d false false after)
items-scan no_items d after k f = sym (result_after-nil _)
items-scan (plain {c = c} {cs = cs} h r) d after k f = rw (← k) (scan-plain d false c (cs ++ after) h ∙ more _ _ _ _ (items-scan r d after k f))
items-scan (lone_backslash {e = e} {cs = cs} a r) d after k f = rw (← k) (alone d false e cs after a f ∙ more _ _ _ _ (items-scan r d after k f))
items-scan (escape {c = c} {cs = cs} h r) d after k f = rw (← k) (escaped d false c (cs ++ after) h ∙ more _ _ _ _ (items-scan r d after k f))
items-scan (group {text = text} inner cs ys xs e z body r) d after k f =
    scan-open d (text ++ after) ∙ ap (λ t. scan (suc d) false false (t ++ after)) e ∙ ap (scan (suc d) false false) (append_assoc inner (125 ∷ cs) after)
    ∙ items-scan body (suc d) (125 ∷ (cs ++ after)) refl tt
    ∙ two ys xs _ (scan d false false after) _ z (items-scan r d after k f)
items-scan (math {text = text} inner cs ys xs e z body r) d after k f =
    scan-dollar d (text ++ after) ∙ ap (λ t. scan d true false (t ++ after)) e ∙ ap (scan d true false) (append_assoc inner (36 ∷ cs) after)
    ∙ body-scan body d (36 ∷ (cs ++ after)) tt
    ∙ two ys xs _ (scan d false false after) _ z (items-scan r d after k f)
items-scan (open_group {inner = inner} body) d after k f = scan-open d (inner ++ after) ∙ items-scan body (suc d) after refl f ∙ ap (result_after _) (rw (f, scan-nil) refl)
items-scan (open_math {inner = inner} body) d after k f = scan-dollar d (inner ++ after) ∙ body-scan body d after f ∙ ap (result_after _) (rw (f, scan-nil) refl)

-- a text in math is all open, or closed by its first dollar
data MathSplit : List ℕ → Type 0 where
  math_open : {text : List ℕ} (ys : List Character) → Body at_end text ys → MathSplit text
  math_closed : {text : List ℕ} (body rest : List ℕ) (ys : List Character) → text ≡ body ++ 36 ∷ rest → Body closed body ys → length rest + 1 ≤ length text → MathSplit text

-- a text is all items, or closed items and then a closing brace
data Split : ChunkKind → List ℕ → Type 0 where
  all_open : {k : ChunkKind} {text : List ℕ} (ys : List Character) → Items at_end k text ys → Split k text
  cut : {k : ChunkKind} {text : List ℕ} (body rest : List ℕ) (ys : List Character) → text ≡ body ++ 125 ∷ rest → Items closed k body ys → length rest + 1 ≤ length text → Split k text

-- what is no control character stands for itself in math
body_character : (c : ℕ) → is_control c ≡ false → (eqb c 92 || eqb c 36) ≡ false
body_character c h = let t = apart c h in rw (t.0, t.3) refl

math_plain : (c : ℕ) (cs : List ℕ) → (eqb c 92 || eqb c 36) ≡ false → MathSplit cs → MathSplit (c ∷ cs)
math_plain c cs h (math_open ys r) = math_open ((c, Math) ∷ ys) (body_plain h r)
math_plain c cs h (math_closed body rest ys e r l) = math_closed (c ∷ body) rest ((c, Math) ∷ ys) (ap (λ t. c ∷ t) e) (body_plain h r) (omega arith)

math_escape : (c : ℕ) (cs : List ℕ) → is_control c ≡ true → MathSplit cs → MathSplit (92 ∷ c ∷ cs)
math_escape c cs h (math_open ys r) = math_open ((c, Math) ∷ ys) (body_escape h r)
math_escape c cs h (math_closed body rest ys e r l) = math_closed (92 ∷ c ∷ body) rest ((c, Math) ∷ ys) (ap (λ t. 92 ∷ c ∷ t) e) (body_escape h r) (omega arith)

math_alone : (c : ℕ) (cs : List ℕ) → is_control c ≡ false → MathSplit cs → MathSplit (92 ∷ c ∷ cs)
math_alone c cs h (math_open ys r) = math_open ((92, Math) ∷ (c, Math) ∷ ys) (body_backslash h (body_plain (body_character c h) r))
math_alone c cs h (math_closed body rest ys e r l) = math_closed (92 ∷ c ∷ body) rest ((92, Math) ∷ (c, Math) ∷ ys) (ap (λ t. 92 ∷ c ∷ t) e) (body_backslash h (body_plain (body_character c h) r)) (omega arith)

same : (a b : ℕ) → eqb a b ≡ true → a ≡ b
same a b h = grind (arith, nat_tests)

math_behind : (cs : List ℕ) → ((ds : List ℕ) → length ds ≤ length cs → MathSplit ds) → MathSplit (92 ∷ cs)
math_behind [] ih = math_open ((92, Math) ∷ []) (body_backslash tt no_body)
math_behind (c ∷ cs) ih = by_control (is_control c) refl
  where
    by_control : (b : Bool) → is_control c ≡ b → MathSplit (92 ∷ c ∷ cs)
    by_control true h = math_escape c cs h (ih cs (omega arith))
    by_control false h = math_alone c cs h (ih cs (omega arith))

math_step : (c : ℕ) (cs : List ℕ) → ((ds : List ℕ) → length ds ≤ length cs → MathSplit ds) → MathSplit (c ∷ cs)
math_step c cs ih = by_character (eqb c 92) refl (eqb c 36) refl
  where
    by_character : (b : Bool) → eqb c 92 ≡ b → (d : Bool) → eqb c 36 ≡ d → MathSplit (c ∷ cs)
    by_character true h d g = subst (λ x. MathSplit (x ∷ cs)) (sym (same c 92 h)) (math_behind cs ih)
    by_character false h true g = subst (λ x. MathSplit (x ∷ cs)) (sym (same c 36 g)) (math_closed [] cs [] refl no_body (omega arith))
    by_character false h false g = math_plain c cs (rw (h, g) refl) (ih cs (omega arith))

math_split : (n : ℕ) (text : List ℕ) → length text ≤ n → MathSplit text
math_split n [] l = math_open [] no_body
math_split zero (c ∷ cs) l = absurd (omega arith)
math_split (suc n) (c ∷ cs) l = math_step c cs (λ ds m. math_split n ds (omega arith))

abbrev Smaller : List ℕ → Type 0
Smaller cs = (k : ChunkKind) (ds : List ℕ) → length ds ≤ length cs → Split k ds

one_plain : (k : ChunkKind) (c : ℕ) (cs : List ℕ) → is_control c ≡ false → Split k cs → Split k (c ∷ cs)
one_plain k c cs h (all_open ys r) = all_open ((c, k) ∷ ys) (plain h r)
one_plain k c cs h (cut body rest ys e r l) = cut (c ∷ body) rest ((c, k) ∷ ys) (ap (λ t. c ∷ t) e) (plain h r) (omega arith)

one_escape : (k : ChunkKind) (c : ℕ) (cs : List ℕ) → is_control c ≡ true → Split k cs → Split k (92 ∷ c ∷ cs)
one_escape k c cs h (all_open ys r) = all_open ((c, k) ∷ ys) (escape h r)
one_escape k c cs h (cut body rest ys e r l) = cut (92 ∷ c ∷ body) rest ((c, k) ∷ ys) (ap (λ t. 92 ∷ c ∷ t) e) (escape h r) (omega arith)

one_alone : (k : ChunkKind) (c : ℕ) (cs : List ℕ) → is_control c ≡ false → Split k cs → Split k (92 ∷ c ∷ cs)
one_alone k c cs h (all_open ys r) = all_open ((92, k) ∷ (c, k) ∷ ys) (lone_backslash h (plain h r))
one_alone k c cs h (cut body rest ys e r l) = cut (92 ∷ c ∷ body) rest ((92, k) ∷ (c, k) ∷ ys) (ap (λ t. 92 ∷ c ∷ t) e) (lone_backslash h (plain h r)) (omega arith)

behind : (k : ChunkKind) (cs : List ℕ) → Smaller cs → Split k (92 ∷ cs)
behind k [] ih = all_open ((92, k) ∷ []) (lone_backslash tt no_items)
behind k (c ∷ cs) ih = by_control (is_control c) refl
  where
    by_control : (b : Bool) → is_control c ≡ b → Split k (92 ∷ c ∷ cs)
    by_control true h = one_escape k c cs h (ih k cs (omega arith))
    by_control false h = one_alone k c cs h (ih k cs (omega arith))

one_group : (k : ChunkKind) (text body cs : List ℕ) (ys : List Character) → text ≡ body ++ 125 ∷ cs → Items closed Verbatim body ys → length cs + 1 ≤ length text → Split k cs → Split k (123 ∷ text)
one_group k text body cs ys e r l (all_open xs s) = all_open (ys ++ xs) (group body cs ys xs e refl r s)
one_group k text body cs ys e r l (cut inner rest xs f s m) = cut (123 ∷ (body ++ 125 ∷ inner)) rest (ys ++ xs) (ap (λ t. 123 ∷ t) (e ∙ ap (λ t. body ++ 125 ∷ t) f ∙ sym (append_assoc body (125 ∷ inner) (125 ∷ rest)))) (group body inner ys xs refl refl r s) (omega arith)

one_math : (k : ChunkKind) (text body cs : List ℕ) (ys : List Character) → text ≡ body ++ 36 ∷ cs → Body closed body ys → length cs + 1 ≤ length text → Split k cs → Split k (36 ∷ text)
one_math k text body cs ys e r l (all_open xs s) = all_open (ys ++ xs) (math body cs ys xs e refl r s)
one_math k text body cs ys e r l (cut inner rest xs f s m) = cut (36 ∷ (body ++ 36 ∷ inner)) rest (ys ++ xs) (ap (λ t. 36 ∷ t) (e ∙ ap (λ t. body ++ 36 ∷ t) f ∙ sym (append_assoc body (36 ∷ inner) (125 ∷ rest)))) (math body inner ys xs refl refl r s) (omega arith)

in_group : (k : ChunkKind) (cs : List ℕ) → Smaller cs → Split Verbatim cs → Split k (123 ∷ cs)
in_group k cs ih (all_open ys r) = all_open ys (open_group r)
in_group k cs ih (cut body rest ys e r l) = one_group k cs body rest ys e r l (ih k rest (omega arith))

in_math : (k : ChunkKind) (cs : List ℕ) → Smaller cs → MathSplit cs → Split k (36 ∷ cs)
in_math k cs ih (math_open ys r) = all_open ys (open_math r)
in_math k cs ih (math_closed body rest ys e r l) = one_math k cs body rest ys e r l (ih k rest (omega arith))

step : (k : ChunkKind) (c : ℕ) (cs : List ℕ) → Smaller cs → Split k (c ∷ cs)
step k c cs ih = by_character (eqb c 92) refl (eqb c 123) refl (eqb c 125) refl (eqb c 36) refl
  where
    by_character : (a : Bool) → eqb c 92 ≡ a → (b : Bool) → eqb c 123 ≡ b → (d : Bool) → eqb c 125 ≡ d → (f : Bool) → eqb c 36 ≡ f → Split k (c ∷ cs)
    by_character true h b i d j f m = subst (λ x. Split k (x ∷ cs)) (sym (same c 92 h)) (behind k cs ih)
    by_character false h true i d j f m = subst (λ x. Split k (x ∷ cs)) (sym (same c 123 i)) (in_group k cs ih (ih Verbatim cs (omega arith)))
    by_character false h false i true j f m = subst (λ x. Split k (x ∷ cs)) (sym (same c 125 j)) (cut [] cs [] refl no_items (omega arith))
    by_character false h false i false j true m = subst (λ x. Split k (x ∷ cs)) (sym (same c 36 m)) (in_math k cs ih (math_split (length cs) cs (omega arith)))
    by_character false h false i false j false m = one_plain k c cs (rw (h, i, j, m) refl) (ih k cs (omega arith))

split_by : (n : ℕ) (k : ChunkKind) (text : List ℕ) → length text ≤ n → Split k text
split_by n k [] l = all_open [] no_items
split_by zero k (c ∷ cs) l = absurd (omega arith)
split_by (suc n) k (c ∷ cs) l = step k c cs (λ j ds m. split_by n j ds (omega arith))

-- a text of items is scanned to its end
pub grammar-scan : (text : List ℕ) (xs : List Character) → Items at_end Normal text xs → scan 0 false false text ≡ Ok xs
grammar-scan text xs r = ap (scan 0 false false) (sym (append-nil text)) ∙ items-scan r 0 [] refl refl ∙ ap Ok (append-nil xs)

-- closed items before a closing brace are scanned up to it
pub refusal-scan : (before after : List ℕ) (xs : List Character) → Items closed Normal before xs → scan 0 false false (before ++ 125 ∷ after) ≡ Err (125 ∷ after)
refusal-scan before after xs r = items-scan r 0 (125 ∷ after) refl tt

-- what is scanned is items with these characters
pub scan-grammar : (text : List ℕ) (xs : List Character) → scan 0 false false text ≡ Ok xs → Items at_end Normal text xs
scan-grammar text xs h = by_split (split_by (length text) Normal text (omega arith))
  where
    by_split : Split Normal text → Items at_end Normal text xs
    by_split (all_open ys r) =
        let e = grammar-scan text ys r in
        let found : ys ≡ xs = cc in
        subst (λ l. Items at_end Normal text l) found r
    by_split (cut body rest ys e r l) =
        let f : scan 0 false false text ≡ Err (125 ∷ rest) = ap (scan 0 false false) e ∙ refusal-scan body rest ys r in
        absurd cc

-- what is refused is closed items and then a closing brace
pub record Refusal (text rest : List ℕ) : Type 0 where
  pub before : List ℕ
  pub after : List ℕ
  pub xs : List Character
  pub items : Items closed Normal before xs
  pub brace : rest ≡ 125 ∷ after
  pub cut : text ≡ before ++ 125 ∷ after

pub scan-refusal : (text rest : List ℕ) → scan 0 false false text ≡ Err rest → Refusal text rest
scan-refusal text rest h = by_split (split_by (length text) Normal text (omega arith))
  where
    by_split : Split Normal text → Refusal text rest
    by_split (all_open ys r) = let e = grammar-scan text ys r in absurd cc
    by_split (cut body after ys e r l) =
        let f : scan 0 false false text ≡ Err (125 ∷ after) = ap (scan 0 false false) e ∙ refusal-scan body after ys r in
        let found : rest ≡ 125 ∷ after = cc in
        record { before = body; after = after; xs = ys; items = r; brace = found; cut = e }

-- where the bytes up to the refused brace are counted
pub refused_at : (text rest : List ℕ) (place : ℕ) → IsUtf8 text → scan 0 false false (chars text) ≡ Err (125 ∷ rest) → place + (1 + length (encode_utf8_all rest)) ≡ length text → IsRefusedAt place text
unfolding lib.Utf8.encode
refused_at text rest place u h n =
    let r = scan-refusal (chars text) (125 ∷ rest) h in
    let same_rest : rest ≡ r.after = let e = r.brace in cc in
    let cut_bytes : length (encode_utf8_all (r.before ++ 125 ∷ r.after)) ≡ length text = sym (ap (λ t. length (encode_utf8_all t)) r.cut) ∙ length-chars text u in
    let split_bytes : length (encode_utf8_all (r.before ++ 125 ∷ r.after)) ≡ length (encode_utf8_all r.before) + length (125 ∷ encode_utf8_all r.after) =
    ap length (encodes-append r.before (125 ∷ r.after)) ∙ length-append (encode_utf8_all r.before) _ in
    let left : length (encode_utf8_all rest) ≡ length (encode_utf8_all r.after) = ap (λ t. length (encode_utf8_all t)) same_rest in
    record { before = r.before; after = r.after; xs = r.xs; items = r.items; cut = r.cut; bytes = omega arith }

-- what is computed is what the grammar gives
pub reads-as : (text : List ℕ) (cs : List Chunk) → chunks_read text ≡ Some cs → ReadsAs text cs
reads-as text cs h = by_scan (scan 0 false false (chars text)) refl h
  where
    by_scan : (r : Result (List Character) (List ℕ)) → scan 0 false false (chars text) ≡ r → option_map runs (result_ok r) ≡ Some cs → ReadsAs text cs
    by_scan (Ok xs) e f = record { xs = xs; items = scan-grammar (chars text) xs e; runs = cc }
    by_scan (Err rest) e f = absurd cc

pub as-reads : (text : List ℕ) (cs : List Chunk) → ReadsAs text cs → chunks_read text ≡ Some cs
as-reads text cs r = ap (λ x. option_map runs (result_ok x)) (grammar-scan (chars text) r.xs r.items) ∙ ap Some (sym r.runs)

pub refused-reads : (text : List ℕ) (place : ℕ) → IsRefusedAt place text → chunks_read text ≡ None
refused-reads text place r = ap (λ x. option_map runs (result_ok x)) (ap (scan 0 false false) r.cut ∙ refusal-scan r.before r.after r.xs r.items)

pub scan_of_mark-refused : (d : ℕ) (m : Bool) (mark : Mark) (rest : List ℕ) → mark ≡ Close → d ≡ 0 → m ≡ false → scan_of_mark d m mark rest ≡ Err (125 ∷ rest)
scan_of_mark-refused d m mark rest e f g = rw (e, f, g) refl

-- what is not read is refused at a place
pub none-refused : (text : List ℕ) → chunks_read text ≡ None → (place : ℕ) × IsRefusedAt place text
none-refused text h = by_scan (scan 0 false false (chars text)) refl h
  where
    by_scan : (r : Result (List Character) (List ℕ)) → scan 0 false false (chars text) ≡ r → option_map runs (result_ok r) ≡ None → (place : ℕ) × IsRefusedAt place text
    by_scan (Ok xs) e f = absurd cc
    by_scan (Err rest) e f =
        let r = scan-refusal (chars text) rest e in
        (length (encode_utf8_all r.before), record { before = r.before; after = r.after; xs = r.xs; items = r.items; cut = r.cut; bytes = refl })

-- at one place alone
pub one-place : (text : List ℕ) (j k : ℕ) → IsRefusedAt j text → IsRefusedAt k text → j ≡ k
one-place text j k p q =
    let left : scan 0 false false (chars text) ≡ Err (125 ∷ p.after) = ap (scan 0 false false) p.cut ∙ refusal-scan p.before p.after p.xs p.items in
    let right : scan 0 false false (chars text) ≡ Err (125 ∷ q.after) = ap (scan 0 false false) q.cut ∙ refusal-scan q.before q.after q.xs q.items in
    let after : p.after ≡ q.after = cc in
    let before : p.before ≡ q.before = append_cancel_right p.before q.before (125 ∷ p.after) (sym p.cut ∙ q.cut ∙ ap (λ t. q.before ++ 125 ∷ t) (sym after)) in
    p.bytes ∙ ap (λ t. length (encode_utf8_all t)) before ∙ sym q.bytes
