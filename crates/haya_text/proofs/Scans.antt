-- What `scan` reads, mark by mark.
use Rattle.std.proofs.Common.{◌≡◌, ◌≢◌, All, ℕ, zero, suc, Bool, true, false, not, ◌||◌, eqb, List, [], ◌∷◌, ◌++◌, refl, ap, sym, ◌∙◌, append_assoc, arith, Result, Ok, Err}
use Rattle.std.proofs.lemmas.Bool.Decides.{nat_tests}
use Rattle.std.proofs.lemmas.List.Elements.{All-head, All-tail, All-weaker}
use Rattle.haya_text.specs.Chunks.{Character, characters_of_kind}
use Rattle.haya_text.specs.Printing.{is_control}
use Rattle.haya_text.specs.Marks.{scan_of_mark}
use Rattle.haya_text.specs.Reading.{result_after, kind_in, scan}
use Rattle.haya_text.specs.declared.strings.kind.ChunkKind.{ChunkKind}
use Rattle.haya_text.specs.declared.strings.reading.Mark.TheVariants.{Open}
use Rattle.std.specs.Prelude.{slice_get, Some}

pub result_after-append : (xs ys : List Character) (r : Result (List Character) (List ℕ)) → result_after (xs ++ ys) r ≡ result_after xs (result_after ys r)
result_after-append xs ys (Ok zs) = ap Ok (append_assoc xs ys zs)
result_after-append xs ys (Err rest) = refl

pub result_after-nil : (r : Result (List Character) (List ℕ)) → result_after [] r ≡ r
result_after-nil (Ok xs) = refl
result_after-nil (Err rest) = refl

pub or-false : (a b : Bool) → (a || b) ≡ false → (a ≡ false) × (b ≡ false)
or-false true b h = cc
or-false false b h = (refl, h)

-- what is no control character
pub apart : (c : ℕ) → is_control c ≡ false → (eqb c 92 ≡ false) × (eqb c 123 ≡ false) × (eqb c 125 ≡ false) × (eqb c 36 ≡ false)
apart c h =
    let a = or-false (eqb c 92 || eqb c 123 || eqb c 125) (eqb c 36) h in
    let b = or-false (eqb c 92 || eqb c 123) (eqb c 125) a.0 in
    let d = or-false (eqb c 92) (eqb c 123) b.0 in
    (d.0, d.1, b.1, a.1)

-- the end
pub scan-nil : (d : ℕ) (m : Bool) → scan d m false [] ≡ Ok []
scan-nil d true = refl
scan-nil zero false = refl
scan-nil (suc d) false = refl

-- a plain character
pub scan-plain : (d : ℕ) (m : Bool) (c : ℕ) (cs : List ℕ) → is_control c ≡ false → scan d m false (c ∷ cs) ≡ result_after ((c, kind_in d m) ∷ []) (scan d m false cs)
scan-plain d true c cs h = let t = apart c h in rw (t.0, t.3) refl
scan-plain zero false c cs h = let t = apart c h in rw (t.0, t.1, t.2, t.3) refl
scan-plain (suc d) false c cs h = let t = apart c h in rw (t.0, t.1, t.2, t.3) refl

-- a run of plain characters, and what follows it
pub scan-run : (d : ℕ) (m : Bool) (run cs : List ℕ) → All (λ c. is_control c ≡ false) run → scan d m false (run ++ cs) ≡ result_after (characters_of_kind (kind_in d m) run) (scan d m false cs)
scan-run d m [] cs h = sym (result_after-nil (scan d m false cs))
scan-run d m (c ∷ run) cs h =
    scan-plain d m c (run ++ cs) (All-head (λ c. is_control c ≡ false) c run h)
    ∙ ap (result_after ((c, kind_in d m) ∷ [])) (scan-run d m run cs (All-tail (λ c. is_control c ≡ false) c run h))
    ∙ sym (result_after-append ((c, kind_in d m) ∷ []) (characters_of_kind (kind_in d m) run) (scan d m false cs))

accepted-plain : (b : Bool) → true ≡ not b → b ≡ false
accepted-plain true h = cc
accepted-plain false h = refl

-- what is read so far, a run of plain characters, and what follows it
pub scan-behind_run : (d : ℕ) (m : Bool) (xs : List Character) (kind : ChunkKind) (run cs text : List ℕ) → text ≡ run ++ cs → kind ≡ kind_in d m
    → All (λ c. true ≡ not (is_control c)) run → result_after (xs ++ characters_of_kind kind run) (scan d m false cs) ≡ result_after xs (scan d m false text)
scan-behind_run d m xs kind run cs text e k h =
    let plain : All (λ c. is_control c ≡ false) run = All-weaker (λ c. true ≡ not (is_control c)) (λ c. is_control c ≡ false) (λ c. accepted-plain (is_control c)) run h in
    rw (e, k) (result_after-append xs (characters_of_kind (kind_in d m) run) (scan d m false cs) ∙ ap (result_after xs) (sym (scan-run d m run cs plain)))

-- a backslash
pub scan-backslash : (d : ℕ) (m : Bool) (cs : List ℕ) → scan d m false (92 ∷ cs) ≡ scan d m true cs
scan-backslash d true cs = refl
scan-backslash zero false cs = refl
scan-backslash (suc d) false cs = refl

-- behind a backslash a control character
pub scan-escape : (d : ℕ) (m : Bool) (c : ℕ) (cs : List ℕ) → is_control c ≡ true → scan d m true (c ∷ cs) ≡ result_after ((c, kind_in d m) ∷ []) (scan d m false cs)
scan-escape d m c cs h = rw h refl

-- behind a backslash anything else
pub scan-alone : (d : ℕ) (m : Bool) (c : ℕ) (cs : List ℕ) → is_control c ≡ false → scan d m true (c ∷ cs) ≡ result_after ((92, kind_in d m) ∷ []) (scan d m false (c ∷ cs))
scan-alone d m c cs h =
    (let e : scan d m true (c ∷ cs) ≡ result_after ((92, kind_in d m) ∷ (c, kind_in d m) ∷ []) (scan d m false cs) = rw h refl in e)
    ∙ result_after-append ((92, kind_in d m) ∷ []) ((c, kind_in d m) ∷ []) (scan d m false cs) ∙ ap (result_after ((92, kind_in d m) ∷ [])) (sym (scan-plain d m c cs h))

-- the signs
pub scan-dollar : (d : ℕ) (cs : List ℕ) → scan d false false (36 ∷ cs) ≡ scan d true false cs
scan-dollar zero cs = refl
scan-dollar (suc d) cs = refl

pub scan-open : (d : ℕ) (cs : List ℕ) → scan d false false (123 ∷ cs) ≡ scan (suc d) false false cs
scan-open zero cs = refl
scan-open (suc d) cs = refl

-- what the reader's steps need of them
pub scan-eaten : (d : ℕ) (m : Bool) (text cs : List ℕ) (c : ℕ) → text ≡ c ∷ cs → c ≢ 92 → c ≢ 123 → c ≢ 125 → c ≢ 36 → scan d m false text ≡ result_after ((c, kind_in d m) ∷ []) (scan d m false cs)
scan-eaten d m text cs c e h i j k =
    let t : is_control c ≡ false = grind (arith, nat_tests) in
    rw e (scan-plain d m c cs t)

pub scan-left_alone : (d : ℕ) (m : Bool) (c : ℕ) (text : List ℕ) → slice_get text 0 ≡ Some c → is_control c ≡ false → scan d m true text ≡ result_after ((92, kind_in d m) ∷ []) (scan d m false text)
scan-left_alone d m c [] e h = cc
scan-left_alone d m c (x ∷ cs) e h = let same : x ≡ c = cc in scan-alone d m x cs (rw same h)

pub scan_of_mark-opened : (d : ℕ) (m : Bool) (text cs : List ℕ) (c : ℕ) → text ≡ c ∷ cs → c ≡ 123 → scan d m false text ≡ scan_of_mark d m Open cs
scan_of_mark-opened zero true text cs c e h = rw (e, h) refl
scan_of_mark-opened zero false text cs c e h = rw (e, h) refl
scan_of_mark-opened (suc d) true text cs c e h = rw (e, h) refl
scan_of_mark-opened (suc d) false text cs c e h = rw (e, h) refl
