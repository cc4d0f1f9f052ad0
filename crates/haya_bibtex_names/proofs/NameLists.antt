-- Words that are gathered into names.
use Rattle.std.proofs.Common.{◌≡◌, ◌++◌, true, false, List, [], ◌∷◌, Bor, flat_map, ap, sym, ◌∙◌, append_assoc}
use Rattle.std.proofs.lemmas.List.{append-nil, map-append}
use Rattle.std.proofs.lemmas.List.Concat.{flat_map-cons}
use Rattle.std.proofs.lemmas.List.Elements.{All-append, All-cons, All-nil}
use Rattle.std.proofs.lemmas.List.Splits.{slice_split_at, slice_split_none}
use Rattle.std.specs.List.{slice_split}
use Rattle.std.specs.Prelude.{All}
use Rattle.haya_bibtex_names.specs.Words.{Text, is_and, texts}

-- words none of which is `and`
abbrev pub Begun : List Text → Type 0
Begun ws = All (λ w. is_and w ≡ false) ws

pub none_begun : Begun []
none_begun = All-nil _

pub one_more_begun : (name longer : List (Bor Text)) (w : Bor Text) → longer ≡ name ++ w ∷ [] →
    Begun (texts name) → is_and w.now ≡ false → Begun (texts longer)
one_more_begun name longer w e h f =
    rw e (rw (map-append (λ p. p.now) name (w ∷ [])) (All-append (λ v. is_and v ≡ false) (texts name) (w.now ∷ []) h (All-cons (λ v. is_and v ≡ false) w.now [] f (All-nil (λ v. is_and v ≡ false)))))

-- a name that ends with `and` says what its words say
pub name_done : {Y : Type 0} (f : List Text → List Y) (all old new : List Y) (name after rest : List Text) (w : Text) →
    Begun name → is_and w ≡ true → rest ≡ w ∷ after →
    all ≡ old ++ flat_map f (slice_split is_and (name ++ rest)) → new ≡ old ++ f name →
    all ≡ new ++ flat_map f (slice_split is_and after)
name_done f all old new name after rest w h t r e n =
    let cut : flat_map f (slice_split is_and (name ++ rest)) ≡ f name ++ flat_map f (slice_split is_and after) =
    ap (λ l. flat_map f (slice_split is_and (name ++ l))) r
    ∙ (ap (flat_map f) (slice_split_at is_and name w after h t) ∙ flat_map-cons f name (slice_split is_and after)) in
    e ∙ (ap (λ l. old ++ l) cut ∙ (sym (append_assoc old (f name) (flat_map f (slice_split is_and after))) ∙ ap (λ l. l ++ flat_map f (slice_split is_and after)) (sym n)))

-- and so does the last one
pub last_done : {Y : Type 0} (f : List Text → List Y) (all old new : List Y) (name rest : List Text) →
    Begun name → rest ≡ [] →
    all ≡ old ++ flat_map f (slice_split is_and (name ++ rest)) → new ≡ old ++ f name → new ≡ all
last_done f all old new name rest h r e n =
    let cut : flat_map f (slice_split is_and (name ++ rest)) ≡ f name =
    ap (λ l. flat_map f (slice_split is_and (name ++ l))) r
    ∙ (ap (λ l. flat_map f (slice_split is_and l)) (append-nil name)
    ∙ (ap (flat_map f) (slice_split_none is_and name h) ∙ (flat_map-cons f name [] ∙ append-nil (f name)))) in
    n ∙ (ap (λ l. old ++ l) (sym cut) ∙ sym e)

-- a word more changes nothing of the whole
pub name_grown : {Y : Type 0} (f : List Text → List Y) (all old : List Y) (name longer : List (Bor Text)) (w : Bor Text) (after rest : List Text) →
    longer ≡ name ++ w ∷ [] → rest ≡ w.now ∷ after →
    all ≡ old ++ flat_map f (slice_split is_and (texts name ++ rest)) →
    all ≡ old ++ flat_map f (slice_split is_and (texts longer ++ after))
name_grown f all old name longer w after rest l r e =
    let same : texts longer ++ after ≡ texts name ++ rest =
    ap (λ ps. texts ps ++ after) l
    ∙ (ap (λ ws. ws ++ after) (map-append (λ p. p.now) name (w ∷ []))
    ∙ (append_assoc (texts name) (w.now ∷ []) after ∙ ap (λ ws. texts name ++ ws) (sym r))) in
    e ∙ ap (λ ws. old ++ flat_map f (slice_split is_and ws)) (sym same)
