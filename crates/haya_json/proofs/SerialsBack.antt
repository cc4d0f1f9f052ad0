-- Serial numbers that are read from what is printed of them.
use Rattle.std.proofs.Common.{◌≡◌, ℕ, List, [], ◌∷◌, ◌++◌, Ok, refl, sym, ap, ◌∙◌, append_assoc}
use Rattle.std.specs.BTreeMap.{insert_entry}
use Rattle.std.specs.Cmp.Lexicographic.{slice_cmp}
use Rattle.std.specs.Ordering.{nat_cmp}
use Rattle.std.proofs.lemmas.List.{append-nil}
use Rattle.haya_entry.specs.SerialNumber.{Serials}
use Rattle.haya_json.specs.Readable.{AreInOrder, ComesBehind}
use Rattle.haya_json.specs.Values.{serials_of, serials_with}
use Rattle.haya_json.specs.Printed.{serial_json, serial_members}

goes_last : (name text : List ℕ) (before : Serials) → ComesBehind name before → insert_entry (slice_cmp nat_cmp) before name text ≡ before ++ (name, text) ∷ []
goes_last name text [] h = refl
goes_last name text (s ∷ before) h = rw (h.0, goes_last name text before h.1) refl

kept_in_order : (before more : Serials) → AreInOrder before more → serials_with before (serial_members more) ≡ Ok (before ++ more)
kept_in_order before [] h = ap Ok (sym (append-nil before))
kept_in_order before (s ∷ rest) h =
    ap (λ b. serials_with b (serial_members rest)) (goes_last s.0 s.1 before h.0) ∙ kept_in_order (before ++ s ∷ []) rest h.1
    ∙ ap Ok (append_assoc before (s ∷ []) rest)

pub serials_back : (s : Serials) → AreInOrder [] s → serials_of (serial_json s) ≡ Ok s
unfolding serials_of serial_json
serials_back s h = kept_in_order [] s h
