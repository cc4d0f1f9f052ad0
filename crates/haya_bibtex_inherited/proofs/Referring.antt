-- References that are added one after another.
use Rattle.std.proofs.Common.{◌≡◌, ◌<◌, ℕ, ◌+◌, List, ◌++◌, length, get_or, map, drop, ap, sym, ◌∙◌, append_assoc, Bor}
use Rattle.std.specs.List.{flat_map}
use Rattle.std.proofs.lemmas.List.{drop_more, map-append}
use Rattle.haya_bibtex_inherited.specs.References.{ReferenceBytes, key_in, references_by}
use Rattle.haya_bibtex_inherited.specs.declared.reference.Link.{Link}

-- one part more
pub part_more : (l : Link) (rs rs' total : List ReferenceBytes) (parts : List (Bor (List ℕ))) (k : ℕ) (d : Bor (List ℕ)) → k < length parts
    → rs ++ references_by l (flat_map key_in (map (λ t. t.now) (drop k parts))) ≡ total
    → rs' ≡ rs ++ references_by l (key_in (get_or parts k d).now)
    → rs' ++ references_by l (flat_map key_in (map (λ t. t.now) (drop (k + 1) parts))) ≡ total
part_more l rs rs' total parts k d h was next =
    let x = get_or parts k d in
    let rest = flat_map key_in (map (λ t. t.now) (drop (k + 1) parts)) in
    ap (λ v. v ++ references_by l rest) next
    ∙ append_assoc rs (references_by l (key_in x.now)) (references_by l rest)
    ∙ ap (λ v. rs ++ v) (sym (map-append (λ k. record { link = l; key = k }) (key_in x.now) rest))
    ∙ ap (λ ps. rs ++ references_by l (flat_map key_in (map (λ t. t.now) ps))) (sym (drop_more parts k d h))
    ∙ was
