-- Loops over items that are read in turn.
use Rattle.std.proofs.Common.{◌≡◌, ℕ, List, [], ◌++◌, Result, Ok, Err, refl, append_assoc}
use Rattle.haya_json.specs.Entries.{ParentsView, item_added, with_item}
use Rattle.haya_json.specs.Fields.{EntryView}
use Rattle.haya_json.specs.Refusal.{Refusal}

-- these values, and then those that are read
abbrev pub after : {V : Type 0} → List V → Result (List V) Refusal → Result (List V) Refusal
after xs (Ok ys) = Ok (xs ++ ys)
after xs (Err r) = Err r

pub after_none : {V : Type 0} (read : Result (List V) Refusal) → read ≡ after [] read
after_none (Ok ys) = refl
after_none (Err r) = refl

-- these parents, and then the others
abbrev pub joined : ParentsView → ParentsView → ParentsView
joined ps qs = record { entries = ps.entries ++ qs.entries; lost = ps.lost ++ qs.lost }

-- a parent behind these is one in front of the others
pub joined_one : (n : ℕ) (said : Result EntryView Refusal) (ps qs : ParentsView) → joined ps (with_item n said qs) ≡ joined (item_added n said ps) qs
joined_one n (Ok v) ps qs = rw (append_assoc, append_assoc) refl
joined_one n (Err r) ps qs = rw append_assoc refl
