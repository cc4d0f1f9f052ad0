-- What a call hands on, and has back as the callee left it.
use Prim.Native.Nat.{ℕ}
use mathlib.Core.List.{List, [], ◌∷◌}
use seplogic.Ra.Ura.{Ura}
use types.Logic.{Logic}
use denote.Exit.{Kept, left}
use denote.Signature.{Slot}
use denote.Triple.End.{Kepts}
use denote.Triple.Walked.{AllGo, Stay, Stays, Goes}

-- of a parameter that was handed on there is what its contract says at the return, and no more
abbrev pub handed : {n : ℕ} (s : Slot n) (k : Kept) → Stay s k
handed s k = record { fit = λ κs x w. Unit {0}; has = λ κs x w vs. left ((s.row κs).exit k) x w }

pub Goes-handed : {M : Type 1} {𝓤 : Ura M} (𝓛 : Logic 𝓤) (n : ℕ) (s : Slot n) (k : Kept) → Goes 𝓛 n s k (handed s k)
Goes-handed 𝓛 n s k κs x w vs fit = 𝓛.laws.⇛_intro _

-- so of all parameters
abbrev pub all_handed : {n : ℕ} (ss : List (Slot n)) (ks : Kepts ss) → Stays ss ks
all_handed [] ks = tt
all_handed (s ∷ ss) ks = (handed s ks.0, all_handed ss ks.1)

pub all_go : {M : Type 1} {𝓤 : Ura M} (𝓛 : Logic 𝓤) (n : ℕ) (ss : List (Slot n)) (ks : Kepts ss) → AllGo 𝓛 n ss ks (all_handed ss ks)
all_go 𝓛 n [] ks = tt
all_go 𝓛 n (s ∷ ss) ks = (Goes-handed 𝓛 n s ks.0, all_go 𝓛 n ss ks.1)
