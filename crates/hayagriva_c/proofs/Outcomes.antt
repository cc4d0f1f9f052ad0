-- What holds of a result's value, or of its error, along a fact on them.
use Rattle.std.specs.Prelude.{Result, Ok, Err, IfOk, IfErr}

pub if_ok : {T E : Type 0} (P Q : T → Type 0) (r : Result T E) → ((x : T) → P x → Q x) → IfOk r P → IfOk r Q
if_ok P Q (Ok x) along h = along x h
if_ok P Q (Err e) along h = tt

pub if_err : {T E : Type 0} (P Q : E → Type 0) (r : Result T E) → ((e : E) → P e → Q e) → IfErr r P → IfErr r Q
if_err P Q (Ok x) along h = tt
if_err P Q (Err e) along h = along e h
