-- What holds of a result where it is Ok.
use Rattle.std.proofs.Common.{Result, Ok, Err, OnOk, OnErr, IfOk}

pub on_ok : {A E P Q : Type 0} → (r : Result A E) → (P → Q) → OnOk r P → OnOk r Q
on_ok (Ok a) f p = f p
on_ok (Err e) f p = p

pub on_err : {T E : Type 0} → {P : Type 0} → (r : Result T E) → P → OnErr r P
on_err (Ok x) h = tt
on_err (Err x) h = h

pub ok_map : {T E : Type 0} → {P Q : Type 0} → (r : Result T E) → OnOk r P → (P → Q) → OnOk r Q
ok_map (Ok x) h f = f h
ok_map (Err x) h f = tt

pub err_map : {T E : Type 0} → {P Q : Type 0} → (r : Result T E) → OnErr r P → (P → Q) → OnErr r Q
err_map (Ok x) h f = tt
err_map (Err x) h f = f h

pub if_ok : {T E : Type 0} → {P Q : T → Type 0} → (r : Result T E) → IfOk r P → ((x : T) → P x → Q x) → IfOk r Q
if_ok (Ok x) h f = f x h
if_ok (Err x) h f = tt
