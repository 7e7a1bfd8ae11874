-- What a stream is known to hold over several writes.
use Rattle.std.proofs.Common.{ℕ, ◌+◌, ◌-◌, ◌≤◌, List, ◌++◌, Option, None, Some, length, take, drop, ap, ◌∙◌, append_assoc, arith, length-drop, length-take}
use Rattle.std.specs.Io.KnownBytes.{Appends, Keeps}
use Rattle.std.proofs.lemmas.List.{take_all}
use Rattle.std.proofs.Math.Seq.{take-add}

-- one part after another
Appends-then : (a b c : Option (List ℕ)) (x y : List ℕ) → Appends a b x → Appends b c y → Appends a c (x ++ y)
Appends-then None b c x y first second = tt
Appends-then (Some xs) None c x y first second = absurd first
Appends-then (Some xs) (Some ys) None x y first second = second
Appends-then (Some xs) (Some ys) (Some zs) x y first second = second ∙ ap (λ w. w ++ y) first ∙ append_assoc xs x y

-- what is appended and then kept was appended
pub Appends-kept : (a b c : Option (List ℕ)) (x : List ℕ) → Appends a b x → Keeps b c → Appends a c x
Appends-kept None b c x first kept = tt
Appends-kept (Some xs) None c x first kept = absurd first
Appends-kept (Some xs) (Some ys) None x first kept = kept
Appends-kept (Some xs) (Some ys) (Some zs) x first kept = kept ∙ first

-- the front of a piece, and then the next bytes of the rest
pub Appends-more : (a b c : Option (List ℕ)) (piece : List ℕ) (w n : ℕ) → Appends a b (take w piece) → Appends b c (take n (take (length piece - w) (drop w piece))) → Appends a c (take (w + n) piece)
Appends-more a b c piece w n first second =
    let rest = take_all (length piece - w) (drop w piece) (omega (arith, length-drop w piece)) in
    rw take-add (Appends-then a b c (take w piece) (take n (drop w piece)) first (rw rest at second))

-- and they end within the piece
pub length-more : (piece : List ℕ) (w n : ℕ) → w ≤ length piece → n ≤ length (take (length piece - w) (drop w piece)) → w + n ≤ length piece
length-more piece w n within bound =
    omega (arith, length-drop w piece, length-take (length piece - w) (drop w piece))
