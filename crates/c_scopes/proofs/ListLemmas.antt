-- A list from an index on.
use Rattle.std.proofs.Common.{◌≡◌, ◌∙◌, sym, ap, ℕ, ◌+◌, ◌<◌, List, ◌∷◌, drop, length, get_or}
use Rattle.std.proofs.lemmas.List.{drop_more}

pub from_item : {X : Type 0} (l : List X) (k : ℕ) (x : X) → k < length l → x ≡ get_or l k x → drop k l ≡ x ∷ drop (k + 1) l
from_item l k x h e = drop_more l k x h ∙ ap (λ y. y ∷ drop (k + 1) l) (sym e)
