-- A line without its newline.
use Rattle.std.proofs.Common.{◌≡◌, refl, ℕ, List, [], ◌∷◌, ◌++◌}

pub cancel : (a b : List ℕ) → a ++ 10 ∷ [] ≡ b ++ 10 ∷ [] → a ≡ b
cancel [] [] e = refl
cancel [] (x ∷ []) e = absurd (cc e)
cancel [] (x ∷ y ∷ b) e = absurd (cc e)
cancel (x ∷ []) [] e = absurd (cc e)
cancel (x ∷ y ∷ a) [] e = absurd (cc e)
cancel (x ∷ a) (y ∷ b) e = let r = cancel a b (cc e) in cc (e, r)
