-- A search for the end of a comment: its start, one more byte, and the end.
use Rattle.std.proofs.Common.{◌≡◌, ℕ, suc, ◌+◌, ◌<◌, ◌≤◌, Bool, true, false, cond, List, ◌∷◌, drop, length, get_or, Option, Some, None, sym, ap, refl, ◌∙◌, arith}
use Rattle.std.specs.Prelude.{option_map}
use Rattle.std.proofs.lemmas.List.{at_drop_more, at_drop_all}
use lib.Chars.{codes}
use Rattle.cc_model.specs.Lexical.{before_close, begins}

-- a place in the rest behind the first i bytes, as one in all
abbrev pub behind : ℕ → Option ℕ → Option ℕ
behind i o = option_map (λ n. i + n) o

behind_one : (i : ℕ) (o : Option ℕ) → behind i (option_map suc o) ≡ behind (i + 1) o
behind_one i None = refl
behind_one i (Some n) = let e : i + suc n ≡ i + 1 + n = omega arith in ap Some e

pub close_none : (o : Option ℕ) → behind 0 o ≡ o
close_none None = refl
close_none (Some n) = let e : 0 + n ≡ n = omega arith in ap Some e

close_one : (i : ℕ) (b : Bool) (o : Option ℕ) → behind i (cond b (Some 0) (option_map suc o)) ≡ cond b (Some i) (behind (i + 1) o)
close_one i true o = let e : i + 0 ≡ i = omega arith in ap Some e
close_one i false o = behind_one i o

close_cons : (x : ℕ) (bytes : List ℕ) (i : ℕ) (b : Bool) → b ≡ begins (x ∷ bytes) (codes "*/") → behind i (before_close (x ∷ bytes)) ≡ cond b (Some i) (behind (i + 1) (before_close bytes))
unfolding before_close
close_cons x bytes i b e = sym (ap (λ t. behind i (cond t (Some 0) (option_map suc (before_close bytes)))) e) ∙ close_one i b (before_close bytes)

close_at : (bytes : List ℕ) (i : ℕ) (b : Bool) → i < length bytes → b ≡ begins (drop i bytes) (codes "*/") → behind i (before_close (drop i bytes)) ≡ cond b (Some i) (behind (i + 1) (before_close (drop (i + 1) bytes)))
close_at bytes i b h e =
    let cut = at_drop_more (λ t. t) bytes i 0 h in
    ap (λ t. behind i (before_close t)) cut ∙ close_cons (get_or bytes i 0) (drop (i + 1) bytes) i b (e ∙ ap (λ t. begins t (codes "*/")) cut)

pub close_found : (bytes : List ℕ) (i : ℕ) (b : Bool) (o : Option ℕ) → i < length bytes → b ≡ begins (drop i bytes) (codes "*/") → b ≡ true → behind i (before_close (drop i bytes)) ≡ o → Some i ≡ o
close_found bytes i b o h e t k = sym (ap (λ x. cond x (Some i) (behind (i + 1) (before_close (drop (i + 1) bytes)))) t) ∙ sym (close_at bytes i b h e) ∙ k

pub close_passed : (bytes : List ℕ) (i : ℕ) (b : Bool) (o : Option ℕ) → i < length bytes → b ≡ begins (drop i bytes) (codes "*/") → b ≡ false → behind i (before_close (drop i bytes)) ≡ o → behind (i + 1) (before_close (drop (i + 1) bytes)) ≡ o
close_passed bytes i b o h e t k = sym (ap (λ x. cond x (Some i) (behind (i + 1) (before_close (drop (i + 1) bytes)))) t) ∙ sym (close_at bytes i b h e) ∙ k

pub close_all : (bytes : List ℕ) (i : ℕ) (o : Option ℕ) → length bytes ≤ i → behind i (before_close (drop i bytes)) ≡ o → None ≡ o
unfolding before_close
close_all bytes i o h k = sym (at_drop_all (λ t. behind i (before_close t)) bytes i h) ∙ k
