-- A line is that of one list of words.
use Rattle.std.proofs.Common.{◌≡◌, ◌∙◌, sym, ap, ap₂, ℕ, List, [], ◌∷◌, ◌++◌, append_assoc, arith}
use Rattle.report_words.specs.Cuts.{Lacks}
use Rattle.report_laws.proofs.Values.{cut_once}

-- a text without blanks and newlines
pub record IsWord (t : List ℕ) : Type 0 where
  pub blank : Lacks 32 t
  pub newline : Lacks 10 t

abbrev pub AreWords : List (List ℕ) → Type 0
AreWords [] = Unit {0}
AreWords (w ∷ l) = IsWord w × AreWords l

-- a word and those behind it, with blanks between them and a newline at the end
abbrev pub joined : List ℕ → List (List ℕ) → List ℕ
joined w [] = w ++ 10 ∷ []
joined w (v ∷ l) = w ++ 32 ∷ joined v l

-- its first byte
abbrev first_byte : List ℕ → ℕ
first_byte [] = 0
first_byte (x ∷ l) = x

mixed : (a b c d : List ℕ) → Lacks 32 a → Lacks 10 c → a ++ 10 ∷ b ≡ c ++ 32 ∷ d → ⊥
mixed [] b [] d h k e = let m = ap first_byte e in omega (arith, m)
mixed [] b (y ∷ c) d h k e = k.0 (cc e)
mixed (x ∷ a) b [] d h k e = h.0 (cc e)
mixed (x ∷ a) b (y ∷ c) d h k e = mixed a b c d h.1 k.1 (cc e)

last_shape : (w r : List ℕ) → joined w [] ++ r ≡ w ++ 10 ∷ r
last_shape w r = append_assoc w (10 ∷ []) r

more_shape : (w v : List ℕ) (l : List (List ℕ)) (r : List ℕ) → joined w (v ∷ l) ++ r ≡ w ++ 32 ∷ (joined v l ++ r)
more_shape w v l r = append_assoc w (32 ∷ joined v l) r

pub one_line : (w : List ℕ) (l : List (List ℕ)) (v : List ℕ) (m : List (List ℕ)) (r s : List ℕ) → AreWords (w ∷ l) → AreWords (v ∷ m) → joined w l ++ r ≡ joined v m ++ s →
    (w ∷ l ≡ v ∷ m) × (r ≡ s)
one_line w [] v [] r s h k e =
    let c = cut_once 10 w r v s (h.0).newline (k.0).newline (sym (last_shape w r) ∙ e ∙ last_shape v s) in
    (ap (λ (x : List ℕ). x ∷ []) c.0, c.1)
one_line w [] v (y ∷ m) r s h k e = absurd (mixed w r v (joined y m ++ s) (h.0).blank (k.0).newline (sym (last_shape w r) ∙ e ∙ more_shape v y m s))
one_line w (x ∷ l) v [] r s h k e = absurd (mixed v s w (joined x l ++ r) (k.0).blank (h.0).newline (sym (last_shape v s) ∙ sym e ∙ more_shape w x l r))
one_line w (x ∷ l) v (y ∷ m) r s h k e =
    let c = cut_once 32 w (joined x l ++ r) v (joined y m ++ s) (h.0).blank (k.0).blank (sym (more_shape w x l r) ∙ e ∙ more_shape v y m s) in
    let d = one_line x l y m r s h.1 k.1 c.1 in
    (ap₂ (λ (a : List ℕ) (b : List (List ℕ)). a ∷ b) c.0 d.0, d.1)

pub no_line : (w : List ℕ) (l : List (List ℕ)) (r : List ℕ) → [] ≡ joined w l ++ r → ⊥
no_line [] [] r e = absurd (cc e)
no_line [] (v ∷ l) r e = absurd (cc e)
no_line (x ∷ w) [] r e = absurd (cc e)
no_line (x ∷ w) (v ∷ l) r e = absurd (cc e)

-- ---- pieces, from the right

pub four : (a b c d : List ℕ) → a ++ b ++ c ++ d ≡ a ++ (b ++ (c ++ d))
four a b c d = append_assoc (a ++ b) c d ∙ append_assoc a b (c ++ d)

pub six : (a b c d e f : List ℕ) → a ++ b ++ c ++ d ++ e ++ f ≡ a ++ (b ++ (c ++ (d ++ (e ++ f))))
six a b c d e f = append_assoc (a ++ b ++ c ++ d) e f ∙ append_assoc (a ++ b ++ c) d (e ++ f) ∙ four a b c (d ++ (e ++ f))

pub eight : (a b c d e f g h : List ℕ) → a ++ b ++ c ++ d ++ e ++ f ++ g ++ h ≡ a ++ (b ++ (c ++ (d ++ (e ++ (f ++ (g ++ h))))))
eight a b c d e f g h = append_assoc (a ++ b ++ c ++ d ++ e ++ f) g h ∙ append_assoc (a ++ b ++ c ++ d ++ e) f (g ++ h) ∙ six a b c d e (f ++ (g ++ h))

pub ten : (a b c d e f g h i j : List ℕ) → a ++ b ++ c ++ d ++ e ++ f ++ g ++ h ++ i ++ j ≡ a ++ (b ++ (c ++ (d ++ (e ++ (f ++ (g ++ (h ++ (i ++ j))))))))
ten a b c d e f g h i j = append_assoc (a ++ b ++ c ++ d ++ e ++ f ++ g ++ h) i j ∙ append_assoc (a ++ b ++ c ++ d ++ e ++ f ++ g) h (i ++ j) ∙ eight a b c d e f g (h ++ (i ++ j))
