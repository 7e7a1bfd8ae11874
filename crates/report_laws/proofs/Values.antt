-- A text is that of one number, one path, one end, one input.
use Rattle.std.proofs.Common.{◌≡◌, ◌∙◌, sym, ap, ap₂, refl, subst, ℕ, suc, ◌+◌, ◌*◌, ◌^◌, ◌<◌, inl, inr, ℤ, pos, negsuc, List, [], ◌∷◌, ◌++◌, codes, All, append_assoc, append-nil, arith}
use Rattle.std.specs.Prelude.{unsigned_abs}
use Rattle.std.specs.Fmt.{decimal, signed_decimal}
use Rattle.std.proofs.lemmas.Fmt.{decimal_injective}
use Rattle.cc_base.specs.declared.ends.End.{End}
use Rattle.cc_base.specs.declared.ends.End.TheVariants.{Return, Assume, Cut, Objects, Steps, Fault}
use Rattle.cc_base.specs.declared.ends.FaultKind.{FaultKind}
use Rattle.cc_base.specs.declared.ends.FaultKind.TheVariants.{Overflow, Null, Divide, Index, Assert, Abort}
use Rattle.cc_base.specs.declared.inputs.Input.{Input}
use Rattle.cc_base.specs.Ends.{fault_text, end_text}
use Rattle.cc_base.specs.Inputs.{numbers_text, cells_text, stream_text, map_text}
use Rattle.cc_base.specs.Outcomes.{HasByte}
use Rattle.cc_base.specs.Paths.{Path, path_text}
use Rattle.input_map.specs.Maps.{IsShort, AllShort}
use Rattle.report_words.specs.Cuts.{Lacks}
use Rattle.report_words.specs.Words.{HasLine}
use Rattle.report_words.proofs.Bytes.{bytes_tell, tilde_only}
use Rattle.report_words.proofs.Cutting.{has_none, lacks_append, lacks_by_test, first_once, stands}
use Rattle.report_words.proofs.Texts.{NoDigit, lacks_decimal, lacks_fault}

-- two texts cut at the first byte of a kind
pub cut_once : (m : ℕ) (a b c d : List ℕ) → Lacks m a → Lacks m c → a ++ m ∷ b ≡ c ++ m ∷ d → (a ≡ c) × (b ≡ d)
cut_once m a b c d h k e = first_once m (a ++ m ∷ b) a b c d (record { is = refl; first = h }) (record { is = e; first = k })

-- a text that lacks the byte is no text with it
pub no_cut : (m : ℕ) (a b t : List ℕ) → Lacks m t → t ≡ a ++ m ∷ b → ⊥
no_cut m a b t h e = stands m a b (subst (λ x. Lacks m x) e h)

-- three bytes of a text, as a number
abbrev pub mark : List ℕ → ℕ
mark (a ∷ b ∷ c ∷ t) = a * 1000000 + b * 1000 + c
mark _ = 0

-- ---- numbers

-- a number whose digits are those of a number of 64 bits
abbrev pub IsLow : ℤ → Type 0
IsLow z = unsigned_abs z < 2 ^ 64

pub signed_lacks : (m : ℕ) (z : ℤ) → NoDigit m → (45 ≡ m → ⊥) → IsLow z → Lacks m (signed_decimal z)
signed_lacks m (pos n) h k l = lacks_decimal m n h l
signed_lacks m (negsuc n) h k l = (k, lacks_decimal m (suc n) h l)

no_sign : (n : ℕ) (t : List ℕ) → n < 2 ^ 64 → decimal n ≡ 45 ∷ t → ⊥
no_sign n t l e = no_cut 45 [] t (decimal n) (lacks_decimal 45 n (inl (omega arith)) l) e

pub one_signed : (y z : ℤ) → IsLow y → IsLow z → signed_decimal y ≡ signed_decimal z → y ≡ z
one_signed (pos m) (pos n) h k e = ap pos (decimal_injective m n h k e)
one_signed (pos m) (negsuc n) h k e = absurd (no_sign m (decimal (suc n)) h e)
one_signed (negsuc m) (pos n) h k e = absurd (no_sign n (decimal (suc m)) k (sym e))
one_signed (negsuc m) (negsuc n) h k e =
    let d : decimal (suc m) ≡ decimal (suc n) = cc e in
    let s : suc m ≡ suc n = decimal_injective (suc m) (suc n) h k d in
    ap negsuc (omega (arith, s))

short_low : (z : ℤ) → IsShort z → IsLow z
short_low z h = omega (arith, h)

-- ---- lists of numbers

-- the byte is none of numbers with commas between them
pub record NoNumbers (m : ℕ) : Type 0 where
  pub digit : NoDigit m
  pub sign : 45 ≡ m → ⊥
  pub comma : 44 ≡ m → ⊥

pub numbers_lack : (m : ℕ) → NoNumbers m → (l : List ℤ) → AllShort l → Lacks m (numbers_text l)
numbers_lack m n [] h = tt
numbers_lack m n (z ∷ []) h = signed_lacks m z n.digit n.sign (short_low z h.0)
numbers_lack m n (z ∷ y ∷ l) h = lacks_append m (signed_decimal z ++ codes ",") (numbers_text (y ∷ l))
    (lacks_append m (signed_decimal z) (codes ",") (signed_lacks m z n.digit n.sign (short_low z h.0)) (n.comma, tt)) (numbers_lack m n (y ∷ l) h.1)

comma_lacks : (z : ℤ) → IsShort z → Lacks 44 (signed_decimal z)
comma_lacks z h = signed_lacks 44 z (inl (omega arith)) (λ e. omega (arith, e)) (short_low z h)

comma : (a b : List ℕ) → a ++ codes "," ++ b ≡ a ++ 44 ∷ b
comma a b = append_assoc a (codes ",") b

pub one_list : (z : ℤ) (l : List ℤ) (y : ℤ) (k : List ℤ) → AllShort (z ∷ l) → AllShort (y ∷ k) → numbers_text (z ∷ l) ≡ numbers_text (y ∷ k) → z ∷ l ≡ y ∷ k
one_list z [] y [] h g e = ap (λ (x : ℤ). x ∷ []) (one_signed z y (short_low z h.0) (short_low y g.0) e)
one_list z [] y (x ∷ k) h g e = absurd (no_cut 44 (signed_decimal y) (numbers_text (x ∷ k)) (signed_decimal z) (comma_lacks z h.0) (e ∙ comma (signed_decimal y) (numbers_text (x ∷ k))))
one_list z (x ∷ l) y [] h g e = absurd (no_cut 44 (signed_decimal z) (numbers_text (x ∷ l)) (signed_decimal y) (comma_lacks y g.0) (sym e ∙ comma (signed_decimal z) (numbers_text (x ∷ l))))
one_list z (x ∷ l) y (w ∷ k) h g e =
    let r = cut_once 44 (signed_decimal z) (numbers_text (x ∷ l)) (signed_decimal y) (numbers_text (w ∷ k)) (comma_lacks z h.0) (comma_lacks y g.0)
    (sym (comma (signed_decimal z) (numbers_text (x ∷ l))) ∙ e ∙ comma (signed_decimal y) (numbers_text (w ∷ k))) in
    ap₂ (λ (a : ℤ) (b : List ℤ). a ∷ b) (one_signed z y (short_low z h.0) (short_low y g.0) r.0) (one_list x l w k h.1 g.1 r.1)

-- ---- inputs

-- the byte is none of a map text
pub record NoMap (m : ℕ) : Type 0 where
  pub numbers : NoNumbers m
  pub tilde : 126 ≡ m → ⊥

cells_lack : (m : ℕ) → NoMap m → (l : List ℤ) → AllShort l → Lacks m (cells_text l)
cells_lack m n [] h = (n.tilde, tt)
cells_lack m n (z ∷ l) h = numbers_lack m n.numbers (z ∷ l) h

stream_lacks : (m : ℕ) → NoNumbers m → (47 ≡ m → ⊥) → (l : List ℤ) → AllShort l → Lacks m (stream_text l)
stream_lacks m n s [] h = tt
stream_lacks m n s (z ∷ l) h = lacks_append m (codes "/") (numbers_text (z ∷ l)) (s, tt) (numbers_lack m n (z ∷ l) h)

pub map_lacks : (m : ℕ) → NoMap m → (47 ≡ m → ⊥) → (i : Input) → AllShort i.cells → AllShort i.stream → Lacks m (map_text i)
map_lacks m n s i h k = lacks_append m (cells_text i.cells) (stream_text i.stream) (cells_lack m n i.cells h) (stream_lacks m n.numbers s i.stream k)

no_tilde : (z : ℤ) (l : List ℤ) → AllShort (z ∷ l) → codes "~" ≡ numbers_text (z ∷ l) → ⊥
no_tilde z l h e = no_cut 126 [] [] (numbers_text (z ∷ l))
    (numbers_lack 126 (record { digit = inr (omega arith); sign = λ q. omega (arith, q); comma = λ q. omega (arith, q) }) (z ∷ l) h) (sym e)

one_cells : (l k : List ℤ) → AllShort l → AllShort k → cells_text l ≡ cells_text k → l ≡ k
one_cells [] [] h g e = refl
one_cells [] (y ∷ k) h g e = absurd (no_tilde y k g e)
one_cells (z ∷ l) [] h g e = absurd (no_tilde z l h (sym e))
one_cells (z ∷ l) (y ∷ k) h g e = one_list z l y k h g e

slash : NoMap 47
slash = record { numbers = record { digit = inl (omega arith); sign = λ q. omega (arith, q); comma = λ q. omega (arith, q) }; tilde = λ q. omega (arith, q) }

parts : (a b s t : List ℤ) → AllShort a → AllShort b → AllShort s → AllShort t → cells_text a ++ stream_text s ≡ cells_text b ++ stream_text t → (a ≡ b) × (s ≡ t)
parts a b [] [] h k f g e = (one_cells a b h k (sym (append-nil (cells_text a)) ∙ e ∙ append-nil (cells_text b)), refl)
parts a b [] (z ∷ t) h k f g e = absurd (no_cut 47 (cells_text b) (numbers_text (z ∷ t)) (cells_text a) (cells_lack 47 slash a h) (sym (append-nil (cells_text a)) ∙ e))
parts a b (z ∷ s) [] h k f g e = absurd (no_cut 47 (cells_text a) (numbers_text (z ∷ s)) (cells_text b) (cells_lack 47 slash b k) (sym (append-nil (cells_text b)) ∙ sym e))
parts a b (z ∷ s) (y ∷ t) h k f g e =
    let r = cut_once 47 (cells_text a) (numbers_text (z ∷ s)) (cells_text b) (numbers_text (y ∷ t)) (cells_lack 47 slash a h) (cells_lack 47 slash b k) e in
    (one_cells a b h k r.0, one_list z s y t f g r.1)

pub one_input : (i j : Input) → AllShort i.cells → AllShort i.stream → AllShort j.cells → AllShort j.stream → map_text i ≡ map_text j → i ≡ j
one_input i j h f k g e =
    let r = parts i.cells j.cells i.stream j.stream h k f g e in
    ap₂ (λ (a b : List ℤ). record { cells = a; stream = b }) r.0 r.1

-- ---- paths and ends

pub one_path : (p q : Path) → All HasByte p → All HasByte q → path_text p ≡ path_text q → p ≡ q
one_path [] q h k e = sym (tilde_only (path_text q) q (sym e) (record { text = refl; has = k }))
one_path (o ∷ p) [] h k e = tilde_only (path_text (o ∷ p)) (o ∷ p) e (record { text = refl; has = h })
one_path (o ∷ p) (b ∷ q) h k e = bytes_tell (o ∷ p) (b ∷ q) e

one_fault : (k l : FaultKind) → fault_text k ≡ fault_text l → k ≡ l
one_fault Overflow Overflow e = refl
one_fault Null Null e = refl
one_fault Divide Divide e = refl
one_fault Index Index e = refl
one_fault Assert Assert e = refl
one_fault Abort Abort e = refl
one_fault _ _ e = let m = ap mark e in absurd (omega (arith, m))

-- a fault has an @, another end has none
abbrev NoFault : End → Type 0
NoFault (Fault k line) = ⊥
NoFault _ = Unit {0}

at_lacks : (e : End) → NoFault e → Lacks 64 (end_text e)
unfolding has_none
at_lacks Return h = lacks_by_test 64 (codes "return") refl
at_lacks Assume h = lacks_by_test 64 (codes "assume") refl
at_lacks Cut h = lacks_by_test 64 (codes "cut") refl
at_lacks Objects h = lacks_by_test 64 (codes "objects") refl
at_lacks Steps h = lacks_by_test 64 (codes "steps") refl
at_lacks (Fault k line) h = absurd h

at : (k : FaultKind) (line : ℕ) → end_text (Fault k line) ≡ fault_text k ++ 64 ∷ decimal line
at k line = append_assoc (fault_text k) (codes "@") (decimal line)

no_fault : (e : End) (k : FaultKind) (line : ℕ) → NoFault e → end_text e ≡ end_text (Fault k line) → ⊥
no_fault e k line n h = no_cut 64 (fault_text k) (decimal line) (end_text e) (at_lacks e n) (h ∙ at k line)

pub one_end : (d e : End) → HasLine d → HasLine e → end_text d ≡ end_text e → d ≡ e
one_end (Fault k line) (Fault l n) h g t =
    let r = cut_once 64 (fault_text k) (decimal line) (fault_text l) (decimal n) (lacks_fault k).1 (lacks_fault l).1 (sym (at k line) ∙ t ∙ at l n) in
    ap₂ Fault (one_fault k l r.0) (decimal_injective line n (omega (arith, h)) (omega (arith, g)) r.1)
one_end (Fault k line) Return h g t = absurd (no_fault Return k line tt (sym t))
one_end (Fault k line) Assume h g t = absurd (no_fault Assume k line tt (sym t))
one_end (Fault k line) Cut h g t = absurd (no_fault Cut k line tt (sym t))
one_end (Fault k line) Objects h g t = absurd (no_fault Objects k line tt (sym t))
one_end (Fault k line) Steps h g t = absurd (no_fault Steps k line tt (sym t))
one_end Return (Fault k line) h g t = absurd (no_fault Return k line tt t)
one_end Assume (Fault k line) h g t = absurd (no_fault Assume k line tt t)
one_end Cut (Fault k line) h g t = absurd (no_fault Cut k line tt t)
one_end Objects (Fault k line) h g t = absurd (no_fault Objects k line tt t)
one_end Steps (Fault k line) h g t = absurd (no_fault Steps k line tt t)
one_end Return Return h g t = refl
one_end Assume Assume h g t = refl
one_end Cut Cut h g t = refl
one_end Objects Objects h g t = refl
one_end Steps Steps h g t = refl
one_end _ _ h g t = let m = ap mark t in absurd (omega (arith, m))
