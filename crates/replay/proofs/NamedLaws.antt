-- Values behind their names.
use Rattle.std.proofs.Common.{◌≡◌, ◌∙◌, sym, ap, subst, ℕ, inr, List, ◌∷◌, ◌++◌, codes, arith, append_assoc, Bool, true, false}
use Rattle.std.proofs.lemmas.Slice.Eq.{bytes_eq-Decides}
use Rattle.std.specs.Prelude.{bytes_eq, IsTrue, ◌↔◌}
use Rattle.report_words.specs.Cuts.{Lacks, CutFirst, CutLast}
use Rattle.report_words.specs.Words.{IsNumber}
use Rattle.report_words.proofs.Cutting.{first_once, last_once, no_first, no_last}
use Rattle.report_words.proofs.Texts.{lacks_decimal}
use Rattle.replay.specs.Behind.{IsNamed, Stands}
use Rattle.replay.specs.Forms.{IsWord, named, place}

pub named_read : (word before name behind : List ℕ) → CutLast 61 word before behind → before ≡ name → IsNamed word name behind
named_read word before name behind c e = record { is = c.is ∙ ap (λ n. n ++ 61 ∷ behind) e ∙ sym (append_assoc name (codes "=") behind); last = c.last }

pub named_cut : (word name value : List ℕ) → IsNamed word name value → CutLast 61 word name value
named_cut word name value h = record { is = h.is ∙ append_assoc name (codes "=") value; last = h.last }

pub named_once : (word before behind name value : List ℕ) → CutLast 61 word before behind → IsNamed word name value → (before ≡ name) × (behind ≡ value)
named_once word before behind name value c h = last_once 61 word before behind name value c (named_cut word name value h)

pub named_has : (word name value : List ℕ) → Lacks 61 word → IsNamed word name value → ⊥
named_has word name value l h = no_last 61 word name value l (named_cut word name value h)

-- NAME=NUMBER
pub number_named : (word name value : List ℕ) (n : ℕ) → IsNamed word name value → IsNumber value n → IsWord (named name) word
number_named word name value n h k = (value, n, h.is, k)

pub named_number : (word name : List ℕ) (h : IsWord (named name) word) → IsNamed word name h.0
named_number word name h = record { is = h.2; last = subst (λ t. Lacks 61 t) (sym (h.3).text) (lacks_decimal 61 h.1 (inr (omega arith)) (h.3).fits) }

-- LINE:COL
pub place_read : (word a b : List ℕ) (n m : ℕ) → CutFirst 58 word a b → IsNumber a n → IsNumber b m → IsWord place word
place_read word a b n m c h k = (a, b, n, m, c.is ∙ sym (append_assoc a (codes ":") b), h, k)

pub place_cut : (word : List ℕ) (h : IsWord place word) → CutFirst 58 word h.0 h.1
place_cut word h = record {
  is = h.4 ∙ append_assoc h.0 (codes ":") h.1;
  first = subst (λ t. Lacks 58 t) (sym (h.5).text) (lacks_decimal 58 h.2 (inr (omega arith)) (h.5).fits);
}

-- ---- a first word

pub stands_read : (text word rest name value : List ℕ) → CutFirst 32 text word rest → IsNamed word name value → Stands text name value rest
stands_read text word rest name value c h = record { word = word; cut = c; named = h }

pub stands_cut : (text word rest name value more : List ℕ) → CutFirst 32 text word rest → Stands text name value more → IsNamed word name value × (rest ≡ more)
stands_cut text word rest name value more c h =
    let r = first_once 32 text word rest h.word more c h.cut in
    (subst (λ w. IsNamed w name value) (sym r.0) h.named, r.1)

pub stands_has : (text name value rest : List ℕ) → Lacks 32 text → Stands text name value rest → ⊥
stands_has text name value rest l h = no_first 32 text h.word rest l h.cut

-- ---- a test on two texts

pub same_bytes : (r : Bool) (a b : List ℕ) → r ≡ bytes_eq a b → r ≡ true → a ≡ b
same_bytes r a b e t = (bytes_eq-Decides a b).0 (sym e ∙ t)

pub other_bytes : (r : Bool) (a b : List ℕ) → r ≡ bytes_eq a b → r ≡ false → a ≡ b → ⊥
other_bytes r a b e f s = let t = (bytes_eq-Decides a b).1 s in absurd (cc (e, f, t))

-- ---- NAME=NUMBER and LINE:COL, by tests

pub named_some : (r : Bool) (word name value : List ℕ) → IsNamed word name value → (IsTrue r ↔ (n : ℕ) × IsNumber value n) → IsTrue r ↔ IsWord (named name) word
named_some r word name value h t = (
  (λ q. let k = t.0 q in number_named word name value k.0 h k.1),
  (λ w. let o = named_once word name value name w.0 (named_cut word name value h) (named_number word name w) in
      t.1 (w.1, subst (λ x. IsNumber x w.1) (sym o.1) w.3)),
)

pub named_none : (word name : List ℕ) → ((value : List ℕ) → IsNamed word name value → ⊥) → IsTrue false ↔ IsWord (named name) word
named_none word name none = ((λ q. absurd (cc q)), (λ w. absurd (none w.0 (named_number word name w))))

place_parts : (word a b : List ℕ) → CutFirst 58 word a b → (h : IsWord place word) → IsNumber a h.2 × IsNumber b h.3
place_parts word a b c h =
    let r = first_once 58 word h.0 h.1 a b (place_cut word h) c in
    (subst (λ x. IsNumber x h.2) r.0 h.5, subst (λ x. IsNumber x h.3) r.1 h.6)

pub place_then : (r s : Bool) (word a b : List ℕ) → CutFirst 58 word a b → (IsTrue r ↔ (n : ℕ) × IsNumber a n) → (IsTrue s ↔ (n : ℕ) × IsNumber b n) → r ≡ true → IsTrue s ↔ IsWord place word
place_then r s word a b c t u e = (
  (λ q. let k = t.0 e in let l = u.0 q in place_read word a b k.0 l.0 c k.1 l.1),
  (λ w. let p = place_parts word a b c w in u.1 (w.3, p.1)),
)

pub place_else : (r : Bool) (word a b : List ℕ) → CutFirst 58 word a b → (IsTrue r ↔ (n : ℕ) × IsNumber a n) → r ≡ false → IsTrue r ↔ IsWord place word
place_else r word a b c t e = (
  (λ q. absurd (cc (e, q))),
  (λ w. let p = place_parts word a b c w in let k = t.1 (w.2, p.0) in absurd (cc (e, k))),
)

pub place_none : (word : List ℕ) → Lacks 58 word → IsTrue false ↔ IsWord place word
place_none word l = ((λ q. absurd (cc q)), (λ w. absurd (no_first 58 word w.0 w.1 l (place_cut word w))))

pub stands_there : (t u name value rest : List ℕ) → t ≡ u → Stands u name value rest → Stands t name value rest
stands_there t u name value rest e h = subst (λ x. Stands x name value rest) (sym e) h
