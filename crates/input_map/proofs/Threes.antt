-- The three words of a test's text.
use Rattle.std.proofs.Common.{◌≡◌, ◌∙◌, sym, ap, ap₂, subst, ℕ, List, ◌∷◌, ◌++◌, codes, append_assoc, arith}
use Rattle.cc_base.specs.declared.ends.End.{End}
use Rattle.cc_base.specs.Ends.{end_text}
use Rattle.cc_base.specs.Paths.{Path, path_text}
use Rattle.report_words.specs.Cuts.{Lacks, CutFirst}
use Rattle.report_words.specs.Words.{IsPath, IsEnd}
use Rattle.report_words.proofs.Cutting.{no_first, first_once}
use Rattle.report_words.proofs.Texts.{lacks_path, lacks_end}
use Rattle.input_map.specs.TestTexts.{ThreeWords}

-- the text, read from the left
three : (a b m : List ℕ) → a ++ codes " " ++ b ++ codes " " ++ m ≡ a ++ 32 ∷ (b ++ 32 ∷ m)
three a b m = append_assoc (a ++ codes " " ++ b) (codes " ") m ∙ append_assoc (a ++ codes " ") b (codes " " ++ m) ∙ append_assoc a (codes " ") (b ++ (codes " " ++ m))

pub first_cut : (text : List ℕ) (p : Path) (e : End) (m : List ℕ) → ThreeWords text p e m → CutFirst 32 text (path_text p) (end_text e ++ 32 ∷ m)
first_cut text p e m h = record { is = h.text_is ∙ three (path_text p) (end_text e) m; first = lacks_path 32 p (omega arith) }

pub none_at_first : (text : List ℕ) → Lacks 32 text → (p : Path) (e : End) (m : List ℕ) → ThreeWords text p e m → ⊥
none_at_first text l p e m h = no_first 32 text (path_text p) (end_text e ++ 32 ∷ m) l (first_cut text p e m h)

-- what the parts of a text of three words are
pub record ArePartsOf (a c d : List ℕ) (p : Path) (e : End) (m : List ℕ) : Type 0 where
  pub path : a ≡ path_text p
  pub end : c ≡ end_text e
  pub map : d ≡ m

second_cut : (text a b : List ℕ) → CutFirst 32 text a b → (p : Path) (e : End) (m : List ℕ) → ThreeWords text p e m → (a ≡ path_text p) × CutFirst 32 b (end_text e) m
second_cut text a b k p e m h =
    let r = first_once 32 text a b (path_text p) (end_text e ++ 32 ∷ m) k (first_cut text p e m h) in
    (r.0, record { is = r.1; first = lacks_end e h.line })

pub none_at_second : (text a b : List ℕ) → CutFirst 32 text a b → Lacks 32 b → (p : Path) (e : End) (m : List ℕ) → ThreeWords text p e m → ⊥
none_at_second text a b k l p e m h = let r = second_cut text a b k p e m h in no_first 32 b (end_text e) m l r.1

pub parts : (text a b c d : List ℕ) → CutFirst 32 text a b → CutFirst 32 b c d → (p : Path) (e : End) (m : List ℕ) → ThreeWords text p e m → ArePartsOf a c d p e m
parts text a b c d k l p e m h =
    let r = second_cut text a b k p e m h in
    let q = first_once 32 b c d (end_text e) m l r.1 in
    record { path = r.0; end = q.0; map = q.1 }

-- the three words, read
pub made : (text a b c d : List ℕ) → CutFirst 32 text a b → CutFirst 32 b c d → (p : Path) (e : End) → IsPath a p → IsEnd c e → Lacks 32 d → ThreeWords text p e d
made text a b c d k l p e i j z = record {
  text_is = k.is ∙ ap (λ t. a ++ 32 ∷ t) l.is ∙ ap₂ (λ x y. x ++ 32 ∷ (y ++ 32 ∷ d)) i.text j.text ∙ sym (three (path_text p) (end_text e) d);
  bytes = i.has;
  line = j.line;
  one = z;
}

-- a word that is no path, no end, or has a blank
pub path_is : (a c d : List ℕ) (p : Path) (e : End) (m text : List ℕ) → ThreeWords text p e m → ArePartsOf a c d p e m → IsPath a p
path_is a c d p e m text h q = record { text = q.path; has = h.bytes }

pub end_is : (a c d : List ℕ) (p : Path) (e : End) (m text : List ℕ) → ThreeWords text p e m → ArePartsOf a c d p e m → IsEnd c e
end_is a c d p e m text h q = record { text = q.end; line = h.line }

pub lacks_behind : (a c d : List ℕ) (p : Path) (e : End) (m text : List ℕ) → ThreeWords text p e m → ArePartsOf a c d p e m → Lacks 32 d
lacks_behind a c d p e m text h q = subst (λ x. Lacks 32 x) (sym q.map) h.one
