-- The text of the made source, line by line.
use Rattle.std.proofs.Common.{◌≡◌, ◌∙◌, sym, ap, ap₂, refl, subst, ℕ, zero, suc, ◌+◌, ◌-◌, ◌*◌, ◌<◌, ◌≤◌, List, [], ◌∷◌, ◌++◌, length, codes, arith, append_assoc, length-append}
use Rattle.std.specs.Fmt.{decimal}
use Rattle.std.proofs.lemmas.Fmt.{length-decimal-le}
use Rattle.cc_model.specs.Report.{newline}
use Rattle.concolic_cli.specs.Made.{branch_line, branch_lines, made_source}

-- the lines up to i were written
abbrev pub Written : ℕ → ℕ → List ℕ → Type 0
Written n i text = text ++ branch_lines i (n - i) ≡ codes "int f(int x) {\n" ++ branch_lines 0 n

pub lines_before : (n : ℕ) (text : List ℕ) → text ≡ codes "int f(int x) {\n" → Written n 0 text
lines_before n text e = let z : n - 0 ≡ n = omega arith in ap₂ (λ (l : List ℕ) (k : ℕ). l ++ branch_lines 0 k) e z

pub line_more : (n i : ℕ) (text more : List ℕ) → i < n → Written n i text → more ≡ text ++ branch_line i → Written n (i + 1) more
line_more n i text more lt w e =
    let left : n - i ≡ suc (n - (i + 1)) = omega (arith, lt) in
    let next : i + 1 ≡ suc i = omega arith in
    ap (λ (l : List ℕ). l ++ branch_lines (i + 1) (n - (i + 1))) e
    ∙ append_assoc text (branch_line i) (branch_lines (i + 1) (n - (i + 1)))
    ∙ ap (λ k. text ++ (branch_line i ++ branch_lines k (n - (i + 1)))) next
    ∙ sym (ap (λ k. text ++ branch_lines i k) left) ∙ w

pub lines_after : (n i : ℕ) (text : List ℕ) → n ≤ i → Written n i text → text ≡ codes "int f(int x) {\n" ++ branch_lines 0 n
lines_after n i text h w =
    let none : n - i ≡ 0 = omega (arith, h) in
    sym (append_nil text) ∙ sym (ap (λ k. text ++ branch_lines i k) none) ∙ w
  where
    append_nil : (l : List ℕ) → l ++ [] ≡ l
    append_nil [] = refl
    append_nil (x ∷ l) = ap (λ (m : List ℕ). x ∷ m) (append_nil l)

-- the whole, as it is written piece by piece
pub made_is : (n : ℕ) (text number : List ℕ) → text ≡ codes "int f(int x) {\n" ++ branch_lines 0 n → number ≡ decimal n →
    text ++ codes "return " ++ number ++ codes ";\n}\n" ≡ made_source n
made_is n text number e d =
    ap₂ (λ (l m : List ℕ). l ++ codes "return " ++ m ++ codes ";\n}\n") e d ∙ sym (ends (codes "int f(int x) {\n" ++ branch_lines 0 n ++ codes "return " ++ decimal n))
  where
    ends : (l : List ℕ) → l ++ codes ";" ++ newline ++ codes "}" ++ newline ≡ l ++ codes ";\n}\n"
    ends l = append_assoc (l ++ codes ";" ++ newline) (codes "}") newline ∙ append_assoc (l ++ codes ";") newline (codes "}" ++ newline) ∙ append_assoc l (codes ";") (newline ++ (codes "}" ++ newline))

-- ---- it is short

decimal_short : (i : ℕ) → i ≤ 1024 → length (decimal i) ≤ 4
decimal_short i h = length-decimal-le 4 i (omega arith) (omega (arith, h)) (omega (arith, h))

six : (a b c d e f : List ℕ) → length (a ++ b ++ c ++ d ++ e ++ f) ≡ length a + length b + length c + length d + length e + length f
six a b c d e f = omega (arith, length-append (a ++ b ++ c ++ d ++ e) f, length-append (a ++ b ++ c ++ d) e, length-append (a ++ b ++ c) d, length-append (a ++ b) c, length-append a b)

line_short : (i : ℕ) → i ≤ 1024 → length (branch_line i) ≤ 30
line_short i h =
    let d = decimal_short i h in
    let all = six (codes "if (x <= ") (decimal i) (codes ") return ") (decimal i) (codes ";") newline in
    let a : length (codes "if (x <= ") ≡ 9 = refl in
    let b : length (codes ") return ") ≡ 9 = refl in
    let c : length (codes ";") ≡ 1 = refl in
    let e : length newline ≡ 1 = refl in
    omega (arith, d, all, a, b, c, e)

lines_short : (i count : ℕ) → i + count ≤ 1024 → length (branch_lines i count) ≤ 30 * count
lines_short i zero h = omega arith
lines_short i (suc count) h =
    let a = line_short i (omega (arith, h)) in
    let b = lines_short (suc i) count (omega (arith, h)) in
    omega (arith, a, b, length-append (branch_line i) (branch_lines (suc i) count))

pub made_short : (n : ℕ) (text : List ℕ) → n ≤ 1024 → text ≡ made_source n → length text ≤ 1048576
made_short n text h e = subst (λ l. length l ≤ 1048576) (sym e) (whole n h)
  where
    whole : (n : ℕ) → n ≤ 1024 → length (made_source n) ≤ 1048576
    whole n h =
        let lines = lines_short 0 n (omega (arith, h)) in
        let d = decimal_short n h in
        let head = codes "int f(int x) {" ++ newline ++ branch_lines 0 n in
        let all = six head (codes "return ") (decimal n) (codes ";") newline (codes "}") in
        let first = length-append (codes "int f(int x) {" ++ newline) (branch_lines 0 n) in
        let last = length-append (head ++ codes "return " ++ decimal n ++ codes ";" ++ newline ++ codes "}") newline in
        let a : length (codes "int f(int x) {" ++ newline) ≡ 15 = refl in
        let b : length (codes "return ") ≡ 7 = refl in
        let c : length (codes ";") ≡ 1 = refl in
        let e : length newline ≡ 1 = refl in
        let f : length (codes "}") ≡ 1 = refl in
        omega (arith, h, lines, d, all, first, last, a, b, c, e, f)
