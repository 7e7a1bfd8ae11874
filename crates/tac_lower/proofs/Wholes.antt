-- A whole code: the functions' codes one before the other, and what they are together when all is written.
use Rattle.std.proofs.Common.{◌≡◌, ℕ, zero, suc, ◌+◌, ◌-◌, ◌<◌, ◌≤◌, List, [], ◌∷◌, ◌++◌, map, length, reverse, Option, Some, None, option_map, unwrap_or, slice_get, refl, sym, ap, ◌∙◌, subst, arith, length-append, get_or, drop}
use Rattle.std.proofs.Math.Seq.{drop-cons, drop-length}
use Rattle.std.proofs.lemmas.List.{reverse-append, map-append, length-map, length-reverse}
use Rattle.std.proofs.lemmas.Option.{slice_get-map}
use Rattle.cc_model.specs.declared.tokens.Token.{Token}
use Rattle.cc_model.specs.declared.checked.Checked.{Checked}
use Rattle.cc_model.specs.declared.checked.Sig.{Sig}
use Rattle.cc_model.specs.declared.trees.Func as source_func
use Rattle.cc_model.specs.Core as tree
use Rattle.cc_model.specs.Core.{Cell, Func}
use Rattle.cc_model.specs.Compiles.{Compiles}
use Rattle.cc_model.specs.CheckedProgram.{core_of, funcs_from, func_if, body_in, site_of, IsChecked}
use Rattle.cc_model.specs.Instructions.{Instruction, i_return}
use Rattle.cc_model.specs.Sites.{sites_in}
use Rattle.cc_model.specs.Scopes.{Text}
use Rattle.tac_lower.specs.declared.instr.Instr.{Instr}
use Rattle.tac_lower.specs.declared.instr.Instr.TheVariants as instr
use Rattle.tac_lower.specs.declared.tac.TacFunc.{TacFunc}
use Rattle.tac_lower.specs.declared.tac.Tac.{Tac}
use Rattle.tac_lower.specs.Seen.{seen_by, seen}
use Rattle.tac_lower.specs.Adding.{ordered}
use Rattle.tac_lower.specs.Emitted.{line_in, AddsFunc}
use Rattle.tac_lower.specs.Sizes.{parts_size}
use Rattle.tac_lower.specs.Lowering.{zero_code, parts_code, func_code, code_from, first_from}
use Rattle.tac_lower.proofs.Adding.{longer}
use Rattle.tac_lower.proofs.Lengths.{parts_length_is}
use Rattle.tac_lower.proofs.Programs as programs
use Rattle.tac_lower.specs.Finished.{placed, completed, first_in, named, AllBelow, IsFunc, AreFuncs, TempsAbove}
use Rattle.tac_lower.specs.Written.{behind_of, Narrow, IsWritten, IsDefined, AreWritten}
use Rattle.tac_lower.proofs.SitedBodies.{all_marked, funcs_sited}

-- ---- lists the other way round

pub reverse_more : {A : Type 0} (l : List A) (x : A) → reverse (l ++ x ∷ []) ≡ x ∷ reverse l
reverse_more l x = reverse-append l (x ∷ [])

pub map_reverse : {A B : Type 0} (f : A → B) (l : List A) → map f (reverse l) ≡ reverse (map f l)
map_reverse f [] = refl
map_reverse f (x ∷ l) =
    ap (map f) (reverse-append (x ∷ []) l) ∙ map-append f (reverse l) (x ∷ []) ∙ ap (λ r. r ++ f x ∷ []) (map_reverse f l) ∙ sym (reverse-append (f x ∷ []) (map f l))

-- the last of what is left of a list, which is taken from its end
pub next_taken : {A : Type 0} (l : List A) (x : A) (left k : ℕ) → left ≡ suc k → left ≤ length l → x ≡ get_or l k x → drop k l ≡ x ∷ drop left l
next_taken l x left k i h g = drop-cons l k x (omega (arith, i, h)) ∙ ap (λ z. z ∷ drop (suc k) l) (sym g) ∙ ap (λ n. x ∷ drop n l) (sym i)

pub taken_mapped : {A B : Type 0} (f : A → B) (l : List A) (x : A) (left k : ℕ) (old new : List B) → left ≡ suc k → left ≤ length l → x ≡ get_or l k x
    → old ≡ map f (reverse (drop left l)) → new ≡ old ++ f x ∷ [] → new ≡ map f (reverse (drop k l))
taken_mapped f l x left k old new i h g p q =
    q ∙ ap (λ o. o ++ f x ∷ []) p ∙ sym (ap (λ r. map f r) (ap (λ d. reverse d) (next_taken l x left k i h g) ∙ reverse-append (x ∷ []) (drop left l)) ∙ map-append f (reverse (drop left l)) (x ∷ []))

pub nothing_taken : {A B : Type 0} (f : A → B) (l : List A) → [] ≡ map f (reverse (drop (length l) l))
nothing_taken f l = sym (ap (λ d. map f (reverse d)) (drop-length l))

-- ---- places of jumps

seen_placed : (c : Checked) (total : ℕ) (i : Instr) → seen c (placed total i) ≡ seen_by c (λ behind. total - behind) i
seen_placed c total (instr.Jump behind) = refl
seen_placed c total (instr.JumpZero a behind) = refl
seen_placed c total i = refl

all_placed : (c : Checked) (total : ℕ) (l : List Instr) → map (seen c) (map (placed total) l) ≡ map (seen_by c (λ behind. total - behind)) l
all_placed c total [] = refl
all_placed c total (i ∷ l) = λ k. seen_placed c total i k ∷ all_placed c total l k

-- ---- one function more

func_length : (line : ℕ → ℕ) (f : Func) (pc : ℕ) → length (func_code line f pc) ≡ parts_size f.body + 3
func_length line f pc =
    let e : ℕ = suc pc + length (parts_code line f.result f.body (suc pc) 0 0) in
    let p = parts_length_is line f.result f.body (suc pc) e e in
    let z = zeroed f.result in
    let a = length-append (parts_code line f.result f.body (suc pc) e e) (zero_code f.result 0 ++ i_return 0 ∷ []) in
    omega (arith, p, z, a)
  where
    zeroed : (r : Cell) → length (zero_code r 0 ++ i_return 0 ∷ []) ≡ 2
    zeroed tree.int_cell = refl
    zeroed (tree.ptr_cell t) = refl

ordered_more : (c : Checked) (total : ℕ) (l m : List Instr) → ordered c total (l ++ m) ≡ ordered c total m ++ ordered c total l
ordered_more c total l m =
    let see = seen_by c (λ behind. total - behind) in
    ap (λ z. reverse z) (map-append see l m) ∙ reverse-append (map see l) (map see m)

pub none_written : (c : Checked) → IsWritten c [] [] []
none_written c = record { reads = λ s r total pc h. refl; firsts = λ total pc i h. omega (arith, h) }

pub one_written : (c : Checked) (f : Func) (fs : List Func) (g : TacFunc) (old new : List Instr) (funcs : List TacFunc)
    → AddsFunc c f old new → g.first ≡ length new → IsWritten c fs old funcs → IsWritten c (f ∷ fs) new (funcs ++ g ∷ [])
unfolding AddsFunc
one_written c f fs g old new funcs a first w =
    let line = line_in c in
    let l = longer c old new (parts_size f.body + 3) _ _ a in
    record {
      reads = λ s room total pc h.
          let n = func_length line f pc in
          let m : (pc + length (func_code line f pc)) + length old ≡ total = omega (arith, n, l, h) in
          ap (λ z. ordered c total z) a.is ∙ ordered_more c total old a.added
          ∙ ap (λ z. z ++ ordered c total old) (a.reads (s.0, omega (arith, l, room)) total pc h)
          ∙ ap (λ z. func_code line f pc ++ z) (w.reads s.1 (omega (arith, l, room)) total (pc + length (func_code line f pc)) m);
      firsts = λ total pc i h. subst (λ r. first_from line (f ∷ fs) pc i + behind_of (slice_get r i) ≡ total) (sym (reverse_more funcs g)) (begins total pc i l h);
    }
  where
    begins : (total pc i : ℕ) → length new ≡ length old + (parts_size f.body + 3) → pc + length new ≡ total → first_from (line_in c) (f ∷ fs) pc i + behind_of (slice_get (g ∷ reverse funcs) i) ≡ total
    begins total pc zero l h = omega (arith, first, h)
    begins total pc (suc i) l h = w.firsts total (pc + length (func_code (line_in c) f pc)) i (let n = func_length (line_in c) f pc in omega (arith, n, l, h))

-- ---- all is written

begins_at : (total temps n : ℕ) (o : Option TacFunc) → n + behind_of o ≡ total → unwrap_or (option_map (λ f. f.first) (option_map (completed total temps) o)) total ≡ n
begins_at total temps n None h = omega (arith, h)
begins_at total temps n (Some f) h = omega (arith, h)

pub finished : (c : Checked) (t : Tac) (code : List Instr) (funcs : List TacFunc) (temps : ℕ) (tokens : List Token)
    → c.sites ≡ map (site_of tokens) (sites_in (c.program).items) → Narrow c
    → IsWritten c (funcs_from c 0 c.funcs) code funcs → 4 + length code < 4294967296
    → t.code ≡ map (placed (length code)) (reverse code) → t.funcs ≡ map (completed (length code) temps) (reverse funcs)
    → Compiles (core_of c) (map (seen c) t.code) (λ n. first_in t n)
finished c t code funcs temps tokens sites narrow w room e g =
    let total = length code in
    let fs = funcs_from c 0 c.funcs in
    let line = line_in c in
    let reads : map (seen c) t.code ≡ code_from line fs 0 =
    ap (λ l. map (seen c) l) e ∙ all_placed c total (reverse code) ∙ map_reverse (seen_by c (λ behind. total - behind)) code
    ∙ w.reads (funcs_sited c 0 c.funcs narrow (all_marked c tokens sites)) room total 0 (omega arith) in
    let many : length t.code ≡ total = ap length e ∙ length-map (reverse code) (placed total) ∙ length-reverse code in
    let begin : (n : ℕ) → first_in t n ≡ first_from line fs 0 n = λ n.
    ap (λ l. unwrap_or (option_map (λ f. f.first) (slice_get l n)) (length t.code)) g
    ∙ ap (λ o. unwrap_or (option_map (λ f. f.first) o) (length t.code)) (slice_get-map (completed total temps) (reverse funcs) n)
    ∙ ap (λ z. unwrap_or (option_map (λ f. f.first) (option_map (completed total temps) (slice_get (reverse funcs) n))) z) many
    ∙ begins_at total temps (first_from line fs 0 n) (slice_get (reverse funcs) n) (w.firsts total 0 n (omega arith)) in
    let all : (λ n. first_in t n) ≡ (λ n. first_from line fs 0 n) = λ i n. begin n i in
    subst (λ (p : ℕ → ℕ). Compiles (core_of c) (map (seen c) t.code) p) (sym all)
    (subst (λ (l : List Instruction). Compiles (core_of c) l (λ n. first_from line fs 0 n)) (sym reads) (programs.compiles (core_of c)))

-- ---- functions and temporaries

pub none_funcs : (l : List Sig) → AreFuncs (drop (length l) l) []
none_funcs l = subst (λ d. AreFuncs d []) (sym (drop-length l)) tt

pub one_func : (l : List Sig) (s : Sig) (left k : ℕ) (old : List TacFunc) (f : TacFunc) → left ≡ suc k → left ≤ length l → s ≡ get_or l k s
    → AreFuncs (drop left l) (reverse old) → IsFunc s f → AreFuncs (drop k l) (reverse (old ++ f ∷ []))
one_func l s left k old f i h g p q =
    subst (λ d. AreFuncs d (reverse (old ++ f ∷ []))) (sym (next_taken l s left k i h g)) (subst (λ r. AreFuncs (s ∷ drop left l) r) (sym (reverse_more old f)) (q, p))

pub same_funcs : (total temps : ℕ) (l : List Sig) (fs : List TacFunc) → AreFuncs l fs → AreFuncs l (map (completed total temps) fs)
same_funcs total temps [] [] h = tt
same_funcs total temps [] (f ∷ fs) h = absurd h
same_funcs total temps (s ∷ l) [] h = absurd h
same_funcs total temps (s ∷ l) (f ∷ fs) h = (record { params = (h.0).params; slots = (h.0).slots }, same_funcs total temps l fs h.1)

pub temps_above : (total temps : ℕ) (fs : List TacFunc) (code : List Instr) → AllBelow temps code → TempsAbove (map (completed total temps) fs) code
temps_above total temps [] code h = tt
temps_above total temps (f ∷ fs) code h = (h, temps_above total temps fs code h)

all_more : (t u : ℕ) (l : List Instr) → t ≤ u → AllBelow t l → AllBelow u l
all_more t u [] h p = tt
all_more t u (i ∷ l) h p = (omega (arith, h, p.0), all_more t u l h p.1)

-- an element that was read with a default
pub as_got : {A : Type 0} (l : List A) (k : ℕ) (d : A) → k < length l → get_or l k d ≡ get_or l k (get_or l k d)
as_got {A = A} [] k d h = absurd (omega arith)
as_got {A = A} (x ∷ l) zero d h = refl
as_got {A = A} (x ∷ l) (suc k) d h = same (get_or l k d) (as_got l k d (omega arith))
  where
    same : (e : A) → get_or l k d ≡ get_or l k e → get_or l k d ≡ get_or l k e
    same e p = p

pub none_below : (l : List Instr) → AllBelow 0 (drop (length l) l)
none_below l = subst (λ d. AllBelow 0 d) (sym (drop-length l)) tt

pub one_below : (l : List Instr) (i : Instr) (left k t u : ℕ) → left ≡ suc k → left ≤ length l → i ≡ get_or l k i → AllBelow t (drop left l) → t ≤ u → named i ≤ u → AllBelow u (drop k l)
one_below l i left k t u e h g p m n = subst (λ d. AllBelow u d) (sym (next_taken l i left k e h g)) (n, all_more t u (drop left l) m p)

-- ---- the loop over the functions

module _ (c : Checked) where
  pub none_are_written : AreWritten c (length c.funcs) [] []
  none_are_written = record {
    code = subst (λ l. IsWritten c (funcs_from c (length c.funcs) l) [] []) (sym (drop-length c.funcs)) (none_written c);
    funcs = none_funcs c.funcs;
  }

  pub one_is_written : (s : Sig) (left k : ℕ) (o : Option source_func.Func) (g : TacFunc) (old new : List Instr) (funcs more : List TacFunc) → left ≡ suc k → left ≤ length c.funcs → s ≡ get_or c.funcs k s
      → o ≡ body_in c k (c.program).items → IsDefined c (func_if c k o) s old new g → more ≡ funcs ++ g ∷ [] → AreWritten c left old funcs → AreWritten c k new more
  one_is_written s left k o g old new funcs more i h q b d m w =
      let adds : AddsFunc c (func_if c k (body_in c k (c.program).items)) old new = subst (λ z. AddsFunc c (func_if c k z) old new) b d.adds in
      let before : IsWritten c (funcs_from c (suc k) (drop left c.funcs)) old funcs = subst (λ n. IsWritten c (funcs_from c n (drop left c.funcs)) old funcs) i w.code in
      let all : AreWritten c k new (funcs ++ g ∷ []) = record {
        code = subst (λ l. IsWritten c (funcs_from c k l) new (funcs ++ g ∷ [])) (sym (next_taken c.funcs s left k i h q))
            (one_written c (func_if c k (body_in c k (c.program).items)) (funcs_from c (suc k) (drop left c.funcs)) g old new funcs adds d.first before);
        funcs = one_func c.funcs s left k funcs g i h q w.funcs d.has;
      } in
      subst (λ z. AreWritten c k new z) (sym m) all

  -- ---- the finished code

  pub lowered : (t : Tac) (code code' : List Instr) (funcs funcs' : List TacFunc) (total temps count : ℕ) (text : ℕ → Text) (tokens : List Token) (entry : Text) → IsChecked text tokens entry c → Narrow c
      → AreWritten c 0 code funcs → count ≡ length code → total ≡ count → 4 + count < 4294967296 → code' ≡ code → funcs' ≡ funcs
      → t.code ≡ map (placed total) (reverse code') → t.funcs ≡ map (completed total temps) (reverse funcs') → Compiles (core_of c) (map (seen c) t.code) (λ n. first_in t n)
  lowered t code code' funcs funcs' total temps count text tokens entry ok narrow w q p room d e f g =
      let n : total ≡ length code = p ∙ q in
      finished c t code funcs temps tokens ok.sites narrow w.code (omega (arith, room, q))
      (f ∙ ap (λ z. map (placed z) (reverse code')) n ∙ ap (λ l. map (placed (length code)) (reverse l)) d)
      (g ∙ ap (λ z. map (completed z temps) (reverse funcs')) n ∙ ap (λ l. map (completed (length code) temps) (reverse l)) e)

  pub lowered_funcs : (code : List Instr) (funcs funcs' l : List TacFunc) (total temps : ℕ) → AreWritten c 0 code funcs → funcs' ≡ funcs → l ≡ map (completed total temps) (reverse funcs') → AreFuncs c.funcs l
  lowered_funcs code funcs funcs' l total temps w e g =
      subst (λ z. AreFuncs c.funcs z) (sym (g ∙ ap (λ z. map (completed total temps) (reverse z)) e)) (same_funcs total temps c.funcs (reverse funcs) w.funcs)

pub lowered_temps : (code code' : List Instr) (funcs l : List TacFunc) (total temps : ℕ) → code' ≡ code → AllBelow temps code' → l ≡ map (completed total temps) (reverse funcs) → TempsAbove l code
lowered_temps code code' funcs l total temps e h g =
    subst (λ z. TempsAbove z code) (sym g) (temps_above total temps (reverse funcs) code (subst (λ z. AllBelow temps z) e h))
