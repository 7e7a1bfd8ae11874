-- What one more pair of words makes of options that fit.
use Rattle.std.proofs.Common.{◌≡◌, ◌∙◌, sym, ap, refl, subst, ℕ, ◌+◌, ◌<◌, ◌^◌, ◌⊎◌, inl, inr, ⊎_elim, ℤ, pos, negsuc, ◌≤ℤ◌, Bool, true, false, List, [], ◌∷◌, ◌++◌, take, length, Some, None, IsSome, arith, codes, append_assoc, length-append}
use Rattle.std.specs.Prelude.{bytes_eq}
use Rattle.std.specs.Fmt.{decimal, signed_decimal}
use Rattle.std.proofs.lemmas.List.{take_at}
use lib.Signed.{mag}
use Rattle.command_words.specs.declared.values.Range.{Range}
use Rattle.command_words.specs.declared.values.Takes.{Takes}
use Rattle.command_words.specs.declared.values.Takes.TheVariants.{Number, Wide, PathText}
use Rattle.command_words.specs.Words.{Row, NumberRow, takes_of, AreNamed, behind, IsFine, IsGiven, IsValue, min_option, max_option}
use Rattle.command_words.specs.Options.{IsTable, Fits, FitsWith, IsBadAt}
use Rattle.command_words.proofs.Numerals.{text_once, mag_between}
use Rattle.command_words.proofs.NamedWords.{Words, append_nil, same_name, named_both, named_after, behind_both, behind_own, behind_other}

-- ---- one pair more

-- what stands behind a name, with a pair behind good words
behind_pair : (options : List Row) (name w v : List ℕ) (good : Words) → AreNamed options good → bytes_eq w name ≡ false → behind name (good ++ w ∷ v ∷ []) ≡ behind name good
behind_pair options name w v good h e =
    let none : behind name good ++ [] ≡ behind name good = append_nil (behind name good) in
    behind_both options name good (w ∷ v ∷ []) h ∙ ap (λ (l : Words). behind name good ++ l) (behind_other name w v [] e) ∙ none

behind_new : (options : List Row) (w v : List ℕ) (good : Words) → AreNamed options good → behind w good ≡ [] → behind w (good ++ w ∷ v ∷ []) ≡ v ∷ []
behind_new options w v good h e = behind_both options w good (w ∷ v ∷ []) h ∙ ap (λ (l : Words). l ++ behind w (w ∷ v ∷ [])) e ∙ behind_own w v []

given_alike : (words more : Words) (option : NumberRow) (z : ℤ) → behind option.0 more ≡ behind option.0 words → IsGiven words option z → IsGiven more option z
given_alike words more option z e g = record {
  stands = ⊎_elim (λ p. inl (e ∙ p)) (λ p. inr (e ∙ p.0, p.1)) g.stands;
  at_least = g.at_least;
  at_most = g.at_most;
}

-- what is fine behind a name is a number that is given
pub number_given : (words : Words) (option : NumberRow) → ((option.1).least ≤ℤ (option.1).default) × ((option.1).default ≤ℤ (option.1).greatest) → IsFine (Number option.1) (behind option.0 words) → (z : ℤ) × IsGiven words option z
number_given words option d (inl e) = ((option.1).default, record { stands = inr (e, refl); at_least = d.0; at_most = d.1 })
number_given words option d (inr p) = let n = (p.2).1 in ((p.2).0, record { stands = inl (p.1 ∙ ap (λ (w : List ℕ). w ∷ []) n.text); at_least = n.at_least; at_most = n.at_most })

-- and a number that is given is fine
pub given_fine : (words : Words) (option : NumberRow) (z : ℤ) → IsGiven words option z → IsFine (Number option.1) (behind option.0 words)
given_fine words option z g = ⊎_elim (λ p. inr (signed_decimal z, p, (z, record { text = refl; at_least = g.at_least; at_most = g.at_most }))) (λ p. inl p.0) g.stands

-- the options fit, so each has its number
pub option_given : (options : List Row) → IsTable options → (words : Words) → Fits options words → (name : List ℕ) (range : Range) → takes_of options name ≡ Some (Number range) → (z : ℤ) × IsGiven words (name, range) z
option_given options table words f name range e = number_given words (name, range) (table.defaults name range e) (f.given name (Number range) e)

-- the pair is a new one of the table, with a value that it takes
pub record IsNew (options : List Row) (good : Words) (w v : List ℕ) (takes : Takes) : Type 0 where
  pub fits : Fits options good
  pub finds : takes_of options w ≡ Some takes
  pub once : behind w good ≡ []
  pub value : IsValue takes v

module _ {options : List Row} {good : Words} {w v : List ℕ} {takes : Takes} (n : IsNew options good w v takes) where
  new_named : AreNamed options (good ++ w ∷ v ∷ [])
  new_named = named_both options good (w ∷ v ∷ []) ((n.fits).named) (subst (λ o. IsSome o) (sym n.finds) refl, tt)

  -- each option has its value still
  new_given : (name : List ℕ) (t : Takes) → takes_of options name ≡ Some t → IsFine t (behind name (good ++ w ∷ v ∷ []))
  new_given name t e = by_test (bytes_eq w name) refl
    where
      by_test : (b : Bool) → bytes_eq w name ≡ b → IsFine t (behind name (good ++ w ∷ v ∷ []))
      by_test true q =
          let same : w ≡ name = same_name w name q in
          let named : takes_of options w ≡ Some t = ap (takes_of options) same ∙ e in
          let takes_is : takes ≡ t = cc (n.finds, named) in
          let now : behind w (good ++ w ∷ v ∷ []) ≡ v ∷ [] = behind_new options w v good (n.fits).named n.once in
          let value : IsValue t v = subst (λ s. IsValue s v) takes_is n.value in
          inr (v, subst (λ m. behind m (good ++ w ∷ v ∷ []) ≡ v ∷ []) same now, value)
      by_test false q = subst (IsFine t) (sym (behind_pair options name w v good (n.fits).named q)) ((n.fits).given name t e)

  -- where they are in order, the options fit
  pub new_fits : ((lo hi : ℤ) → IsGiven (good ++ w ∷ v ∷ []) min_option lo → IsGiven (good ++ w ∷ v ∷ []) max_option hi → lo ≤ℤ hi) → Fits options (good ++ w ∷ v ∷ [])
  new_fits o = record { named = new_named; given = new_given; ordered = o }

  -- each number is given still
  new_number : IsTable options → (name : List ℕ) (range : Range) → takes_of options name ≡ Some (Number range) → (z : ℤ) × IsGiven (good ++ w ∷ v ∷ []) (name, range) z
  new_number table name range e = number_given (good ++ w ∷ v ∷ []) (name, range) (table.defaults name range e) (new_given name (Number range) e)

  -- what an option's number was, or it is the new one
  was_given : (option : NumberRow) (y : ℤ) → IsGiven (good ++ w ∷ v ∷ []) option y → (v ≡ signed_decimal y × (w ≡ option.0)) ⊎ IsGiven good option y
  was_given option y g = by_test (bytes_eq w option.0) refl
    where
      by_test : (b : Bool) → bytes_eq w option.0 ≡ b → (v ≡ signed_decimal y × (w ≡ option.0)) ⊎ IsGiven good option y
      by_test true t =
          let same : w ≡ option.0 = same_name w option.0 t in
          let now : behind option.0 (good ++ w ∷ v ∷ []) ≡ v ∷ [] = subst (λ m. behind m (good ++ w ∷ v ∷ []) ≡ v ∷ []) same (behind_new options w v good (n.fits).named n.once) in
          inl (⊎_elim (λ p. cc (now, p)) (λ p. absurd (cc (now, p.0))) g.stands, same)
      by_test false t = inr (given_alike (good ++ w ∷ v ∷ []) good option y (sym (behind_pair options option.0 w v good (n.fits).named t)) g)

-- a number of 32 bits in an option's range
mag_given : {words : Words} (option : NumberRow) (y : ℤ) → (option.1).least ≡ negsuc 2147483647 → (option.1).greatest ≡ pos 2147483647 → IsGiven words option y → mag y < 2 ^ 31
mag_given option y l h g =
    mag_between (negsuc 2147483647) (pos 2147483647) y (omega arith) (omega arith) (subst (λ z. z ≤ℤ y) l g.at_least) (subst (λ z. y ≤ℤ z) h g.at_most)

-- with the default of an option that isn't given they fit
module _ (options : List Row) (table : IsTable options) (good : Words) (w : List ℕ) (range : Range) (f : Fits options good) (e : takes_of options w ≡ Some (Number range)) (o : behind w good ≡ []) where
  default_new : IsNew options good w (signed_decimal range.default) (Number range)
  default_new = record { fits = f; finds = e; once = o; value = (range.default, record { text = refl; at_least = (table.defaults w range e).0; at_most = (table.defaults w range e).1 }) }

  least : (lo : ℤ) → mag lo < 2 ^ 31 → signed_decimal range.default ≡ signed_decimal lo → w ≡ codes "-min" → lo ≡ negsuc 2147483647
  least lo m t same =
      let named : takes_of options w ≡ Some (Number min_option.1) = ap (takes_of options) same ∙ table.has_min in
      let range_is : range ≡ min_option.1 = cc (e, named) in
      let default_is : range.default ≡ negsuc 2147483647 = ap (λ (r : Range). r.default) range_is in
      text_once lo (negsuc 2147483647) m (omega arith) (sym t ∙ ap signed_decimal default_is)

  greatest : (hi : ℤ) → mag hi < 2 ^ 31 → signed_decimal range.default ≡ signed_decimal hi → w ≡ codes "-max" → hi ≡ pos 2147483647
  greatest hi m t same =
      let named : takes_of options w ≡ Some (Number max_option.1) = ap (takes_of options) same ∙ table.has_max in
      let range_is : range ≡ max_option.1 = cc (e, named) in
      let default_is : range.default ≡ pos 2147483647 = ap (λ (r : Range). r.default) range_is in
      text_once hi (pos 2147483647) m (omega arith) (sym t ∙ ap signed_decimal default_is)

  default_order : (lo hi : ℤ) → IsGiven (good ++ w ∷ signed_decimal range.default ∷ []) min_option lo → IsGiven (good ++ w ∷ signed_decimal range.default ∷ []) max_option hi → lo ≤ℤ hi
  default_order lo hi g h =
      by_min (was_given default_new min_option lo g) (was_given default_new max_option hi h)
    where
      by_min : (signed_decimal range.default ≡ signed_decimal lo × (w ≡ codes "-min")) ⊎ IsGiven good min_option lo
          → (signed_decimal range.default ≡ signed_decimal hi × (w ≡ codes "-max")) ⊎ IsGiven good max_option hi → lo ≤ℤ hi
      by_min (inl p) k = let m = mag_given min_option lo refl refl g in let is = least lo m p.0 p.1 in let low : negsuc 2147483647 ≤ℤ hi = h.at_least in subst (λ z. z ≤ℤ hi) (sym is) low
      by_min (inr g0) (inl p) = let m = mag_given max_option hi refl refl h in let is = greatest hi m p.0 p.1 in let high : lo ≤ℤ pos 2147483647 = g.at_most in subst (λ z. lo ≤ℤ z) (sym is) high
      by_min (inr g0) (inr h0) = f.ordered lo hi g0 h0

  number_fits : FitsWith options (good ++ w ∷ [])
  number_fits =
      let v = signed_decimal range.default in
      (v ∷ [], subst (Fits options) (sym (append_assoc good (w ∷ []) (v ∷ []))) (new_fits default_new default_order))

-- with a value behind an option that takes no number of a range they fit
module _ (options : List Row) (table : IsTable options) (good : Words) (w v : List ℕ) (takes : Takes) (other : (range : Range) → takes ≡ Number range → ⊥) (new : IsNew options good w v takes) where
  no_min : w ≡ codes "-min" → ⊥
  no_min same = let named : takes_of options w ≡ Some (Number min_option.1) = ap (takes_of options) same ∙ table.has_min in other min_option.1 (cc (new.finds, named))

  no_max : w ≡ codes "-max" → ⊥
  no_max same = let named : takes_of options w ≡ Some (Number max_option.1) = ap (takes_of options) same ∙ table.has_max in other max_option.1 (cc (new.finds, named))

  value_order : (lo hi : ℤ) → IsGiven (good ++ w ∷ v ∷ []) min_option lo → IsGiven (good ++ w ∷ v ∷ []) max_option hi → lo ≤ℤ hi
  value_order lo hi g h = by_min (was_given new min_option lo g) (was_given new max_option hi h)
    where
      by_min : (v ≡ signed_decimal lo × (w ≡ codes "-min")) ⊎ IsGiven good min_option lo → (v ≡ signed_decimal hi × (w ≡ codes "-max")) ⊎ IsGiven good max_option hi → lo ≤ℤ hi
      by_min (inl p) k = absurd (no_min p.1)
      by_min (inr g0) (inl p) = absurd (no_max p.1)
      by_min (inr g0) (inr h0) = (new.fits).ordered lo hi g0 h0

  value_fits : FitsWith options (good ++ w ∷ [])
  value_fits = (v ∷ [], subst (Fits options) (sym (append_assoc good (w ∷ []) (v ∷ []))) (new_fits new value_order))

pub default_fits : (options : List Row) → IsTable options → (good : Words) (w : List ℕ) (takes : Takes) → Fits options good → takes_of options w ≡ Some takes → behind w good ≡ [] → FitsWith options (good ++ w ∷ [])
default_fits options table good w (Number range) f e o = number_fits options table good w range f e o
default_fits options table good w Wide f e o = value_fits options table good w (decimal 0) Wide (λ range h. absurd (cc h)) (record { fits = f; finds = e; once = o; value = (0, record { text = refl; fits = omega arith }) })
default_fits options table good w PathText f e o = value_fits options table good w (codes "~") PathText (λ range h. absurd (cc h)) (record { fits = f; finds = e; once = o; value = ([], record { text = refl; bytes = λ i x h. absurd (omega (arith, h)) }) })

-- ---- bad words

-- with the word behind good ones no options fit
bad_at : (options : List Row) (good rest : Words) (w : List ℕ) → FitsWith options good → ¬ FitsWith options (good ++ w ∷ []) → IsBadAt options (good ++ w ∷ rest) (length good)
bad_at options good rest w b none = record {
  before = subst (FitsWith options) (sym (take_at good (w ∷ rest) (length good) refl)) b;
  here =
      let shown : take (length good + 1) (good ++ (w ∷ rest)) ≡ good ++ w ∷ [] =
      ap (take (length good + 1)) (sym (append_assoc good (w ∷ []) rest)) ∙ take_at (good ++ w ∷ []) rest (length good + 1) (length-append good (w ∷ [])) in
      inl (omega (arith, length-append good (w ∷ rest)), subst (λ (ws : Words). ¬ FitsWith options ws) (sym shown) none);
}

fits_itself : (options : List Row) (good : Words) → Fits options good → FitsWith options good
fits_itself options good f = ([], subst (Fits options) (sym (append_nil good)) f)

-- a name that no option has
pub bad_name : (options : List Row) (good rest : Words) (w : List ℕ) → Fits options good → takes_of options w ≡ None → IsBadAt options (good ++ w ∷ rest) (length good)
bad_name options good rest w f e =
    bad_at options good rest w (fits_itself options good f)
    (λ b.
    let g : Fits options (good ++ (w ∷ b.0)) = subst (Fits options) (append_assoc good (w ∷ []) b.0) b.1 in
    no_name b.0 (named_after options good (w ∷ b.0) f.named g.named))
  where
    no_name : (more : Words) → AreNamed options (w ∷ more) → ⊥
    no_name [] h = h
    no_name (v ∷ more) h = let s : IsSome (takes_of options w) = h.0 in let t : IsSome {T = Takes} None = subst (λ o. IsSome o) e s in cc t

two : (x z y : List ℕ) (l m : Words) → (x ∷ l) ++ y ∷ m ≡ z ∷ [] → ⊥
two x z y [] m e = cc e
two x z y (a ∷ l) m e = cc e

-- a name that stands already
pub bad_twice : (options : List Row) (good rest : Words) (w v : List ℕ) (l : Words) (takes : Takes) → Fits options good → takes_of options w ≡ Some takes → behind w good ≡ v ∷ l
    → IsBadAt options (good ++ w ∷ rest) (length good)
bad_twice options good rest w v l takes f e o =
    bad_at options good rest w (fits_itself options good f)
    (λ b.
    let g : Fits options (good ++ (w ∷ b.0)) = subst (Fits options) (append_assoc good (w ∷ []) b.0) b.1 in
    again b.0 g)
  where
    again : (more : Words) → Fits options (good ++ (w ∷ more)) → ⊥
    again [] g = named_after options good (w ∷ []) f.named g.named
    again (u ∷ more) g =
        let n = g.given w takes e in
        let all : behind w (good ++ w ∷ u ∷ more) ≡ (v ∷ l) ++ u ∷ behind w more = behind_both options w good (w ∷ u ∷ more) f.named ∙ ap (λ (k : Words). k ++ behind w (w ∷ u ∷ more)) o ∙ ap (λ (k : Words). (v ∷ l) ++ k) (behind_own w u more) in
        ⊎_elim (λ p. cc (all, p)) (λ p. two v p.0 u l (behind w more) (sym all ∙ p.1)) n

-- a name with no word behind it
pub bad_end : (options : List Row) (good : Words) (w : List ℕ) → Fits options good → FitsWith options (good ++ w ∷ []) → IsBadAt options (good ++ w ∷ []) (length good + 1)
bad_end options good w f b = record {
  before = subst (FitsWith options) (sym whole) b;
  here = inr (sym (length-append good (w ∷ [])), λ g. named_after options good (w ∷ []) f.named g.named);
}
  where
    whole : take (length good + 1) (good ++ w ∷ []) ≡ good ++ w ∷ []
    whole = ap (take (length good + 1)) (sym (append_nil (good ++ w ∷ []))) ∙ take_at (good ++ w ∷ []) [] (length good + 1) (length-append good (w ∷ []))

-- the word behind a name
bad_second : (options : List Row) (good rest : Words) (w v : List ℕ) → FitsWith options (good ++ w ∷ []) → ((more : Words) → Fits options (good ++ w ∷ v ∷ more) → ⊥)
    → IsBadAt options (good ++ w ∷ v ∷ rest) (length good + 1)
bad_second options good rest w v b none =
    let bad = bad_at options (good ++ w ∷ []) rest v b (λ a.
    let e : ((good ++ w ∷ []) ++ v ∷ []) ++ a.0 ≡ good ++ w ∷ v ∷ a.0 = append_assoc (good ++ w ∷ []) (v ∷ []) a.0 ∙ append_assoc good (w ∷ []) (v ∷ a.0) in
    none a.0 (subst (Fits options) e a.1)) in
    subst (IsBadAt options (good ++ w ∷ v ∷ rest)) (length-append good (w ∷ [])) (subst (λ (ws : Words). IsBadAt options ws (length (good ++ w ∷ []))) (append_assoc good (w ∷ []) (v ∷ rest)) bad)

-- what stands behind a name that is new, whatever follows
behind_first : (options : List Row) (good more : Words) (w v : List ℕ) → AreNamed options good → behind w good ≡ [] → behind w (good ++ w ∷ v ∷ more) ≡ v ∷ behind w more
behind_first options good more w v h o = behind_both options w good (w ∷ v ∷ more) h ∙ ap (λ (l : Words). l ++ behind w (w ∷ v ∷ more)) o ∙ behind_own w v more

-- it is no value that the option takes
pub bad_value : (options : List Row) (good rest : Words) (w v : List ℕ) (takes : Takes) → Fits options good → FitsWith options (good ++ w ∷ []) → takes_of options w ≡ Some takes → behind w good ≡ []
    → (IsValue takes v → ⊥) → IsBadAt options (good ++ w ∷ v ∷ rest) (length good + 1)
bad_value options good rest w v takes f b e o none =
    bad_second options good rest w v b (λ more g.
    let n = g.given w takes e in
    let all = behind_first options good more w v f.named o in
    ⊎_elim (λ p. cc (all, p)) (λ p. let same : p.0 ≡ v = cc (all, p.1) in none (subst (IsValue takes) same p.2)) n)

-- what is given first is given
still : (options : List Row) (words more : Words) (name : List ℕ) (range : Range) (z y : ℤ) → AreNamed options words → behind name words ≡ signed_decimal z ∷ []
    → IsGiven words (name, range) z → IsGiven (words ++ more) (name, range) y → IsGiven (words ++ more) (name, range) z
still options words more name range z y h e g k =
    let all : behind name (words ++ more) ≡ signed_decimal z ∷ behind name more = behind_both options name words more h ∙ ap (λ (l : Words). l ++ behind name more) e in
    record {
      stands = inl (⊎_elim (λ p. all ∙ ap (λ (l : Words). signed_decimal z ∷ l) (cc (all, p))) (λ p. absurd (cc (all, p.0))) k.stands);
      at_least = g.at_least;
      at_most = g.at_most;
    }

-- the least number and the greatest are in order where more options fit
order_before : (options : List Row) → IsTable options → (words more : Words) (lo hi : ℤ) → AreNamed options words → Fits options (words ++ more)
    → IsGiven words min_option lo → IsGiven words max_option hi → lo ≤ℤ hi
order_before options table words more lo hi n f g h = by_min g.stands h.stands
  where
    by_min : (behind (codes "-min") words ≡ signed_decimal lo ∷ []) ⊎ ((behind (codes "-min") words ≡ []) × (lo ≡ negsuc 2147483647))
        → (behind (codes "-max") words ≡ signed_decimal hi ∷ []) ⊎ ((behind (codes "-max") words ≡ []) × (hi ≡ pos 2147483647)) → lo ≤ℤ hi
    by_min (inr p) k = let low : negsuc 2147483647 ≤ℤ hi = h.at_least in subst (λ z. z ≤ℤ hi) (sym p.1) low
    by_min (inl p) (inr q) = let high : lo ≤ℤ pos 2147483647 = g.at_most in subst (λ z. lo ≤ℤ z) (sym q.1) high
    by_min (inl p) (inl q) =
        let a = option_given options table (words ++ more) f (codes "-min") min_option.1 table.has_min in
        let b = option_given options table (words ++ more) f (codes "-max") max_option.1 table.has_max in
        f.ordered lo hi (still options words more (codes "-min") min_option.1 lo a.0 n p g a.1) (still options words more (codes "-max") max_option.1 hi b.0 n q h b.1)

-- it makes the least number greater than the greatest
pub bad_order : (options : List Row) → IsTable options → (good rest : Words) (w v : List ℕ) (takes : Takes) → IsNew options good w v takes → FitsWith options (good ++ w ∷ [])
    → ((lo hi : ℤ) → IsGiven (good ++ w ∷ v ∷ []) min_option lo → IsGiven (good ++ w ∷ v ∷ []) max_option hi → lo ≤ℤ hi → ⊥) → IsBadAt options (good ++ w ∷ v ∷ rest) (length good + 1)
bad_order options table good rest w v takes n b none =
    bad_second options good rest w v b (λ more f.
    let g : Fits options ((good ++ w ∷ v ∷ []) ++ more) = subst (Fits options) (sym (append_assoc good (w ∷ v ∷ []) more)) f in
    let lo = new_number n table (codes "-min") min_option.1 table.has_min in
    let hi = new_number n table (codes "-max") max_option.1 table.has_max in
    none lo.0 hi.0 lo.1 hi.1 (order_before options table (good ++ w ∷ v ∷ []) more lo.0 hi.0 (new_named n) g lo.1 hi.1))
