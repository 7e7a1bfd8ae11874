-- What the code reads of one pair, and what it says of all the options.
use Rattle.std.proofs.Common.{◌≡◌, ◌∙◌, sym, ap, refl, subst, ℕ, suc, zero, ◌+◌, ◌≤◌, ℤ, ◌≤ℤ◌, List, [], ◌∷◌, ◌++◌, take, drop, length, Option, Some, None, arith, append_assoc, length-append}
use Rattle.std.specs.Prelude.{String, string_bytes, IfSome, IfNone}
use Rattle.std.specs.declared.alloc.Global.{Global}
use Rattle.std.proofs.lemmas.List.{take_at}
use Rattle.command_words.specs.declared.values.Takes.{Takes}
use Rattle.command_words.specs.Words.{Row, texts, takes_of, behind, IsGiven, IsValue, min_option, max_option}
use Rattle.command_words.specs.Options.{IsTable, Fits, FitsWith, IsBadAt}
use Rattle.command_words.proofs.NamedWords.{Words, append_nil}
use Rattle.command_words.proofs.OptionFits.{IsNew, new_fits, default_fits, bad_name, bad_twice, bad_end, bad_value, bad_order}

-- ---- the words of a slice

pub texts_take : (words : List (String Global)) (n : ℕ) → texts (take n words) ≡ take n (texts words)
texts_take words zero = refl
texts_take [] (suc n) = refl
texts_take (w ∷ words) (suc n) = ap (λ (l : Words). string_bytes w ∷ l) (texts_take words n)

pub texts_length : (words : List (String Global)) → length (texts words) ≡ length words
texts_length [] = refl
texts_length (w ∷ words) = ap suc (texts_length words)

pub texts_split : (words : List (String Global)) (n : ℕ) → texts words ≡ texts (take n words) ++ texts (drop n words)
texts_split words zero = refl
texts_split [] (suc n) = refl
texts_split (w ∷ words) (suc n) = ap (λ (l : Words). string_bytes w ∷ l) (texts_split words n)

pub taken_length : (words : List (String Global)) (n : ℕ) → n ≤ length words → length (texts (take n words)) ≡ n
taken_length words zero h = refl
taken_length [] (suc n) h = absurd (omega (arith, h))
taken_length (w ∷ words) (suc n) h = ap suc (taken_length words n (omega (arith, h)))

-- ---- one pair

module _ (options : List Row) (all good : Words) {l l2 : Words} {w : List ℕ} {at : ℕ} (whole : all ≡ good ++ l) (place : length good ≡ at) (name : l ≡ w ∷ l2) where
  named : all ≡ good ++ w ∷ l2
  named = whole ∙ ap (λ (m : Words). good ++ m) name

  here : IsBadAt options (good ++ w ∷ l2) (length good) → IsBadAt options all at
  here b = subst (IsBadAt options all) place (subst (λ (ws : Words). IsBadAt options ws (length good)) (sym named) b)

  next : IsBadAt options (good ++ w ∷ l2) (length good + 1) → IsBadAt options all (at + 1)
  next b = subst (λ n. IsBadAt options all (n + 1)) place (subst (λ (ws : Words). IsBadAt options ws (length good + 1)) (sym named) b)

  pub read_name : takes_of options w ≡ None → Fits options good → IsBadAt options all at
  read_name e f = here (bad_name options good l2 w f e)

  pub read_twice : {takes : Takes} {v : List ℕ} {m : Words} → takes_of options w ≡ Some takes → behind w good ≡ v ∷ m → Fits options good → IsBadAt options all at
  read_twice {takes} {v} {m} e o f = here (bad_twice options good l2 w v m takes f e o)

  pub read_again : {takes : Takes} → takes_of options w ≡ Some takes → (behind w good ≡ [] → ⊥) → Fits options good → IsBadAt options all at
  read_again {takes} e o f = by_list (behind w good) refl
    where
      by_list : (m : Words) → behind w good ≡ m → IsBadAt options all at
      by_list [] h = absurd (o h)
      by_list (v ∷ m) h = read_twice {takes = takes} {v = v} {m = m} e h f

  module _ {takes : Takes} (e : takes_of options w ≡ Some takes) (o : behind w good ≡ []) (table : IsTable options) (f : Fits options good) where
    starts : FitsWith options (good ++ w ∷ [])
    starts = default_fits options table good w takes f e o

    pub read_end : l2 ≡ [] → IsBadAt options all (at + 1)
    read_end none = next (subst (λ (m : Words). IsBadAt options (good ++ w ∷ m) (length good + 1)) (sym none) (bad_end options good w f starts))

    module _ {l3 : Words} {v : List ℕ} (value : l2 ≡ v ∷ l3) where
      behind_it : IsBadAt options (good ++ w ∷ v ∷ l3) (length good + 1) → IsBadAt options all (at + 1)
      behind_it b = next (subst (λ (m : Words). IsBadAt options (good ++ w ∷ m) (length good + 1)) (sym value) b)

      pub read_value : (IsValue takes v → ⊥) → IsBadAt options all (at + 1)
      read_value none = behind_it (bad_value options good l3 w v takes f starts e o none)

      module _ (fine : IsValue takes v) {some : Words} (some_are : some ≡ good ++ w ∷ v ∷ []) where
        is_new : IsNew options good w v takes
        is_new = record { fits = f; finds = e; once = o; value = fine }

        pub read_order : ((lo hi : ℤ) → IsGiven some min_option lo → IsGiven some max_option hi → lo ≤ℤ hi → ⊥) → IsBadAt options all (at + 1)
        read_order none = behind_it (bad_order options table good l3 w v takes is_new starts (subst (λ (ws : Words). (lo hi : ℤ) → IsGiven ws min_option lo → IsGiven ws max_option hi → lo ≤ℤ hi → ⊥) some_are none))

        pub read_pair : ((lo hi : ℤ) → IsGiven some min_option lo → IsGiven some max_option hi → lo ≤ℤ hi) → Fits options some
        read_pair ordered = subst (Fits options) (sym some_are) (new_fits is_new (subst (λ (ws : Words). (lo hi : ℤ) → IsGiven ws min_option lo → IsGiven ws max_option hi → lo ≤ℤ hi) some_are ordered))

-- the words with the pair
pub with_pair : (words : List (String Global)) (good l l2 l3 : Words) (w v : List ℕ) (at : ℕ) → texts words ≡ good ++ l → length good ≡ at → l ≡ w ∷ l2 → l2 ≡ v ∷ l3 → texts (take (at + 2) words) ≡ good ++ w ∷ v ∷ []
with_pair words good l l2 l3 w v at whole place name value =
    let all : texts words ≡ good ++ w ∷ v ∷ l3 = whole ∙ ap (λ (m : Words). good ++ m) (name ∙ ap (λ (m : Words). w ∷ m) value) in
    let pair : texts words ≡ (good ++ w ∷ v ∷ []) ++ l3 = all ∙ sym (append_assoc good (w ∷ v ∷ []) l3) in
    texts_take words (at + 2) ∙ ap (take (at + 2)) pair ∙ take_at (good ++ w ∷ v ∷ []) l3 (at + 2) (length-append good (w ∷ v ∷ []) ∙ ap (λ n. n + 2) place)

pub pair_within : (words : List (String Global)) (good l l2 l3 : Words) (w v : List ℕ) (at : ℕ) → texts words ≡ good ++ l → length good ≡ at → l ≡ w ∷ l2 → l2 ≡ v ∷ l3 → at + 2 ≤ length words
pair_within words good l l2 l3 w v at whole place name value =
    let all : texts words ≡ good ++ w ∷ v ∷ l3 = whole ∙ ap (λ (m : Words). good ++ m) (name ∙ ap (λ (m : Words). w ∷ m) value) in
    let size : length (texts words) ≡ length good + suc (suc (length l3)) = ap length all ∙ length-append good (w ∷ v ∷ l3) in
    omega (arith, size, place, texts_length words)

-- no words are left
pub none_left : (options : List Row) (words : List (String Global)) (n : ℕ) → texts (drop n words) ≡ [] → Fits options (texts (take n words)) → Fits options (texts words)
none_left options words n e f = subst (Fits options) (sym (texts_split words n ∙ ap (λ (m : Words). texts (take n words) ++ m) e ∙ append_nil (texts (take n words)))) f

-- ---- an answer of the rest

pub some_by : (o : Option ℕ) (P Q : ℕ → Type 0) → ((n : ℕ) → P n → Q n) → IfSome o P → IfSome o Q
some_by None P Q f h = h
some_by (Some n) P Q f h = f n h

pub none_by : (o : Option ℕ) (P Q : Type 0) → (P → Q) → IfNone o P → IfNone o Q
none_by None P Q f h = f h
none_by (Some n) P Q f h = h
