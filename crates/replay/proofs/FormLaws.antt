-- The report lines that hold no input.
use Rattle.std.proofs.Common.{◌≡◌, ◌∙◌, sym, refl, subst, ℕ, inl, inr, Bool, true, false, List, [], ◌∷◌, codes, ◌↔◌, length, Result, Ok, Err, IfOk, IsTrue, map, drop, get_or, ◌+◌, ◌<◌}
use Rattle.std.proofs.lemmas.Slice.Eq.{bytes_eq-Decides}
use Rattle.std.specs.Prelude.{bytes_eq}
use Rattle.std.proofs.lemmas.List.{at_drop_more}
use Rattle.cc_base.specs.Paths.{In}
use denote.Ref.{Bor}
use Rattle.report_words.specs.Cuts.{Lacks, CutFirst}
use Rattle.report_words.proofs.Cutting.{first_once, no_first}
use Rattle.replay.specs.declared.forms.Word.{Word}
use Rattle.replay.specs.Tables.{seen_word, seen_form, seen, IsOneOf}
use Rattle.replay.specs.Forms.{WordForm, the, IsWord, AreWords, other_forms, IsOther}

pub apart : (w k : List ℕ) → bytes_eq w k ≡ false → w ≡ k → ⊥
apart w k e s = let t = (bytes_eq-Decides w k).1 s in absurd (cc (e, t))

starts : (w : List ℕ) (g : WordForm) (form : List WordForm) (line a rest : List ℕ) → CutFirst 32 line a rest → AreWords (the w ∷ g ∷ form) line → w ≡ a
starts w g form line a rest c h = let r = first_once 32 line h.0 h.1 a rest h.2 c in sym h.3 ∙ r.0

begins : (w : List ℕ) (g : WordForm) (more form : List WordForm) (line a rest : List ℕ) → form ≡ the w ∷ g ∷ more → CutFirst 32 line a rest → AreWords form line → w ≡ a
begins w g more form line a rest e c h = starts w g more line a rest c (subst (λ f. AreWords f line) e h)

-- a line that begins with a word of none of the forms
pub record IsNoFirst (k : List ℕ) : Type 0 where
  pub spent : bytes_eq (codes "spent") k ≡ false
  pub term : bytes_eq (codes "term") k ≡ false
  pub event : bytes_eq (codes "event") k ≡ false
  pub complete : bytes_eq (codes "complete") k ≡ false
  pub incomplete : bytes_eq (codes "incomplete") k ≡ false
  pub ended : bytes_eq (codes "ended") k ≡ false
  pub replayed : bytes_eq (codes "replayed") k ≡ false
  pub differs : bytes_eq (codes "differs") k ≡ false

pub not_other : (k line rest : List ℕ) → IsNoFirst k → CutFirst 32 line k rest → IsOther line → ⊥
not_other k line rest n c (form, inl e, h) = apart _ k n.spent (begins _ _ _ form line k rest e c h)
not_other k line rest n c (form, inr (inl e), h) = apart _ k n.term (begins _ _ _ form line k rest e c h)
not_other k line rest n c (form, inr (inr (inl e)), h) = apart _ k n.event (begins _ _ _ form line k rest e c h)
not_other k line rest n c (form, inr (inr (inr (inl e))), h) = apart _ k n.complete (begins _ _ _ form line k rest e c h)
not_other k line rest n c (form, inr (inr (inr (inr (inl e)))), h) = apart _ k n.incomplete (begins _ _ _ form line k rest e c h)
not_other k line rest n c (form, inr (inr (inr (inr (inr (inl e))))), h) = apart _ k n.ended (begins _ _ _ form line k rest e c h)
not_other k line rest n c (form, inr (inr (inr (inr (inr (inr (inl e)))))), h) = apart _ k n.replayed (begins _ _ _ form line k rest e c h)
not_other k line rest n c (form, inr (inr (inr (inr (inr (inr (inr (inl e))))))), h) = apart _ k n.differs (begins _ _ _ form line k rest e c h)
not_other k line rest n c (form, inr (inr (inr (inr (inr (inr (inr (inr x))))))), h) = x

pub no_test : IsNoFirst (codes "test")
no_test = record { spent = refl; term = refl; event = refl; complete = refl; incomplete = refl; ended = refl; replayed = refl; differs = refl }

pub no_past : IsNoFirst (codes "past")
no_past = record { spent = refl; term = refl; event = refl; complete = refl; incomplete = refl; ended = refl; replayed = refl; differs = refl }

pub no_stray : IsNoFirst (codes "stray")
no_stray = record { spent = refl; term = refl; event = refl; complete = refl; incomplete = refl; ended = refl; replayed = refl; differs = refl }

pub no_unrun : IsNoFirst (codes "unrun")
no_unrun = record { spent = refl; term = refl; event = refl; complete = refl; incomplete = refl; ended = refl; replayed = refl; differs = refl }

-- a line of one word has no form
one_word : (form : List WordForm) (line : List ℕ) → In form other_forms → Lacks 32 line → AreWords form line → ⊥
one_word form line (inl e) l h = let w = subst (λ f. AreWords f line) e h in no_first 32 line w.0 w.1 l w.2
one_word form line (inr (inl e)) l h = let w = subst (λ f. AreWords f line) e h in no_first 32 line w.0 w.1 l w.2
one_word form line (inr (inr (inl e))) l h = let w = subst (λ f. AreWords f line) e h in no_first 32 line w.0 w.1 l w.2
one_word form line (inr (inr (inr (inl e)))) l h = let w = subst (λ f. AreWords f line) e h in no_first 32 line w.0 w.1 l w.2
one_word form line (inr (inr (inr (inr (inl e))))) l h = let w = subst (λ f. AreWords f line) e h in no_first 32 line w.0 w.1 l w.2
one_word form line (inr (inr (inr (inr (inr (inl e)))))) l h = let w = subst (λ f. AreWords f line) e h in no_first 32 line w.0 w.1 l w.2
one_word form line (inr (inr (inr (inr (inr (inr (inl e))))))) l h = let w = subst (λ f. AreWords f line) e h in no_first 32 line w.0 w.1 l w.2
one_word form line (inr (inr (inr (inr (inr (inr (inr (inl e)))))))) l h = let w = subst (λ f. AreWords f line) e h in no_first 32 line w.0 w.1 l w.2
one_word form line (inr (inr (inr (inr (inr (inr (inr (inr x)))))))) l h = x

pub other_has_blank : (line : List ℕ) → Lacks 32 line → IsOther line → ⊥
other_has_blank line l (form, i, h) = one_word form line i l h

-- ---- words, one after the other

pub more_words : (f g : WordForm) (form : List WordForm) (text a rest : List ℕ) → CutFirst 32 text a rest → IsWord f a → AreWords (g ∷ form) rest → AreWords (f ∷ g ∷ form) text
more_words f g form text a rest c h k = (a, rest, c, h, k)

-- words of a text that is cut at its first blank
pub words_cut : (f : WordForm) (form : List WordForm) (text a rest : List ℕ) → CutFirst 32 text a rest → AreWords (f ∷ form) text → IsWord f a × AreWords form rest
words_cut f [] text a rest c h = absurd (no_first 32 text a rest h.0 c)
words_cut f (g ∷ form) text a rest c h =
    let r = first_once 32 text h.0 h.1 a rest h.2 c in
    (subst (λ t. IsWord f t) r.0 h.3, subst (λ t. AreWords (g ∷ form) t) r.1 h.4)

-- and back
pub words_joined : (f : WordForm) (form : List WordForm) (text a rest : List ℕ) → CutFirst 32 text a rest → IsWord f a → AreWords form rest → AreWords (f ∷ form) text
words_joined f [] text a rest c h k = absurd k
words_joined f (g ∷ form) text a rest c h k = (a, rest, c, h, k)

-- of a text of one word
pub last_word : (f : WordForm) (form : List WordForm) (text : List ℕ) → Lacks 32 text → AreWords (f ∷ form) text → (form ≡ []) × IsWord f text
last_word f [] text l h = (refl, h.1)
last_word f (g ∷ form) text l h = absurd (no_first 32 text h.0 h.1 l h.2)

-- ---- by tests

pub no_word_left : (forms form : List WordForm) (f : WordForm) (text : List ℕ) → forms ≡ f ∷ form → Lacks 32 text → (form ≡ [] → ⊥) → IsTrue false ↔ AreWords forms text
no_word_left forms form f text e l n = (
  (λ q. absurd (cc q)),
  (λ h. let w = last_word f form text l (subst (λ x. AreWords x text) e h) in absurd (n w.0)),
)

pub no_such_word : (b : Bool) (forms form : List WordForm) (f : WordForm) (text a rest : List ℕ) → forms ≡ f ∷ form → CutFirst 32 text a rest → (IsTrue b ↔ IsWord f a) → b ≡ false → IsTrue false ↔ AreWords forms text
no_such_word b forms form f text a rest e c t n = (
  (λ q. absurd (cc q)),
  (λ h. let w = words_cut f form text a rest c (subst (λ x. AreWords x text) e h) in let k = t.1 w.0 in absurd (cc (k, n))),
)

pub more_by : {E : Type 0} (r : Result Bool E) (b : Bool) (forms form : List WordForm) (f : WordForm) (text a rest : List ℕ) → forms ≡ f ∷ form → CutFirst 32 text a rest → (IsTrue b ↔ IsWord f a) → b ≡ true →
    IfOk r (λ q. IsTrue q ↔ AreWords form rest) → IfOk r (λ q. IsTrue q ↔ AreWords forms text)
more_by (Err x) b forms form f text a rest e c t y h = tt
more_by (Ok q) b forms form f text a rest e c t y h = (
  (λ s. subst (λ x. AreWords x text) (sym e) (words_joined f form text a rest c (t.0 y) (h.0 s))),
  (λ w. h.1 (words_cut f form text a rest c (subst (λ x. AreWords x text) e w)).1),
)

pub no_words : (l : List Word) → map seen_word l ≡ [] → length l ≡ 0
no_words [] e = refl
no_words (x ∷ l) e = absurd (cc e)

-- ---- forms, one after the other

has_here : (f : Bor (List Word)) (fs : List (Bor (List Word))) (text : List ℕ) → AreWords (seen_form f) text → IsOneOf (seen (f ∷ fs)) text
has_here f fs text h = (seen_form f, inl refl, h)

has_later : (f : Bor (List Word)) (fs : List (Bor (List Word))) (text : List ℕ) → (AreWords (seen_form f) text → ⊥) → IsOneOf (seen fs) text ↔ IsOneOf (seen (f ∷ fs)) text
has_later f fs text n = ((λ h. (h.0, inr h.1, h.2)), (λ h. later h))
  where
    later : IsOneOf (seen (f ∷ fs)) text → IsOneOf (seen fs) text
    later (form, inl e, h) = absurd (n (subst (λ x. AreWords x text) e h))
    later (form, inr i, h) = (form, i, h)

pub one_here : (fs : List (Bor (List Word))) (i : ℕ) (d : Bor (List Word)) (text : List ℕ) → i < length fs → AreWords (seen_form (get_or fs i d)) text → IsOneOf (seen (drop i fs)) text
one_here fs i d text lt h = subst (λ l. IsOneOf (seen l) text) (sym (at_drop_more (λ l. l) fs i d lt)) (has_here (get_or fs i d) (drop (i + 1) fs) text h)

pub one_later : (fs : List (Bor (List Word))) (i : ℕ) (d : Bor (List Word)) (text : List ℕ) → i < length fs → (AreWords (seen_form (get_or fs i d)) text → ⊥) →
    IsOneOf (seen (drop i fs)) text ↔ IsOneOf (seen fs) text → IsOneOf (seen (drop (i + 1) fs)) text ↔ IsOneOf (seen fs) text
one_later fs i d text lt n h =
    let e = at_drop_more (λ l. l) fs i d lt in
    let k = has_later (get_or fs i d) (drop (i + 1) fs) text n in
    ((λ q. h.0 (subst (λ l. IsOneOf (seen l) text) (sym e) (k.0 q))), (λ q. k.1 (subst (λ l. IsOneOf (seen l) text) e (h.1 q))))
