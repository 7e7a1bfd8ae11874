-- What the code's steps are in the descent of items.
use Rattle.std.proofs.Common.{◌≡◌, ◌⊎◌, inl, inr, ℕ, suc, Bool, true, List, [], ◌∷◌, ◌++◌, Option, Some, None, Result, Ok, Err, refl, sym, ap, ◌∙◌, append_assoc}
use Rattle.std.specs.Result.{IsErr, IsErrAnd}
use Rattle.cc_model.specs.declared.tokens.Token.{Token}
use Rattle.cc_model.specs.declared.tokens.Kind.{Kind}
use Rattle.cc_model.specs.declared.trees.TypeName.{TypeName}
use Rattle.cc_model.specs.declared.trees.Param.{Param}
use Rattle.cc_model.specs.declared.trees.Item.{Item}
use Rattle.cc_model.specs.declared.trees.Program.{Program}
use Rattle.cc_model.specs.Spots.{Spot, start, kind_at, shallow}
use Rattle.cc_model.specs.Reads.{Accepts}
use Rattle.c_expressions.specs.declared.fault.ParseFault.{ParseFault}
use Rattle.c_expressions.specs.declared.fault.ParseFault.TheVariants.{Syntax, TooDeep}
use Rattle.c_expressions.specs.Descent.{Got, Ends}
use Rattle.c_parse.specs.DescentItems.{ItemStart, a_typed, item_at, is_end, add_named, with_names}
use Rattle.c_parse.specs.DescentItems as it
use Rattle.c_parse.specs.Gives.{GivesOnly}
use Rattle.c_expressions.specs.Shown.{ShowsFault}
use Rattle.c_parse.proofs.ItemLaws.{by_item}
use Rattle.c_parse.proofs.Programs.{fault_only}

end_typed : (k j : Option Kind) → is_end k ≡ true → item_at k j ≡ a_typed
unfolding is_end item_at
end_typed None j e = refl
end_typed (Some k) j e = cc

pub item_ends : (tok : ℕ → Option Kind) (fits : ℕ → ℕ → Bool) (s : Spot) {r : Got Item} → is_end (tok s.at) ≡ true → Ends (λ m. it.item_of tok fits m a_typed) s r → Ends (λ m. it.item tok fits m) s r
item_ends tok fits s e h = by_item tok fits s a_typed (end_typed (tok s.at) (tok (suc (suc s.at))) e) h

pub item_goes_on : (tok : ℕ → Option Kind) (fits : ℕ → ℕ → Bool) (s : Spot) (i : ℕ) (q : ItemStart) {r : Got Item} → i ≡ suc (suc s.at) → item_at (tok s.at) (tok i) ≡ q → Ends (λ m. it.item_of tok fits m q) s r → Ends (λ m. it.item tok fits m) s r
item_goes_on tok fits s i q n e h = by_item tok fits s q (ap (λ i. item_at (tok s.at) (tok i)) (sym n) ∙ e) h

-- ---- parameters with names

abbrev pub joined : List Param → Option (List Param) → Option (List Param)
joined l (Some q) = Some (l ++ q)
joined l None = None

pub joined_nil : (o : Option (List Param)) → joined [] o ≡ o
joined_nil (Some q) = refl
joined_nil None = refl

pub joined_on : (l : List Param) (r : TypeName) (n : ℕ) (o : Option (List Param)) → joined l (add_named r (Some n) o) ≡ joined (l ++ record { ty = r; name = n } ∷ []) o
unfolding add_named
joined_on l r n (Some q) = ap (λ x. Some x) (sym (append_assoc l (record { ty = r; name = n } ∷ []) q))
joined_on l r n None = refl

pub joined_none : (l : List Param) (r : TypeName) (o : Option (List Param)) → joined l (add_named r None o) ≡ None
unfolding add_named
joined_none l r (Some q) = refl
joined_none l r None = refl

-- ---- the top

pub exit_only : (tokens : List Token) (r : Result Program ParseFault) (f : ParseFault) → (IsErr r × IsErrAnd r (λ x. x ≡ f)) → ShowsFault (λ n. it.items (kind_at tokens) shallow n) start f → (p : Program) → Accepts tokens p → GivesOnly r p
exit_only tokens (Ok x) f h k p a = absurd h.1
exit_only tokens (Err x) f h k p a = h.1 ∙ fault_only tokens p f k a

pub refuses : (tokens : List Token) (r : Result Program ParseFault) → ((p : Program) → Accepts tokens p → GivesOnly r p) → (k : ℕ) → (r ≡ Err (Syntax k)) ⊎ (r ≡ Err (TooDeep k)) → (p : Program) → Accepts tokens p → ⊥
refuses tokens (Ok x) h k (inl e) p a = absurd (cc e)
refuses tokens (Ok x) h k (inr e) p a = absurd (cc e)
refuses tokens (Err f) h k (inl e) p a = absurd (cc (e, h p a))
refuses tokens (Err f) h k (inr e) p a = absurd (cc (e, h p a))
